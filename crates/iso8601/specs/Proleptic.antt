-- The Gregorian years fit together, and a year is guessed from the mean year.
use Rattle.std.specs.Prelude.{◌≡◌, ℕ, zero, suc, ◌+◌, ◌-◌, ◌<◌, ◌≤◌, Bool, true, false, ◌&&◌, min, List, [], ◌∷◌, ℤ, pos, negsuc, ◌+ℤ◌, ◌-ℤ◌, ◌≤ℤ◌, ◌<ℤ◌, nat_le, slice_index, unsigned_abs, refl}
use Rattle.std.proofs.Common.{◌∙◌, ap, not-suc-le-zero, le_of_suc-le-suc, arith}
use Rattle.std.proofs.lemmas.Int.{ints}
use Rattle.std.proofs.lemmas.Bool.{leb-true, and_parts, false≢true}
use Rattle.std.proofs.lemmas.Bool.Decides.{nat_tests}
use Rattle.years.specs.Dates.{Adds}
use Rattle.years.specs.Days.{Fitting, InRange, Near}
use Rattle.iso8601.specs.Gregorian.{leap, february, lengths, start_of, guess, gregorian_start, gregorian_years}
use Rattle.years.proofs.Guesses.{near_by}

-- a year is longer by the leap day
year_adds : (y : ℕ) → 1 ≤ y → start_of (y + 1) ≡ start_of y + (337 + february (leap y))
year_adds y low = grind (arith, nat_tests)

adds : Adds gregorian_years
adds (pos y) low high = let a = year_adds y (omega (arith, ints)) in ap pos (a ∙ omega arith)
adds (negsuc y) low high = absurd low.le

abbrev all_most : List ℕ → Bool
all_most [] = true
all_most (x ∷ xs) = nat_le x 31 && all_most xs

most : (xs : List ℕ) → all_most xs ≡ true → (k : ℕ) → slice_index xs k ≤ 31
most [] t k = omega arith
most (x ∷ xs) t zero = leb-true x 31 (and_parts (nat_le x 31) (all_most xs) t).0
most (x ∷ xs) t (suc k) = most xs (and_parts (nat_le x 31) (all_most xs) t).1 k

short : (b : Bool) (k : ℕ) → slice_index (lengths b) k ≤ 31
short true k = most (lengths true) refl k
short false k = most (lengths false) refl k

-- of the first n
abbrev all_least : ℕ → List ℕ → Bool
all_least zero xs = true
all_least (suc n) [] = false
all_least (suc n) (x ∷ xs) = nat_le 1 x && all_least n xs

least : (n : ℕ) (xs : List ℕ) → all_least n xs ≡ true → (k : ℕ) → k < n → 1 ≤ slice_index xs k
least zero xs t k h = absurd (not-suc-le-zero h)
least (suc n) [] t k h = absurd (false≢true t)
least (suc n) (x ∷ xs) t zero h = leb-true 1 x (and_parts (nat_le 1 x) (all_least n xs) t).0
least (suc n) (x ∷ xs) t (suc k) h = least n xs (and_parts (nat_le 1 x) (all_least n xs) t).1 k (le_of_suc-le-suc h)

long : (b : Bool) (k : ℕ) → k < 12 → 1 ≤ slice_index (lengths b) k
long true k h = least 12 (lengths true) refl k h
long false k h = least 12 (lengths false) refl k h

pub gregorian_fits : Fitting gregorian_years
gregorian_fits = record {
  filled = record { some_month = λ y. omega arith; some_day = λ y m l h. long (leap (unsigned_abs y)) (m - 1) (omega arith) };
  adds = adds;
  few = λ y. omega arith;
  short = λ y m. short (leap (unsigned_abs y)) (m - 1);
  near = omega (arith, ints);
  far = omega (arith, ints);
  origin_valid = record { month_low = omega arith; month_high = omega arith; day_low = omega arith; day_high = omega arith };
  origin_low = omega (arith, ints);
  origin_high = omega (arith, ints);
  some = omega (arith, ints);
  day_one = refl;
  last_day = omega (arith, ints);
  start_low = omega (arith, ints);
  start_high = omega (arith, ints);
}

-- the day lies in year y: the guess is at most one year off
near : (y n : ℕ) → n ≤ 3652059 → 1 ≤ y → start_of y ≤ n → n < start_of (y + 1) → (y ≤ guess n + 1) × (guess n ≤ y + 1)
near y n top low starts ends = let e : min n 3652059 ≡ n = omega arith in rw e (omega arith, omega arith)

pub gregorian_near : (n : ℕ) → InRange n → Near gregorian_years n (pos (guess n))
gregorian_near n r = near_by gregorian_years gregorian_fits n (pos (guess n)) r beside
  where
    beside : (y : ℤ) → pos 1 ≤ℤ y → y <ℤ pos 10000 → gregorian_start y ≤ℤ pos n → pos n <ℤ gregorian_start (y +ℤ pos 1) → ((y -ℤ pos 1) ≤ℤ pos (guess n)) × (pos (guess n) ≤ℤ (y +ℤ pos 1))
    beside (pos y) low high starts ends =
        let b = near y n r.high (omega (arith, ints)) (omega (arith, ints)) (omega (arith, ints)) in (omega (arith, ints), omega (arith, ints))
    beside (negsuc y) low high starts ends = absurd low.le
