-- The Hebrew years fit together, and a year is guessed from the mean year.
use Rattle.std.specs.Prelude.{◌≡◌, ℕ, zero, suc, ◌+◌, ◌-◌, ◌*◌, ◌<◌, ◌≤◌, Bool, true, false, ◌&&◌, min, T, ℤ, pos, negsuc, ◌+ℤ◌, ◌-ℤ◌, ◌≤ℤ◌, ◌<ℤ◌, nat_le, unsigned_abs, refl}
use Rattle.std.proofs.Common.{◌∙◌, ap, arith, leb→le}
use Rattle.std.proofs.lemmas.Int.{ints}
use Rattle.std.proofs.lemmas.Bool.Decides.{nat_tests}
use Rattle.years.specs.Dates.{days_in, Adds}
use Rattle.years.specs.Days.{Fitting, InRange, Near}
use Rattle.hebrew.specs.Calendar.{new_year, year_start, leap, length_of_year, months_of, month_length, hebrew, hebrew_start, guess, hebrew_years}
use Rattle.years.proofs.Guesses.{near_by}
use Rattle.hebrew.specs.Tables.{every, within, both_left, both_right}

-- the lengths that a year can have
abbrev allowed : Bool → ℕ → Bool
allowed false n = nat_le 353 n && nat_le n 355
allowed true n = nat_le 383 n && nat_le n 385

-- a year from day `here` up to day `next` lies where the guess expects it
abbrev not_late : ℕ → ℕ → Bool
not_late y here = nat_le (146099 * y + 400 * 1373427) (400 * here + (400 * 475 + 146099 * 3761))

abbrev not_early : ℕ → ℕ → Bool
not_early y next = nat_le (400 * next + (400 * 474 + 146099 * 3758 + 1)) (146099 * y + 400 * 1373427)

abbrev right_between : ℕ → ℕ → ℕ → Bool
right_between y here next = allowed (leap y) (next - here) && (not_late y here && not_early y next)

abbrev right : ℕ → Bool
right y = right_between y (year_start y) (year_start (y + 1))

-- computed for all 10,000 years
all : T (every right 3761 10000)
unfolding year_start new_year
all = tt

pub record Right (y : ℕ) : Type 0 where
  pub lengths : T (allowed (leap y) (length_of_year y))
  pub late : 146099 * y + 549370800 ≤ 400 * year_start y + 549668339
  pub early : 400 * year_start (y + 1) + 549229643 ≤ 146099 * y + 549370800

pub right_year : (y : ℕ) → 3761 ≤ y → y < 13761 → Right y
right_year y low high =
    let t = within right 3761 10000 all y low high in
    let a = both_left (allowed (leap y) (length_of_year y)) (not_late y (year_start y) && not_early y (year_start (y + 1))) t in
    let b = both_right (allowed (leap y) (length_of_year y)) (not_late y (year_start y) && not_early y (year_start (y + 1))) t in
    record { lengths = a; late = leb→le _ _ (both_left (not_late y (year_start y)) (not_early y (year_start (y + 1))) b); early = leb→le _ _ (both_right (not_late y (year_start y)) (not_early y (year_start (y + 1))) b) }

-- the months of a year of an allowed length add up to it
abbrev months_add : Bool → ℕ → ℕ → ℕ
months_add b n zero = 0
months_add b n (suc m) = months_add b n m + month_length b n (suc m)

common : (n : ℕ) → 353 ≤ n → n ≤ 355 → months_add false n 12 ≡ n
common n low high = grind (arith, nat_tests)

leap_year : (n : ℕ) → 383 ≤ n → n ≤ 385 → months_add true n 13 ≡ n
leap_year n low high = grind (arith, nat_tests)

add_up : (b : Bool) (n : ℕ) → T (allowed b n) → months_add b n (months_of b) ≡ n
add_up true n t = leap_year n (leb→le _ _ (both_left (nat_le 383 n) (nat_le n 385) t)) (leb→le _ _ (both_right (nat_le 383 n) (nat_le n 385) t))
add_up false n t = common n (leb→le _ _ (both_left (nat_le 353 n) (nat_le n 355) t)) (leb→le _ _ (both_right (nat_le 353 n) (nat_le n 355) t))

some_days : (b : Bool) (n : ℕ) → T (allowed b n) → (0 < n) × (n ≤ 385)
some_days true n t =
    let l = leb→le 383 n (both_left (nat_le 383 n) (nat_le n 385) t) in
    let h = leb→le n 385 (both_right (nat_le 383 n) (nat_le n 385) t) in
    (omega arith, omega arith)
some_days false n t =
    let l = leb→le 353 n (both_left (nat_le 353 n) (nat_le n 355) t) in
    let h = leb→le n 355 (both_right (nat_le 353 n) (nat_le n 355) t) in
    (omega arith, omega arith)

pub year_days : (y : ℕ) → 3761 ≤ y → y < 13761 → (0 < length_of_year y) × (length_of_year y ≤ 385)
year_days y low high = some_days (leap y) (length_of_year y) (right_year y low high).lengths

same : (y m : ℕ) → days_in hebrew (pos y) m ≡ months_add (leap y) (length_of_year y) m
same y zero = refl
same y (suc m) = ap (λ n. n + month_length (leap y) (length_of_year y) (suc m)) (same y m)

pub days_right : (y : ℕ) → 3761 ≤ y → y < 13761 → days_in hebrew (pos y) (hebrew.months (pos y)) ≡ length_of_year y
days_right y low high =
    same y (months_of (leap y)) ∙ add_up (leap y) (length_of_year y) (right_year y low high).lengths

adds : Adds hebrew_years
adds (pos y) low high =
    let a = days_right y (omega (arith, ints)) (omega (arith, ints)) in
    let p = year_days y (omega (arith, ints)) (omega (arith, ints)) in
    omega (arith, ints)
adds (negsuc y) low high = absurd low.le

few : (b : Bool) → (1 ≤ months_of b) × (months_of b ≤ 14)
few true = (omega arith, omega arith)
few false = (omega arith, omega arith)

small : (b : Bool) (n m : ℕ) → (1 ≤ month_length b n m) × (month_length b n m ≤ 31)
small b n m = grind (arith, nat_tests)

pub hebrew_fits : Fitting hebrew_years
unfolding year_start new_year
hebrew_fits = record {
  filled = record { some_month = λ y. (few (leap (unsigned_abs y))).0; some_day = λ y m _ _. (small (leap (unsigned_abs y)) (length_of_year (unsigned_abs y)) m).0 };
  adds = adds;
  few = λ y. (few (leap (unsigned_abs y))).1;
  short = λ y m. (small (leap (unsigned_abs y)) (length_of_year (unsigned_abs y)) m).1;
  near = omega (arith, ints);
  far = omega (arith, ints);
  origin_valid = record { month_low = omega arith; month_high = omega arith; day_low = omega arith; day_high = omega arith };
  origin_low = omega (arith, ints);
  origin_high = omega (arith, ints);
  some = omega (arith, ints);
  day_one = refl;
  last_day = omega (arith, ints);
  start_low = omega (arith, ints);
  start_high = omega (arith, ints);
}

-- the day lies in year y: the guess is at most one year off
near : (y n : ℕ) → n ≤ 3652059 → Right y → 3761 ≤ y → year_start y ≤ n + 1373427 → n + 1373427 < year_start (y + 1) → (y ≤ guess n + 1) × (guess n ≤ y + 1)
near y n top r low starts ends = let e : min n 3652059 ≡ n = omega arith in rw e (omega arith, omega arith)

pub hebrew_near : (n : ℕ) → InRange n → Near hebrew_years n (pos (guess n))
hebrew_near n r = near_by hebrew_years hebrew_fits n (pos (guess n)) r beside
  where
    beside : (y : ℤ) → pos 3761 ≤ℤ y → y <ℤ pos 13761 → hebrew_start y ≤ℤ pos n → pos n <ℤ hebrew_start (y +ℤ pos 1) → ((y -ℤ pos 1) ≤ℤ pos (guess n)) × (pos (guess n) ≤ℤ (y +ℤ pos 1))
    beside (pos y) low high starts ends =
        let right = right_year y (omega (arith, ints)) (omega (arith, ints)) in
        let b = near y n r.high right (omega (arith, ints)) (omega (arith, ints)) (omega (arith, ints)) in
        (omega (arith, ints), omega (arith, ints))
    beside (negsuc y) low high starts ends = absurd low.le
