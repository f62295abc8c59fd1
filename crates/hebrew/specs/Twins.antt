-- A month's twin is a month of the other year, and in its own year it is itself.
use Rattle.std.specs.Prelude.{◌≡◌, ℕ, ◌≤◌, Bool, true, false, ℤ, unsigned_abs, refl}
use Rattle.std.proofs.Common.{arith}
use Rattle.std.proofs.lemmas.Bool.Decides.{nat_tests}
use Rattle.std.proofs.lemmas.Int.{ints}
use Rattle.years.specs.Days.{Bounded, Twins, YearsLaws}
use Rattle.hebrew.specs.Calendar.{leap, months_of, hebrew, hebrew_years, new_year, year_start, moved, twin}
use Rattle.hebrew.specs.Tishri.{hebrew_fits, hebrew_near}

inside : (a b : Bool) (m : ℕ) → 1 ≤ m → m ≤ months_of a → (1 ≤ moved a b m) × (moved a b m ≤ months_of b)
inside true true m low high = (low, high)
inside true false m low high = grind (arith, nat_tests)
inside false true m low high = grind (arith, nat_tests)
inside false false m low high = (low, high)

same : (b : Bool) (m : ℕ) → moved b b m ≡ m
same true m = refl
same false m = refl

twin_inside : (year : ℤ) (month : ℕ) (other : ℤ) → 1 ≤ month → month ≤ hebrew.months year →
    (1 ≤ twin year month other) × (twin year month other ≤ hebrew.months other)
twin_inside year month other low high = inside (leap (unsigned_abs year)) (leap (unsigned_abs other)) month low high

twin_same : (year : ℤ) (month : ℕ) → twin year month year ≡ month
twin_same year month = same (leap (unsigned_abs year)) month

pub hebrew_twins : Twins hebrew_years
hebrew_twins = record { inside = λ y m z _ _ low high _ _. twin_inside y m z low high; same = λ y m _ _ _ _. twin_same y m }

-- day 1 lies in the first year, and the last day in the last
pub hebrew_bounded : Bounded hebrew_years
unfolding year_start new_year
hebrew_bounded = record { first = refl; last = omega (arith, ints) }

pub hebrew_laws : YearsLaws hebrew_years
hebrew_laws = record { fitting = hebrew_fits; bounded = hebrew_bounded; twins = hebrew_twins; guessed = hebrew_near }
