-- A month's twin is a month of the other year, and in its own year it is itself.
use Rattle.std.specs.Prelude.{◌≡◌, ℕ, ◌≤◌, ℤ, refl}
use Rattle.std.proofs.Common.{arith}
use Rattle.std.proofs.lemmas.Int.{ints}
use Rattle.years.specs.Days.{Bounded, Twins, YearsLaws}
use Rattle.iso8601.specs.Gregorian.{gregorian, gregorian_years, twin}
use Rattle.iso8601.specs.Proleptic.{gregorian_fits, gregorian_near}

twin_inside : (year : ℤ) (month : ℕ) (other : ℤ) → 1 ≤ month → month ≤ gregorian.months year →
    (1 ≤ twin year month other) × (twin year month other ≤ gregorian.months other)
twin_inside year month other low high = (low, high)

twin_same : (year : ℤ) (month : ℕ) → twin year month year ≡ month
twin_same year month = refl

pub gregorian_twins : Twins gregorian_years
gregorian_twins = record { inside = λ y m z _ _ low high _ _. twin_inside y m z low high; same = λ y m _ _ _ _. twin_same y m }

-- day 1 lies in the first year, and the last day in the last
pub gregorian_bounded : Bounded gregorian_years
gregorian_bounded = record { first = refl; last = omega (arith, ints) }

pub gregorian_laws : YearsLaws gregorian_years
gregorian_laws = record { fitting = gregorian_fits; bounded = gregorian_bounded; twins = gregorian_twins; guessed = gregorian_near }
