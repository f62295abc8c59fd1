-- What the lengths of a year's months alone say: its days and months, whatever the calendar.
use Rattle.std.specs.Prelude.{◌≡◌, ℕ, ◌+◌, ◌-◌, ◌≤◌, ℤ, pos, Some, None, Option, ◌≢◌, slice_index}
use Rattle.years.specs.declared.rule.Year.{Year}
use Rattle.years.specs.Dates.{Shape, days_in}
use Rattle.years.specs.Days.{InRange}

-- the calendar whose every year is this one
abbrev pub alone : Year → Shape
alone r = record { months = λ _. r.months; size = λ _ m. slice_index r.lengths (m - 1) }

-- the days of the first m months of a year
abbrev pub first_days : Year → ℕ → ℕ
first_days r m = days_in (alone r) (pos 0) m

-- the month and the day of the day that comes `rest` days after the first of the year
pub record Stands (r : Year) (rest m d : ℕ) : Type 0 where
  pub month_low : 1 ≤ m
  pub day_low : 1 ≤ d
  pub day_high : d ≤ slice_index r.lengths (m - 1)
  pub is : first_days r (m - 1) + (d - 1) ≡ rest

abbrev pub MonthAnswer : Year → ℕ → Option (ℕ × ℕ) → Type 0
MonthAnswer r rest (Some (m, d)) = Stands r rest m d
MonthAnswer r rest None = first_days r 14 ≤ rest

-- the year has the month, and the month the day
pub record HasDay (r : Year) (m d : ℕ) : Type 0 where
  pub month_low : 1 ≤ m
  pub month_high : m ≤ r.months
  pub day_low : 1 ≤ d
  pub day_high : d ≤ slice_index r.lengths (m - 1)

-- how many days after the first of the year the day of the month comes
abbrev pub IntoAnswer : Year → ℕ → ℕ → Option ℕ → Type 0
IntoAnswer r m d (Some n) = HasDay r m d × (n ≡ first_days r (m - 1) + (d - 1))
IntoAnswer r m d None = HasDay r m d → ⊥

-- a day number in range, if the number z is one
abbrev pub NumberAnswer : ℤ → Option ℕ → Type 0
NumberAnswer z (Some n) = InRange n × (z ≡ pos n)
NumberAnswer z None = (n : ℕ) → InRange n → z ≢ pos n
