-- The year in which a day lies.
use Rattle.std.specs.Prelude.{◌≡◌, ℕ, ℤ, pos, ◌+ℤ◌, ◌≤ℤ◌, ◌<ℤ◌, Some, None, Option}
use Rattle.years.specs.declared.rule.Year.{Year}
use Rattle.years.specs.Dates.{Years}
use Rattle.years.specs.Days.{InRange, Near}
use Rattle.years.specs.Rules.{year_of, year_in}

-- day n lies in year y
pub record Lies (ys : Years) (n : ℕ) (y : ℤ) : Type 0 where
  pub from : ys.first ≤ℤ y
  pub upto : y <ℤ ys.past
  pub low : ys.start y ≤ℤ pos n
  pub high : pos n <ℤ ys.start (y +ℤ pos 1)

-- a year of the calendar, and for a day in range one beside the day's year if not that
pub record Beside (ys : Years) (n : ℕ) (y : ℤ) : Type 0 where
  pub from : ys.first ≤ℤ y
  pub upto : y <ℤ ys.past
  pub near : InRange n → Near ys n y

-- the year y with its number
abbrev pub LabelAnswer : Years → ℤ → Option (ℤ × Year) → Type 0
LabelAnswer ys y (Some (z, r)) = (z ≡ y) × (Some r ≡ year_in ys y)
LabelAnswer ys y None = None ≡ year_in ys y

-- the year of day n with its number
abbrev pub PlaceAnswer : Years → ℕ → Option (ℤ × Year) → Type 0
PlaceAnswer ys n (Some (y, r)) = InRange n × Lies ys n y × (r ≡ year_of ys y)
PlaceAnswer ys n None = InRange n → ⊥
