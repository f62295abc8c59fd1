-- Months and days that are there, and where a day lies from another.
use Rattle.std.specs.Prelude.{ℕ, ◌≤◌, ℤ, ◌≤ℤ◌}
use Rattle.calendar.specs.Calendars.{Calendar}
use Rattle.span_law.specs.declared.way.Way.{Way}
use Rattle.span_law.specs.declared.way.Way.TheVariants.{Onward as onward, Back as back}

-- a month that the calendar has
pub record Stands (c : Calendar) (y : ℤ) (m : ℕ) : Type 0 where
  pub low : c.first ≤ℤ y
  pub high : y ≤ℤ c.last
  pub one : 1 ≤ m
  pub most : m ≤ c.months y
  pub few : m ≤ 14

-- a day that its month has
pub record There (c : Calendar) (y : ℤ) (m d : ℕ) : Type 0 where
  pub stands : Stands c y m
  pub one : 1 ≤ d
  pub most : d ≤ c.size y m
  pub few : d ≤ 31

-- x is reached from d in the direction
abbrev pub Leads : Way → ℕ → ℕ → Type 0
Leads onward d x = d ≤ x
Leads back d x = x ≤ d
