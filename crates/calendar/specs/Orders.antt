-- Which of two dates of a calendar comes first.
use Rattle.std.specs.Prelude.{◌≡◌, ℕ, Bool, Some, None, Decides, Option}
use Rattle.years.specs.declared.date.Date.{Date}
use Rattle.years.specs.Dates.{Before}
use Rattle.calendar.specs.Calendars.{Calendars, day_of}

-- the date is some day's
pub record HasDay (s : Calendars) (k : ℕ) (d : Date) : Type 0 where
  pub day : ℕ
  pub is : day_of s k d ≡ Some day

-- of two days' dates the order; none where one is no day's
abbrev pub OrderIs : Calendars → ℕ → Date → Date → Option Bool → Type 0
OrderIs s k a b (Some t) = HasDay s k a × HasDay s k b × Decides t (Before a b)
OrderIs s k a b None = HasDay s k a → HasDay s k b → ⊥
