-- Days with their dates, and the order of days and of months.
use Rattle.std.specs.Prelude.{◌≡◌, ◌≤◌, ◌≤ℤ◌}
use Rattle.calendar.specs.Calendars.{Calendar, last_day}
use Rattle.span_law.specs.declared.way.Way.{Way}
use Rattle.span_law.specs.declared.way.Way.TheVariants.{Onward as onward, Back as back}
use Rattle.span_law.specs.declared.year_month.YearMonth.{YearMonth}
use Rattle.span_law.specs.Standing.{There, Leads}
use Rattle.calendar_steps.specs.declared.dated.Dated.{Dated}

-- a day number with its date, which the calendar has
pub record IsDated (c : Calendar) (d : Dated) : Type 0 where
  pub first : 1 ≤ d.number
  pub last : d.number ≤ last_day
  pub is : d.date ≡ c.date d.number
  pub lies : There c d.date.year d.date.month d.date.day

-- two days, the second reached from the first in the direction
pub record Between (c : Calendar) (way : Way) (from to : Dated) : Type 0 where
  pub start : IsDated c from
  pub end : IsDated c to
  pub leads : Leads way from.number to.number

-- the month p is not after the month q
pub record NotAfter (p q : YearMonth) : Type 0 where
  pub years : p.year ≤ℤ q.year
  pub months : p.year ≡ q.year → p.month ≤ q.month

-- the same in a direction
abbrev pub Ordered : Way → YearMonth → YearMonth → Type 0
Ordered onward p q = NotAfter p q
Ordered back p q = NotAfter q p
