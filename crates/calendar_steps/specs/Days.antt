-- The day that a span leads to, and the date parts between two days, of any numbers.
use Rattle.std.specs.Prelude.{ℕ, Bool, cond, ◌&&◌, ℤ, pos, Some, None, Option, int_div, int_rem, nat_le}
use Rattle.timebase.specs.declared.span.Span.{Span}
use Rattle.calendar.specs.Calendars.{Calendar, last_day}
use Rattle.span_law.specs.declared.unit.Unit.{Unit as Measure}
use Rattle.span_law.specs.declared.way.Way.{Way}
use Rattle.span_law.specs.declared.way.Way.TheVariants.{Onward as onward, Back as back}
use Rattle.span_law.specs.Stepping.{day_on}
use Rattle.span_law.specs.Measuring.{parts_by, span_of}

-- whether there is a day of that number
abbrev pub is_day : ℕ → Bool
is_day n = nat_le 1 n && nat_le n last_day

-- whether the second day is reached from the first in the direction
abbrev pub leads : Way → ℕ → ℕ → Bool
leads onward d x = nat_le d x
leads back d x = nat_le x d

-- the day number after the date parts of a span, where the day itself is there
abbrev pub day_after : Calendar → ℕ → Span → Option ℤ
day_after c day s = cond (is_day day) (day_on c day s) None

-- days as weeks and days, both with the sign of the number
abbrev pub weeks_of : ℤ → Span
weeks_of days = record { years = pos 0; months = pos 0; weeks = int_div days (pos 7); days = int_rem days (pos 7); time = pos 0 }

-- the date parts from one day to another with no time, where both are days and the second lies that way
abbrev pub dates_between : Calendar → Way → ℕ → ℕ → Measure → Option Span
dates_between c way start end unit =
    cond (is_day start && (is_day end && leads way start end)) (Some (span_of way (parts_by c way start end unit) (pos 0))) None
