-- Measuring the span from one instant to another.
use Rattle.std.specs.Prelude.{ℕ, zero, suc, ◌/◌, ◌%◌, Bool, true, false, cond, ℤ, pos, ◌+ℤ◌, ◌-ℤ◌, Some, None, Ok, Err, Option, Result, int_le, int_lt, nat_le, nat_lt, unsigned_abs}
use Rattle.timebase.specs.declared.fault.Fault.{Fault}
use Rattle.timebase.specs.declared.fault.Fault.TheVariants.{NoSuchDate}
use Rattle.timebase.specs.declared.span.Span.{Span}
use Rattle.timebase.specs.Searches.{most_to}
use Rattle.timebase.specs.Spans.{part_limit}
use Rattle.zone.specs.Zones.{Zone}
use Rattle.years.specs.declared.date.Date.{Date}
use Rattle.calendar.specs.Calendars.{Calendar, last_day, within}
use Rattle.local_times.specs.Chains.{◌>>=◌}
use Rattle.local_times.specs.Meeting.{is}
use Rattle.local_times.specs.Locals.{second_of, local_day, known_at, arriving}
use Rattle.span_law.specs.declared.unit.Unit.{Unit as Measure}
use Rattle.span_law.specs.declared.unit.Unit.TheVariants.{Year, Month, Week, Day, Hour}
use Rattle.span_law.specs.declared.way.Way.{Way}
use Rattle.span_law.specs.declared.way.Way.TheVariants.{Onward as onward, Back as back}
use Rattle.span_law.specs.declared.year_month.YearMonth.{YearMonth}
use Rattle.span_law.specs.Stepping.{signed, and_then, months_on, year_on, month_day_on}
use Rattle.span_law.specs.Carrying.{met_on, natural}

abbrev pub way_between : ℤ → ℤ → Way
way_between a b = cond (int_lt b a) back onward

abbrev pub not_past : Way → ℤ → ℤ → Bool
not_past onward x limit = int_le x limit
not_past back x limit = int_le limit x

-- dates in the order of their year, month and day
abbrev pub date_le : ℤ → ℕ → ℕ → ℤ → ℕ → ℕ → Bool
date_le y m d y' m' d' =
    cond (int_lt y y') true (cond (int_lt y' y) false (cond (nat_lt m m') true (cond (nat_lt m' m) false (nat_le d d'))))

abbrev pub date_not_past : Way → YearMonth → ℕ → Date → Bool
date_not_past onward p day x = date_le p.year p.month day x.year x.month x.day
date_not_past back p day x = date_le x.year x.month x.day p.year p.month day

abbrev pub result_not_past : Way → Result ℤ Fault → ℤ → Bool
result_not_past way (Ok r) b = not_past way r b
result_not_past way (Err e) b = false

-- what is there and does not pass b
abbrev pub before_it : Way → ℤ → Result ℤ Fault → Option ℤ
before_it way b (Ok r) = cond (not_past way r b) (Some r) None
before_it way b (Err e) = None

-- how far b lies from a, in a direction
abbrev pub toward : Way → ℤ → ℤ → ℤ
toward onward a b = b -ℤ a
toward back a b = a -ℤ b

-- the date parts of a span, signs aside
pub record Parts : Type 0 where
  pub years : ℕ
  pub months : ℕ
  pub weeks : ℕ
  pub days : ℕ

-- from the day number `start` to the day number `end`, in a direction
module _ (c : Calendar) (way : Way) (start : ℕ) (end : ℕ) where
  -- whether the start's day of that month, uncut, is there and not past the end
  abbrev pub fits_before : Option YearMonth → Bool
  fits_before (Some p) = date_not_past way p (c.date start).day (c.date end)
  fits_before None = false

  -- the most years after which the start's day, uncut, is not past the end
  unfoldable pub years_apart : ℕ
  years_apart = most_to (λ n. fits_before (year_on c (c.date start) (signed way n))) part_limit

  -- after those years the most months, likewise
  unfoldable pub months_apart : ℕ → ℕ
  months_apart years = most_to (λ n. fits_before (and_then (year_on c (c.date start) (signed way years)) (months_on c way n))) part_limit

  abbrev pub distance : Option ℕ → ℕ
  distance (Some n) = unsigned_abs (pos end -ℤ pos n)
  distance None = 0

  -- the days left after the years and months, the day cut to the month's length
  unfoldable pub days_left : ℕ → ℕ → ℕ
  days_left years months = distance (month_day_on c start (signed way years) (signed way months))

  -- after the years given, the months and the days
  abbrev pub parts_after : ℕ → Parts
  parts_after years = record { years = years; months = months_apart years; weeks = 0; days = days_left years (months_apart years) }

  -- all the days
  abbrev pub gap : ℕ
  gap = unsigned_abs (pos end -ℤ pos start)

  abbrev pub parts_by : Measure → Parts
  parts_by Year = parts_after years_apart
  parts_by Month = parts_after 0
  parts_by Week = record { years = 0; months = 0; weeks = gap / 7; days = gap % 7 }
  parts_by Day = record { years = 0; months = 0; weeks = 0; days = gap }
  parts_by Hour = record { years = 0; months = 0; weeks = 0; days = 0 }

-- from the instant a, in a direction
module _ (zone : Zone) (a : ℤ) (way : Way) where
  abbrev pub far_day : ℕ → ℤ
  far_day n = local_day zone a +ℤ signed way n

  -- the reach of the day n days off: a itself on its own day, and on another the instant at which it shows a's clock time
  unfoldable pub reach : ℕ → Result ℤ Fault
  reach zero = Ok a
  reach (suc n) = cond (within (pos 1) (pos last_day) (far_day (suc n))) (met_on zone a (far_day (suc n))) (Err NoSuchDate)

  -- how many days off lies the farthest day whose reach is there and does not pass b
  unfoldable pub days_apart : ℤ → ℕ
  days_apart b = most_to (λ n. result_not_past way (reach n) b) last_day

  abbrev pub start_day : ℕ
  start_day = natural (local_day zone a)

abbrev pub span_of : Way → Parts → ℤ → Span
span_of way p time =
    record { years = signed way p.years; months = signed way p.months; weeks = signed way p.weeks; days = signed way p.days; time = time }

module _ (zone : Zone) (a : ℤ) (way : Way) (b : ℤ) where
  abbrev pub end_day : ℕ
  end_day = natural (far_day zone a way (days_apart zone a way b))

  -- the time from a day's reach to b
  abbrev pub time_from : Result ℤ Fault → ℤ
  time_from (Ok r) = b -ℤ r
  time_from (Err e) = pos 0

  module _ (c : Calendar) where
    abbrev pub measured_dates : Measure → Span
    measured_dates unit = span_of way (parts_by c way (start_day zone a way) end_day unit) (time_from (reach zone a way (days_apart zone a way b)))

    abbrev pub measured_by : Measure → Span
    measured_by Year = measured_dates Year
    measured_by Month = measured_dates Month
    measured_by Week = measured_dates Week
    measured_by Day = measured_dates Day
    measured_by Hour = record { years = pos 0; months = pos 0; weeks = pos 0; days = pos 0; time = b -ℤ a }

abbrev pub no_span : Span
no_span = record { years = pos 0; months = pos 0; weeks = pos 0; days = pos 0; time = pos 0 }

-- the span from the instant a to the instant b, over a's zone and calendar
abbrev pub measured : Zone → Calendar → Measure → ℤ → ℤ → Result Span Fault
measured zone c unit a b = known_at b (zone (second_of b)) >>= λ _. Ok (cond (is a b) no_span (measured_by zone a (way_between a b) b c unit))

-- the same of any two instants: both must be instants of marks of this zone
abbrev pub measure_answer : Zone → Calendar → Measure → ℤ → ℤ → Result Span Fault
measure_answer zone c unit a b = arriving zone a >>= λ _. arriving zone b >>= λ _. measured zone c unit a b
