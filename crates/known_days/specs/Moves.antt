-- Known moves over the zones and calendars of the board: what local times meet in a zone whose clock goes on and back again, and
-- spans that are carried and measured.
use Rattle.std.specs.Prelude.{◌≡◌, ℕ, ◌+◌, ◌*◌, List, ℤ, pos, ◌*ℤ◌, Ok, codes}
use Rattle.timebase.specs.declared.span.Span.{Span}
use Rattle.calendar.specs.Calendars.{Calendar, Bears as BearsCalendar}
use Rattle.zone.specs.Zones.{Zone, Bears}
use Rattle.local_times.specs.Locals.{count_of, met_at}
use Rattle.span_law.specs.declared.unit.Unit.TheVariants.{Year, Day}
use Rattle.span_law.specs.Carrying.{carry_answer}
use Rattle.span_law.specs.Measuring.{measure_answer}
use Rattle.board_sources.specs.Sources.{board_zones, board_calendars}
use Rattle.known_days.specs.Days.{GregorianDay}

-- the instant at which a second begins
abbrev pub at_second : ℕ → ℤ
at_second s = pos (s * 1000000)

-- the instant at which a day begins in UTC
abbrev pub at_day : ℕ → ℤ
at_day n = count_of (pos n) 0 *ℤ pos 1000000

-- a span of years, months, days, hours and minutes
abbrev pub span : ℕ → ℕ → ℕ → ℕ → ℕ → Span
span years months days hours minutes = record { years = pos years; months = pos months; weeks = pos 0; days = pos days; time = at_second (hours * 3600 + minutes * 60) }

-- day n is the date y-m-d, and the zone meets that clock time of it at second s
pub record MetAt (zone : Zone) (n y m d hours minutes s : ℕ) : Type 0 where
  pub date : GregorianDay n y m d
  pub met : met_at zone (pos n) (hours * 3600 + minutes * 60) 0 ≡ Ok (at_second s)

-- the board's own calendars and zones, whatever its two files hold
abbrev pub gregorian_calendar : Calendar
gregorian_calendar = board_calendars.calendar 0

abbrev pub hebrew_calendar : Calendar
hebrew_calendar = board_calendars.calendar 1

module _ (one two : List ℕ) where
  abbrev pub utc : Zone
  utc = (board_zones one two).value 0

  abbrev pub test_h : Zone
  test_h = (board_zones one two).value 1

  pub record KnownMoves : Type 0 where
    pub gregorian_there : BearsCalendar board_calendars 0 (codes "iso8601")
    pub hebrew_there : BearsCalendar board_calendars 1 (codes "hebrew")
    pub utc_there : Bears (board_zones one two) 0 (codes "UTC")
    pub test_h_there : Bears (board_zones one two) 1 (codes "Test/H")
    -- the clock goes on from 14:46:40 to 15:46:40, so that no second shows 15:00: the offset from before the gap meets it
    pub skipped : MetAt test_h 719174 1970 1 12 15 0 1000800
    -- the clock goes back from 05:33:20 to 04:33:20, so that two seconds show 05:00, this one and 2,001,600: the first meets it
    pub repeated : MetAt test_h 719186 1970 1 24 5 0 1998000
    -- from the second 05:00 of that day to 04:30 of the next it is not yet a day
    pub short_of_a_day : measure_answer test_h gregorian_calendar Day (at_second 2001600) (at_second 2086200) ≡ Ok (span 0 0 0 23 30)
    -- from 05:20 of the day before, a day leads to the first 05:20, and from there it is 40 minutes to the second 05:00
    pub over_a_day : measure_answer test_h gregorian_calendar Day (at_second 1912800) (at_second 2001600) ≡ Ok (span 0 0 1 0 40)
    -- 2024-03-10 is Hebrew 5784-6-30; a year on, the day is cut to the last of 5785-6, and that is 2025-03-29
    pub carried_a_year : carry_answer utc hebrew_calendar (at_day 738955) (span 1 0 0 0 0) ≡ Ok (at_day 739339)
    -- yet no year is measured between the two, nor a thirteenth month, since measuring compares the day uncut, and 5785-6-30 is past
    -- 5785-6-29: twelve months lead to 5785-5-30, and 29 days are left
    pub measured_uncut : measure_answer utc hebrew_calendar Year (at_day 738955) (at_day 739339) ≡ Ok (span 0 12 29 0 0)
