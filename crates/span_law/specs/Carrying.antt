-- Carrying an instant by a span.
use Rattle.std.specs.Prelude.{ℕ, Bool, cond, ◌&&◌, ℤ, pos, negsuc, ◌+ℤ◌, Result, ok_or}
use Rattle.timebase.specs.declared.fault.Fault.{Fault}
use Rattle.timebase.specs.declared.fault.Fault.TheVariants.{NoSuchDate}
use Rattle.timebase.specs.declared.span.Span.{Span}
use Rattle.zone.specs.Zones.{Zone}
use Rattle.calendar.specs.Calendars.{Calendar}
use Rattle.local_times.specs.Chains.{◌>>=◌}
use Rattle.local_times.specs.Meeting.{is}
use Rattle.local_times.specs.Locals.{local_day, clock_second, micros_of, met_at, arriving}
use Rattle.span_law.specs.Stepping.{day_on}

-- the instant at which a day shows the clock time of the instant i
abbrev pub met_on : Zone → ℤ → ℤ → Result ℤ Fault
met_on zone i day = met_at zone day (clock_second zone i) (micros_of i)

abbrev pub no_date_parts : Span → Bool
no_date_parts s = is s.years (pos 0) && (is s.months (pos 0) && (is s.weeks (pos 0) && is s.days (pos 0)))

-- the number, where it is not below nought
abbrev pub natural : ℤ → ℕ
natural (pos n) = n
natural (negsuc n) = 0

-- the instant that the span leads to from the instant i
abbrev pub carried : Zone → Calendar → ℤ → Span → Result ℤ Fault
carried zone c i s =
    cond (no_date_parts s)
    (arriving zone (i +ℤ s.time))
    (ok_or (day_on c (natural (local_day zone i)) s) NoSuchDate >>= λ day.
    met_on zone i day >>= λ met.
    arriving zone (met +ℤ s.time))

-- the same of any instant: it must be one of a mark of this zone
abbrev pub carry_answer : Zone → Calendar → ℤ → Span → Result ℤ Fault
carry_answer zone c i s = arriving zone i >>= λ _. carried zone c i s
