-- A year on over the Hebrew calendar.
use Rattle.std.proofs.Common.{◌≡◌, ℕ, ℤ, pos, ◌+ℤ◌, ◌*ℤ◌, ◌≤ℤ◌, Some, Ok, Option, Result, refl, ap, ◌∙◌, arith}
use Rattle.std.proofs.lemmas.Int.{ints}
use Rattle.timebase.specs.declared.fault.Fault.{Fault}
use Rattle.timebase.specs.Splits.{floor_quotient, floor_rest}
use Rattle.years.specs.declared.date.Date.{Date}
use Rattle.hebrew.specs.Calendar.{year_start, new_year, hebrew_years}
use Rattle.hebrew.specs.Twins.{hebrew_laws}
use Rattle.zone.specs.Zones.{is_blank, offset}
use Rattle.calendar.specs.Calendars.{Calendar, CalendarLaws}
use Rattle.calendar.specs.Singles.{calendar_of}
use Rattle.calendar.specs.SingleLaws.{calendar_laws}
use Rattle.local_times.specs.Chains.{◌>>=◌}
use Rattle.local_times.specs.Locals.{second_of, met_at, count_of, Known}
use Rattle.span_law.specs.declared.way.Way.TheVariants.{Onward as onward}
use Rattle.span_law.specs.Stepping.{and_then, months_on, year_on, cut, month_day_on, in_days, day_on}
use Rattle.span_law.specs.Carrying.{met_on, natural, carried, carry_answer}
use Rattle.span_law.proofs.Carries.{arriving_known, carried_some}
use Rattle.known_days.specs.Days.{dated}
use Rattle.known_days.specs.Moves.{at_day, span}
use Rattle.known_days.proofs.Days.{hebrew_days}
use Rattle.known_days.proofs.Zones.{utc, told_utc}
use Rattle.known_days.proofs.Meetings.{met_utc}
use Rattle.known_days.proofs.Reaching.{At}

abbrev pub hebrew_calendar : Calendar
hebrew_calendar = calendar_of hebrew_years

pub laws : CalendarLaws hebrew_calendar
laws = calendar_laws hebrew_years hebrew_laws

pub from : hebrew_calendar.date 738955 ≡ dated 5784 6 30
from = hebrew_days.march_2024.is

pub to : hebrew_calendar.date 739339 ≡ dated 5785 6 29
to = hebrew_days.march_2025.is

pub known_utc : (i : ℤ) → pos 0 ≤ℤ i → i ≤ℤ pos 2000000000000000 → Known utc i
known_utc i l h = record { low = omega (arith, ints); high = omega (arith, ints); sure = ap is_blank (told_utc (second_of i)) }

pub start : At utc (at_day 738955) 738955 0 0
start =
    let ahead : offset (utc (pos 1710028800)) ≡ pos 0 = ap offset (told_utc (pos 1710028800)) in
    record {
      known = known_utc (at_day 738955) (omega (arith, ints)) (omega (arith, ints));
      day_is = ap (λ (o : ℤ). floor_quotient (pos 1710028800 +ℤ o) 86400 +ℤ pos 719163) ahead;
      clock_is = ap (λ (o : ℤ). floor_rest (pos 1710028800 +ℤ o) 86400) ahead;
      micros_is = refl;
      day_one = omega arith;
    }

-- ── carried by a year ──

month_day : month_day_on hebrew_calendar 738955 (pos 1) (pos 0) ≡ Some 739339
unfolding month_day_on year_on months_on year_start new_year
month_day = ap (λ (d : Date). and_then (year_on hebrew_calendar d (pos 1)) (λ p. and_then (months_on hebrew_calendar onward 0 p) (λ q. hebrew_calendar.number (cut hebrew_calendar d.day q)))) from

on_day : day_on hebrew_calendar 738955 (span 1 0 0 0 0) ≡ Some (pos 739339)
unfolding day_on
on_day = ap (λ (o : Option ℕ). and_then o (λ n. in_days (pos n +ℤ ((pos 7 *ℤ pos 0) +ℤ pos 0)))) month_day

met_there : met_on utc (at_day 738955) (pos 739339) ≡ Ok (at_day 739339)
met_there =
    ap (λ (k : ℕ). met_at utc (pos 739339) k 0) start.clock_is
    ∙ ap (λ (r : Result ℤ Fault). r >>= λ s. Ok ((s *ℤ pos 1000000) +ℤ pos 0)) (met_utc (count_of (pos 739339) 0))

pub carried_a_year : carry_answer utc hebrew_calendar (at_day 738955) (span 1 0 0 0 0) ≡ Ok (at_day 739339)
carried_a_year =
    ap (λ (o : Result ℤ Fault). o >>= λ _. carried utc hebrew_calendar (at_day 738955) (span 1 0 0 0 0)) (arriving_known utc (at_day 738955) start.known)
    ∙ carried_some utc hebrew_calendar (at_day 738955) (span 1 0 0 0 0) (pos 739339) (at_day 739339) refl (ap (λ (z : ℤ). day_on hebrew_calendar (natural z) (span 1 0 0 0 0)) start.day_is ∙ on_day) met_there
    ∙ arriving_known utc (at_day 739339) (known_utc (at_day 739339) (omega (arith, ints)) (omega (arith, ints)))
