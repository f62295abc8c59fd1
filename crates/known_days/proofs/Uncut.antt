-- From 5784-6-30 to 5785-6-29: no year, twelve months and 29 days.
use Rattle.std.proofs.Common.{◌≡◌, ℕ, zero, suc, ◌<◌, ◌≤◌, Bool, true, false, cond, ℤ, pos, ◌+ℤ◌, ◌≤ℤ◌, ◌<ℤ◌, Some, None, Ok, Option, sym, refl, ap, ◌∙◌, subst, ⊎_elim, arith}
use lib.Signed.{lt_z}
use Rattle.std.proofs.lemmas.Int.{ints}
use Rattle.std.proofs.lemmas.Bool.{cases_lt}
use Rattle.timebase.specs.Spans.{part_limit}
use Rattle.timebase.proofs.Searches.{most_is}
use Rattle.years.specs.declared.date.Date.{Date}
use Rattle.hebrew.specs.Calendar.{year_start, new_year}
use Rattle.calendar.specs.Calendars.{within}
use Rattle.local_times.specs.Locals.{count_of}
use Rattle.span_law.specs.declared.unit.Unit.TheVariants.{Year}
use Rattle.span_law.specs.declared.way.Way.TheVariants.{Onward as onward}
use Rattle.span_law.specs.declared.year_month.YearMonth.{YearMonth}
use Rattle.span_law.specs.Stepping.{signed, and_then, month_beside, months_on, year_on, cut, month_day_on}
use Rattle.span_law.specs.Standing.{Stands}
use Rattle.span_law.specs.Measuring.{reach, days_apart, date_le, date_not_past, fits_before, years_apart, months_apart, distance, days_left, parts_after, span_of, measure_answer}
use Rattle.span_law.proofs.Order.{place, le_place}
use Rattle.span_law.proofs.Steps.{month_at, beside_moves}
use Rattle.known_days.specs.Days.{dated}
use Rattle.known_days.specs.Moves.{at_day, span}
use Rattle.known_days.proofs.Zones.{utc, laws_utc}
use Rattle.known_days.proofs.Meetings.{met_utc}
use Rattle.known_days.proofs.Reaching.{reach_met, none_past, apart_at, measured_at}
use Rattle.known_days.proofs.Hebrew.{hebrew_calendar, laws, from, to, known_utc, start}

-- whether the 30th of a month is there and not past the end
abbrev up_to_end : Option YearMonth → Bool
up_to_end (Some p) = date_le p.year p.month 30 (pos 5785) 6 29
up_to_end None = false

fits : (o : Option YearMonth) → fits_before hebrew_calendar onward 738955 739339 o ≡ up_to_end o
fits (Some p) =
    ap (λ (d : Date). date_not_past onward p d.day (hebrew_calendar.date 739339)) from
    ∙ ap (λ (x : Date). date_not_past onward p 30 x) to
fits None = refl

-- ── no year ──

abbrev year_after : ℕ → Option YearMonth
year_after n = year_on hebrew_calendar (dated 5784 6 30) (pos n)

year_fits : (n : ℕ) → fits_before hebrew_calendar onward 738955 739339 (year_on hebrew_calendar (hebrew_calendar.date 738955) (signed onward n)) ≡ up_to_end (year_after n)
year_fits n =
    ap (λ (d : Date). fits_before hebrew_calendar onward 738955 739339 (year_on hebrew_calendar d (pos n))) from
    ∙ fits (year_after n)

own_year : year_after 0 ≡ Some (month_at (pos 5784) 6)
unfolding year_on
own_year = refl

-- the 30th of the sixth month, which has 29 days, is past its 29th
next_year : up_to_end (year_after 1) ≡ false
unfolding year_on
next_year = refl

past_year : (y : ℤ) (m : ℕ) → pos 5785 <ℤ y → date_le y m 30 (pos 5785) 6 29 ≡ false
past_year y m h =
    let e : false ≡ lt_z y (pos 5785) = omega (arith, ints) in
    let f : true ≡ lt_z (pos 5785) y = omega (arith, ints) in
    rw (← e, ← f) refl

later_year : (n : ℕ) → 1 < n → up_to_end (year_after n) ≡ false
unfolding year_on
later_year n h = by (within (pos 3761) (pos 13760) (pos 5784 +ℤ pos n))
  where
    by : (t : Bool) → up_to_end (cond t (Some (month_at (pos 5784 +ℤ pos n) (hebrew_calendar.twin (pos 5784) 6 (pos 5784 +ℤ pos n)))) None) ≡ false
    by true = past_year (pos 5784 +ℤ pos n) (hebrew_calendar.twin (pos 5784) 6 (pos 5784 +ℤ pos n)) (omega (arith, ints))
    by false = refl

no_year : years_apart hebrew_calendar onward 738955 739339 ≡ 0
unfolding years_apart
no_year =
    let own = year_fits 0 ∙ ap up_to_end own_year in
    most_is (λ n. fits_before hebrew_calendar onward 738955 739339 (year_on hebrew_calendar (hebrew_calendar.date 738955) (signed onward n))) part_limit 0 (omega arith) own own
    (λ j h _. year_fits j ∙ ⊎_elim (λ (k : 1 < j). later_year j k) (λ (k : j ≤ 1). let e : 1 ≡ j = omega arith in subst (λ (n : ℕ). up_to_end (year_after n) ≡ false) e next_year) (cases_lt 1 j))

-- ── twelve months ──

abbrev months_after : ℕ → Option YearMonth
months_after n = months_on hebrew_calendar onward n (month_at (pos 5784) 6)

month_fits : (n : ℕ) → fits_before hebrew_calendar onward 738955 739339 (and_then (year_on hebrew_calendar (hebrew_calendar.date 738955) (signed onward 0)) (months_on hebrew_calendar onward n)) ≡ up_to_end (months_after n)
month_fits n =
    ap (λ (d : Date). fits_before hebrew_calendar onward 738955 739339 (and_then (year_on hebrew_calendar d (pos 0)) (months_on hebrew_calendar onward n))) from
    ∙ ap (λ (o : Option YearMonth). fits_before hebrew_calendar onward 738955 739339 (and_then o (months_on hebrew_calendar onward n))) own_year
    ∙ fits (months_after n)

own_month : up_to_end (months_after 0) ≡ true
unfolding months_on
own_month = refl

twelfth : months_after 12 ≡ Some (month_at (pos 5785) 5)
unfolding months_on
twelfth = refl

thirteenth : months_after 13 ≡ Some (month_at (pos 5785) 6)
unfolding months_on
thirteenth = refl

-- a month not before 5785-6, or none
record Late (q : YearMonth) : Type 0 where
  stands : Stands hebrew_calendar q.year q.month
  on : place (pos 5785) 6 0 ≤ℤ place q.year q.month 0

abbrev LateOrNone : Option YearMonth → Type 0
LateOrNone (Some q) = Late q
LateOrNone None = Unit {0}

late_past : (o : Option YearMonth) → LateOrNone o → up_to_end o ≡ false
late_past (Some q) k = by (date_le q.year q.month 30 (pos 5785) 6 29) refl
  where
    by : (t : Bool) → date_le q.year q.month 30 (pos 5785) 6 29 ≡ t → t ≡ false
    by true e =
        let few = k.stands.few in
        let on = k.on in
        let p = le_place q.year q.month 30 (pos 5785) 6 29 few (omega arith) (omega arith) (omega arith) e in
        absurd (omega (arith, ints))
    by false e = refl
late_past None k = refl

late_on : (o : Option YearMonth) → LateOrNone o → LateOrNone (and_then o (month_beside hebrew_calendar onward))
late_on (Some q) k = by (month_beside hebrew_calendar onward q) refl
  where
    by : (o : Option YearMonth) → month_beside hebrew_calendar onward q ≡ o → LateOrNone o
    by (Some r) e =
        let on = k.on in
        let b = beside_moves hebrew_calendar laws onward q r k.stands e in
        record { stands = b.0; on = omega (arith, ints, b.1) }
    by None e = tt
late_on None k = tt

late_month : (n : ℕ) → 12 < n → LateOrNone (months_after n)
unfolding months_on
late_month zero h = absurd (omega arith)
late_month (suc n) h =
    ⊎_elim
    (λ (k : 12 < n). late_on (months_after n) (late_month n k))
    (λ (k : n ≤ 12).
    let e : 12 ≡ n = omega arith in
    subst (λ (m : ℕ). LateOrNone (months_after (suc m))) e
    (subst LateOrNone (sym thirteenth) (record { stands = record { low = omega (arith, ints); high = omega (arith, ints); one = omega arith; most = omega arith; few = omega arith }; on = omega (arith, ints) })))
    (cases_lt 12 n)

twelve_months : months_apart hebrew_calendar onward 738955 739339 0 ≡ 12
unfolding months_apart
twelve_months =
    most_is (λ n. fits_before hebrew_calendar onward 738955 739339 (and_then (year_on hebrew_calendar (hebrew_calendar.date 738955) (signed onward 0)) (months_on hebrew_calendar onward n))) part_limit 12 (omega arith)
    (month_fits 0 ∙ own_month) (month_fits 12 ∙ ap up_to_end twelfth) (λ j h _. month_fits j ∙ late_past (months_after j) (late_month j h))

-- ── and the days left ──

month_day : month_day_on hebrew_calendar 738955 (pos 0) (pos 12) ≡ Some 739310
unfolding month_day_on year_on months_on year_start new_year
month_day = ap (λ (d : Date). and_then (year_on hebrew_calendar d (pos 0)) (λ p. and_then (months_on hebrew_calendar onward 12 p) (λ q. hebrew_calendar.number (cut hebrew_calendar d.day q)))) from

days : days_left hebrew_calendar onward 738955 739339 0 12 ≡ 29
unfolding days_left
days = ap (distance hebrew_calendar onward 738955 739339) month_day

-- ── over UTC ──

reached : reach utc (at_day 738955) onward 384 ≡ Ok (at_day 739339)
reached = reach_met utc (at_day 738955) 738955 0 0 start 384 (count_of (pos 739339) 0) (omega arith) (omega arith) (met_utc (count_of (pos 739339) 0))

apart : days_apart utc (at_day 738955) onward (at_day 739339) ≡ 384
apart =
    apart_at utc (at_day 738955) 738955 0 0 start (at_day 739339) (at_day 739339) 384 (omega arith) (omega (arith, ints)) reached (omega (arith, ints))
    (none_past utc (at_day 738955) 738955 0 0 start laws_utc (at_day 739339) 384 (omega (arith, ints)))

pub measured_uncut : measure_answer utc hebrew_calendar Year (at_day 738955) (at_day 739339) ≡ Ok (span 0 12 29 0 0)
measured_uncut =
    measured_at utc (at_day 738955) 738955 0 0 start hebrew_calendar Year (at_day 739339) (at_day 739339) 384 (known_utc (at_day 739339) (omega (arith, ints)) (omega (arith, ints))) (omega (arith, ints)) refl apart reached
    ∙ ap (λ (y : ℕ). Ok (span_of onward (parts_after hebrew_calendar onward 738955 739339 y) (pos 0))) no_year
    ∙ ap (λ (m : ℕ). Ok (span_of onward (record { years = 0; months = m; weeks = 0; days = days_left hebrew_calendar onward 738955 739339 0 m }) (pos 0))) twelve_months
    ∙ ap (λ (d : ℕ). Ok (span_of onward (record { years = 0; months = 12; weeks = 0; days = d }) (pos 0))) days
