-- A measured span is within the limits of a span's parts.
use Rattle.std.proofs.Common.{◌≡◌, ℕ, ◌≤◌, Bool, true, false, cond, ℤ, pos, ◌-ℤ◌, neg_ℤ, nat_abs, ◌≤ℤ◌, Ok, sym, ap, subst, ⊎_elim, arith}
use Rattle.std.proofs.lemmas.Int.{ints}
use Rattle.std.proofs.lemmas.Bool.{cases_eq}
use Rattle.span_law.specs.declared.unit.Unit.{Unit as Measure}
use Rattle.span_law.specs.declared.unit.Unit.TheVariants.{Year, Month, Week, Day, Hour}
use Rattle.timebase.specs.declared.span.Span.{Span}
use Rattle.zone.specs.Zones.{Zone, ZoneLaws}
use Rattle.local_times.specs.Meeting.{is}
use Rattle.calendar.specs.Calendars.{Calendar, CalendarLaws, last_day}
use Rattle.span_law.specs.declared.way.Way.{Way}
use Rattle.span_law.specs.declared.way.Way.TheVariants.{Onward as onward, Back as back}
use Rattle.local_times.specs.Locals.{Known}
use Rattle.span_law.specs.Measuring.{way_between, fits_before, years_apart, months_apart, Parts, parts_after, parts_by, far_day, reach, days_apart, start_day, end_day, span_of, time_from, measured_dates, measured_by, no_span, measured}
use Rattle.span_law.specs.Stepping.{signed, and_then, year_on, months_on}
use Rattle.timebase.specs.Spans.{part_limit, time_limit, InLimits}
use Rattle.span_law.specs.Standing.{Leads}
use Rattle.timebase.proofs.Searches.{most_bounded}
use Rattle.span_law.proofs.Splits.{UpTo, years_fit, years_start, cuts, left_is}
use Rattle.span_law.proofs.Parting.{Dated}
use Rattle.local_times.proofs.Locals.{start_inside}
use Rattle.span_law.proofs.Reaches.{Reached, reached, reach_none, met_far, far_inside, ends, end_leads}
use Rattle.span_law.proofs.Meetings.{met_range}
use Rattle.span_law.proofs.Measures.{abs_signed, up_to_between, measured_tells}

pub record Small (p : Parts) : Type 0 where
  pub years : p.years ≤ part_limit
  pub months : p.months ≤ part_limit
  pub weeks : p.weeks ≤ part_limit
  pub days : p.days ≤ part_limit

small_span : (way : Way) (p : Parts) (time : ℤ) → Small p → nat_abs time ≤ time_limit → InLimits (span_of way p time)
small_span way p time s t =
    record {
      years = subst (λ (n : ℕ). n ≤ part_limit) (sym (abs_signed way p.years)) s.years;
      months = subst (λ (n : ℕ). n ≤ part_limit) (sym (abs_signed way p.months)) s.months;
      weeks = subst (λ (n : ℕ). n ≤ part_limit) (sym (abs_signed way p.weeks)) s.weeks;
      days = subst (λ (n : ℕ). n ≤ part_limit) (sym (abs_signed way p.days)) s.days;
      time = t;
    }

years_small : (c : Calendar) (way : Way) (d x : ℕ) → years_apart c way d x ≤ part_limit
unfolding years_apart
years_small c way d x = most_bounded (λ n. fits_before c way d x (year_on c (c.date d) (signed way n))) part_limit

months_small : (c : Calendar) (way : Way) (d x years : ℕ) → months_apart c way d x years ≤ part_limit
unfolding months_apart
months_small c way d x years = most_bounded (λ n. fits_before c way d x (and_then (year_on c (c.date d) (signed way years)) (months_on c way n))) part_limit

gap_small : (x k : ℕ) → x ≤ last_day → k ≤ last_day → nat_abs (pos x -ℤ pos k) ≤ last_day
gap_small x k h l = omega (arith, ints)

between_small : (way : Way) (d k x : ℕ) → Leads way d k → Leads way k x → d ≤ last_day → x ≤ last_day → k ≤ last_day
between_small onward d k x h l m n = omega arith
between_small back d k x h l m n = omega arith

module _ (c : Calendar) (laws : CalendarLaws c) (way : Way) (d x : ℕ) (d1 : 1 ≤ d) (d2 : d ≤ last_day) (x1 : 1 ≤ x) (x2 : x ≤ last_day) (l : Leads way d x) where
  after_small : (years : ℕ) → years ≤ part_limit → fits_before c way d x (year_on c (c.date d) (signed way years)) ≡ true → Small (parts_after c way d x years)
  after_small years h f =
      let k = cuts c laws way d x d1 d2 x1 x2 l years f in
      let e = left_is c laws way d x years (months_apart c way d x years) k in
      let g = gap_small x k.day x2 (between_small way d k.day x k.behind k.before d2 x2) in
      record { years = h; months = months_small c way d x years; weeks = omega arith; days = omega arith }

  pub parts_small : (unit : Measure) → Dated unit → Small (parts_by c way d x unit)
  parts_small Year u = after_small (years_apart c way d x) (years_small c way d x) (years_fit c laws way d x d1 d2 x1 x2 l)
  parts_small Month u = after_small 0 (omega arith) (years_start c laws way d x d1 d2 x1 x2 l)
  parts_small Week u = let g = gap_small x d x2 d2 in record { years = omega arith; months = omega arith; weeks = omega arith; days = omega arith }
  parts_small Day u = let g = gap_small x d x2 d2 in record { years = omega arith; months = omega arith; weeks = omega arith; days = omega arith }
  parts_small Hour u = absurd u

module _ (zone : Zone) (c : Calendar) (zl : ZoneLaws zone) (cl : CalendarLaws c) (a b : ℤ) (ka : Known zone a) (kb : Known zone b) (way : Way) (u : UpTo way a b) where
  at_range : (r : Reached zone a way b) → (neg_ℤ (pos 62135683199000000) ≤ℤ r.at) × (r.at ≤ℤ pos 253402387198999999)
  at_range r =
      ⊎_elim
      (λ (z : days_apart zone a way b ≡ 0).
      let s = reach_none zone a way r.at (subst (λ (n : ℕ). reach zone a way n ≡ Ok r.at) z r.is) in
      let l = ka.low in
      let h = ka.high in
      (omega (arith, ints), omega (arith, ints)))
      (λ (z : days_apart zone a way b ≡ 0 → ⊥).
      let f = far_inside zone a way (days_apart zone a way b) r.at (start_inside zone a zl ka) r.is in
      met_range zone zl a (far_day zone a way (days_apart zone a way b)) r.at f.0 f.1 (met_far zone a way (days_apart zone a way b) r.at (omega arith) r.is))
      (cases_eq (days_apart zone a way b) 0)

  time_small : (r : ℤ) → (neg_ℤ (pos 62135683199000000) ≤ℤ r) × (r ≤ℤ pos 253402387198999999) → nat_abs (b -ℤ r) ≤ time_limit
  time_small r h = let l = kb.low in let g = kb.high in omega (arith, ints)

  dates_small : (unit : Measure) → Dated unit → InLimits (measured_dates zone a way b c unit)
  dates_small unit d =
      let r = reached zone a way b u in
      let i = start_inside zone a zl ka in
      let e = ends zone a way i b r in
      small_span way (parts_by c way (start_day zone a way) (end_day zone a way b) unit) (time_from zone a way b (reach zone a way (days_apart zone a way b)))
      (parts_small c cl way (start_day zone a way) (end_day zone a way b) e.start_one e.start_last e.end_one e.end_last (end_leads zone a way i b e).0 unit d)
      (subst (λ (z : ℤ). nat_abs z ≤ time_limit) (sym (ap (time_from zone a way b) r.is)) (time_small r.at (at_range r)))

  by_small : (unit : Measure) → InLimits (measured_by zone a way b c unit)
  by_small Year = dates_small Year tt
  by_small Month = dates_small Month tt
  by_small Week = dates_small Week tt
  by_small Day = dates_small Day tt
  by_small Hour =
      let l = ka.low in
      let h = ka.high in
      record { years = omega arith; months = omega arith; weeks = omega arith; days = omega arith; time = time_small a (omega (arith, ints), omega (arith, ints)) }

pub measured_in_limits : (zone : Zone) (c : Calendar) → ZoneLaws zone → CalendarLaws c → (unit : Measure) (a b : ℤ) (s : Span) →
    Known zone a → Known zone b → measured zone c unit a b ≡ Ok s → InLimits s
measured_in_limits zone c zl cl unit a b s ka kb m = subst InLimits (measured_tells zone c unit a b s kb m) (by (is a b))
  where
    by : (t : Bool) → InLimits (cond t no_span (measured_by zone a (way_between a b) b c unit))
    by true = record { years = omega arith; months = omega arith; weeks = omega arith; days = omega arith; time = omega arith }
    by false = by_small zone c zl cl a b ka kb (way_between a b) (up_to_between a b) unit
