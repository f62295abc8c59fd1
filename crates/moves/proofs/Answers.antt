-- What the calls answer from instants that are known.
use Rattle.std.proofs.Common.{◌≡◌, ℕ, ◌≤◌, Bool, true, false, cond, ◌&&◌, ℤ, pos, ◌+ℤ◌, ◌*ℤ◌, ◌≤ℤ◌, IfOk, IsOk, Some, None, Ok, Err, Option, Result, MatchOption, sym, refl, ap, ◌∙◌, subst, arith}
use Rattle.std.proofs.lemmas.Int.{ints}
use Rattle.std.proofs.lemmas.Bool.{and_from, le-leb, cond-true}
use Rattle.timebase.specs.declared.fault.Fault.{Fault}
use Rattle.timebase.specs.declared.span.Span.{Span}
use Rattle.zone.specs.Zones.{Zone, ZoneLaws}
use Rattle.calendar.specs.Calendars.{Calendar, CalendarLaws, last_day, within}
use Rattle.local_times.specs.Chains.{◌>>=◌}
use Rattle.local_times.specs.Locals.{second_of, Known, arriving, is_local_time}
use Rattle.local_times.specs.Meeting.{is}
use Rattle.local_times.specs.declared.local_time.LocalTime.{LocalTime}
use Rattle.span_law.specs.declared.unit.Unit.{Unit as Measure}
use Rattle.span_law.specs.declared.way.Way.{Way}
use Rattle.span_law.specs.Stepping.{and_then, in_days, month_day_on, day_on}
use Rattle.span_law.specs.Measuring.{Parts, span_of, way_between, measured_by, no_span, measured, measure_answer}
use Rattle.span_law.specs.Law.{TrueSpan}
use Rattle.span_law.proofs.Steps.{none_some, some_same, within_low, within_high, false_true}
use Rattle.span_law.proofs.Carries.{arriving_known, known_at_is}
use Rattle.span_law.proofs.Answered.{spans_are_true}
use Rattle.calendar_steps.specs.Days.{is_day, day_after, leads}

-- ── days ──

-- the day that a span leads to is there
pub day_on_inside : (c : Calendar) (d : ℕ) (s : Span) (z : ℤ) → day_on c d s ≡ Some z → (pos 1 ≤ℤ z) × (z ≤ℤ pos last_day)
unfolding day_on
day_on_inside c d s z e = by (month_day_on c d s.years s.months) e
  where
    there : (n : ℤ) (t : Bool) → within (pos 1) (pos last_day) n ≡ t → cond t (Some n) None ≡ Some z → (pos 1 ≤ℤ z) × (z ≤ℤ pos last_day)
    there n true f g = subst (λ (x : ℤ). (pos 1 ≤ℤ x) × (x ≤ℤ pos last_day)) (some_same g) (within_low (pos 1) (pos last_day) n f, within_high (pos 1) (pos last_day) n f)
    there n false f g = none_some g

    by : (o : Option ℕ) → and_then o (λ n. in_days (pos n +ℤ ((pos 7 *ℤ s.weeks) +ℤ s.days))) ≡ Some z → (pos 1 ≤ℤ z) × (z ≤ℤ pos last_day)
    by (Some n) e = there (pos n +ℤ ((pos 7 *ℤ s.weeks) +ℤ s.days)) _ refl e
    by None e = none_some e

-- from a day that is there, the answer is the definition's
pub day_after_is : (c : Calendar) (d : ℕ) (s : Span) → 1 ≤ d → d ≤ 3652059 → day_after c d s ≡ day_on c d s
day_after_is c d s l h = cond-true (is_day d) (day_on c d s) None (and_from _ _ (le-leb 1 d l) (le-leb d last_day h))

-- a clock time on that day is there
abbrev pub After : Calendar → LocalTime → Span → Option LocalTime → Type 0
After c l s r = MatchOption r (day_on c l.day s ≡ None) (λ m. (day_on c l.day s ≡ Some (pos m.day)) × (m.clock ≡ l.clock) × (m.micros ≡ l.micros))

local_there : (d k u : ℕ) → 1 ≤ d → d ≤ 3652059 → k ≤ 86399 → u ≤ 999999 → is_local_time d k u ≡ true
local_there d k u a b e f = and_from _ _ (and_from _ _ (le-leb 1 d a) (le-leb d 3652059 b)) (and_from _ _ (le-leb k 86399 e) (le-leb u 999999 f))

pub after_is : (c : Calendar) (l : LocalTime) (s : Span) (n : ℕ) (r : Option LocalTime) → day_on c l.day s ≡ Some (pos n) →
    MatchOption r (is_local_time n l.clock l.micros ≡ false) (λ m. (m.day ≡ n) × (m.clock ≡ l.clock) × (m.micros ≡ l.micros)) → After c l s r
after_is c l s n (Some m) e (d, k, u) = (e ∙ ap (λ (x : ℕ). Some (pos x)) (sym d), k, u)
after_is c l s n None e f =
    let i = day_on_inside c l.day s (pos n) e in
    let low : 1 ≤ n = omega (arith, ints) in
    let high : n ≤ 3652059 = omega (arith, ints) in
    false_true (sym f ∙ local_there n l.clock l.micros low high l.clock_high l.micros_high)

-- ── spans ──

-- date parts between days that lie so are there
pub dates_are_some : (c : Calendar) (way : Way) (start end : ℕ) (unit : Measure) (d x : Span) → Some d ≡ cond (is_day start && (is_day end && leads way start end)) (Some x) None → d ≡ x
dates_are_some c way start end unit d x e = by (is_day start && (is_day end && leads way start end)) e
  where
    by : (t : Bool) → Some d ≡ cond t (Some x) None → d ≡ x
    by true f = some_same f
    by false f = none_some (sym f)

-- with a time beside them, read back from the code
pub with_time : (d : Span) (y m w e : ℤ) (way : Way) (p : Parts) (t : ℤ) → y ≡ d.years → m ≡ d.months → w ≡ d.weeks → e ≡ d.days → d ≡ span_of way p (pos 0) → record { years = y; months = m; weeks = w; days = e; time = t } ≡ span_of way p t
with_time d y m w e way p t ey em ew ee h = rw (ey, em, ew, ee) (ap (λ (s : Span). record { years = s.years; months = s.months; weeks = s.weeks; days = s.days; time = t }) h)

-- ── measuring ──

module _ (zone : Zone) (c : Calendar) where
  pub measure_is : (unit : Measure) (a b : ℤ) (s : Span) → Known zone a → Known zone b → s ≡ cond (is a b) no_span (measured_by zone a (way_between a b) b c unit) → Ok s ≡ measure_answer zone c unit a b
  measure_is unit a b s ka kb e =
      ap Ok e
      ∙ sym (ap (λ (o : Result ℤ Fault). o >>= λ _. arriving zone b >>= λ _. measured zone c unit a b) (arriving_known zone a ka)
      ∙ ap (λ (o : Result ℤ Fault). o >>= λ _. measured zone c unit a b) (arriving_known zone b kb)
      ∙ ap (λ (o : Result ℤ Fault). o >>= λ _. Ok (cond (is a b) no_span (measured_by zone a (way_between a b) b c unit))) (known_at_is zone b (zone (second_of b)) kb.sure))

  -- what is answered is true
  pub truly : ZoneLaws zone → CalendarLaws c → (unit : Measure) (a b : ℤ) (r : Result Span Fault) → r ≡ measure_answer zone c unit a b → IfOk r (λ s. TrueSpan zone c unit a b s)
  truly zl cl unit a b (Ok s) e = spans_are_true zone c zl cl unit a b s (sym e)
  truly zl cl unit a b (Err x) e = tt

  -- between instants of this zone's marks it is accepted
  pub accepted : (unit : Measure) (a b : ℤ) (r : Result Span Fault) → r ≡ measure_answer zone c unit a b → Known zone a → Known zone b → IsOk r
  accepted unit a b r e ka kb = subst IsOk (measure_is unit a b (cond (is a b) no_span (measured_by zone a (way_between a b) b c unit)) ka kb refl ∙ sym e) refl
