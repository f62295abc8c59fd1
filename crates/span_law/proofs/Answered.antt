-- The law, of what the calls answer.
use Rattle.std.proofs.Common.{◌≡◌, ℤ, Ok, Err, Result, sym, refl, ap, ◌∙◌}
use Rattle.timebase.specs.declared.fault.Fault.{Fault}
use Rattle.timebase.specs.declared.span.Span.{Span}
use Rattle.zone.specs.Zones.{Zone, Zones, ZonesLaws}
use Rattle.calendar.specs.Calendars.{Calendar, Calendars, CalendarsLaws}
use Rattle.local_times.specs.Chains.{◌>>=◌}
use Rattle.local_times.specs.Locals.{Known, arriving}
use Rattle.local_times.proofs.Results.{err_ok}
use Rattle.local_times.proofs.Locals.{arriving_tells}
use Rattle.span_law.specs.declared.unit.Unit.{Unit as Measure}
use Rattle.span_law.specs.Carrying.{carried, carry_answer}
use Rattle.span_law.specs.Measuring.{measured, measure_answer}
use Rattle.span_law.specs.Law.{SpansAreTrue, SpansTrueOver}
use Rattle.span_law.proofs.Carries.{arriving_known}
use Rattle.span_law.proofs.Measures.{measured_spans_are_true}
use Rattle.span_law.proofs.Limits.{measured_in_limits}

module _ (zone : Zone) (c : Calendar) where
  -- from an instant that is known, the answer is what carrying comes to
  pub carry_known : (i : ℤ) (s : Span) → Known zone i → carried zone c i s ≡ carry_answer zone c i s
  carry_known i s h = sym (ap (λ (o : Result ℤ Fault). o >>= λ _. carried zone c i s) (arriving_known zone i h))

  -- what an answer tells: both instants are known, and it was measured
  pub record Answered (unit : Measure) (a b : ℤ) (s : Span) : Type 0 where
    pub start : Known zone a
    pub end : Known zone b
    pub is : measured zone c unit a b ≡ Ok s

  by_end : (unit : Measure) (a b : ℤ) (s : Span) → Known zone a → (o : Result ℤ Fault) → arriving zone b ≡ o → (o >>= λ _. measured zone c unit a b) ≡ Ok s → Answered unit a b s
  by_end unit a b s ka (Ok i) e f = record { start = ka; end = (arriving_tells zone b i (sym e)).0; is = f }
  by_end unit a b s ka (Err x) e f = err_ok f

  by_start : (unit : Measure) (a b : ℤ) (s : Span) → (o : Result ℤ Fault) → arriving zone a ≡ o → (o >>= λ _. arriving zone b >>= λ _. measured zone c unit a b) ≡ Ok s → Answered unit a b s
  by_start unit a b s (Ok i) e f = by_end unit a b s (arriving_tells zone a i (sym e)).0 (arriving zone b) refl f
  by_start unit a b s (Err x) e f = err_ok f

  pub answered : (unit : Measure) (a b : ℤ) (s : Span) → measure_answer zone c unit a b ≡ Ok s → Answered unit a b s
  answered unit a b s e = by_start unit a b s (arriving zone a) refl e

pub spans_are_true : SpansAreTrue
spans_are_true zone c zl cl unit a b s e =
    let m = answered zone c unit a b s e in
    let t = measured_spans_are_true zone c zl cl unit a b s m.start m.end m.is in
    record {
      arrives = sym (carry_known zone c a s m.start) ∙ t.arrives;
      keeps = t.keeps;
      limits = measured_in_limits zone c zl cl unit a b s m.start m.end m.is;
      most_days = λ u r o h g n. t.most_days u r o h (carry_known zone c a r m.start ∙ g) n;
      farther = λ f r y g. let q = answered zone c unit a f r g in t.farther f r q.end y q.is;
    }

pub spans_true_over : (zs : Zones) (cs : Calendars) → ZonesLaws zs → CalendarsLaws cs → SpansTrueOver zs cs
spans_true_over zs cs zl cl z k hz hk unit a b s e = spans_are_true (zs.value z) (cs.calendar k) (zl.each z hz) (cl.each k hk) unit a b s e
