-- What is measured onward by dates, where the reaches of the days about the end are known.
use Rattle.std.proofs.Common.{◌≡◌, ℕ, zero, suc, ◌+◌, ◌<◌, ◌≤◌, Bool, false, cond, ℤ, pos, ◌+ℤ◌, ◌-ℤ◌, ◌*ℤ◌, ◌≤ℤ◌, ◌<ℤ◌, Ok, Err, Result, sym, refl, ap, ◌∙◌, arith}
use lib.Signed.{lt_z, le_z}
use Rattle.std.proofs.lemmas.Int.{ints}
use Rattle.timebase.specs.declared.fault.Fault.{Fault}
use Rattle.timebase.proofs.Searches.{most_is}
use Rattle.zone.specs.Zones.{Zone, ZoneLaws}
use Rattle.calendar.specs.Calendars.{Calendar, last_day}
use Rattle.local_times.specs.Chains.{◌>>=◌}
use Rattle.local_times.specs.Meeting.{is, meeting, Near}
use Rattle.local_times.specs.Locals.{second_of, micros_of, local_day, clock_second, count_of, met_at, arriving, Known}
use Rattle.span_law.specs.declared.unit.Unit.{Unit as Measure}
use Rattle.span_law.specs.declared.way.Way.{Way}
use Rattle.span_law.specs.declared.way.Way.TheVariants.{Onward as onward, Back as back}
use Rattle.span_law.specs.Carrying.{met_on, natural}
use Rattle.span_law.specs.Measuring.{way_between, result_not_past, far_day, reach, days_apart, start_day, end_day, time_from, parts_by, span_of, measured_dates, measured_by, no_span, measured, measure_answer}
use Rattle.span_law.proofs.Reaches.{meets, met_far, start_near, not_past_is}
use Rattle.span_law.proofs.Meetings.{met_is}
use Rattle.span_law.proofs.Carries.{arriving_known, known_at_is}
use Rattle.span_law.proofs.Measures.{apart_is}

-- what a zone shows at an instant
pub record At (zone : Zone) (a : ℤ) (day clock micros : ℕ) : Type 0 where
  pub known : Known zone a
  pub day_is : local_day zone a ≡ pos day
  pub clock_is : clock_second zone a ≡ clock
  pub micros_is : micros_of a ≡ micros
  pub day_one : 1 ≤ day

module _ (zone : Zone) (a : ℤ) (day clock micros : ℕ) (at : At zone a day clock micros) where
  far : (n : ℕ) → far_day zone a onward n ≡ pos (day + n)
  far n = let e = at.day_is in ap (λ (z : ℤ). z +ℤ pos n) e

  -- the reach of another day, by what its clock time meets
  pub reach_met : (n : ℕ) (s : ℤ) → 1 ≤ n → day + n ≤ last_day → meeting zone (count_of (pos (day + n)) clock) ≡ Ok s → reach zone a onward n ≡ Ok ((s *ℤ pos 1000000) +ℤ pos micros)
  reach_met zero s h k e = absurd (omega arith)
  reach_met (suc n) s h k e =
      let f = far (suc n) in
      meets zone a onward n ((s *ℤ pos 1000000) +ℤ pos micros) (omega (arith, ints)) (omega (arith, ints))
      (ap (met_on zone a) f
      ∙ ap (λ (x : ℕ). met_at zone (pos (day + suc n)) x (micros_of a)) at.clock_is
      ∙ ap (met_at zone (pos (day + suc n)) clock) at.micros_is
      ∙ ap (λ (r : Result ℤ Fault). r >>= λ t. Ok ((t *ℤ pos 1000000) +ℤ pos micros)) e)

  -- days that lie farther than a day past the end are past it
  pub none_past : ZoneLaws zone → (b : ℤ) (n : ℕ) → b <ℤ ((count_of (pos (day + (n + 1))) clock -ℤ pos 86399) *ℤ pos 1000000) → (j : ℕ) → n < j → result_not_past onward (reach zone a onward j) b ≡ false
  none_past laws b n h j l = by (reach zone a onward j) refl
    where
      beyond : (d : ℤ) (k u : ℕ) (t r : ℤ) → d ≡ pos (day + j) → k ≡ clock → Near (count_of d k) t → r ≡ (t *ℤ pos 1000000) +ℤ pos u → b <ℤ r
      beyond d k u t r e f near g = let low = near.low in omega (arith, ints)

      past : (r : ℤ) → b <ℤ r → le_z r b ≡ false
      past r m = sym (omega (arith, ints))

      by : (o : Result ℤ Fault) → reach zone a onward j ≡ o → result_not_past onward o b ≡ false
      by (Ok r) e =
          let m = met_is zone laws a (far_day zone a onward j) r (met_far zone a onward j r (omega arith) e) in
          past r (beyond (far_day zone a onward j) (clock_second zone a) (micros_of a) m.second r (far j) at.clock_is m.near m.is)
      by (Err x) e = refl

  -- the farthest day whose reach does not pass the end
  pub apart_at : (b r : ℤ) (n : ℕ) → n ≤ last_day → a ≤ℤ b → reach zone a onward n ≡ Ok r → r ≤ℤ b → ((j : ℕ) → n < j → result_not_past onward (reach zone a onward j) b ≡ false) → days_apart zone a onward b ≡ n
  unfolding days_apart
  apart_at b r n h u e k f =
      most_is (λ n. result_not_past onward (reach zone a onward n) b) last_day n h (start_near zone a onward b u)
      (ap (λ (o : Result ℤ Fault). result_not_past onward o b) e ∙ not_past_is onward r b k) (λ j l _. f j l)

  toward_it : (b : ℤ) → a <ℤ b → way_between a b ≡ onward
  toward_it b h = let e : false ≡ lt_z b a = omega (arith, ints) in ap (λ (t : Bool). cond t back onward) (sym e)

  -- the span by dates: the parts from day to day, and the time from that reach to the end
  pub measured_at : (c : Calendar) (unit : Measure) (b r : ℤ) (n : ℕ) → Known zone b → a <ℤ b → measured_by zone a onward b c unit ≡ measured_dates zone a onward b c unit →
      days_apart zone a onward b ≡ n → reach zone a onward n ≡ Ok r → measure_answer zone c unit a b ≡ Ok (span_of onward (parts_by c onward day (day + n) unit) (b -ℤ r))
  measured_at c unit b r n kb lt dated apart e =
      let start : start_day zone a onward ≡ day = ap natural at.day_is in
      let end : end_day zone a onward b ≡ day + n = ap (λ (m : ℕ). natural (far_day zone a onward m)) apart ∙ ap natural (far n) in
      let time : time_from zone a onward b (reach zone a onward (days_apart zone a onward b)) ≡ b -ℤ r = ap (λ (m : ℕ). time_from zone a onward b (reach zone a onward m)) apart ∙ ap (time_from zone a onward b) e in
      ap (λ (o : Result ℤ Fault). o >>= λ _. arriving zone b >>= λ _. measured zone c unit a b) (arriving_known zone a at.known)
      ∙ ap (λ (o : Result ℤ Fault). o >>= λ _. measured zone c unit a b) (arriving_known zone b kb)
      ∙ ap (λ (o : Result ℤ Fault). o >>= λ _. Ok (cond (is a b) no_span (measured_by zone a (way_between a b) b c unit))) (known_at_is zone b (zone (second_of b)) kb.sure)
      ∙ ap (λ (t : Bool). Ok (cond t no_span (measured_by zone a (way_between a b) b c unit))) (apart_is a b (λ f. omega (arith, ints)))
      ∙ ap (λ (w : Way). Ok (measured_by zone a w b c unit)) (toward_it b lt)
      ∙ ap Ok dated
      ∙ ap (λ (d : ℕ). Ok (span_of onward (parts_by c onward d (end_day zone a onward b) unit) (time_from zone a onward b (reach zone a onward (days_apart zone a onward b))))) start
      ∙ ap (λ (x : ℕ). Ok (span_of onward (parts_by c onward day x unit) (time_from zone a onward b (reach zone a onward (days_apart zone a onward b))))) end
      ∙ ap (λ (t : ℤ). Ok (span_of onward (parts_by c onward day (day + n) unit) t)) time
