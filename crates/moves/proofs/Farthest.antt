-- The reach of a day, and why no day farther than the first candidate can be the farthest.
use Rattle.std.proofs.Common.{◌≡◌, ℕ, zero, suc, ◌+◌, ◌-◌, ◌*◌, ◌<◌, ◌≤◌, Bool, true, false, cond, ℤ, pos, negsuc, ◌+ℤ◌, ◌-ℤ◌, ◌*ℤ◌, ◌≤ℤ◌, ◌<ℤ◌, Some, None, Ok, Err, Result, sym, refl, ap, ◌∙◌, subst, ⊎_elim, arith}
use Rattle.std.proofs.lemmas.Int.{ints}
use Rattle.std.proofs.lemmas.Bool.{cases_lt}
use Rattle.timebase.specs.declared.fault.Fault.{Fault}
use Rattle.timebase.specs.declared.fault.Fault.TheVariants.{NoSuchDate}
use Rattle.timebase.specs.Splits.{floor_quotient}
use Rattle.timebase.proofs.Searches.{most_is}
use Rattle.zone.specs.Zones.{Zone, ZoneLaws, offset}
use Rattle.calendar.specs.Calendars.{last_day, within}
use Rattle.local_times.specs.Meeting.{Near}
use Rattle.span_law.specs.declared.way.Way.{Way}
use Rattle.span_law.specs.declared.way.Way.TheVariants.{Onward as onward, Back as back}
use Rattle.local_times.specs.declared.local_time.LocalTime.{LocalTime}
use Rattle.local_times.specs.Locals.{second_of, micros_of, local_second, clock_second, count_of, met_at, Known, Shows}
use Rattle.span_law.specs.Carrying.{met_on}
use Rattle.span_law.specs.Measuring.{way_between, not_past, result_not_past, before_it, toward, far_day, reach, days_apart}
use Rattle.span_law.specs.Stepping.{signed}
use Rattle.timebase.specs.Instants.{first_instant, last_instant}
use Rattle.span_law.proofs.Steps.{within_is, none_some, some_same, false_true}
use Rattle.span_law.proofs.Splits.{UpTo}
use Rattle.local_times.proofs.Locals.{floor_day, floor_second}
use Rattle.local_times.proofs.Nearness.{offset_bounds}
use Rattle.span_law.proofs.Reaches.{start_near, met_far}
use Rattle.span_law.proofs.Meetings.{met_is}
use Rattle.span_law.proofs.Measures.{up_to_between}

module _ (zone : Zone) (a : ℤ) (way : Way) where
  pub reach_own : (n : ℕ) → n ≡ 0 → Ok a ≡ reach zone a way n
  unfolding reach
  reach_own zero e = refl
  reach_own (suc n) e = absurd (omega arith)

  -- another day's: refused where there is no such day, and else its meeting
  pub reach_out : (n : ℕ) → 1 ≤ n → (z : ℤ) → z ≡ far_day zone a way n → within (pos 1) (pos last_day) z ≡ false → Err NoSuchDate ≡ reach zone a way n
  unfolding reach
  reach_out zero h z e f = absurd (omega arith)
  reach_out (suc n) h z e f = ap (λ (t : Bool). cond t (met_on zone a (far_day zone a way (suc n))) (Err NoSuchDate)) (sym (ap (within (pos 1) (pos last_day)) (sym e) ∙ f))

  pub reach_in : (n : ℕ) → 1 ≤ n → (z : ℤ) (k u : ℕ) → pos 1 ≤ℤ z → z ≤ℤ pos last_day → z ≡ far_day zone a way n → k ≡ clock_second zone a → u ≡ micros_of a → met_at zone z k u ≡ reach zone a way n
  unfolding reach
  reach_in zero h z k u low high e i j = absurd (omega arith)
  reach_in (suc n) h z k u low high e i j =
      ap (λ (x : ℕ). met_at zone z x u) i ∙ ap (λ (x : ℕ). met_at zone z (clock_second zone a) x) j ∙ ap (met_on zone a) e
      ∙ ap (λ (t : Bool). cond t (met_on zone a (far_day zone a way (suc n))) (Err NoSuchDate)) (sym (ap (within (pos 1) (pos last_day)) (sym e) ∙ within_is (pos 1) (pos last_day) z low high))

  -- no day farther than n has a reach that does not pass b
  abbrev pub NoneFarther : ℤ → ℕ → Type 0
  NoneFarther b n = (j : ℕ) → n < j → j ≤ last_day → result_not_past way (reach zone a way j) b ≡ false

  found_by : (b r : ℤ) (o : Result ℤ Fault) → Some r ≡ before_it way b o → (o ≡ Ok r) × (result_not_past way o b ≡ true)
  found_by b r (Ok q) e = by (not_past way q b) refl e
    where
      by : (t : Bool) → not_past way q b ≡ t → Some r ≡ cond t (Some q) None → (◌≡◌ {A = Result ℤ Fault} (Ok q) (Ok r)) × (not_past way q b ≡ true)
      by true f g = (ap Ok (sym (some_same g)), f)
      by false f g = none_some (sym g)
  found_by b r (Err x) e = none_some (sym e)

  missed_by : (b : ℤ) (o : Result ℤ Fault) → None ≡ before_it way b o → result_not_past way o b ≡ false
  missed_by b (Ok q) e = by (not_past way q b) e
    where
      by : (t : Bool) → None ≡ cond t (Some q) None → t ≡ false
      by true g = none_some g
      by false g = refl
  missed_by b (Err x) e = refl

  -- the walk ends at the farthest
  pub walk_ends : (b r : ℤ) (n : ℕ) → UpTo way a b → n ≤ last_day → NoneFarther b n → Some r ≡ before_it way b (reach zone a way n) → (n ≡ days_apart zone a way b) × (reach zone a way n ≡ Ok r)
  unfolding days_apart
  walk_ends b r n u h f e =
      let g = found_by b r (reach zone a way n) e in
      (sym (most_is (λ n. result_not_past way (reach zone a way n) b) last_day n h (start_near zone a way b u) g.1 f), g.0)

  -- or goes on, one day nearer
  pub walk_on : (b : ℤ) (n : ℕ) → UpTo way a b → NoneFarther b n → None ≡ before_it way b (reach zone a way n) → (1 ≤ n) × NoneFarther b (n - 1)
  walk_on b zero u f e =
      let s = missed_by b (reach zone a way 0) e in
      false_true (sym s ∙ start_near zone a way b u)
  walk_on b (suc n) u f e = (
    omega arith,
    λ j l m. nearer j l m (missed_by b (reach zone a way (suc n)) e),
  )
    where
      nearer : (j : ℕ) → (suc n - 1) < j → j ≤ last_day → result_not_past way (reach zone a way (suc n)) b ≡ false → result_not_past way (reach zone a way j) b ≡ false
      nearer j l m g =
          ⊎_elim (λ (k : suc n < j). f j k m) (λ (k : j ≤ suc n). let s : suc n ≡ j = omega arith in subst (λ (i : ℕ). result_not_past way (reach zone a way i) b ≡ false) s g) (cases_lt (suc n) j)

-- the local time of a, in microseconds
abbrev pub local_micro : Zone → ℤ → ℤ
local_micro zone a = (local_second zone a *ℤ pos 1000000) +ℤ pos (micros_of a)

-- a reach lies less than a day from its local time
pub reach_tight : (zone : Zone) → ZoneLaws zone → (a : ℤ) (way : Way) (n : ℕ) (r : ℤ) → 1 ≤ n → reach zone a way n ≡ Ok r →
    (((local_micro zone a +ℤ (signed way n *ℤ pos 86400000000)) -ℤ pos 86399000000) ≤ℤ r) × (r ≤ℤ ((local_micro zone a +ℤ (signed way n *ℤ pos 86400000000)) +ℤ pos 86399000000))
reach_tight zone laws a way n r h e =
    let m = met_is zone laws a (far_day zone a way n) r (met_far zone a way n r h e) in
    by (signed way n) (local_second zone a) (micros_of a) (floor_quotient (local_second zone a) 86400) (clock_second zone a) m.second (floor_day (local_second zone a)).0 m.near m.is
  where
    by : (n s : ℤ) (u : ℕ) (q : ℤ) (k : ℕ) (t : ℤ) → (q *ℤ pos 86400) +ℤ pos k ≡ s → Near (count_of ((q +ℤ pos 719163) +ℤ n) k) t → r ≡ (t *ℤ pos 1000000) +ℤ pos u →
        (((((s *ℤ pos 1000000) +ℤ pos u) +ℤ (n *ℤ pos 86400000000)) -ℤ pos 86399000000) ≤ℤ r) × (r ≤ℤ ((((s *ℤ pos 1000000) +ℤ pos u) +ℤ (n *ℤ pos 86400000000)) +ℤ pos 86399000000))
    by n s u q k t e1 near e2 = let p = near.low in let w = near.high in omega (arith, ints)

past : (way : Way) (L b r : ℤ) (n j : ℕ) → (toward way L b +ℤ pos 86399000000) <ℤ pos (86400000000 * (n + 1)) → n < j →
    (((L +ℤ (signed way j *ℤ pos 86400000000)) -ℤ pos 86399000000) ≤ℤ r) × (r ≤ℤ ((L +ℤ (signed way j *ℤ pos 86400000000)) +ℤ pos 86399000000)) → not_past way r b ≡ false
past onward L b r n j h l k = sym (omega (arith, ints))
past back L b r n j h l k = sym (omega (arith, ints))

-- the first candidate
pub starts_there : (zone : Zone) → ZoneLaws zone → (a : ℤ) (way : Way) (b L : ℤ) (n : ℕ) → L ≡ local_micro zone a → (toward way L b +ℤ pos 86399000000) <ℤ pos (86400000000 * (n + 1)) → NoneFarther zone a way b n
starts_there zone laws a way b L n e h j l m = by (reach zone a way j) refl
  where
    by : (o : Result ℤ Fault) → reach zone a way j ≡ o → result_not_past way o b ≡ false
    by (Ok r) f = past way L b r n j h l (subst (λ (z : ℤ). (((z +ℤ (signed way j *ℤ pos 86400000000)) -ℤ pos 86399000000) ≤ℤ r) × (r ≤ℤ ((z +ℤ (signed way j *ℤ pos 86400000000)) +ℤ pos 86399000000))) (sym e) (reach_tight zone laws a way j r (omega arith) f))
    by (Err x) f = refl

-- the local time of a in range, and how far b lies from it
pub record AheadBy (zone : Zone) (a : ℤ) (way : Way) (b L : ℤ) : Type 0 where
  pub is : L ≡ local_micro zone a
  pub low : negsuc 86398999999 ≤ℤ toward way L b
  pub high : toward way L b ≤ℤ pos 315537811198999999

ahead_both : (way : Way) (a b L o : ℤ) → UpTo way a b → L ≡ a +ℤ (o *ℤ pos 1000000) → (negsuc 86398 ≤ℤ o) × (o ≤ℤ pos 86399) → first_instant ≤ℤ a → a ≤ℤ last_instant → first_instant ≤ℤ b → b ≤ℤ last_instant →
    (negsuc 86398999999 ≤ℤ toward way L b) × (toward way L b ≤ℤ pos 315537811198999999)
ahead_both onward a b L o u e k h1 h2 h3 h4 = (omega (arith, ints), omega (arith, ints))
ahead_both back a b L o u e k h1 h2 h3 h4 = (omega (arith, ints), omega (arith, ints))

pub ahead_by : (zone : Zone) → ZoneLaws zone → (a : ℤ) (way : Way) (b : ℤ) (l : LocalTime) → Shows zone a l → Known zone b → UpTo way a b →
    (L : ℤ) → L ≡ (count_of (pos l.day) l.clock *ℤ pos 1000000) +ℤ pos l.micros → AheadBy zone a way b L
ahead_by zone laws a way b l s k u L e =
    let is : L ≡ local_micro zone a = e ∙ same (pos l.day) l.clock l.micros (floor_quotient (local_second zone a) 86400) s.day_is s.clock_is s.micros_is (floor_day (local_second zone a)).0 in
    let b2 = ahead_both way a b L (offset (zone (second_of a))) u (is ∙ sum (second_of a) (micros_of a) (offset (zone (second_of a))) (floor_second a).0) (offset_bounds (zone (second_of a)) (laws.sound (second_of a))) s.known.low s.known.high k.low k.high in
    record { is = is; low = b2.0; high = b2.1 }
  where
    same : (d : ℤ) (t u : ℕ) (q : ℤ) → d ≡ q +ℤ pos 719163 → t ≡ clock_second zone a → u ≡ micros_of a → (q *ℤ pos 86400) +ℤ pos (clock_second zone a) ≡ local_second zone a →
        (count_of d t *ℤ pos 1000000) +ℤ pos u ≡ local_micro zone a
    same d t u q e1 e2 e3 e4 = by d t u q (clock_second zone a) (micros_of a) (local_second zone a) e1 e2 e3 e4
      where
        by : (d : ℤ) (t u : ℕ) (q : ℤ) (t' u' : ℕ) (s : ℤ) → d ≡ q +ℤ pos 719163 → t ≡ t' → u ≡ u' → (q *ℤ pos 86400) +ℤ pos t' ≡ s → (count_of d t *ℤ pos 1000000) +ℤ pos u ≡ (s *ℤ pos 1000000) +ℤ pos u'
        by d t u q t' u' s e1 e2 e3 e4 = omega (arith, ints)

    sum : (s : ℤ) (u : ℕ) (o : ℤ) → (s *ℤ pos 1000000) +ℤ pos u ≡ a → ((s +ℤ o) *ℤ pos 1000000) +ℤ pos u ≡ a +ℤ (o *ℤ pos 1000000)
    sum s u o e = omega (arith, ints)

pub up_to_way : (way : Way) (a b : ℤ) → way ≡ way_between a b → UpTo way a b
up_to_way way a b e = subst (λ (w : Way). UpTo w a b) (sym e) (up_to_between a b)

-- the same at other terms for the same instants
pub up_to_at : (way : Way) (a b a' b' : ℤ) → way ≡ way_between a b → a' ≡ a → b' ≡ b → UpTo way a' b'
up_to_at way a b a' b' e f g = subst (λ (x : ℤ). UpTo way x b') (sym f) (subst (λ (x : ℤ). UpTo way a x) (sym g) (up_to_way way a b e))

pub ends_at : (zone : Zone) (way : Way) (a b a' b' r r' : ℤ) (n : ℕ) → a' ≡ a → b' ≡ b → r' ≡ r → (n ≡ days_apart zone a' way b') × (reach zone a' way n ≡ Ok r) → (n ≡ days_apart zone a way b) × (reach zone a way n ≡ Ok r')
ends_at zone way a b a' b' r r' n f g e (h, k) = (
  h ∙ ap (λ (x : ℤ). days_apart zone x way b') f ∙ ap (λ (x : ℤ). days_apart zone a way x) g,
  ap (λ (x : ℤ). reach zone x way n) (sym f) ∙ k ∙ ap Ok (sym e),
)
