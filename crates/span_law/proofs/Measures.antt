-- A measured span is true.
use Rattle.std.proofs.Common.{◌≡◌, ℕ, zero, suc, ◌<◌, ◌≤◌, Bool, true, false, cond, ◌≢◌, ◌⊎◌, ℤ, pos, ◌+ℤ◌, ◌-ℤ◌, ◌*ℤ◌, nat_abs, ◌≤ℤ◌, ◌<ℤ◌, Some, None, Ok, Result, sym, refl, ap, ◌∙◌, subst, inl, inr, ⊎_elim, arith}
use lib.Signed.{lt_z, le_z}
use Rattle.std.proofs.lemmas.Int.{ints}
use Rattle.std.proofs.lemmas.Bool.{cond-false, cases_lt, cases_eq}
use Rattle.timebase.specs.declared.fault.Fault.{Fault}
use Rattle.span_law.specs.declared.unit.Unit.{Unit as Measure}
use Rattle.span_law.specs.declared.unit.Unit.TheVariants.{Year, Month, Week, Day, Hour}
use Rattle.timebase.specs.declared.span.Span.{Span}
use Rattle.zone.specs.Zones.{Zone, ZoneLaws}
use Rattle.local_times.specs.Meeting.{is}
use Rattle.calendar.specs.Calendars.{Calendar, CalendarLaws, last_day, within}
use Rattle.span_law.specs.declared.way.Way.{Way}
use Rattle.span_law.specs.declared.way.Way.TheVariants.{Onward as onward, Back as back}
use Rattle.local_times.specs.Chains.{◌>>=◌}
use Rattle.local_times.specs.Locals.{second_of, local_day, arriving, Known}
use Rattle.span_law.specs.Carrying.{met_on, natural, carried}
use Rattle.span_law.specs.Measuring.{way_between, Parts, parts_by, gap, far_day, reach, days_apart, start_day, span_of, end_day, time_from, measured_dates, measured_by, no_span, measured}
use Rattle.span_law.specs.Stepping.{signed, in_days}
use Rattle.span_law.specs.Law.{Points, Aligned, OnlyDays, Smaller, Beyond, Keeps}
use Rattle.span_law.proofs.Measured.{TrueMeasure, MeasuresAreTrue}
use Rattle.span_law.proofs.Steps.{within_low, within_high, false_true, none_some, some_same}
use Rattle.span_law.proofs.Splits.{UpTo, lands_plain}
use Rattle.span_law.proofs.Parting.{Fewer, Parted, Dated, signed_none, parted, fewer}
use Rattle.local_times.proofs.Locals.{start_inside}
use Rattle.local_times.proofs.Results.{ok_same}
use Rattle.span_law.proofs.Reaches.{Reached, reached, days_largest, days_more, reach_none, meets, met_far, Ends, ends, end_leads, ends_lead}
use Rattle.span_law.proofs.Carries.{known_at_is, arriving_known, parts_none, parts_some, carried_none, carried_some, Came, came, stayed}

-- there and back again
sum_back : (a b : ℤ) → a +ℤ (b -ℤ a) ≡ b
sum_back a b = omega (arith, ints)

points_signed : (way : Way) (n : ℕ) → Points way (signed way n)
points_signed onward n = omega (arith, ints)
points_signed back n = omega (arith, ints)

points_left : (way : Way) (r b : ℤ) → UpTo way r b → Points way (b -ℤ r)
points_left onward r b h = omega (arith, ints)
points_left back r b h = omega (arith, ints)

pub abs_signed : (way : Way) (n : ℕ) → nat_abs (signed way n) ≡ n
abs_signed onward n = refl
abs_signed back zero = refl
abs_signed back (suc n) = refl

signed_abs : (way : Way) (z : ℤ) → Points way z → signed way (nat_abs z) ≡ z
signed_abs onward z h = omega (arith, ints)
signed_abs back z h = omega (arith, ints)

-- toward b from a
pub up_to_between : (a b : ℤ) → UpTo (way_between a b) a b
up_to_between a b = by (lt_z b a) refl
  where
    by : (t : Bool) → lt_z b a ≡ t → UpTo (cond t back onward) a b
    by true e = omega (arith, ints)
    by false e = omega (arith, ints)

abs_less : (way : Way) (m n : ℕ) → m < n → nat_abs (signed way m) < nat_abs (signed way n)
abs_less way m n h = let p = abs_signed way m in let q = abs_signed way n in omega arith

smaller_parts : (way : Way) (p q : Parts) (s t : ℤ) → Fewer p q → Smaller (span_of way p s) (span_of way q t)
smaller_parts way p q s t (inl h) = inl (abs_less way p.years q.years h)
smaller_parts way p q s t (inr (y, inl h)) = inr (ap (signed way) y, inl (abs_less way p.months q.months h))
smaller_parts way p q s t (inr (y, inr (m, inl h))) = inr (ap (signed way) y, inr (ap (signed way) m, inl (abs_less way p.weeks q.weeks h)))
smaller_parts way p q s t (inr (y, inr (m, inr (w, h)))) = inr (ap (signed way) y, inr (ap (signed way) m, inr (ap (signed way) w, inl (abs_less way p.days q.days h))))

smaller_time : (way : Way) (p q : Parts) (s t : ℤ) → p ≡ q → nat_abs s < nat_abs t → Smaller (span_of way p s) (span_of way q t)
smaller_time way p q s t e h = subst (λ (z : Parts). Smaller (span_of way p s) (span_of way z t)) e (inr (refl, inr (refl, inr (refl, inr (refl, h)))))

-- b comes strictly before e
abbrev Before : Way → ℤ → ℤ → Type 0
Before onward b e = b <ℤ e
Before back b e = e <ℤ b

before_up_to : (way : Way) (b e : ℤ) → Before way b e → UpTo way b e
before_up_to onward b e h = omega (arith, ints)
before_up_to back b e h = omega (arith, ints)

more_left : (way : Way) (r b e : ℤ) → UpTo way r b → Before way b e → nat_abs (b -ℤ r) < nat_abs (e -ℤ r)
more_left onward r b e h k = omega (arith, ints)
more_left back r b e h k = omega (arith, ints)

unequal : (d x y n m : ℕ) → nat_abs (pos x -ℤ pos d) ≡ n → nat_abs (pos y -ℤ pos d) ≡ m → n < m → x ≡ y → ⊥
unequal d x y n m p q h e = omega (arith, sym p ∙ ap (λ (z : ℕ). nat_abs (pos z -ℤ pos d)) e ∙ q)

-- days alone
abbrev only : ℕ → Parts
only n = record { years = 0; months = 0; weeks = 0; days = n }

-- what a span that arrives says of its time
time_left : (way : Way) (r time b : ℤ) → r +ℤ time ≡ b → Points way time → UpTo way r b × (time ≡ b -ℤ r)
time_left onward r time b e h = omega (arith, ints)
time_left back r time b e h = omega (arith, ints)

few_days : (way : Way) (l : ℤ) (n : ℕ) → (pos 1 ≤ℤ l) × (l ≤ℤ pos last_day) → pos 1 ≤ℤ (l +ℤ signed way n) → (l +ℤ signed way n) ≤ℤ pos last_day → n ≤ last_day
few_days onward l n h k m = omega (arith, ints)
few_days back l n h k m = omega (arith, ints)

days_sum : (way : Way) (d n : ℕ) → pos d +ℤ ((pos 7 *ℤ signed way 0) +ℤ signed way n) ≡ pos d +ℤ signed way n
days_sum onward d n = omega (arith, ints)
days_sum back d n = omega (arith, ints)

in_days_tells : (c : Calendar) (z day : ℤ) → in_days z ≡ Some day → (z ≡ day) × (pos 1 ≤ℤ z) × (z ≤ℤ pos last_day)
in_days_tells c z day e = by (within (pos 1) (pos last_day) z) refl e
  where
    by : (t : Bool) → within (pos 1) (pos last_day) z ≡ t → cond t (Some z) None ≡ Some day → (z ≡ day) × (pos 1 ≤ℤ z) × (z ≤ℤ pos last_day)
    by true f g = (some_same g, within_low (pos 1) (pos last_day) z f, within_high (pos 1) (pos last_day) z f)
    by false f g = none_some g

-- what one measured span keeps, in a direction
module _ (zone : Zone) (c : Calendar) (zl : ZoneLaws zone) (cl : CalendarLaws c) (a : ℤ) (ka : Known zone a) (way : Way) where
  inside : (pos 1 ≤ℤ local_day zone a) × (local_day zone a ≤ℤ pos last_day)
  inside = start_inside zone a zl ka

  module _ (b : ℤ) (kb : Known zone b) (u : UpTo way a b) where
    r : Reached zone a way b
    r = reached zone a way b u

    e : Ends zone a way b
    e = ends zone a way inside b r

    time_is : time_from zone a way b (reach zone a way (days_apart zone a way b)) ≡ b -ℤ r.at
    time_is = ap (time_from zone a way b) r.is

    parts : (unit : Measure) → Dated unit → Parted c way (start_day zone a way) (end_day zone a way b) (parts_by c way (start_day zone a way) (end_day zone a way b) unit)
    parts unit d = parted c cl way (start_day zone a way) (end_day zone a way b) e.start_one e.start_last e.end_one e.end_last (end_leads zone a way inside b e).0 unit d

    landing : r.at +ℤ time_from zone a way b (reach zone a way (days_apart zone a way b)) ≡ b
    landing = ap (λ (z : ℤ). r.at +ℤ z) time_is ∙ sum_back r.at b

    none_apart : days_apart zone a way b ≡ 0 → r.at ≡ a
    none_apart z = reach_none zone a way r.at (subst (λ (n : ℕ). reach zone a way n ≡ Ok r.at) z r.is)

    days_gap : nat_abs (pos (end_day zone a way b) -ℤ pos (start_day zone a way)) ≡ days_apart zone a way b
    days_gap = (end_leads zone a way inside b e).1

    arrives : (unit : Measure) → Dated unit → carried zone c a (measured_dates zone a way b c unit) ≡ Ok b
    arrives unit d =
        let p = parts_by c way (start_day zone a way) (end_day zone a way b) unit in
        let time = time_from zone a way b (reach zone a way (days_apart zone a way b)) in
        let k = parts unit d in
        let g = days_gap in
        ⊎_elim
        (λ (z : days_apart zone a way b ≡ 0).
        let w : start_day zone a way ≡ end_day zone a way b = omega (arith, ints) in
        carried_none zone c a (span_of way p time) (parts_none way p time (k.none w))
        ∙ ap (arriving zone) (ap (λ (x : ℤ). x +ℤ time) (sym (none_apart z)) ∙ landing)
        ∙ arriving_known zone b kb)
        (λ (z : days_apart zone a way b ≡ 0 → ⊥).
        carried_some zone c a (span_of way p time) (pos (end_day zone a way b)) r.at (parts_some way p time (k.some (λ w. z (omega (arith, ints))))) (k.lands time)
        (ap (met_on zone a) e.end_is ∙ met_far zone a way (days_apart zone a way b) r.at (omega arith) r.is)
        ∙ ap (arriving zone) landing
        ∙ arriving_known zone b kb)
        (cases_eq (days_apart zone a way b) 0)

    -- another span of days and time that arrives at b
    reach_at : (n : ℕ) (met : ℤ) → 1 ≤ n → pos 1 ≤ℤ far_day zone a way n → far_day zone a way n ≤ℤ pos last_day → met_on zone a (far_day zone a way n) ≡ Ok met → reach zone a way n ≡ Ok met
    reach_at zero met h k l m = absurd (omega arith)
    reach_at (suc n) met h k l m = meets zone a way n met k l m

    came_by : (n : ℕ) (time : ℤ) → 1 ≤ n → Points way time → Came zone c a (span_of way (only n) time) b → (n < days_apart zone a way b) ⊎ ((n ≡ days_apart zone a way b) × (time ≡ b -ℤ r.at))
    came_by n time h t k =
        let p = lands_plain c cl (start_day zone a way) e.start_one e.start_last (span_of way (only n) time) (signed_none way) (signed_none way) in
        let q = in_days_tells c _ k.day (sym p ∙ k.day_is) in
        let far : k.day ≡ far_day zone a way n = sym q.0 ∙ days_sum way (start_day zone a way) n ∙ ap (λ (z : ℤ). z +ℤ signed way n) e.start_is in
        let same : far_day zone a way n ≡ k.day = sym far in
        let low : pos 1 ≤ℤ far_day zone a way n = subst (λ (z : ℤ). pos 1 ≤ℤ z) (q.0 ∙ far) q.1 in
        let high : far_day zone a way n ≤ℤ pos last_day = subst (λ (z : ℤ). z ≤ℤ pos last_day) (q.0 ∙ far) q.2 in
        let at = reach_at n k.met h low high (ap (met_on zone a) same ∙ k.met_is) in
        let w = time_left way k.met time b k.sum t in
        let most = days_largest zone a way b n k.met (few_days way (local_day zone a) n inside low high) at w.0 in
        ⊎_elim (λ (l : n < days_apart zone a way b). inl l)
        (λ (l : days_apart zone a way b ≤ n).
        let s : n ≡ days_apart zone a way b = omega arith in
        let met : k.met ≡ r.at = ok_same (sym at ∙ ap (reach zone a way) s ∙ r.is) in
        inr (s, w.1 ∙ ap (λ (z : ℤ). b -ℤ z) met))
        (cases_lt n (days_apart zone a way b))

    fewer_days : (n : ℕ) (time : ℤ) → Points way time → carried zone c a (span_of way (only n) time) ≡ Ok b → (n < days_apart zone a way b) ⊎ ((n ≡ days_apart zone a way b) × (time ≡ b -ℤ r.at))
    fewer_days n time t k =
        ⊎_elim
        (λ (z : n ≡ 0).
        let w = time_left way a time b (stayed zone c a (span_of way (only n) time) b (parts_none way (only n) time (omega arith)) k) t in
        ⊎_elim (λ (l : n < days_apart zone a way b). inl l)
        (λ (l : days_apart zone a way b ≤ n).
        let s : days_apart zone a way b ≡ 0 = omega arith in
        inr (omega arith, w.1 ∙ ap (λ (x : ℤ). b -ℤ x) (sym (none_apart s))))
        (cases_lt n (days_apart zone a way b)))
        (λ (z : n ≡ 0 → ⊥). came_by n time (omega arith) t (came zone c a (span_of way (only n) time) b (parts_some way (only n) time (omega arith)) k))
        (cases_eq n 0)

    most_days : (t : Span) → OnlyDays t → Aligned way t → carried zone c a t ≡ Ok b → t ≢ measured_dates zone a way b c Day → nat_abs t.days < nat_abs (measured_dates zone a way b c Day).days
    most_days t o g k n =
        let is : span_of way (only (nat_abs t.days)) t.time ≡ t = λ i. record {
          years = (signed_none way ∙ sym o.years) i;
          months = (signed_none way ∙ sym o.months) i;
          weeks = (signed_none way ∙ sym o.weeks) i;
          days = signed_abs way t.days g.days i;
          time = t.time;
        } in
        let days = abs_signed way (gap c way (start_day zone a way) (end_day zone a way b)) ∙ days_gap in
        ⊎_elim
        (λ (l : nat_abs t.days < days_apart zone a way b). omega arith)
        (λ (l : (nat_abs t.days ≡ days_apart zone a way b) × (t.time ≡ b -ℤ r.at)).
        absurd (n (sym is ∙ ap (λ (m : ℕ). span_of way (only m) t.time) (l.0 ∙ sym days_gap) ∙ ap (span_of way (only (gap c way (start_day zone a way) (end_day zone a way b)))) (l.1 ∙ sym time_is))))
        (fewer_days (nat_abs t.days) t.time g.time (subst (λ (x : Span). carried zone c a x ≡ Ok b) (sym is) k))

    aligned : (unit : Measure) → Dated unit → Aligned way (measured_dates zone a way b c unit)
    aligned unit d =
        record {
          years = points_signed way (parts_by c way (start_day zone a way) (end_day zone a way b) unit).years;
          months = points_signed way (parts_by c way (start_day zone a way) (end_day zone a way b) unit).months;
          weeks = points_signed way (parts_by c way (start_day zone a way) (end_day zone a way b) unit).weeks;
          days = points_signed way (parts_by c way (start_day zone a way) (end_day zone a way b) unit).days;
          time = subst (Points way) (sym time_is) (points_left way r.at b r.near);
        }

  module _ (b : ℤ) (kb : Known zone b) (ub : UpTo way a b) (f : ℤ) (kf : Known zone f) (uf : UpTo way a f) (before : Before way b f) where
    farther : (unit : Measure) → Dated unit → Smaller (measured_dates zone a way b c unit) (measured_dates zone a way f c unit)
    farther unit d =
        let rb = r b kb ub in
        let rf = r f kf uf in
        let eb = e b kb ub in
        let ef = e f kf uf in
        let start = start_day zone a way in
        let m : days_apart zone a way b ≤ days_apart zone a way f = days_more zone a way b f ub (before_up_to way b f before) in
        ⊎_elim
        (λ (l : days_apart zone a way b < days_apart zone a way f).
        let gb = days_gap b kb ub in
        let gf = days_gap f kf uf in
        smaller_parts way (parts_by c way start (end_day zone a way b) unit) (parts_by c way start (end_day zone a way f) unit)
        (time_from zone a way b (reach zone a way (days_apart zone a way b))) (time_from zone a way f (reach zone a way (days_apart zone a way f)))
        (fewer c cl way start (end_day zone a way b) (end_day zone a way f) eb.start_one eb.start_last eb.end_one eb.end_last ef.end_one ef.end_last
        (end_leads zone a way inside b eb).0 (end_leads zone a way inside f ef).0 (ends_lead zone a way inside b f eb ef m) (λ z. unequal start (end_day zone a way b) (end_day zone a way f) (days_apart zone a way b) (days_apart zone a way f) gb gf l z) unit d))
        (λ (l : days_apart zone a way f ≤ days_apart zone a way b).
        let same : days_apart zone a way b ≡ days_apart zone a way f = omega arith in
        let at : rf.at ≡ rb.at = ok_same (sym rf.is ∙ ap (reach zone a way) (sym same) ∙ rb.is) in
        let more = more_left way rb.at b f rb.near before in
        smaller_time way (parts_by c way start (end_day zone a way b) unit) (parts_by c way start (end_day zone a way f) unit)
        (time_from zone a way b (reach zone a way (days_apart zone a way b))) (time_from zone a way f (reach zone a way (days_apart zone a way f)))
        (ap (λ (n : ℕ). parts_by c way start (natural (far_day zone a way n)) unit) same)
        (subst (λ (z : ℤ). nat_abs z < nat_abs (time_from zone a way f (reach zone a way (days_apart zone a way f)))) (sym (time_is b kb ub))
        (subst (λ (z : ℤ). nat_abs (b -ℤ rb.at) < nat_abs z) (sym (time_is f kf uf ∙ ap (λ (z : ℤ). f -ℤ z) at)) more)))
        (cases_lt (days_apart zone a way b) (days_apart zone a way f))

-- ── the law ──

same_tells : (a b : ℤ) → is a b ≡ true → a ≡ b
same_tells a b e = by (le_z a b) refl e
  where
    by : (t : Bool) → le_z a b ≡ t → cond t (le_z b a) false ≡ true → a ≡ b
    by true f g = omega (arith, ints)
    by false f g = false_true g

apart_tells : (a b : ℤ) → is a b ≡ false → a ≢ b
apart_tells a b e s = by (le_z a b) refl e
  where
    by : (t : Bool) → le_z a b ≡ t → cond t (le_z b a) false ≡ false → ⊥
    by true f g = omega (arith, ints)
    by false f g = omega (arith, ints)

pub apart_is : (a b : ℤ) → a ≢ b → is a b ≡ false
apart_is a b n = by (is a b) refl
  where
    by : (t : Bool) → is a b ≡ t → is a b ≡ false
    by true e = absurd (n (same_tells a b e))
    by false e = e

way_onward : (a b : ℤ) → a <ℤ b → way_between a b ≡ onward
way_onward a b h = let e : false ≡ lt_z b a = omega (arith, ints) in ap (λ (t : Bool). cond t back onward) (sym e)

way_back : (a b : ℤ) → b <ℤ a → way_between a b ≡ back
way_back a b h = let e : true ≡ lt_z b a = omega (arith, ints) in ap (λ (t : Bool). cond t back onward) (sym e)

-- two marks on one side
beyond_way : (a b f : ℤ) → Beyond a b f → (way_between a f ≡ way_between a b) × Before (way_between a b) b f
beyond_way a b f (inl h) =
    let w = way_onward a b h.0 in
    (way_onward a f (omega (arith, ints)) ∙ sym w, subst (λ (z : Way). Before z b f) (sym w) h.1)
beyond_way a b f (inr h) =
    let w = way_back a b h.0 in
    (way_back a f (omega (arith, ints)) ∙ sym w, subst (λ (z : Way). Before z b f) (sym w) h.1)

beyond_apart : (a b f : ℤ) → Beyond a b f → (a ≢ b) × (a ≢ f)
beyond_apart a b f (inl h) = (λ e. omega (arith, ints), λ e. omega (arith, ints))
beyond_apart a b f (inr h) = (λ e. omega (arith, ints), λ e. omega (arith, ints))

points_none : (way : Way) → Points way (pos 0)
points_none onward = omega (arith, ints)
points_none back = omega (arith, ints)

pub measured_tells : (zone : Zone) (c : Calendar) (unit : Measure) (a b : ℤ) (s : Span) → Known zone b → measured zone c unit a b ≡ Ok s → cond (is a b) no_span (measured_by zone a (way_between a b) b c unit) ≡ s
measured_tells zone c unit a b s k e =
    ok_same (sym (ap (λ (o : Result ℤ Fault). o >>= λ _. Ok (cond (is a b) no_span (measured_by zone a (way_between a b) b c unit))) (known_at_is zone b (zone (second_of b)) k.sure)) ∙ e)

by_dates : (zone : Zone) (a : ℤ) (way : Way) (b : ℤ) (c : Calendar) (unit : Measure) → Dated unit → measured_by zone a way b c unit ≡ measured_dates zone a way b c unit
by_dates zone a way b c Year d = refl
by_dates zone a way b c Month d = refl
by_dates zone a way b c Week d = refl
by_dates zone a way b c Day d = refl
by_dates zone a way b c Hour d = absurd d

module _ (zone : Zone) (c : Calendar) (zl : ZoneLaws zone) (cl : CalendarLaws c) (a b : ℤ) (ka : Known zone a) (kb : Known zone b) where
  none_true : (unit : Measure) → a ≡ b → TrueMeasure zone c unit a b no_span
  none_true unit same =
      let sum : a +ℤ pos 0 ≡ b = omega (arith, ints) in
      record {
        arrives = carried_none zone c a no_span refl ∙ ap (arriving zone) sum ∙ arriving_known zone b kb;
        keeps = record { aligned = record { years = points_none (way_between a b); months = points_none (way_between a b); weeks = points_none (way_between a b); days = points_none (way_between a b); time = points_none (way_between a b) }; nought = λ _. refl };
        most_days = λ u t o k e n. absurd (n (k.nought same));
        farther = λ f t k y m. absurd ((beyond_apart a b f y).0 same);
      }

  dated_true : (unit : Measure) → Dated unit → a ≢ b → TrueMeasure zone c unit a b (measured_dates zone a (way_between a b) b c unit)
  dated_true unit d n =
      let way = way_between a b in
      let u = up_to_between a b in
      record {
        arrives = arrives zone c zl cl a ka way b kb u unit d;
        keeps = record { aligned = aligned zone c zl cl a ka way b kb u unit d; nought = λ e. absurd (n e) };
        most_days = λ e. subst (λ (v : Measure). (t : Span) → OnlyDays t → Keeps a b t → carried zone c a t ≡ Ok b → t ≢ measured_dates zone a way b c v → nat_abs t.days < nat_abs (measured_dates zone a way b c v).days) (sym e)
            (λ t o k h g. most_days zone c zl cl a ka way b kb u t o k.aligned h g);
        farther = λ f t k y m.
            let w = beyond_way a b f y in
            let is_t : measured_dates zone a way f c unit ≡ t =
            ap (λ (z : Way). measured_dates zone a z f c unit) (sym w.0) ∙ sym (by_dates zone a (way_between a f) f c unit d)
            ∙ sym (cond-false (is a f) no_span (measured_by zone a (way_between a f) f c unit) (apart_is a f (beyond_apart a b f y).1)) ∙ measured_tells zone c unit a f t k m in
            subst (Smaller (measured_dates zone a way b c unit)) is_t
            (farther zone c zl cl a ka way b kb u f k (subst (λ (z : Way). UpTo z a f) w.0 (up_to_between a f)) w.1 unit d);
      }

  hour_true : a ≢ b → TrueMeasure zone c Hour a b (measured_by zone a (way_between a b) b c Hour)
  hour_true n =
      let way = way_between a b in
      let z = points_none way in
      record {
        arrives = carried_none zone c a (measured_by zone a way b c Hour) refl ∙ ap (arriving zone) (sum_back a b) ∙ arriving_known zone b kb;
        keeps = record { aligned = record { years = z; months = z; weeks = z; days = z; time = points_left way a b (up_to_between a b) }; nought = λ e. absurd (n e) };
        most_days = λ e. let w : ◌≡◌ {A = ℕ} 0 1 = cc in absurd (omega arith);
        farther = λ f t k y m.
            let w = beyond_way a b f y in
            subst (Smaller (measured_by zone a way b c Hour))
            (sym (cond-false (is a f) no_span (measured_by zone a (way_between a f) f c Hour) (apart_is a f (beyond_apart a b f y).1)) ∙ measured_tells zone c Hour a f t k m)
            (inr (refl, inr (refl, inr (refl, inr (refl, more_left way a b f (up_to_between a b) w.1)))));
      }

  unit_true : (unit : Measure) → a ≢ b → TrueMeasure zone c unit a b (measured_by zone a (way_between a b) b c unit)
  unit_true Year n = dated_true Year tt n
  unit_true Month n = dated_true Month tt n
  unit_true Week n = dated_true Week tt n
  unit_true Day n = dated_true Day tt n
  unit_true Hour n = hour_true n

  span_true : (unit : Measure) (t : Bool) → is a b ≡ t → TrueMeasure zone c unit a b (cond t no_span (measured_by zone a (way_between a b) b c unit))
  span_true unit true e = none_true unit (same_tells a b e)
  span_true unit false e = unit_true unit (apart_tells a b e)

-- every measured span is true
pub measured_spans_are_true : MeasuresAreTrue
measured_spans_are_true zone c zl cl unit a b s ka kb m =
    subst (TrueMeasure zone c unit a b) (measured_tells zone c unit a b s kb m) (span_true zone c zl cl a b ka kb unit (is a b) refl)
