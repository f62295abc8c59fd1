-- The years, months and days from one day to another.
use Rattle.std.proofs.Common.{◌≡◌, ℕ, zero, suc, ◌+◌, ◌<◌, ◌≤◌, min, true, cond, ℤ, pos, ◌+ℤ◌, ◌-ℤ◌, ◌*ℤ◌, nat_abs, ◌≤ℤ◌, ◌<ℤ◌, Some, None, Option, sym, refl, ap, ◌∙◌, subst, inl, inr, ⊎_elim, arith}
use Rattle.std.proofs.lemmas.Int.{ints, by_lt_z}
use Rattle.std.proofs.lemmas.Bool.{cases_eq, cond-true}
use Rattle.years.specs.declared.date.Date.{Date}
use Rattle.timebase.specs.declared.span.Span.{Span}
use Rattle.calendar.specs.Calendars.{Calendar, CalendarLaws, last_day, within}
use Rattle.span_law.specs.declared.way.Way.{Way}
use Rattle.span_law.specs.declared.way.Way.TheVariants.{Onward as onward, Back as back}
use Rattle.span_law.specs.Measuring.{date_not_past, fits_before, years_apart, months_apart, distance, days_left}
use Rattle.span_law.specs.Stepping.{signed, way_of, and_then, months_on, year_on, cut, month_day_on, in_days, day_on}
use Rattle.timebase.specs.Spans.{part_limit}
use Rattle.span_law.specs.declared.year_month.YearMonth.{YearMonth}
use Rattle.timebase.proofs.Searches.{most_passes, most_more}
use Rattle.span_law.proofs.Order.{place, le_place, place_le, spot, there, spots_climb, spots_tell, found}
use Rattle.span_law.specs.Standing.{Leads, Stands, There}
use Rattle.span_law.proofs.Steps.{none_some, some_same, false_true, Ahead, Moved, moved_again, within_is, month_at, month_of, none_more, months_move, years_move}

-- the place z is not past the place w
abbrev pub UpTo : Way → ℤ → ℤ → Type 0
UpTo onward z w = z ≤ℤ w
UpTo back z w = w ≤ℤ z

pub leads_self : (way : Way) (d : ℕ) → Leads way d d
leads_self onward d = omega arith
leads_self back d = omega arith

module _ (c : Calendar) (laws : CalendarLaws c) where
  -- the same, with places
  pub fits_up_to : (way : Way) (p : YearMonth) (day : ℕ) (x : Date) → Stands c p.year p.month → day ≤ 31 → There c x.year x.month x.day →
      date_not_past way p day x ≡ true → UpTo way (place p.year p.month day) (place x.year x.month x.day)
  fits_up_to onward p day x s h t e = le_place p.year p.month day x.year x.month x.day s.few h t.stands.few t.few e
  fits_up_to back p day x s h t e = le_place x.year x.month x.day p.year p.month day t.stands.few t.few s.few h e

  pub up_to_fits : (way : Way) (p : YearMonth) (day : ℕ) (x : Date) → Stands c p.year p.month → day ≤ 31 → There c x.year x.month x.day →
      UpTo way (place p.year p.month day) (place x.year x.month x.day) → date_not_past way p day x ≡ true
  up_to_fits onward p day x s h t e = place_le p.year p.month day x.year x.month x.day s.few h t.stands.few t.few e
  up_to_fits back p day x s h t e = place_le x.year x.month x.day p.year p.month day t.stands.few t.few s.few h e

  pub cut_there : (day : ℕ) (q : YearMonth) → 1 ≤ day → day ≤ 31 → Stands c q.year q.month → There c q.year q.month (min day (c.size q.year q.month))
  cut_there day q h k s =
      let d = laws.some_days q.year q.month s.low s.high s.one s.most in
      record { stands = s; one = omega arith; most = omega arith; few = omega arith }

  -- what is not past an uncut day is not past the cut one
  cut_keeps : (x : Date) (day : ℕ) (q : YearMonth) → There c x.year x.month x.day → 1 ≤ day → day ≤ 31 → Stands c q.year q.month →
      place x.year x.month x.day ≤ℤ place q.year q.month day → place x.year x.month x.day ≤ℤ place q.year q.month (min day (c.size q.year q.month))
  cut_keeps x day q t h k s l =
      let v = cut_there day q h k s in
      let v_one = v.one in
      let t_few = t.few in
      let t_month = t.stands.few in
      let s_few = s.few in
      by_lt_z x.year q.year
      (λ (g : x.year <ℤ q.year). omega (arith, ints))
      (λ (g : q.year ≤ℤ x.year).
      let y_is : x.year ≡ q.year = omega (arith, ints) in
      ⊎_elim
      (λ (e : x.month ≡ q.month).
      let b : x.day ≤ c.size q.year q.month = subst (λ (z : ℤ). x.day ≤ c.size z q.month) y_is (subst (λ (n : ℕ). x.day ≤ c.size x.year n) e t.most) in
      omega (arith, ints))
      (λ (e : x.month ≡ q.month → ⊥). omega (arith, ints))
      (cases_eq x.month q.month))

  cut_start : (day : ℕ) → 1 ≤ day → day ≤ last_day → c.number (cut c (c.date day).day (month_of (c.date day))) ≡ Some day
  cut_start day h k =
      let t = there c laws day h k in
      let m : min (c.date day).day (c.size (c.date day).year (c.date day).month) ≡ (c.date day).day = omega (arith, t.most) in
      ap (λ (n : ℕ). c.number (record { year = (c.date day).year; month = (c.date day).month; day = n })) m ∙ laws.numbered day h k

  pub months_same : (way : Way) (n : ℕ) (p : YearMonth) → months_on c (way_of (signed way n)) (nat_abs (signed way n)) p ≡ months_on c way n p
  unfolding months_on
  months_same onward n p = refl
  months_same back zero p = refl
  months_same back (suc n) p = refl

  -- the day k, cut after years and months, lies on the way from d to x
  pub record Cuts (way : Way) (d x years months : ℕ) : Type 0 where
    pub day : ℕ
    pub is : month_day_on c d (signed way years) (signed way months) ≡ Some day
    pub behind : Leads way d day
    pub before : Leads way day x
    pub start : years + months ≡ 0 → day ≡ d
    pub none : d ≡ x → years + months ≡ 0

  found_on : (way : Way) (d x : ℕ) → 1 ≤ d → d ≤ last_day → 1 ≤ x → x ≤ last_day → (y : ℤ) (m n : ℕ) → There c y m n →
      UpTo way (spot c laws d) (place y m n) → UpTo way (place y m n) (spot c laws x) →
      (k : ℕ) × Leads way d k × Leads way k x × (c.date k ≡ record { year = y; month = m; day = n }) × (1 ≤ k) × (k ≤ last_day)
  found_on onward d x d1 d2 x1 x2 y m n t l u =
      let r = found c laws y m n t d x d1 (spots_tell c laws d x d1 x1 d2 x2 (omega (arith, ints))) x2 l u in
      (r.0, r.1, r.2, r.3, omega (arith, r.1), omega (arith, r.2))
  found_on back d x d1 d2 x1 x2 y m n t l u =
      let r = found c laws y m n t x d x1 (spots_tell c laws x d x1 d1 x2 d2 (omega (arith, ints))) d2 u l in
      (r.0, r.2, r.1, r.3, omega (arith, r.1), omega (arith, r.2))

  -- ahead of its month, a day's month lies past the day
  ahead_past : (way : Way) (d : Date) (q : YearMonth) (n : ℕ) → There c d.year d.month d.day → Ahead way (month_of d) q → 1 ≤ n → n ≤ 31 →
      UpTo way (place d.year d.month d.day) (place q.year q.month n) × ¬ (UpTo way (place q.year q.month n) (place d.year d.month d.day))
  ahead_past onward d q n t a h k = let f = t.few in (omega (arith, ints), λ e. omega (arith, ints))
  ahead_past back d q n t a h k = let f = t.few in (omega (arith, ints), λ e. omega (arith, ints))

  cut_up_to : (way : Way) (x : Date) (day : ℕ) (q : YearMonth) → There c x.year x.month x.day → 1 ≤ day → day ≤ 31 → Stands c q.year q.month →
      UpTo way (place q.year q.month day) (place x.year x.month x.day) →
      UpTo way (place q.year q.month (min day (c.size q.year q.month))) (place x.year x.month x.day)
  cut_up_to onward x day q t h k s l = omega (arith, ints)
  cut_up_to back x day q t h k s l = cut_keeps x day q t h k s l

  pub cut_at : (way : Way) (d x : ℕ) → 1 ≤ d → d ≤ last_day → 1 ≤ x → x ≤ last_day → Leads way d x → (years months : ℕ) (p q : YearMonth) →
      year_on c (c.date d) (signed way years) ≡ Some p → months_on c way months p ≡ Some q → date_not_past way q (c.date d).day (c.date x) ≡ true →
      Cuts way d x years months
  unfolding spot month_day_on
  cut_at way d x d1 d2 x1 x2 l years months p q e f g = by (moved_again way years months (month_of (c.date d)) p q pm.1 qm.1)
    where
      t : There c (c.date d).year (c.date d).month (c.date d).day
      t = there c laws d d1 d2

      v : There c (c.date x).year (c.date x).month (c.date x).day
      v = there c laws x x1 x2

      pm : Stands c p.year p.month × Moved way years (month_of (c.date d)) p
      pm = years_move c laws way years (c.date d) p t e

      qm : Stands c q.year q.month × Moved way months p q
      qm = months_move c laws way months p q pm.0 f

      up : UpTo way (place q.year q.month (c.date d).day) (place (c.date x).year (c.date x).month (c.date x).day)
      up = fits_up_to way q (c.date d).day (c.date x) qm.0 t.few v g

      on : (k : ℕ) → c.number (cut c (c.date d).day q) ≡ Some k → month_day_on c d (signed way years) (signed way months) ≡ Some k
      on k h =
          ap (λ (o : Option YearMonth). and_then o (λ r. and_then (months_on c (way_of (signed way months)) (nat_abs (signed way months)) r) (λ w. c.number (cut c (c.date d).day w)))) e
          ∙ ap (λ (o : Option YearMonth). and_then o (λ w. c.number (cut c (c.date d).day w))) (months_same way months p ∙ f)
          ∙ h

      by : Moved way (years + months) (month_of (c.date d)) q → Cuts way d x years months
      by (inl h) =
          record {
            day = d;
            is = on d (subst (λ (r : YearMonth). c.number (cut c (c.date d).day r) ≡ Some d) (sym h.1) (cut_start d d1 d2));
            behind = leads_self way d;
            before = l;
            start = λ _. refl;
            none = λ _. h.0;
          }
      by (inr h) =
          let n = min (c.date d).day (c.size q.year q.month) in
          let w = cut_there (c.date d).day q t.one t.few qm.0 in
          let r = found_on way d x d1 d2 x1 x2 q.year q.month n w (ahead_past way (c.date d) q n t h.1 w.one w.few).0 (cut_up_to way (c.date x) (c.date d).day q v t.one t.few qm.0 up) in
          record {
            day = r.0;
            is = on r.0 (subst (λ (z : Date). c.number z ≡ Some r.0) r.3 (laws.numbered r.0 r.4 r.5));
            behind = r.1;
            before = r.2;
            start = λ z. absurd (omega (arith, h.0));
            none = λ s. absurd ((ahead_past way (c.date d) q (c.date d).day t h.1 t.one t.few).1 (subst (λ (z : ℕ). UpTo way (place q.year q.month (c.date d).day) (place (c.date z).year (c.date z).month (c.date z).day)) (sym s) up));
          }

  leads_spots : (way : Way) (d x : ℕ) → 1 ≤ d → d ≤ last_day → 1 ≤ x → x ≤ last_day → Leads way d x → UpTo way (spot c laws d) (spot c laws x)
  leads_spots onward d x d1 d2 x1 x2 l = spots_climb c laws d x d1 l x2
  leads_spots back d x d1 d2 x1 x2 l = spots_climb c laws x d x1 l d2

  year_none : (way : Way) (d : Date) → There c d.year d.month d.day → year_on c d (signed way 0) ≡ Some (month_of d)
  unfolding year_on
  year_none way d t =
      let w = t.stands in
      subst (λ (z : ℤ). cond (within c.first c.last z) (Some (month_at z (c.twin d.year d.month z))) None ≡ Some (month_of d)) (sym (none_more way d.year))
      (cond-true (within c.first c.last d.year) (Some (month_at d.year (c.twin d.year d.month d.year))) None (within_is c.first c.last d.year w.low w.high)
      ∙ ap (λ (n : ℕ). Some (month_at d.year n)) (laws.twin_same d.year d.month w.low w.high w.one w.most))

  -- after no years and no months nothing is past
  pub years_start : (way : Way) (d x : ℕ) → 1 ≤ d → d ≤ last_day → 1 ≤ x → x ≤ last_day → Leads way d x → fits_before c way d x (year_on c (c.date d) (signed way 0)) ≡ true
  unfolding spot
  years_start way d x d1 d2 x1 x2 l =
      let t = there c laws d d1 d2 in
      ap (fits_before c way d x) (year_none way (c.date d) t)
      ∙ up_to_fits way (month_of (c.date d)) (c.date d).day (c.date x) t.stands t.few (there c laws x x1 x2) (leads_spots way d x d1 d2 x1 x2 l)

  pub months_start : (way : Way) (d x : ℕ) (o : Option YearMonth) → fits_before c way d x o ≡ true → fits_before c way d x (and_then o (months_on c way 0)) ≡ true
  unfolding months_on
  months_start way d x (Some p) e = e
  months_start way d x None e = e

  pub years_fit : (way : Way) (d x : ℕ) → 1 ≤ d → d ≤ last_day → 1 ≤ x → x ≤ last_day → Leads way d x →
      fits_before c way d x (year_on c (c.date d) (signed way (years_apart c way d x))) ≡ true
  unfolding years_apart
  years_fit way d x d1 d2 x1 x2 l =
      most_passes (λ n. fits_before c way d x (year_on c (c.date d) (signed way n))) part_limit (years_start way d x d1 d2 x1 x2 l)

  months_fit : (way : Way) (d x years : ℕ) → fits_before c way d x (year_on c (c.date d) (signed way years)) ≡ true →
      fits_before c way d x (and_then (year_on c (c.date d) (signed way years)) (months_on c way (months_apart c way d x years))) ≡ true
  unfolding months_apart
  months_fit way d x years e =
      most_passes (λ n. fits_before c way d x (and_then (year_on c (c.date d) (signed way years)) (months_on c way n))) part_limit
      (months_start way d x (year_on c (c.date d) (signed way years)) e)

  cuts_by : (way : Way) (d x : ℕ) → 1 ≤ d → d ≤ last_day → 1 ≤ x → x ≤ last_day → Leads way d x → (years months : ℕ) (p : YearMonth) (o : Option YearMonth) →
      year_on c (c.date d) (signed way years) ≡ Some p → months_on c way months p ≡ o → fits_before c way d x o ≡ true → Cuts way d x years months
  cuts_by way d x d1 d2 x1 x2 l years months p (Some q) e f g = cut_at way d x d1 d2 x1 x2 l years months p q e f g
  cuts_by way d x d1 d2 x1 x2 l years months p None e f g = false_true g

  cuts_from : (way : Way) (d x : ℕ) → 1 ≤ d → d ≤ last_day → 1 ≤ x → x ≤ last_day → Leads way d x → (years months : ℕ) (o : Option YearMonth) →
      year_on c (c.date d) (signed way years) ≡ o → fits_before c way d x (and_then o (months_on c way months)) ≡ true → Cuts way d x years months
  cuts_from way d x d1 d2 x1 x2 l years months (Some p) e g = cuts_by way d x d1 d2 x1 x2 l years months p (months_on c way months p) e refl g
  cuts_from way d x d1 d2 x1 x2 l years months None e g = false_true g

  -- the years given, and then the most months, lead to a day on the way
  pub cuts : (way : Way) (d x : ℕ) → 1 ≤ d → d ≤ last_day → 1 ≤ x → x ≤ last_day → Leads way d x → (years : ℕ) →
      fits_before c way d x (year_on c (c.date d) (signed way years)) ≡ true → Cuts way d x years (months_apart c way d x years)
  cuts way d x d1 d2 x1 x2 l years e =
      cuts_from way d x d1 d2 x1 x2 l years (months_apart c way d x years) (year_on c (c.date d) (signed way years)) refl (months_fit way d x years e)

  -- no years and no months lead to the day itself
  pub plain : (d : ℕ) → 1 ≤ d → d ≤ last_day → month_day_on c d (pos 0) (pos 0) ≡ Some d
  plain d d1 d2 =
      let k = cuts_from onward d d d1 d2 d1 d2 (leads_self onward d) 0 0 (year_on c (c.date d) (pos 0)) refl (months_start onward d d (year_on c (c.date d) (pos 0)) (years_start onward d d d1 d2 d1 d2 (leads_self onward d))) in
      k.is ∙ ap Some (k.start refl)

  pub left_is : (way : Way) (d x years months : ℕ) (k : Cuts way d x years months) → days_left c way d x years months ≡ nat_abs (pos x -ℤ pos k.day)
  unfolding days_left
  left_is way d x years months k = ap (distance c way d x) k.is

  back_to : (way : Way) (k x : ℕ) → Leads way k x → pos k +ℤ ((pos 7 *ℤ signed way 0) +ℤ signed way (nat_abs (pos x -ℤ pos k))) ≡ pos x
  back_to onward k x l = omega (arith, ints)
  back_to back k x l = omega (arith, ints)

  pub in_days_is : (z : ℤ) → pos 1 ≤ℤ z → z ≤ℤ pos last_day → in_days z ≡ Some z
  in_days_is z l h = cond-true (within (pos 1) (pos last_day) z) (Some z) None (within_is (pos 1) (pos last_day) z l h)

  -- the days left lead on to the end
  pub lands : (way : Way) (d x years months : ℕ) → 1 ≤ x → x ≤ last_day → Cuts way d x years months → (time : ℤ) →
      day_on c d (record { years = signed way years; months = signed way months; weeks = signed way 0; days = signed way (days_left c way d x years months); time = time }) ≡ Some (pos x)
  unfolding day_on
  lands way d x years months x1 x2 k time =
      ap (λ (o : Option ℕ). and_then o (λ n. in_days (pos n +ℤ ((pos 7 *ℤ signed way 0) +ℤ signed way (days_left c way d x years months))))) k.is
      ∙ ap (λ (n : ℕ). in_days (pos k.day +ℤ ((pos 7 *ℤ signed way 0) +ℤ signed way n))) (left_is way d x years months k)
      ∙ ap in_days (back_to way k.day x k.before)
      ∙ in_days_is (pos x) (omega (arith, ints)) (omega (arith, ints))

  -- no years and no months: weeks and days alone
  pub lands_plain : (d : ℕ) → 1 ≤ d → d ≤ last_day → (s : Span) → s.years ≡ pos 0 → s.months ≡ pos 0 → day_on c d s ≡ in_days (pos d +ℤ ((pos 7 *ℤ s.weeks) +ℤ s.days))
  unfolding day_on
  lands_plain d d1 d2 s e f =
      ap (λ (z : ℤ). and_then (month_day_on c d z s.months) (λ n. in_days (pos n +ℤ ((pos 7 *ℤ s.weeks) +ℤ s.days)))) e
      ∙ ap (λ (z : ℤ). and_then (month_day_on c d (pos 0) z) (λ n. in_days (pos n +ℤ ((pos 7 *ℤ s.weeks) +ℤ s.days)))) f
      ∙ ap (λ (o : Option ℕ). and_then o (λ n. in_days (pos n +ℤ ((pos 7 *ℤ s.weeks) +ℤ s.days)))) (plain d d1 d2)

  -- ── a farther end ──

  up_to_on : (way : Way) (z w v : ℤ) → UpTo way z w → UpTo way w v → UpTo way z v
  up_to_on onward z w v h k = omega (arith, ints)
  up_to_on back z w v h k = omega (arith, ints)

  fits_more : (way : Way) (d x y : ℕ) → 1 ≤ d → d ≤ last_day → 1 ≤ x → x ≤ last_day → 1 ≤ y → y ≤ last_day → Leads way x y → (o : Option YearMonth) →
      ((p : YearMonth) → o ≡ Some p → Stands c p.year p.month) → fits_before c way d x o ≡ true → fits_before c way d y o ≡ true
  unfolding spot
  fits_more way d x y d1 d2 x1 x2 y1 y2 l (Some p) s e =
      let t = there c laws d d1 d2 in
      up_to_fits way p (c.date d).day (c.date y) (s p refl) t.few (there c laws y y1 y2)
      (up_to_on way _ (spot c laws x) _ (fits_up_to way p (c.date d).day (c.date x) (s p refl) t.few (there c laws x x1 x2) e) (leads_spots way x y x1 x2 y1 y2 l))
  fits_more way d x y d1 d2 x1 x2 y1 y2 l None s e = false_true e

  stands_on : (way : Way) (months : ℕ) (o : Option YearMonth) → ((p : YearMonth) → o ≡ Some p → Stands c p.year p.month) →
      (q : YearMonth) → and_then o (months_on c way months) ≡ Some q → Stands c q.year q.month
  stands_on way months (Some p) s q e = (months_move c laws way months p q (s p refl) e).0
  stands_on way months None s q e = none_some e

  pub years_more : (way : Way) (d x y : ℕ) → 1 ≤ d → d ≤ last_day → 1 ≤ x → x ≤ last_day → 1 ≤ y → y ≤ last_day → Leads way d x → Leads way x y →
      years_apart c way d x ≤ years_apart c way d y
  unfolding years_apart
  years_more way d x y d1 d2 x1 x2 y1 y2 l m =
      most_more (λ n. fits_before c way d x (year_on c (c.date d) (signed way n))) (λ n. fits_before c way d y (year_on c (c.date d) (signed way n))) part_limit
      (years_start way d x d1 d2 x1 x2 l)
      (λ n e. fits_more way d x y d1 d2 x1 x2 y1 y2 m (year_on c (c.date d) (signed way n)) (λ p f. (years_move c laws way n (c.date d) p (there c laws d d1 d2) f).0) e)

  pub months_more : (way : Way) (d x y : ℕ) → 1 ≤ d → d ≤ last_day → 1 ≤ x → x ≤ last_day → 1 ≤ y → y ≤ last_day → Leads way x y → (years : ℕ) →
      fits_before c way d x (year_on c (c.date d) (signed way years)) ≡ true → months_apart c way d x years ≤ months_apart c way d y years
  unfolding months_apart
  months_more way d x y d1 d2 x1 x2 y1 y2 m years g =
      most_more (λ n. fits_before c way d x (and_then (year_on c (c.date d) (signed way years)) (months_on c way n)))
      (λ n. fits_before c way d y (and_then (year_on c (c.date d) (signed way years)) (months_on c way n))) part_limit
      (months_start way d x (year_on c (c.date d) (signed way years)) g)
      (λ n e. fits_more way d x y d1 d2 x1 x2 y1 y2 m (and_then (year_on c (c.date d) (signed way years)) (months_on c way n))
      (stands_on way n (year_on c (c.date d) (signed way years)) (λ p f. (years_move c laws way years (c.date d) p (there c laws d d1 d2) f).0)) e)

  farther_left : (way : Way) (k x y : ℕ) → Leads way k x → Leads way x y → ¬ (x ≡ y) → nat_abs (pos x -ℤ pos k) < nat_abs (pos y -ℤ pos k)
  farther_left onward k x y h l n = omega (arith, ints)
  farther_left back k x y h l n = omega (arith, ints)

  pub left_more : (way : Way) (d x y years months : ℕ) → Cuts way d x years months → Cuts way d y years months → Leads way x y → ¬ (x ≡ y) →
      days_left c way d x years months < days_left c way d y years months
  left_more way d x y years months k j l n =
      let s : k.day ≡ j.day = some_same (sym k.is ∙ j.is) in
      let f = farther_left way k.day x y k.before l n in
      let p = left_is way d x years months k in
      let q = left_is way d y years months j ∙ ap (λ (z : ℕ). nat_abs (pos y -ℤ pos z)) (sym s) in
      omega arith
