-- The counts of years and months are the most there are: each count below one that fits does, and the bound of the search leaves none out.
use Rattle.std.proofs.Common.{◌≡◌, ℕ, zero, suc, ◌<◌, ◌≤◌, min, Bool, true, false, cond, ℤ, pos, ◌+ℤ◌, ◌-ℤ◌, nat_abs, ◌≤ℤ◌, Some, None, Option, sym, refl, ap, ◌∙◌, ⊎_elim, arith}
use Rattle.std.proofs.lemmas.Int.{ints}
use Rattle.std.proofs.lemmas.Bool.{cases_lt, cond-true}
use Rattle.years.specs.declared.date.Date.{Date}
use Rattle.calendar.specs.Calendars.{Calendar, CalendarLaws, last_day, within}
use Rattle.span_law.specs.declared.way.Way.{Way}
use Rattle.span_law.specs.declared.way.Way.TheVariants.{Onward as onward, Back as back}
use Rattle.span_law.specs.Measuring.{date_not_past, fits_before, years_apart, months_apart}
use Rattle.span_law.specs.Stepping.{signed, way_of, and_then, month_beside, months_on, year_on, cut, month_day_on}
use Rattle.timebase.specs.Spans.{part_limit}
use Rattle.span_law.specs.declared.year_month.YearMonth.{YearMonth}
use Rattle.timebase.proofs.Searches.{most_next}
use Rattle.span_law.proofs.Order.{place, spot, there, spots_climb, years_slow}
use Rattle.span_law.specs.Standing.{Leads, Stands}
use Rattle.span_law.proofs.Steps.{none_some, some_same, false_true, Ahead, within_low, within_high, within_is, month_at, beside_moves, months_move, years_move}
use Rattle.span_law.proofs.Splits.{UpTo, Cuts, cut_at, cut_there, fits_up_to, up_to_fits, months_same}

module _ (c : Calendar) (laws : CalendarLaws c) where
  -- ── years ──

  pub year_there : (d : Date) (z : ℤ) → c.first ≤ℤ (d.year +ℤ z) → (d.year +ℤ z) ≤ℤ c.last → year_on c d z ≡ Some (month_at (d.year +ℤ z) (c.twin d.year d.month (d.year +ℤ z)))
  unfolding year_on
  year_there d z l h = cond-true (within c.first c.last (d.year +ℤ z)) (Some (month_at (d.year +ℤ z) (c.twin d.year d.month (d.year +ℤ z)))) None (within_is c.first c.last (d.year +ℤ z) l h)

  pub year_tells : (d : Date) (z : ℤ) (p : YearMonth) → year_on c d z ≡ Some p → (p.year ≡ d.year +ℤ z) × (c.first ≤ℤ (d.year +ℤ z)) × ((d.year +ℤ z) ≤ℤ c.last)
  unfolding year_on
  year_tells d z p e = by (within c.first c.last (d.year +ℤ z)) refl e
    where
      by : (t : Bool) → within c.first c.last (d.year +ℤ z) ≡ t → cond t (Some (month_at (d.year +ℤ z) (c.twin d.year d.month (d.year +ℤ z)))) None ≡ Some p →
          (p.year ≡ d.year +ℤ z) × (c.first ≤ℤ (d.year +ℤ z)) × ((d.year +ℤ z) ≤ℤ c.last)
      by true f g = (ap (λ (q : YearMonth). q.year) (sym (some_same g)), within_low c.first c.last (d.year +ℤ z) f, within_high c.first c.last (d.year +ℤ z) f)
      by false f g = none_some g

  pub nearer : (way : Way) (y : ℤ) (n : ℕ) → c.first ≤ℤ y → y ≤ℤ c.last → c.first ≤ℤ (y +ℤ signed way (suc n)) → (y +ℤ signed way (suc n)) ≤ℤ c.last →
      (c.first ≤ℤ (y +ℤ signed way n)) × ((y +ℤ signed way n) ≤ℤ c.last)
  nearer onward y n l h l' h' = (omega (arith, ints), omega (arith, ints))
  nearer back y n l h l' h' = (omega (arith, ints), omega (arith, ints))

  year_behind : (way : Way) (y : ℤ) (n : ℕ) (p q : YearMonth) (day : ℕ) (z : ℤ) → day ≤ 31 → Stands c p.year p.month → Stands c q.year q.month → p.year ≡ y +ℤ signed way n → q.year ≡ y +ℤ signed way (suc n) →
      UpTo way (place q.year q.month day) z → UpTo way (place p.year p.month day) z
  year_behind onward y n p q day z h s t e f u = let m = s.few in let k = t.one in omega (arith, ints)
  year_behind back y n p q day z h s t e f u = let m = s.one in let k = t.few in omega (arith, ints)

  years_down_by : (way : Way) (d x : ℕ) → 1 ≤ d → d ≤ last_day → 1 ≤ x → x ≤ last_day → (n : ℕ) (o : Option YearMonth) → year_on c (c.date d) (signed way (suc n)) ≡ o → fits_before c way d x o ≡ true →
      fits_before c way d x (year_on c (c.date d) (signed way n)) ≡ true
  years_down_by way d x d1 d2 x1 x2 n (Some q) e f =
      let t = there c laws d d1 d2 in
      let v = there c laws x x1 x2 in
      let w = year_tells (c.date d) (signed way (suc n)) q e in
      let i = nearer way (c.date d).year n t.stands.low t.stands.high w.1 w.2 in
      let p = month_at ((c.date d).year +ℤ signed way n) (c.twin (c.date d).year (c.date d).month ((c.date d).year +ℤ signed way n)) in
      let g = year_there (c.date d) (signed way n) i.0 i.1 in
      let ps = (years_move c laws way n (c.date d) p t g).0 in
      let qs = (years_move c laws way (suc n) (c.date d) q t e).0 in
      ap (fits_before c way d x) g
      ∙ up_to_fits c laws way p (c.date d).day (c.date x) ps t.few v
      (year_behind way (c.date d).year n p q (c.date d).day (place (c.date x).year (c.date x).month (c.date x).day) t.few ps qs refl w.0
      (fits_up_to c laws way q (c.date d).day (c.date x) qs t.few v f))
  years_down_by way d x d1 d2 x1 x2 n None e f = false_true f

  -- where one year more fits, so does one less
  pub years_down : (way : Way) (d x : ℕ) → 1 ≤ d → d ≤ last_day → 1 ≤ x → x ≤ last_day → (n : ℕ) →
      fits_before c way d x (year_on c (c.date d) (signed way (suc n))) ≡ true → fits_before c way d x (year_on c (c.date d) (signed way n)) ≡ true
  years_down way d x d1 d2 x1 x2 n f = years_down_by way d x d1 d2 x1 x2 n (year_on c (c.date d) (signed way (suc n))) refl f

  year_count : (way : Way) (d x n : ℕ) (p : YearMonth) → 1 ≤ d → d ≤ last_day → 1 ≤ x → x ≤ last_day → Leads way d x → Stands c p.year p.month → p.year ≡ (c.date d).year +ℤ signed way n →
      UpTo way (place p.year p.month (c.date d).day) (place (c.date x).year (c.date x).month (c.date x).day) → n ≤ last_day
  year_count onward d x n p d1 d2 x1 x2 l s e u =
      let y = years_slow c laws d x d1 l x2 in
      let t = there c laws d d1 d2 in
      let v = there c laws x x1 x2 in
      let t1 = t.few in
      let v1 = v.few in
      let v2 = v.stands.few in
      let v3 = v.stands.one in
      let s1 = s.few in
      let s2 = s.one in
      omega (arith, ints)
  year_count back d x n p d1 d2 x1 x2 l s e u =
      let y = years_slow c laws x d x1 l d2 in
      let t = there c laws d d1 d2 in
      let v = there c laws x x1 x2 in
      let t1 = t.few in
      let v1 = v.few in
      let v2 = v.stands.few in
      let v3 = v.stands.one in
      let s1 = s.few in
      let s2 = s.one in
      omega (arith, ints)

  years_most_by : (way : Way) (d x : ℕ) → 1 ≤ d → d ≤ last_day → 1 ≤ x → x ≤ last_day → Leads way d x → (n : ℕ) (o : Option YearMonth) → year_on c (c.date d) (signed way n) ≡ o → fits_before c way d x o ≡ true → n ≤ last_day
  years_most_by way d x d1 d2 x1 x2 l n (Some p) e f =
      let t = there c laws d d1 d2 in
      let s = (years_move c laws way n (c.date d) p t e).0 in
      year_count way d x n p d1 d2 x1 x2 l s (year_tells (c.date d) (signed way n) p e).0 (fits_up_to c laws way p (c.date d).day (c.date x) s t.few (there c laws x x1 x2) f)
  years_most_by way d x d1 d2 x1 x2 l n None e f = false_true f

  -- how to know it: it fits, and the next does not
  pub years_next : (way : Way) (d x : ℕ) → 1 ≤ d → d ≤ last_day → 1 ≤ x → x ≤ last_day → Leads way d x → (n : ℕ) →
      fits_before c way d x (year_on c (c.date d) (signed way n)) ≡ true → fits_before c way d x (year_on c (c.date d) (signed way (suc n))) ≡ false → years_apart c way d x ≡ n
  unfolding years_apart
  years_next way d x d1 d2 x1 x2 l n f g =
      let h = years_most_by way d x d1 d2 x1 x2 l n (year_on c (c.date d) (signed way n)) refl f in
      most_next (λ n. fits_before c way d x (year_on c (c.date d) (signed way n))) part_limit n (years_down way d x d1 d2 x1 x2) (omega arith) f g

  -- ── months ──

  pub ahead_behind : (way : Way) (p q : YearMonth) (day : ℕ) (z : ℤ) → day ≤ 31 → Ahead way p q → UpTo way (place q.year q.month day) z → UpTo way (place p.year p.month day) z
  ahead_behind onward p q day z h a u = omega (arith, ints)
  ahead_behind back p q day z h a u = omega (arith, ints)

  module _ (way : Way) (d x : ℕ) (d1 : 1 ≤ d) (d2 : d ≤ last_day) (x1 : 1 ≤ x) (x2 : x ≤ last_day) where
    step_down : (p q : YearMonth) → Stands c p.year p.month → month_beside c way p ≡ Some q → date_not_past way q (c.date d).day (c.date x) ≡ true → date_not_past way p (c.date d).day (c.date x) ≡ true
    step_down p q s e f =
        let t = there c laws d d1 d2 in
        let v = there c laws x x1 x2 in
        let b = beside_moves c laws way p q s e in
        up_to_fits c laws way p (c.date d).day (c.date x) s t.few v
        (ahead_behind way p q (c.date d).day (place (c.date x).year (c.date x).month (c.date x).day) t.few b.1 (fits_up_to c laws way q (c.date d).day (c.date x) b.0 t.few v f))

    beside_down : (p : YearMonth) (o : Option YearMonth) → Stands c p.year p.month → month_beside c way p ≡ o → fits_before c way d x o ≡ true → date_not_past way p (c.date d).day (c.date x) ≡ true
    beside_down p (Some q) s e f = step_down p q s e f
    beside_down p None s e f = false_true f

    months_down_on : (n : ℕ) (p : YearMonth) (o : Option YearMonth) → Stands c p.year p.month → months_on c way n p ≡ o → fits_before c way d x (and_then o (month_beside c way)) ≡ true → fits_before c way d x o ≡ true
    months_down_on n p (Some q) s e f = beside_down q (month_beside c way q) (months_move c laws way n p q s e).0 refl f
    months_down_on n p None s e f = f

    months_down_by : (n : ℕ) (o : Option YearMonth) → ((p : YearMonth) → o ≡ Some p → Stands c p.year p.month) →
        fits_before c way d x (and_then o (months_on c way (suc n))) ≡ true → fits_before c way d x (and_then o (months_on c way n)) ≡ true
    unfolding months_on
    months_down_by n (Some p) s f = months_down_on n p (months_on c way n p) (s p refl) refl f
    months_down_by n None s f = f

    -- where one month more fits, so does one less
    pub months_down : (years n : ℕ) → fits_before c way d x (and_then (year_on c (c.date d) (signed way years)) (months_on c way (suc n))) ≡ true →
        fits_before c way d x (and_then (year_on c (c.date d) (signed way years)) (months_on c way n)) ≡ true
    months_down years n f = months_down_by n (year_on c (c.date d) (signed way years)) (λ p e. (years_move c laws way years (c.date d) p (there c laws d d1 d2) e).0) f

    -- the place of the day that is cut after years and months
    cut_date : (years months : ℕ) (p q : YearMonth) → year_on c (c.date d) (signed way years) ≡ Some p → months_on c way months p ≡ Some q → (k : Cuts c laws way d x years months) →
        (1 ≤ k.day) × (k.day ≤ last_day) × (c.date k.day ≡ cut c (c.date d).day q)
    unfolding month_day_on
    cut_date years months p q e f k =
        laws.dated (cut c (c.date d).day q) k.day
        (sym (ap (λ (o : Option YearMonth). and_then o (λ r. and_then (months_on c (way_of (signed way months)) (nat_abs (signed way months)) r) (λ w. c.number (cut c (c.date d).day w)))) e
        ∙ ap (λ (o : Option YearMonth). and_then o (λ w. c.number (cut c (c.date d).day w))) (months_same c laws way months p ∙ f)) ∙ k.is)

    cut_farther : (w : Way) (j k : ℕ) (p q : YearMonth) → 1 ≤ j → j ≤ last_day → 1 ≤ k → k ≤ last_day → Stands c p.year p.month → Stands c q.year q.month →
        c.date j ≡ cut c (c.date d).day p → c.date k ≡ cut c (c.date d).day q → Ahead w p q → Leads w d j → Leads w d k → nat_abs (pos j -ℤ pos d) < nat_abs (pos k -ℤ pos d)
    unfolding spot
    cut_farther w j k p q j1 j2 k1 k2 s t e f a lj lk =
        let dt = there c laws d d1 d2 in
        let pv = cut_there c laws (c.date d).day p dt.one dt.few s in
        let qv = cut_there c laws (c.date d).day q dt.one dt.few t in
        let sj = ap (λ (z : Date). place z.year z.month z.day) e in
        let sk = ap (λ (z : Date). place z.year z.month z.day) f in
        by w (min (c.date d).day (c.size p.year p.month)) (min (c.date d).day (c.size q.year q.month)) pv.one pv.few qv.one qv.few sj sk a lj lk
      where
        by : (w : Way) (m n : ℕ) → 1 ≤ m → m ≤ 31 → 1 ≤ n → n ≤ 31 → spot c laws j ≡ place p.year p.month m → spot c laws k ≡ place q.year q.month n → Ahead w p q → Leads w d j → Leads w d k →
            nat_abs (pos j -ℤ pos d) < nat_abs (pos k -ℤ pos d)
        by onward m n m1 m2 n1 n2 e f a lj lk =
            ⊎_elim (λ (l : j < k). omega (arith, ints))
            (λ (l : k ≤ j). let r = spots_climb c laws k j k1 l j2 in absurd (omega (arith, ints)))
            (cases_lt j k)
        by back m n m1 m2 n1 n2 e f a lj lk =
            ⊎_elim (λ (l : k < j). omega (arith, ints))
            (λ (l : j ≤ k). let r = spots_climb c laws j k j1 l k2 in absurd (omega (arith, ints)))
            (cases_lt k j)

    months_far : (l : Leads way d x) (years : ℕ) (p : YearMonth) → year_on c (c.date d) (signed way years) ≡ Some p → (n : ℕ) (q : YearMonth) → months_on c way n p ≡ Some q →
        date_not_past way q (c.date d).day (c.date x) ≡ true → (k : Cuts c laws way d x years n) × (n ≤ nat_abs (pos k.day -ℤ pos d))
    unfolding months_on
    months_far l years p e zero q f g = (cut_at c laws way d x d1 d2 x1 x2 l years 0 p q e f g, omega arith)
    months_far l years p e (suc n) q f g = by (months_on c way n p) refl (λ m h i. months_far l years p e n m h i) f
      where
        by : (o : Option YearMonth) → months_on c way n p ≡ o →
            ((m : YearMonth) → months_on c way n p ≡ Some m → date_not_past way m (c.date d).day (c.date x) ≡ true → (k : Cuts c laws way d x years n) × (n ≤ nat_abs (pos k.day -ℤ pos d))) →
            and_then o (month_beside c way) ≡ Some q → (k : Cuts c laws way d x years (suc n)) × (suc n ≤ nat_abs (pos k.day -ℤ pos d))
        by (Some m) h rest i =
            let t = there c laws d d1 d2 in
            let ps = (years_move c laws way years (c.date d) p t e).0 in
            let ms = (months_move c laws way n p m ps h).0 in
            let b = beside_moves c laws way m q ms i in
            let j = rest m h (step_down m q ms i g) in
            let k = cut_at c laws way d x d1 d2 x1 x2 l years (suc n) p q e f g in
            let jd = cut_date years n p m e h j.0 in
            let kd = cut_date years (suc n) p q e f k in
            let more = cut_farther way j.0.day k.day m q jd.0 jd.1 kd.0 kd.1 ms b.0 jd.2 kd.2 b.1 j.0.behind k.behind in
            let so = j.1 in
            (k, omega arith)
        by None h rest i = none_some i

    near_end : (w : Way) (k : ℕ) → Leads w d k → Leads w k x → nat_abs (pos k -ℤ pos d) ≤ last_day
    near_end onward k h l = omega (arith, ints)
    near_end back k h l = omega (arith, ints)

    months_few_on : (l : Leads way d x) (years n : ℕ) (p : YearMonth) (o : Option YearMonth) → year_on c (c.date d) (signed way years) ≡ Some p → months_on c way n p ≡ o → fits_before c way d x o ≡ true → n ≤ last_day
    months_few_on l years n p (Some q) e f g =
        let k = months_far l years p e n q f g in
        let h = near_end way k.0.day k.0.behind k.0.before in
        omega (arith, k.1)
    months_few_on l years n p None e f g = false_true g

    months_few : (l : Leads way d x) (years n : ℕ) (o : Option YearMonth) → year_on c (c.date d) (signed way years) ≡ o → fits_before c way d x (and_then o (months_on c way n)) ≡ true → n ≤ last_day
    months_few l years n (Some p) e f = months_few_on l years n p (months_on c way n p) e refl f
    months_few l years n None e f = false_true f

    -- how to know it: it fits, and the next does not
    pub months_next : (l : Leads way d x) (years n : ℕ) → fits_before c way d x (and_then (year_on c (c.date d) (signed way years)) (months_on c way n)) ≡ true →
        fits_before c way d x (and_then (year_on c (c.date d) (signed way years)) (months_on c way (suc n))) ≡ false → months_apart c way d x years ≡ n
    unfolding months_apart
    months_next l years n f g =
        let h = months_few l years n (year_on c (c.date d) (signed way years)) refl f in
        most_next (λ n. fits_before c way d x (and_then (year_on c (c.date d) (signed way years)) (months_on c way n))) part_limit n (months_down years) (omega arith) f g
