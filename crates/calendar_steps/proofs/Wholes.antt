-- The counts of whole years and months, known by the end's own year and month.
use Rattle.std.proofs.Common.{◌≡◌, ℕ, zero, suc, ◌-◌, ◌≤◌, Bool, true, false, ℤ, ◌+ℤ◌, ◌-ℤ◌, nat_abs, ◌≤ℤ◌, Some, None, Option, sym, refl, ap, ◌∙◌, subst, arith}
use Rattle.std.proofs.lemmas.Int.{ints}
use Rattle.std.proofs.lemmas.Bool.{both_ways}
use Rattle.timebase.proofs.Searches.{most_bounded}
use Rattle.years.specs.declared.date.Date.{Date}
use Rattle.calendar.specs.Calendars.{Calendar, CalendarLaws, last_day}
use Rattle.span_law.specs.declared.way.Way.{Way}
use Rattle.span_law.specs.declared.way.Way.TheVariants.{Onward as onward, Back as back}
use Rattle.span_law.specs.declared.year_month.YearMonth.{YearMonth}
use Rattle.span_law.specs.Standing.{Stands, There, Leads}
use Rattle.calendar_steps.specs.Standing.{Ordered}
use Rattle.span_law.specs.Measuring.{date_not_past, fits_before, years_apart, months_apart}
use Rattle.span_law.specs.Stepping.{signed, and_then, month_beside, months_on, year_on}
use Rattle.timebase.specs.Spans.{part_limit}
use Rattle.span_law.proofs.Order.{place, there, years_climb}
use Rattle.span_law.proofs.Steps.{none_some, some_same, Ahead, month_at, month_of, beside_moves, months_move, years_move}
use Rattle.span_law.proofs.Splits.{UpTo, fits_up_to, up_to_fits, years_start}
use Rattle.calendar_steps.proofs.Most.{year_there, year_tells, nearer, years_next, months_next}
use Rattle.calendar_steps.proofs.Strides.{year_in}

off_by : (way : Way) (a b : ℤ) (n : ℕ) → UpTo way a b → n ≡ nat_abs (a -ℤ b) → b ≡ a +ℤ signed way n
off_by onward a b n h e = omega (arith, ints)
off_by back a b n h e = omega (arith, ints)

-- a year beyond the end's is past the end
beyond : (way : Way) (y : ℤ) (n : ℕ) (p : YearMonth) (day : ℕ) (x : Date) (m d : ℕ) → 1 ≤ p.month → p.month ≤ 14 → day ≤ 31 → 1 ≤ m → m ≤ 14 → d ≤ 31 → x.year ≡ y +ℤ signed way n → p.year ≡ y +ℤ signed way (suc n) →
    UpTo way (place p.year p.month day) (place x.year m d) → ⊥
beyond onward y n p day x m d h1 h2 h3 h4 h5 h6 e f u = omega (arith, ints)
beyond back y n p day x m d h1 h2 h3 h4 h5 h6 e f u = omega (arith, ints)

-- a year before the end's is not
short_of : (way : Way) (y : ℤ) (n : ℕ) (p : YearMonth) (day : ℕ) (x : Date) (m d : ℕ) → 1 ≤ p.month → p.month ≤ 14 → day ≤ 31 → 1 ≤ m → m ≤ 14 → d ≤ 31 → x.year ≡ y +ℤ signed way (suc n) → p.year ≡ y +ℤ signed way n →
    UpTo way (place p.year p.month day) (place x.year m d)
short_of onward y n p day x m d h1 h2 h3 h4 h5 h6 e f = omega (arith, ints)
short_of back y n p day x m d h1 h2 h3 h4 h5 h6 e f = omega (arith, ints)

-- what a test that is false when it cannot be true is
not_true : (t : Bool) → (t ≡ true → ⊥) → t ≡ false
not_true true h = absurd (h refl)
not_true false h = refl

module _ (c : Calendar) (laws : CalendarLaws c) (way : Way) (d x : ℕ) (d1 : 1 ≤ d) (d2 : d ≤ last_day) (x1 : 1 ≤ x) (x2 : x ≤ last_day) (l : Leads way d x) where
  years_order : (w : Way) → Leads w d x → UpTo w (c.date d).year (c.date x).year
  years_order onward h = years_climb c laws d x d1 h x2
  years_order back h = years_climb c laws x d x1 h d2

  -- ── years ──

  too_far_by : (n : ℕ) → (c.date x).year ≡ (c.date d).year +ℤ signed way n → (o : Option YearMonth) → year_on c (c.date d) (signed way (suc n)) ≡ o → fits_before c way d x o ≡ false
  too_far_by n e (Some p) f =
      let t = there c laws d d1 d2 in
      let v = there c laws x x1 x2 in
      let s = (years_move c laws way (suc n) (c.date d) p t f).0 in
      let y = (year_tells c laws (c.date d) (signed way (suc n)) p f).0 in
      not_true (date_not_past way p (c.date d).day (c.date x))
      (λ g. beyond way (c.date d).year n p (c.date d).day (c.date x) (c.date x).month (c.date x).day s.one s.few t.few v.stands.one v.stands.few v.few e y (fits_up_to c laws way p (c.date d).day (c.date x) s t.few v g))
  too_far_by n e None f = refl

  near_by : (n : ℕ) → (c.date x).year ≡ (c.date d).year +ℤ signed way (suc n) → fits_before c way d x (year_on c (c.date d) (signed way n)) ≡ true
  near_by n e =
      let t = there c laws d d1 d2 in
      let v = there c laws x x1 x2 in
      let i = nearer c laws way (c.date d).year n t.stands.low t.stands.high (subst (λ (z : ℤ). c.first ≤ℤ z) e v.stands.low) (subst (λ (z : ℤ). z ≤ℤ c.last) e v.stands.high) in
      let p = month_at ((c.date d).year +ℤ signed way n) (c.twin (c.date d).year (c.date d).month ((c.date d).year +ℤ signed way n)) in
      let g = year_there c laws (c.date d) (signed way n) i.0 i.1 in
      let s = (years_move c laws way n (c.date d) p t g).0 in
      ap (fits_before c way d x) g
      ∙ up_to_fits c laws way p (c.date d).day (c.date x) s t.few v
      (short_of way (c.date d).year n p (c.date d).day (c.date x) (c.date x).month (c.date x).day s.one s.few t.few v.stands.one v.stands.few v.few e refl)

  module _ (n m : ℕ) (e : n ≡ nat_abs ((c.date d).year -ℤ (c.date x).year)) (f : m ≡ c.twin (c.date d).year (c.date d).month (c.date x).year) where
    off : (c.date x).year ≡ (c.date d).year +ℤ signed way n
    off = off_by way (c.date d).year (c.date x).year n (years_order way l) e

    year_at : year_on c (c.date d) (signed way n) ≡ Some (month_at (c.date x).year m)
    year_at =
        let v = there c laws x x1 x2 in
        sym (year_in c (c.date d) (signed way n) (c.date x).year m off v.stands.low v.stands.high f)

    whole_fits : date_not_past way (month_at (c.date x).year m) (c.date d).day (c.date x) ≡ true → n ≡ years_apart c way d x
    whole_fits g = sym (years_next c laws way d x d1 d2 x1 x2 l n (ap (fits_before c way d x) year_at ∙ g) (too_far_by n off (year_on c (c.date d) (signed way (suc n))) refl))

    whole_short : date_not_past way (month_at (c.date x).year m) (c.date d).day (c.date x) ≡ false → (1 ≤ n) × (n - 1 ≡ years_apart c way d x)
    whole_short g = by n refl
      where
        at_n : fits_before c way d x (year_on c (c.date d) (signed way n)) ≡ false
        at_n = ap (fits_before c way d x) year_at ∙ g

        by : (k : ℕ) → n ≡ k → (1 ≤ n) × (n - 1 ≡ years_apart c way d x)
        by zero h = absurd (both_ways (fits_before c way d x (year_on c (c.date d) (signed way 0))) (subst (λ (j : ℕ). fits_before c way d x (year_on c (c.date d) (signed way j)) ≡ false) h at_n) (years_start c laws way d x d1 d2 x1 x2 l))
        by (suc k) h =
            let q : n - 1 ≡ k = omega arith in (
              omega arith,
              q ∙ sym (years_next c laws way d x d1 d2 x1 x2 l k (near_by k (subst (λ (j : ℕ). (c.date x).year ≡ (c.date d).year +ℤ signed way j) h off)) (subst (λ (j : ℕ). fits_before c way d x (year_on c (c.date d) (signed way j)) ≡ false) h at_n)),
            )

  -- the same with the dates at hand
  pub years_fit_at : (from to : Date) (n m : ℕ) → from ≡ c.date d → to ≡ c.date x → n ≡ nat_abs (from.year -ℤ to.year) → m ≡ c.twin from.year from.month to.year →
      date_not_past way (month_at to.year m) from.day to ≡ true → n ≡ years_apart c way d x
  years_fit_at from to n m ef et =
      subst (λ (z : Date). n ≡ nat_abs (z.year -ℤ to.year) → m ≡ c.twin z.year z.month to.year → date_not_past way (month_at to.year m) z.day to ≡ true → n ≡ years_apart c way d x) (sym ef)
      (subst (λ (z : Date). n ≡ nat_abs ((c.date d).year -ℤ z.year) → m ≡ c.twin (c.date d).year (c.date d).month z.year → date_not_past way (month_at z.year m) (c.date d).day z ≡ true → n ≡ years_apart c way d x) (sym et)
      (λ e f g. whole_fits n m e f g))

  pub years_short_at : (from to : Date) (n m : ℕ) → from ≡ c.date d → to ≡ c.date x → n ≡ nat_abs (from.year -ℤ to.year) → m ≡ c.twin from.year from.month to.year →
      date_not_past way (month_at to.year m) from.day to ≡ false → (1 ≤ n) × (n - 1 ≡ years_apart c way d x)
  years_short_at from to n m ef et =
      subst (λ (z : Date). n ≡ nat_abs (z.year -ℤ to.year) → m ≡ c.twin z.year z.month to.year → date_not_past way (month_at to.year m) z.day to ≡ false → (1 ≤ n) × (n - 1 ≡ years_apart c way d x)) (sym ef)
      (subst (λ (z : Date). n ≡ nat_abs ((c.date d).year -ℤ z.year) → m ≡ c.twin (c.date d).year (c.date d).month z.year → date_not_past way (month_at z.year m) (c.date d).day z ≡ false → (1 ≤ n) × (n - 1 ≡ years_apart c way d x)) (sym et)
      (λ e f g. whole_short n m e f g))

-- ── months ──

-- a month that fits is not past the end's month
pub fits_ordered : (c : Calendar) (laws : CalendarLaws c) (way : Way) (p : YearMonth) (day : ℕ) (x : Date) → Stands c p.year p.month → day ≤ 31 → There c x.year x.month x.day → date_not_past way p day x ≡ true → Ordered way p (month_of x)
fits_ordered c laws onward p day x s h t e =
    let u = fits_up_to c laws onward p day x s h t e in
    let a = s.few in let b = t.stands.few in let d = t.few in let f = s.one in let g = t.stands.one in
    record { years = omega (arith, ints); months = λ q. omega (arith, ints) }
fits_ordered c laws back p day x s h t e =
    let u = fits_up_to c laws back p day x s h t e in
    let a = s.few in let b = t.stands.few in let d = t.few in let f = s.one in let g = t.stands.one in
    record { years = omega (arith, ints); months = λ q. omega (arith, ints) }

ahead_of_it : (way : Way) (q p : YearMonth) (day : ℕ) (m d : ℕ) (y : ℤ) → y ≡ q.year → m ≡ q.month → day ≤ 31 → d ≤ 31 → Ahead way q p → UpTo way (place p.year p.month day) (place y m d) → ⊥
ahead_of_it onward q p day m d y e f h k a u = omega (arith, ints)
ahead_of_it back q p day m d y e f h k a u = omega (arith, ints)

behind_it : (way : Way) (p q : YearMonth) (day : ℕ) (m d : ℕ) (y : ℤ) → y ≡ q.year → m ≡ q.month → day ≤ 31 → d ≤ 31 → Ahead way p q → UpTo way (place p.year p.month day) (place y m d)
behind_it onward p q day m d y e f h k a = omega (arith, ints)
behind_it back p q day m d y e f h k a = omega (arith, ints)

module _ (c : Calendar) (laws : CalendarLaws c) (way : Way) (d x : ℕ) (d1 : 1 ≤ d) (d2 : d ≤ last_day) (x1 : 1 ≤ x) (x2 : x ≤ last_day) (l : Leads way d x)
    (years : ℕ) (p : YearMonth) (e : year_on c (c.date d) (signed way years) ≡ Some p) (n : ℕ) (k : months_on c way n p ≡ Some (month_of (c.date x))) where
  ps : Stands c p.year p.month
  ps = (years_move c laws way years (c.date d) p (there c laws d d1 d2) e).0

  after_is : (j : ℕ) (o : Option YearMonth) → months_on c way j p ≡ o → fits_before c way d x (and_then (year_on c (c.date d) (signed way years)) (months_on c way j)) ≡ fits_before c way d x o
  after_is j o f = ap (λ (z : Option YearMonth). fits_before c way d x (and_then z (months_on c way j))) e ∙ ap (fits_before c way d x) f

  step_past : (o : Option YearMonth) → month_beside c way (month_of (c.date x)) ≡ o → fits_before c way d x o ≡ false
  step_past (Some q) f =
      let t = there c laws d d1 d2 in
      let v = there c laws x x1 x2 in
      let b = beside_moves c laws way (month_of (c.date x)) q v.stands f in
      not_true (date_not_past way q (c.date d).day (c.date x))
      (λ g. ahead_of_it way (month_of (c.date x)) q (c.date d).day (c.date x).month (c.date x).day (c.date x).year refl refl t.few v.few b.1 (fits_up_to c laws way q (c.date d).day (c.date x) b.0 t.few v g))
  step_past None f = refl

  next_past : fits_before c way d x (and_then (year_on c (c.date d) (signed way years)) (months_on c way (suc n))) ≡ false
  unfolding months_on
  next_past = after_is (suc n) (month_beside c way (month_of (c.date x))) (ap (λ (o : Option YearMonth). and_then o (month_beside c way)) k) ∙ step_past (month_beside c way (month_of (c.date x))) refl

  pub months_fit_at : date_not_past way (month_of (c.date x)) (c.date d).day (c.date x) ≡ true → n ≡ months_apart c way d x years
  months_fit_at g = sym (months_next c laws way d x d1 d2 x1 x2 l years n (after_is n (Some (month_of (c.date x))) k ∙ g) next_past)

  step_short : (j : ℕ) (o : Option YearMonth) → months_on c way j p ≡ o → and_then o (month_beside c way) ≡ Some (month_of (c.date x)) → fits_before c way d x o ≡ true
  step_short j (Some r) f g =
      let t = there c laws d d1 d2 in
      let v = there c laws x x1 x2 in
      let rs = (months_move c laws way j p r ps f).0 in
      let b = beside_moves c laws way r (month_of (c.date x)) rs g in
      up_to_fits c laws way r (c.date d).day (c.date x) rs t.few v
      (behind_it way r (month_of (c.date x)) (c.date d).day (c.date x).month (c.date x).day (c.date x).year refl refl t.few v.few b.1)
  step_short j None f g = none_some g

  pub months_short_at : date_not_past way p (c.date d).day (c.date x) ≡ true → date_not_past way (month_of (c.date x)) (c.date d).day (c.date x) ≡ false → (1 ≤ n) × (n - 1 ≡ months_apart c way d x years)
  unfolding months_on
  months_short_at h g = by n refl k
    where
      by : (j : ℕ) → n ≡ j → months_on c way j p ≡ Some (month_of (c.date x)) → (1 ≤ n) × (n - 1 ≡ months_apart c way d x years)
      by zero i f = absurd (both_ways (date_not_past way p (c.date d).day (c.date x)) (subst (λ (z : YearMonth). date_not_past way z (c.date d).day (c.date x) ≡ false) (sym (some_same f)) g) h)
      by (suc j) i f =
          let q : n - 1 ≡ j = omega arith in (
            omega arith,
            q ∙ sym (months_next c laws way d x d1 d2 x1 x2 l years j
                (after_is j (months_on c way j p) refl ∙ step_short j (months_on c way j p) refl f)
                (after_is (suc j) (Some (month_of (c.date x))) f ∙ g)),
          )

-- within the limit
pub few_years : (c : Calendar) (way : Way) (d x n : ℕ) → n ≡ years_apart c way d x → n ≤ 4000000
unfolding years_apart
few_years c way d x n e = let h = most_bounded (λ n. fits_before c way d x (year_on c (c.date d) (signed way n))) part_limit in omega (arith, e)
