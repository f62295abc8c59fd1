-- The days of a calendar in the order of their dates.
use Rattle.std.proofs.Common.{◌≡◌, ℕ, zero, suc, ◌+◌, ◌*◌, ◌<◌, ◌≤◌, Bool, true, false, cond, ltb, ◌⊎◌, ℤ, pos, ◌+ℤ◌, ◌-ℤ◌, ◌*ℤ◌, ◌≤ℤ◌, ◌<ℤ◌, sym, refl, ap, ◌∙◌, subst, inl, inr, ⊎_elim, add-one, arith}
use Rattle.std.proofs.lemmas.Int.{ints, by_lt_z}
use Rattle.std.proofs.lemmas.Bool.Decides.{nat_tests}
use Rattle.std.proofs.lemmas.Bool.{cases_eq, cases_lt, ltb-true, ltb-false}
use Rattle.years.specs.declared.date.Date.{Date}
use Rattle.calendar.specs.Calendars.{Calendar, CalendarLaws, last_day, next_date}
use Rattle.span_law.specs.Measuring.{date_le}
use Rattle.span_law.specs.Standing.{There}

-- a date's place in the order of all dates
abbrev pub place : ℤ → ℕ → ℕ → ℤ
place y m d = (y *ℤ pos 512) +ℤ pos (32 * m + d)

pub le_place : (y : ℤ) (m d : ℕ) (y' : ℤ) (m' d' : ℕ) → m ≤ 14 → d ≤ 31 → m' ≤ 14 → d' ≤ 31 → date_le y m d y' m' d' ≡ true → place y m d ≤ℤ place y' m' d'
le_place y m d y' m' d' h1 h2 h3 h4 e = grind (arith, ints, nat_tests)

pub place_le : (y : ℤ) (m d : ℕ) (y' : ℤ) (m' d' : ℕ) → m ≤ 14 → d ≤ 31 → m' ≤ 14 → d' ≤ 31 → place y m d ≤ℤ place y' m' d' → date_le y m d y' m' d' ≡ true
place_le y m d y' m' d' h1 h2 h3 h4 e = grind (arith, ints, nat_tests)

same_place : (y : ℤ) (m d : ℕ) (y' : ℤ) (m' d' : ℕ) → m ≤ 14 → d ≤ 31 → m' ≤ 14 → d' ≤ 31 → place y m d ≡ place y' m' d' → (y ≡ y') × (m ≡ m') × (d ≡ d')
same_place y m d y' m' d' h1 h2 h3 h4 e = omega (arith, ints)

pub same_date : (x : Date) (y : ℤ) (m d : ℕ) → (x.year ≡ y) × (x.month ≡ m) × (x.day ≡ d) → x ≡ record { year = y; month = m; day = d }
same_date x y m d e = λ i. record { year = e.0 i; month = e.1 i; day = e.2 i }

-- the date e comes next after d
abbrev Follows : Calendar → Date → Date → Type 0
Follows c d e =
    ((d.day < c.size d.year d.month) × (e.year ≡ d.year) × (e.month ≡ d.month) × (e.day ≡ d.day + 1)) ⊎
    (((c.size d.year d.month ≤ d.day) × (d.month < c.months d.year) × (e.year ≡ d.year) × (e.month ≡ d.month + 1) × (e.day ≡ 1)) ⊎
    ((c.size d.year d.month ≤ d.day) × (c.months d.year ≤ d.month) × (e.year ≡ d.year +ℤ pos 1) × (e.month ≡ 1) × (e.day ≡ 1)))

follows : (c : Calendar) (d : Date) → Follows c d (next_date c d)
follows c d = by (ltb d.day (c.size d.year d.month)) (ltb d.month (c.months d.year)) refl refl
  where
    by : (t u : Bool) → ltb d.day (c.size d.year d.month) ≡ t → ltb d.month (c.months d.year) ≡ u →
        Follows c d (cond t (record { year = d.year; month = d.month; day = d.day + 1 })
        (cond u (record { year = d.year; month = d.month + 1; day = 1 }) (record { year = d.year +ℤ pos 1; month = 1; day = 1 })))
    by true u e f = inl (ltb-true _ _ e, refl, refl, refl)
    by false true e f = inr (inl (ltb-false _ _ e, ltb-true _ _ f, refl, refl, refl))
    by false false e f = inr (inr (ltb-false _ _ e, ltb-false _ _ f, refl, refl, refl))

-- what rises at each step rises
climbs : (P : ℕ → ℤ) (lo hi : ℕ) → ((k : ℕ) → lo ≤ k → k < hi → P k ≤ℤ P (suc k)) → (n m : ℕ) → lo ≤ n → n ≤ m → m ≤ hi → P n ≤ℤ P m
climbs P lo hi step n zero h k l = let e : n ≡ 0 = omega arith in rw e (omega (arith, ints))
climbs P lo hi step n (suc m) h k l =
    ⊎_elim
    (λ (s : n < suc m). let r = climbs P lo hi step n m h (omega arith) (omega arith) in let q = step m (omega arith) l in omega (arith, ints))
    (λ (s : suc m ≤ n). let e : n ≡ suc m = omega arith in rw e (omega (arith, ints)))
    (cases_lt n (suc m))

module _ (c : Calendar) (laws : CalendarLaws c) where
  unfoldable pub spot : ℕ → ℤ
  spot n = place (c.date n).year (c.date n).month (c.date n).day

  day_follows : (n : ℕ) → 1 ≤ n → n < last_day → Follows c (c.date n) (c.date (suc n))
  day_follows n h k =
      subst (λ (e : Date). Follows c (c.date n) e) (sym (laws.next n h k) ∙ ap c.date (add-one n)) (follows c (c.date n))

  pub years_climb : (n m : ℕ) → 1 ≤ n → n ≤ m → m ≤ last_day → (c.date n).year ≤ℤ (c.date m).year
  years_climb = climbs (λ n. (c.date n).year) 1 last_day (λ k h l. let f = day_follows k h l in omega (arith, ints))

  -- a year has a day at least
  pub years_slow : (n m : ℕ) → 1 ≤ n → n ≤ m → m ≤ last_day → (pos n -ℤ (c.date n).year) ≤ℤ (pos m -ℤ (c.date m).year)
  years_slow = climbs (λ n. pos n -ℤ (c.date n).year) 1 last_day (λ k h l. let f = day_follows k h l in omega (arith, ints))

  pub there : (n : ℕ) → 1 ≤ n → n ≤ last_day → There c (c.date n).year (c.date n).month (c.date n).day
  there n h k =
      let low : c.first ≤ℤ (c.date n).year = rw (← laws.starts) (years_climb 1 n (omega arith) h k) in
      let high : (c.date n).year ≤ℤ c.last = rw (← laws.ends) (years_climb n last_day h k (omega arith)) in
      let m = laws.month_inside n h k in
      let d = laws.day_inside n h k in
      let ms = laws.some_months (c.date n).year low high in
      let ds = laws.some_days (c.date n).year (c.date n).month low high m.0 m.1 in
      record { stands = record { low = low; high = high; one = m.0; most = m.1; few = omega arith }; one = d.0; most = d.1; few = omega arith }

  spot_steps : (k : ℕ) → 1 ≤ k → k < last_day → spot k <ℤ spot (suc k)
  unfolding spot
  spot_steps k h l =
      let f = day_follows k h l in
      let t = there k h (omega arith) in
      omega (arith, ints, t.few, t.stands.few)

  pub spots_climb : (n m : ℕ) → 1 ≤ n → n ≤ m → m ≤ last_day → spot n ≤ℤ spot m
  spots_climb = climbs spot 1 last_day (λ k h l. let s = spot_steps k h l in omega (arith, ints))

  pub spots_rise : (n m : ℕ) → 1 ≤ n → n < m → m ≤ last_day → spot n <ℤ spot m
  spots_rise n m h k l = let s = spot_steps n h (omega arith) in let r = spots_climb (suc n) m (omega arith) k l in omega (arith, ints)

  -- days in the order of their spots
  pub spots_tell : (n m : ℕ) → 1 ≤ n → 1 ≤ m → n ≤ last_day → m ≤ last_day → spot n ≤ℤ spot m → n ≤ m
  spots_tell n m h k h' k' s =
      ⊎_elim (λ (l : m < n). let r = spots_rise m n k l h' in absurd (omega (arith, ints))) (λ (l : n ≤ m). l) (cases_lt m n)

  -- no date lies between one day's and the next's
  none_between : (e f : Date) (y : ℤ) (m d : ℕ) → There c e.year e.month e.day → Follows c e f → There c y m d →
      place e.year e.month e.day <ℤ place y m d → place y m d ≤ℤ place f.year f.month f.day →
      (f.year ≡ y) × (f.month ≡ m) × (f.day ≡ d)
  none_between e f y m d t (inl g) v lt le = omega (arith, ints, t.few, t.stands.few, v.few, v.stands.few)
  none_between e f y m d t (inr (inl g)) v lt le =
      let y_is : y ≡ e.year = omega (arith, ints, t.few, t.stands.few, v.one, v.few, v.stands.few, v.stands.one) in
      ⊎_elim
      (λ (s : m ≡ e.month). let b : d ≤ c.size e.year e.month = subst (λ (x : ℤ). d ≤ c.size x e.month) y_is (subst (λ (x : ℕ). d ≤ c.size y x) s v.most) in
      absurd (omega (arith, ints)))
      (λ (s : m ≡ e.month → ⊥). omega (arith, ints, t.few, t.stands.few, v.one, v.few, v.stands.few, v.stands.one))
      (cases_eq m e.month)
  none_between e f y m d t (inr (inr g)) v lt le =
      by_lt_z e.year y
      (λ (s : e.year <ℤ y). omega (arith, ints, t.few, t.stands.few, v.one, v.few, v.stands.few, v.stands.one))
      (λ (s : y ≤ℤ e.year).
      let y_is : y ≡ e.year = omega (arith, ints, t.few, t.stands.few, v.one, v.few, v.stands.few, v.stands.one) in
      let m_most : m ≤ c.months e.year = subst (λ (x : ℤ). m ≤ c.months x) y_is v.stands.most in
      let m_is : m ≡ e.month = omega (arith, ints, t.few, v.few) in
      let b : d ≤ c.size e.year e.month = subst (λ (x : ℤ). d ≤ c.size x e.month) y_is (subst (λ (x : ℕ). d ≤ c.size y x) m_is v.most) in
      absurd (omega (arith, ints)))

  -- a date between two days' is a day's
  pub found : (y : ℤ) (m d : ℕ) → There c y m d → (lo hi : ℕ) → 1 ≤ lo → lo ≤ hi → hi ≤ last_day → spot lo ≤ℤ place y m d → place y m d ≤ℤ spot hi →
      (k : ℕ) × (lo ≤ k) × (k ≤ hi) × (c.date k ≡ record { year = y; month = m; day = d })
  unfolding spot
  found y m d v lo zero h1 h2 h3 l u = absurd (omega arith)
  found y m d v lo (suc hi) h1 h2 h3 l u =
      ⊎_elim
      (λ (s : lo < suc hi).
      by_lt_z (spot hi) (place y m d)
      (λ (g : spot hi <ℤ place y m d).
      (suc hi, h2, omega arith, same_date (c.date (suc hi)) y m d (none_between (c.date hi) (c.date (suc hi)) y m d (there hi (omega arith) (omega arith)) (day_follows hi (omega arith) h3) v g u)))
      (λ (g : place y m d ≤ℤ spot hi). let r = found y m d v lo hi h1 (omega arith) (omega arith) l g in (r.0, r.1, omega (arith, r.2), r.3)))
      (λ (s : suc hi ≤ lo).
      let e : lo ≡ suc hi = omega arith in
      let l' : spot (suc hi) ≤ℤ place y m d = rw e at l in
      let t = there (suc hi) (omega arith) h3 in
      (suc hi, h2, omega arith, same_date (c.date (suc hi)) y m d (same_place _ _ _ _ _ _ t.stands.few t.few v.stands.few v.few (omega (arith, ints)))))
      (cases_lt lo (suc hi))
