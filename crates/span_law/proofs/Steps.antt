-- Stepping by years and months.
use Rattle.std.proofs.Common.{◌≡◌, ℕ, zero, suc, ◌+◌, ◌-◌, ◌<◌, ◌≤◌, Bool, true, false, cond, ltb, ◌⊎◌, ℤ, pos, ◌+ℤ◌, ◌-ℤ◌, ◌≤ℤ◌, ◌<ℤ◌, Some, None, Option, sym, refl, ap, ◌∙◌, subst, inl, inr, ⊎_elim, arith}
use lib.Signed.{lt_z, le_z}
use Rattle.std.proofs.lemmas.Int.{ints}
use Rattle.std.proofs.lemmas.Bool.{ltb-true, and_parts, and_from}
use Rattle.years.specs.declared.date.Date.{Date}
use Rattle.calendar.specs.Calendars.{Calendar, CalendarLaws, within}
use Rattle.span_law.specs.declared.way.Way.{Way}
use Rattle.span_law.specs.declared.way.Way.TheVariants.{Onward as onward, Back as back}
use Rattle.span_law.specs.Stepping.{signed, and_then, month_after, month_before, month_beside, months_on, year_on}
use Rattle.span_law.specs.declared.year_month.YearMonth.{YearMonth}
use Rattle.span_law.proofs.Order.{place}
use Rattle.span_law.specs.Standing.{Stands, There}

-- a value that is not there is nothing
pub none_some : {A : Type 0} {a : A} {X : Type 0} → None ≡ Some a → X
none_some e = let z : ◌≡◌ {A = ℕ} 0 1 = cc in absurd (omega arith)

pub some_same : {A : Type 0} {a b : A} → Some a ≡ Some b → a ≡ b
some_same e = cc

pub false_true : {X : Type 0} → false ≡ true → X
false_true e = let z : ◌≡◌ {A = ℕ} 0 1 = cc in absurd (omega arith)

-- the month q lies ahead of the month p
abbrev pub Ahead : Way → YearMonth → YearMonth → Type 0
Ahead onward p q = place p.year p.month 31 <ℤ place q.year q.month 0
Ahead back p q = place q.year q.month 31 <ℤ place p.year p.month 0

pub ahead_again : (way : Way) (p q r : YearMonth) → Ahead way p q → Ahead way q r → Ahead way p r
ahead_again onward p q r h k = omega (arith, ints)
ahead_again back p q r h k = omega (arith, ints)

-- n steps lead from p to q
abbrev pub Moved : Way → ℕ → YearMonth → YearMonth → Type 0
Moved way n p q = ((n ≡ 0) × (q ≡ p)) ⊎ ((1 ≤ n) × Ahead way p q)

pub moved_again : (way : Way) (n m : ℕ) (p q r : YearMonth) → Moved way n p q → Moved way m q r → Moved way (n + m) p r
moved_again way n m p q r (inl h) (inl k) = inl (omega arith, k.1 ∙ h.1)
moved_again way n m p q r (inl h) (inr k) = inr (omega arith, subst (λ (x : YearMonth). Ahead way x r) h.1 k.1)
moved_again way n m p q r (inr h) (inl k) = inr (omega arith, subst (λ (x : YearMonth). Ahead way p x) (sym k.1) h.1)
moved_again way n m p q r (inr h) (inr k) = inr (omega arith, ahead_again way p q r h.1 k.1)

pub within_low : (lo hi x : ℤ) → within lo hi x ≡ true → lo ≤ℤ x
within_low lo hi x e = let p = and_parts (le_z lo x) (le_z x hi) e in omega (arith, ints)

pub within_high : (lo hi x : ℤ) → within lo hi x ≡ true → x ≤ℤ hi
within_high lo hi x e = let p = and_parts (le_z lo x) (le_z x hi) e in omega (arith, ints)

pub within_is : (lo hi x : ℤ) → lo ≤ℤ x → x ≤ℤ hi → within lo hi x ≡ true
within_is lo hi x h k = and_from (le_z lo x) (le_z x hi) (sym (omega (arith, ints))) (sym (omega (arith, ints)))

abbrev pub month_at : ℤ → ℕ → YearMonth
month_at y m = record { year = y; month = m }

abbrev pub month_of : Date → YearMonth
month_of d = month_at d.year d.month

pub none_more : (way : Way) (y : ℤ) → y +ℤ signed way 0 ≡ y
none_more onward y = omega (arith, ints)
none_more back y = omega (arith, ints)

module _ (c : Calendar) (laws : CalendarLaws c) where
  pub stand : (y : ℤ) (m : ℕ) → c.first ≤ℤ y → y ≤ℤ c.last → 1 ≤ m → m ≤ c.months y → Stands c y m
  stand y m l h o u = record { low = l; high = h; one = o; most = u; few = omega (arith, laws.some_months y l h) }

  after_moves : (p q : YearMonth) → Stands c p.year p.month → month_after c p ≡ Some q → Stands c q.year q.month × Ahead onward p q
  after_moves p q s e = by (ltb p.month (c.months p.year)) (lt_z p.year c.last) refl refl e
    where
      by : (t u : Bool) → ltb p.month (c.months p.year) ≡ t → lt_z p.year c.last ≡ u →
          cond t (Some (record { year = p.year; month = p.month + 1 })) (cond u (Some (record { year = p.year +ℤ pos 1; month = 1 })) None) ≡ Some q →
          Stands c q.year q.month × Ahead onward p q
      by true u f g h =
          subst (λ (x : YearMonth). Stands c x.year x.month × Ahead onward p x) (some_same h)
          (stand p.year (p.month + 1) s.low s.high (omega arith) (omega (arith, ltb-true _ _ f)), omega (arith, ints))
      by false true f g h =
          let l : c.first ≤ℤ (p.year +ℤ pos 1) = omega (arith, ints) in
          let u : (p.year +ℤ pos 1) ≤ℤ c.last = omega (arith, ints) in
          subst (λ (x : YearMonth). Stands c x.year x.month × Ahead onward p x) (some_same h)
          (stand (p.year +ℤ pos 1) 1 l u (omega arith) (laws.some_months (p.year +ℤ pos 1) l u).0, omega (arith, ints, s.few))
      by false false f g h = none_some h

  before_moves : (p q : YearMonth) → Stands c p.year p.month → month_before c p ≡ Some q → Stands c q.year q.month × Ahead back p q
  before_moves p q s e = by (ltb 1 p.month) (lt_z c.first p.year) refl refl e
    where
      by : (t u : Bool) → ltb 1 p.month ≡ t → lt_z c.first p.year ≡ u →
          cond t (Some (record { year = p.year; month = p.month - 1 })) (cond u (Some (record { year = p.year -ℤ pos 1; month = c.months (p.year -ℤ pos 1) })) None) ≡ Some q →
          Stands c q.year q.month × Ahead back p q
      by true u f g h =
          let t : 1 < p.month = ltb-true _ _ f in
          subst (λ (x : YearMonth). Stands c x.year x.month × Ahead back p x) (some_same h)
          (stand p.year (p.month - 1) s.low s.high (omega arith) (omega (arith, s.most)), omega (arith, ints))
      by false true f g h =
          let l : c.first ≤ℤ (p.year -ℤ pos 1) = omega (arith, ints) in
          let u : (p.year -ℤ pos 1) ≤ℤ c.last = omega (arith, ints) in
          let ms = laws.some_months (p.year -ℤ pos 1) l u in
          subst (λ (x : YearMonth). Stands c x.year x.month × Ahead back p x) (some_same h)
          (stand (p.year -ℤ pos 1) (c.months (p.year -ℤ pos 1)) l u ms.0 (omega arith), omega (arith, ints, s.one))
      by false false f g h = none_some h

  pub beside_moves : (way : Way) (p q : YearMonth) → Stands c p.year p.month → month_beside c way p ≡ Some q → Stands c q.year q.month × Ahead way p q
  beside_moves onward p q s e = after_moves p q s e
  beside_moves back p q s e = before_moves p q s e

  pub months_move : (way : Way) (n : ℕ) (p q : YearMonth) → Stands c p.year p.month → months_on c way n p ≡ Some q → Stands c q.year q.month × Moved way n p q
  unfolding months_on
  months_move way zero p q s e = subst (λ (x : YearMonth). Stands c x.year x.month × Moved way 0 p x) (some_same e) (s, inl (refl, refl))
  months_move way (suc n) p q s e = by (months_on c way n p) (λ r f. months_move way n p r s f) e
    where
      by : (o : Option YearMonth) → ((r : YearMonth) → o ≡ Some r → Stands c r.year r.month × Moved way n p r) → and_then o (month_beside c way) ≡ Some q →
          Stands c q.year q.month × Moved way (suc n) p q
      by (Some r) f g =
          let m = f r refl in
          let b = beside_moves way r q m.0 g in
          (b.0, inr (omega arith, ⊎_elim (λ (k : (n ≡ 0) × (r ≡ p)). subst (λ (x : YearMonth). Ahead way x q) k.1 b.1) (λ (k : (1 ≤ n) × Ahead way p r). ahead_again way p r q k.1 b.1) m.1))
      by None f g = none_some g

  year_moves_by : (way : Way) (n : ℕ) (d : Date) (p : YearMonth) → (p ≡ record { year = d.year +ℤ signed way n; month = c.twin d.year d.month (d.year +ℤ signed way n) }) →
      There c d.year d.month d.day → Stands c p.year p.month → Moved way n (month_of d) p
  year_moves_by way zero d p e t s =
      let w = t.stands in
      let f = subst (λ (z : ℤ). p ≡ month_at z (c.twin d.year d.month z)) (none_more way d.year) e in
      inl (refl, f ∙ ap (month_at d.year) (laws.twin_same d.year d.month w.low w.high w.one w.most))
  year_moves_by onward (suc n) d p e t s = let y = ap (λ (x : YearMonth). x.year) e in inr (omega arith, omega (arith, ints, t.stands.few, s.one))
  year_moves_by back (suc n) d p e t s = let y = ap (λ (x : YearMonth). x.year) e in inr (omega arith, omega (arith, ints, t.stands.one, s.few))

  pub years_move : (way : Way) (n : ℕ) (d : Date) (p : YearMonth) → There c d.year d.month d.day → year_on c d (signed way n) ≡ Some p → Stands c p.year p.month × Moved way n (month_of d) p
  unfolding year_on
  years_move way n d p t e = by (within c.first c.last (d.year +ℤ signed way n)) refl e
    where
      by : (b : Bool) → within c.first c.last (d.year +ℤ signed way n) ≡ b →
          cond b (Some (record { year = d.year +ℤ signed way n; month = c.twin d.year d.month (d.year +ℤ signed way n) })) None ≡ Some p →
          Stands c p.year p.month × Moved way n (month_of d) p
      by true f g =
          let l = within_low _ _ _ f in
          let h = within_high _ _ _ f in
          let w = t.stands in
          let i = laws.twin_inside d.year d.month (d.year +ℤ signed way n) w.low w.high w.one w.most l h in
          let s : Stands c p.year p.month = subst (λ (x : YearMonth). Stands c x.year x.month) (some_same g) (stand (d.year +ℤ signed way n) (c.twin d.year d.month (d.year +ℤ signed way n)) l h i.0 i.1) in
          (s, year_moves_by way n d p (sym (some_same g)) t s)
      by false f g = none_some g
