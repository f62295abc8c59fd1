-- Counting the months from one month to a later one, a year at a time, and back again.
use Rattle.std.proofs.Common.{◌≡◌, ℕ, zero, suc, ◌+◌, ◌-◌, ◌≤◌, Bool, true, false, cond, ltb, ℤ, pos, ◌+ℤ◌, ◌-ℤ◌, ◌*ℤ◌, ◌≤ℤ◌, ◌<ℤ◌, Some, None, Option, sym, refl, ap, ◌∙◌, subst, arith}
use lib.Signed.{lt_z}
use Rattle.std.proofs.lemmas.Int.{ints}
use Rattle.std.proofs.lemmas.Bool.{ltb-false}
use Rattle.calendar.specs.Calendars.{Calendar, CalendarLaws}
use Rattle.span_law.specs.declared.way.Way.TheVariants.{Onward as onward, Back as back}
use Rattle.span_law.specs.declared.year_month.YearMonth.{YearMonth}
use Rattle.span_law.specs.Standing.{Stands}
use Rattle.calendar_steps.specs.Standing.{NotAfter}
use Rattle.span_law.specs.Stepping.{and_then, month_after, month_before, months_on}
use Rattle.span_law.proofs.Steps.{none_some, some_same, month_at, months_move}
use Rattle.calendar_steps.proofs.Strides.{sum_on, stay_on, turn_on, last_here, last_year}

-- n months lead from the first month of p's year to the first month of year y, which is not after q's
pub record Climbed (c : Calendar) (p q : YearMonth) (y : ℤ) (n : ℕ) : Type 0 where
  pub from : p.year ≤ℤ y
  pub upto : y ≤ℤ q.year
  pub is : months_on c onward n (month_at p.year 1) ≡ Some (month_at y 1)
  pub room : p.year <ℤ y → p.month ≤ n
  pub few : pos n ≤ℤ ((y -ℤ p.year) *ℤ pos 14)

none_on : (c : Calendar) (n : ℕ) (p : YearMonth) → n ≡ 0 → months_on c onward n p ≡ Some p
unfolding months_on
none_on c zero p e = refl
none_on c (suc n) p e = absurd (omega arith)

room_on : (a b : ℤ) (m n r : ℕ) → a ≤ℤ b → (a <ℤ b → m ≤ n) → (b ≡ a → m ≤ r) → m ≤ n + r
room_on a b m n r l h k = by (lt_z a b) refl
  where
    by : (t : Bool) → lt_z a b ≡ t → m ≤ n + r
    by true e = let f = h (omega (arith, ints)) in omega arith
    by false e = let f = k (omega (arith, ints)) in omega arith

module _ (c : Calendar) (laws : CalendarLaws c) where
  pub climb_start : (p q : YearMonth) (y : ℤ) → y ≡ p.year → NotAfter p q → Climbed c p q y 0
  climb_start p q y e o =
      let h = o.years in
      record {
        from = omega (arith, ints);
        upto = omega (arith, ints);
        is = none_on c 0 (month_at p.year 1) refl ∙ ap (λ (z : ℤ). Some (month_at z 1)) (sym e);
        room = λ l. absurd (omega (arith, ints));
        few = omega (arith, ints);
      }

  pub climb_on : (p q : YearMonth) (y z : ℤ) (n r : ℕ) → Climbed c p q y n → y <ℤ q.year → Stands c p.year p.month → Stands c q.year q.month → r ≡ c.months y → z ≡ y +ℤ pos 1 → Climbed c p q z (n + r)
  climb_on p q y z n r k l s t e f =
      let lo = s.low in
      let hi = t.high in
      let fr = k.from in
      let a : c.first ≤ℤ y = omega (arith, ints) in
      let b : y ≤ℤ c.last = omega (arith, ints) in
      let lt : y <ℤ c.last = omega (arith, ints) in
      let ms = laws.some_months y a b in
      let one = ms.0 in
      let here : y ≡ p.year → p.month ≤ c.months y = λ g. subst (λ (x : ℤ). p.month ≤ c.months x) (sym g) s.most in
      let before = k.room in
      record {
        from = omega (arith, ints);
        upto = omega (arith, ints);
        is =
            sum_on c onward r n (n + r) (month_at p.year 1) (omega arith)
            ∙ ap (λ (o : Option YearMonth). and_then o (months_on c onward r)) k.is
            ∙ turn_on c y 1 r (r - 1) (omega arith) (omega arith) lt
            ∙ none_on c (r - ((r - 1) + 1)) (month_at (y +ℤ pos 1) 1) (omega arith)
            ∙ ap (λ (x : ℤ). Some (month_at x 1)) (sym f);
        room = λ _. room_on p.year y p.month n r fr before (λ g. subst (λ (m : ℕ). p.month ≤ m) (sym e) (here g));
        few = grows (y -ℤ p.year) (z -ℤ p.year) (omega (arith, ints)) k.few ms.1;
      }
    where
      grows : (a b : ℤ) → b ≡ a +ℤ pos 1 → pos n ≤ℤ (a *ℤ pos 14) → c.months y ≤ 14 → pos (n + r) ≤ℤ (b *ℤ pos 14)
      grows a b e' h h' = omega (arith, ints)

  pub climb_end : (p q : YearMonth) (y : ℤ) (n : ℕ) → Climbed c p q y n → q.year ≤ℤ y → Stands c p.year p.month → Stands c q.year q.month → NotAfter p q →
      (p.month ≤ n + q.month) × (months_on c onward ((n + q.month) - p.month) p ≡ Some q)
  climb_end p q y n k l s t o =
      let u = k.upto in
      let fr = k.from in
      let before = k.room in
      let level = o.months in
      let p1 = s.one in
      let q1 = t.one in
      let q2 = t.most in
      let e : y ≡ q.year = omega (arith, ints) in
      let le : p.month ≤ n + q.month = room_on p.year y p.month n q.month fr before (λ g. level (sym g ∙ e)) in
      let f : 1 + (p.month - 1) ≡ p.month = omega arith in
      let h : 1 + (q.month - 1) ≡ q.month = omega arith in
      let up : months_on c onward (n + (q.month - 1)) (month_at p.year 1) ≡ Some q =
      sum_on c onward (q.month - 1) n (n + (q.month - 1)) (month_at p.year 1) (omega arith)
      ∙ ap (λ (x : Option YearMonth). and_then x (months_on c onward (q.month - 1))) (k.is ∙ ap (λ (z : ℤ). Some (month_at z 1)) e)
      ∙ stay_on c q.year 1 (q.month - 1) (omega arith) ∙ ap (λ (j : ℕ). Some (month_at q.year j)) h in (
        le,
        sym (sum_on c onward ((n + q.month) - p.month) (p.month - 1) (n + (q.month - 1)) (month_at p.year 1) (omega arith)
            ∙ ap (λ (x : Option YearMonth). and_then x (months_on c onward ((n + q.month) - p.month))) (stay_on c p.year 1 (p.month - 1) (let m = s.most in omega arith) ∙ ap (λ (j : ℕ). Some (month_at p.year j)) f)) ∙ up,
      )

  pub climb_few : (p q : YearMonth) (y : ℤ) (n : ℕ) → Climbed c p q y n → Stands c p.year p.month → Stands c q.year q.month → n ≤ 280000000
  climb_few p q y n k s t =
      let a = laws.lowest in
      let b = laws.highest in
      let u = k.upto in
      let v = t.high in
      let w = s.low in
      by (y -ℤ p.year) k.few (omega (arith, ints))
    where
      by : (d : ℤ) → pos n ≤ℤ (d *ℤ pos 14) → d ≤ℤ pos 20000000 → n ≤ 280000000
      by d f g = omega (arith, ints)

  -- ── and back ──

  month_back : (p q : YearMonth) → Stands c p.year p.month → month_after c p ≡ Some q → month_before c q ≡ Some p
  month_back p q s e = by (ltb p.month (c.months p.year)) (lt_z p.year c.last) refl e
    where
      by : (t u : Bool) → ltb p.month (c.months p.year) ≡ t →
          cond t (Some (month_at p.year (p.month + 1))) (cond u (Some (month_at (p.year +ℤ pos 1) 1)) None) ≡ Some q → month_before c q ≡ Some p
      by true u f h =
          let o = s.one in
          let m : (p.month + 1) - 1 ≡ p.month = omega arith in
          subst (λ (x : YearMonth). month_before c x ≡ Some p) (some_same h) (last_here c p.year (p.month + 1) (omega arith) ∙ ap (λ (j : ℕ). Some (month_at p.year j)) m)
      by false true f h =
          let b = ltb-false p.month (c.months p.year) f in
          let m = s.most in
          let l = s.low in
          let y : (p.year +ℤ pos 1) -ℤ pos 1 ≡ p.year = omega (arith, ints) in
          let k : c.months p.year ≡ p.month = omega arith in
          subst (λ (x : YearMonth). month_before c x ≡ Some p) (some_same h)
          (last_year c (p.year +ℤ pos 1) 1 (omega arith) (omega (arith, ints))
          ∙ ap (λ (z : ℤ). Some (month_at z (c.months z))) y ∙ ap (λ (j : ℕ). Some (month_at p.year j)) k)
      by false false f h = none_some h

  pub months_back : (n : ℕ) (p q : YearMonth) → Stands c p.year p.month → months_on c onward n p ≡ Some q → months_on c back n q ≡ Some p
  unfolding months_on
  months_back zero p q s e = sym e
  months_back (suc n) p q s e = by (months_on c onward n p) refl (λ r f. months_back n p r s f) e
    where
      by : (o : Option YearMonth) → months_on c onward n p ≡ o → ((r : YearMonth) → months_on c onward n p ≡ Some r → months_on c back n r ≡ Some p) → and_then o (month_after c) ≡ Some q → months_on c back (suc n) q ≡ Some p
      by (Some r) f rest g =
          let rs = (months_move c laws onward n p r s f).0 in
          sum_on c back n 1 (suc n) q (omega arith)
          ∙ ap (λ (o : Option YearMonth). and_then o (months_on c back n)) (month_back r q rs g)
          ∙ rest r f
      by None f rest g = none_some g
