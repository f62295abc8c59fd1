-- Stepping months a year at a time.
use Rattle.std.proofs.Common.{◌≡◌, w32, ℕ, zero, suc, ◌+◌, ◌-◌, ◌<◌, ◌≤◌, Bool, true, false, cond, ltb, ℤ, pos, negsuc, ◌+ℤ◌, ◌-ℤ◌, ◌≤ℤ◌, ◌<ℤ◌, Some, None, Option, sym, refl, ap, ◌∙◌, subst, arith}
use lib.Signed.{lt_z}
use Rattle.std.specs.Prelude.{FitsSigned}
use Rattle.std.proofs.lemmas.Int.{ints}
use Rattle.std.proofs.lemmas.Bool.{cond-true, cond-false, lt-ltb, le-ltb}
use Rattle.years.specs.declared.date.Date.{Date}
use Rattle.calendar.specs.Calendars.{Calendar, CalendarLaws, within}
use Rattle.span_law.specs.Standing.{Stands}
use Rattle.span_law.specs.declared.way.Way.{Way}
use Rattle.span_law.specs.declared.way.Way.TheVariants.{Onward as onward, Back as back}
use Rattle.span_law.specs.declared.year_month.YearMonth.{YearMonth}
use Rattle.span_law.specs.Stepping.{and_then, month_after, month_before, month_beside, months_on, year_on}
use Rattle.span_law.proofs.Steps.{month_at, within_low, within_high, within_is, stand}

less : (a b : ℤ) → a <ℤ b → lt_z a b ≡ true
less a b h = sym (omega (arith, ints))

not_less : (a b : ℤ) → b ≤ℤ a → lt_z a b ≡ false
not_less a b h = sym (omega (arith, ints))

module _ (c : Calendar) where
  -- ── steps after steps ──

  none_after : (way : Way) (o : Option YearMonth) → and_then o (months_on c way 0) ≡ o
  unfolding months_on
  none_after way (Some p) = refl
  none_after way None = refl

  one_more : (way : Way) (n : ℕ) (o : Option YearMonth) → and_then (and_then o (months_on c way n)) (month_beside c way) ≡ and_then o (months_on c way (suc n))
  unfolding months_on
  one_more way n (Some p) = refl
  one_more way n None = refl

  -- k months, then n more
  pub sum_on : (way : Way) (n k m : ℕ) (p : YearMonth) → m ≡ n + k → months_on c way m p ≡ and_then (months_on c way k p) (months_on c way n)
  unfolding months_on
  sum_on way zero k m p e = (let q : m ≡ k = omega arith in ap (λ (j : ℕ). months_on c way j p) q) ∙ sym (none_after way (months_on c way k p))
  sum_on way (suc n) k zero p e = absurd (omega arith)
  sum_on way (suc n) k (suc m) p e =
      ap (λ (o : Option YearMonth). and_then o (month_beside c way)) (sum_on way n k m p (omega arith)) ∙ one_more way n (months_on c way k p)

  -- ── onward ──

  next_here : (y : ℤ) (m : ℕ) → m < c.months y → month_after c (month_at y m) ≡ Some (month_at y (m + 1))
  next_here y m h = cond-true (ltb m (c.months y)) (Some (month_at y (m + 1))) (cond (lt_z y c.last) (Some (month_at (y +ℤ pos 1) 1)) None) (lt-ltb m (c.months y) h)

  next_year : (y : ℤ) (m : ℕ) → c.months y ≤ m → y <ℤ c.last → month_after c (month_at y m) ≡ Some (month_at (y +ℤ pos 1) 1)
  next_year y m h k =
      cond-false (ltb m (c.months y)) (Some (month_at y (m + 1))) (cond (lt_z y c.last) (Some (month_at (y +ℤ pos 1) 1)) None) (le-ltb m (c.months y) h)
      ∙ cond-true (lt_z y c.last) (Some (month_at (y +ℤ pos 1) 1)) None (less y c.last k)

  next_none : (y : ℤ) (m : ℕ) → c.months y ≤ m → c.last ≤ℤ y → month_after c (month_at y m) ≡ None
  next_none y m h k =
      cond-false (ltb m (c.months y)) (Some (month_at y (m + 1))) (cond (lt_z y c.last) (Some (month_at (y +ℤ pos 1) 1)) None) (le-ltb m (c.months y) h)
      ∙ cond-false (lt_z y c.last) (Some (month_at (y +ℤ pos 1) 1)) None (not_less y c.last k)

  -- within the year
  pub stay_on : (y : ℤ) (m n : ℕ) → m + n ≤ c.months y → months_on c onward n (month_at y m) ≡ Some (month_at y (m + n))
  unfolding months_on
  stay_on y m zero h = ap (λ (j : ℕ). Some (month_at y j)) (omega arith)
  stay_on y m (suc n) h =
      ap (λ (o : Option YearMonth). and_then o (month_after c)) (stay_on y m n (omega arith))
      ∙ next_here y (m + n) (omega arith)
      ∙ ap (λ (j : ℕ). Some (month_at y j)) (omega arith)

  -- the year's last month, and one more
  over : (y : ℤ) (m k : ℕ) → m + k ≡ c.months y → months_on c onward (suc k) (month_at y m) ≡ month_after c (month_at y (m + k))
  unfolding months_on
  over y m k h = ap (λ (o : Option YearMonth). and_then o (month_after c)) (stay_on y m k (omega arith))

  -- past the year's last month, on from the next year's first
  pub turn_on : (y : ℤ) (m n k : ℕ) → m + k ≡ c.months y → k < n → y <ℤ c.last → months_on c onward n (month_at y m) ≡ months_on c onward (n - (k + 1)) (month_at (y +ℤ pos 1) 1)
  turn_on y m n k h l u =
      sum_on onward (n - (k + 1)) (suc k) n (month_at y m) (omega arith)
      ∙ ap (λ (o : Option YearMonth). and_then o (months_on c onward (n - (k + 1)))) (over y m k h ∙ next_year y (m + k) (omega arith) u)

  pub stop_on : (y : ℤ) (m n k : ℕ) → m + k ≡ c.months y → k < n → c.last ≤ℤ y → months_on c onward n (month_at y m) ≡ None
  stop_on y m n k h l u =
      sum_on onward (n - (k + 1)) (suc k) n (month_at y m) (omega arith)
      ∙ ap (λ (o : Option YearMonth). and_then o (months_on c onward (n - (k + 1)))) (over y m k h ∙ next_none y (m + k) (omega arith) u)

  -- ── back ──

  pub last_here : (y : ℤ) (m : ℕ) → 1 < m → month_before c (month_at y m) ≡ Some (month_at y (m - 1))
  last_here y m h = cond-true (ltb 1 m) (Some (month_at y (m - 1))) (cond (lt_z c.first y) (Some (month_at (y -ℤ pos 1) (c.months (y -ℤ pos 1)))) None) (lt-ltb 1 m h)

  pub last_year : (y : ℤ) (m : ℕ) → m ≤ 1 → c.first <ℤ y → month_before c (month_at y m) ≡ Some (month_at (y -ℤ pos 1) (c.months (y -ℤ pos 1)))
  last_year y m h k =
      cond-false (ltb 1 m) (Some (month_at y (m - 1))) (cond (lt_z c.first y) (Some (month_at (y -ℤ pos 1) (c.months (y -ℤ pos 1)))) None) (le-ltb 1 m h)
      ∙ cond-true (lt_z c.first y) (Some (month_at (y -ℤ pos 1) (c.months (y -ℤ pos 1)))) None (less c.first y k)

  last_none : (y : ℤ) (m : ℕ) → m ≤ 1 → y ≤ℤ c.first → month_before c (month_at y m) ≡ None
  last_none y m h k =
      cond-false (ltb 1 m) (Some (month_at y (m - 1))) (cond (lt_z c.first y) (Some (month_at (y -ℤ pos 1) (c.months (y -ℤ pos 1)))) None) (le-ltb 1 m h)
      ∙ cond-false (lt_z c.first y) (Some (month_at (y -ℤ pos 1) (c.months (y -ℤ pos 1)))) None (not_less c.first y k)

  -- within the year
  pub stay_back : (y : ℤ) (m n : ℕ) → n < m → months_on c back n (month_at y m) ≡ Some (month_at y (m - n))
  unfolding months_on
  stay_back y m zero h = ap (λ (j : ℕ). Some (month_at y j)) (omega arith)
  stay_back y m (suc n) h =
      ap (λ (o : Option YearMonth). and_then o (month_before c)) (stay_back y m n (omega arith))
      ∙ last_here y (m - n) (omega arith)
      ∙ ap (λ (j : ℕ). Some (month_at y j)) (omega arith)

  -- the year's first month, and one less
  under : (y : ℤ) (m : ℕ) → 1 ≤ m → months_on c back m (month_at y m) ≡ month_before c (month_at y 1)
  unfolding months_on
  under y zero h = absurd (omega arith)
  under y (suc m) h = ap (λ (o : Option YearMonth). and_then o (month_before c)) (stay_back y (suc m) m (omega arith)) ∙ (let q : suc m - m ≡ 1 = omega arith in ap (λ (j : ℕ). month_before c (month_at y j)) q)

  -- past the year's first month, back from the last of the year before
  pub turn_back : (y : ℤ) (m n : ℕ) → 1 ≤ m → m ≤ n → c.first <ℤ y → months_on c back n (month_at y m) ≡ months_on c back (n - m) (month_at (y -ℤ pos 1) (c.months (y -ℤ pos 1)))
  turn_back y m n h l u =
      sum_on back (n - m) m n (month_at y m) (omega arith)
      ∙ ap (λ (o : Option YearMonth). and_then o (months_on c back (n - m))) (under y m h ∙ last_year y 1 (omega arith) u)

  pub stop_back : (y : ℤ) (m n : ℕ) → 1 ≤ m → m ≤ n → y ≤ℤ c.first → months_on c back n (month_at y m) ≡ None
  stop_back y m n h l u =
      sum_on back (n - m) m n (month_at y m) (omega arith)
      ∙ ap (λ (o : Option YearMonth). and_then o (months_on c back (n - m))) (under y m h ∙ last_none y 1 (omega arith) u)

  -- ── years ──

  -- a year that is not there
  pub year_out : (d : Date) (z y : ℤ) → y ≡ d.year +ℤ z → within c.first c.last y ≡ false → None ≡ year_on c d z
  unfolding year_on
  year_out d z y e h =
      sym (cond-false (within c.first c.last (d.year +ℤ z)) (Some (month_at (d.year +ℤ z) (c.twin d.year d.month (d.year +ℤ z)))) None
      (subst (λ (x : ℤ). within c.first c.last x ≡ false) e h))

  -- no year of a calendar is too great for its type
  pub year_past : CalendarLaws c → (d : Date) (z y : ℤ) → y ≡ d.year +ℤ z → ¬ (FitsSigned w32 y) → None ≡ year_on c d z
  year_past laws d z y e h = year_out d z y e (by (within c.first c.last y) refl)
    where
      fits : (x lo hi : ℤ) → negsuc 9999999 ≤ℤ lo → hi ≤ℤ pos 10000000 → lo ≤ℤ x → x ≤ℤ hi → FitsSigned w32 x
      fits x lo hi a b k l = omega (arith, ints)

      by : (t : Bool) → within c.first c.last y ≡ t → t ≡ false
      by true f = absurd (h (fits y c.first c.last laws.lowest laws.highest (within_low c.first c.last y f) (within_high c.first c.last y f)))
      by false f = refl

  -- the twin in a year that is there
  pub year_in : (d : Date) (z y : ℤ) (m : ℕ) → y ≡ d.year +ℤ z → c.first ≤ℤ y → y ≤ℤ c.last → m ≡ c.twin d.year d.month y → Some (month_at y m) ≡ year_on c d z
  unfolding year_on
  year_in d z y m e l h t =
      ap (λ (n : ℕ). Some (month_at y n)) t
      ∙ subst (λ (x : ℤ). Some (month_at y (c.twin d.year d.month y)) ≡ cond (within c.first c.last x) (Some (month_at x (c.twin d.year d.month x))) None) e
      (sym (cond-true (within c.first c.last y) (Some (month_at y (c.twin d.year d.month y))) None (within_is c.first c.last y l h)))

  pub twin_stands : CalendarLaws c → (d : Date) (y : ℤ) (m : ℕ) → Stands c d.year d.month → c.first ≤ℤ y → y ≤ℤ c.last → m ≡ c.twin d.year d.month y → Stands c y m
  twin_stands laws d y m s l h t =
      let i = laws.twin_inside d.year d.month y s.low s.high s.one s.most l h in
      subst (λ (n : ℕ). Stands c y n) (sym t) (stand c laws y (c.twin d.year d.month y) l h i.0 i.1)

-- n months from p, as the loops count them: onward from the start of a year y, and back from its last month
pub record Onto (c : Calendar) (p : YearMonth) (n : ℕ) (y : ℤ) (left : ℕ) : Type 0 where
  pub first : c.first ≤ℤ y
  pub one : 1 ≤ left
  pub is : y ≤ℤ c.last → months_on c onward n p ≡ months_on c onward (left - 1) (month_at y 1)
  pub none : c.last <ℤ y → months_on c onward n p ≡ None

pub record Behind (c : Calendar) (p : YearMonth) (n : ℕ) (y : ℤ) (left : ℕ) : Type 0 where
  pub last : y ≤ℤ c.last
  pub is : c.first ≤ℤ y → months_on c back n p ≡ months_on c back left (month_at y (c.months y))
  pub none : y <ℤ c.first → months_on c back n p ≡ None

module _ (c : Calendar) (laws : CalendarLaws c) where
  module _ (y : ℤ) (m n : ℕ) (s : Stands c y m) where
    pub onto_start : (left : ℕ) → left ≡ m + n → Onto c (month_at y m) n y left
    onto_start left e =
        let o = s.one in
        let u = s.most in
        let hi = s.high in
        let f : 1 + (m - 1) ≡ m = omega arith in
        record {
          first = s.low;
          one = omega arith;
          is = λ _.
              sym (sum_on c onward n (m - 1) (left - 1) (month_at y 1) (omega arith)
              ∙ ap (λ (x : Option YearMonth). and_then x (months_on c onward n)) (stay_on c y 1 (m - 1) (omega arith) ∙ ap (λ (j : ℕ). Some (month_at y j)) f));
          none = λ h. absurd (omega (arith, ints));
        }

    pub behind_start : (left : ℕ) → left ≡ (c.months y - m) + n → Behind c (month_at y m) n y left
    behind_start left e =
        let o = s.one in
        let u = s.most in
        let lo = s.low in
        let f : c.months y - (c.months y - m) ≡ m = omega arith in
        record {
          last = s.high;
          is = λ _.
              sym (sum_on c back n (c.months y - m) left (month_at y (c.months y)) (omega arith)
              ∙ ap (λ (x : Option YearMonth). and_then x (months_on c back n)) (stay_back c y (c.months y) (c.months y - m) (omega arith) ∙ ap (λ (j : ℕ). Some (month_at y j)) f));
          none = λ h. absurd (omega (arith, ints));
        }

  module _ (p : YearMonth) (n : ℕ) (y : ℤ) (left r : ℕ) (e : r ≡ c.months y) where
    pub onto_here : Onto c p n y left → y ≤ℤ c.last → left ≤ r → (Some (month_at y left) ≡ months_on c onward n p) × Stands c y left
    onto_here k h l =
        let o = k.one in
        let f : 1 + (left - 1) ≡ left = omega arith in (
          sym (k.is h ∙ stay_on c y 1 (left - 1) (omega arith) ∙ ap (λ (j : ℕ). Some (month_at y j)) f),
          stand c laws y left k.first h o (omega arith),
        )

    pub onto_turn : (z : ℤ) → Onto c p n y left → y ≤ℤ c.last → r < left → z ≡ y +ℤ pos 1 → Onto c p n z (left - r)
    onto_turn z k h l q =
        let lo = k.first in
        let ms = (laws.some_months y lo h).0 in
        let f : (left - 1) - ((r - 1) + 1) ≡ (left - r) - 1 = omega arith in
        record {
          first = omega (arith, ints);
          one = omega arith;
          is = λ v.
              k.is h ∙ turn_on c y 1 (left - 1) (r - 1) (omega arith) (omega arith) (omega (arith, ints))
              ∙ ap (λ (j : ℕ). months_on c onward j (month_at (y +ℤ pos 1) 1)) f ∙ ap (λ (x : ℤ). months_on c onward ((left - r) - 1) (month_at x 1)) (sym q);
          none = λ v. k.is h ∙ stop_on c y 1 (left - 1) (r - 1) (omega arith) (omega arith) (omega (arith, ints));
        }

    pub behind_here : Behind c p n y left → c.first ≤ℤ y → left < r → (Some (month_at y (r - left)) ≡ months_on c back n p) × Stands c y (r - left)
    behind_here k h l = (
      sym (k.is h ∙ stay_back c y (c.months y) left (omega arith) ∙ ap (λ (j : ℕ). Some (month_at y (j - left))) (sym e)),
      stand c laws y (r - left) h k.last (omega arith) (omega arith),
    )

    pub behind_turn : (z : ℤ) → Behind c p n y left → c.first ≤ℤ y → r ≤ left → z ≡ y -ℤ pos 1 → Behind c p n z (left - r)
    behind_turn z k h l q =
        let hi = k.last in
        let ms = (laws.some_months y h hi).0 in
        let f : left - c.months y ≡ left - r = omega arith in
        record {
          last = omega (arith, ints);
          is = λ v.
              k.is h ∙ turn_back c y (c.months y) left ms (omega arith) (omega (arith, ints))
              ∙ ap (λ (j : ℕ). months_on c back j (month_at (y -ℤ pos 1) (c.months (y -ℤ pos 1)))) f ∙ ap (λ (x : ℤ). months_on c back (left - r) (month_at x (c.months x))) (sym q);
          none = λ v. k.is h ∙ stop_back c y (c.months y) left ms (omega arith) (omega (arith, ints));
        }
