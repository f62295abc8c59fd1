-- What a rule answers of a year, fact by fact.
use Rattle.std.proofs.Common.{◌≡◌, ℕ, zero, suc, ◌+◌, ◌-◌, ◌<◌, ◌≤◌, Bool, true, false, cond, ◌&&◌, List, get_or, replicate, ℤ, ◌≤ℤ◌, ◌<ℤ◌, int_le, int_lt, Some, None, Option, refl, sym, ap, ◌∙◌, le_of_suc-le-suc, not-suc-le-zero, add-zero, add-suc, suc-add, arith}
use Rattle.std.proofs.lemmas.Int.{ints}
use Rattle.std.proofs.lemmas.Bool.{and_parts, and_from}
use Rattle.years.specs.declared.rule.Year.{Year}
use Rattle.years.specs.Dates.{Years, days_in}
use Rattle.years.specs.Rules.{listed, year_of, year_in}

pub low_test : (x y : ℤ) → x ≤ℤ y → int_le x y ≡ true
low_test x y h = grind (arith, ints)

pub high_test : (x y : ℤ) → x <ℤ y → int_lt x y ≡ true
high_test x y h = grind (arith, ints)

pub low_tells : (x y : ℤ) → int_le x y ≡ true → x ≤ℤ y
low_tells x y h = grind (arith, ints)

pub high_tells : (x y : ℤ) → int_lt x y ≡ true → x <ℤ y
high_tells x y h = grind (arith, ints)

listed_at : (f : ℕ → ℕ) (m k : ℕ) (rest : List ℕ) (i : ℕ) → i < k → get_or (listed f m k rest) i 0 ≡ f (m + i)
listed_at f m zero rest i h = absurd (not-suc-le-zero h)
listed_at f m (suc k) rest zero h = ap f (sym (add-zero m))
listed_at f m (suc k) rest (suc i) h =
    listed_at f (suc m) k rest i (le_of_suc-le-suc h) ∙ ap f (suc-add m i ∙ sym (add-suc m i))

-- the year as the rule means it
pub record IsYear (ys : Years) (y : ℤ) (r : Year) : Type 0 where
  pub starts : r.start ≡ ys.start y
  pub days : r.days ≡ days_in ys.shape y (ys.shape.months y)
  pub months : r.months ≡ ys.shape.months y
  pub lengths : (m : ℕ) → 1 ≤ m → m ≤ ys.shape.months y → get_or r.lengths (m - 1) 0 ≡ ys.shape.size y m

abbrev pub YearAnswer : Years → ℤ → Option Year → Type 0
YearAnswer ys y (Some r) = (ys.first ≤ℤ y) × (y <ℤ ys.past) × (r ≡ year_of ys y)
YearAnswer ys y None = ys.first ≤ℤ y → y <ℤ ys.past → ⊥

module _ (ys : Years) (y : ℤ) where
  pub is_year : (r : Year) → r ≡ year_of ys y → IsYear ys y r
  is_year r e = record {
    starts = ap (λ (x : Year). x.start) e;
    days = ap (λ (x : Year). x.days) e;
    months = ap (λ (x : Year). x.months) e;
    lengths = λ m low high.
        let i : 1 + (m - 1) ≡ m = omega arith in
        ap (λ (x : Year). get_or x.lengths (m - 1) 0) e
        ∙ (listed_at (ys.shape.size y) 1 (ys.shape.months y) (replicate (14 - ys.shape.months y) 0) (m - 1) (omega arith) ∙ ap (ys.shape.size y) i);
  }

  pub answered : (a : Option Year) → a ≡ year_in ys y → YearAnswer ys y a
  answered a e = by (int_le ys.first y && int_lt y ys.past) refl a e
    where
      by : (t : Bool) → (int_le ys.first y && int_lt y ys.past) ≡ t → (a : Option Year) → a ≡ cond t (Some (year_of ys y)) None → YearAnswer ys y a
      by true h (Some r) e =
          let p = and_parts (int_le ys.first y) (int_lt y ys.past) h in
          (low_tells ys.first y p.0, high_tells y ys.past p.1, cc)
      by true h None e = let z : ◌≡◌ {A = ℕ} 0 1 = cc in absurd (omega arith)
      by false h (Some r) e = let z : ◌≡◌ {A = ℕ} 0 1 = cc in absurd (omega arith)
      by false h None e = λ low high. let z : ◌≡◌ {A = ℕ} 0 1 = let t = and_from _ _ (low_test ys.first y low) (high_test y ys.past high) in cc in absurd (omega arith)
