-- How lists of fields are judged.
use Rattle.std.proofs.Common.{◌≡◌, ℕ, zero, suc, ◌+◌, ◌-◌, ◌<◌, ◌≤◌, Bool, true, false, leb, ◌⊎◌, List, [], ◌∷◌, ◌++◌, length, Some, None, Option, sym, refl, ap, ◌∙◌, inl, inr, add-one, arith}
use Rattle.std.specs.Option.{option_or as or_else}
use Rattle.std.specs.List.{AllByRecursion}
use Rattle.std.proofs.ByRecursion.{All-append}
use Rattle.std.proofs.lemmas.Bool.{leb-true, leb-false, le-leb, cases_lt}
use Rattle.tzif.specs.Fields.{Field, each, wrong_at, first_wrong}
use Rattle.tzif.specs.File.{times, types, others, second_header, second_block, footer, footer_place, second_half}
use Rattle.tzif.specs.Places.{Sound, Wrong, FirstWrong}

pub or_none : (o : Option ℕ) → o ≡ or_else o None
or_none None = refl
or_none (Some p) = refl

or_assoc : (a b c : Option ℕ) → or_else (or_else a b) c ≡ or_else a (or_else b c)
or_assoc None b c = refl
or_assoc (Some p) b c = refl

-- fields in two parts
pub first_append : (f : List ℕ) (xs ys : List Field) → first_wrong f (xs ++ ys) ≡ or_else (first_wrong f xs) (first_wrong f ys)
first_append f [] ys = refl
first_append f (x ∷ xs) ys = rw (first_append f xs ys) (sym (or_assoc (wrong_at f x) (first_wrong f xs) (first_wrong f ys)))

-- the second half of a file, by its parts
pub halves : (f : List ℕ) (h v : ℕ) {o : Option ℕ} → o ≡ or_else (first_wrong f (second_header f h v)) (or_else (first_wrong f (second_block f (h + 44) (times f h) (types f h) (others f h))) (first_wrong f (footer f (footer_place f h)))) → o ≡ first_wrong f (second_half f h v)
halves f h v e =
    let xs : List Field = second_header f h v in
    let ys : List Field = second_block f (h + 44) (times f h) (types f h) (others f h) in
    let zs : List Field = footer f (footer_place f h) in
    e ∙ sym (first_append f xs (ys ++ zs) ∙ ap (or_else (first_wrong f xs)) (first_append f ys zs))

-- ── a loop over elements goes on where their fields are right, and stops where one is not ──

left : (n k : ℕ) → k < n → n - k ≡ suc (n - (k + 1))
left n k h = omega arith

module _ (f : List ℕ) (fields : ℕ → List Field) (n k : ℕ) (more : k < n) where
  pub each_more : None ≡ first_wrong f (fields k) → first_wrong f (each fields k (n - k)) ≡ first_wrong f (each fields (k + 1) (n - (k + 1)))
  each_more e = rw (left n k more, first_append f (fields k) (each fields (suc k) (n - (k + 1))), ← e, add-one)

  pub each_stop : {p : ℕ} → Some p ≡ first_wrong f (fields k) → first_wrong f (each fields k (n - k)) ≡ Some p
  each_stop e = rw (left n k more, first_append f (fields k) (each fields (suc k) (n - (k + 1))), ← e)

-- ── what a judgement says ──

module _ (f : List ℕ) where
  -- a field by its two tests
  by_tests : (x : Field) (w r : Bool) → leb (x.place + x.size) (length f) ≡ w → x.right ≡ r → (Sound f x × (wrong_at f x ≡ None)) ⊎ ((p : ℕ) × Wrong f x p × (wrong_at f x ≡ Some p))
  by_tests x true true e d = inl ((leb-true _ _ e, d), rw (e, d))
  by_tests x true false e d = inr (x.place, inr (leb-true _ _ e, d, refl), rw (e, d))
  by_tests x false r e d = inr (length f, inl ((λ h. let g = leb-false (x.place + x.size) (length f) e in omega arith), refl), rw e)

  pub judge : (x : Field) → (Sound f x × (wrong_at f x ≡ None)) ⊎ ((p : ℕ) × Wrong f x p × (wrong_at f x ≡ Some p))
  judge x = by_tests x (leb (x.place + x.size) (length f)) x.right refl refl

  -- no field is wrong
  pub sound_all : (xs : List Field) → first_wrong f xs ≡ None → AllByRecursion (Sound f) xs
  sound_all [] e = tt
  sound_all (x ∷ xs) e =
      elim (judge x) [
        | inl s ↦ (s.0, sound_all xs (rw s.1 at e))
        | inr w ↦ absurd (let t : Some w.0 ≡ None = rw w.2 at e in let z : ◌≡◌ {A = ℕ} 0 1 = cc in omega arith)
      ]

  pub none_wrong : (xs : List Field) → AllByRecursion (Sound f) xs → first_wrong f xs ≡ None
  none_wrong [] a = refl
  none_wrong (x ∷ xs) a = rw (le-leb _ _ a.0.0, a.0.1) (none_wrong xs a.1)

  -- one is the first
  pub first_found : (xs : List Field) (p : ℕ) → first_wrong f xs ≡ Some p → FirstWrong f xs p
  first_found [] p e = absurd (let z : ◌≡◌ {A = ℕ} 0 1 = cc in omega arith)
  first_found (x ∷ xs) p e =
      elim (judge x) [
        | inl s ↦
            let g = first_found xs p (rw s.1 at e) in
            record { before = x ∷ g.before; field = g.field; after = g.after; in_order = ap (λ (l : List Field). x ∷ l) g.in_order; sound = (s.0, g.sound); wrong = g.wrong }
        | inr w ↦
            let t : Some w.0 ≡ Some p = rw w.2 at e in
            let q : w.0 ≡ p = cc in
            record { before = []; field = x; after = xs; in_order = refl; sound = tt; wrong = rw q at w.1 }
      ]

-- ── what holds of each field, part by part ──

module _ (P : Field → Type 0) where
  pub all_parts : (xs ys : List Field) → AllByRecursion P (xs ++ ys) → AllByRecursion P xs × AllByRecursion P ys
  all_parts [] ys a = (tt, a)
  all_parts (x ∷ xs) ys a = let t = all_parts xs ys a.1 in ((a.0, t.0), t.1)

  pub each_parts : (fields : ℕ → List Field) (n i : ℕ) → AllByRecursion P (each fields i n) → (k : ℕ) → i ≤ k → k < i + n → AllByRecursion P (fields k)
  each_parts fields zero i a k h l = absurd (omega arith)
  each_parts fields (suc n) i a k h l =
      let t = all_parts (fields i) (each fields (suc i) n) a in
      elim (cases_lt i k) [
        | inl lt ↦ each_parts fields n (suc i) t.1 k (omega arith) (omega arith)
        | inr ge ↦ let q : k ≡ i = omega arith in rw q t.0
      ]

  pub each_from : (fields : ℕ → List Field) (n i : ℕ) → ((k : ℕ) → i ≤ k → k < i + n → AllByRecursion P (fields k)) → AllByRecursion P (each fields i n)
  each_from fields zero i a = tt
  each_from fields (suc n) i a =
      All-append P (fields i) (each fields (suc i) n) (a i (omega arith) (omega arith)) (each_from fields n (suc i) (λ k h l. a k (omega arith) (omega arith)))
