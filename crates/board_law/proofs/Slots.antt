-- What a write to one slot alters, and what a new board's slots hold.
use Rattle.std.proofs.Common.{◌≡◌, ℕ, zero, suc, ◌<◌, ◌≤◌, List, [], ◌∷◌, length, get_or, Some, None, Option, sym, refl, ap, ◌∙◌, subst, ⊎_elim, arith, length-take}
use Rattle.std.proofs.lemmas.Bool.{cases_eq, cases_lt}
use Rattle.span_law.proofs.Steps.{none_some}
use Rattle.shelf.specs.Laws.{AllEmpty, OnlySlotChanged}
use Rattle.shelf.specs.Slots.{slot_count, in_use, slot_at, written, emptied}
use Rattle.shelf.proofs.Emptied.{emptied_new}
use Rattle.shelf.proofs.Written.{set_law, set_written, kept_law, kept_written}

module _ {A : Type 0} where
  short_of : (xs : List (Option A)) (n : ℕ) (a : A) → get_or xs n None ≡ Some a → n < length xs
  short_of [] n a e = none_some e
  short_of (x ∷ xs) zero a e = omega arith
  short_of (x ∷ xs) (suc n) a e = let h = short_of xs n a e in omega arith

module _ {A : Type 0} (cap : ℕ) where
  -- a slot that holds something is on the shelf
  pub on_it : (xs : List (Option A)) (n : ℕ) (a : A) → slot_at cap xs n ≡ Some a → n < slot_count cap xs
  on_it xs n a e = let h = short_of (in_use cap xs) n a e in omega (arith, length-take (slot_count cap xs) xs)

  pub written_law : (xs : List (Option A)) (n : ℕ) (o : Option A) → OnlySlotChanged cap xs n o (written cap xs n o)
  written_law xs n o =
      ⊎_elim (λ (h : n < slot_count cap xs). subst (OnlySlotChanged cap xs n o) (set_written cap xs n o h) (set_law cap xs n o h))
      (λ (h : slot_count cap xs ≤ n). subst (OnlySlotChanged cap xs n o) (kept_written cap xs n o h) (kept_law cap xs n o h))
      (cases_lt n (slot_count cap xs))

  -- of what is put in one slot alone, each thing is good where it was so before and what is put is so
  pub all_good : (Good : A → Type 0) (xs ys : List (Option A)) (n : ℕ) (o : Option A) → n < slot_count cap xs → OnlySlotChanged cap xs n o ys → ((a : A) → o ≡ Some a → Good a) →
      ((k : ℕ) (a : A) → slot_at cap xs k ≡ Some a → Good a) → (k : ℕ) (a : A) → slot_at cap ys k ≡ Some a → Good a
  all_good Good xs ys n o on law put before k a e =
      ⊎_elim (λ (s : k ≡ n). put a (sym (law.holds on) ∙ ap (slot_at cap ys) (sym s) ∙ e))
      (λ (s : k ≡ n → ⊥). before k a (sym (law.others k s) ∙ e))
      (cases_eq k n)

  pub all_empty : (xs : List (Option A)) → AllEmpty cap xs (emptied cap xs)
  all_empty xs = let e = emptied_new cap xs (slot_count cap xs) _ refl refl in subst (AllEmpty cap xs) e.state e.law
