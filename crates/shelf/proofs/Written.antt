-- A write to one slot changes nothing else.
use Rattle.std.proofs.Common.{◌≡◌, ℕ, ◌<◌, ◌≤◌, min, List, get_or, take, set, None, Option, refl, ap, ◌∙◌, arith, length-set, length-take, get_or-set_other, get_or-set_same, drop-set-lt}
use lib.Seq.{take-set-lt}
use Rattle.std.proofs.lemmas.Bool.{cond_below, cond_above}
use Rattle.shelf.specs.Laws.{OnlySlotChanged}
use Rattle.shelf.specs.Slots.{slot_count, in_use, written}

module _ {T : Type 0} (cap : ℕ) (xs : List (Option T)) (i : ℕ) (v : Option T) where
  in_use_set : i < slot_count cap xs → in_use cap (set xs i v) ≡ set (in_use cap xs) i v
  in_use_set h = ap (λ n. take (min n cap) (set xs i v)) (length-set xs i v) ∙ take-set-lt (slot_count cap xs) xs i v h

  pub set_law : i < slot_count cap xs → OnlySlotChanged cap xs i v (set xs i v)
  set_law h = record {
    holds = λ _. ap (λ l. get_or l i None) (in_use_set h) ∙ get_or-set_same (in_use cap xs) i v None (omega (arith, length-take (slot_count cap xs) xs));
    others = λ k ne. ap (λ l. get_or l k None) (in_use_set h) ∙ get_or-set_other (in_use cap xs) i k v None ne;
    off_shelf = λ n. absurd (omega arith);
    size = length-set xs i v;
    past_cap = drop-set-lt cap xs i v (omega arith);
  }

  pub kept_law : slot_count cap xs ≤ i → OnlySlotChanged cap xs i v xs
  kept_law h = record { holds = λ n. absurd (omega arith); others = λ k ne. refl; off_shelf = λ _. refl; size = refl; past_cap = refl }

  pub set_written : i < slot_count cap xs → set xs i v ≡ written cap xs i v
  unfolding written
  set_written h = cond_below i (slot_count cap xs) (set xs i v) xs h

  pub kept_written : slot_count cap xs ≤ i → xs ≡ written cap xs i v
  unfolding written
  kept_written h = cond_above i (slot_count cap xs) (set xs i v) xs xs h refl
