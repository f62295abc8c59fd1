-- A new shelf's slots are all empty, and the memory past its cap is as it was.
use Rattle.std.proofs.Common.{◌≡◌, ℕ, zero, suc, min, List, ◌++◌, length, get_or, take, drop, replicate, None, Option, refl, ap, ◌∙◌, arith, length-append, length-drop}
use lib.ListN.{length-replicate}
use Rattle.std.proofs.lemmas.List.{take_at}
use Rattle.std.proofs.lemmas.Slice.{drop-append-drop}
use Rattle.shelf.specs.Laws.{AllEmpty}
use Rattle.shelf.specs.Slots.{slot_count, in_use, emptied}

module _ {T : Type 0} where
  none_at : (n k : ℕ) → get_or {A = Option T} (replicate n None) k None ≡ None
  none_at zero k = refl
  none_at (suc n) zero = refl
  none_at (suc n) (suc k) = none_at n k

  module _ (cap : ℕ) (xs : List (Option T)) where
    length_emptied : length (emptied cap xs) ≡ length xs
    unfolding emptied
    length_emptied =
        let n = slot_count cap xs in
        omega (arith, length-append {A = Option T} (replicate n None) (drop n xs), length-replicate {A = Option T} n None, length-drop n xs)

    in_use_emptied : in_use cap (emptied cap xs) ≡ replicate (slot_count cap xs) None
    unfolding emptied
    in_use_emptied =
        let n = slot_count cap xs in
        ap (λ m. take (min m cap) (emptied cap xs)) length_emptied ∙ take_at (replicate n None) (drop n xs) n (length-replicate n None)

    emptied_law : AllEmpty cap xs (emptied cap xs)
    unfolding emptied
    emptied_law = record {
      empty = λ k. ap (λ l. get_or l k None) in_use_emptied ∙ none_at (slot_count cap xs) k;
      count = ap (λ m. min m cap) length_emptied;
      size = length_emptied;
      past_cap = drop-append-drop (slot_count cap xs) xs (replicate (slot_count cap xs) None) cap (omega arith) (length-replicate (slot_count cap xs) None);
    }

    -- the slots in use are filled with nothing
    pub emptied_new : (n : ℕ) (slots : List (Option T)) → n ≡ slot_count cap xs → slots ≡ replicate n None
        → record { state : slots ++ drop n xs ≡ emptied cap xs; law : AllEmpty cap xs (slots ++ drop n xs) }
    unfolding emptied
    emptied_new n slots count filled =
        let e : slots ++ drop n xs ≡ emptied cap xs = cc in
        record { state = e; law = rw e emptied_law }
