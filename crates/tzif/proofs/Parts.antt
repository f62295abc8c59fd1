-- What is read in a part of a file stands in the file.
use Rattle.std.proofs.Common.{◌≡◌, ℕ, ◌+◌, ◌<◌, ◌≤◌, List, get_or, take, drop, sym, ap, ◌∙◌, arith, get_or-drop, get_or-take, w32, to_z}
use Rattle.tzif.specs.Fields.{number4, number8, offset4, second8}

-- what stands at place i of a part that starts at a stands at a + i
module _ (f : List ℕ) (a s : ℕ) where
  pub byte_part : (i j : ℕ) → i < s → j ≡ a + i → get_or (take s (drop a f)) i 0 ≡ get_or f j 0
  byte_part i j h e = get_or-take s (drop a f) i 0 h ∙ get_or-drop a f i 0 ∙ ap (λ (k : ℕ). get_or f k 0) (sym e)

  pub number_part : (p q : ℕ) → (p + 4) ≤ s → q ≡ a + p → number4 (take s (drop a f)) p ≡ number4 f q
  unfolding number4
  number_part p q h e =
      rw (
        byte_part p q (omega arith) e,
        byte_part (p + 1) (q + 1) (omega arith) (omega arith),
        byte_part (p + 2) (q + 2) (omega arith) (omega arith),
        byte_part (p + 3) (q + 3) (omega arith) (omega arith),
      )

  pub offset_part : (p q : ℕ) → (p + 4) ≤ s → q ≡ a + p → offset4 (take s (drop a f)) p ≡ offset4 f q
  unfolding offset4
  offset_part p q h e = ap (to_z w32) (number_part p q h e)

  pub second_part : (p q : ℕ) → (p + 8) ≤ s → q ≡ a + p → second8 (take s (drop a f)) p ≡ second8 f q
  unfolding second8 number8
  second_part p q h e =
      rw (
        byte_part p q (omega arith) e,
        byte_part (p + 1) (q + 1) (omega arith) (omega arith),
        byte_part (p + 2) (q + 2) (omega arith) (omega arith),
        byte_part (p + 3) (q + 3) (omega arith) (omega arith),
        byte_part (p + 4) (q + 4) (omega arith) (omega arith),
        byte_part (p + 5) (q + 5) (omega arith) (omega arith),
        byte_part (p + 6) (q + 6) (omega arith) (omega arith),
        byte_part (p + 7) (q + 7) (omega arith) (omega arith),
      )
