-- What is read in the chunks of a block stands in the block.
use Rattle.std.proofs.Common.{◌≡◌, ℕ, zero, suc, ◌+◌, ◌*◌, ◌<◌, ◌≤◌, Bool, true, false, List, [], length, get_or, take, drop, drop-drop, ℤ, int_le, refl, ap, ◌∙◌, inl, inr, arith}
use Rattle.std.proofs.Math.Nat.{mul-suc}
use Rattle.std.proofs.lemmas.Int.{ints}
use Rattle.std.proofs.lemmas.Bool.{cases_order}
use Rattle.std.specs.List.Sorted.{IsPartitionedBy, IsPartitionPoint}
use Rattle.std.specs.Simd.{first_chunks}
use Rattle.tzif.specs.Fields.{second8}
use Rattle.tzif.proofs.Parts.{second_part}
use Rattle.file_zone.specs.Blocks.{second_at, GoodBlock, Passed}

-- chunk k of some of n
pub chunk_at : {X : Type 0} (n m k : ℕ) (xs : List X) (d : List X) → k < m → get_or (first_chunks n m xs) k d ≡ take n (drop (n * k) xs)
chunk_at n zero k xs d h = absurd (omega arith)
chunk_at n (suc m) zero xs d h = let e : n * 0 ≡ 0 = omega arith in rw e refl
chunk_at n (suc m) (suc k) xs d h = chunk_at n m k (drop n xs) d (omega arith) ∙ ap (take n) (drop-drop (n * k) n xs ∙ ap (λ i. drop i xs) (let e = mul-suc n k in let z : n + n * k ≡ n * suc k = omega arith in z))

pub chunk_second : (b : List ℕ) (n k : ℕ) (d : List ℕ) → k < n → second8 (get_or (first_chunks 8 n (take (8 * n) b)) k d) 0 ≡ second_at b k
chunk_second b n k d h =
    ap (λ bytes. second8 bytes 0) (chunk_at 8 n k (take (8 * n) b) d h)
    ∙ second_part (take (8 * n) b) (8 * k) 8 0 (8 * k) (omega arith) (omega arith)
    ∙ second_part b 0 (8 * n) (8 * k) (8 * k) (omega arith) (omega arith)

-- ── the search among chunks that are the seconds ──

module _ (b : List ℕ) (n : ℕ) (good : GoodBlock b n) (xs : List (List ℕ)) (long : length xs ≡ n) (each : (k : ℕ) (d : List ℕ) → k < n → second8 (get_or xs k d) 0 ≡ second_at b k) (s : ℤ) where
  abbrev is_passed : List ℕ → Bool
  is_passed t = int_le (second8 t 0) s

  pub is_parted : IsPartitionedBy is_passed xs
  is_parted i j d h l e =
      let p = each i d (omega arith) in
      let q = each j d (omega arith) in
      elim (cases_order i j) [
        | inl t ↦ rw t e
        | inr t ↦ elim t [ inl u ↦ let r = good.rising i j u (omega arith) in grind (arith, ints) | inr u ↦ absurd (omega arith) ]
      ]

  pub passed_is : (r : ℕ) → r ≤ length xs → IsPartitionPoint (λ t. is_passed t ≡ true) (λ t. is_passed t ≡ false) xs r → Passed b n s r
  passed_is r h point = record {
    most = omega arith;
    before = λ j l. let e = point.0 j [] (omega arith) l in let q = each j [] (omega arith) in grind (arith, ints);
    after = λ j l m. let e = point.1 j [] l (omega arith) in let q = each j [] (omega arith) in grind (arith, ints);
  }
