-- The second block of a file, seen from its own start: n transition seconds, n type indexes, then the type records.
use Rattle.std.specs.Prelude.{◌≡◌, ℕ, zero, suc, ◌+◌, ◌*◌, ◌<◌, ◌≤◌, true, List, [], ◌∷◌, length, ℤ, ◌≤ℤ◌, ◌<ℤ◌}
use Rattle.tzif.specs.Fields.{byte_at, offset4, second8}
use Rattle.zone.specs.Offsets.{is_offset}
use Rattle.zone_rule.specs.declared.step.Step.{Step}

-- transition second k, its type's index, and the offset of type j
abbrev pub second_at : List ℕ → ℕ → ℤ
second_at b k = second8 b (8 * k)

abbrev pub index_of : List ℕ → ℕ → ℕ → ℕ
index_of b n k = byte_at b (8 * n + k)

abbrev pub offset_of : List ℕ → ℕ → ℕ → ℤ
offset_of b n j = offset4 b (9 * n + 6 * j)

-- the transitions k, k + 1 and so on, m of them, as changes: from its second on, the offset of its type holds
abbrev pub steps_from : List ℕ → ℕ → ℕ → ℕ → List Step
steps_from b n k zero = []
steps_from b n k (suc m) = record { at = second_at b k; offset = offset_of b n (index_of b n k) } ∷ steps_from b n (suc k) m

abbrev pub steps_of : List ℕ → ℕ → List Step
steps_of b n = steps_from b n 0 n

-- ── what a look-up rests on, and what it finds ──

pub record GoodBlock (b : List ℕ) (n : ℕ) : Type 0 where
  pub few : n ≤ 2000
  pub room : (9 * n + 6) ≤ length b
  pub rising : (j k : ℕ) → j < k → k < n → second_at b j <ℤ second_at b k
  pub named : (k : ℕ) → k < n → (9 * n + 6 * index_of b n k + 6) ≤ length b
  pub first : is_offset (offset_of b n 0) ≡ true
  pub bounded : (k : ℕ) → k < n → is_offset (offset_of b n (index_of b n k)) ≡ true

-- the offset after so many transitions: type 0's before the first
abbrev pub offset_after : List ℕ → ℕ → ℕ → ℤ
offset_after b n zero = offset_of b n 0
offset_after b n (suc k) = offset_of b n (index_of b n k)

-- the first r of n transitions, and no others, are not after second s
pub record Passed (b : List ℕ) (n : ℕ) (s : ℤ) (r : ℕ) : Type 0 where
  pub most : r ≤ n
  pub before : (j : ℕ) → j < r → second_at b j ≤ℤ s
  pub after : (j : ℕ) → r ≤ j → j < n → s <ℤ second_at b j
