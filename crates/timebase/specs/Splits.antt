-- Division of a signed number by a positive one, with its remainder.
use Rattle.std.specs.Prelude.{◌≡◌, ℕ, ◌-◌, ◌/◌, ◌%◌, ◌<◌, ℤ, pos, negsuc, ◌+ℤ◌, ◌*ℤ◌, neg_ℤ, ◌≤ℤ◌, ◌<ℤ◌}

-- rounding downward
abbrev pub floor_quotient : ℤ → ℕ → ℤ
floor_quotient (pos a) d = pos (a / d)
floor_quotient (negsuc a) d = negsuc (a / d)

abbrev pub floor_rest : ℤ → ℕ → ℕ
floor_rest (pos a) d = a % d
floor_rest (negsuc a) d = d - 1 - a % d

-- n = q * d + r with 0 ≤ r < d: rounding downward, for one q and one r
pub record Floor (n : ℤ) (d : ℕ) (q : ℤ) (r : ℕ) : Type 0 where
  pub sum : n ≡ (q *ℤ pos d) +ℤ pos r
  pub high : r < d

-- n = q * d + r, where r is smaller than d either way and doesn't lie across 0 from n: rounding toward 0, for one q and one r
pub record TowardZero (n : ℤ) (d : ℕ) (q r : ℤ) : Type 0 where
  pub sum : n ≡ (q *ℤ pos d) +ℤ r
  pub over : pos 0 ≤ℤ n → (pos 0 ≤ℤ r) × (r <ℤ pos d)
  pub under : n ≤ℤ pos 0 → (r ≤ℤ pos 0) × (neg_ℤ (pos d) <ℤ r)
