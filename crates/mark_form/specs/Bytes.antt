-- The bytes of which mark texts are made, besides those of zones' names and of values.
use Rattle.std.specs.Prelude.{ℕ, ◌+◌, Bool, false, cond, ◌&&◌, ◌||◌, Some, None, codes, Option, ◌==◌, nat_le, nat_lt, slice_index}
use Rattle.reading.specs.Digits.{is_digit}

-- `a` to `z`
abbrev pub is_lower : ℕ → Bool
is_lower b = nat_le 97 b && nat_le b 122

-- a key begins with a lower-case letter or `_`
abbrev pub is_first_of_key : ℕ → Bool
is_first_of_key b = is_lower b || b == 95

-- lower-case letters, digits, `_` and `-` stand in a key
abbrev pub is_in_key : ℕ → Bool
is_in_key b = is_lower b || (is_digit b || (b == 95 || b == 45))

-- a byte where a form has a kind: `0` is for any digit, another byte for itself
abbrev pub stands : ℕ → ℕ → Bool
stands kind b = cond (kind == 48) (is_digit b) (b == kind)

-- how many bytes of `u-ca` a key has matched, after one byte more; none where it is another key
abbrev pub matched : Option ℕ → ℕ → Option ℕ
matched None b = None
matched (Some k) b = cond (nat_lt k 4 && b == slice_index (codes "u-ca") k) (Some (k + 1)) None

-- a key that has matched so much is `u-ca`
abbrev pub is_matched : Option ℕ → Bool
is_matched None = false
is_matched (Some k) = k == 4
