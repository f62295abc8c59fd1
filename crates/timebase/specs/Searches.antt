-- Bounded searches.
use Rattle.std.specs.Prelude.{ℕ, zero, suc, Bool, cond, ℤ, pos, ◌+ℤ◌, Some, None, Option}

-- the first of lo, lo + 1, .. , lo + n - 1 that passes the test
unfoldable pub first_from : (ℤ → Bool) → ℤ → ℕ → Option ℤ
first_from test lo zero = None
first_from test lo (suc n) = cond (test lo) (Some lo) (first_from test (lo +ℤ pos 1) n)

-- the largest number up to n that passes the test, or 0
unfoldable pub most_to : (ℕ → Bool) → ℕ → ℕ
most_to test zero = 0
most_to test (suc n) = cond (test (suc n)) (suc n) (most_to test n)
