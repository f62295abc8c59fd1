-- The numbers of two tables side by side.
use Rattle.std.specs.Prelude.{ℕ, ◌+◌, ◌-◌, cond, nat_le, nat_lt, Some, None, Option}
use Rattle.side_by_side.specs.declared.Place.{Place}
use Rattle.side_by_side.specs.declared.Place.TheVariants.{First, Second}

-- the first's numbers, then the second's; above 64 in all, only the first's
abbrev pub joined_count : ℕ → ℕ → ℕ
joined_count a b = cond (nat_le (a + b) 64) (a + b) a

-- which entry a number means, if any
abbrev pub place_of : ℕ → ℕ → ℕ → Option Place
place_of a b k = cond (nat_lt k a) (Some (First k)) (cond (nat_lt k (joined_count a b)) (Some (Second (k - a))) None)

-- what a number means in one table of two, or in the other
abbrev pub at_place : {X : Type 0} → ℕ → (ℕ → X) → (ℕ → X) → ℕ → X
at_place a f g k = cond (nat_lt k a) (f k) (g (k - a))
