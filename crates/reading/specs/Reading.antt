-- Reading by steps.
use Rattle.std.specs.Prelude.{ℕ, ◌+◌, min, cond, List, [], ◌∷◌, Some, None, Ok, Err, Option, Result, nat_lt}
use Rattle.reading.specs.declared.Misread.{Misread}

-- it stops reading at a place
abbrev pub misread : ℕ → Misread
misread place = record { at = place }

-- what is found from the byte at a place on: `step` gives the state after the byte at a place, or none where that byte can't stand
-- there, and `end` the value where the text may end
abbrev pub read_on : {S V : Type 0} → (S → ℕ → ℕ → Option S) → (S → Option V) → S → ℕ → List ℕ → Result V Misread
read_on step end s at [] = elim (end s) [ Some v ↦ Ok v | None ↦ Err (misread at) ]
read_on step end s at (b ∷ bs) = elim (step s at b) [ Some t ↦ read_on step end t (at + 1) bs | None ↦ Err (misread at) ]

-- the same with a limit on the text's length
abbrev pub limited : {V : Type 0} → ℕ → ℕ → Result V Misread → Result V Misread
limited limit length (Ok v) = cond (nat_lt limit length) (Err (misread limit)) (Ok v)
limited limit length (Err m) = Err (misread (min m.at limit))
