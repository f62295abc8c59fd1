-- What a clause reads of a shelf, so that none has to name its field.
use Rattle.std.specs.Prelude.{ℕ, List, Option}
use Rattle.std.specs.Borrow.{GName}
use Rattle.shelf.specs.declared.Shelf.{Shelf}

-- all that the lent memory holds, past the slots in use too
abbrev pub memory : {T : Type 0} {cap : ℕ} → Shelf T cap → List (Option T)
memory s = s.slots.now

-- the loan: a caller learns by it what the host's memory holds when the shelf is gone
abbrev pub lender : {T : Type 0} {cap : ℕ} → Shelf T cap → GName
lender s = s.slots.ghost_name
