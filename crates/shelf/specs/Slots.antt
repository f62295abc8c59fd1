-- The slots of a shelf over lent memory, of which it uses no more than its cap.
use Rattle.std.specs.Prelude.{ℕ, min, cond, List, ◌++◌, length, take, drop, replicate, None, Option, nat_lt, slice_index_or, slice_set}

module _ {T : Type 0} (cap : ℕ) (lent : List (Option T)) where
  -- the number of slots in use
  abbrev pub slot_count : ℕ
  slot_count = min (length lent) cap

  -- the slots in use
  abbrev pub in_use : List (Option T)
  in_use = take slot_count lent

  -- what slot i holds: nothing where it is empty or not there
  abbrev pub slot_at : ℕ → Option T
  slot_at i = slice_index_or in_use i None

  -- the memory once slot i has been given v; as it was where there is no such slot
  unfoldable pub written : ℕ → Option T → List (Option T)
  written i v = cond (nat_lt i slot_count) (slice_set lent i v) lent

  -- the memory of a new shelf
  unfoldable pub emptied : List (Option T)
  emptied = replicate slot_count None ++ drop slot_count lent
