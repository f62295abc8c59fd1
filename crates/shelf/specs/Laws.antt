-- What a shelf owes the host, by what each slot holds.
use Rattle.std.specs.Prelude.{◌≡◌, ℕ, ◌<◌, ◌≤◌, min, ◌≢◌, List, length, drop, None, Option}
use Rattle.shelf.specs.Slots.{slot_count, slot_at}

-- A new shelf has as many slots as are lent, up to the cap, and every one is empty. The memory past the cap is as it was.
pub record AllEmpty {T : Type 0} (cap : ℕ) (before after : List (Option T)) : Type 0 where
  pub empty : (k : ℕ) → slot_at cap after k ≡ None
  pub count : slot_count cap after ≡ min (length before) cap
  pub size : length after ≡ length before
  pub past_cap : drop cap after ≡ drop cap before

-- Slot i now holds v. Every other slot, and the memory past the cap, is as it was, and all is as it was where there is no
-- slot i.
pub record OnlySlotChanged {T : Type 0} (cap : ℕ) (before : List (Option T)) (i : ℕ) (v : Option T) (after : List (Option T)) : Type 0 where
  pub holds : i < slot_count cap before → slot_at cap after i ≡ v
  pub others : (k : ℕ) → k ≢ i → slot_at cap after k ≡ slot_at cap before k
  pub off_shelf : slot_count cap before ≤ i → after ≡ before
  pub size : length after ≡ length before
  pub past_cap : drop cap after ≡ drop cap before
