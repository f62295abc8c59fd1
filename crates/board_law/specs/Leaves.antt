-- What a call leaves, by what it answers.
use Rattle.std.specs.Prelude.{◌≡◌, ℕ, ◌<◌, Ok, Err, Option, Result}
use Rattle.timebase.specs.declared.fault.Fault.{Fault}
use Rattle.timebase.specs.declared.span.Span.{Span}
use Rattle.mark_text.specs.declared.mark.Mark.{Mark}
use Rattle.shelf.specs.Laws.{OnlySlotChanged}
use Rattle.board_law.specs.Boards.{State, mark_slots, span_slots}

-- accepted, slot n, which is on the shelf of marks, holds what is told of the mark that is answered, and no other slot, no span and no
-- memory past the slots has changed; refused, nothing has
pub record MarkLeft (before : State) (n : ℕ) (held : Mark → Option Mark) (answer : Result Mark Fault) (after : State) : Type 0 where
  pub accepted : (m : Mark) → answer ≡ Ok m → (n < mark_slots before) × OnlySlotChanged 256 before.marks n (held m) after.marks × (after.spans ≡ before.spans)
  pub refused : (e : Fault) → answer ≡ Err e → after ≡ before

-- the same of a span
pub record SpanLeft (before : State) (n : ℕ) (held : Span → Option Span) (answer : Result Span Fault) (after : State) : Type 0 where
  pub accepted : (s : Span) → answer ≡ Ok s → (n < span_slots before) × OnlySlotChanged 256 before.spans n (held s) after.spans × (after.marks ≡ before.marks)
  pub refused : (e : Fault) → answer ≡ Err e → after ≡ before
