-- What listing puts.
use Rattle.std.specs.Prelude.{◌≡◌, ℕ, ◌*◌, ◌≤◌, List, [], length, Some, None, Option}
use Rattle.mark_text.specs.declared.mark.Mark.{Mark}
use Rattle.mark_text.specs.Shown.{PutsMark}
use Rattle.writing.specs.declared.Writer.{Writer}
use Rattle.writing.specs.Putting.{Puts}
use Rattle.board_law.specs.Boards.{Sources, State, mark_at, one_if, marks_there}
use Rattle.board_law.specs.Texts.{LineOf, Listing}

-- one text of a kind is put, which keeps to a room
pub record PutsOne (IsText : List ℕ → Type 0) (room : ℕ) (before after : Writer) : Type 0 where
  pub text : List ℕ
  pub is : IsText text
  pub short : length text ≤ room
  pub put : Puts before text after

-- the canonical text of a mark is put
abbrev pub MarkPut : Sources → Mark → Writer → Writer → Type 0
MarkPut src m before after = PutsMark src.zones src.calendars m before after

module _ (src : Sources) (st : State) where
  -- the line of a slot, or nothing where the slot is empty
  abbrev pub SlotText : ℕ → Option Mark → List ℕ → Type 0
  SlotText k (Some m) t = LineOf src st k t
  SlotText k None t = t ≡ []

  -- it keeps to the room of a mark
  abbrev pub LinePut : ℕ → Writer → Writer → Type 0
  LinePut k = PutsOne (SlotText k (mark_at src st k)) (100 * one_if (mark_at src st k))

  -- a list of the marks keeps to the room of them all
  abbrev pub ListPut : Writer → Writer → Type 0
  ListPut = PutsOne (Listing src st) (100 * marks_there src st)
