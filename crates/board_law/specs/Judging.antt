-- By which of its slots a call is refused.
use Rattle.std.specs.Prelude.{◌≡◌, ◌↔◌, ℕ, zero, suc, ◌≤◌, List, [], ◌∷◌, None, Err, Result}
use Rattle.timebase.specs.declared.fault.Fault.{Fault}
use Rattle.timebase.specs.declared.fault.Fault.TheVariants.{SlotOff, SlotEmpty}
use Rattle.board_law.specs.Boards.{Sources, State, mark_slots, span_slots, mark_at, span_at, Call, place, lift, enter, measure, carry, rezone, recalendar, write_mark, write_span, list_marks}

-- ── the slots of a call ──

-- a slot that a call uses: of marks or of spans, which the call reads, or only gives something
pub data Use : Type 0 where
  reads_mark : (slot : ℕ) → Use
  reads_span : (slot : ℕ) → Use
  fills_mark : (slot : ℕ) → Use
  fills_span : (slot : ℕ) → Use

-- in their order; a mark that is lifted is read
abbrev pub uses : Call → List Use
uses (place n text) = fills_mark n ∷ []
uses (lift n) = reads_mark n ∷ []
uses (enter n text) = fills_span n ∷ []
uses (measure a b unit n) = reads_mark a ∷ (reads_mark b ∷ (fills_span n ∷ []))
uses (carry a n c) = reads_mark a ∷ (reads_span n ∷ (fills_mark c ∷ []))
uses (rezone n name) = reads_mark n ∷ []
uses (recalendar n name) = reads_mark n ∷ []
uses (write_mark n room) = reads_mark n ∷ []
uses (write_span n room) = reads_span n ∷ []
uses (list_marks room) = []

-- number k of a list is the first that has a property
abbrev pub FirstWith : {A : Type 0} → (A → Type 0) → List A → ℕ → Type 0
FirstWith P [] k = ⊥
FirstWith P (x ∷ xs) zero = P x
FirstWith P (x ∷ xs) (suc k) = (P x → ⊥) × FirstWith P xs k

-- none of a list has it
abbrev pub NoneWith : {A : Type 0} → (A → Type 0) → List A → Type 0
NoneWith P [] = Unit {0}
NoneWith P (x ∷ xs) = (P x → ⊥) × NoneWith P xs

module _ (src : Sources) (st : State) where
  -- a slot is off its shelf
  abbrev pub Off : Use → Type 0
  Off (reads_mark n) = mark_slots st ≤ n
  Off (reads_span n) = span_slots st ≤ n
  Off (fills_mark n) = mark_slots st ≤ n
  Off (fills_span n) = span_slots st ≤ n

  -- a slot that is read holds nothing that is there
  abbrev pub Empty : Use → Type 0
  Empty (reads_mark n) = mark_at src st n ≡ None
  Empty (reads_span n) = span_at st n ≡ None
  Empty (fills_mark n) = ⊥
  Empty (fills_span n) = ⊥

  -- refused by 1 exactly where a slot is off its shelf, at the first that is; and else by 2 exactly where one that is read holds nothing
  -- that is there, at the first that does
  pub record Judged {A : Type 0} (call : Call) (answer : Result A Fault) : Type 0 where
    pub off : (k : ℕ) → (answer ≡ Err (SlotOff k)) ↔ FirstWith Off (uses call) k
    pub empty : (k : ℕ) → (answer ≡ Err (SlotEmpty k)) ↔ (NoneWith Off (uses call) × FirstWith Empty (uses call) k)
