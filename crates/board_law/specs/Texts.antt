-- The texts that the calls write, and the buffers that hold them.
use Rattle.std.specs.Prelude.{◌≡◌, ℕ, List, [], ◌∷◌, ◌++◌, length, drop, Some, Ok, Err, Result, decimal, count_by, ◌==◌}
use Rattle.timebase.specs.declared.fault.Fault.{Fault}
use Rattle.timebase.specs.declared.span.Span.{Span}
use Rattle.span_text.specs.Canonical.{span_text}
use Rattle.mark_text.specs.declared.mark.Mark.{Mark}
use Rattle.mark_text.specs.Shown.{TextOf}
use Rattle.board_law.specs.Boards.{Sources, State, mark_at, span_at, one_if, Call, write_mark, write_span, list_marks, after, made}

-- how often a number stands in a list
abbrev pub occurrences : ℕ → List ℕ → ℕ
occurrences k ns = count_by (λ n. n == k) ns

module _ (src : Sources) where
  -- the line of a slot whose mark is there: the slot's number, a space, the mark's canonical text, and a newline
  pub record LineOf (st : State) (k : ℕ) (line : List ℕ) : Type 0 where
    pub mark : Mark
    pub held : mark_at src st k ≡ Some mark
    pub text : List ℕ
    pub canonical : TextOf src.zones src.calendars mark text
    pub is : line ≡ decimal k ++ (32 ∷ (text ++ (10 ∷ [])))

  -- lines of slots, one after another
  pub data Lines (st : State) : List ℕ → List ℕ → Type 0 where
    none : Lines st [] []
    line : (k : ℕ) (t : List ℕ) (order rest : List ℕ) → LineOf st k t → Lines st order rest → Lines st (k ∷ order) (t ++ rest)

  -- a list of the marks, in some order of their slots: a slot stands in it once if its mark is there, and else not at all
  pub record Listing (st : State) (bytes : List ℕ) : Type 0 where
    pub order : List ℕ
    pub once : (k : ℕ) → occurrences k order ≡ one_if (mark_at src st k)
    pub lines : Lines st order bytes

  -- the text that a call writes when it is accepted; most write none
  abbrev pub Writes : State → Call → List ℕ → Type 0
  Writes st (write_mark n room) t = (m : Mark) × (mark_at src st n ≡ Some m) × TextOf src.zones src.calendars m t
  Writes st (write_span n room) t = (s : Span) × (span_at st n ≡ Some s) × (t ≡ span_text s)
  Writes st (list_marks room) t = Listing st t
  Writes st call t = t ≡ []

  -- a call's text stands at the start of the buffer, and what the buffer holds past it is as before; a refused call writes nothing
  pub record Wrote (st : State) (call : Call) (before : List ℕ) (answer : Result ℕ Fault) (buffer : List ℕ) : Type 0 where
    pub accepted : (next : State) → after src st call ≡ Ok next →
        (t : List ℕ) × Writes st call t × (answer ≡ Ok (length t)) × (buffer ≡ t ++ drop (length t) before)
    pub refused : (e : Fault) → after src st call ≡ Err e → (answer ≡ Err e) × (buffer ≡ before)

  abbrev pub Overwrote : State → Call → List ℕ → List ℕ → Type 0
  Overwrote st call before buffer = (answer : Result ℕ Fault) × Wrote st call before answer buffer

  -- the calls of a list write to one buffer, one over another
  pub data AllWrote : State → List Call → List ℕ → List ℕ → Type 0 where
    none : (st : State) (buffer : List ℕ) → AllWrote st [] buffer buffer
    one_more : (st : State) (call : Call) (calls : List Call) (before buffer end : List ℕ) →
        Overwrote st call before buffer → AllWrote (made src st call) calls buffer end → AllWrote st (call ∷ calls) before end
