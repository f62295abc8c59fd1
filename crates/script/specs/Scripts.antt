-- A whole script: its lines, the call that each says, the answer to each, and what the board holds after it.
use Rattle.std.specs.Prelude.{◌≡◌, ℕ, ◌+◌, ◌*◌, cond, List, [], ◌∷◌, ◌++◌, length, take, drop, Ok, Err, codes, decimal, Result, ◌==◌, nat_lt}
use Rattle.std.specs.Str.{bytes_eq}
use Rattle.timebase.specs.declared.fault.Fault.{Fault}
use Rattle.timebase.specs.declared.fault.Fault.TheVariants.{Unreadable}
use Rattle.timebase.specs.declared.fault.Told.{Told}
use Rattle.timebase.specs.Faults.{told}
use Rattle.span_text.specs.Canonical.{span_text}
use Rattle.mark_text.specs.Shown.{TextOf}
use Rattle.line_form.specs.declared.line.Line.{Line}
use Rattle.line_form.specs.declared.line.Line.TheVariants.{Mark, Lift, Span, Between, Carry, Zone, Calendar, List as Listed}
use Rattle.line_form.specs.Scanning.{read_line}
use Rattle.board_law.specs.Boards.{Sources, State, Call, place, lift, enter, measure, carry, rezone, recalendar, list_marks, made}
use Rattle.board_law.specs.Meanings.{WrittenTo}
use Rattle.board_law.specs.Texts.{Listing}
use Rattle.planboard.specs.declared.call.Answer.{Answer as CallAnswer}
use Rattle.planboard.specs.declared.call.Answer.TheVariants.{Mark as Standing, Lifted, Span as Measured, Written}
use Rattle.planboard.specs.Answers.{answer_of}

-- ── lines ──

-- the last line, where no newline ends it
abbrev pub last_line : List ℕ → List (List ℕ)
last_line [] = []
last_line (b ∷ bs) = (b ∷ bs) ∷ []

-- the lines of a text, after the bytes of one that has begun: a newline, byte 10, ends a line
abbrev pub lines_on : List ℕ → List ℕ → List (List ℕ)
lines_on line [] = last_line line
lines_on line (b ∷ bs) = cond (b == 10) (line ∷ lines_on [] bs) (lines_on (line ++ (b ∷ [])) bs)

unfoldable pub lines_of : List ℕ → List (List ℕ)
lines_of text = lines_on [] text

-- the script: the first 16,384 bytes
abbrev pub script_lines : List ℕ → List (List ℕ)
script_lines input = lines_of (take 16384 input)

-- ── the calls that lines say ──

-- the call of a line in form; a list may have as much room as the marks of any board need
abbrev pub form_call : List ℕ → Line → Call
form_call line (Mark slot text) = place slot (drop text line)
form_call line (Lift slot) = lift slot
form_call line (Span slot text) = enter slot (drop text line)
form_call line (Between first second unit span) = measure first second unit span
form_call line (Carry first span target) = carry first span target
form_call line (Zone slot name) = rezone slot (drop name line)
form_call line (Calendar slot name) = recalendar slot (drop name line)
form_call line Listed = list_marks 25600

-- a line that is out of form says none
unfoldable pub calls_of : List (List ℕ) → List Call
calls_of [] = []
calls_of (line ∷ lines) = elim (read_line line) [ Ok form ↦ form_call line form ∷ calls_of lines | Err m ↦ calls_of lines ]

-- ── the answer to a line ──

-- a text on a line of its own
abbrev pub on_line : List ℕ → List ℕ
on_line t = t ++ (10 ∷ [])

-- a number after a space
abbrev pub word_text : ℕ → List ℕ
word_text n = 32 ∷ decimal n

-- `no` with number, place, cause and depth
abbrev pub refusal_text : Told → List ℕ
refusal_text t = codes "no" ++ (word_text t.number ++ (word_text t.place ++ (word_text t.cause ++ word_text t.depth)))

abbrev pub refusal_line : Fault → List ℕ
refusal_line fault = on_line (refusal_text (told fault))

module _ (src : Sources) where
  -- the line that tells an answer: the canonical text of the mark or of the span that is left in a slot, `lifted`, or the refusal; a call
  -- that writes to a buffer, which no line says, would be told by none
  abbrev pub AnswerTold : Result CallAnswer Fault → List ℕ → Type 0
  AnswerTold (Ok (Standing m)) t = (u : List ℕ) × TextOf src.zones src.calendars m u × (t ≡ on_line u)
  AnswerTold (Ok (Lifted m)) t = t ≡ on_line (codes "lifted")
  AnswerTold (Ok (Measured s)) t = t ≡ on_line (span_text s)
  AnswerTold (Ok (Written length)) t = t ≡ []
  AnswerTold (Err fault) t = t ≡ refusal_line fault

  -- the answer to a line in form: the list of the marks, or the line that tells what its call answers
  abbrev pub FormAnswer : State → List ℕ → Line → List ℕ → Type 0
  FormAnswer st line Listed t = Listing src st t
  FormAnswer st line form t = AnswerTold (answer_of src st (form_call line form) (Ok 0)) t

  abbrev pub Answer : State → List ℕ → List ℕ → Type 0
  Answer st line t = elim (read_line line) [ Ok form ↦ FormAnswer st line form t | Err m ↦ t ≡ refusal_line (Unreadable m.at) ]

  -- the state after a line
  abbrev pub line_after : State → List ℕ → State
  line_after st line = elim (read_line line) [ Ok form ↦ made src st (form_call line form) | Err m ↦ st ]

  -- ── all lines, one after another ──

  -- the answers to lines, from a state on
  pub data Output : State → List (List ℕ) → List ℕ → Type 0 where
    none : (st : State) → Output st [] []
    one_more : (st : State) (line : List ℕ) (lines : List (List ℕ)) (t rest : List ℕ) →
        Answer st line t → Output (line_after st line) lines rest → Output st (line ∷ lines) (t ++ rest)

-- the room that the answer to a line in form is given: 100 bytes, and for `list` 100 bytes a slot
abbrev pub form_room : ℕ → Line → ℕ
form_room slots Listed = 100 * slots
form_room slots form = 100

-- the same of any line
abbrev pub line_room : ℕ → List ℕ → ℕ
line_room slots line = cond (bytes_eq line (codes "list")) (100 * slots) 100

unfoldable pub room_of : ℕ → List (List ℕ) → ℕ
room_of slots [] = 0
room_of slots (line ∷ lines) = line_room slots line + room_of slots lines

-- ── the whole call ──

-- a buffer without the room is refused; else it holds the answers, and past them what it held before
abbrev pub Ran : Sources → State → ℕ → List ℕ → List ℕ → Result ℕ Fault → List ℕ → Type 0
Ran src st slots input = WrittenTo (Output src st (script_lines input)) (room_of slots (script_lines input))

-- the calls that are made: those of the script, and none where it is refused
abbrev pub script_calls : ℕ → List ℕ → List ℕ → List Call
script_calls slots input before = cond (nat_lt (length before) (room_of slots (script_lines input))) [] (calls_of (script_lines input))
