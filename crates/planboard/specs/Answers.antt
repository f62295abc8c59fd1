-- What a call as a value answers.
use Rattle.std.specs.Prelude.{◌≡◌, ℕ, List, Ok, Err, Result}
use Rattle.timebase.specs.declared.fault.Fault.{Fault}
use Rattle.local_times.specs.Chains.{◌>>=◌}
use Rattle.planboard.specs.declared.call.Answer.{Answer}
use Rattle.planboard.specs.declared.call.Answer.TheVariants.{Mark, Lifted, Span, Written}
use Rattle.board_law.specs.Meanings.{PlaceAnswers, LiftAnswers, EnterAnswers, MeasureAnswers, CarryAnswers, RezoneAnswers, RecalendarAnswers, WriteMarkAnswers, WriteSpanAnswers, ListAnswers}
use Rattle.timebase.specs.Spans.{Enterable}
use Rattle.board_law.specs.Boards.{There, Sources, State, placed, lifted, entered, measured, carried, rezoned, recalendared, Call, place, lift, enter, measure, carry, rezone, recalendar, write_mark, write_span, list_marks, after}
use Rattle.board_law.specs.Texts.{Wrote}

module _ (src : Sources) where
  -- what is answered can be entered by a text
  abbrev pub AnswerThere : Answer → Type 0
  AnswerThere (Mark m) = There src m
  AnswerThere (Lifted m) = There src m
  AnswerThere (Span s) = Enterable s
  AnswerThere (Written length) = Unit {0}

module _ (src : Sources) (st : State) where
  -- `written` is the length of the text that the call writes, or why it is refused
  abbrev pub answer_of : Call → Result ℕ Fault → Result Answer Fault
  answer_of (place n text) written = placed src st n text >>= λ m. Ok (Mark m)
  answer_of (lift n) written = lifted src st n >>= λ m. Ok (Lifted m)
  answer_of (enter n text) written = entered src st n text >>= λ s. Ok (Span s)
  answer_of (measure a b unit n) written = measured src st a b unit n >>= λ s. Ok (Span s)
  answer_of (carry a n c) written = carried src st a n c >>= λ m. Ok (Mark m)
  answer_of (rezone n name) written = rezoned src st n name >>= λ m. Ok (Mark m)
  answer_of (recalendar n name) written = recalendared src st n name >>= λ m. Ok (Mark m)
  answer_of (write_mark n room) written = written >>= λ k. Ok (Written k)
  answer_of (write_span n room) written = written >>= λ k. Ok (Written k)
  answer_of (list_marks room) written = written >>= λ k. Ok (Written k)

  -- a call answers where it is accepted, and tells why where it is refused; its text stands at the start of the buffer
  pub record Answered (call : Call) (before : List ℕ) (answer : Result Answer Fault) (buffer : List ℕ) : Type 0 where
    pub written : Result ℕ Fault
    pub wrote : Wrote src st call before written buffer
    pub is : answer ≡ answer_of call written
    pub accepted : (next : State) → after src st call ≡ Ok next → (a : Answer) × (answer ≡ Ok a)
    pub refused : (e : Fault) → after src st call ≡ Err e → answer ≡ Err e

  -- an answer tells what a method answers
  abbrev pub Tells : {A : Type 0} → (A → Answer) → (Result A Fault → Type 0) → Result Answer Fault → Type 0
  Tells {A} told Answers answer = (r : Result A Fault) × Answers r × (answer ≡ (r >>= λ a. Ok (told a)))

  -- what a call answers, and what the buffer holds after it, where its slots are on their shelves and those that it reads hold something
  abbrev pub Means : Call → List ℕ → Result Answer Fault → List ℕ → Type 0
  Means (place n text) before answer buffer = Tells Mark (PlaceAnswers src st n text) answer
  Means (lift n) before answer buffer = Tells Lifted (LiftAnswers src st n) answer
  Means (enter n text) before answer buffer = Tells Span (EnterAnswers src st n text) answer
  Means (measure a b unit n) before answer buffer = Tells Span (MeasureAnswers src st a b unit n) answer
  Means (carry a n c) before answer buffer = Tells Mark (CarryAnswers src st a n c) answer
  Means (rezone n name) before answer buffer = Tells Mark (RezoneAnswers src st n name) answer
  Means (recalendar n name) before answer buffer = Tells Mark (RecalendarAnswers src st n name) answer
  Means (write_mark n room) before answer buffer = Tells Written (λ r. WriteMarkAnswers src st n before r buffer) answer
  Means (write_span n room) before answer buffer = Tells Written (λ r. WriteSpanAnswers src st n before r buffer) answer
  Means (list_marks room) before answer buffer = Tells Written (λ r. ListAnswers src st before r buffer) answer
