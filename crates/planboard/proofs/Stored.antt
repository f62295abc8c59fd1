-- What a call leaves that stores what it answers.
use Rattle.std.proofs.Common.{◌≡◌, ℕ, Some, Ok, Err, Option, Result, IfOk, sym, ap, ◌∙◌, subst}
use Rattle.timebase.specs.declared.fault.Fault.{Fault}
use Rattle.timebase.specs.declared.span.Span.{Span}
use Rattle.timebase.specs.Spans.{Enterable}
use Rattle.local_times.specs.Chains.{◌>>=◌}
use Rattle.mark_text.specs.declared.mark.Mark.{Mark}
use Rattle.board_law.specs.Boards.{There, Sources, State, Call, put_mark, put_span, or_same, with_span}
use Rattle.board_law.specs.Judging.{Judged}
use Rattle.board_law.specs.Leaves.{MarkLeft, SpanLeft}
use Rattle.board_law.proofs.Calls.{MarkFor, SpanFor}
use Rattle.board_law.proofs.Leaves.{mark_left, mark_there, span_left, span_there}

-- what a chain of checks leaves that a call goes by
module _ {A : Type 0} (st : State) (left : A → State) where
  kept : {said : Result A Fault} {e : Fault} → said ≡ Err e → st ≡ or_same st (said >>= λ a. Ok (left a))
  kept is = ap (λ (r : Result A Fault). or_same st (r >>= λ a. Ok (left a))) (sym is)

  given : {said : Result A Fault} {a : A} → said ≡ Ok a → left a ≡ or_same st (said >>= λ a. Ok (left a))
  given is = ap (λ (r : Result A Fault). or_same st (r >>= λ a. Ok (left a))) (sym is)

module _ (src : Sources) (st : State) (n : ℕ) (call : Call) where
  -- a call that gives slot n what is told of the mark that it answers
  module _ (held : Mark → Option Mark) (said : Result Mark Fault) (judged_so : Judged src st call said)
      (for : (m : Mark) → said ≡ Ok m → MarkFor src st n m) where
    pub record MarkStored (answer : Result Mark Fault) (next : State) : Type 0 where
      pub is : answer ≡ said
      pub there : IfOk answer (There src)
      pub state : next ≡ or_same st (said >>= λ m. Ok (put_mark st n (held m)))
      pub law : MarkLeft st n held answer next
      pub judged : Judged src st call answer

    stored : {answer : Result Mark Fault} {next : State} → answer ≡ said → next ≡ or_same st (said >>= λ m. Ok (put_mark st n (held m))) →
        MarkStored answer next
    stored {answer} {next} is state = record {
      is = is;
      there = subst (λ (r : Result Mark Fault). IfOk r (There src)) (sym is) (mark_there src st n said for);
      state = state;
      law = subst (λ (r : Result Mark Fault). MarkLeft st n held r next) (sym is) (mark_left src st n held said next state for);
      judged = subst (λ (r : Result Mark Fault). Judged src st call r) (sym is) judged_so;
    }

    pub mark_refused : {answer : Result Mark Fault} {e : Fault} → said ≡ Err e → answer ≡ Err e → MarkStored answer st
    mark_refused was is = stored (is ∙ sym was) (kept st (λ m. put_mark st n (held m)) was)

    pub mark_accepted : {m : Mark} {next : State} → said ≡ Ok m → next ≡ put_mark st n (held m) → MarkStored (Ok m) next
    mark_accepted was is = stored (sym was) (is ∙ given st (λ m. put_mark st n (held m)) was)

  -- a call that gives slot n the span that it answers
  module _ (said : Result Span Fault) (judged_so : Judged src st call said) (for : (s : Span) → said ≡ Ok s → SpanFor src st n s) where
    pub record SpanStored (answer : Result Span Fault) (next : State) : Type 0 where
      pub is : answer ≡ said
      pub there : IfOk answer Enterable
      pub state : next ≡ or_same st (with_span st n said)
      pub law : SpanLeft st n Some answer next
      pub judged : Judged src st call answer

    span_stored : {answer : Result Span Fault} {next : State} → answer ≡ said → next ≡ or_same st (with_span st n said) → SpanStored answer next
    span_stored {answer} {next} is state = record {
      is = is;
      there = subst (λ (r : Result Span Fault). IfOk r Enterable) (sym is) (span_there src st n said for);
      state = state;
      law = subst (λ (r : Result Span Fault). SpanLeft st n Some r next) (sym is) (span_left src st n said next state for);
      judged = subst (λ (r : Result Span Fault). Judged src st call r) (sym is) judged_so;
    }

    pub span_refused : {answer : Result Span Fault} {e : Fault} → said ≡ Err e → answer ≡ Err e → SpanStored answer st
    span_refused was is = span_stored (is ∙ sym was) (kept st (λ s. put_span st n (Some s)) was)

    pub span_accepted : {s : Span} {next : State} → said ≡ Ok s → next ≡ put_span st n (Some s) → SpanStored (Ok s) next
    span_accepted was is = span_stored (sym was) (is ∙ given st (λ s. put_span st n (Some s)) was)
