-- What a call leaves that gives a slot what it answers, or empties it.
use Rattle.std.proofs.Common.{◌≡◌, ℕ, Some, Ok, Err, Option, Result, IfOk, sym, refl, subst}
use Rattle.timebase.specs.declared.fault.Fault.{Fault}
use Rattle.timebase.specs.declared.span.Span.{Span}
use Rattle.timebase.specs.Spans.{Enterable}
use Rattle.local_times.specs.Chains.{◌>>=◌}
use Rattle.local_times.proofs.Results.{err_ok, ok_same}
use Rattle.mark_text.specs.declared.mark.Mark.{Mark}
use Rattle.shelf.specs.Laws.{OnlySlotChanged}
use Rattle.shelf.specs.Slots.{written}
use Rattle.board_law.specs.Boards.{There, Sources, State, put_mark, with_span, or_same}
use Rattle.board_law.specs.Leaves.{MarkLeft, SpanLeft}
use Rattle.board_law.proofs.Calls.{MarkFor, SpanFor}
use Rattle.board_law.proofs.Slots.{written_law}

module _ (src : Sources) (st : State) (n : ℕ) where
  -- the state after a call that gives slot n what is told of its answer
  pub mark_left : (held : Mark → Option Mark) (answer : Result Mark Fault) (next : State) → next ≡ or_same st (answer >>= λ m. Ok (put_mark st n (held m))) →
      ((m : Mark) → answer ≡ Ok m → MarkFor src st n m) → MarkLeft st n held answer next
  mark_left held answer next e for = subst (MarkLeft st n held answer) (sym e) (by answer for)
    where
      by : (r : Result Mark Fault) → ((m : Mark) → r ≡ Ok m → MarkFor src st n m) →
          MarkLeft st n held r (or_same st (r >>= λ m. Ok (put_mark st n (held m))))
      by (Ok m) f = record {
        accepted = λ x g. ((f m refl).on, subst (λ (y : Mark). OnlySlotChanged 256 st.marks n (held y) (written 256 st.marks n (held m))) (ok_same g) (written_law 256 st.marks n (held m)), refl);
        refused = λ x g. err_ok (sym g);
      }
      by (Err x) f = record { accepted = λ m g. err_ok g; refused = λ y g. refl }

  pub mark_there : (answer : Result Mark Fault) → ((m : Mark) → answer ≡ Ok m → MarkFor src st n m) → IfOk answer (There src)
  mark_there (Ok m) for = (for m refl).there
  mark_there (Err x) for = tt

  pub span_left : (answer : Result Span Fault) (next : State) → next ≡ or_same st (with_span st n answer) →
      ((s : Span) → answer ≡ Ok s → SpanFor src st n s) → SpanLeft st n Some answer next
  span_left answer next e for = subst (SpanLeft st n Some answer) (sym e) (by answer for)
    where
      by : (r : Result Span Fault) → ((s : Span) → r ≡ Ok s → SpanFor src st n s) → SpanLeft st n Some r (or_same st (with_span st n r))
      by (Ok s) f = record {
        accepted = λ x g. ((f s refl).on, subst (λ (y : Span). OnlySlotChanged 256 st.spans n (Some y) (written 256 st.spans n (Some s))) (ok_same g) (written_law 256 st.spans n (Some s)), refl);
        refused = λ x g. err_ok (sym g);
      }
      by (Err x) f = record { accepted = λ s g. err_ok g; refused = λ y g. refl }

  pub span_there : (answer : Result Span Fault) → ((s : Span) → answer ≡ Ok s → SpanFor src st n s) → IfOk answer Enterable
  span_there (Ok s) for = (for s refl).there
  span_there (Err x) for = tt
