-- What holds at the end of a run of calls.
use Rattle.std.proofs.Common.{◌≡◌, min, List, [], ◌∷◌, ◌++◌, drop, Ok, Err, Option, Result, sym, refl, ap, ◌∙◌, subst}
use Rattle.timebase.specs.declared.fault.Fault.{Fault}
use Rattle.timebase.specs.declared.span.Span.{Span}
use Rattle.timebase.specs.Spans.{Enterable}
use Rattle.span_law.proofs.Steps.{none_some}
use Rattle.mark_text.specs.declared.mark.Mark.{Mark}
use Rattle.board_law.specs.Boards.{There, Sources, State, mark_slots, span_slots, new_board, Call, after, or_same, made, run}
use Rattle.board_law.specs.Runs.{Lawful, AllThere}
use Rattle.board_law.proofs.Slots.{written_law, all_good, all_empty}
use Rattle.board_law.proofs.Calls.{Step, steps}
use Rattle.board_law.proofs.Calls.Step.{alters_none, puts_mark, puts_span}

-- ── one call after another ──

module _ (src : Sources) where
  -- a run is its first call, and then the rest
  pub run_first : (st : State) (call : Call) (calls : List Call) → run src (made src st call) calls ≡ run src st (call ∷ calls)
  unfolding run
  run_first st call calls = refl

  pub run_none : (st : State) → run src st [] ≡ st
  unfolding run
  run_none st = refl

  -- a run of one call is that call
  pub run_one : (st : State) (call : Call) {next : State} → next ≡ made src st call → next ≡ run src st (call ∷ [])
  unfolding run
  run_one st call e = e

  -- a run after a run is one run
  pub run_append : (st : State) (xs ys : List Call) → run src st (xs ++ ys) ≡ run src (run src st xs) ys
  unfolding run
  run_append st [] ys = refl
  run_append st (x ∷ xs) ys = run_append (made src st x) xs ys

-- ── what a run keeps of the memory ──

module _ (src : Sources) (law : Lawful src) where
  -- as many slots, and the same past them
  pub record SlotsStay (start end : State) : Type 0 where
    pub marks : mark_slots end ≡ mark_slots start
    pub spans : span_slots end ≡ span_slots start
    pub marks_past : drop 256 end.marks ≡ drop 256 start.marks
    pub spans_past : drop 256 end.spans ≡ drop 256 start.spans

  slots_same : (st : State) → SlotsStay st st
  slots_same st = record { marks = refl; spans = refl; marks_past = refl; spans_past = refl }

  slots_on : (start mid end : State) → SlotsStay start mid → SlotsStay mid end → SlotsStay start end
  slots_on start mid end p q = record {
    marks = q.marks ∙ p.marks;
    spans = q.spans ∙ p.spans;
    marks_past = q.marks_past ∙ p.marks_past;
    spans_past = q.spans_past ∙ p.spans_past;
  }

  step_slots : (st next : State) → Step src st next → SlotsStay st next
  step_slots st next (alters_none e) = subst (SlotsStay st) (sym e) (slots_same st)
  step_slots st next (puts_mark n o on there e) =
      let w = written_law 256 st.marks n o in
      subst (SlotsStay st) (sym e) (record { marks = ap (λ k. min k 256) w.size; spans = refl; marks_past = w.past_cap; spans_past = refl })
  step_slots st next (puts_span n o on there e) =
      let w = written_law 256 st.spans n o in
      subst (SlotsStay st) (sym e) (record { marks = refl; spans = ap (λ k. min k 256) w.size; marks_past = refl; spans_past = w.past_cap })

  -- nothing that no text can enter comes to stand
  step_there : (st next : State) → Step src st next → AllThere src st → AllThere src next
  step_there st next (alters_none e) t = subst (AllThere src) (sym e) t
  step_there st next (puts_mark n o on there e) t =
      let good = all_good 256 (There src) st.marks _ n o on (written_law 256 st.marks n o) there t.marks in
      subst (AllThere src) (sym e) (record { marks = good; spans = t.spans })
  step_there st next (puts_span n o on there e) t =
      let good = all_good 256 Enterable st.spans _ n o on (written_law 256 st.spans n o) there t.spans in
      subst (AllThere src) (sym e) (record { marks = t.marks; spans = good })

  -- what each step keeps, a run keeps
  run_by : (Kept : State → Type 0) → ((st next : State) → Step src st next → Kept st → Kept next) →
      (calls : List Call) (st : State) → Kept st → Kept (run src st calls)
  unfolding run
  run_by Kept keep [] st k = k
  run_by Kept keep (call ∷ calls) st k = run_by Kept keep calls (made src st call) (by (after src st call) refl)
    where
      by : (o : Result State Fault) → after src st call ≡ o → Kept (or_same st o)
      by (Ok next) e = keep st next (steps src law st next call e) k
      by (Err x) e = k

  pub run_there : (st : State) (calls : List Call) → AllThere src st → AllThere src (run src st calls)
  run_there st calls t = run_by (AllThere src) step_there calls st t

  pub run_slots : (st : State) (calls : List Call) → SlotsStay st (run src st calls)
  run_slots st calls = run_by (SlotsStay st) (λ mid end step k. slots_on st mid end k (step_slots mid end step)) calls st (slots_same st)

-- on a new board nothing stands
pub new_there : (src : Sources) (marks : List (Option Mark)) (spans : List (Option Span)) → AllThere src (new_board marks spans)
new_there src marks spans = record {
  marks = λ n m e. none_some (sym ((all_empty 256 marks).empty n) ∙ e);
  spans = λ n s e. none_some (sym ((all_empty 256 spans).empty n) ∙ e);
}
