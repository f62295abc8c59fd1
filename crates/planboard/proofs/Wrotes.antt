-- What a call that writes a text answers, and what the buffer holds after it.
use Rattle.std.proofs.Common.{◌≡◌, ℕ, ◌*◌, Bool, true, false, cond, ltb, List, ◌++◌, length, drop, Some, None, Ok, Err, Option, Result, sym, refl, ap, ◌∙◌, subst, arith}
use Rattle.std.proofs.lemmas.Bool.{ltb-false, lt-ltb, le-ltb}
use Rattle.timebase.specs.declared.fault.Fault.{Fault}
use Rattle.timebase.specs.declared.fault.Fault.TheVariants.{BufferSmall}
use Rattle.timebase.specs.declared.span.Span.{Span}
use Rattle.timebase.specs.declared.span.Part.{Part}
use Rattle.timebase.specs.Spans.{wrong_part}
use Rattle.span_text.specs.Canonical.{span_text, refusal, write_answer, write_memory}
use Rattle.writing.specs.declared.Writer.{Writer}
use Rattle.writing.specs.Placing.{Placed}
use Rattle.writing.proofs.Placings.{placed_start}
use Rattle.local_times.specs.Chains.{◌>>=◌}
use Rattle.local_times.proofs.Results.{err_ok, ok_same, refused_same}
use Rattle.mark_text.specs.declared.mark.Mark.{Mark}
use Rattle.mark_text.specs.Marks.{IsThere, mark_there}
use Rattle.mark_text.specs.Shown.{Written, TextOf}
use Rattle.mark_text.proofs.Tells.{then_ok}
use Rattle.mark_text.proofs.There.{there_is}
use Rattle.shelf.specs.Slots.{slot_at}
use Rattle.board_law.specs.Boards.{Sources, State, Call, mark_at, span_at, span_there, on_shelf, filled, roomy, mark_written, span_written, mark_slots, span_slots, marks_there, listed, write_mark, write_span, list_marks, after}
use Rattle.board_law.specs.Judging.{Judged}
use Rattle.board_law.specs.Meanings.{WrittenTo}
use Rattle.board_law.specs.Texts.{Listing, Writes, Wrote}
use Rattle.board_law.proofs.Calls.{reads_at, reads_span_at}
use Rattle.board_law.proofs.Judging.{outcome_judged}
use Rattle.span_law.proofs.Steps.{some_same}
use Rattle.board_law.proofs.Checks.{filled_tells, kept_tells}
use Rattle.planboard.specs.Lists.{ListPut}

roomy_tells : (least room : ℕ) (u : Unit {0}) → roomy least room ≡ Ok u → ltb room least ≡ false
roomy_tells least room u e = by (ltb room least) e
  where
    by : (t : Bool) → ◌≡◌ {A = Result (Unit {0}) Fault} (cond t (Err BufferSmall) (Ok tt)) (Ok u) → t ≡ false
    by true f = err_ok f
    by false f = refl

passed : {A : Type 0} (st : State) (r : Result (Unit {0}) Fault) (a : A) → ((r >>= λ _. Ok a) >>= λ _. Ok st) ≡ (r >>= λ _. Ok st)
passed st (Ok u) a = refl
passed st (Err e) a = refl

module _ (src : Sources) (st : State) where
  module _ (call : Call) {A : Type 0} (check : Result A Fault) (left : A → State) (same : after src st call ≡ (check >>= λ a. Ok (left a))) where
    -- refused, it writes nothing
    pub wrote_none : (e : Fault) → check ≡ Err e → (before : List ℕ) (answer : Result ℕ Fault) → answer ≡ Err e → Wrote src st call before answer before
    wrote_none e is before answer n =
        let r : after src st call ≡ Err e = same ∙ ap (λ (o : Result A Fault). o >>= λ a. Ok (left a)) is in
        record { accepted = λ next f. err_ok (sym r ∙ f); refused = λ x f. let s : e ≡ x = refused_same r f in (n ∙ ap Err s, refl) }

    pub wrote_text : (a : A) → check ≡ Ok a → (t : List ℕ) → Writes src st call t → (before buffer : List ℕ) (answer : Result ℕ Fault)
        → answer ≡ Ok (length t) → buffer ≡ t ++ drop (length t) before → Wrote src st call before answer buffer
    wrote_text a is t w before buffer answer n b =
        let r : after src st call ≡ Ok (left a) = same ∙ ap (λ (o : Result A Fault). o >>= λ a. Ok (left a)) is in
        record { accepted = λ next f. (t, w, n, b); refused = λ x f. err_ok (sym f ∙ r) }

  mark_to_write : (n room : ℕ) (m : Mark) → mark_written src st n room ≡ Ok m → (mark_at src st n ≡ Some m) × (ltb room 96 ≡ false)
  mark_to_write n room m e =
      let p = then_ok (on_shelf (mark_slots st) n 0) (λ _. filled (mark_at src st n) 0 >>= λ A. roomy 96 room >>= λ _. Ok A) m e in
      let f = then_ok (filled (mark_at src st n) 0) (λ A. roomy 96 room >>= λ _. Ok A) m p.next in
      let q = then_ok (roomy 96 room) (λ _. Ok f.value) m f.next in
      (filled_tells (mark_at src st n) 0 m (f.was ∙ ap Ok (ok_same q.next)), roomy_tells 96 room q.value q.was)

  span_to_write : (n room : ℕ) (s : Span) → span_written src st n room ≡ Ok s → (span_at st n ≡ Some s) × (ltb room 96 ≡ false)
  span_to_write n room s e =
      let p = then_ok (on_shelf (span_slots st) n 0) (λ _. filled (span_at st n) 0 >>= λ x. roomy 96 room >>= λ _. Ok x) s e in
      let f = then_ok (filled (span_at st n) 0) (λ x. roomy 96 room >>= λ _. Ok x) s p.next in
      let q = then_ok (roomy 96 room) (λ _. Ok f.value) s f.next in
      (filled_tells (span_at st n) 0 s (f.was ∙ ap Ok (ok_same q.next)), roomy_tells 96 room q.value q.was)

  mark_there_at : (n : ℕ) (m : Mark) → mark_at src st n ≡ Some m → IsThere src.zones src.calendars m
  mark_there_at n m e = there_is src.zones src.calendars m (kept_tells (mark_there src.zones src.calendars) (slot_at 256 st.marks n) m e).1

  pub mark_wrote : (n : ℕ) (m : Mark) (before buffer : List ℕ) (answer : Result ℕ Fault) → mark_written src st n (length before) ≡ Ok m
      → (IsThere src.zones src.calendars m → Written src.zones src.calendars m before answer buffer) → Wrote src st (write_mark n (length before)) before answer buffer
  unfolding after
  mark_wrote n m before buffer answer e w =
      let r = mark_to_write n (length before) m e in
      let x = w (mark_there_at n m r.0) in
      wrote_text (write_mark n (length before)) (mark_written src st n (length before)) (λ _. st) refl m e x.text (m, r.0, x.of_mark) before buffer answer
      (x.answered ∙ ap (λ (t : Bool). cond t (Err BufferSmall) (Ok (length x.text))) r.1)
      (x.holds ∙ ap (λ (t : Bool). cond t before (x.text ++ drop (length x.text) before)) r.1)

  span_right : (s : Span) → span_there s ≡ true → wrong_part s ≡ None
  span_right s e = by (wrong_part s) e
    where
      by : (o : Option Part) → ◌≡◌ {A = Bool} (elim o [ Some p ↦ false | None ↦ true ]) true → o ≡ None
      by None f = refl
      by (Some p) f = cc

  pub span_wrote : (n : ℕ) (s : Span) (before buffer : List ℕ) (answer : Result ℕ Fault) → span_written src st n (length before) ≡ Ok s
      → answer ≡ write_answer s before → buffer ≡ write_memory s before → Wrote src st (write_span n (length before)) before answer buffer
  unfolding after
  span_wrote n s before buffer answer e a b =
      let r = span_to_write n (length before) s e in
      let right = span_right s (kept_tells span_there (slot_at 256 st.spans n) s r.0).1 in
      let none : refusal (wrong_part s) (length before) ≡ None = ap (λ (o : Option Part). refusal o (length before)) right ∙ ap (λ (t : Bool). cond t (Some BufferSmall) None) r.1 in
      wrote_text (write_span n (length before)) (span_written src st n (length before)) (λ _. st) refl s e (span_text s) (s, r.0, refl) before buffer answer
      (a ∙ ap (λ (o : Option Fault). elim o [ Some fault ↦ Err fault | None ↦ Ok (length (span_text s)) ]) none)
      (b ∙ ap (λ (o : Option Fault). elim o [ Some fault ↦ before | None ↦ span_text s ++ drop (length (span_text s)) before ]) none)

  pub list_wrote : (n : ℕ) (before buffer : List ℕ) (answer : Result ℕ Fault) (u : Unit {0}) → n ≡ marks_there src st → roomy (100 * n) (length before) ≡ Ok u
      → (before' after' : Writer) → before'.out.now ≡ before → before'.at ≡ 0 → ListPut src st before' after' → answer ≡ Ok after'.at → buffer ≡ after'.out.now
      → Wrote src st (list_marks (length before)) before answer buffer
  unfolding after
  list_wrote n before buffer answer u same e before' after' o z p a b =
      let room : roomy (100 * marks_there src st) (length before) ≡ Ok u = ap (λ (i : ℕ). roomy (100 * i) (length before)) (sym same) ∙ e in
      let few = ltb-false (length before) (100 * marks_there src st) (roomy_tells (100 * marks_there src st) (length before) u room) in
      let all = placed_start (subst (λ (i : ℕ). Placed before'.out.now i p.text after'.out.now after'.at) z p.put.placed) (omega (arith, few, p.short, ap length o)) in
      wrote_text (list_marks (length before)) (listed src st (length before)) (λ _. st) refl u room p.text p.is before buffer answer
      (a ∙ ap Ok all.0) (b ∙ all.1 ∙ ap (λ (xs : List ℕ). p.text ++ drop (length p.text) xs) o)

  -- ── the same in the words of the rules ──

  -- a call that writes one text of a kind, where nothing but the room keeps it from it
  written_to : (call : Call) (IsText : List ℕ → Type 0) (least : ℕ) {before buffer : List ℕ} {answer : Result ℕ Fault} →
      after src st call ≡ (roomy least (length before) >>= λ _. Ok st) → ((t : List ℕ) → Writes src st call t → IsText t) →
      Wrote src st call before answer buffer → WrittenTo IsText least before answer buffer
  written_to call IsText least {before} {buffer} {answer} is text w = record {
    small = λ h. w.refused BufferSmall (is ∙ ap (λ (t : Bool). cond t (Err BufferSmall) (Ok tt) >>= λ _. Ok st) (lt-ltb (length before) least h));
    roomy = λ h.
        let x = w.accepted st (is ∙ ap (λ (t : Bool). cond t (Err BufferSmall) (Ok tt) >>= λ _. Ok st) (le-ltb (length before) least h)) in
        (x.0, text x.0 x.1, x.2, x.3);
  }

  pub mark_means : (n : ℕ) {before buffer : List ℕ} {answer : Result ℕ Fault} → Wrote src st (write_mark n (length before)) before answer buffer →
      (A : Mark) → mark_at src st n ≡ Some A → WrittenTo (TextOf src.zones src.calendars A) 96 before answer buffer
  unfolding after
  mark_means n {before} w A e =
      written_to (write_mark n (length before)) (TextOf src.zones src.calendars A) 96
      (ap (λ (r : Result Mark Fault). r >>= λ _. Ok st) (reads_at src st n A (λ m. roomy 96 (length before) >>= λ _. Ok m) e) ∙ passed st (roomy 96 (length before)) A)
      (λ t x. subst (λ m. TextOf src.zones src.calendars m t) (some_same (sym x.1 ∙ e)) x.2) w

  pub span_means : (n : ℕ) {before buffer : List ℕ} {answer : Result ℕ Fault} → Wrote src st (write_span n (length before)) before answer buffer →
      (s : Span) → span_at st n ≡ Some s → WrittenTo (λ t. t ≡ span_text s) 96 before answer buffer
  unfolding after
  span_means n {before} w s e =
      written_to (write_span n (length before)) (λ t. t ≡ span_text s) 96
      (ap (λ (r : Result Span Fault). r >>= λ _. Ok st) (reads_span_at src st n s (λ x. roomy 96 (length before) >>= λ _. Ok x) e) ∙ passed st (roomy 96 (length before)) s)
      (λ t x. x.2 ∙ ap span_text (some_same (sym x.1 ∙ e))) w

  pub list_means : {before buffer : List ℕ} {answer : Result ℕ Fault} → Wrote src st (list_marks (length before)) before answer buffer →
      WrittenTo (Listing src st) (100 * marks_there src st) before answer buffer
  unfolding after
  list_means {before} w = written_to (list_marks (length before)) (Listing src st) (100 * marks_there src st) refl (λ t x. x) w

  -- what is refused of it is what the call is refused by
  pub wrote_judged : (call : Call) {before buffer : List ℕ} {answer : Result ℕ Fault} → Wrote src st call before answer buffer → Judged src st call answer
  wrote_judged call {before} {buffer} {answer} w =
      outcome_judged src st call answer (λ next e. let a = w.accepted next e in (length a.0, a.2)) (λ x e. (w.refused x e).0)
