-- What a call as a value answers.
use Rattle.std.proofs.Common.{◌≡◌, ℕ, List, [], length, is_ok, Some, None, Ok, Err, Result, MatchResult, IsOkAnd, IfOk, sym, refl, ap, ◌∙◌, subst}
use Rattle.timebase.specs.declared.fault.Fault.{Fault}
use Rattle.local_times.specs.Chains.{◌>>=◌}
use Rattle.local_times.proofs.Results.{err_ok, refused_same}
use Rattle.board_law.specs.Boards.{Sources, State, put_mark, put_span, placed, lifted, entered, measured, carried, rezoned, recalendared, Call, place, lift, enter, measure, carry, rezone, recalendar, write_mark, write_span, list_marks, after}
use Rattle.board_law.specs.Judging.{Judged}
use Rattle.board_law.specs.Texts.{Writes, Wrote, Overwrote}
use Rattle.board_law.proofs.Judging.{outcome_judged}
use Rattle.planboard.specs.declared.call.Answer.{Answer}
use Rattle.planboard.specs.declared.call.Answer.TheVariants.{Mark, Lifted, Span, Written}
use Rattle.planboard.specs.Answers.{answer_of, Answered, AnswerThere, Tells}

-- ── what answers, leaves ──

module _ {A : Type 0} (left : A → State) (told : A → Answer) where
  accepted_by : (r : Result A Fault) (next : State) → (r >>= λ a. Ok (left a)) ≡ Ok next → (a : Answer) × ((r >>= λ a. Ok (told a)) ≡ Ok a)
  accepted_by (Ok a) next e = (told a, refl)
  accepted_by (Err x) next e = err_ok e

  refused_by : (r : Result A Fault) (x : Fault) → (r >>= λ a. Ok (left a)) ≡ Err x → (r >>= λ a. Ok (told a)) ≡ Err x
  refused_by (Ok a) x e = err_ok (sym e)
  refused_by (Err y) x e = ap Err (refused_same refl e)

-- what maps an answer tells it
told_as : {A : Type 0} (told : A → Answer) (r : Result A Fault) (answer : Result Answer Fault) →
    MatchResult r (λ a. IsOkAnd answer (λ x. x ≡ told a)) (λ e. answer ≡ Err e) → answer ≡ (r >>= λ a. Ok (told a))
told_as told (Ok a) (Ok x) m = ap Ok m
told_as told (Ok a) (Err e) m = absurd m
told_as told (Err e) answer m = m

-- what holds of what is answered holds of how it is told
told_there : {A : Type 0} (P : A → Type 0) (Q : Answer → Type 0) (told : A → Answer) → ((a : A) → P a → Q (told a)) → (r : Result A Fault) {answer : Result Answer Fault} →
    answer ≡ (r >>= λ a. Ok (told a)) → IfOk r P → IfOk answer Q
told_there P Q told so (Ok a) is h = subst (λ x. IfOk x Q) (sym is) (so a h)
told_there P Q told so (Err e) is h = subst (λ x. IfOk x Q) (sym is) tt

-- of a text that was written nothing is to be said
written_there : (Q : Answer → Type 0) → ((k : ℕ) → Q (Written k)) → (r : Result ℕ Fault) {answer : Result Answer Fault} →
    answer ≡ (r >>= λ k. Ok (Written k)) → IfOk answer Q
written_there Q so (Ok k) is = subst (λ x. IfOk x Q) (sym is) (so k)
written_there Q so (Err e) is = subst (λ x. IfOk x Q) (sym is) tt

module _ (src : Sources) (st : State) where
  -- a call that writes no text leaves the buffer
  wrote_nothing : (call : Call) → Writes src st call [] → (buffer : List ℕ) → Overwrote src st call buffer buffer
  wrote_nothing call w buffer = by (after src st call) refl
    where
      by : (r : Result State Fault) → after src st call ≡ r → Overwrote src st call buffer buffer
      by (Ok next) e = (Ok 0, record { accepted = λ n f. ([], w, refl, refl); refused = λ x f. err_ok (sym f ∙ e) })
      by (Err x) e = (Err x, record { accepted = λ n f. err_ok (sym e ∙ f); refused = λ y f. (ap Err (refused_same e f), refl) })

  -- it answers where it is accepted, and else tells why not
  record Outcome (call : Call) (answer : Result Answer Fault) : Type 0 where
    accepted : (next : State) → after src st call ≡ Ok next → (a : Answer) × (answer ≡ Ok a)
    refused : (x : Fault) → after src st call ≡ Err x → answer ≡ Err x

  by_answer : {A : Type 0} (call : Call) (left : A → State) (told : A → Answer) (r : Result A Fault) →
      after src st call ≡ (r >>= λ a. Ok (left a)) → Outcome call (r >>= λ a. Ok (told a))
  by_answer call left told r is = record {
    accepted = λ next e. accepted_by left told r next (sym is ∙ e);
    refused = λ x e. refused_by left told r x (sym is ∙ e);
  }

  by_text : (call : Call) (before buffer : List ℕ) (written : Result ℕ Fault) → Wrote src st call before written buffer →
      Outcome call (written >>= λ k. Ok (Written k))
  by_text call before buffer written w = record {
    accepted = λ next e. let x = w.accepted next e in (Written (length x.0), ap (λ (r : Result ℕ Fault). r >>= λ k. Ok (Written k)) x.2);
    refused = λ x e. ap (λ (r : Result ℕ Fault). r >>= λ k. Ok (Written k)) (w.refused x e).0;
  }

  outcome : (call : Call) (before buffer : List ℕ) (written : Result ℕ Fault) → Wrote src st call before written buffer →
      Outcome call (answer_of src st call written)
  unfolding after
  outcome (place n text) before buffer written w = by_answer (place n text) (λ m. put_mark st n (Some m)) Mark (placed src st n text) refl
  outcome (lift n) before buffer written w = by_answer (lift n) (λ _. put_mark st n None) Lifted (lifted src st n) refl
  outcome (enter n text) before buffer written w = by_answer (enter n text) (λ s. put_span st n (Some s)) Span (entered src st n text) refl
  outcome (measure a b unit n) before buffer written w =
      by_answer (measure a b unit n) (λ s. put_span st n (Some s)) Span (measured src st a b unit n) refl
  outcome (carry a n c) before buffer written w = by_answer (carry a n c) (λ m. put_mark st c (Some m)) Mark (carried src st a n c) refl
  outcome (rezone n name) before buffer written w = by_answer (rezone n name) (λ m. put_mark st n (Some m)) Mark (rezoned src st n name) refl
  outcome (recalendar n name) before buffer written w =
      by_answer (recalendar n name) (λ m. put_mark st n (Some m)) Mark (recalendared src st n name) refl
  outcome (write_mark n room) before buffer written w = by_text (write_mark n room) before buffer written w
  outcome (write_span n room) before buffer written w = by_text (write_span n room) before buffer written w
  outcome (list_marks room) before buffer written w = by_text (list_marks room) before buffer written w

  answered : (call : Call) (before buffer : List ℕ) (written : Result ℕ Fault) → Wrote src st call before written buffer →
      (answer : Result Answer Fault) → answer ≡ answer_of src st call written → Answered src st call before answer buffer
  answered call before buffer written w answer is =
      let o = outcome call before buffer written w in
      record {
        written = written;
        wrote = w;
        is = is;
        accepted = λ next e. let a = o.accepted next e in (a.0, is ∙ a.1);
        refused = λ x e. is ∙ o.refused x e;
      }

  -- the same of a call that writes no text
  answered_alone : (call : Call) → Writes src st call [] → (buffer : List ℕ) (answer : Result Answer Fault) →
      ((written : Result ℕ Fault) → answer ≡ answer_of src st call written) → Answered src st call buffer answer buffer
  answered_alone call none buffer answer is =
      let w = wrote_nothing call none buffer in
      answered call buffer buffer w.0 w.1 answer (is w.0)

  pub accepted_as : {call : Call} {before buffer : List ℕ} {answer : Result Answer Fault} → Answered src st call before answer buffer →
      is_ok answer ≡ is_ok (after src st call)
  accepted_as {call} {before} {buffer} {answer} a = by (after src st call) refl
    where
      by : (r : Result State Fault) → after src st call ≡ r → is_ok answer ≡ is_ok r
      by (Ok next) e = ap is_ok (a.accepted next e).1
      by (Err x) e = ap is_ok (a.refused x e)

  pub overwrote : {call : Call} {before buffer : List ℕ} {answer : Result Answer Fault} → Answered src st call before answer buffer →
      Overwrote src st call before buffer
  overwrote a = (a.written, a.wrote)

  -- what is refused of it is what the call is refused by
  pub answered_judged : {call : Call} {before buffer : List ℕ} {answer : Result Answer Fault} → Answered src st call before answer buffer →
      Judged src st call answer
  answered_judged {call} {before} {buffer} {answer} a = outcome_judged src st call answer a.accepted a.refused

  -- ── what a call as a value answers, by what its method does ──

  pub record Valued (call : Call) {A : Type 0} (told : A → Answer) (Answers : Result A Fault → Type 0) (before buffer : List ℕ) (answer : Result Answer Fault) : Type 0 where
    pub answered : Answered src st call before answer buffer
    pub there : IfOk answer (AnswerThere src)
    pub means : Tells src st told Answers answer

  -- of a call that writes no text
  pub valued : {A : Type 0} (told : A → Answer) (P : A → Type 0) → ((a : A) → P a → AnswerThere src (told a)) → (Answers : Result A Fault → Type 0)
      (call : Call) → Writes src st call [] → (said : Result A Fault) → ((written : Result ℕ Fault) → answer_of src st call written ≡ (said >>= λ a. Ok (told a))) →
      (buffer : List ℕ) (r : Result A Fault) {answer : Result Answer Fault} → MatchResult r (λ a. IsOkAnd answer (λ x. x ≡ told a)) (λ e. answer ≡ Err e) →
      r ≡ said → IfOk r P → Answers r → Valued call told Answers buffer buffer answer
  valued told P so Answers call none said is buffer r {answer} cases e there means =
      let tells = told_as told r answer cases in
      record {
        answered = answered_alone call none buffer answer (λ written. tells ∙ ap (λ r. r >>= λ a. Ok (told a)) e ∙ sym (is written));
        there = told_there P (AnswerThere src) told so r tells there;
        means = (r, means, tells);
      }

  -- of a call that writes one
  pub valued_text : (Answers : Result ℕ Fault → Type 0) (call : Call) → ((written : Result ℕ Fault) → answer_of src st call written ≡ (written >>= λ k. Ok (Written k))) →
      (before buffer : List ℕ) (r : Result ℕ Fault) {answer : Result Answer Fault} → MatchResult r (λ a. IsOkAnd answer (λ x. x ≡ Written a)) (λ e. answer ≡ Err e) →
      Wrote src st call before r buffer → Answers r → Valued call Written Answers before buffer answer
  valued_text Answers call is before buffer r {answer} cases wrote means =
      let tells = told_as Written r answer cases in
      record {
        answered = answered call before buffer r wrote answer (tells ∙ sym (is r));
        there = written_there (AnswerThere src) (λ _. tt) r tells;
        means = (r, means, tells);
      }
