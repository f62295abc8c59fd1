-- The answer to a line in form is that of its call.
use Rattle.std.proofs.Common.{◌≡◌, ◌≢◌, ℕ, List, Result, refl, subst}
use Rattle.timebase.specs.declared.fault.Fault.{Fault}
use Rattle.board_law.specs.Boards.{Sources, State}
use Rattle.line_form.specs.declared.line.Line.{Line}
use Rattle.line_form.specs.declared.line.Line.TheVariants.{Mark, Lift, Span, Between, Carry, Zone, Calendar, List as Listed}
use Rattle.planboard.specs.declared.call.Answer.{Answer}
use Rattle.planboard.specs.Answers.{answer_of}
use Rattle.script.specs.Scripts.{form_call, AnswerTold, FormAnswer}

module _ (src : Sources) (st : State) (line : List ℕ) where
  -- a line that says another call than a list is answered as that call, which writes no text
  pub form_told : (form : Line) → form ≢ Listed → (written : Result ℕ Fault) (answer : Result Answer Fault) →
      answer ≡ answer_of src st (form_call line form) written → (t : List ℕ) → AnswerTold src answer t → FormAnswer src st line form t
  form_told (Mark slot text) n written answer is t told = subst (λ a. AnswerTold src a t) is told
  form_told (Lift slot) n written answer is t told = subst (λ a. AnswerTold src a t) is told
  form_told (Span slot text) n written answer is t told = subst (λ a. AnswerTold src a t) is told
  form_told (Between first second unit span) n written answer is t told = subst (λ a. AnswerTold src a t) is told
  form_told (Carry first span target) n written answer is t told = subst (λ a. AnswerTold src a t) is told
  form_told (Zone slot name) n written answer is t told = subst (λ a. AnswerTold src a t) is told
  form_told (Calendar slot name) n written answer is t told = subst (λ a. AnswerTold src a t) is told
  form_told Listed n written answer is t told = absurd (n refl)
