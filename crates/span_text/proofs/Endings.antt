-- A span's text as a whole, and what writing it answers.
use Rattle.std.proofs.Common.{◌≡◌, ℕ, ◌≤◌, Bool, false, ltb, List, ◌++◌, length, take, drop, nat_abs, Some, None, Ok, Err, codes, Option, Result, sym, ap, ◌∙◌, arith, length-append, length-drop}
use Rattle.std.proofs.lemmas.List.{take_at, drop_at}
use Rattle.std.proofs.lemmas.Bool.{le-ltb}
use Rattle.timebase.specs.Spans.{is_minus, wrong_part}
use Rattle.timebase.specs.declared.fault.Fault.{Fault}
use Rattle.timebase.specs.declared.span.Part.{Part}
use Rattle.timebase.specs.declared.span.Span.{Span}
use Rattle.timebase.proofs.Enterables.{right_enterable}
use Rattle.writing.specs.Placing.{Placed}
use Rattle.writing.proofs.Placings.{placed_start}
use Rattle.span_text.specs.Canonical.{date_text, is_nought, refusal, sign_text, span_text, time_text, write_answer, write_memory}
use Rattle.span_text.specs.RoundTrip.{ReadsBack}
use Rattle.span_text.specs.Spans.{read_span}
use Rattle.span_text.proofs.Lengths.{span_short}
use Rattle.span_text.proofs.ReadBack.{round_trip}

pub span_some : (s : Span) (minus : Bool) (micros : ℕ) → is_nought s ≡ false → minus ≡ is_minus s → micros ≡ nat_abs s.time
    → span_text s ≡ sign_text minus ++ codes "P" ++ date_text s ++ time_text micros
unfolding span_text
span_some s minus micros h e f = rw (h, e, f)

pub written : (s : Span) {before after : List ℕ} {r : ℕ} → wrong_part s ≡ None → 96 ≤ length before → Placed before 0 (span_text s) after r
    → record { answer : ◌≡◌ {A = Result ℕ Fault} (Ok r) (write_answer s before); memory : after ≡ write_memory s before; law : ReadsBack s before (Ok r) after }
written s {before} {after} {r} right room p =
    let enough : ltb (length before) 96 ≡ false = le-ltb (length before) 96 room in
    let clear : refusal (wrong_part s) (length before) ≡ None = ap (λ (o : Option Part). refusal o (length before)) right ∙ rw enough in
    let enterable = right_enterable s right in
    let fits : length (span_text s) ≤ length before = omega (arith, span_short s enterable.limits) in
    let all = placed_start p (omega arith) in
    let text : take r after ≡ span_text s = ap (take r) all.1 ∙ take_at (span_text s) _ r (sym all.0) in
    let rest : drop r after ≡ drop r before = ap (drop r) all.1 ∙ (drop_at (span_text s) _ r (sym all.0) ∙ ap (λ n. drop n before) (sym all.0)) in
    record {
      answer = ap Ok all.0 ∙ sym (ap (λ (o : Option Fault). elim o as (λ _. Result ℕ Fault) [ Some fault ↦ Err fault | None ↦ Ok (length (span_text s)) ]) clear);
      memory = all.1 ∙ sym (ap (λ (o : Option Fault). elim o as (λ _. List ℕ) [ Some fault ↦ before | None ↦ span_text s ++ drop (length (span_text s)) before ]) clear);
      law = (ap read_span text ∙ round_trip s enterable, rest, ap length all.1 ∙ simp (length-append, length-drop) (omega arith));
    }
