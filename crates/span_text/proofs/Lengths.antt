-- How long the text of a span can be.
use Rattle.std.proofs.Common.{◌≡◌, ℕ, ◌+◌, ◌/◌, ◌%◌, ◌^◌, ◌<◌, ◌≤◌, Bool, cond, eqb, List, [], ◌++◌, length, nat_abs, codes, decimal, arith, length-append}
use Rattle.std.proofs.lemmas.Fmt.{length-decimal-le}
use Rattle.std.proofs.lemmas.Bool.{cond_both}
use Rattle.timebase.specs.Spans.{part_limit, time_limit, is_minus, InLimits}
use Rattle.timebase.specs.declared.span.Span.{Span}
use Rattle.writing.proofs.FractionDigits.{point_short}
use Rattle.span_text.specs.Canonical.{part_text, seconds_text, clock_text, time_text, date_text, is_nought, sign_text, span_text}

-- a text that may be left out
left_out : (b : Bool) (text : List ℕ) (n : ℕ) → length text ≤ n → length (cond b [] text) ≤ n
left_out b text n h = cond_both b [] text (λ (z : List ℕ). length z ≤ n) (λ _. omega arith) (λ _. h)

part_short : (k n : ℕ) (letter : List ℕ) → 0 < k → n < 10 ^ k → n < 2 ^ 64 → length letter ≡ 1 → length (part_text n letter) ≤ k + 1
unfolding part_text
part_short k n letter some few fits one =
    left_out (eqb n 0) (decimal n ++ letter) (k + 1) (simp length-append (omega (arith, length-decimal-le k n some few fits)))

date_part : (n : ℕ) (letter : List ℕ) → n ≤ part_limit → length letter ≡ 1 → length (part_text n letter) ≤ 8
date_part n letter h one = part_short 7 n letter (omega arith) (omega arith) (omega arith) one

seconds_short : (micros : ℕ) → micros < 60000000 → length (seconds_text micros) ≤ 10
unfolding seconds_text
seconds_short micros h =
    left_out (eqb micros 0) _ 10
    (simp length-append (omega (arith, length-decimal-le 2 (micros / 1000000) (omega arith) (omega arith) (omega arith), point_short micros)))

clock_short : (micros : ℕ) → micros ≤ time_limit → length (clock_text micros) ≤ 24
clock_short micros h =
    let hours = part_short 9 (micros / 3600000000) (codes "H") (omega arith) (omega arith) (omega arith) (omega arith) in
    let minutes = part_short 2 (micros / 60000000 % 60) (codes "M") (omega arith) (omega arith) (omega arith) (omega arith) in
    let seconds = seconds_short (micros % 60000000) (omega arith) in
    simp length-append (omega arith)

time_short : (micros : ℕ) → micros ≤ time_limit → length (time_text micros) ≤ 24
unfolding time_text
time_short micros h = left_out (eqb micros 0) (clock_text micros) 24 (clock_short micros h)

date_short : (s : Span) → InLimits s → length (date_text s) ≤ 32
date_short s l =
    let years = date_part (nat_abs s.years) (codes "Y") l.years (omega arith) in
    let months = date_part (nat_abs s.months) (codes "M") l.months (omega arith) in
    let weeks = date_part (nat_abs s.weeks) (codes "W") l.weeks (omega arith) in
    let days = date_part (nat_abs s.days) (codes "D") l.days (omega arith) in
    simp length-append (omega arith)

sign_short : (minus : Bool) → length (sign_text minus) ≤ 1
sign_short minus = cond_both minus (codes "-") [] (λ (z : List ℕ). length z ≤ 1) (λ _. omega arith) (λ _. omega arith)

four : (a b c d : List ℕ) → length (a ++ b ++ c ++ d) ≡ length a + length b + length c + length d
four a b c d = simp length-append

pub span_short : (s : Span) → InLimits s → length (span_text s) ≤ 58
unfolding span_text
span_short s l =
    let sign = sign_short (is_minus s) in
    let date = date_short s l in
    let time = time_short (nat_abs s.time) l.time in
    let all = four (sign_text (is_minus s)) (codes "P") (date_text s) (time_text (nat_abs s.time)) in
    cond_both (is_nought s) (codes "PT0S") _ (λ (z : List ℕ). length z ≤ 58) (λ _. omega arith) (λ _. omega arith)
