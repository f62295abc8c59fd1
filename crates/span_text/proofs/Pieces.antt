-- The pieces of a span's text.
use Rattle.std.proofs.Common.{◌≡◌, ℕ, ◌/◌, true, false, eqb, List, [], ◌++◌, codes, decimal}
use Rattle.std.proofs.lemmas.Bool.{ne_eqb, eq-eqb}
use Rattle.writing.specs.Fractions.{point_text}
use Rattle.timebase.specs.declared.span.Span.{Span}
use Rattle.span_text.specs.Canonical.{part_text, seconds_text, clock_text, time_text, is_nought, span_text}

pub part_none : (n : ℕ) (letter : List ℕ) → n ≡ 0 → part_text n letter ≡ []
unfolding part_text
part_none n letter e = let z : eqb n 0 ≡ true = eq-eqb n 0 e in simp z

pub part_some : (n : ℕ) (letter : List ℕ) → (n ≡ 0 → ⊥) → part_text n letter ≡ decimal n ++ letter
unfolding part_text
part_some n letter e = let z : eqb n 0 ≡ false = ne_eqb n 0 e in simp z

pub seconds_none : (micros : ℕ) → micros ≡ 0 → seconds_text micros ≡ []
unfolding seconds_text
seconds_none micros e = let z : eqb micros 0 ≡ true = eq-eqb micros 0 e in simp z

pub seconds_some : (micros : ℕ) → (micros ≡ 0 → ⊥) → seconds_text micros ≡ decimal (micros / 1000000) ++ point_text micros ++ codes "S"
unfolding seconds_text
seconds_some micros e = let z : eqb micros 0 ≡ false = ne_eqb micros 0 e in simp z

pub time_none : (micros : ℕ) → micros ≡ 0 → time_text micros ≡ []
unfolding time_text
time_none micros e = let z : eqb micros 0 ≡ true = eq-eqb micros 0 e in simp z

pub time_some : (micros : ℕ) → (micros ≡ 0 → ⊥) → time_text micros ≡ clock_text micros
unfolding time_text
time_some micros e = let z : eqb micros 0 ≡ false = ne_eqb micros 0 e in simp z

pub span_nought : (s : Span) → is_nought s ≡ true → span_text s ≡ codes "PT0S"
unfolding span_text
span_nought s h = rw h
