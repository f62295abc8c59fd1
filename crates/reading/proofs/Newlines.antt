-- The first newline of a text.
use Rattle.std.proofs.Common.{◌≡◌, ℕ, not, eqb, List, length, sym, refl, inl, inr, arith}
use Rattle.std.specs.Option.{unwrap_or}
use Rattle.std.specs.List.{position, position_or_len}
use Rattle.std.proofs.lemmas.Bool.{lt-ltb, le-ltb, cases_lt}
use Rattle.std.proofs.lemmas.List.Recursion.{is_position_or_len}
use Rattle.std.proofs.lemmas.List.Sums.{prefix_len-le-length}
use Rattle.reading.specs.Lines.{line_length}

-- how many bytes stand before the first newline is its place, or the length where there is none
line_is : (bs : List ℕ) → line_length bs ≡ position_or_len (λ b. eqb b 10) bs
line_is bs = is_position_or_len line_length (λ b. eqb b 10) refl (λ b bs. grind arith) bs

pub line_found : (bs : List ℕ) → unwrap_or (position (λ b. eqb b 10) bs) (length bs) ≡ line_length bs
line_found bs =
    let e = line_is bs in
    elim (cases_lt (position_or_len (λ b. eqb b 10) bs) (length bs)) [
      | inl h ↦ rw (lt-ltb _ _ h) (sym e)
      | inr h ↦ let most = prefix_len-le-length (λ b. not (eqb b 10)) bs in rw (le-ltb _ _ h) (omega arith)
    ]
