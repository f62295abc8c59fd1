-- The pieces of a mark's text that may be left out.
use Rattle.std.proofs.Common.{◌≡◌, ℕ, true, false, eqb, List, [], ◌++◌, codes}
use Rattle.std.proofs.lemmas.Bool.{ne_eqb, eq-eqb}
use Rattle.mark_writing.specs.Canonical.{two_text, seconds_text, is_iso8601, calendar_text}

pub seconds_none : (n : ℕ) → n ≡ 0 → seconds_text n ≡ []
unfolding seconds_text
seconds_none n e = let z : eqb n 0 ≡ true = eq-eqb n 0 e in simp z

pub seconds_some : (n : ℕ) → (n ≡ 0 → ⊥) → seconds_text n ≡ codes ":" ++ two_text n
unfolding seconds_text
seconds_some n e = let z : eqb n 0 ≡ false = ne_eqb n 0 e in simp z

pub calendar_none : (name : List ℕ) → is_iso8601 name ≡ true → calendar_text name ≡ []
unfolding calendar_text
calendar_none name e = rw e

pub calendar_some : (name : List ℕ) → is_iso8601 name ≡ false → calendar_text name ≡ codes "[u-ca=" ++ name ++ codes "]"
unfolding calendar_text
calendar_some name e = rw e
