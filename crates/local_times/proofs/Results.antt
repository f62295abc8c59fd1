-- An answer is accepted or refused, not both, and by one value.
use Rattle.std.proofs.Common.{◌≡◌, ℕ, Ok, Err, Result, sym, ◌∙◌, arith}

pub err_ok : {A E : Type 0} {e : E} {a : A} {X : Type 0} → ◌≡◌ {A = Result A E} (Err e) (Ok a) → X
err_ok h = let z : ◌≡◌ {A = ℕ} 0 1 = cc in absurd (omega arith)

pub ok_same : {A E : Type 0} {a b : A} → ◌≡◌ {A = Result A E} (Ok a) (Ok b) → a ≡ b
ok_same h = cc

pub err_same : {A E : Type 0} {d e : E} → ◌≡◌ {A = Result A E} (Err d) (Err e) → d ≡ e
err_same h = cc

pub refused_same : {A E : Type 0} {r : Result A E} {d e : E} → r ≡ Err d → r ≡ Err e → d ≡ e
refused_same p q = err_same (sym p ∙ q)
