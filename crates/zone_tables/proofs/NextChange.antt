-- A zone's next change is one alone.
use Rattle.std.proofs.Common.{◌≡◌, ℕ, Bool, ℤ, Decides, Option, subst}
use Rattle.zone.specs.Zones.{Zones, ChangeIs}
use Rattle.zone.proofs.Answered.{change_decided}

-- what is answered of a question is the only change that it has
pub next_decided : (z : Zones) (i : ℕ) (a b : ℤ) (r q : Option ℤ) (t : Bool) → ChangeIs z i a b r → Decides t (r ≡ q) → Decides t (ChangeIs z i a b q)
next_decided z i a b r q t h d = (λ e. subst (λ (x : Option ℤ). ChangeIs z i a b x) (d.0 e) h, λ k. (change_decided z z i a b r q t h k d).1 (λ _ p. p))
