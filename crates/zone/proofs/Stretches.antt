-- A stretch without a change has one value.
use Rattle.std.proofs.Common.{◌≡◌, ℕ, zero, suc, ℤ, pos, ◌+ℤ◌, ◌-ℤ◌, nat_abs, ◌≤ℤ◌, ◌<ℤ◌, ap, ◌∙◌, arith}
use Rattle.std.proofs.lemmas.Int.{ints}
use Rattle.zone.specs.Zones.{Steady}

module _ {X : Type 0} (f : ℤ → X) (a n : ℤ) (st : Steady f a n) where
  stretch_by : (k : ℕ) (t : ℤ) → t ≡ a +ℤ pos k → t <ℤ n → f t ≡ f a
  stretch_by zero t e h = ap f (omega (arith, ints))
  stretch_by (suc k) t e h = st t (omega (arith, ints)) h ∙ stretch_by k (t -ℤ pos 1) (omega (arith, ints)) (omega (arith, ints))

  pub stretch : (t : ℤ) → a ≤ℤ t → t <ℤ n → f t ≡ f a
  stretch t h k = stretch_by (nat_abs (t -ℤ a)) t (omega (arith, ints)) k
