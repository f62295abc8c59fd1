-- A rule that holds of each number of a stretch is computed by one test.
use Rattle.std.specs.Prelude.{◌≡◌, ℕ, zero, suc, ◌+◌, ◌-◌, ◌<◌, ◌≤◌, Bool, true, false, ◌&&◌, T}
use Rattle.std.proofs.Common.{◌∙◌, subst, sym, add-zero, add-suc, suc-add, le_of_suc-le-suc, not-suc-le-zero, arith}

-- the test f passes at the n numbers from y on
abbrev pub every : (ℕ → Bool) → ℕ → ℕ → Bool
every f y zero = true
every f y (suc n) = f y && every f (suc y) n

pub both_left : (a b : Bool) → T (a && b) → T a
both_left true b t = tt
both_left false b t = t

pub both_right : (a b : Bool) → T (a && b) → T b
both_right true b t = t
both_right false b t = absurd t

pub from : (f : ℕ → Bool) (y n : ℕ) → T (every f y n) → (k : ℕ) → k < n → T (f (y + k))
from f y zero t k h = absurd (not-suc-le-zero h)
from f y (suc n) t zero h = subst (λ (m : ℕ). T (f m)) (sym (add-zero y)) (both_left (f y) (every f (suc y) n) t)
from f y (suc n) t (suc k) h =
    subst (λ (m : ℕ). T (f m)) (suc-add y k ∙ sym (add-suc y k))
    (from f (suc y) n (both_right (f y) (every f (suc y) n) t) k (le_of_suc-le-suc h))

pub within : (f : ℕ → Bool) (a n : ℕ) → T (every f a n) → (y : ℕ) → a ≤ y → y < a + n → T (f y)
within f a n t y low high =
    let is : a + (y - a) ≡ y = omega arith in
    subst (λ (m : ℕ). T (f m)) is (from f a n t (y - a) (omega arith))
