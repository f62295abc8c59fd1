-- Digits and what they write.
use Rattle.std.proofs.Common.{◌≡◌, ℕ, ◌+◌, ◌-◌, ◌*◌, ◌^◌, ◌<◌, ◌≤◌, Bool, true, ◌&&◌, leb, List, [], ◌∷◌, ◌++◌, length, refl, pow-suc, add-one, arith, length-append}
use native.Mathlib.Nat.{pow-le-pow_right}
use Rattle.std.proofs.lemmas.Bool.{and_parts, leb-true}
use Rattle.reading.specs.Digits.{is_digit, value_on, AllDigits, Digits}

-- one digit more
pub digit_more : (n k d : ℕ) → n < 10 ^ k → d ≤ 9 → n * 10 + d < 10 ^ (k + 1)
digit_more n k d h l = rw (add-one, pow-suc) (omega arith)

pub ten_le : (k m : ℕ) → k ≤ m → 10 ^ k ≤ 10 ^ m
ten_le k m h = pow-le-pow_right (omega arith) h

pub ten_pos : (k : ℕ) → 0 < 10 ^ k
ten_pos k = omega (arith, ten_le 0 k (omega arith))

pub value_push : (n : ℕ) (ds : List ℕ) (b : ℕ) → value_on n (ds ++ (b ∷ [])) ≡ value_on n ds * 10 + (b - 48)
value_push n [] b = refl
value_push n (c ∷ cs) b = value_push (n * 10 + (c - 48)) cs b

pub all_push : (ds : List ℕ) (b : ℕ) → AllDigits ds → 48 ≤ b → b ≤ 57 → AllDigits (ds ++ (b ∷ []))
all_push [] b h p q = (p, q, tt)
all_push (c ∷ cs) b h p q = (h.0, h.1, all_push cs b h.2 p q)

pub length_push : (ds : List ℕ) (b : ℕ) → length (ds ++ (b ∷ [])) ≡ length ds + 1
length_push ds b = simp length-append

pub digits_push : (m : ℕ) (ds : List ℕ) (b : ℕ) → Digits m ds → 48 ≤ b → b ≤ 57 → length ds < m → Digits m (ds ++ (b ∷ []))
digits_push m ds b h p q l = record {
  all = all_push ds b h.all p q;
  some = rw (length_push ds b) (omega arith);
  few = rw (length_push ds b) (omega arith);
}

pub one_digit : (b m : ℕ) → 48 ≤ b → b ≤ 57 → 0 < m → Digits m (b ∷ [])
one_digit b m p q l = record { all = (p, q, tt); some = omega arith; few = omega arith }

-- what a test that found a digit says
pub digit_tells : (b : ℕ) (c : Bool) → (is_digit b && c) ≡ true → (48 ≤ b) × (b ≤ 57) × (c ≡ true)
digit_tells b c h =
    let p = and_parts (is_digit b) c h in
    let q = and_parts (leb 48 b) (leb b 57) p.0 in
    (leb-true 48 b q.0, leb-true b 57 q.1, p.1)
