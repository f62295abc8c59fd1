-- The microseconds of a fraction's digits.
use Rattle.std.proofs.Common.{◌≡◌, ℕ, suc, ◌+◌, ◌-◌, ◌*◌, ◌^◌, ◌<◌, ◌≤◌, List, [], ◌∷◌, ◌++◌, length, sym, ap, ◌∙◌, mul_assoc, mul_comm, add-mul, mul-lt-mul_of_pos_right, pow-suc, arith, pow-add}
use Rattle.reading.specs.Digits.{value_on}
use Rattle.reading.proofs.Figures.{ten_le, ten_pos, value_push, length_push}
use Rattle.span_text.specs.Grammar.{micros_of}

-- a number of digits below the ninth has room for one more
pub number_room : (n k : ℕ) → n < 10 ^ k → k < 9 → n < 100000000
number_room n k h l = omega (arith, ten_le k 8 (omega arith))

-- digits that are padded to six places
pub padded_small : (v k : ℕ) → v < 10 ^ k → k ≤ 6 → v * 10 ^ (6 - k) < 1000000
padded_small v k h l =
    let e : k + (6 - k) ≡ 6 = omega arith in
    let p : 10 ^ k * 10 ^ (6 - k) ≡ 1000000 = sym (pow-add 10 k (6 - k)) ∙ ap (λ z. 10 ^ z) e in
    omega (arith, p, mul-lt-mul_of_pos_right {m = v} {n = 10 ^ k} {k = 10 ^ (6 - k)} h (ten_pos (6 - k)))

pub padded_more : (v k d : ℕ) → k < 6 → v * 10 ^ (6 - k) + d * 10 ^ (5 - k) ≡ (v * 10 + d) * 10 ^ (6 - (k + 1))
padded_more v k d h =
    let e : 6 - k ≡ suc (5 - k) = omega arith in
    let g : 6 - (k + 1) ≡ 5 - k = omega arith in
    let a : v * 10 ^ (6 - k) ≡ v * (10 ^ (5 - k) * 10) = ap (λ z. v * 10 ^ z) e ∙ ap (λ z. v * z) (pow-suc 10 (5 - k)) in
    let b : v * (10 ^ (5 - k) * 10) ≡ v * 10 * 10 ^ (5 - k) = ap (λ z. v * z) (mul_comm (10 ^ (5 - k)) 10) ∙ sym (mul_assoc v 10 (10 ^ (5 - k))) in
    ap (λ z. z + d * 10 ^ (5 - k)) (a ∙ b) ∙ (sym (add-mul (v * 10) d (10 ^ (5 - k))) ∙ ap (λ z. (v * 10 + d) * 10 ^ z) (sym g))

-- the microseconds of one digit more
pub micros_push : (fs : List ℕ) (b : ℕ) → length fs < 6 → micros_of fs + (b - 48) * 10 ^ (5 - length fs) ≡ micros_of (fs ++ (b ∷ []))
micros_push fs b l =
    padded_more (value_on 0 fs) (length fs) (b - 48) l
    ∙ (ap (λ z. z * 10 ^ (6 - (length fs + 1))) (sym (value_push 0 fs b)) ∙ ap (λ z. value_on 0 (fs ++ (b ∷ [])) * 10 ^ (6 - z)) (sym (length_push fs b)))

pub micros_one : (b : ℕ) → (b - 48) * 100000 ≡ micros_of (b ∷ [])
micros_one b = ap (λ z. z * 100000) (let e : b - 48 ≡ 0 * 10 + (b - 48) = omega arith in e)
