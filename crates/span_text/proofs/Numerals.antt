-- The digits that are written, as they are read.
use Rattle.std.proofs.Common.{◌≡◌, ℕ, zero, suc, ◌+◌, ◌-◌, ◌*◌, ◌/◌, ◌%◌, ◌^◌, ◌<◌, ◌≤◌, List, [], ◌∷◌, ◌++◌, length, decimal, sym, ◌∙◌, subst, inl, inr, mod-lt, mul_assoc, mul_comm, div-lt_iff_lt-mul, add-mul, arith, length-append}
use native.Mathlib.Nat.{pow-succ', div-add-mod}
use Rattle.std.proofs.lemmas.Fmt.{decimal_by_steps, length-decimal-le}
use Rattle.std.proofs.lemmas.Bool.{cases_eq}
use Rattle.reading.specs.Digits.{value_on, AllDigits, Digits}
use Rattle.reading.proofs.Figures.{ten_pos, value_push, all_push}
use Rattle.writing.specs.Fractions.{fraction_digits}
use Rattle.writing.proofs.FractionDigits.{fraction_none, fraction_some}
use Rattle.span_text.specs.Grammar.{micros_of}

record Writes (n : ℕ) (ds : List ℕ) : Type 0 where
  all : AllDigits ds
  value : value_on 0 ds ≡ n
  some : 0 < length ds

one : (n : ℕ) → n < 10 → Writes n ((48 + n) ∷ [])
one n h = record { all = (omega arith, omega arith, tt); value = omega arith; some = omega arith }

more : (n : ℕ) (ds : List ℕ) → 10 ≤ n → Writes (n / 10) ds → Writes n (ds ++ ((48 + n % 10) ∷ []))
more n ds h w = record {
  all = all_push ds (48 + n % 10) w.all (omega arith) (omega arith);
  value = value_push 0 ds (48 + n % 10) ∙ omega (arith, w.value);
  some = simp length-append (omega arith);
}

writes : (n : ℕ) → n < 2 ^ 64 → Writes n (decimal n)
writes = decimal_by_steps Writes one more

pub decimal_digits : (n : ℕ) → n < 10 ^ 9 → Digits 9 (decimal n)
decimal_digits n h = let w = writes n (omega arith) in record { all = w.all; some = w.some; few = length-decimal-le 9 n (omega arith) h (omega arith) }

pub decimal_value : (n : ℕ) → n < 10 ^ 9 → value_on 0 (decimal n) ≡ n
decimal_value n h = (writes n (omega arith)).value

-- the digits of a fraction of k places, after digits that gave n
record Fracs (k f n : ℕ) (ds : List ℕ) : Type 0 where
  all : AllDigits ds
  few : length ds ≤ k
  value : value_on n ds * 10 ^ (k - length ds) ≡ n * 10 ^ k + f

fracs_none : (k f n : ℕ) → f ≡ 0 → Fracs k f n []
fracs_none k f n e = record { all = tt; few = omega arith; value = let z : k - 0 ≡ k = omega arith in rw z (omega arith) }

fracs_more : (k f n q m : ℕ) (ds : List ℕ) → q < 10 → q * 10 ^ k + m ≡ f → Fracs k m (n * 10 + q) ds → Fracs (suc k) f n ((48 + q) ∷ ds)
fracs_more k f n q m ds l e w =
    let v : (48 + q) - 48 ≡ q = omega arith in
    let x : suc k - suc (length ds) ≡ k - length ds = omega arith in
    record {
      all = (omega arith, omega arith, w.all);
      few = omega (arith, w.few);
      value = rw (v, x, pow-succ' 10 k) (omega (arith, w.value, add-mul (n * 10) q (10 ^ k), mul_assoc n 10 (10 ^ k)));
    }

parted : (f k : ℕ) → (f / 10 ^ k) * 10 ^ k + f % 10 ^ k ≡ f
parted f k = omega (arith, div-add-mod f (10 ^ k), mul_comm (f / 10 ^ k) (10 ^ k))

first_digit : (k f : ℕ) → f < 10 ^ suc k → f / 10 ^ k < 10
first_digit k f h = let m : f < 10 * 10 ^ k = rw pow-succ' at h in (div-lt_iff_lt-mul (ten_pos k)).1 m

fracs : (k f n : ℕ) → f < 10 ^ k → Fracs k f n (fraction_digits k f)
fracs zero f n h = let e : f ≡ 0 = omega arith in subst (λ z. Fracs 0 f n (fraction_digits 0 z)) (sym e) (rw (fraction_none 0) (fracs_none 0 f n e))
fracs (suc k) f n h = elim (cases_eq f 0) [
  | inl e ↦ subst (λ z. Fracs (suc k) f n (fraction_digits (suc k) z)) (sym e) (rw (fraction_none (suc k)) (fracs_none (suc k) f n e))
  | inr e ↦ subst (Fracs (suc k) f n) (sym (fraction_some k f e))
      (fracs_more k f n (f / 10 ^ k) (f % 10 ^ k) (fraction_digits k (f % 10 ^ k)) (first_digit k f h) (parted f k) (fracs k (f % 10 ^ k) (n * 10 + f / 10 ^ k) (mod-lt f (ten_pos k))))
]

pub fraction_some_digits : (f : ℕ) → f < 10 ^ 6 → (f ≡ 0 → ⊥) → Digits 6 (fraction_digits 6 f)
fraction_some_digits f h e = let w = fracs 6 f 0 h in record { all = w.all; some = rw (fraction_some 5 f e) (omega arith); few = w.few }

pub fraction_value : (f : ℕ) → f < 10 ^ 6 → micros_of (fraction_digits 6 f) ≡ f
fraction_value f h = (fracs 6 f 0 h).value ∙ omega arith
