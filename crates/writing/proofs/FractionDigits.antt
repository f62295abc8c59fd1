-- The digits of a fraction, one after another.
use Rattle.std.proofs.Common.{◌≡◌, ℕ, zero, suc, ◌+◌, ◌*◌, ◌/◌, ◌%◌, ◌^◌, ◌<◌, ◌≤◌, true, false, eqb, List, [], ◌∷◌, ◌++◌, length, sym, refl, ◌∙◌, append_assoc, append-nil, mod-lt, div-lt_iff_lt-mul, arith}
use native.Mathlib.Nat.{pow-le-pow_right, pow-succ'}
use Rattle.std.proofs.lemmas.Bool.{ne_eqb, eq-eqb, cond_both}
use Rattle.writing.specs.Fractions.{fraction_digits, point_text}
use Rattle.writing.specs.declared.Writer.{Writer}
use Rattle.writing.specs.Putting.{Puts}
use Rattle.writing.proofs.Puttings.{puts_more}

pub point_none : (micros : ℕ) → micros % 1000000 ≡ 0 → point_text micros ≡ []
unfolding point_text
point_none micros e = let z : eqb (micros % 1000000) 0 ≡ true = eq-eqb _ 0 e in simp z

pub point_some : (micros : ℕ) → (micros % 1000000 ≡ 0 → ⊥) → point_text micros ≡ 46 ∷ fraction_digits 6 (micros % 1000000)
unfolding point_text
point_some micros e = let z : eqb (micros % 1000000) 0 ≡ false = ne_eqb _ 0 e in simp z

pub fraction_none : (places : ℕ) → fraction_digits places 0 ≡ []
unfolding fraction_digits
fraction_none zero = refl
fraction_none (suc places) = refl

pub fraction_some : (places rest : ℕ) → (rest ≡ 0 → ⊥)
    → fraction_digits (suc places) rest ≡ (48 + rest / 10 ^ places) ∷ fraction_digits places (rest % 10 ^ places)
unfolding fraction_digits
fraction_some places rest e = let z : eqb rest 0 ≡ false = ne_eqb rest 0 e in simp z

ten_some : (k : ℕ) → 0 < 10 ^ k
ten_some k = omega (arith, pow-le-pow_right {n = 10} (omega arith) {i = 0} {j = k} (omega arith))

-- a unit of ten to the `places`, of which `rest` is less: its tenth, the unit of the next digit
pub record Tenth (places unit rest : ℕ) : Type 0 where
  pub fewer : ℕ
  pub places_is : places ≡ suc fewer
  pub tenth_is : unit / 10 ≡ 10 ^ fewer
  pub some : 0 < unit / 10
  pub digit : rest / (unit / 10) < 10

tenth : (places unit rest : ℕ) → unit ≡ 10 ^ places → rest < unit → 0 < rest → Tenth places unit rest
tenth zero unit rest e s h = absurd (omega arith)
tenth (suc k) unit rest e s h =
    let m : unit ≡ 10 * 10 ^ k = e ∙ pow-succ' 10 k in
    let t : unit / 10 ≡ 10 ^ k = omega arith in
    let some : 0 < unit / 10 = rw t (ten_some k) in
    let l : rest < 10 * (unit / 10) = omega arith in
    record { fewer = k; places_is = refl; tenth_is = t; some = some; digit = (div-lt_iff_lt-mul some).1 l }

-- a fraction is put in part: `rest` of it is left, for as many places as `unit` has zeros
pub record Going (before : Writer) (micros : ℕ) (now : Writer) (unit rest : ℕ) : Type 0 where
  pub places : ℕ
  pub text : List ℕ
  pub put : Puts before text now
  pub unit_is : unit ≡ 10 ^ places
  pub small : rest < unit
  pub next : 0 < rest → Tenth places unit rest
  pub whole : text ++ fraction_digits places rest ≡ point_text micros

pub going_first : {before after : Writer} (micros : ℕ) → (micros % 1000000 ≡ 0 → ⊥) → Puts before (46 ∷ []) after
    → Going before micros after 1000000 (micros % 1000000)
going_first micros some put =
    let small : micros % 1000000 < 1000000 = mod-lt micros (omega arith) in
    record { places = 6; text = _; put = put; unit_is = refl; small = small; next = tenth 6 _ _ refl small; whole = sym (point_some micros some) }

pub going_on : {before mid after : Writer} {micros unit rest : ℕ} → Going before micros mid unit rest → 0 < rest
    → Puts mid ((48 + rest / (unit / 10)) ∷ []) after → Going before micros after (unit / 10) (rest % (unit / 10))
going_on {unit} {rest} g h put =
    let n = g.next h in
    let some : rest ≡ 0 → ⊥ = λ z. omega arith in
    let small : rest % (unit / 10) < unit / 10 = mod-lt rest n.some in
    record {
      places = n.fewer;
      text = g.text ++ ((48 + rest / (unit / 10)) ∷ []);
      put = puts_more g.put put;
      unit_is = n.tenth_is;
      small = small;
      next = tenth _ _ _ n.tenth_is small;
      whole = append_assoc g.text _ _ ∙ rw (n.tenth_is, ← fraction_some n.fewer rest some, ← n.places_is) g.whole;
    }

pub going_end : {before after : Writer} {micros unit rest : ℕ} → Going before micros after unit rest → rest ≡ 0 → Puts before (point_text micros) after
going_end g z = rw (← g.whole, z, fraction_none, append-nil) g.put

-- ── its length ──

fraction_short : (places rest : ℕ) → length (fraction_digits places rest) ≤ places
unfolding fraction_digits
fraction_short zero rest = omega arith
fraction_short (suc places) rest =
    cond_both (eqb rest 0) _ _ (λ (z : List ℕ). length z ≤ suc places) (λ _. omega arith) (λ _. omega (arith, fraction_short places (rest % 10 ^ places)))

pub point_short : (micros : ℕ) → length (point_text micros) ≤ 7
unfolding point_text
point_short micros =
    cond_both (eqb (micros % 1000000) 0) _ _ (λ (z : List ℕ). length z ≤ 7) (λ _. omega arith) (λ _. omega (arith, fraction_short 6 (micros % 1000000)))
