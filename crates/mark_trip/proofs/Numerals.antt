-- Numbers that are written, as the grammar reads them.
use Rattle.std.proofs.Common.{◌≡◌, ℕ, ◌/◌, ◌%◌, ◌<◌, ◌∷◌, ◌++◌, refl, subst, inl, inr, arith}
use Rattle.std.proofs.lemmas.Bool.{cases_eq}
use Rattle.span_text.proofs.Numerals.{fraction_some_digits, fraction_value}
use Rattle.writing.specs.Fractions.{point_text, fraction_digits}
use Rattle.writing.proofs.FractionDigits.{point_none, point_some}
use Rattle.mark_writing.specs.Canonical.{two_text}
use Rattle.mark_form.specs.Grammar.{Number, FractionText}

-- two digits of a number below 100
pub two_number : (n : ℕ) → n < 100 → Number 2 (two_text n) n
two_number n h = record { all = (omega arith, omega arith, (omega arith, omega arith, tt)); long = refl; is = omega arith }

-- four digits of a number below 10,000
pub four_number : (n : ℕ) → n < 10000 → Number 4 (two_text (n / 100) ++ two_text (n % 100)) n
four_number n h =
    let a = two_number (n / 100) (omega arith) in
    let b = two_number (n % 100) (omega arith) in
    record { all = (a.all.0, a.all.1, (a.all.2.0, a.all.2.1, b.all)); long = refl; is = omega (arith, a.is, b.is) }

-- microseconds below a second are their own rest
own_rest : (micros : ℕ) → micros < 1000000 → micros % 1000000 ≡ micros
own_rest micros h = omega arith

pub fraction_fits : (micros : ℕ) → micros < 1000000 → FractionText (point_text micros) micros
fraction_fits micros h = elim (cases_eq micros 0) [
  | inl e ↦ rw (e, point_none 0 refl) FractionText.none
  | inr e ↦
      let own = own_rest micros h in
      let text : point_text micros ≡ 46 ∷ fraction_digits 6 micros = rw own at (point_some micros (λ z. e (omega arith))) in
      rw text (subst (FractionText (46 ∷ fraction_digits 6 micros)) (fraction_value micros h) (FractionText.some (fraction_some_digits micros h e)))
]
