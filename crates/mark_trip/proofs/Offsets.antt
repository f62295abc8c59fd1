-- The text of an offset, as the grammar reads it.
use Rattle.std.proofs.Common.{◌≡◌, ◌≢◌, ℕ, suc, ◌+◌, ◌*◌, ◌/◌, ◌%◌, ◌<◌, false, eqb, ltb, ◌∷◌, ◌++◌, get_or, ℤ, pos, negsuc, neg_ℤ, nat_abs, Some, codes, ap, inl, inr, arith}
use native.Mathlib.Nat.{div-div-eq-div-mul}
use Rattle.std.proofs.lemmas.Bool.{cases_eq, le-ltb}
use Rattle.mark_form.specs.declared.draft.Said.{Said}
use Rattle.mark_form.specs.Grammar.{Sign, OffsetText}
use Rattle.mark_writing.specs.Canonical.{two_text, sign_byte, offset_text}
use Rattle.mark_writing.proofs.Pieces.{seconds_none, seconds_some}
use Rattle.mark_trip.specs.RoundTrip.{said_seconds}
use Rattle.mark_trip.proofs.Numerals.{two_number}

-- hours, minutes and seconds are the whole
parts : (n : ℕ) → n / 3600 * 3600 + n / 60 % 60 * 60 + n % 60 ≡ n
parts n = let e : n / 60 / 60 ≡ n / 3600 = div-div-eq-div-mul n 60 60 in omega arith

sign_stands : (z : ℤ) → Sign (sign_byte z) (eqb (sign_byte z) 45)
sign_stands (pos n) = let e : ltb n 0 ≡ false = le-ltb n 0 (omega arith) in rw e Sign.plus
sign_stands (negsuc n) = Sign.minus

-- what the text of an offset says, from its sign at a place on
abbrev pub said_of : ℕ → ℤ → Said
said_of sign z = record {
  sign = sign;
  minus = eqb (sign_byte z) 45;
  hours = nat_abs z / 3600;
  minutes = nat_abs z / 60 % 60;
  seconds = nat_abs z % 60;
}

pub said_back : (sign : ℕ) (z : ℤ) → said_seconds (said_of sign z) ≡ z
said_back sign (pos n) = let e : ltb n 0 ≡ false = le-ltb n 0 (omega arith) in rw e (ap pos (parts n))
said_back sign (negsuc n) = ap (λ k. neg_ℤ (pos k)) (parts (suc n))

-- a canonical offset isn't `-00:00`
not_unknown : (z : ℤ) → nat_abs z % 60 ≡ 0 → sign_byte z ∷ (two_text (nat_abs z / 3600) ++ (58 ∷ two_text (nat_abs z / 60 % 60))) ≢ codes "-00:00"
not_unknown (pos n) h e = let f : ltb n 0 ≡ false = le-ltb n 0 (omega arith) in let g : ◌≡◌ {A = ℕ} 43 45 = rw f at (ap (λ t. get_or t 0 0) e) in absurd (omega arith)
not_unknown (negsuc n) h e =
    let a = ap (λ t. get_or t 1 0) e in
    let b = ap (λ t. get_or t 2 0) e in
    let c = ap (λ t. get_or t 4 0) e in
    let d = ap (λ t. get_or t 5 0) e in
    let p = parts (suc n) in
    absurd (omega arith)

-- an offset of less than a day
pub offset_fits : (place : ℕ) (z : ℤ) → nat_abs z < 86400 → OffsetText place (offset_text z) (Some (said_of place z))
unfolding offset_text
offset_fits place z h =
    let n = nat_abs z in
    let s = sign_stands z in
    let i = two_number (n / 3600) (omega arith) in
    let j = two_number (n / 60 % 60) (omega arith) in
    elim (cases_eq (n % 60) 0) [
      | inl e ↦ rw (seconds_none (n % 60) e, e) (OffsetText.minutes s i j (not_unknown z e))
      | inr e ↦ rw (seconds_some (n % 60) e) (OffsetText.seconds s i j (two_number (n % 60) (omega arith)))
    ]
