-- The sign of a text, put to the sizes that keep their limits.
use Rattle.std.proofs.Common.{◌≡◌, ℕ, suc, ◌^◌, ◌<◌, ◌≤◌, Bool, true, false, cond, ltb, zero, ℤ, pos, ◌*ℤ◌, Ok, Err, None, Result, to_z, of_z, w64, refl, arith}
use mir.Syntax.{Width}
use mir.Val.{SFits, hbits}
use Rattle.std.proofs.lemmas.Int.{ints, to_z-of_z}
use Rattle.std.proofs.lemmas.Bool.{ltb-false, le-ltb}
use Rattle.timebase.specs.Spans.{part_limit, time_limit}
use Rattle.timebase.specs.declared.fault.Fault.{Fault}
use Rattle.timebase.specs.declared.fault.Fault.TheVariants.{PastLimit}
use Rattle.timebase.specs.declared.span.Part.{Part}
use Rattle.span_text.specs.declared.scan.Fields.{Fields}
use Rattle.span_text.specs.Spans.{signed, past_limit, limited_span, span_of, time_of, within, WithinLimits}

-- a size that keeps its limit
pub record Kept (limit size : ℕ) (z : ℤ) : Type 0 where
  pub is : z ≡ pos size
  pub few : size ≤ limit

kept_if : (limit size : ℕ) (part : Part) {z : ℤ} (b : Bool) → ltb limit size ≡ b → ◌≡◌ {A = Result ℤ Fault} (Ok z) (cond b (Err (PastLimit part)) (Ok (pos size))) → Kept limit size z
kept_if limit size part true e h = absurd cc
kept_if limit size part false e h = record { is = cc; few = ltb-false limit size e }

pub kept : (limit size : ℕ) (part : Part) {z : ℤ} → Ok z ≡ within limit part size → Kept limit size z
kept limit size part h = kept_if limit size part (ltb limit size) refl h

times : (minus : Bool) (n : ℕ) → signed minus 1 *ℤ pos n ≡ signed minus n
times false n = omega (arith, ints)
times true zero = refl
times true (suc n) = omega (arith, ints)

fits_size : (w : Width) (minus : Bool) (n : ℕ) → n < 2 ^ hbits w → SFits w (signed minus n)
fits_size w false n h = record { sfits = h }
fits_size w true zero h = record { sfits = h }
fits_size w true (suc n) h = record { sfits = omega arith }

pub unit : (minus : Bool) → to_z w64 (of_z w64 (signed minus 1)) ≡ signed minus 1
unit minus = to_z-of_z w64 (signed minus 1) (fits_size w64 minus 1 (omega arith))

-- a sign times a size, as it is computed
pub product : (w : Width) {limit size : ℕ} {z : ℤ} (minus : Bool) (sign : ℤ) → sign ≡ signed minus 1 → Kept limit size z → limit < 2 ^ hbits w
    → to_z w (of_z w (sign *ℤ to_z w (of_z w z))) ≡ signed minus size
product w {limit} {size} {z} minus sign e k h =
    let small : size < 2 ^ hbits w = omega (arith, k.few) in
    rw (k.is, to_z-of_z w (pos size) (fits_size w false size small), e, times minus size) (to_z-of_z w (signed minus size) (fits_size w minus size small))

none_past : (f : Fields) → WithinLimits f → past_limit f ≡ None
none_past f w =
    let years = le-ltb part_limit f.years w.years in
    let months = le-ltb part_limit f.months w.months in
    let weeks = le-ltb part_limit f.weeks w.weeks in
    let days = le-ltb part_limit f.days w.days in
    let time = le-ltb time_limit (time_of f) w.time in
    simp (years, months, weeks, days, time)

pub limited_within : (f : Fields) → WithinLimits f → Ok (span_of f) ≡ limited_span f
limited_within f w = rw (none_past f w, limited_span) refl
