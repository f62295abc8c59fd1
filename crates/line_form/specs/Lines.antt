-- The lines of a script, as they are written.
use Rattle.std.specs.Prelude.{◌≡◌, ℕ, ◌+◌, ◌<◌, List, [], ◌∷◌, ◌++◌, length, codes, ◌≢◌}
use Rattle.reading.specs.Digits.{value_on, Digits}
use Rattle.span_law.specs.declared.unit.Unit.{Unit as AnyUnit}
use Rattle.line_form.specs.declared.line.Line.{Line}
use Rattle.line_form.specs.declared.line.Line.TheVariants.{Mark, Lift, Span, Between, Carry, Zone, Calendar, List as Listing}
use Rattle.line_form.specs.Keywords.{unit_word}

-- no space, which is byte 32
abbrev pub NoSpace : List ℕ → Type 0
NoSpace [] = Unit {0}
NoSpace (b ∷ bs) = (b ≢ 32) × NoSpace bs

-- some bytes other than a space
pub record Word (bytes : List ℕ) : Type 0 where
  pub some : 0 < length bytes
  pub plain : NoSpace bytes

-- a slot, as 1 to 3 digits write it
pub record SlotText (digits : List ℕ) (slot : ℕ) : Type 0 where
  pub number : Digits 3 digits
  pub value : slot ≡ value_on 0 digits

-- a command, a slot, and a word that begins at a place and goes to the line's end
pub record WordLine (command line : List ℕ) (slot place : ℕ) : Type 0 where
  pub digits : List ℕ
  pub text : List ℕ
  pub is : line ≡ command ++ (digits ++ (32 ∷ text))
  pub number : SlotText digits slot
  pub word : Word text
  pub begins : place ≡ length command + length digits + 1

-- the eight forms, and what they say
pub data IsLine : List ℕ → Line → Type 0 where
  mark : {line : List ℕ} {slot text : ℕ} → WordLine (codes "mark ") line slot text → IsLine line (Mark slot text)
  lift : {x : List ℕ} {slot : ℕ} → SlotText x slot → IsLine (codes "lift " ++ x) (Lift slot)
  span : {line : List ℕ} {slot text : ℕ} → WordLine (codes "span ") line slot text → IsLine line (Span slot text)
  between : {x y z : List ℕ} {first second span : ℕ} (unit : AnyUnit) → SlotText x first → SlotText y second → SlotText z span
      → IsLine (codes "between " ++ (x ++ (32 ∷ (y ++ (32 ∷ (unit_word unit ++ (32 ∷ z))))))) (Between first second unit span)
  carry : {x y z : List ℕ} {first span target : ℕ} → SlotText x first → SlotText y span → SlotText z target
      → IsLine (codes "carry " ++ (x ++ (32 ∷ (y ++ (32 ∷ z))))) (Carry first span target)
  zone : {line : List ℕ} {slot name : ℕ} → WordLine (codes "zone ") line slot name → IsLine line (Zone slot name)
  calendar : {line : List ℕ} {slot name : ℕ} → WordLine (codes "calendar ") line slot name → IsLine line (Calendar slot name)
  list : IsLine (codes "list") Listing
