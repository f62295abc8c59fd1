-- Names as they are written: runs of letters and digits, joined by `-`, which is byte 45.
use Rattle.std.specs.Prelude.{ℕ, ◌≤◌, ◌⊎◌, List, [], ◌∷◌}
use Rattle.names.specs.declared.InForm.{InForm}

-- `A` to `Z`, `a` to `z`, `0` to `9`
abbrev pub LetterOrDigit : ℕ → Type 0
LetterOrDigit b = ((65 ≤ b) × (b ≤ 90)) ⊎ (((97 ≤ b) × (b ≤ 122)) ⊎ ((48 ≤ b) × (b ≤ 57)))

-- a name from the beginning of a run on, and from inside a run on
pub data Runs : List ℕ → Type 0 where
  last : {b : ℕ} → LetterOrDigit b → Runs (b ∷ [])
  more : {b : ℕ} {bs : List ℕ} → LetterOrDigit b → Runs bs → Runs (b ∷ bs)
  join : {b : ℕ} {bs : List ℕ} → LetterOrDigit b → Runs bs → Runs (b ∷ (45 ∷ bs))

abbrev pub CalendarName : List ℕ → InForm → Type 0
CalendarName name v = Runs name
