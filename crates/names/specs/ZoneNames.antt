-- Zones' names as they are written: a first byte, and bytes that may stand inside.
use Rattle.std.specs.Prelude.{◌≡◌, ℕ, ◌≤◌, ◌⊎◌, List, [], ◌∷◌}
use Rattle.names.specs.declared.InForm.{InForm}
use Rattle.names.specs.Names.{LetterOrDigit}

-- `A` to `Z`, `a` to `z`
abbrev pub Letter : ℕ → Type 0
Letter b = ((65 ≤ b) × (b ≤ 90)) ⊎ ((97 ≤ b) × (b ≤ 122))

-- a letter, `_` or `.`
abbrev pub FirstOfZoneName : ℕ → Type 0
FirstOfZoneName b = Letter b ⊎ ((b ≡ 95) ⊎ (b ≡ 46))

-- a letter, a digit, `.`, `_`, `-`, `+` or `/`
abbrev pub InZoneName : ℕ → Type 0
InZoneName b = LetterOrDigit b ⊎ ((b ≡ 46) ⊎ ((b ≡ 95) ⊎ ((b ≡ 45) ⊎ ((b ≡ 43) ⊎ (b ≡ 47)))))

abbrev pub AllInZoneName : List ℕ → Type 0
AllInZoneName [] = Unit {0}
AllInZoneName (b ∷ bs) = InZoneName b × AllInZoneName bs

abbrev pub IsZoneName : List ℕ → InForm → Type 0
IsZoneName [] v = ⊥
IsZoneName (b ∷ bs) v = FirstOfZoneName b × AllInZoneName bs
