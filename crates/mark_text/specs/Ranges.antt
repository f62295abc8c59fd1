-- The numbers of a mark text in its order, each with its range.
use Rattle.std.specs.Prelude.{ℕ, ◌+◌, ◌≤◌, List, [], ◌∷◌, ◌++◌, pos, Some, None, Option}
use Rattle.iso8601.specs.Gregorian.{gregorian}
use Rattle.mark_form.specs.declared.draft.Draft.{Draft}
use Rattle.mark_form.specs.declared.draft.Said.{Said}

-- a number, the place of its first digit, and the least and the most that it may be
pub record Ranged : Type 0 where
  pub place : ℕ
  pub least : ℕ
  pub number : ℕ
  pub most : ℕ

abbrev pub ranged : ℕ → ℕ → ℕ → ℕ → Ranged
ranged place least number most = record { place = place; least = least; number = number; most = most }

abbrev pub Fits : Ranged → Type 0
Fits r = (r.least ≤ r.number) × (r.number ≤ r.most)

abbrev pub AllFit : List Ranged → Type 0
AllFit [] = Unit {0}
AllFit (r ∷ rs) = Fits r × AllFit rs

-- the first that doesn't fit has its first digit at a place
pub data FirstWrong : List Ranged → ℕ → Type 0 where
  here : {r : Ranged} {rs : List Ranged} → (Fits r → ⊥) → FirstWrong (r ∷ rs) r.place
  later : {r : Ranged} {rs : List Ranged} {place : ℕ} → Fits r → FirstWrong rs place → FirstWrong (r ∷ rs) place

-- there is no year 0, a year has 12 months, and a month its days in the Gregorian calendar
abbrev pub date_numbers : Draft → List Ranged
date_numbers d = ranged 0 1 d.year 9999 ∷ (ranged 5 1 d.month 12 ∷ (ranged 8 1 d.day (gregorian.size (pos d.year) d.month) ∷ []))

-- an hour, a minute and a second, from a place on
abbrev pub clock_numbers : ℕ → ℕ → ℕ → ℕ → List Ranged
clock_numbers at hour minute second = ranged at 0 hour 23 ∷ (ranged (at + 3) 0 minute 59 ∷ (ranged (at + 6) 0 second 59 ∷ []))

-- those of an offset stand after its sign
abbrev pub offset_numbers : Option Said → List Ranged
offset_numbers None = []
offset_numbers (Some said) = clock_numbers (said.sign + 1) said.hours said.minutes said.seconds

abbrev pub numbers_of : Draft → List Ranged
numbers_of d = date_numbers d ++ (clock_numbers 11 d.hour d.minute d.second ++ offset_numbers d.offset)
