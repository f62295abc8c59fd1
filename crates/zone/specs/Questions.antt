-- When two tables answer a question alike: whatever answers it over the first answers it over the second.
use Rattle.std.specs.Prelude.{◌≡◌, ℕ, ◌<◌, ◌≤◌, List, ℤ, Some, None, Option}
use Rattle.std.specs.Borrow.{Bor}
use Rattle.zone.specs.declared.question.Question.{Question}
use Rattle.zone.specs.declared.question.Question.TheVariants.{Count, Name, Find, Value, Change}
use Rattle.zone.specs.declared.value.Value.{Value as AnyValue}
use Rattle.zone.specs.Zones.{Zones, FoundIs, ValueIs, ChangeIs}

-- the bytes of a name, if there is one
abbrev pub seen : Option (Bor (List ℕ)) → Option (List ℕ)
seen None = None
seen (Some x) = Some x.now

-- the bytes that a number's name has
abbrev pub BytesAre : Zones → ℕ → Option (List ℕ) → Type 0
BytesAre z i None = z.count ≤ i
BytesAre z i (Some n) = (i < z.count) × (n ≡ z.name i)

module _ (y z : Zones) where
  abbrev pub AlikeCount : Type 0
  AlikeCount = y.count ≡ z.count

  abbrev pub AlikeName : ℕ → Type 0
  AlikeName i = (r : Option (List ℕ)) → BytesAre y i r → BytesAre z i r

  abbrev pub AlikeFind : List ℕ → Type 0
  AlikeFind n = (r : Option ℕ) → FoundIs y n r → FoundIs z n r

  abbrev pub AlikeValue : ℕ → ℤ → Type 0
  AlikeValue i s = (r : Option AnyValue) → ValueIs y i s r → ValueIs z i s r

  abbrev pub AlikeChange : ℕ → ℤ → ℤ → Type 0
  AlikeChange i a b = (r : Option ℤ) → ChangeIs y i a b r → ChangeIs z i a b r

  abbrev pub Alike : Question → Type 0
  Alike Count = AlikeCount
  Alike (Name i) = AlikeName i
  Alike (Find n) = AlikeFind n.now
  Alike (Value i s) = AlikeValue i s
  Alike (Change i a b) = AlikeChange i a b
