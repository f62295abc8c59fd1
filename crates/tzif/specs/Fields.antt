-- The fields of a file, and how they are judged in order.
use Rattle.std.specs.Prelude.{ℕ, zero, suc, ◌+◌, ◌*◌, Bool, true, cond, ◌&&◌, List, [], ◌∷◌, ◌++◌, length, ℤ, Some, None, Ok, Err, Option, Result, nat_le, slice_index}
use Rattle.std.specs.Int.{w32, w64}
use Rattle.std.proofs.Common.{to_z}
use Rattle.std.specs.Option.{option_or as or_else}
use Rattle.tzif.specs.declared.field.WrongAt.{WrongAt}

-- ── what is read at place p of a file: big-endian numbers; to_z reads bits as two's complement ──

abbrev pub byte_at : List ℕ → ℕ → ℕ
byte_at f p = slice_index f p

unfoldable pub number4 : List ℕ → ℕ → ℕ
number4 f p = slice_index f p * 16777216 + slice_index f (p + 1) * 65536 + slice_index f (p + 2) * 256 + slice_index f (p + 3)

unfoldable pub offset4 : List ℕ → ℕ → ℤ
offset4 f p = to_z w32 (number4 f p)

unfoldable pub number8 : List ℕ → ℕ → ℕ
number8 f p = slice_index f p * 72057594037927936 + slice_index f (p + 1) * 281474976710656 + slice_index f (p + 2) * 1099511627776 + slice_index f (p + 3) * 4294967296 + slice_index f (p + 4) * 16777216 + slice_index f (p + 5) * 65536 + slice_index f (p + 6) * 256 + slice_index f (p + 7)

unfoldable pub second8 : List ℕ → ℕ → ℤ
second8 f p = to_z w64 (number8 f p)

-- ── fields ──

-- where a field begins, how many bytes it has, and whether what it holds is right
pub record Field : Type 0 where
  pub place : ℕ
  pub size : ℕ
  pub right : Bool

-- n bytes that may hold anything
abbrev pub anything : ℕ → ℕ → Field
anything p n = record { place = p; size = n; right = true }

abbrev pub is_within : ℕ → ℕ → ℕ → Bool
is_within a b v = nat_le a v && nat_le v b

-- a byte from a to b
abbrev pub byte_in : List ℕ → ℕ → ℕ → ℕ → Field
byte_in f p a b = record { place = p; size = 1; right = is_within a b (byte_at f p) }

-- a 4-byte number from a to b
abbrev pub number_in : List ℕ → ℕ → ℕ → ℕ → Field
number_in f p a b = record { place = p; size = 4; right = is_within a b (number4 f p) }

-- the fields of elements i, i + 1 and so on, n of them
abbrev pub each : (ℕ → List Field) → ℕ → ℕ → List Field
each fields i zero = []
each fields i (suc n) = fields i ++ each fields (suc i) n

-- where a field refuses its file, if it does: at the file's end if it is not whole, and at its own place if it is whole and not right
abbrev pub wrong_at : List ℕ → Field → Option ℕ
wrong_at f x = cond (nat_le (x.place + x.size) (length f)) (cond x.right None (Some x.place)) (Some (length f))

-- where the first of some fields does that refuses it
abbrev pub first_wrong : List ℕ → List Field → Option ℕ
first_wrong f [] = None
first_wrong f (x ∷ xs) = or_else (wrong_at f x) (first_wrong f xs)

-- where an answer of the code refuses its file, if it does
abbrev pub wrong_place : {T : Type 0} → Result T WrongAt → Option ℕ
wrong_place (Ok x) = None
wrong_place (Err w) = Some w.at
