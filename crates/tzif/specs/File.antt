-- The fields of a file in file order, and the check of a file by them.
use Rattle.std.specs.Prelude.{ℕ, ◌+◌, ◌-◌, ◌*◌, min, cond, ◌||◌, List, [], ◌∷◌, ◌++◌, length, drop, Some, None, Ok, Err, Option, Result, ◌==◌, int_lt, nat_le, nat_lt}
use Rattle.timebase.specs.declared.fault.Fault.{Fault}
use Rattle.timebase.specs.declared.fault.Fault.TheVariants.{BadFile}
use Rattle.reading.specs.Lines.{line_length}
use Rattle.zone.specs.Offsets.{is_offset}
use Rattle.tzif.specs.declared.layout.Layout.{Layout}
use Rattle.tzif.specs.Fields.{byte_at, number4, offset4, second8, Field, anything, byte_in, number_in, each, first_wrong}

-- "TZif" as a number
abbrev pub magic : ℕ
magic = 0x545A6966

-- ── headers: 44 bytes, which are magic, a version byte, 15 unused bytes and six counts; here those of one at place h ──

abbrev pub isuts : List ℕ → ℕ → ℕ
isuts f h = number4 f (h + 20)

abbrev pub isstds : List ℕ → ℕ → ℕ
isstds f h = number4 f (h + 24)

abbrev pub leaps : List ℕ → ℕ → ℕ
leaps f h = number4 f (h + 28)

abbrev pub times : List ℕ → ℕ → ℕ
times f h = number4 f (h + 32)

abbrev pub types : List ℕ → ℕ → ℕ
types f h = number4 f (h + 36)

abbrev pub chars : List ℕ → ℕ → ℕ
chars f h = number4 f (h + 40)

-- the size of the first block
abbrev pub first_block : List ℕ → ℕ
first_block f = times f 0 * 5 + types f 0 * 6 + chars f 0 + leaps f 0 * 8 + isstds f 0 + isuts f 0

-- how many bytes of a block are of no transition, type or leap second; its header stands at h
abbrev pub others : List ℕ → ℕ → ℕ
others f h = chars f h + isstds f h + isuts f h

-- ── the parts of a file ──

-- the counts of the second header, at place h, that are judged: no leap seconds, at most 2,000 transitions, 1 to 256 types
abbrev pub counts : List ℕ → ℕ → List Field
counts f h = number_in f (h + 28) 0 0 ∷ number_in f (h + 32) 0 2000 ∷ number_in f (h + 36) 1 256 ∷ anything (h + 40) 4 ∷ []

-- the second header, at place h, of a given version
abbrev pub second_header : List ℕ → ℕ → ℕ → List Field
second_header f h version = number_in f h magic magic ∷ byte_in f (h + 4) version version ∷ anything (h + 5) 23 ∷ counts f h

-- transition second k of a block at place b: past the one before it
abbrev pub rising_at : List ℕ → ℕ → ℕ → List Field
rising_at f b k = record {
  place = b + 8 * k;
  size = 8;
  right = k == 0 || int_lt (second8 f (b + 8 * (k - 1))) (second8 f (b + 8 * k));
} ∷ []

-- type index k, of those from place b on: below the count of types
abbrev pub index_at : List ℕ → ℕ → ℕ → ℕ → List Field
index_at f b m k = byte_in f (b + k) 0 (m - 1) ∷ []

-- type k, of those from place b on: its offset, and two bytes more
abbrev pub type_at : List ℕ → ℕ → ℕ → List Field
type_at f b k =
    record { place = b + 6 * k; size = 4; right = is_offset (offset4 f (b + 6 * k)) } ∷ anything (b + 6 * k + 4) 2 ∷ []

-- the second block, at place b, of n transitions, m types and o other bytes
abbrev pub second_block : List ℕ → ℕ → ℕ → ℕ → ℕ → List Field
second_block f b n m o =
    each (rising_at f b) 0 n
    ++ each (index_at f (b + 8 * n) m) 0 n
    ++ each (type_at f (b + 9 * n)) 0 m
    ++ anything (b + 9 * n + 6 * m) o ∷ []

-- the last bytes of a file: a line of n bytes at place t, its newline, and no more
abbrev pub last_line : List ℕ → ℕ → ℕ → List Field
last_line f t n =
    anything t n
    ∷ byte_in f (t + n) 10 10
    ∷ record { place = t + n + 1; size = 0; right = nat_le (length f) (t + n + 1) }
    ∷ []

-- the footer, at place q: a newline, text without one, a newline, and the end of the file
abbrev pub footer : List ℕ → ℕ → List Field
footer f q = byte_in f q 10 10 ∷ last_line f (q + 1) (line_length (drop (q + 1) f))

-- where the footer stands, after the block of a second header at place h
abbrev pub footer_place : List ℕ → ℕ → ℕ
footer_place f h = h + 44 + 9 * times f h + 6 * types f h + others f h

-- the second header, at place h, of a given version, and all that follows it
abbrev pub second_half : List ℕ → ℕ → ℕ → List Field
second_half f h version =
    second_header f h version
    ++ second_block f (h + 44) (times f h) (types f h) (others f h)
    ++ footer f (footer_place f h)

-- ── the file ──

-- where the second header stands
abbrev pub header_place : List ℕ → ℕ
header_place f = 44 + first_block f

-- all fields, in file order: the first header, of version `2` or `3`, its block, and the second header of the same version with what
-- follows it
abbrev pub fields_of : List ℕ → List Field
fields_of f =
    number_in f 0 magic magic
    ∷ byte_in f 4 50 51
    ∷ anything 5 39
    ∷ anything 44 (first_block f)
    ∷ second_half f (header_place f) (byte_at f 4)

-- where the parts of a file stand, if its second header stands at place h
abbrev pub layout_at : List ℕ → ℕ → Layout
layout_at f h = record { block = h + 44; times = times f h; types = types f h; footer = footer_place f h + 1 }

-- the refusal at a place: a file has at most 65,536 bytes, and is refused there if not before
abbrev pub refused : ℕ → Fault
refused p = BadFile (min p 65536)

-- the answer to a file, by the place of its first wrong field
abbrev pub answer : List ℕ → Option ℕ → Result Layout Fault
answer f (Some p) = Err (refused p)
answer f None = cond (nat_lt 65536 (length f)) (Err (refused 65536)) (Ok (layout_at f (header_place f)))

-- the check of a file
unfoldable pub checked : List ℕ → Result Layout Fault
checked f = answer f (first_wrong f (fields_of f))
