-- What a mark text says, read off at the places of its parts. The bytes: 45 `-`, 48 `0`, 58 `:`, 90 `Z`.
use Rattle.std.specs.Prelude.{ℕ, ◌+◌, ◌-◌, ◌*◌, Bool, cond, not, ◌&&◌, ◌||◌, List, length, Some, None, Ok, Err, Option, Result, ◌==◌, nat_lt, slice_index}
use Rattle.reading.specs.declared.Misread.{Misread}
use Rattle.reading.specs.Reading.{read_on, limited}
use Rattle.mark_form.specs.declared.draft.Draft.{Draft}
use Rattle.mark_form.specs.declared.draft.Said.{Said}
use Rattle.mark_form.specs.declared.layout.Layout.{Layout}
use Rattle.mark_form.specs.Scanning.{stepped, ended, begun}

-- the byte at a place, or 0 past the end
abbrev pub byte_at : List ℕ → ℕ → ℕ
byte_at t i = slice_index t i

-- the number that a digit writes
abbrev pub digit_at : List ℕ → ℕ → ℕ
digit_at t i = byte_at t i - 48

-- the number that two digits write
abbrev pub two_at : List ℕ → ℕ → ℕ
two_at t i = digit_at t i * 10 + digit_at t (i + 1)

-- the number that four digits write
abbrev pub four_at : List ℕ → ℕ → ℕ
four_at t i = two_at t i * 100 + two_at t (i + 2)

-- the fraction's digits stand from after the point, at 19, up to the sign; others count as 0
abbrev pub fraction_at : List ℕ → ℕ → ℕ → ℕ
fraction_at t sign i = cond (nat_lt i sign) (digit_at t i) 0

-- the microseconds that the fraction says
abbrev pub micros_at : List ℕ → ℕ → ℕ
micros_at t s =
    fraction_at t s 20 * 100000 + fraction_at t s 21 * 10000 + fraction_at t s 22 * 1000
    + fraction_at t s 23 * 100 + fraction_at t s 24 * 10 + fraction_at t s 25

-- `±hh:mm` or `±hh:mm:ss`, from its sign on
abbrev pub said_at : List ℕ → ℕ → Said
said_at t s = record {
  sign = s;
  minus = (byte_at t s == 45);
  hours = two_at t (s + 1);
  minutes = two_at t (s + 4);
  seconds = cond (byte_at t (s + 6) == 58) (two_at t (s + 7)) 0;
}

-- `-00:00` without seconds, which says that no offset is known
abbrev pub is_unsaid : List ℕ → ℕ → Bool
is_unsaid t s = byte_at t s == 45 && (not (byte_at t (s + 6) == 58) && (two_at t (s + 1) == 0 && two_at t (s + 4) == 0))

-- `Z` says none
abbrev pub offset_at : List ℕ → ℕ → Option Said
offset_at t s = cond (byte_at t s == 90 || is_unsaid t s) None (Some (said_at t s))

-- what a text says whose parts stand at these places
unfoldable pub draft_of : List ℕ → Layout → Draft
draft_of t l = record {
  year = four_at t 0;
  month = two_at t 5;
  day = two_at t 8;
  hour = two_at t 11;
  minute = two_at t 14;
  second = two_at t 17;
  micros = micros_at t l.sign;
  offset = offset_at t l.sign;
  name = l.name;
  tags = l.tags;
}

-- what reading a text answers
abbrev pub read_layout : List ℕ → Result Layout Misread
read_layout t = limited 128 (length t) (read_on stepped ended begun 0 t)

-- the same, read off
abbrev pub read_draft : List ℕ → Result Draft Misread
read_draft t = elim (read_layout t) [ Ok l ↦ Ok (draft_of t l) | Err m ↦ Err m ]
