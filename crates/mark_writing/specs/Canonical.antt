-- The canonical text of a mark, and what writing it answers.
use Rattle.std.specs.Prelude.{ℕ, ◌+◌, ◌/◌, ◌%◌, Bool, cond, List, [], ◌∷◌, ◌++◌, length, drop, ℤ, pos, Ok, Err, codes, Result, ◌==◌, int_lt, nat_lt, unsigned_abs}
use Rattle.std.specs.Str.{bytes_eq}
use Rattle.timebase.specs.declared.fault.Fault.{Fault}
use Rattle.timebase.specs.declared.fault.Fault.TheVariants.{BufferSmall}
use Rattle.writing.specs.Fractions.{point_text}
use Rattle.mark_writing.specs.declared.stamp.Stamp.{Stamp}

-- the two digits of a number below 100
abbrev pub two_text : ℕ → List ℕ
two_text n = (48 + n / 10) ∷ ((48 + n % 10) ∷ [])

-- `YYYY-MM-DD`
unfoldable pub date_text : Stamp → List ℕ
date_text s = two_text (s.year / 100) ++ two_text (s.year % 100) ++ codes "-" ++ two_text s.month ++ codes "-" ++ two_text s.day

-- `hh:mm:ss`, and the fraction if it isn't nought, without final zeros
unfoldable pub clock_text : Stamp → List ℕ
clock_text s = two_text s.hour ++ codes ":" ++ two_text s.minute ++ codes ":" ++ two_text s.second ++ point_text s.micros

-- `-` for an offset below nought, else `+`
abbrev pub sign_byte : ℤ → ℕ
sign_byte offset = cond (int_lt offset (pos 0)) 45 43

-- the seconds of an offset past its whole minutes, if there are any
unfoldable pub seconds_text : ℕ → List ℕ
seconds_text seconds = cond (seconds == 0) [] (codes ":" ++ two_text seconds)

-- `±hh:mm`, and `:ss` if it isn't nought
unfoldable pub offset_text : ℤ → List ℕ
offset_text offset =
    (sign_byte offset ∷ [])
    ++ two_text (unsigned_abs offset / 3600)
    ++ codes ":"
    ++ two_text (unsigned_abs offset / 60 % 60)
    ++ seconds_text (unsigned_abs offset % 60)

-- a zone's name in brackets
unfoldable pub zone_text : List ℕ → List ℕ
zone_text name = codes "[" ++ name ++ codes "]"

-- the calendar that a text means where it names none
abbrev pub is_iso8601 : List ℕ → Bool
is_iso8601 name = bytes_eq name (codes "iso8601")

-- a calendar's name in its tag, unless it is that one
unfoldable pub calendar_text : List ℕ → List ℕ
calendar_text name = cond (is_iso8601 name) [] (codes "[u-ca=" ++ name ++ codes "]")

-- the canonical text
unfoldable pub mark_text : Stamp → List ℕ
mark_text s = date_text s ++ codes "T" ++ clock_text s ++ offset_text s.offset ++ zone_text s.zone.now ++ calendar_text s.calendar.now

-- ── writing it ──

-- what writing answers: the length of the text, or that there is too little room
abbrev pub write_answer : Stamp → List ℕ → Result ℕ Fault
write_answer s before = cond (nat_lt (length before) 96) (Err BufferSmall) (Ok (length (mark_text s)))

-- what the buffer holds after it: the text, and past it what it held before
abbrev pub write_memory : Stamp → List ℕ → List ℕ
write_memory s before = cond (nat_lt (length before) 96) before (mark_text s ++ drop (length (mark_text s)) before)
