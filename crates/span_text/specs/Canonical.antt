-- The canonical text of a span, and what writing it answers.
use Rattle.std.specs.Prelude.{ℕ, ◌/◌, ◌%◌, Bool, cond, ◌&&◌, List, [], ◌++◌, length, drop, Some, None, Ok, Err, codes, decimal, Option, Result, ◌==◌, nat_lt, unsigned_abs}
use Rattle.timebase.specs.Spans.{is_minus, wrong_part}
use Rattle.timebase.specs.declared.fault.Fault.{Fault}
use Rattle.timebase.specs.declared.fault.Fault.TheVariants.{PastLimit, BufferSmall}
use Rattle.timebase.specs.declared.span.Part.{Part}
use Rattle.timebase.specs.declared.span.Span.{Span}
use Rattle.writing.specs.Fractions.{point_text}

-- a number and its letter, unless it is nought
unfoldable pub part_text : ℕ → List ℕ → List ℕ
part_text n letter = cond (n == 0) [] (decimal n ++ letter)

-- the microseconds past the minute: whole seconds and their fraction, unless both are nought
unfoldable pub seconds_text : ℕ → List ℕ
seconds_text micros = cond (micros == 0) [] (decimal (micros / 1000000) ++ point_text micros ++ codes "S")

-- a time: hours, as many as there are, and minutes and seconds below 60
abbrev pub clock_text : ℕ → List ℕ
clock_text micros =
    codes "T"
    ++ part_text (micros / 3600000000) (codes "H")
    ++ part_text (micros / 60000000 % 60) (codes "M")
    ++ seconds_text (micros % 60000000)

-- the same, unless it is nought
unfoldable pub time_text : ℕ → List ℕ
time_text micros = cond (micros == 0) [] (clock_text micros)

-- years, months, weeks and days without their sign, unless they are nought
abbrev pub date_text : Span → List ℕ
date_text s =
    part_text (unsigned_abs s.years) (codes "Y")
    ++ part_text (unsigned_abs s.months) (codes "M")
    ++ part_text (unsigned_abs s.weeks) (codes "W")
    ++ part_text (unsigned_abs s.days) (codes "D")

-- every part is nought
abbrev pub is_nought : Span → Bool
is_nought s =
    (unsigned_abs s.years == 0) && (unsigned_abs s.months == 0 && (unsigned_abs s.weeks == 0 && (unsigned_abs s.days == 0 && unsigned_abs s.time == 0)))

-- one sign for the whole span
abbrev pub sign_text : Bool → List ℕ
sign_text minus = cond minus (codes "-") []

-- the canonical text
unfoldable pub span_text : Span → List ℕ
span_text s = cond (is_nought s) (codes "PT0S") (sign_text (is_minus s) ++ codes "P" ++ date_text s ++ time_text (unsigned_abs s.time))

-- ── writing it ──

-- why nothing is written: a part of the span, or else too little room
abbrev pub refusal : Option Part → ℕ → Option Fault
refusal (Some part) room = Some (PastLimit part)
refusal None room = cond (nat_lt room 96) (Some BufferSmall) None

-- what writing answers: the length of the text
abbrev pub write_answer : Span → List ℕ → Result ℕ Fault
write_answer s before = elim (refusal (wrong_part s) (length before)) [ Some fault ↦ Err fault | None ↦ Ok (length (span_text s)) ]

-- what the buffer holds after it: the text, and past it what it held before
abbrev pub write_memory : Span → List ℕ → List ℕ
write_memory s before = elim (refusal (wrong_part s) (length before)) [ Some fault ↦ before | None ↦ span_text s ++ drop (length (span_text s)) before ]
