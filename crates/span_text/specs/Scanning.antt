-- The steps by which a span text is read. The bytes: 45 `-`, 46 `.`, 48 to 57 digits, and the letters 68 `D`, 72 `H`, 77 `M`, 80 `P`,
-- 83 `S`, 84 `T`, 87 `W`, 89 `Y`.
use Rattle.std.specs.Prelude.{ℕ, ◌+◌, ◌-◌, ◌*◌, ◌^◌, Bool, true, false, cond, not, ◌&&◌, ◌||◌, List, Some, None, Option, Result, ◌==◌, nat_le, nat_lt}
use Rattle.reading.specs.Digits.{is_digit}
use Rattle.reading.specs.declared.Misread.{Misread}
use Rattle.reading.specs.Reading.{read_on}
use Rattle.span_text.specs.declared.scan.Designator.{Designator}
use Rattle.span_text.specs.declared.scan.Designator.TheVariants.{Period, Years, Months, Weeks, Days, Time, Hours, Minutes, Seconds}
use Rattle.span_text.specs.declared.scan.Stage.{Stage}
use Rattle.span_text.specs.declared.scan.Stage.TheVariants.{Start, Signed, After, Number, Point, Fraction}
use Rattle.span_text.specs.declared.scan.Fields.{Fields}
use Rattle.span_text.specs.declared.scan.Progress.{Progress}

-- the place in the order of designators
abbrev pub rank_of : Designator → ℕ
rank_of Period = 0
rank_of Years = 1
rank_of Months = 2
rank_of Weeks = 3
rank_of Days = 4
rank_of Time = 5
rank_of Hours = 6
rank_of Minutes = 7
rank_of Seconds = 8

abbrev pub at : Stage → Fields → Progress
at stage fields = record { stage = stage; fields = fields }

-- nothing said yet, but for the sign
abbrev pub unsaid : Bool → Fields
unsaid minus = record { minus = minus; years = 0; months = 0; weeks = 0; days = 0; hours = 0; minutes = 0; seconds = 0; micros = 0 }

abbrev pub start : Progress
start = at Start (unsaid false)

-- with a number for the designator that closes it
abbrev pub put : Fields → Designator → ℕ → Fields
put f d n = record {
  minus = f.minus;
  years = cond (rank_of d == 1) n f.years;
  months = cond (rank_of d == 2) n f.months;
  weeks = cond (rank_of d == 3) n f.weeks;
  days = cond (rank_of d == 4) n f.days;
  hours = cond (rank_of d == 6) n f.hours;
  minutes = cond (rank_of d == 7) n f.minutes;
  seconds = cond (rank_of d == 8) n f.seconds;
  micros = f.micros;
}

-- with seconds and their fraction
abbrev pub put_seconds : Fields → ℕ → ℕ → Fields
put_seconds f n micros = record { minus = f.minus; years = f.years; months = f.months; weeks = f.weeks; days = f.days; hours = f.hours; minutes = f.minutes; seconds = n; micros = micros }

-- the designator of a letter that closes a number after the designator of rank r
abbrev pub closing : ℕ → ℕ → Option Designator
closing r b =
    cond (b == 89 && nat_lt r 1) (Some Years)
    (cond (b == 77 && nat_lt r 2) (Some Months)
    (cond (b == 87 && nat_lt r 3) (Some Weeks)
    (cond (b == 68 && nat_lt r 4) (Some Days)
    (cond (b == 72 && r == 5) (Some Hours)
    (cond (b == 77 && (r == 5 || r == 6)) (Some Minutes)
    (cond (b == 83 && nat_le 4 r) (Some Seconds) None))))))

abbrev pub closed : Fields → Designator → ℕ → ℕ → Option Progress
closed f last n b = elim (closing (rank_of last) b) [ Some next ↦ Some (at (After next) (put f next n)) | None ↦ None ]

abbrev pub after_designator : Fields → Designator → ℕ → Option Progress
after_designator f last b =
    cond (is_digit b && (not (rank_of last == 4) && nat_lt (rank_of last) 8)) (Some (at (Number last (b - 48) 1) f))
    (cond (b == 84 && nat_lt (rank_of last) 5) (Some (at (After Time) f)) None)

-- a number of at most nine digits, and so below 1,000,000,000
abbrev pub in_number : Fields → Designator → ℕ → ℕ → ℕ → Option Progress
in_number f last n k b =
    cond (is_digit b && (nat_lt k 9 && nat_lt n 100000000)) (Some (at (Number last (n * 10 + (b - 48)) (k + 1)) f))
    (cond (b == 46 && nat_le 4 (rank_of last)) (Some (at (Point n) f)) (closed f last n b))

-- the microseconds of a fraction's digit after k others
abbrev pub unit_of : ℕ → ℕ
unit_of k = 10 ^ (5 - k)

abbrev pub in_point : Fields → ℕ → ℕ → Option Progress
in_point f n b = cond (is_digit b) (Some (at (Fraction n ((b - 48) * 100000) 1) f)) None

-- a fraction of at most six digits, and so below 1,000,000 microseconds
abbrev pub in_fraction : Fields → ℕ → ℕ → ℕ → ℕ → Option Progress
in_fraction f n micros k b =
    cond (is_digit b && (nat_lt k 6 && nat_lt micros 1000000)) (Some (at (Fraction n (micros + (b - 48) * unit_of k) (k + 1)) f))
    (cond (b == 83) (Some (at (After Seconds) (put_seconds f n micros))) None)

abbrev pub opened : Fields → ℕ → Option Progress
opened f b = cond (b == 80) (Some (at (After Period) f)) None

-- the progress after one byte more, or none where it can't stand there
abbrev pub stepped : Progress → ℕ → ℕ → Option Progress
stepped p place b = elim p.stage [
  | Start ↦ cond (b == 45) (Some (at Signed (unsaid true))) (opened p.fields b)
  | Signed ↦ opened p.fields b
  | After last ↦ after_designator p.fields last b
  | Number last n k ↦ in_number p.fields last n k b
  | Point n ↦ in_point p.fields n b
  | Fraction n micros k ↦ in_fraction p.fields n micros k b
]

-- what the text says, if it may end here: at least one number, and at least one after `T`
abbrev pub ended : Progress → Option Fields
ended p = elim p.stage [
  | Start ↦ None
  | Signed ↦ None
  | After last ↦ cond (rank_of last == 0 || rank_of last == 5) None (Some p.fields)
  | Number last n k ↦ None
  | Point n ↦ None
  | Fraction n micros k ↦ None
]

abbrev pub read_fields : List ℕ → Result Fields Misread
read_fields t = read_on stepped ended start 0 t
