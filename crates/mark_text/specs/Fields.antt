-- What the fields of a mark text say, or the first digit of the first that is past its range, in the order of the text.
use Rattle.std.specs.Prelude.{ℕ, ◌+◌, ◌*◌, ◌<◌, ◌≤◌, cond, ◌&&◌, ℤ, pos, negsuc, ◌+ℤ◌, ◌-ℤ◌, ◌*ℤ◌, ◌≤ℤ◌, IfSome, Some, None, Ok, Err, Option, Result, ◌==◌, nat_le, nat_lt}
use Rattle.timebase.specs.declared.fault.Fault.{Fault}
use Rattle.timebase.specs.declared.fault.Fault.TheVariants.{NoSuchField}
use Rattle.years.specs.declared.date.Date.{Date}
use Rattle.iso8601.specs.Gregorian.{gregorian_years}
use Rattle.calendar.specs.Singles.{day_number}
use Rattle.local_times.specs.Chains.{◌>>=◌}
use Rattle.local_times.specs.Locals.{count_of}
use Rattle.mark_form.specs.declared.draft.Draft.{Draft}
use Rattle.mark_form.specs.declared.draft.Said.{Said}
use Rattle.mark_trip.specs.RoundTrip.{said_seconds}
use Rattle.mark_text.specs.declared.fields.Fields.{Fields}

-- the Gregorian date that a text says
abbrev pub date_of : Draft → Date
date_of d = record { year = pos d.year; month = d.month; day = d.day }

-- where a date that is none goes wrong: there is no year 0, a year has 12 months, and else it is the day
abbrev pub wrong_date : Draft → ℕ
wrong_date d = cond (d.year == 0) 0 (cond (nat_le 1 d.month && nat_le d.month 12) 8 5)

-- its day number
abbrev pub day_said : Draft → Result ℕ Fault
day_said d = elim (day_number gregorian_years (date_of d)) [ Some n ↦ Ok n | None ↦ Err (NoSuchField (wrong_date d)) ]

-- an hour, a minute and a second in seconds; the hour's first digit stands at a place, and the others' 3 and 6 bytes on
abbrev pub clock_said : ℕ → ℕ → ℕ → ℕ → Result ℕ Fault
clock_said at hour minute second =
    cond (nat_lt hour 24) (cond (nat_lt minute 60) (cond (nat_lt second 60) (Ok (hour * 3600 + minute * 60 + second)) (Err (NoSuchField (at + 6)))) (Err (NoSuchField (at + 3)))) (Err (NoSuchField at))

-- an offset in seconds; its hours stand a byte after its sign
abbrev pub shift_said : Said → Result ℤ Fault
shift_said s = clock_said (s.sign + 1) s.hours s.minutes s.seconds >>= λ _. Ok (said_seconds s)

abbrev pub offset_said : Option Said → Result (Option ℤ) Fault
offset_said None = Ok None
offset_said (Some s) = shift_said s >>= λ z. Ok (Some z)

-- all of them; the clock's first digit stands at 11
abbrev pub fields_said : Draft → Result Fields Fault
fields_said d =
    day_said d >>= λ n. clock_said 11 d.hour d.minute d.second >>= λ k. offset_said d.offset >>= λ o. Ok (record { day = n; clock = k; micros = d.micros; offset = o })

-- where none is said, the clock is UTC
abbrev pub shift_or_utc : Option ℤ → ℤ
shift_or_utc None = pos 0
shift_or_utc (Some o) = o

-- the said local time less the said offset, in seconds
abbrev pub second_said : Fields → ℤ
second_said f = count_of (pos f.day) f.clock -ℤ shift_or_utc f.offset

-- in microseconds
abbrev pub instant_said : Fields → ℤ
instant_said f = (second_said f *ℤ pos 1000000) +ℤ pos f.micros

-- ── what is known of them ──

abbrev pub ShiftFits : ℤ → Type 0
ShiftFits o = (negsuc 86398 ≤ℤ o) × (o ≤ℤ pos 86399)

-- the sign stands near the beginning
abbrev pub SignFits : Draft → Type 0
SignFits d = IfSome d.offset (λ s. s.sign < 90)

pub record FieldsFit (f : Fields) : Type 0 where
  pub first : 1 ≤ f.day
  pub last : f.day ≤ 3652059
  pub clock : f.clock ≤ 86399
  pub offset : IfSome f.offset ShiftFits
