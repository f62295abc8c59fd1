-- The local time of an instant in a zone, and the instant at which a day shows a clock time.
use Rattle.std.specs.Prelude.{◌≡◌, ℕ, Bool, false, cond, ◌&&◌, nat_le, ℤ, pos, ◌+ℤ◌, ◌-ℤ◌, ◌*ℤ◌, ◌≤ℤ◌, Ok, Err, Result}
use Rattle.timebase.specs.declared.fault.Fault.{Fault}
use Rattle.timebase.specs.declared.fault.Fault.TheVariants.{InstantOut, Blank as NoOffset}
use Rattle.timebase.specs.Instants.{first_instant, last_instant, is_instant}
use Rattle.timebase.specs.Splits.{floor_quotient, floor_rest}
use Rattle.zone.specs.declared.value.Value.{Value}
use Rattle.zone.specs.declared.value.Value.TheVariants.{Offset, Blank}
use Rattle.zone.specs.Zones.{Zone, is_blank, offset}
use Rattle.local_times.specs.declared.local_time.LocalTime.{LocalTime}
use Rattle.local_times.specs.Chains.{◌>>=◌}
use Rattle.local_times.specs.Meeting.{meeting, offset_known}
use Rattle.local_times.specs.Meets.{Meets}

-- ── of an instant ──

-- the second in which an instant lies, and the microseconds into it
abbrev pub second_of : ℤ → ℤ
second_of i = floor_quotient i 1000000

abbrev pub micros_of : ℤ → ℕ
micros_of i = floor_rest i 1000000

-- the local time of an instant, in seconds, as it would be counted in UTC
abbrev pub local_second : Zone → ℤ → ℤ
local_second zone i = second_of i +ℤ offset (zone (second_of i))

-- its day number: 1970-01-01 is day 719,163
abbrev pub local_day : Zone → ℤ → ℤ
local_day zone i = floor_quotient (local_second zone i) 86400 +ℤ pos 719163

-- its clock time, in seconds
abbrev pub clock_second : Zone → ℤ → ℕ
clock_second zone i = floor_rest (local_second zone i) 86400

-- an instant in range at which the zone has an offset
pub record Known (zone : Zone) (i : ℤ) : Type 0 where
  pub low : first_instant ≤ℤ i
  pub high : i ≤ℤ last_instant
  pub sure : is_blank (zone (second_of i)) ≡ false

-- the local time of such an instant
pub record Shows (zone : Zone) (i : ℤ) (l : LocalTime) : Type 0 where
  pub known : Known zone i
  pub day_is : pos l.day ≡ local_day zone i
  pub clock_is : l.clock ≡ clock_second zone i
  pub micros_is : l.micros ≡ micros_of i

-- the offset at an instant; refused outside their range first, and then where the zone is blank
abbrev pub offset_at : Zone → ℤ → Result ℤ Fault
offset_at zone i = cond (is_instant i) (offset_known (zone (second_of i))) (Err InstantOut)

abbrev pub known_at : ℤ → Value → Result ℤ Fault
known_at i (Offset o) = Ok i
known_at i (Blank cause depth) = Err (NoOffset cause depth)

-- the instant itself; refused likewise
abbrev pub arriving : Zone → ℤ → Result ℤ Fault
arriving zone i = cond (is_instant i) (known_at i (zone (second_of i))) (Err InstantOut)

-- ── of a day and a clock time ──

-- the seconds from 1970-01-01 to a clock time of a day, as they would be in UTC
abbrev pub count_of : ℤ → ℕ → ℤ
count_of day clock = ((day -ℤ pos 719163) *ℤ pos 86400) +ℤ pos clock

-- the instant at which a day shows a clock time; the microseconds ride along
abbrev pub met_at : Zone → ℤ → ℕ → ℕ → Result ℤ Fault
met_at zone day clock micros = meeting zone (count_of day clock) >>= λ s. Ok ((s *ℤ pos 1000000) +ℤ pos micros)

-- the same told by what lies in the window: of an accepted meeting, the second in it and the microseconds of the local time
abbrev pub MeetsAt : Zone → LocalTime → Result ℤ Fault → Type 0
MeetsAt zone l (Ok i) = Meets zone (count_of (pos l.day) l.clock) (Ok (second_of i)) × (micros_of i ≡ l.micros)
MeetsAt zone l (Err fault) = Meets zone (count_of (pos l.day) l.clock) (Err fault)

-- whether there is such a day, and such a clock time
abbrev pub is_local_time : ℕ → ℕ → ℕ → Bool
is_local_time day clock micros = (nat_le 1 day && nat_le day 3652059) && (nat_le clock 86399 && nat_le micros 999999)
