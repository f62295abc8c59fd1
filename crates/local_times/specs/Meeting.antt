-- The second that a local time meets.
use Rattle.std.specs.Prelude.{Bool, false, cond, ℤ, pos, ◌+ℤ◌, ◌-ℤ◌, ◌≤ℤ◌, Some, None, Ok, Err, Option, Result, int_le, int_lt}
use Rattle.timebase.specs.declared.fault.Fault.{Fault}
use Rattle.timebase.specs.declared.fault.Fault.TheVariants.{Blank as NoOffset}
use Rattle.timebase.specs.Searches.{first_from}
use Rattle.zone.specs.declared.value.Value.{Value}
use Rattle.zone.specs.declared.value.Value.TheVariants.{Offset, Blank}
use Rattle.zone.specs.Zones.{Zone, is_blank, offset}
pub use Rattle.zone.specs.Zones.{offset_known}

abbrev pub fault_of : Value → Fault
fault_of (Offset o) = NoOffset 0 0
fault_of (Blank cause depth) = NoOffset cause depth

abbrev pub is : ℤ → ℤ → Bool
is a b = cond (int_le a b) (int_le b a) false

-- the local count at a second
abbrev pub local_at : Zone → ℤ → ℤ
local_at zone s = s +ℤ offset (zone s)

-- the first second of the window around L that passes a test
abbrev pub first_near : ℤ → (ℤ → Bool) → Option ℤ
first_near L test = first_from test (L -ℤ pos 86399) 172799

-- no second shows L: the first that shows more keeps the offset from before it
abbrev pub skipped : Zone → ℤ → Option ℤ → Result ℤ Fault
skipped zone L (Some j) = Ok (L -ℤ offset (zone (j -ℤ pos 1)))
skipped zone L None = Ok L

-- the least second that shows L
abbrev pub matched : Zone → ℤ → Option ℤ → Result ℤ Fault
matched zone L (Some i) = Ok i
matched zone L None = skipped zone L (first_near L (λ j. int_lt L (local_at zone j)))

-- the earliest blank refuses
abbrev pub known : Zone → ℤ → Option ℤ → Result ℤ Fault
known zone L (Some s) = Err (fault_of (zone s))
known zone L None = matched zone L (first_near L (λ i. is (local_at zone i) L))

-- the second at which the local time L (in seconds, as if in UTC) is met
unfoldable pub meeting : Zone → ℤ → Result ℤ Fault
meeting zone L = known zone L (first_near L (λ s. is_blank (zone s)))

-- i lies less than a day from L
pub record Near (L i : ℤ) : Type 0 where
  pub low : (L -ℤ pos 86399) ≤ℤ i
  pub high : i ≤ℤ (L +ℤ pos 86399)
