-- What each refusal tells: its number, its place, and of a blank the cause and the depth.
use Rattle.std.specs.Prelude.{ℕ}
use Rattle.timebase.specs.declared.fault.Fault.{Fault}
use Rattle.timebase.specs.declared.fault.Fault.TheVariants.{SlotOff, SlotEmpty, Unreadable, NoSuchField, CriticalTag, UnknownZone, UnknownCalendar, PastLimit, NoSuchDate, InstantOut, Blank, OffsetDenied, BufferSmall, BadFile}
use Rattle.timebase.specs.declared.fault.Told.{Told}
use Rattle.timebase.specs.declared.span.Part.{Part}
use Rattle.timebase.specs.declared.span.Part.TheVariants.{Years, Months, Weeks, Days, Time}

-- a part's place in the order of a span's parts
abbrev pub place_of : Part → ℕ
place_of Years = 0
place_of Months = 1
place_of Weeks = 2
place_of Days = 3
place_of Time = 4

abbrev pub at_place : ℕ → ℕ → Told
at_place number place = record { number = number; place = place; cause = 0; depth = 0 }

abbrev pub told : Fault → Told
told (SlotOff slot) = at_place 1 slot
told (SlotEmpty slot) = at_place 2 slot
told (Unreadable at) = at_place 3 at
told (NoSuchField at) = at_place 4 at
told (CriticalTag at) = at_place 5 at
told (UnknownZone at) = at_place 6 at
told (UnknownCalendar at) = at_place 7 at
told (PastLimit part) = at_place 8 (place_of part)
told NoSuchDate = at_place 9 0
told InstantOut = at_place 10 0
told (Blank cause depth) = record { number = 11; place = 0; cause = cause; depth = depth }
told (OffsetDenied at) = at_place 12 at
told BufferSmall = at_place 13 0
told (BadFile at) = at_place 14 at
