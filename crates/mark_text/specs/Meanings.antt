-- What a text says, in the words of the subject; exactly such texts are accepted.
use Rattle.std.specs.Prelude.{◌≡◌, ◌≢◌, Err, Result, ℕ, ◌+◌, ◌*◌, ◌≤◌, List, length, ℤ, pos, ◌+ℤ◌, ◌-ℤ◌, ◌*ℤ◌, Some, None, Option}
use Rattle.timebase.specs.declared.fault.Fault.{Fault}
use Rattle.timebase.specs.declared.fault.Fault.TheVariants.{Unreadable}
use Rattle.reading.specs.Places.{RefusedWithin}
use Rattle.years.specs.Days.{HasDate}
use Rattle.iso8601.specs.Gregorian.{gregorian_years}
use Rattle.zone.specs.Zones.{Zones, Zone, offset}
use Rattle.calendar.specs.Calendars.{Calendars}
use Rattle.local_times.specs.Locals.{count_of, second_of}
use Rattle.mark_form.specs.declared.draft.Draft.{Draft}
use Rattle.mark_form.specs.declared.draft.Said.{Said}
use Rattle.mark_form.specs.Grammar.{DraftText}
use Rattle.mark_trip.specs.RoundTrip.{part_of, said_seconds}
use Rattle.mark_text.specs.declared.mark.Mark.{Mark}
use Rattle.mark_text.specs.Fields.{date_of}
use Rattle.mark_text.specs.Marks.{IsThere}
use Rattle.mark_text.specs.Ranges.{AllFit, numbers_of}
use Rattle.mark_text.specs.Reading.{calendar_meant}

-- in form, and not too long
pub record Formed (t : List ℕ) (d : Draft) : Type 0 where
  pub text : DraftText t d
  pub short : length t ≤ 128

-- and every number fits
pub record Fitting (t : List ℕ) (d : Draft) : Type 0 where
  pub formed : Formed t d
  pub fit : AllFit (numbers_of d)

-- and no tag is refused
pub record Tagged (t : List ℕ) (d : Draft) : Type 0 where
  pub fitting : Fitting t d
  pub unrefused : d.tags.refused ≡ None

-- the offset of the clock, which is UTC where none is said
abbrev pub clock_offset : Option Said → ℤ
clock_offset None = pos 0
clock_offset (Some said) = said_seconds said

-- the instant is the said local time less the said offset
pub record InstantSaid (d : Draft) (i : ℤ) : Type 0 where
  pub number : ℕ
  pub date : HasDate gregorian_years number (date_of d)
  pub is : i ≡ ((count_of (pos number) (d.hour * 3600 + d.minute * 60 + d.second) -ℤ clock_offset d.offset) *ℤ pos 1000000) +ℤ pos d.micros

-- an offset that is said is the zone's
abbrev pub Agreed : Zone → ℤ → Option Said → Type 0
Agreed zone i None = Unit {0}
Agreed zone i (Some said) = said_seconds said ≡ offset (zone (second_of i))

-- the text is in form, its numbers fit, no tag of it is refused, and the mark that it says is there: it has the zone, the calendar and the
-- instant that are said, and the said offset is the zone's there
pub record Says (zs : Zones) (cs : Calendars) (t : List ℕ) (m : Mark) : Type 0 where
  pub draft : Draft
  pub tagged : Tagged t draft
  pub zone : zs.name m.zone ≡ part_of t draft.name
  pub calendar : cs.name m.calendar ≡ calendar_meant t draft.tags.calendar
  pub instant : InstantSaid draft m.instant
  pub agreed : Agreed (zs.value m.zone) m.instant draft.offset
  pub there : IsThere zs cs m

abbrev pub InForm : List ℕ → Type 0
InForm t = (d : Draft) × Formed t d

-- refused by 3 is exactly what is not in form, at the length of its longest viable prefix, or at the limit where that is less
pub record FormTold (t : List ℕ) (r : Result Mark Fault) : Type 0 where
  pub refused : (at : ℕ) → r ≡ Err (Unreadable at) → RefusedWithin DraftText 128 t at
  pub in_form : ((at : ℕ) → r ≢ Err (Unreadable at)) → InForm t
