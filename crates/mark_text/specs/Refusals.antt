-- By what a text is refused, in the words of the subject.
use Rattle.std.specs.Prelude.{◌≡◌, ◌≢◌, ℕ, ◌<◌, List, ℤ, ◌≤ℤ◌, Some}
use Rattle.timebase.specs.Instants.{first_instant, last_instant}
use Rattle.timebase.specs.declared.fault.Fault.{Fault}
use Rattle.timebase.specs.declared.fault.Fault.TheVariants.{Unreadable, NoSuchField, CriticalTag, UnknownZone, UnknownCalendar, InstantOut, Blank as NoOffset, OffsetDenied}
use Rattle.reading.specs.Places.{RefusedWithin}
use Rattle.zone.specs.declared.value.Value.TheVariants.{Blank}
use Rattle.zone.specs.Zones.{Zones, offset}
use Rattle.calendar.specs.Calendars.{Calendars}
use Rattle.local_times.specs.Locals.{second_of, Known}
use Rattle.mark_form.specs.declared.draft.Draft.{Draft}
use Rattle.mark_form.specs.declared.draft.Said.{Said}
use Rattle.mark_form.specs.Grammar.{DraftText}
use Rattle.mark_trip.specs.RoundTrip.{part_of, said_seconds}
use Rattle.mark_text.specs.Marks.{Lowest}
use Rattle.mark_text.specs.Meanings.{Formed, Fitting, Tagged, InstantSaid}
use Rattle.mark_text.specs.Ranges.{FirstWrong, numbers_of}
use Rattle.mark_text.specs.Reading.{calendar_meant, calendar_place}

-- no number below a count bears a name
abbrev pub NoneBears : (ℕ → List ℕ) → ℕ → List ℕ → Type 0
NoneBears name count n = (i : ℕ) → i < count → name i ≢ n

-- from the first instant of all to the last
abbrev pub IsInstant : ℤ → Type 0
IsInstant i = (first_instant ≤ℤ i) × (i ≤ℤ last_instant)

-- no tag is refused, and a zone bears the name in brackets
pub record Zoned (zs : Zones) (t : List ℕ) (d : Draft) (zone : ℕ) : Type 0 where
  pub tagged : Tagged t d
  pub bears : Lowest zs.name zs.count (part_of t d.name) zone

-- and a calendar the name that is meant, and the text says an instant
pub record Settled (zs : Zones) (cs : Calendars) (t : List ℕ) (d : Draft) (zone : ℕ) (i : ℤ) : Type 0 where
  pub zoned : Zoned zs t d zone
  pub calendar : ℕ
  pub bears : Lowest cs.name cs.count (calendar_meant t d.tags.calendar) calendar
  pub instant : InstantSaid d i

-- a text is refused by what is wrong first: its form, a number, a tag, its zone, its calendar, its instant, which is out of range or has no
-- offset in the zone, or its offset; each case begins with what is right before it
pub data Refused (zs : Zones) (cs : Calendars) (t : List ℕ) : Fault → Type 0 where
  form : {at : ℕ} → RefusedWithin DraftText 128 t at → Refused zs cs t (Unreadable at)
  number : {d : Draft} {at : ℕ} → Formed t d → FirstWrong (numbers_of d) at → Refused zs cs t (NoSuchField at)
  tag : {d : Draft} {bracket : ℕ} → Fitting t d → d.tags.refused ≡ Some bracket → Refused zs cs t (CriticalTag bracket)
  zone : {d : Draft} → Tagged t d → NoneBears zs.name zs.count (part_of t d.name) → Refused zs cs t (UnknownZone d.name.from)
  calendar : {d : Draft} {z : ℕ} → Zoned zs t d z → NoneBears cs.name cs.count (calendar_meant t d.tags.calendar)
      → Refused zs cs t (UnknownCalendar (calendar_place t d.tags.calendar))
  range : {d : Draft} {z : ℕ} {i : ℤ} → Settled zs cs t d z i → (IsInstant i → ⊥) → Refused zs cs t InstantOut
  blank : {d : Draft} {z cause depth : ℕ} {i : ℤ} → Settled zs cs t d z i → IsInstant i → zs.value z (second_of i) ≡ Blank cause depth
      → Refused zs cs t (NoOffset cause depth)
  denied : {d : Draft} {z : ℕ} {i : ℤ} {said : Said} → Settled zs cs t d z i → Known (zs.value z) i → d.offset ≡ Some said
      → said_seconds said ≢ offset (zs.value z (second_of i)) → Refused zs cs t (OffsetDenied said.sign)
