-- The mark that a text says over two sources, or why it says none.
use Rattle.std.specs.Prelude.{ℕ, cond, List, length, ℤ, Some, None, Ok, Err, codes, Option, Result, ok_or}
use Rattle.timebase.specs.declared.fault.Fault.{Fault}
use Rattle.timebase.specs.declared.fault.Fault.TheVariants.{Unreadable, CriticalTag, UnknownZone, UnknownCalendar, OffsetDenied}
use Rattle.reading.specs.declared.Misread.{Misread}
use Rattle.zone.specs.Zones.{Zones}
use Rattle.calendar.specs.Calendars.{Calendars}
use Rattle.local_times.specs.Chains.{◌>>=◌}
use Rattle.local_times.specs.Locals.{offset_at}
use Rattle.local_times.specs.Meeting.{is}
use Rattle.mark_form.specs.declared.draft.Said.{Said}
use Rattle.mark_form.specs.declared.layout.Part.{Part}
use Rattle.mark_form.specs.declared.layout.Tags.{Tags}
use Rattle.mark_form.specs.Drafts.{read_draft}
use Rattle.mark_trip.specs.RoundTrip.{part_of}
use Rattle.mark_text.specs.declared.mark.Mark.{Mark}
use Rattle.mark_text.specs.Fields.{fields_said, instant_said}
use Rattle.mark_text.specs.Marks.{number_of}

-- what is found, where the text is in form
abbrev pub or_unreadable : {V : Type 0} → Result V Misread → Result V Fault
or_unreadable (Ok v) = Ok v
or_unreadable (Err m) = Err (Unreadable m.at)

-- no tag is refused
abbrev pub tags_said : Tags → Result (Unit {0}) Fault
tags_said g = elim g.refused [ None ↦ Ok tt | Some bracket ↦ Err (CriticalTag bracket) ]

-- the zone that bears the name in brackets
abbrev pub zone_said : Zones → List ℕ → Part → Result ℕ Fault
zone_said zs t p = ok_or (number_of zs.name zs.count (part_of t p)) (UnknownZone p.from)

-- the calendar's name that a text means: the value of the first u-ca, or iso8601 where there is none
abbrev pub calendar_meant : List ℕ → Option Part → List ℕ
calendar_meant t None = codes "iso8601"
calendar_meant t (Some p) = part_of t p

-- where it stands: at the value's first byte, or past the text
abbrev pub calendar_place : List ℕ → Option Part → ℕ
calendar_place t None = length t
calendar_place t (Some p) = p.from

abbrev pub calendar_said : Calendars → List ℕ → Option Part → Result ℕ Fault
calendar_said cs t value = ok_or (number_of cs.name cs.count (calendar_meant t value)) (UnknownCalendar (calendar_place t value))

-- an offset that is said must be the zone's; the refusal tells the sign
abbrev pub agreed : Option ℤ → ℤ → Option Said → Result (Unit {0}) Fault
agreed None offset said = Ok tt
agreed (Some o) offset None = Ok tt
agreed (Some o) offset (Some said) = cond (is o offset) (Ok tt) (Err (OffsetDenied said.sign))

-- the whole, in the order of the refusals
abbrev pub read_answer : Zones → Calendars → List ℕ → Result Mark Fault
read_answer zs cs t =
    or_unreadable (read_draft t) >>= λ d.
    fields_said d >>= λ f.
    tags_said d.tags >>= λ _.
    zone_said zs t d.name >>= λ z.
    calendar_said cs t d.tags.calendar >>= λ k.
    offset_at (zs.value z) (instant_said f) >>= λ o.
    agreed f.offset o d.offset >>= λ _.
    Ok (record { instant = instant_said f; zone = z; calendar = k })
