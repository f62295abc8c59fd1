-- A text that says a mark is read as that mark.
use Rattle.std.proofs.Common.{◌≡◌, ℕ, ◌+◌, ◌*◌, ◌++◌, List, ℤ, Some, None, Ok, Err, Option, Result, sym, refl, ap, ◌∙◌, arith}
use Rattle.std.proofs.lemmas.Bool.{cond-true}
use Rattle.timebase.specs.declared.fault.Fault.{Fault}
use Rattle.timebase.specs.declared.fault.Fault.TheVariants.{OffsetDenied}
use Rattle.years.specs.Days.{HasDate}
use Rattle.iso8601.specs.Gregorian.{gregorian_years}
use Rattle.zone.specs.Zones.{Zone, Zones, offset}
use Rattle.calendar.specs.Calendars.{Calendars}
use Rattle.local_times.specs.Chains.{◌>>=◌}
use Rattle.local_times.specs.Meeting.{is}
use Rattle.local_times.specs.Locals.{second_of, offset_at}
use Rattle.mark_form.specs.declared.draft.Draft.{Draft}
use Rattle.mark_form.specs.declared.draft.Said.{Said}
use Rattle.mark_form.proofs.Answering.{draft_reads}
use Rattle.mark_trip.specs.RoundTrip.{said_seconds}
use Rattle.mark_text.specs.declared.fields.Fields.{Fields}
use Rattle.mark_text.specs.declared.mark.Mark.{Mark}
use Rattle.mark_text.specs.Fields.{date_of, offset_said, fields_said, instant_said}
use Rattle.mark_text.specs.Meanings.{InstantSaid, Agreed, Says}
use Rattle.mark_text.specs.Ranges.{AllFit, date_numbers, clock_numbers, offset_numbers, numbers_of}
use Rattle.mark_text.specs.Reading.{agreed, read_answer}
use Rattle.mark_text.proofs.Answered.{answered}
use Rattle.mark_text.proofs.Dates.{numbered}
use Rattle.mark_text.proofs.Ranges.{all_parts}
use Rattle.mark_text.proofs.Tells.{said_shift, instant_is}
use Rattle.mark_text.proofs.Trips.{tags_by, day_by, shift_by, fields_by, zone_by, calendar_by, same_is, known_offset}

offset_ok : (o : Option Said) → AllFit (offset_numbers o) → offset_said o ≡ Ok (said_shift o)
offset_ok None h = refl
offset_ok (Some said) h = ap (λ (r : Result ℤ Fault). r >>= λ z. Ok (Some z)) (shift_by said (omega (arith, h.0)) (omega (arith, h.1.0)) (omega (arith, h.1.1.0)))

-- what the fields of a text come to whose date is that of a day
abbrev pub fields_on : Draft → ℕ → Fields
fields_on d n = record { day = n; clock = d.hour * 3600 + d.minute * 60 + d.second; micros = d.micros; offset = said_shift d.offset }

pub fields_ok : (d : Draft) (n : ℕ) → HasDate gregorian_years n (date_of d) → AllFit (numbers_of d) → fields_said d ≡ Ok (fields_on d n)
fields_ok d n date fit =
    let p = all_parts (date_numbers d) (clock_numbers 11 d.hour d.minute d.second ++ offset_numbers d.offset) fit in
    let q = all_parts (clock_numbers 11 d.hour d.minute d.second) (offset_numbers d.offset) p.1 in
    let c = q.0 in
    fields_by d n (said_shift d.offset) (day_by d n (numbered n (date_of d) date)) (omega (arith, c.0)) (omega (arith, c.1.0)) (omega (arith, c.1.1.0)) (offset_ok d.offset q.1)

-- and their instant
pub instant_ok : (d : Draft) (i : ℤ) (x : InstantSaid d i) → instant_said (fields_on d x.number) ≡ i
instant_ok d i x = instant_is d (fields_on d x.number) refl refl refl ∙ sym x.is

agrees : (zone : Zone) (i : ℤ) (o : Option Said) → Agreed zone i o → agreed (said_shift o) (offset (zone (second_of i))) o ≡ Ok tt
agrees zone i None h = refl
agrees zone i (Some said) h = let o = offset (zone (second_of i)) in cond-true (is (said_seconds said) o) (Ok tt) (Err (OffsetDenied said.sign)) (same_is (said_seconds said) o h)

pub told_read : (zs : Zones) (cs : Calendars) (t : List ℕ) (m : Mark) → Says zs cs t m → read_answer zs cs t ≡ Ok m
told_read zs cs t m x =
    let d = x.draft in
    let f = zs.value m.zone in
    let i = instant_ok d m.instant x.instant in
    answered zs cs t d (fields_on d x.instant.number) m.zone m.calendar (offset (f (second_of m.instant))) (Ok tt) (draft_reads t d x.tagged.fitting.formed.text x.tagged.fitting.formed.short)
    (fields_ok d x.instant.number x.instant.date x.tagged.fitting.fit)
    (tags_by d.tags None x.tagged.unrefused)
    (zone_by zs t d.name m.zone x.there.zone (sym x.zone))
    (calendar_by cs t d.tags.calendar m.calendar x.there.calendar (sym x.calendar))
    (ap (offset_at f) i ∙ known_offset f m.instant x.there.known)
    (agrees f m.instant d.offset x.agreed)
    ∙ ap (λ (i : ℤ). Ok (record { instant = i; zone = m.zone; calendar = m.calendar })) i
