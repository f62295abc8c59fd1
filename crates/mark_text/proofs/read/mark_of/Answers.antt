use Rattle.std.proofs.Common.{◌≡◌, ℤ, Err, sym, ap, ◌∙◌, arith}
use Rattle.mark_text.proofs.Parts.{sign_fits, draft_name, calendar_inside}
use Rattle.std.proofs.Common.{w64, to_z, of_z}
use Rattle.std.proofs.lemmas.Int.{ints}
use Rattle.std.proofs.lemmas.Result.{err_from_is_err_and}
use Rattle.local_times.specs.Locals.{offset_at}
use Rattle.mark_text.specs.Reading.{agreed}
use Rattle.mark_text.proofs.Answered.{answered}
use Rattle.mark_text.proofs.read.mark_of.Goals as goal

pub read_fields-requires : goal.read_fields-requires
read_fields-requires g c = sign_fits c.args.text.now c.in_ok-draft.draft c.in_ok-draft.ensures.law.0

pub find_zone-requires : goal.find_zone-requires
find_zone-requires g c =
    let n = draft_name c.args.text.now c.in_ok-draft.draft c.in_ok-draft.ensures.law.0 in
    record { rises = n.0; inside = omega (arith, n.1) }

pub find_calendar-requires : goal.find_calendar-requires
find_calendar-requires g c =
    let n = draft_name c.args.text.now c.in_ok-draft.draft c.in_ok-draft.ensures.law.0 in
    calendar_inside c.args.text.now c.in_ok-draft.draft.name.to c.in_ok-draft.draft.tags n.1 c.in_ok-draft.ensures.tags

pub overflow_cast-result : goal.overflow_cast-result
overflow_cast-result g c =
    let few = (g.met.Z.ZoneSource.lawful c.args.zones.now).few in
    let there = c.in_ok-zone.ensures.lowest.there in
    omega (arith, few, there)

pub returns-in_err-check_offset : goal.returns-in_err-check_offset
returns-in_err-check_offset g c =
    let zs = g.Z.ZoneSource.zones c.args.zones.now in
    let cs = g.C.CalendarSource.calendars c.args.calendars.now in
    let t = c.args.text.now in
    let d = c.in_ok-draft.draft in
    let f = c.in_ok-fields.fields in
    let z = c.in_ok-zone.zone in
    let o = c.in_ok-offset.offset in
    let i = c.instant_of-instant.result in
    let e = c.in_err-check_offset.field-0.0 in
    let ei : to_z w64 (of_z w64 i) ≡ i = omega (arith, ints) in
    let eo : to_z w64 (of_z w64 o) ≡ o = omega (arith, ints) in
    let q = err_from_is_err_and c.from_residual-in_err-check_offset.result c.from_residual-in_err-check_offset.ensures.1 in
    q.1 ∙ ap Err q.2
    ∙ sym (answered zs cs t d f z c.in_ok-calendar.calendar o (Err e) (sym c.in_ok-draft.ensures.value) (sym c.in_ok-fields.ensures.value) (sym c.in_ok-check_tags.ensures) (sym c.in_ok-zone.ensures.value) (sym c.in_ok-calendar.ensures.value)
    (ap (offset_at (zs.value z)) (sym (ei ∙ c.instant_of-instant.ensures)) ∙ sym c.in_ok-offset.ensures)
    (ap (λ (x : ℤ). agreed f.offset x d.offset) (sym eo) ∙ sym c.in_err-check_offset.ensures))
