use Rattle.std.proofs.Common.{◌≡◌, ◌∙◌}
use Rattle.zone.specs.Zones.{offset}
use Rattle.local_times.specs.Locals.{second_of}
use Rattle.mark_text.proofs.There.{found_there}
use Rattle.mark_text.proofs.write.is_there.Goals as goal

pub returns-clause-value : goal.returns-clause-value
returns-clause-value g c =
    let zs = g.Z.ZoneSource.zones c.args.zones.now in
    let cs = g.C.CalendarSource.calendars c.args.calendars.now in
    c.is_some.ensures ∙ found_there zs cs c.args.mark.now (λ o. o ≡ offset (zs.value c.args.mark.now.zone (second_of c.args.mark.now.instant))) c.offset_of.result c.offset_of.ensures
