use Rattle.std.proofs.Common.{◌∙◌}
use Rattle.mark_text.proofs.Forms.{form_told}
use Rattle.mark_text.proofs.Judging.{accepted, refused}
use Rattle.mark_text.proofs.Refusing.{refused_read}
use Rattle.mark_text.proofs.Told.{told_read}
use Rattle.mark_text.proofs.read.read_mark.Goals as goal

pub returns-clause-form : goal.returns-clause-form
returns-clause-form g c = form_told (g.Z.ZoneSource.zones c.args.zones.now) (g.C.CalendarSource.calendars c.args.calendars.now) c.args.text.now c.mark_of.result c.mark_of.ensures

pub returns-clause-meaning : goal.returns-clause-meaning
returns-clause-meaning g c = accepted (g.Z.ZoneSource.zones c.args.zones.now) (g.C.CalendarSource.calendars c.args.calendars.now) c.args.text.now c.mark_of.result c.mark_of.ensures

pub returns-clause-refused : goal.returns-clause-refused
returns-clause-refused g c = refused (g.Z.ZoneSource.zones c.args.zones.now) (g.C.CalendarSource.calendars c.args.calendars.now) c.args.text.now c.mark_of.result c.mark_of.ensures

pub returns-clause-told : goal.returns-clause-told
returns-clause-told g c m says =
    let zs = g.Z.ZoneSource.zones c.args.zones.now in
    let cs = g.C.CalendarSource.calendars c.args.calendars.now in
    c.mark_of.ensures ∙ told_read zs cs c.args.text.now m says

pub returns-clause-refuses : goal.returns-clause-refuses
returns-clause-refuses g c fault h =
    let zs = g.Z.ZoneSource.zones c.args.zones.now in
    let cs = g.C.CalendarSource.calendars c.args.calendars.now in
    c.mark_of.ensures ∙ refused_read zs cs c.args.text.now fault h
