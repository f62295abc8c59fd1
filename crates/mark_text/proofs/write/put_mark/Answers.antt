use Rattle.std.proofs.Common.{sym}
use Rattle.mark_writing.specs.Canonical.{mark_text}
use Rattle.mark_text.proofs.Texts.{text_of}
use Rattle.mark_text.proofs.There.{is_there, not_there}
use Rattle.mark_text.proofs.write.put_mark.Goals as goal

pub returns-in_default-clause-value : goal.returns-in_default-clause-value
returns-in_default-clause-value g c = sym (not_there (g.Z.ZoneSource.zones c.args.zones.now) (g.C.CalendarSource.calendars c.args.calendars.now) c.args.mark.now c.in_default.ensures)

pub returns-clause-value : goal.returns-clause-value
returns-clause-value g c = sym (is_there (g.Z.ZoneSource.zones c.args.zones.now) (g.C.CalendarSource.calendars c.args.calendars.now) c.args.mark.now c.in-Some.ensures.0)

pub returns-clause-there : goal.returns-clause-there
returns-clause-there g c there =
    let zs = g.Z.ZoneSource.zones c.args.zones.now in
    let cs = g.C.CalendarSource.calendars c.args.calendars.now in
    let s = c.in-Some.stamp in
    record {
      text = mark_text s;
      of_mark = text_of zs cs c.args.mark.now s (g.met.Z.ZoneSource.lawful c.args.zones.now) (g.met.C.CalendarSource.lawful c.args.calendars.now) there c.in-Some.ensures.1;
      puts = c.put_stamp.ensures;
    }
