use Rattle.span_law.proofs.Answered.{spans_true_over}
use Rattle.moves.proofs.law.spans_are_true_over.Goals as goal

pub returns : goal.returns
returns g c =
    spans_true_over (g.Z.ZoneSource.zones c.args._zones.now) (g.C.CalendarSource.calendars c.args._calendars.now)
    (g.met.Z.ZoneSource.lawful c.args._zones.now) (g.met.C.CalendarSource.lawful c.args._calendars.now)
