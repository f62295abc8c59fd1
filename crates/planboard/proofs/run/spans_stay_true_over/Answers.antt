use Rattle.board_law.proofs.Law.{spans_stay_true}
use Rattle.planboard.specs.View.{sources_of}
use Rattle.planboard.proofs.run.spans_stay_true_over.Goals as goal

pub returns : goal.returns
returns g c =
    spans_stay_true (sources_of (g.Z.ZoneSource.zones c.args._zones.now) (g.C.CalendarSource.calendars c.args._calendars.now))
    (record { zones = g.met.Z.ZoneSource.lawful c.args._zones.now; calendars = g.met.C.CalendarSource.lawful c.args._calendars.now })
