use Rattle.calendar.proofs.Ordered.{told}
use Rattle.calendar.proofs.order.comes_before.Goals as goal

pub returns : goal.returns
returns g c = told (g.S.CalendarSource.calendars c.args.source.now) (g.met.S.CalendarSource.lawful c.args.source.now) c.args.calendar c.args.date c.args.other _ _ c.in_ok-first.ensures c.in_ok-second.ensures
