use Rattle.std.proofs.Common.{sym, ◌∙◌}
use Rattle.calendar.specs.Joins.{counted}
use Rattle.calendar.proofs.beside.BesideCalendarSource.count.Goals as goal

pub returns : goal.returns
returns g c =
    let a = g.P.CalendarSource.calendars c.args.self.now.first in
    let b = g.Q.CalendarSource.calendars c.args.self.now.second in
    simp (c.count.ensures, c.count-2.ensures) at c.joined_count.ensures ∙ sym (counted a b)
