use Rattle.calendar.specs.Joining.{joined}
use Rattle.calendar.proofs.Questions.{found_first, found_second, found_nowhere, name_same}
use Rattle.calendar.proofs.beside.BesideCalendarSource.name.Goals as goal

pub returns-in-First : goal.returns-in-First
returns-in-First g c =
    let a = g.P.CalendarSource.calendars c.args.self.now.first in
    let b = g.Q.CalendarSource.calendars c.args.self.now.second in
    let same = found_first a b c.args.calendar c.in-First.k _ _ c.place_in.ensures c.in_ok-k.was c.in-First.is in
    name_same a (joined a b) c.in-First.k c.args.calendar same _ c.name.ensures

pub returns-in-Second : goal.returns-in-Second
returns-in-Second g c =
    let a = g.P.CalendarSource.calendars c.args.self.now.first in
    let b = g.Q.CalendarSource.calendars c.args.self.now.second in
    let same = found_second a b c.args.calendar c.in-Second.k _ _ c.place_in.ensures c.in_ok-k.was c.in-Second.is in
    name_same b (joined a b) c.in-Second.k c.args.calendar same _ c.name-in-Second.ensures

pub returns-in_err-k : goal.returns-in_err-k
returns-in_err-k g c =
    let a = g.P.CalendarSource.calendars c.args.self.now.first in
    let b = g.Q.CalendarSource.calendars c.args.self.now.second in
    let out = found_nowhere a b c.args.calendar _ c.place_in.ensures c.in_err-k.was in
    rw c.from_residual.ensures out
