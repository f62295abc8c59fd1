use Rattle.std.proofs.Common.{true, ◌∙◌}
use Rattle.calendar.specs.Joining.{joined}
use Rattle.calendar.proofs.Questions.{found_first, found_second, found_nowhere, asked_same, asked_nowhere}
use Rattle.calendar.proofs.beside.BesideCalendarSource.first_year.Goals as goal

pub returns-in-First : goal.returns-in-First
returns-in-First g c =
    let a = g.P.CalendarSource.calendars c.args.self.now.first in
    let b = g.Q.CalendarSource.calendars c.args.self.now.second in
    let same = found_first a b c.args.calendar c.in-First.k _ _ c.place_in.ensures c.in_ok-k.was c.in-First.is in
    c.first_year.ensures ∙ asked_same a (joined a b) c.in-First.k c.args.calendar same (λ _. true) (λ c'. c'.first)

pub returns-in-Second : goal.returns-in-Second
returns-in-Second g c =
    let a = g.P.CalendarSource.calendars c.args.self.now.first in
    let b = g.Q.CalendarSource.calendars c.args.self.now.second in
    let same = found_second a b c.args.calendar c.in-Second.k _ _ c.place_in.ensures c.in_ok-k.was c.in-Second.is in
    c.first_year-in-Second.ensures ∙ asked_same b (joined a b) c.in-Second.k c.args.calendar same (λ _. true) (λ c'. c'.first)

pub returns-in_err-k : goal.returns-in_err-k
returns-in_err-k g c =
    let a = g.P.CalendarSource.calendars c.args.self.now.first in
    let b = g.Q.CalendarSource.calendars c.args.self.now.second in
    c.from_residual.ensures ∙ asked_nowhere (joined a b) c.args.calendar (found_nowhere a b c.args.calendar _ c.place_in.ensures c.in_err-k.was) (λ _. true) (λ c'. c'.first)
