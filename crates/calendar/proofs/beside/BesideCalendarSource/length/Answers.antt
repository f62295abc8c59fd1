use Rattle.std.proofs.Common.{◌∙◌}
use Rattle.std.proofs.lemmas.Int.{to_z-of_z}
use Rattle.calendar.specs.Calendars.{month_there}
use Rattle.calendar.specs.Joining.{joined}
use Rattle.calendar.proofs.Questions.{found_first, found_second, found_nowhere, asked_same, asked_nowhere}
use Rattle.calendar.proofs.beside.BesideCalendarSource.length.Goals as goal

pub returns-in-First : goal.returns-in-First
returns-in-First g c =
    let a = g.P.CalendarSource.calendars c.args.self.now.first in
    let b = g.Q.CalendarSource.calendars c.args.self.now.second in
    let same = found_first a b c.args.calendar c.in-First.k _ _ c.place_in.ensures c.in_ok-k.was c.in-First.is in
    let fyear = c.ranges.year in
    simp to_z-of_z at c.length.ensures ∙ asked_same a (joined a b) c.in-First.k c.args.calendar same (λ c'. month_there c' c.args.year c.args.month) (λ c'. c'.size c.args.year c.args.month)

pub returns-in-Second : goal.returns-in-Second
returns-in-Second g c =
    let a = g.P.CalendarSource.calendars c.args.self.now.first in
    let b = g.Q.CalendarSource.calendars c.args.self.now.second in
    let same = found_second a b c.args.calendar c.in-Second.k _ _ c.place_in.ensures c.in_ok-k.was c.in-Second.is in
    let fyear = c.ranges.year in
    simp to_z-of_z at c.length-in-Second.ensures ∙ asked_same b (joined a b) c.in-Second.k c.args.calendar same (λ c'. month_there c' c.args.year c.args.month) (λ c'. c'.size c.args.year c.args.month)

pub returns-in_err-k : goal.returns-in_err-k
returns-in_err-k g c =
    let a = g.P.CalendarSource.calendars c.args.self.now.first in
    let b = g.Q.CalendarSource.calendars c.args.self.now.second in
    c.from_residual.ensures ∙ asked_nowhere (joined a b) c.args.calendar (found_nowhere a b c.args.calendar _ c.place_in.ensures c.in_err-k.was) (λ c'. month_there c' c.args.year c.args.month) (λ c'. c'.size c.args.year c.args.month)
