use Rattle.std.proofs.Common.{◌≡◌, Some, sym, subst}
use Rattle.span_law.specs.declared.way.Way.{Way}
use Rattle.span_law.specs.Stepping.{months_on}
use Rattle.calendar_steps.proofs.Climbs.{months_back}
use Rattle.calendar_steps.proofs.calendar_at.CalendarAt.months_along.Goals as goal

pub returns-in-Back : goal.returns-in-Back
returns-in-Back g c =
    let k = (g.C.CalendarSource.calendars c.args.self.now.source.now).calendar c.args.self.now.number in
    let laws = (g.met.C.CalendarSource.lawful c.args.self.now.source.now).each c.args.self.now.number c.args.self.now.there in
    let h = months_back k laws c.months_up-in-Back.result c.args.to c.args.from c.requires.to c.months_up-in-Back.ensures.is in
    record { is = subst (λ (w : Way). months_on k w c.months_up-in-Back.result c.args.from ≡ Some c.args.to) (sym c.in-Back.is) h; few = c.months_up-in-Back.ensures.few }
