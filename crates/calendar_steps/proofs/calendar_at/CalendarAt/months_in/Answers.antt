use Rattle.std.proofs.Common.{◌≡◌, ap, ◌∙◌, arith, w32, to_z, of_z}
use Rattle.std.proofs.lemmas.Int.{ints}
use Rattle.calendar_steps.proofs.Asked.{answered}
use Rattle.calendar.specs.Calendars.{year_there}
use Rattle.calendar_steps.proofs.calendar_at.CalendarAt.months_in.Goals as goal

pub returns : goal.returns
returns g c =
    let s = g.C.CalendarSource.calendars c.args.self.now.source.now in
    let laws = (g.met.C.CalendarSource.lawful c.args.self.now.source.now).each c.args.self.now.number c.args.self.now.there in
    let k : to_z w32 (of_z w32 c.args.year) ≡ c.args.year = omega (arith, ints) in
    let e = answered s c.args.self.now.number (λ c'. year_there c' (to_z w32 (of_z w32 c.args.year))) (λ c'. c'.months (to_z w32 (of_z w32 c.args.year))) c.in-Some.months c.in-Some.ensures ∙ ap (s.calendar c.args.self.now.number).months k in
    let b = laws.some_months c.args.year c.requires.first c.requires.last in
    record { is = e; few = (omega arith, omega arith) }
