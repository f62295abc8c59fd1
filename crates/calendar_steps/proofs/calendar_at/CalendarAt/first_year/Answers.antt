use Rattle.std.proofs.Common.{◌≡◌, true, ◌∙◌, arith, w32, to_z, of_z}
use Rattle.std.proofs.lemmas.Int.{ints}
use Rattle.calendar_steps.proofs.Asked.{answered}
use Rattle.calendar_steps.proofs.calendar_at.CalendarAt.first_year.Goals as goal

pub returns : goal.returns
returns g c =
    let s = g.C.CalendarSource.calendars c.args.self.now.source.now in
    let laws = (g.met.C.CalendarSource.lawful c.args.self.now.source.now).each c.args.self.now.number c.args.self.now.there in
    let b = laws.lowest in
    let e = answered s c.args.self.now.number (λ _. true) (λ c. c.first) c.in-Some.year c.in-Some.ensures in
    let k : to_z w32 (of_z w32 c.in-Some.year) ≡ c.in-Some.year = omega (arith, ints) in
    record { is = k ∙ e; low = omega (arith, ints) }
