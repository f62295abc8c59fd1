use Rattle.std.proofs.Common.{◌≡◌, Decides, sym, subst, arith, w32, to_z, of_z}
use Rattle.std.proofs.lemmas.Int.{ints}
use Rattle.calendar.specs.declared.question.Question.{Question}
use Rattle.calendar.specs.Questions.{Alike}
use Rattle.calendar.proofs.Answered.{name_decided, month_decided}
use Rattle.calendar.proofs.alike.answer_alike.Goals as goal

pub returns-in-Name-clause-decides : goal.returns-in-Name-clause-decides
returns-in-Name-clause-decides g c =
    let y = g.P.CalendarSource.calendars c.args.first.now in
    let z = g.Q.CalendarSource.calendars c.args.second.now in
    subst (λ (q : Question). Decides c.eq.result (Alike y z q)) (sym c.in-Name.is)
    (name_decided y z c.in-Name.calendar _ _ _ c.name.ensures c.name-in-Name.ensures c.eq.ensures)

pub returns-in-Twin-clause-decides : goal.returns-in-Twin-clause-decides
returns-in-Twin-clause-decides g c =
    let y = g.P.CalendarSource.calendars c.args.first.now in
    let z = g.Q.CalendarSource.calendars c.args.second.now in
    let year : to_z w32 (of_z w32 c.in-Twin.year) ≡ c.in-Twin.year = omega (arith, ints) in
    let other : to_z w32 (of_z w32 c.in-Twin.other) ≡ c.in-Twin.other = omega (arith, ints) in
    subst (λ (q : Question). Decides c.eq-in-Twin.result (Alike y z q)) (sym c.in-Twin.is)
    (month_decided _ _ _ _ _ (rw (year, other) at c.twin.ensures) (rw (year, other) at c.twin-in-Twin.ensures) c.eq-in-Twin.ensures)
