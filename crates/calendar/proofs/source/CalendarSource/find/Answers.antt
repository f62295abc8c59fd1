use Rattle.std.proofs.Common.{rules}
use Rattle.std.proofs.lemmas.Iterator.{first_from_Range}
use Rattle.calendar.specs.Calendars.{Bears}
use Rattle.calendar.proofs.Answered.{found_is}
use Rattle.calendar.proofs.source.CalendarSource.find.Goals as goal

pub returns : goal.returns
returns g c =
    let s = g.Self.CalendarSource.calendars c.args.self.now in
    let n = c.args.name.now in
    found_is s n c.count.result c.find.result c.count.ensures
    (first_from_Range _ _ _ _ (λ i. Bears s i n) (λ i. Bears s i n → ⊥) c.find.ensures.ran (λ x q k. search rules) (λ x q k. search rules))
