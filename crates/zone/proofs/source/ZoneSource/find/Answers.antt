use Rattle.std.proofs.Common.{rules}
use Rattle.std.proofs.lemmas.Iterator.{first_from_Range}
use Rattle.zone.specs.Zones.{Bears}
use Rattle.zone.proofs.Answered.{found_is}
use Rattle.zone.proofs.source.ZoneSource.find.Goals as goal

pub returns : goal.returns
returns g c =
    let z = g.Self.ZoneSource.zones c.args.self.now in
    let n = c.args.name.now in
    found_is z n c.count.result c.find.result c.count.ensures
    (first_from_Range _ _ _ _ (λ i. Bears z i n) (λ i. Bears z i n → ⊥) c.find.ensures.ran (λ x q k. search rules) (λ x q k. search rules))
