use Rattle.std.proofs.Common.{arith, rules, pos}
use Rattle.std.proofs.lemmas.Iterator.{cases_from_all, YieldsList-from_slice}
use Rattle.zone_tables.specs.Rows.{IsBlankAt}
use Rattle.zone_tables.proofs.Blanks.{blank_decided}
use Rattle.zone_tables.proofs.bad_files.is_blank_throughout.Goals as goal

pub returns-then-all : goal.returns-then-all
returns-then-all g c =
    let z = g.Z.ZoneSource.zones c.args.source.now in
    let cases = cases_from_all _ _ _ (λ s. IsBlankAt z s) (λ s. IsBlankAt z s → ⊥) c.all.ensures.ran (YieldsList-from_slice _ c.iter.ensures.rest) (λ x q k. search rules) (λ x q k. search rules) in
    let all = rw c.if-all.true at cases in
    blank_decided z (g.met.Z.ZoneSource.lawful c.args.source.now) c.change.result c.is_none.result (search rules) c.change.ensures (all 0 (pos 0) (omega arith) (omega arith))
