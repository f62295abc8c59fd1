use Rattle.std.proofs.Common.{ℕ, List, Result, IfOk, sym, ◌∙◌, subst}
use Rattle.timebase.specs.declared.fault.Fault.{Fault}
use Rattle.timebase.specs.declared.fault.Fault.TheVariants.{UnknownZone}
use Rattle.mark_text.specs.Marks.{Lowest}
use Rattle.mark_text.proofs.Lookups.{answers, lowest_is}
use Rattle.mark_text.proofs.lookup.find_zone.Goals as goal

pub returns : goal.returns
returns g c =
    let zs = g.Z.ZoneSource.zones c.args.zones.now in
    let n = c.part_of.result.now in
    record {
      value = c.ok_or.ensures.value ∙ answers zs.name zs.count n _ c.find-found.result (UnknownZone c.args.name.from) c.part_of.ensures c.find-found.ensures;
      lowest = subst (λ (m : List ℕ). IfOk c.ok_or.result (Lowest zs.name zs.count m)) c.part_of.ensures
          (subst (λ (r : Result ℕ Fault). IfOk r (Lowest zs.name zs.count n)) (sym c.ok_or.ensures.value) (lowest_is zs.name n zs.count c.find-found.result c.find-found.ensures (UnknownZone c.args.name.from)));
    }
