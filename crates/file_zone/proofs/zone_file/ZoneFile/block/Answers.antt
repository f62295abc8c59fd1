use Rattle.std.proofs.Common.{sym, ◌∙◌}
use Rattle.file_zone.specs.GoodBlocks.{found}
use Rattle.file_zone.proofs.zone_file.ZoneFile.block.Goals as goal

pub part-requires : goal.part-requires
part-requires c = (found c.args.self.now.bytes.now c.in-Ok.layout (sym c.args.self.now.judged ∙ c.in-Ok.is)).0

pub invariant_of-result : goal.invariant_of-result
invariant_of-result c =
    record { good = rw c.part.ensures (found c.args.self.now.bytes.now c.in-Ok.layout (sym c.args.self.now.judged ∙ c.in-Ok.is)).1 }
