use Rattle.std.proofs.Common.{◌≡◌, ◌-◌}
use Rattle.zone_rule.specs.Steps.{change_in}
use Rattle.file_zone.specs.Blocks.{steps_from}
use Rattle.file_zone.specs.Telling.{first_in, steps_in}
use Rattle.file_zone.proofs.block.Block.next_change.Given as goal

abbrev pub invariant-loop-k : goal.invariant-loop-k
invariant-loop-k l =
    change_in (first_in l.self) (steps_in l.self) l.after l.before
    ≡ change_in l.offset (steps_from l.self.bytes.now l.self.times l.k (l.self.times - l.k)) l.after l.before
