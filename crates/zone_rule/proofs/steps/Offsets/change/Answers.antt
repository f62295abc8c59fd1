use Rattle.std.proofs.Common.{arith}
use Rattle.std.proofs.lemmas.Int.{to_z-of_z}
use Rattle.zone_rule.proofs.Walks.{change_stop, change_here, change_step}
use Rattle.zone_rule.proofs.steps.Offsets.change.Goals as goal

pub returns-then-before-c : goal.returns-then-before-c
returns-then-before-c c = grind (arith, to_z-of_z, change_stop)

pub returns-then-alters : goal.returns-then-alters
returns-then-alters c = grind (arith, to_z-of_z, change_here)

pub loop-c-preserved : goal.loop-c-preserved
loop-c-preserved c = grind (arith, to_z-of_z, change_step)
