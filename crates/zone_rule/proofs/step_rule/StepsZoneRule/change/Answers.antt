use Rattle.std.proofs.Common.{arith}
use Rattle.std.proofs.lemmas.Int.{to_z-of_z}
use Rattle.zone_rule.specs.StepLaws.{told_change}
use Rattle.zone_rule.proofs.step_rule.StepsZoneRule.change.Goals as goal

pub returns : goal.returns
returns c = told_change c.args.self.now.offsets c.in_ok-offsets.offsets c.args.after c.args.before c.change.result c.in_ok-offsets.was (grind (arith, to_z-of_z))
