use Rattle.std.proofs.Common.{◌≡◌, drop}
use Rattle.zone_rule.specs.Steps.{change_in}
use Rattle.zone_rule.proofs.steps.Offsets.change.Given as goal

abbrev pub invariant-loop-c : goal.invariant-loop-c
invariant-loop-c l = change_in l.self.first l.self.changes.now l.after l.before ≡ change_in l.offset (drop l.c-index l.self.changes.now) l.after l.before
