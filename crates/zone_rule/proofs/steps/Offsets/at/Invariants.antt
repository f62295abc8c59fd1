use Rattle.std.proofs.Common.{◌≡◌, drop}
use Rattle.zone_rule.specs.Steps.{offset_at}
use Rattle.zone_rule.proofs.steps.Offsets.at.Given as goal

abbrev pub invariant-loop-c : goal.invariant-loop-c
invariant-loop-c l = offset_at l.self.first l.self.changes.now l.second ≡ offset_at l.offset (drop l.c-index l.self.changes.now) l.second
