use Rattle.std.proofs.Common.{◌≡◌, drop, None}
use Rattle.zone_rule.specs.Steps.{rising}
use Rattle.zone_rule.proofs.walk.rises.Given as goal

abbrev pub invariant-loop-c : goal.invariant-loop-c
invariant-loop-c l = rising None l.changes ≡ rising l.last (drop l.c-index l.changes)
