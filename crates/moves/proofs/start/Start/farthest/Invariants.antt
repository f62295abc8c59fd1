use Rattle.std.proofs.Common.{◌≤◌}
use Rattle.moves.proofs.Farthest.{NoneFarther}
use Rattle.moves.proofs.start.Start.farthest.Given as goal

abbrev pub invariant-days : goal.invariant-days
invariant-days g l = (l.days ≤ 3652059) × NoneFarther ((g.Z.ZoneSource.zones l.self.zone.now.source.now).value l.self.zone.now.number) l.self.instant l.way l.b l.days

abbrev pub decreases-days : goal.decreases-days
decreases-days g l = l.days
