use Rattle.std.proofs.Common.{◌-ℤ◌, nat_abs}
use Rattle.local_times.proofs.Relations.{Walked}
use Rattle.local_times.proofs.zone_at.ZoneAt.meet_second.Given as goal

abbrev pub invariant-loop-at : goal.invariant-loop-at
invariant-loop-at g l = Walked ((g.Z.ZoneSource.zones l.self.source.now).value l.self.number) l.local l.at l.previous l.landing

abbrev pub decreases-loop-at : goal.decreases-loop-at
decreases-loop-at g l = nat_abs (l.end -ℤ l.at)
