use Rattle.std.proofs.Common.{◌≡◌, ◌<◌, ℤ, pos, ◌-ℤ◌, nat_abs, ◌≤ℤ◌, ◌<ℤ◌}
use Rattle.zone.specs.Joining.{deepened}
use Rattle.zone.proofs.depth.deep_change.Given as goal

abbrev pub invariant-loop-s : goal.invariant-loop-s
invariant-loop-s g l =
    let z = deepened (g.Z.ZoneSource.zones l.source) in
    (l.after ≤ℤ l.from) × ((t : ℤ) → l.after <ℤ t → t ≤ℤ l.from → l.zone < z.count → z.value l.zone t ≡ z.value l.zone (t -ℤ pos 1))

abbrev pub decreases-loop-s : goal.decreases-loop-s
decreases-loop-s g l = nat_abs (l.before -ℤ l.from)
