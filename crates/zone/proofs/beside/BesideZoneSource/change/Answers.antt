use Rattle.std.proofs.Common.{arith}
use Rattle.std.proofs.lemmas.Int.{to_z-of_z}
use Rattle.zone.specs.Joining.{deepened, joined}
use Rattle.zone.proofs.Joins.{found_first, found_second, found_nowhere, change_like}
use Rattle.zone.proofs.beside.BesideZoneSource.change.Goals as goal

pub returns-in-First : goal.returns-in-First
returns-in-First g c =
    let a = g.P.ZoneSource.zones c.args.self.now.first in
    let b = g.Q.ZoneSource.zones c.args.self.now.second in
    let at = found_first a b c.args.zone c.in-First.k _ _ c.place_in.ensures c.in_ok-k.was c.in-First.is in
    change_like (deepened a) (joined a b) c.in-First.k c.args.zone at.there at.here c.args.after c.args.before c.deep_change.result at.zone (simp (to_z-of_z, c.ranges.after, c.ranges.before) at c.deep_change.ensures)

pub returns-in-Second : goal.returns-in-Second
returns-in-Second g c =
    let a = g.P.ZoneSource.zones c.args.self.now.first in
    let b = g.Q.ZoneSource.zones c.args.self.now.second in
    let at = found_second a b c.args.zone c.in-Second.k _ _ c.place_in.ensures c.in_ok-k.was c.in-Second.is in
    change_like (deepened b) (joined a b) c.in-Second.k c.args.zone at.there at.here c.args.after c.args.before c.deep_change-in-Second.result at.zone (simp (to_z-of_z, c.ranges.after, c.ranges.before) at c.deep_change-in-Second.ensures)

pub returns-in_err-k : goal.returns-in_err-k
returns-in_err-k g c =
    let a = g.P.ZoneSource.zones c.args.self.now.first in
    let b = g.Q.ZoneSource.zones c.args.self.now.second in
    let out = found_nowhere a b c.args.zone _ c.place_in.ensures c.in_err-k.was in
    rw c.from_residual.ensures (λ h. absurd (omega (arith, out, h)))
