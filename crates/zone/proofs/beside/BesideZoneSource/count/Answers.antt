use Rattle.std.proofs.Common.{sym}
use Rattle.zone.specs.Joins.{counted}
use Rattle.zone.proofs.beside.BesideZoneSource.count.Goals as goal

pub returns : goal.returns
returns g c = rw (c.joined_count.ensures, c.count.ensures, c.count-2.ensures) (sym (counted (g.P.ZoneSource.zones c.args.self.now.first) (g.Q.ZoneSource.zones c.args.self.now.second)))
