use Rattle.std.proofs.Common.{◌≡◌, arith, w64, to_z, of_z}
use Rattle.std.proofs.lemmas.Int.{ints}
use Rattle.std.proofs.lemmas.Bool.Decides.{Decides-int_eq}
use Rattle.zone.proofs.Answered.{option_decided}
use Rattle.zone_tables.proofs.NextChange.{next_decided}
use Rattle.zone_tables.proofs.compare.is_next_change.Goals as goal

pub returns : goal.returns
returns g c =
    let after : to_z w64 (of_z w64 c.args.after) ≡ c.args.after = omega (arith, ints) in
    next_decided (g.Z.ZoneSource.zones c.args.source.now) 0 c.args.after _ c.change.result c.args.change c.eq.result (rw after at c.change.ensures) (rw c.eq.ensures (option_decided _ Decides-int_eq _ _))
