use Rattle.std.proofs.Common.{refl}
use Rattle.names.specs.ZoneNamings.{zone_name_of}
use Rattle.zone_rule.proofs.Holding.{out, name_is}
use Rattle.zone_rule.proofs.named_zone.NamedZoneZoneSource.name.Goals as goal

pub returns-in_err-_rule : goal.returns-in_err-_rule
returns-in_err-_rule g c =
    let far = out (zone_name_of c.args.self.now.name) (g.R.ZoneRule.told c.args.self.now.rule) c.args.zone _ refl (c.in_err-_rule.ensures) in
    rw c.from_residual.ensures far

pub returns : goal.returns
returns g c =
    let in_ok = c.in_ok-_rule.ensures in
    name_is (zone_name_of c.args.self.now.name) (g.R.ZoneRule.told c.args.self.now.rule) c.args.zone _ refl c.bytes.result in_ok.0 c.bytes.ensures
