use Rattle.names.specs.ZoneNamings.{zone_name_of}
use Rattle.zone_rule.proofs.Holding.{counted}
use Rattle.zone_rule.proofs.named_zone.NamedZoneZoneSource.count.Goals as goal

pub returns : goal.returns
returns g c = counted (zone_name_of c.args.self.now.name) (g.R.ZoneRule.told c.args.self.now.rule) _ c.count_of.ensures
