use Rattle.std.proofs.Common.{refl, arith, w64, to_z, of_z}
use Rattle.std.proofs.lemmas.Int.{to_z-of_z}
use Rattle.names.specs.ZoneNamings.{zone_name_of}
use Rattle.zone_rule.proofs.Holding.{out, change_is}
use Rattle.zone_rule.proofs.named_zone.NamedZoneZoneSource.change.Goals as goal

pub returns-in_err-rule : goal.returns-in_err-rule
returns-in_err-rule g c =
    let far = out (zone_name_of c.args.self.now.name) (g.R.ZoneRule.told c.args.self.now.rule) c.args.zone _ refl (c.in_err-rule.ensures) in
    rw c.from_residual.ensures (λ h. absurd (omega (arith, far, h)))

pub returns : goal.returns
returns g c =
    let in_ok = c.in_ok-rule.ensures in
    change_is (zone_name_of c.args.self.now.name) (g.R.ZoneRule.told c.args.self.now.rule) c.args.zone _ refl c.args.after c.args.before (to_z w64 (of_z w64 c.cut_low.result)) (to_z w64 (of_z w64 c.cut_high.result)) _ in_ok.0 (rw (← in_ok.1) c.change.ensures) (grind (arith, to_z-of_z)) (grind (arith, to_z-of_z))
