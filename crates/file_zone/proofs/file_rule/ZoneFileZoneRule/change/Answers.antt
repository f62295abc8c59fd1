use Rattle.std.proofs.Common.{arith}
use Rattle.std.proofs.lemmas.Int.{to_z-of_z}
use Rattle.tzif.specs.File.{checked}
use Rattle.file_zone.specs.FileTells.{file_change, change_there}
use Rattle.file_zone.proofs.file_rule.ZoneFileZoneRule.change.Goals as goal

pub returns-in-Ok : goal.returns-in-Ok
returns-in-Ok c =
    let f = c.args.self.now.bytes.now in
    let there = change_there f c.in-Ok.block (checked f) c.args.after c.args.before c.in-Ok.ensures in
    file_change f c.args.after c.args.before c.next_change.result (grind (arith, to_z-of_z))
