use Rattle.std.proofs.Common.{arith}
use Rattle.std.proofs.lemmas.Int.{to_z-of_z}
use Rattle.file_zone.proofs.Lookups.{offset_passed}
use Rattle.file_zone.proofs.block.Block.look_up.Goals as goal

pub returns : goal.returns
returns c = grind (arith, to_z-of_z, offset_passed)
