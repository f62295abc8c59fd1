use Rattle.std.proofs.Common.{rules}
use Rattle.tzif.specs.Fields.{number8, second8}
use Rattle.file_zone.proofs.lookup.second.Goals as goal

pub returns : goal.returns
unfolding number8 second8
returns c = search rules
