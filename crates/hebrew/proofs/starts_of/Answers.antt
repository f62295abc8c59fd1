use Rattle.std.proofs.Common.{◌∙◌, arith}
use Rattle.hebrew.specs.Tishri.{year_days}
use Rattle.hebrew.proofs.Told.{starts}
use Rattle.hebrew.proofs.starts_of.Goals as goal

pub returns : goal.returns
returns c =
    let b = starts c.args.year _ _ _ _ (omega arith) c.new_year-before.ensures.is c.new_year-here.ensures.is c.new_year-next.ensures.is c.new_year-after.ensures.is in
    let this = c.postpone.ensures.is ∙ b.0 in
    let next = c.postpone-2.ensures.is ∙ b.1 in
    let d = year_days c.args.year c.requires.0 c.requires.1 in
    record { this = this; next = next; fits = c.postpone.ensures.fits; order = omega arith; few = omega arith }
