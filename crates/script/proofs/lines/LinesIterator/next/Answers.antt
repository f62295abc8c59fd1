use Rattle.std.proofs.Common.{ap, ◌∙◌}
use Rattle.script.specs.Scripts.{lines_of}
use Rattle.script.proofs.Cuts.{no_lines}
use Rattle.script.proofs.lines.LinesIterator.next.Goals as goal

pub returns-in_err-line-clause-steps : goal.returns-in_err-line-clause-steps
returns-in_err-line-clause-steps c =
    let none = ap lines_of c.in_err-line.ensures ∙ no_lines in
    rw c.from_residual.ensures (none, none)
