use Rattle.line_form.proofs.LineAnswers.{lawful}
use Rattle.line_form.proofs.line.read_line.Goals as goal

pub returns : goal.returns
returns c = lawful c.args.line.now _ c.read_within.ensures
