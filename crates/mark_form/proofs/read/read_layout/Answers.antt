use Rattle.mark_form.proofs.Answering.{layout_lawful}
use Rattle.mark_form.proofs.read.read_layout.Goals as goal

pub returns : goal.returns
returns c = layout_lawful c.args.text.now _ c.read_within.ensures
