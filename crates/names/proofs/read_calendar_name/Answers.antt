use Rattle.names.proofs.NameAnswers.{lawful}
use Rattle.names.proofs.read_calendar_name.Goals as goal

pub returns : goal.returns
returns c = lawful c.args.name.now _ c.read_within.ensures
