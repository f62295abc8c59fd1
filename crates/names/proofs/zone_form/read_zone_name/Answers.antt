use Rattle.names.proofs.ZoneAnswers.{lawful}
use Rattle.names.proofs.zone_form.read_zone_name.Goals as goal

pub returns : goal.returns
returns c = lawful c.args.name.now _ c.read_within.ensures
