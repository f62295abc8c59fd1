use Rattle.std.proofs.Common.{sym, subst}
use Rattle.reading.specs.Places.{Answers}
use Rattle.names.specs.ZoneNames.{IsZoneName}
use Rattle.names.proofs.ZoneAnswers.{scan_answers}
use Rattle.names.proofs.zone_form.scan_zone_name.Goals as goal

pub returns-clause-grammar : goal.returns-clause-grammar
returns-clause-grammar c = subst (Answers IsZoneName c.args.name.now) (sym c.read.ensures) (scan_answers c.args.name.now)
