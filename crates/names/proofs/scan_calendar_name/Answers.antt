use Rattle.std.proofs.Common.{sym, subst}
use Rattle.reading.specs.Places.{Answers}
use Rattle.names.specs.Names.{CalendarName}
use Rattle.names.proofs.NameAnswers.{scan_answers}
use Rattle.names.proofs.scan_calendar_name.Goals as goal

pub returns-clause-grammar : goal.returns-clause-grammar
returns-clause-grammar c = subst (Answers CalendarName c.args.name.now) (sym c.read.ensures) (scan_answers c.args.name.now)
