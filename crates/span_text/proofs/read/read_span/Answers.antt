use Rattle.std.proofs.Common.{rules}
use Rattle.span_text.proofs.Answering.{lawful}
use Rattle.span_text.proofs.read.read_span.Goals as goal

pub returns : goal.returns
returns c = lawful c.args.text.now _ (search rules)

pub returns-in_err-read : goal.returns-in_err-read
returns-in_err-read c = lawful c.args.text.now _ (search rules)
