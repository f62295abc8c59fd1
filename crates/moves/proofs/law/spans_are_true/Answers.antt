use Rattle.span_law.proofs.Answered.{spans_are_true}
use Rattle.moves.proofs.law.spans_are_true.Goals as goal

pub returns : goal.returns
returns c = spans_are_true
