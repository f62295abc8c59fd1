use Rattle.board_law.proofs.Law.{spans_stay_true}
use Rattle.planboard.proofs.run.spans_stay_true.Goals as goal

pub returns : goal.returns
returns c = spans_stay_true
