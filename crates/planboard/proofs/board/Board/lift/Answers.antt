use Rattle.std.proofs.Common.{Err, sym, ap, ◌∙◌, None}
use Rattle.std.proofs.lemmas.Result.{err_from_is_err_and}
use Rattle.board_law.specs.Boards.{lifted, lift, after}
use Rattle.board_law.proofs.Calls.{lifted_for}
use Rattle.board_law.proofs.Judging.{lifted_judged}
use Rattle.board_law.proofs.Meanings.{lifted_means}
use Rattle.planboard.specs.View.{view, sources}
use Rattle.planboard.proofs.Sames.{same_first}
use Rattle.planboard.proofs.Stored.{mark_refused, mark_accepted}
use Rattle.planboard.proofs.board.Board.lift.Goals as goal

pub returns-in_err-mark : goal.returns-in_err-mark
unfolding after
returns-in_err-mark g c =
    let src = sources g.Z.ZoneSource.zones g.C.CalendarSource.calendars c.args.self.now in
    let st = view c.args.self.now in
    let q = err_from_is_err_and c.from_residual.result c.from_residual.ensures.1 in
    let d = mark_refused src st c.args.slot (lift c.args.slot) (λ _. None) (lifted src st c.args.slot) (lifted_judged src st c.args.slot) (lifted_for src st c.args.slot) (sym c.mark_to_lift.ensures ∙ c.in_err-mark.was) (q.1 ∙ ap Err q.2) in
    record { answer = d.is; there = d.there; state = d.state; law = d.law; judged = d.judged; means = λ m e. d.is ∙ lifted_means src st c.args.slot m e; same = same_first c.args.self.now }

pub returns : goal.returns
unfolding after
returns g c =
    let src = sources g.Z.ZoneSource.zones g.C.CalendarSource.calendars c.args.self.now in
    let st = view c.args.self.now in
    let d = mark_accepted src st c.args.slot (lift c.args.slot) (λ _. None) (lifted src st c.args.slot) (lifted_judged src st c.args.slot) (lifted_for src st c.args.slot) (sym c.mark_to_lift.ensures ∙ c.in_ok-mark.was) c.store.ensures.state in
    record { answer = d.is; there = d.there; state = d.state; law = d.law; judged = d.judged; means = λ m e. d.is ∙ lifted_means src st c.args.slot m e; same = c.store.ensures.same }
