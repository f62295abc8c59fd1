use Rattle.std.proofs.Common.{subst, Err, sym, ap, ◌∙◌, Some}
use Rattle.std.proofs.lemmas.Result.{err_from_is_err_and}
use Rattle.board_law.specs.Boards.{placed, place, after}
use Rattle.board_law.proofs.Calls.{placed_for}
use Rattle.board_law.proofs.Judging.{placed_judged}
use Rattle.board_law.specs.Meanings.{Placed}
use Rattle.board_law.proofs.Meanings.{placed_means}
use Rattle.planboard.specs.View.{view, sources}
use Rattle.planboard.proofs.Sames.{same_first}
use Rattle.planboard.proofs.Stored.{mark_refused, mark_accepted}
use Rattle.planboard.proofs.board.Board.place.Goals as goal

pub returns-in_err-mark : goal.returns-in_err-mark
unfolding after
returns-in_err-mark g c =
    let src = sources g.Z.ZoneSource.zones g.C.CalendarSource.calendars c.args.self.now in
    let st = view c.args.self.now in
    let q = err_from_is_err_and c.from_residual.result c.from_residual.ensures.1 in
    let d = mark_refused src st c.args.slot (place c.args.slot c.args.text.now) Some (placed src st c.args.slot c.args.text.now) (placed_judged src st c.args.slot c.args.text.now) (placed_for src st c.args.slot c.args.text.now) (sym c.mark_said.ensures ∙ c.in_err-mark.was) (q.1 ∙ ap Err q.2) in
    record { answer = d.is; there = d.there; state = d.state; law = d.law; judged = d.judged; means = λ on. subst (Placed src c.args.text.now) (sym d.is) (placed_means src st c.args.slot c.args.text.now on); same = same_first c.args.self.now }

pub returns : goal.returns
unfolding after
returns g c =
    let src = sources g.Z.ZoneSource.zones g.C.CalendarSource.calendars c.args.self.now in
    let st = view c.args.self.now in
    let d = mark_accepted src st c.args.slot (place c.args.slot c.args.text.now) Some (placed src st c.args.slot c.args.text.now) (placed_judged src st c.args.slot c.args.text.now) (placed_for src st c.args.slot c.args.text.now) (sym c.mark_said.ensures ∙ c.in_ok-mark.was) c.store.ensures.state in
    record { answer = d.is; there = d.there; state = d.state; law = d.law; judged = d.judged; means = λ on. subst (Placed src c.args.text.now) (sym d.is) (placed_means src st c.args.slot c.args.text.now on); same = c.store.ensures.same }
