use Rattle.std.proofs.Common.{Err, sym, subst, ap, ◌∙◌}
use Rattle.std.proofs.lemmas.Result.{err_from_is_err_and}
use Rattle.board_law.specs.Boards.{entered, enter, after}
use Rattle.board_law.proofs.Calls.{entered_for}
use Rattle.board_law.proofs.Judging.{entered_judged}
use Rattle.span_text.specs.Spans.{Answered}
use Rattle.board_law.proofs.Meanings.{entered_means}
use Rattle.planboard.specs.View.{view, sources}
use Rattle.planboard.proofs.Sames.{same_first}
use Rattle.planboard.proofs.Stored.{span_refused, span_accepted}
use Rattle.planboard.proofs.board.Board.enter.Goals as goal

pub returns-in_err-span : goal.returns-in_err-span
unfolding after
returns-in_err-span g c =
    let src = sources g.Z.ZoneSource.zones g.C.CalendarSource.calendars c.args.self.now in
    let st = view c.args.self.now in
    let q = err_from_is_err_and c.from_residual.result c.from_residual.ensures.1 in
    let d = span_refused src st c.args.slot (enter c.args.slot c.args.text.now) (entered src st c.args.slot c.args.text.now) (entered_judged src st c.args.slot c.args.text.now) (entered_for src st c.args.slot c.args.text.now) (sym c.span_said.ensures ∙ c.in_err-span.was) (q.1 ∙ ap Err q.2) in
    record { answer = d.is; there = d.there; state = d.state; law = d.law; judged = d.judged; means = λ on. subst (Answered c.args.text.now) (sym d.is) (entered_means src st c.args.slot c.args.text.now on); same = same_first c.args.self.now }

pub returns : goal.returns
unfolding after
returns g c =
    let src = sources g.Z.ZoneSource.zones g.C.CalendarSource.calendars c.args.self.now in
    let st = view c.args.self.now in
    let d = span_accepted src st c.args.slot (enter c.args.slot c.args.text.now) (entered src st c.args.slot c.args.text.now) (entered_judged src st c.args.slot c.args.text.now) (entered_for src st c.args.slot c.args.text.now) (sym c.span_said.ensures ∙ c.in_ok-span.was) c.store_span.ensures.state in
    record { answer = d.is; there = d.there; state = d.state; law = d.law; judged = d.judged; means = λ on. subst (Answered c.args.text.now) (sym d.is) (entered_means src st c.args.slot c.args.text.now on); same = c.store_span.ensures.same }
