use Rattle.std.proofs.Common.{Err, Result, IfOk, sym, subst, ap, ◌∙◌}
use Rattle.std.proofs.lemmas.Result.{err_from_is_err_and}
use Rattle.timebase.specs.declared.fault.Fault.{Fault}
use Rattle.timebase.specs.declared.span.Span.{Span}
use Rattle.board_law.specs.Boards.{measured, measure, after}
use Rattle.board_law.proofs.Calls.{measured_for}
use Rattle.board_law.proofs.Judging.{measured_judged}
use Rattle.board_law.specs.Meanings.{MeasuredTo}
use Rattle.board_law.specs.Runs.{Lawful, TrueHere}
use Rattle.board_law.proofs.Law.{true_here}
use Rattle.board_law.proofs.Meanings.{measured_means}
use Rattle.planboard.specs.View.{view, sources}
use Rattle.planboard.proofs.Sames.{same_first}
use Rattle.planboard.proofs.Stored.{span_refused, span_accepted}
use Rattle.planboard.proofs.board.Board.measure.Goals as goal

pub returns-in_err-measured : goal.returns-in_err-measured
unfolding after
returns-in_err-measured g c =
    let src = sources g.Z.ZoneSource.zones g.C.CalendarSource.calendars c.args.self.now in
    let st = view c.args.self.now in
    let lawful : Lawful src = record { zones = g.met.Z.ZoneSource.lawful c.args.self.now.zones.now; calendars = g.met.C.CalendarSource.lawful c.args.self.now.calendars.now } in
    let q = err_from_is_err_and c.from_residual.result c.from_residual.ensures.1 in
    let d = span_refused src st c.args.span (measure c.args.first c.args.second c.args.unit c.args.span) (measured src st c.args.first c.args.second c.args.unit c.args.span) (measured_judged src st c.args.first c.args.second c.args.span c.args.unit) (measured_for src lawful st c.args.first c.args.second c.args.span c.args.unit) (sym c.span_measured.ensures ∙ c.in_err-measured.was) (q.1 ∙ ap Err q.2) in
    record { answer = d.is; there = d.there; state = d.state; law = d.law; judged = d.judged; means = λ A B e f on. subst (MeasuredTo src c.args.unit A B) (sym d.is) (measured_means src lawful st c.args.first c.args.second c.args.span c.args.unit A B e f on); stays = subst (λ (r : Result Span Fault). IfOk r (λ s. TrueHere src st c.args.first c.args.second c.args.span c.args.unit s)) (sym d.is) (true_here src lawful st st c.args.first c.args.second c.args.span c.args.unit d.state); same = same_first c.args.self.now }

pub returns : goal.returns
unfolding after
returns g c =
    let src = sources g.Z.ZoneSource.zones g.C.CalendarSource.calendars c.args.self.now in
    let st = view c.args.self.now in
    let lawful : Lawful src = record { zones = g.met.Z.ZoneSource.lawful c.args.self.now.zones.now; calendars = g.met.C.CalendarSource.lawful c.args.self.now.calendars.now } in
    let d = span_accepted src st c.args.span (measure c.args.first c.args.second c.args.unit c.args.span) (measured src st c.args.first c.args.second c.args.unit c.args.span) (measured_judged src st c.args.first c.args.second c.args.span c.args.unit) (measured_for src lawful st c.args.first c.args.second c.args.span c.args.unit) (sym c.span_measured.ensures ∙ c.in_ok-measured.was) c.store_span.ensures.state in
    record { answer = d.is; there = d.there; state = d.state; law = d.law; judged = d.judged; means = λ A B e f on. subst (MeasuredTo src c.args.unit A B) (sym d.is) (measured_means src lawful st c.args.first c.args.second c.args.span c.args.unit A B e f on); stays = subst (λ (r : Result Span Fault). IfOk r (λ s. TrueHere src (view c.store_span.new.self) c.args.first c.args.second c.args.span c.args.unit s)) (sym d.is) (true_here src lawful st (view c.store_span.new.self) c.args.first c.args.second c.args.span c.args.unit d.state); same = c.store_span.ensures.same }
