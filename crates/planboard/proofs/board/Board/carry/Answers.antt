use Rattle.std.proofs.Common.{Err, sym, subst, ap, ◌∙◌, Some}
use Rattle.std.proofs.lemmas.Result.{err_from_is_err_and}
use Rattle.board_law.specs.Boards.{carried, carry, after}
use Rattle.board_law.proofs.Calls.{carried_for}
use Rattle.board_law.proofs.Judging.{carried_judged}
use Rattle.board_law.specs.Meanings.{CarriedBy}
use Rattle.board_law.specs.Runs.{Lawful, LeadsTrue}
use Rattle.board_law.proofs.Law.{leads_true}
use Rattle.board_law.proofs.Meanings.{carried_means}
use Rattle.planboard.specs.View.{view, sources}
use Rattle.planboard.proofs.Sames.{same_first}
use Rattle.planboard.proofs.Stored.{mark_refused, mark_accepted}
use Rattle.planboard.proofs.board.Board.carry.Goals as goal

pub returns-in_err-mark : goal.returns-in_err-mark
unfolding after
returns-in_err-mark g c =
    let src = sources g.Z.ZoneSource.zones g.C.CalendarSource.calendars c.args.self.now in
    let st = view c.args.self.now in
    let lawful : Lawful src = record { zones = g.met.Z.ZoneSource.lawful c.args.self.now.zones.now; calendars = g.met.C.CalendarSource.lawful c.args.self.now.calendars.now } in
    let q = err_from_is_err_and c.from_residual.result c.from_residual.ensures.1 in
    let d = mark_refused src st c.args.target (carry c.args.first c.args.span c.args.target) Some (carried src st c.args.first c.args.span c.args.target) (carried_judged src st c.args.first c.args.span c.args.target) (carried_for src st c.args.first c.args.span c.args.target) (sym c.mark_carried.ensures ∙ c.in_err-mark.was) (q.1 ∙ ap Err q.2) in
    record { answer = d.is; there = d.there; state = d.state; law = d.law; judged = d.judged; means = λ A s e f on. subst (CarriedBy src A s) (sym d.is) (carried_means src st c.args.first c.args.span c.args.target A s e f on); leads = subst (LeadsTrue src st c.args.first c.args.span c.args.target) (sym d.is) (leads_true src lawful st c.args.first c.args.span c.args.target); same = same_first c.args.self.now }

pub returns : goal.returns
unfolding after
returns g c =
    let src = sources g.Z.ZoneSource.zones g.C.CalendarSource.calendars c.args.self.now in
    let st = view c.args.self.now in
    let lawful : Lawful src = record { zones = g.met.Z.ZoneSource.lawful c.args.self.now.zones.now; calendars = g.met.C.CalendarSource.lawful c.args.self.now.calendars.now } in
    let d = mark_accepted src st c.args.target (carry c.args.first c.args.span c.args.target) Some (carried src st c.args.first c.args.span c.args.target) (carried_judged src st c.args.first c.args.span c.args.target) (carried_for src st c.args.first c.args.span c.args.target) (sym c.mark_carried.ensures ∙ c.in_ok-mark.was) c.store.ensures.state in
    record { answer = d.is; there = d.there; state = d.state; law = d.law; judged = d.judged; means = λ A s e f on. subst (CarriedBy src A s) (sym d.is) (carried_means src st c.args.first c.args.span c.args.target A s e f on); leads = subst (LeadsTrue src st c.args.first c.args.span c.args.target) (sym d.is) (leads_true src lawful st c.args.first c.args.span c.args.target); same = c.store.ensures.same }
