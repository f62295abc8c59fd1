use Rattle.std.proofs.Common.{ℕ, ◌*◌, length, Err, sym, refl, ap, ◌∙◌, rules}
use Rattle.std.proofs.lemmas.Result.{err_from_is_err_and}
use Rattle.board_law.specs.Texts.{Wrote}
use Rattle.board_law.specs.Boards.{after, roomy, listed, list_marks}
use Rattle.planboard.specs.View.{view, sources}
use Rattle.planboard.proofs.Wrotes.{wrote_judged, list_means, wrote_none, list_wrote}
use Rattle.planboard.proofs.board.Board.list.Goals as goal

pub returns-in_err-roomy : goal.returns-in_err-roomy
unfolding after
returns-in_err-roomy g c =
    let src = sources g.Z.ZoneSource.zones g.C.CalendarSource.calendars c.args.self.now in
    let st = view c.args.self.now in
    let room = length c.args.out.now in
    let q = err_from_is_err_and c.from_residual.result c.from_residual.ensures.1 in
    let w : Wrote src (view c.args.self.now) (list_marks (length c.args.out.now)) c.args.out.now _ _ =
    wrote_none src st (list_marks room) (listed src st room) (λ _. st) refl _
    (ap (λ (n : ℕ). roomy (100 * n) room) (sym c.count_marks.ensures.value) ∙ sym c.roomy.ensures ∙ c.in_err-roomy.was)
    c.args.out.now c.from_residual.result (q.1 ∙ ap Err q.2) in
    record { wrote = w; judged = wrote_judged src (view c.args.self.now) (list_marks (length c.args.out.now)) w; means = list_means src (view c.args.self.now) w }

pub returns : goal.returns
returns g c =
    let src = sources g.Z.ZoneSource.zones g.C.CalendarSource.calendars c.args.self.now in
    let w : Wrote src (view c.args.self.now) (list_marks (length c.args.out.now)) c.args.out.now _ _ =
    list_wrote src (view c.args.self.now) c.count_marks.result c.args.out.now _ _ _ c.count_marks.ensures.value (sym c.roomy.ensures ∙ c.in_ok-roomy.was)
    _ c.put_list.new.writer refl refl c.put_list.ensures refl (search rules) in
    record { wrote = w; judged = wrote_judged src (view c.args.self.now) (list_marks (length c.args.out.now)) w; means = list_means src (view c.args.self.now) w }
