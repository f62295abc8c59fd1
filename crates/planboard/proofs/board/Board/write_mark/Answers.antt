use Rattle.std.proofs.Common.{length, Err, sym, refl, ap, ◌∙◌}
use Rattle.std.proofs.lemmas.Result.{err_from_is_err_and}
use Rattle.board_law.specs.Texts.{Wrote}
use Rattle.board_law.specs.Boards.{after, write_mark, mark_written}
use Rattle.planboard.specs.View.{view, sources}
use Rattle.planboard.proofs.Wrotes.{wrote_judged, mark_means, wrote_none, mark_wrote}
use Rattle.planboard.proofs.board.Board.write_mark.Goals as goal

pub returns-in_err-mark : goal.returns-in_err-mark
unfolding after
returns-in_err-mark g c =
    let src = sources g.Z.ZoneSource.zones g.C.CalendarSource.calendars c.args.self.now in
    let st = view c.args.self.now in
    let room = length c.args.out.now in
    let q = err_from_is_err_and c.from_residual.result c.from_residual.ensures.1 in
    let w : Wrote src (view c.args.self.now) (write_mark c.args.slot (length c.args.out.now)) c.args.out.now _ _ =
    wrote_none src st (write_mark c.args.slot room) (mark_written src st c.args.slot room) (λ _. st) refl _ (sym c.mark_to_write.ensures ∙ c.in_err-mark.was)
    c.args.out.now c.from_residual.result (q.1 ∙ ap Err q.2) in
    record { wrote = w; judged = wrote_judged src (view c.args.self.now) (write_mark c.args.slot (length c.args.out.now)) w; means = λ A e. mark_means src (view c.args.self.now) c.args.slot w A e }

pub returns : goal.returns
returns g c =
    let src = sources g.Z.ZoneSource.zones g.C.CalendarSource.calendars c.args.self.now in
    let w : Wrote src (view c.args.self.now) (write_mark c.args.slot (length c.args.out.now)) c.args.out.now _ _ =
    mark_wrote src (view c.args.self.now) c.args.slot _ c.args.out.now _ _ (sym c.mark_to_write.ensures ∙ c.in_ok-mark.was) c.write_mark.ensures.there in
    record { wrote = w; judged = wrote_judged src (view c.args.self.now) (write_mark c.args.slot (length c.args.out.now)) w; means = λ A e. mark_means src (view c.args.self.now) c.args.slot w A e }
