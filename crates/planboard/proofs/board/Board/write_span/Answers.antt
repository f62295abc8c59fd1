use Rattle.std.proofs.Common.{length, Err, sym, refl, ap, ◌∙◌}
use Rattle.std.proofs.lemmas.Result.{err_from_is_err_and}
use Rattle.board_law.specs.Texts.{Wrote}
use Rattle.board_law.specs.Boards.{after, write_span, span_written}
use Rattle.planboard.specs.View.{view, sources}
use Rattle.planboard.proofs.Wrotes.{wrote_judged, span_means, wrote_none, span_wrote}
use Rattle.planboard.proofs.board.Board.write_span.Goals as goal

pub returns-in_err-span : goal.returns-in_err-span
unfolding after
returns-in_err-span g c =
    let src = sources g.Z.ZoneSource.zones g.C.CalendarSource.calendars c.args.self.now in
    let st = view c.args.self.now in
    let room = length c.args.out.now in
    let q = err_from_is_err_and c.from_residual.result c.from_residual.ensures.1 in
    let w : Wrote src (view c.args.self.now) (write_span c.args.slot (length c.args.out.now)) c.args.out.now _ _ =
    wrote_none src st (write_span c.args.slot room) (span_written src st c.args.slot room) (λ _. st) refl _ (sym c.span_to_write.ensures ∙ c.in_err-span.was)
    c.args.out.now c.from_residual.result (q.1 ∙ ap Err q.2) in
    record { wrote = w; judged = wrote_judged src (view c.args.self.now) (write_span c.args.slot (length c.args.out.now)) w; means = λ s e. span_means src (view c.args.self.now) c.args.slot w s e }

pub returns : goal.returns
returns g c =
    let src = sources g.Z.ZoneSource.zones g.C.CalendarSource.calendars c.args.self.now in
    let w : Wrote src (view c.args.self.now) (write_span c.args.slot (length c.args.out.now)) c.args.out.now _ _ =
    span_wrote src (view c.args.self.now) c.args.slot _ c.args.out.now _ _ (sym c.span_to_write.ensures ∙ c.in_ok-span.was) c.write_span.ensures.answer c.write_span.ensures.memory in
    record { wrote = w; judged = wrote_judged src (view c.args.self.now) (write_span c.args.slot (length c.args.out.now)) w; means = λ s e. span_means src (view c.args.self.now) c.args.slot w s e }
