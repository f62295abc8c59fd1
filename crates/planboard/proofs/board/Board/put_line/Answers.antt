use Rattle.std.proofs.Common.{◌≡◌, ◌<◌, cond, Some, None, Option, sym, ap, ◌∙◌, arith}
use Rattle.mark_text.specs.declared.mark.Mark.{Mark}
use Rattle.mark_text.specs.Marks.{mark_there}
use Rattle.mark_text.proofs.There.{there_is}
use Rattle.writing.proofs.Puttings.{puts_more}
use Rattle.shelf.specs.Loans.{memory}
use Rattle.shelf.specs.Slots.{slot_at}
use Rattle.board_law.specs.Boards.{kept}
use Rattle.board_law.proofs.Checks.{kept_is}
use Rattle.board_law.proofs.Slots.{on_it}
use Rattle.planboard.specs.View.{view, sources}
use Rattle.planboard.proofs.Listed.{nothing_put, line_put}
use Rattle.planboard.proofs.board.Board.put_line.Goals as goal

pub returns-in_default : goal.returns-in_default
returns-in_default g c =
    let src = sources g.Z.ZoneSource.zones g.C.CalendarSource.calendars c.args.self.now in
    nothing_put src (view c.args.self.now) c.args.slot c.args.writer.now (ap (kept (mark_there src.zones src.calendars)) (sym c.requires ∙ c.in_default.is))

pub returns-then-not-is_there : goal.returns-then-not-is_there
returns-then-not-is_there g c =
    let src = sources g.Z.ZoneSource.zones g.C.CalendarSource.calendars c.args.self.now in
    nothing_put src (view c.args.self.now) c.args.slot c.args.writer.now
    (ap (kept (mark_there src.zones src.calendars)) (sym c.requires ∙ c.in-Some.is)
    ∙ ap (λ t. cond {A = Option Mark} t (Some c.in-Some.mark) None) (sym c.if-not-is_there.ensures.value))

pub returns : goal.returns
returns g c =
    let src = sources g.Z.ZoneSource.zones g.C.CalendarSource.calendars c.args.self.now in
    let m = c.in-Some.mark in
    let there = sym c.if-not-is_there.ensures.value in
    let held : slot_at 256 (memory c.args.self.now.marks) c.args.slot ≡ Some m = sym c.requires ∙ c.in-Some.is in
    let on = on_it 256 (memory c.args.self.now.marks) c.args.slot m held in
    let few : c.args.slot < 256 = omega (arith, on) in
    let x = c.put_mark.ensures.there (there_is src.zones src.calendars m there) in
    line_put src (view c.args.self.now) c.args.slot m c.args.writer.now _ x.text
    (kept_is (mark_there src.zones src.calendars) (slot_at 256 (memory c.args.self.now.marks) c.args.slot) m held there) few x.of_mark
    (puts_more c.put_number.ensures (puts_more c.put_byte.ensures (puts_more x.puts c.put_byte-2.ensures)))
