use Rattle.std.proofs.Common.{◌≡◌, Ok, Result, sym, ◌∙◌, arith}
use Rattle.reading.specs.declared.Misread.{Misread}
use Rattle.line_form.specs.declared.line.Line.{Line}
use Rattle.line_form.specs.Scanning.{read_line}
use Rattle.board_law.specs.Boards.{mark_slots}
use Rattle.planboard.specs.View.{view}
use Rattle.script.proofs.Rooms.{form_fits}
use Rattle.script.proofs.answers.answer_line.Goals as goal

pub returns-in-Ok-clause-put : goal.returns-in-Ok-clause-put
returns-in-Ok-clause-put g c =
    let read : ◌≡◌ {A = Result Line Misread} (read_line c.args.line.now) (Ok c.in-Ok.form) = sym c.read_line.ensures.value ∙ c.in-Ok.is in
    let fits = form_fits (mark_slots (view c.args.board.now)) c.args.line.now c.in-Ok.form read in
    let p = c.answer_form.ensures.put in
    record { text = p.text; is = rw read p.is; short = omega (arith, p.short, fits); put = p.put }
