use Rattle.std.proofs.Common.{ap, ◌∙◌, subst, arith}
use Rattle.board_law.specs.Boards.{Call, mark_slots, listed, made, after}
use Rattle.planboard.specs.Answers.{answer_of}
use Rattle.planboard.specs.View.{view, sources}
use Rattle.planboard.proofs.Runs.{same_left}
use Rattle.planboard.proofs.Sames.{sources_stay}
use Rattle.script.specs.Scripts.{AnswerTold}
use Rattle.script.proofs.Forms.{form_told}
use Rattle.script.proofs.Rooms.{marks_on, other_room}
use Rattle.script.proofs.answers.answer_form.Goals as goal

pub returns-in-Some-clause-put : goal.returns-in-Some-clause-put
returns-in-Some-clause-put g c =
    let src = sources g.Z.ZoneSource.zones g.C.CalendarSource.calendars c.args.board.now in
    let st = view c.args.board.now in
    let e = c.in-Some.ensures in
    let a = c.call-answer.ensures.answer in
    let p = c.put_answer.ensures in
    let is = a.is ∙ ap (λ (call : Call). answer_of src st call a.written) e.0 in
    let told = subst (λ s. AnswerTold s c.call-answer.result p.text) (sources_stay g.Z.ZoneSource.zones g.C.CalendarSource.calendars c.call-answer.ensures.same) p.is in
    record {
      text = p.text;
      is = form_told src st c.args.line.now c.args.form e.1 a.written c.call-answer.result is p.text told;
      short = let r = other_room (mark_slots st) c.args.form e.1 in omega (arith, p.short, r);
      put = p.put;
    }

pub returns-in-Some-clause-state : goal.returns-in-Some-clause-state
returns-in-Some-clause-state g c =
    let src = sources g.Z.ZoneSource.zones g.C.CalendarSource.calendars c.args.board.now in
    let st = view c.args.board.now in
    c.call-answer.ensures.state ∙ ap (λ (call : Call). made src st call) c.in-Some.ensures.0

pub returns-in-None-clause-put : goal.returns-in-None-clause-put
returns-in-None-clause-put g c =
    let p = c.put_list.ensures in
    let few = marks_on (sources g.Z.ZoneSource.zones g.C.CalendarSource.calendars c.args.board.now) (view c.args.board.now) in
    rw c.in-None.ensures (record { text = p.text; is = p.is; short = omega (arith, p.short, few); put = p.put })

pub returns-in-None-clause-state : goal.returns-in-None-clause-state
unfolding after
returns-in-None-clause-state g c =
    let src = sources g.Z.ZoneSource.zones g.C.CalendarSource.calendars c.args.board.now in
    rw c.in-None.ensures (same_left (listed src (view c.args.board.now) 25600) (view c.args.board.now))
