use Rattle.std.proofs.Common.{◌<◌, ◌≤◌, length, sym, refl, ap, ◌∙◌, arith, rules}
use Rattle.board_law.specs.Boards.{mark_slots, run}
use Rattle.board_law.specs.Runs.{Lawful}
use Rattle.board_law.proofs.Keeps.{run_none}
use Rattle.board_law.proofs.Law.{keeps_on, spans_stay_true}
use Rattle.planboard.specs.View.{view, sources}
use Rattle.planboard.proofs.Sames.{same_first, same_on, sources_stay}
use Rattle.script.specs.declared.lines.Lines.{Lines}
use Rattle.script.specs.Scripts.{lines_of, room_of, script_lines}
use Rattle.script.proofs.Runs.{going_first, going_on, going_end, no_calls, done_over}
use Rattle.script.proofs.run.run_script.Goals as goal

pub returns-then-out-room_for-clause-state : goal.returns-then-out-room_for-clause-state
returns-then-out-room_for-clause-state g c =
    let src = sources g.Z.ZoneSource.zones g.C.CalendarSource.calendars c.args.board.now in
    let st = view c.args.board.now in
    let few : length c.args.out.now < room_of (mark_slots st) (script_lines c.args.input.now) = omega (arith, c.room_for.ensures, c.if-out-room_for.true) in
    sym (run_none src st) ∙ ap (run src st) (sym (no_calls src (mark_slots st) c.args.input.now c.args.out.now few))

pub returns-then-out-room_for-clause-keeps : goal.returns-then-out-room_for-clause-keeps
returns-then-out-room_for-clause-keeps g c =
    let src = sources g.Z.ZoneSource.zones g.C.CalendarSource.calendars c.args.board.now in
    let st = view c.args.board.now in
    let lawful : Lawful src = record { zones = g.met.Z.ZoneSource.lawful c.args.board.now.zones.now; calendars = g.met.C.CalendarSource.lawful c.args.board.now.calendars.now } in
    let few : length c.args.out.now < room_of (mark_slots st) (script_lines c.args.input.now) = omega (arith, c.room_for.ensures, c.if-out-room_for.true) in
    keeps_on src lawful st st _ (sym (run_none src st) ∙ ap (run src st) (sym (no_calls src (mark_slots st) c.args.input.now c.args.out.now few)))

pub returns-then-out-room_for-clause-law : goal.returns-then-out-room_for-clause-law
returns-then-out-room_for-clause-law g c =
    spans_stay_true (sources g.Z.ZoneSource.zones g.C.CalendarSource.calendars c.args.board.now)
    (record { zones = g.met.Z.ZoneSource.lawful c.args.board.now.zones.now; calendars = g.met.C.CalendarSource.lawful c.args.board.now.calendars.now })

pub loop-line-init : goal.loop-line-init
loop-line-init g c =
    (going_first (sources g.Z.ZoneSource.zones g.C.CalendarSource.calendars c.args.board.now) (view c.args.board.now) c.args.out.now _, same_first c.args.board.now, refl)

pub loop-line-preserved : goal.loop-line-preserved
loop-line-preserved g c =
    let src = sources g.Z.ZoneSource.zones g.C.CalendarSource.calendars c.args.board.now in
    let lawful : Lawful src = record { zones = g.met.Z.ZoneSource.lawful c.args.board.now.zones.now; calendars = g.met.C.CalendarSource.lawful c.args.board.now.calendars.now } in
    let same = sources_stay g.Z.ZoneSource.zones g.C.CalendarSource.calendars c.loop-line.invariant.1 in (
      going_on src lawful c.in-Some.line.now _ c.loop-line.invariant.0 c.in-Some.ensures.steps
          (done_over same (record { put = c.answer_line.ensures.put; state = c.answer_line.ensures.state })),
      same_on c.loop-line.invariant.1 c.answer_line.ensures.same,
      c.answer_line.ensures.put.put.lent ∙ c.loop-line.invariant.2,
    )

pub returns : goal.returns
returns g c =
    let src = sources g.Z.ZoneSource.zones g.C.CalendarSource.calendars c.args.board.now in
    let st = view c.args.board.now in
    let lawful : Lawful src = record { zones = g.met.Z.ZoneSource.lawful c.args.board.now.zones.now; calendars = g.met.C.CalendarSource.lawful c.args.board.now.calendars.now } in
    let enough : room_of (mark_slots st) (script_lines c.args.input.now) ≤ length c.args.out.now = omega (arith, c.room_for.ensures, c.if-out-room_for.false) in
    let script = ap (λ (z : Lines). lines_of z.left.now) c.into_iter-line-iterator.ensures.into_iter_gives ∙ ap lines_of c.script_of.ensures.value in
    let all = going_end src c.args.input.now c.loop-line.invariant.0 c.in-None.ensures.steps.0 script enough in
    record {
      answers = all.answers _ (search rules);
      state = all.state;
      same = c.loop-line.invariant.1;
      keeps = keeps_on src lawful st (view c.loop-line.board) _ all.state;
      law = spans_stay_true src lawful;
    }
