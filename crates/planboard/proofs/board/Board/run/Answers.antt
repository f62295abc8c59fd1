use Rattle.std.proofs.Common.{◌≡◌, ℕ, ◌+◌, Bool, cond, ap, ◌∙◌, arith}
use Rattle.std.proofs.lemmas.List.{drop_more}
use Rattle.board_law.specs.Runs.{Lawful}
use Rattle.board_law.proofs.Law.{keeps_on, spans_stay_true}
use Rattle.planboard.specs.View.{view, sources}
use Rattle.planboard.proofs.Runs.{going_first, going_on, going_end, turn_over}
use Rattle.planboard.proofs.Answering.{accepted_as, overwrote}
use Rattle.planboard.proofs.Sames.{same_first, same_on, sources_stay}
use Rattle.planboard.proofs.board.Board.run.Goals as goal
use Rattle.planboard.proofs.board.Board.run.Goals.{then-is_ok, else-is_ok}

pub loop-call-init : goal.loop-call-init
loop-call-init g c = (
  going_first (sources g.Z.ZoneSource.zones g.C.CalendarSource.calendars c.args.self.now) (view c.args.self.now) c.args.out.now c.args.calls.now,
  same_first c.args.self.now,
)

pub overflow_add-accepted : goal.overflow_add-accepted
overflow_add-accepted g c = omega (arith, c.loop-call.invariant.0.few, c.loop-call-test.true)

pub loop-call-preserved : goal.loop-call-preserved
loop-call-preserved g c =
    let src = sources g.Z.ZoneSource.zones g.C.CalendarSource.calendars c.args.self.now in
    let same = sources_stay g.Z.ZoneSource.zones g.C.CalendarSource.calendars c.loop-call.invariant.1 in
    let told = c.is_ok.ensures.value ∙ accepted_as _ _ c.call.ensures.answer in
    let more : c.if-is_ok.accepted ≡ c.loop-call.accepted + cond c.is_ok.result 1 0 = elim c.if-is_ok.branch [
      | then-is_ok w ↦ let x = ap {B = ℕ} (λ (b : Bool). cond b 1 0) w.if-is_ok.true in omega (arith, w.accepted-is, x)
      | else-is_ok w ↦ let x = ap {B = ℕ} (λ (b : Bool). cond b 1 0) w.if-is_ok.false in omega (arith, w.accepted-is, x)
    ] in (
      going_on src c.if-is_ok.accepted c.loop-call.invariant.0 (drop_more c.args.calls.now c.loop-call.call-index _ c.loop-call-test.true)
          (turn_over same (record { answer = told; state = c.call.ensures.state; buffer = overwrote _ _ c.call.ensures.answer })) c.call.auto.out more,
      same_on c.loop-call.invariant.1 c.call.ensures.same,
    )

pub returns : goal.returns
returns g c =
    let src = sources g.Z.ZoneSource.zones g.C.CalendarSource.calendars c.args.self.now in
    let lawful : Lawful src = record { zones = g.met.Z.ZoneSource.lawful c.args.self.now.zones.now; calendars = g.met.C.CalendarSource.lawful c.args.self.now.calendars.now } in
    let done = going_end src c.loop-call.invariant.0 c.loop-call-test.false in
    record {
      answer = done.count;
      state = done.state;
      buffer = done.buffer;
      same = c.loop-call.invariant.1;
      keeps = keeps_on src lawful (view c.args.self.now) (view c.loop-call.self) _ done.state;
      law = spans_stay_true src lawful;
    }
