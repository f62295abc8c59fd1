use Rattle.std.proofs.Common.{◌≡◌, ℕ, ◌+◌, ◌≤◌, Bool, cond, ap, ◌∙◌, arith}
use Rattle.std.proofs.lemmas.List.{take_all}
use Rattle.board_law.specs.Boards.{marks_in}
use Rattle.planboard.specs.View.{sources}
use Rattle.planboard.proofs.Listed.{count_next}
use Rattle.planboard.proofs.board.Board.count_marks.Goals as goal
use Rattle.planboard.proofs.board.Board.count_marks.Goals.{then-is_filled, else-is_filled}

pub loop-slot-preserved : goal.loop-slot-preserved
loop-slot-preserved g c =
    let src = sources g.Z.ZoneSource.zones g.C.CalendarSource.calendars c.args.self.now in
    let next = c.if-is_filled.count in
    let more : next ≡ c.loop-slot.count + cond c.is_filled.result 1 0 = elim c.if-is_filled.branch [
      | then-is_filled w ↦ let x = ap {B = ℕ} (λ (b : Bool). cond b 1 0) w.if-is_filled.true in omega (arith, w.count-is, x)
      | else-is_filled w ↦ let x = ap {B = ℕ} (λ (b : Bool). cond b 1 0) w.if-is_filled.false in omega (arith, w.count-is, x)
    ] in
    let few : next ≤ c.loop-slot.slot-index + 1 = elim c.if-is_filled.branch [
      | then-is_filled w ↦ omega (arith, w.count-is, c.loop-slot.invariant.1)
      | else-is_filled w ↦ omega (arith, w.count-is, c.loop-slot.invariant.1)
    ] in
    (count_next src _ c.loop-slot.slot-index c.loop-slot.count next c.is_filled.result c.loop-slot-test.true c.loop-slot.invariant.0 c.is_filled.ensures more, few)

pub returns : goal.returns
returns g c =
    let src = sources g.Z.ZoneSource.zones g.C.CalendarSource.calendars c.args.self.now in
    record {
      value = c.loop-slot.invariant.0 ∙ ap (marks_in src) (take_all c.loop-slot.slot-index _ c.loop-slot-test.false ∙ c.slots-slot-items.ensures.value);
      most = omega (arith, c.loop-slot.invariant.1, c.loop-slot.auto.slot-index-end, c.slots-slot-items.ensures.count);
    }
