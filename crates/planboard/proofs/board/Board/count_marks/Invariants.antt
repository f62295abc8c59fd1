use Rattle.std.proofs.Common.{◌≡◌, ◌≤◌, take}
use Rattle.board_law.specs.Boards.{marks_in}
use Rattle.planboard.specs.View.{sources}
use Rattle.planboard.proofs.board.Board.count_marks.Given as goal

abbrev pub invariant-loop-slot : goal.invariant-loop-slot
invariant-loop-slot g l =
    (l.count ≡ marks_in (sources g.Z.ZoneSource.zones g.C.CalendarSource.calendars l.self) (take l.slot-index l.slot-items)) × (l.count ≤ l.slot-index)
