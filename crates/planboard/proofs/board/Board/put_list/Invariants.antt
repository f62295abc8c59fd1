use Rattle.planboard.specs.View.{view, sources}
use Rattle.planboard.proofs.Listed.{Going}
use Rattle.planboard.proofs.board.Board.put_list.Given as goal

abbrev pub invariant-loop-k : goal.invariant-loop-k
invariant-loop-k g l = Going (sources g.Z.ZoneSource.zones g.C.CalendarSource.calendars l.self) (view l.self) l.k l.initial.writer l.writer
