use Rattle.planboard.specs.View.{view, sources, Same}
use Rattle.planboard.proofs.Runs.{Going}
use Rattle.planboard.proofs.board.Board.run.Given as goal

abbrev pub invariant-loop-call : goal.invariant-loop-call
invariant-loop-call g l =
    Going (sources g.Z.ZoneSource.zones g.C.CalendarSource.calendars l.initial.self) (view l.initial.self) l.initial.out l.calls (view l.self) l.out l.call-index l.accepted
    × Same l.initial.self l.self
