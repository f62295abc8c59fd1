use Rattle.std.proofs.Common.{◌≡◌}
use Rattle.planboard.specs.View.{view, sources, Same}
use Rattle.script.specs.Scripts.{lines_of}
use Rattle.script.proofs.Runs.{Going}
use Rattle.script.proofs.run.run_script.Given as goal

abbrev pub invariant-loop-line : goal.invariant-loop-line
invariant-loop-line g l =
    Going (sources g.Z.ZoneSource.zones g.C.CalendarSource.calendars l.initial.board) (view l.initial.board) l.initial.writer.out.now
    (lines_of l.initial.line-iterator.left.now) (view l.board) l.writer.out.now l.writer.at (lines_of l.line-iterator.left.now)
    × Same l.initial.board l.board
    × (l.writer.out.ghost_name ≡ l.initial.writer.out.ghost_name)
