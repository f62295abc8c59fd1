use Rattle.script.specs.Scripts.{lines_of}
use Rattle.script.proofs.Rooms.{Adding}
use Rattle.script.proofs.run.room_of_lines.Given as goal

abbrev pub invariant-loop-line : goal.invariant-loop-line
invariant-loop-line l = Adding l.slots (lines_of l.initial.line-iterator.left.now) (lines_of l.line-iterator.left.now) l.room
