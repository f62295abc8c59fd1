use Rattle.std.proofs.Common.{◌≡◌, ◌+◌, length}
use Rattle.reading.specs.Reading.{read_on}
use Rattle.reading.proofs.read.Given as goal

abbrev pub invariant-loop-left : goal.invariant-loop-left
invariant-loop-left g l =
    (read_on g.S.Scan.stepped g.S.Scan.ended l.state l.at l.left ≡ read_on g.S.Scan.stepped g.S.Scan.ended l.initial.state 0 l.text)
    × (l.at + length l.left ≡ length l.text)

abbrev pub decreases-loop-left : goal.decreases-loop-left
decreases-loop-left g l = length l.left
