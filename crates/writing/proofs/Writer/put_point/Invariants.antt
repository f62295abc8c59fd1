use Rattle.writing.proofs.FractionDigits.{Going}
use Rattle.writing.proofs.Writer.put_point.Given as goal

abbrev pub invariant-loop-rest : goal.invariant-loop-rest
invariant-loop-rest l = Going l.fn.self l.fn.micros l.self l.unit l.rest

abbrev pub decreases-loop-rest : goal.decreases-loop-rest
decreases-loop-rest l = l.unit
