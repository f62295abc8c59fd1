use Rattle.std.proofs.Common.{arith}
use Rattle.writing.proofs.FractionDigits.{point_none, going_first, going_on, going_end}
use Rattle.writing.proofs.Puttings.{puts_none}
use Rattle.writing.proofs.Writer.put_point.Goals as goal

pub returns-then-rest-eq0 : goal.returns-then-rest-eq0
returns-then-rest-eq0 c = rw (point_none c.args.micros c.if-rest-eq0.true) (puts_none _)

pub loop-rest-init : goal.loop-rest-init
loop-rest-init c = going_first c.args.micros c.if-rest-eq0.false c.put_byte.ensures

pub loop-rest-preserved : goal.loop-rest-preserved
loop-rest-preserved c = going_on c.loop-rest.invariant (omega arith) c.put_byte-in-loop-rest.ensures

pub returns : goal.returns
returns c = going_end c.loop-rest.invariant (omega arith)
