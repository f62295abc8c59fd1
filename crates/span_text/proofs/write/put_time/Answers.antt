use Rattle.std.proofs.Common.{arith}
use Rattle.writing.proofs.Puttings.{puts_none, puts_more}
use Rattle.span_text.proofs.Pieces.{time_none, time_some}
use Rattle.span_text.proofs.write.put_time.Goals as goal

pub returns-then-micros-gt0 : goal.returns-then-micros-gt0
returns-then-micros-gt0 c =
    rw (time_some c.args.micros (λ z. omega arith))
    (puts_more (puts_more (puts_more c.put_byte.ensures c.put_part.ensures) c.put_part-then-micros-gt0.ensures) c.put_seconds.ensures)

pub returns-else-micros-gt0 : goal.returns-else-micros-gt0
returns-else-micros-gt0 c = rw (time_none c.args.micros (omega arith)) (puts_none _)
