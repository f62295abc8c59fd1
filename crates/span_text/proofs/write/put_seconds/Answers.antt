use Rattle.std.proofs.Common.{arith}
use Rattle.writing.proofs.Puttings.{puts_none, puts_more}
use Rattle.span_text.proofs.Pieces.{seconds_none, seconds_some}
use Rattle.span_text.proofs.write.put_seconds.Goals as goal

pub returns-then-micros-gt0 : goal.returns-then-micros-gt0
returns-then-micros-gt0 c =
    rw (seconds_some c.args.micros (λ z. omega arith), ← c.from.ensures)
    (puts_more (puts_more c.put_number.ensures c.put_point.ensures) c.put_byte.ensures)

pub returns-else-micros-gt0 : goal.returns-else-micros-gt0
returns-else-micros-gt0 c = rw (seconds_none c.args.micros (omega arith)) (puts_none _)
