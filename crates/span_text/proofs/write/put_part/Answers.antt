use Rattle.std.proofs.Common.{arith}
use Rattle.writing.proofs.Puttings.{puts_none, puts_more}
use Rattle.span_text.proofs.Pieces.{part_none, part_some}
use Rattle.span_text.proofs.write.put_part.Goals as goal

pub returns-then-n-gt0 : goal.returns-then-n-gt0
returns-then-n-gt0 c = rw (part_some c.args.n _ (λ z. omega arith)) (puts_more c.put_number.ensures c.put_byte.ensures)

pub returns-else-n-gt0 : goal.returns-else-n-gt0
returns-else-n-gt0 c = rw (part_none c.args.n _ (omega arith)) (puts_none _)
