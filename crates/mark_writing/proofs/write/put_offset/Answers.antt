use Rattle.std.proofs.Common.{◌≡◌, ◌%◌, nat_abs, arith, rules}
use Rattle.writing.proofs.Puttings.{puts_none, puts_more}
use Rattle.mark_writing.specs.Canonical.{sign_byte, offset_text}
use Rattle.mark_writing.proofs.Pieces.{seconds_none, seconds_some}
use Rattle.mark_writing.proofs.write.put_offset.Goals as goal

pub returns-then-seconds-gt0 : goal.returns-then-seconds-gt0
unfolding offset_text
returns-then-seconds-gt0 c =
    let size : c.unsigned_abs-size.result ≡ nat_abs c.args.offset = search rules in
    let sign : c.sign_byte.result ≡ sign_byte c.args.offset = search rules in
    let minutes = puts_more (puts_more (puts_more c.put_byte.ensures c.put_two.ensures) c.put_byte-2.ensures) c.put_two-2.ensures in
    let seconds = puts_more c.put_byte-then-seconds-gt0.ensures c.put_two-then-seconds-gt0.ensures in
    rw (← size, seconds_some (c.unsigned_abs-size.result % 60) (λ z. omega arith), ← sign) (puts_more minutes seconds)

pub returns-else-seconds-gt0 : goal.returns-else-seconds-gt0
unfolding offset_text
returns-else-seconds-gt0 c =
    let size : c.unsigned_abs-size.result ≡ nat_abs c.args.offset = search rules in
    let sign : c.sign_byte.result ≡ sign_byte c.args.offset = search rules in
    let minutes = puts_more (puts_more (puts_more c.put_byte.ensures c.put_two.ensures) c.put_byte-2.ensures) c.put_two-2.ensures in
    rw (← size, seconds_none (c.unsigned_abs-size.result % 60) (omega arith), ← sign) (puts_more minutes (puts_none _))
