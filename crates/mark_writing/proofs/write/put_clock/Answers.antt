use Rattle.writing.proofs.Puttings.{puts_more}
use Rattle.mark_writing.specs.Canonical.{clock_text}
use Rattle.mark_writing.proofs.write.put_clock.Goals as goal

pub returns : goal.returns
unfolding clock_text
returns c =
    puts_more (puts_more (puts_more (puts_more (puts_more c.put_two.ensures c.put_byte.ensures) c.put_two-2.ensures) c.put_byte-2.ensures) c.put_two-3.ensures) c.put_point.ensures
