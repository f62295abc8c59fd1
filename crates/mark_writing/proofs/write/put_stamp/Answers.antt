use Rattle.std.proofs.Common.{rules}
use Rattle.writing.specs.Putting.{Puts}
use Rattle.writing.proofs.Puttings.{puts_more}
use Rattle.mark_writing.specs.Canonical.{offset_text, mark_text}
use Rattle.mark_writing.proofs.write.put_stamp.Goals as goal

pub returns : goal.returns
unfolding mark_text
returns c =
    let offset : Puts c.put_clock.new.writer (offset_text c.args.stamp.now.offset) c.put_offset.new.writer = search rules in
    puts_more (puts_more (puts_more (puts_more (puts_more c.put_date.ensures c.put_byte.ensures) c.put_clock.ensures) offset) c.put_zone.ensures) c.put_calendar.ensures
