use Rattle.writing.proofs.Puttings.{puts_more}
use Rattle.mark_writing.specs.Canonical.{zone_text}
use Rattle.mark_writing.proofs.write.put_zone.Goals as goal

pub returns : goal.returns
unfolding zone_text
returns c = puts_more (puts_more c.put_byte.ensures c.put_bytes.ensures) c.put_byte-2.ensures
