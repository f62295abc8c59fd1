use Rattle.std.proofs.Common.{sym}
use Rattle.writing.proofs.Puttings.{puts_none, puts_more}
use Rattle.mark_writing.proofs.Pieces.{calendar_none, calendar_some}
use Rattle.mark_writing.proofs.write.put_calendar.Goals as goal

pub returns-then-is_iso8601 : goal.returns-then-is_iso8601
returns-then-is_iso8601 c = rw (calendar_none c.args.name.now (sym c.if-is_iso8601.ensures)) (puts_none _)

pub returns : goal.returns
returns c =
    rw (calendar_some c.args.name.now (sym c.if-is_iso8601.ensures)) (puts_more (puts_more c.put_bytes.ensures c.put_bytes-2.ensures) c.put_byte.ensures)
