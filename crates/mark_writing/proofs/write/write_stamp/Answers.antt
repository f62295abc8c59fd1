use Rattle.std.proofs.Common.{rules}
use Rattle.writing.specs.Placing.{Placed}
use Rattle.mark_writing.specs.Canonical.{mark_text}
use Rattle.mark_writing.proofs.Lengths.{written}
use Rattle.mark_writing.proofs.write.write_stamp.Goals as goal

pub returns : goal.returns
returns c =
    let placed : Placed c.args.out.now 0 (mark_text c.args.stamp.now) _ c.put_stamp.new.writer.at = search rules in
    written c.args.stamp.now c.if-out-lt-ROOM.false placed
