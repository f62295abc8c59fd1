use Rattle.std.proofs.Common.{refl, arith}
use Rattle.writing.proofs.Puttings.{puts_more}
use Rattle.script.specs.Scripts.{on_line, refusal_text}
use Rattle.script.proofs.Rooms.{refusal_short}
use Rattle.script.proofs.answers.put_refusal.Goals as goal

pub returns : goal.returns
returns c = record {
  text = on_line (refusal_text c.args.told);
  is = refl;
  short = refusal_short c.args.told (omega arith) (omega arith) (omega arith) (omega arith);
  put =
      puts_more
      (puts_more c.put_bytes.ensures
      (puts_more (rw c.from.ensures at c.put_word.ensures)
      (puts_more c.put_word-2.ensures (puts_more (rw c.from-2.ensures at c.put_word-3.ensures) (rw c.from-3.ensures at c.put_word-4.ensures)))))
      c.put_byte.ensures;
}
