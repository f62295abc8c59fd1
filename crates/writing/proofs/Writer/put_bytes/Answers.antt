use Rattle.std.proofs.Common.{refl, arith}
use Rattle.writing.proofs.Copies.{placed_copy}
use Rattle.writing.proofs.Placings.{placed_past}
use Rattle.writing.proofs.Writer.put_bytes.Goals as goal

pub returns-then-self : goal.returns-then-self
returns-then-self c = record { placed = placed_past _ _ c.args.bytes.now c.if-self.true; lent = refl }

pub returns : goal.returns
returns c = record {
  placed = placed_copy c.args.self.now.out.now c.args.bytes.now c.copy_from_slice.new.self c.args.self.now.at c.min-count.result _ _
      c.min-count.ensures c.copy_from_slice.ensures.after (omega arith) (omega arith);
  lent = refl;
}
