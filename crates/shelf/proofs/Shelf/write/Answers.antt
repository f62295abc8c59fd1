use Rattle.std.proofs.Common.{◌<◌, ◌≤◌, ltb, refl, ap, arith}
use Rattle.shelf.specs.Slots.{slot_count}
use Rattle.shelf.proofs.Written.{set_law, set_written, kept_law, kept_written}
use Rattle.shelf.proofs.Shelf.write.Goals as goal

pub returns-then-there : goal.returns-then-there
returns-then-there g c =
    let h : c.args.i < slot_count g.row.CAP c.args.self.now.slots.now = omega arith in
    record {
      answer = ap (λ n. ltb c.args.i n) c.len.ensures.value;
      state = set_written g.row.CAP c.args.self.now.slots.now c.args.i c.args.slot h;
      law = set_law g.row.CAP c.args.self.now.slots.now c.args.i c.args.slot h;
      lent = refl {a = c.args.self.now.slots.ghost_name};
    }

pub returns-else-there : goal.returns-else-there
returns-else-there g c =
    let h : slot_count g.row.CAP c.args.self.now.slots.now ≤ c.args.i = omega arith in
    record {
      answer = ap (λ n. ltb c.args.i n) c.len.ensures.value;
      state = kept_written g.row.CAP c.args.self.now.slots.now c.args.i c.args.slot h;
      law = kept_law g.row.CAP c.args.self.now.slots.now c.args.i c.args.slot h;
      lent = refl {a = c.args.self.now.slots.ghost_name};
    }
