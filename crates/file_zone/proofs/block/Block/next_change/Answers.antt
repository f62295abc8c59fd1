use Rattle.std.proofs.Common.{◌≡◌, arith}
use Rattle.std.proofs.lemmas.Int.{ints, to_z-of_z}
use Rattle.file_zone.proofs.Lookups.{change_start, change_stop, change_here, change_more}
use Rattle.file_zone.proofs.block.Block.next_change.Goals as goal

pub loop-k-init : goal.loop-k-init
loop-k-init c = grind (arith, to_z-of_z, change_start)

pub returns-then-before-t : goal.returns-then-before-t
returns-then-before-t c = grind (arith, ints, to_z-of_z, change_stop)

pub returns-then-type_offset-offset : goal.returns-then-type_offset-offset
returns-then-type_offset-offset c =
    let d : c.type_offset.result ≡ c.offset_after-offset.result → ⊥ = λ e. c.if-type_offset-offset.true (rw e) in
    let a = c.passed-start.ensures.after c.loop-k.k c.loop-k.auto.k c.loop-k-test.true in
    grind (arith, ints, to_z-of_z, change_here)

pub loop-k-preserved : goal.loop-k-preserved
loop-k-preserved c =
    let d : c.type_offset.result ≡ c.offset_after-offset.result = grind (arith, ints) in
    grind (arith, ints, to_z-of_z, change_more)
