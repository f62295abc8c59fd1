use borrow.Author.Rules.{sfits_of, to_z-of_z_to}
use Rattle.std.proofs.Common.{◌+◌, ◌-◌, ◌*◌, ◌/◌, ◌<◌, [], length, get_or, take, drop, ap, ◌∙◌, arith, w32, length-take, length-drop}
use Rattle.tzif.specs.Fields.{number4, offset4}
use Rattle.tzif.proofs.Parts.{offset_part}
use Rattle.file_zone.proofs.Chunks.{chunk_at}
use Rattle.file_zone.proofs.block.Block.type_offset.Goals as goal

pub returns : goal.returns
unfolding number4 offset4
returns c =
    let b = c.args.self.now.bytes.now in
    let at = 9 * c.args.self.now.times + 6 * c.args.index in
    let rest = take (length b - at) (drop at b) in
    let some : 0 < length rest / 4 = simp (length-take, length-drop) (omega arith) in
    to_z-of_z_to w32 c.from_be_bytes.result (offset4 (get_or c.as_chunks.result.0.now 0 []) 0) (sfits_of c.from_be_bytes.type_inv) c.from_be_bytes.ensures
    ∙ ap (λ xs. offset4 (get_or xs 0 []) 0) c.as_chunks.ensures.front
    ∙ ap (λ bytes. offset4 bytes 0) (chunk_at 4 (length rest / 4) 0 rest [] some)
    ∙ offset_part rest 0 4 0 0 (omega arith) (omega arith)
    ∙ offset_part b at (length b - at) 0 at (omega arith) (omega arith)
