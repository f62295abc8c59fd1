use Rattle.std.proofs.Common.{◌≡◌, ◌*◌, ◌/◌, length, take, ap, ◌∙◌, arith, length-take}
use Rattle.std.specs.Simd.{first_chunks}
use Rattle.file_zone.proofs.Chunks.{chunk_second}
use Rattle.file_zone.proofs.block.Block.seconds.Goals as goal

pub returns-clause-value : goal.returns-clause-value
returns-clause-value c k d h =
    let n = c.args.self.now.times in
    let b = c.args.self.now.bytes.now in
    let room = c.args.self.now.good.room in
    let long : length (take (8 * n) b) ≡ 8 * n = simp length-take (omega arith) in
    let count : length (take (8 * n) b) / 8 ≡ n = omega arith in
    let chunks : c.as_chunks.result.0.now ≡ first_chunks 8 n (take (8 * n) b) = c.as_chunks.ensures.front ∙ ap (λ m. first_chunks 8 m (take (8 * n) b)) count in
    rw chunks (chunk_second b n k d h)
