use Rattle.std.proofs.Common.{int_le, rules}
use Rattle.std.proofs.lemmas.List.Sorted.{IsPartitionPoint-from_clause}
use Rattle.tzif.specs.Fields.{second8}
use Rattle.file_zone.proofs.Chunks.{is_parted, passed_is}
use Rattle.file_zone.proofs.block.Block.passed.Goals as goal

pub returns : goal.returns
returns c =
    let b = c.args.self.now in
    let parted = is_parted b.bytes.now b.times b.good c.seconds.result.now c.seconds.ensures.len c.seconds.ensures.value c.args.at in
    let point = IsPartitionPoint-from_clause (λ t. int_le (second8 t 0) c.args.at) c.seconds.result.now c.partition_point.result c.partition_point.ensures.partitioned parted (λ a r q k. search rules) in
    passed_is b.bytes.now b.times b.good c.seconds.result.now c.seconds.ensures.len c.seconds.ensures.value c.args.at c.partition_point.result c.partition_point.ensures.bound point
