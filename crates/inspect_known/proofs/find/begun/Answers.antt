use Rattle.std.proofs.Common.{rules}
use Rattle.std.specs.Prelude.{nat_le}
use Rattle.std.proofs.lemmas.List.Sorted.{IsPartitionPoint-from_clause, IsPartitionedBy-leb}
use Rattle.sbx_image.specs.Block.{Block}
use Rattle.sbx_known.proofs.Searches.{rises}
use Rattle.inspect_known.proofs.Finding.{point_of}
use Rattle.inspect_known.proofs.find.begun.Goals as goal

pub returns-clause-point : goal.returns-clause-point
returns-clause-point c =
    let parted = IsPartitionedBy-leb (λ (x : Block). x.address) c.args.blocks.now c.args.address (rises Block (λ x. x.address) c.args.blocks.now c.requires) in
    let point = IsPartitionPoint-from_clause
    (λ (x : Block). nat_le x.address c.args.address) c.args.blocks.now c.partition_point.result c.partition_point.ensures.partitioned parted
    (λ a r q k. search rules) in
    point_of c.args.blocks.now c.args.address c.partition_point.result point
