use Rattle.std.proofs.Common.{refl, sym, rules, arith, length, ◌≡◌, ◌≤◌, true, false}
use Rattle.std.specs.Prelude.{nat_le}
use Rattle.std.specs.List.Sorted.{IsPartitionPoint}
use Rattle.std.proofs.lemmas.List.Sorted.{IsPartitionPoint-from_clause, IsPartitionedBy-leb}
use Rattle.sbx_image.specs.Block.{Block}
use Rattle.sbx_rules.specs.Places.{find_block}
use Rattle.sbx_known.proofs.Searches.{finds, misses, misses_all, rises}
use Rattle.sbx_known.proofs.places.find_block.Goals as goal
use Rattle.sbx_known.proofs.places.find_block.Goals.{else-count-gt0-via-then-count-gt0+else-blocks-count, else-count-gt0-via-else-count-gt0}

pub returns-then-blocks-count-clause-value : goal.returns-then-blocks-count-clause-value
returns-then-blocks-count-clause-value c =
    let parted = IsPartitionedBy-leb (λ (x : Block). x.address) c.args.blocks.now c.args.address (rises Block (λ x. x.address) c.args.blocks.now c.requires) in
    let point = IsPartitionPoint-from_clause
    (λ (x : Block). nat_le x.address c.args.address) c.args.blocks.now c.partition_point-count.result c.partition_point-count.ensures.partitioned parted
    (λ a r q k. search rules) in
    sym (finds Block (λ x. x.address) c.args.address (λ n xs. find_block n c.args.address xs) (λ n. refl)
    (λ n x xs. refl) c.args.blocks.now c.partition_point-count.result c.partition_point-count.ensures.bound c.requires point c.index-blocks-count.result
    c.if-count-gt0.true c.if-blocks-count.true)

pub returns-else-count-gt0-clause-value : goal.returns-else-count-gt0-clause-value
returns-else-count-gt0-clause-value c =
    let parted = IsPartitionedBy-leb (λ (x : Block). x.address) c.args.blocks.now c.args.address (rises Block (λ x. x.address) c.args.blocks.now c.requires) in
    let point : IsPartitionPoint (λ y. nat_le y.address c.args.address ≡ true) (λ y. nat_le y.address c.args.address ≡ false) c.args.blocks.now c.partition_point-count.result =
    IsPartitionPoint-from_clause
    (λ (x : Block). nat_le x.address c.args.address) c.args.blocks.now c.partition_point-count.result c.partition_point-count.ensures.partitioned parted
    (λ a r q k. search rules) in
    let bound : c.partition_point-count.result ≤ length c.args.blocks.now = c.partition_point-count.ensures.bound in
    elim c.else-count-gt0.branch [
      | else-count-gt0-via-then-count-gt0+else-blocks-count w ↦
          sym (misses Block (λ x. x.address) c.args.address (λ n xs. find_block n c.args.address xs) (λ n. refl)
          (λ n x xs. refl) c.args.blocks.now c.partition_point-count.result bound c.requires point w.index-blocks-count.result w.if-count-gt0.true
          w.if-blocks-count.false)
      | else-count-gt0-via-else-count-gt0 w ↦
          sym (misses_all Block (λ x. x.address) c.args.address (λ n xs. find_block n c.args.address xs) (λ n. refl)
          (λ n x xs. refl) c.args.blocks.now c.partition_point-count.result bound c.requires point (omega (arith, w.if-count-gt0)))
    ]
