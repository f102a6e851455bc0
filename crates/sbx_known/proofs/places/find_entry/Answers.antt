use Rattle.std.proofs.Common.{refl, sym, rules, arith, length, ◌≡◌, ◌≤◌, true, false}
use Rattle.std.specs.Prelude.{nat_le}
use Rattle.std.specs.List.Sorted.{IsPartitionPoint}
use Rattle.std.proofs.lemmas.List.Sorted.{IsPartitionPoint-from_clause, IsPartitionedBy-leb}
use Rattle.sbx_image.specs.Function.{Function}
use Rattle.sbx_rules.specs.Places.{find_entry}
use Rattle.sbx_known.proofs.Searches.{finds, misses, misses_all, rises}
use Rattle.sbx_known.proofs.places.find_entry.Goals as goal
use Rattle.sbx_known.proofs.places.find_entry.Goals.{else-count-gt0-via-then-count-gt0+else-functions-count, else-count-gt0-via-else-count-gt0}

pub returns-then-functions-count-clause-value : goal.returns-then-functions-count-clause-value
returns-then-functions-count-clause-value c =
    let parted = IsPartitionedBy-leb (λ (x : Function). x.entry) c.args.functions.now c.args.address (rises Function (λ x. x.entry) c.args.functions.now c.requires) in
    let point = IsPartitionPoint-from_clause
    (λ (x : Function). nat_le x.entry c.args.address) c.args.functions.now c.partition_point-count.result c.partition_point-count.ensures.partitioned parted
    (λ a r q k. search rules) in
    sym (finds Function (λ x. x.entry) c.args.address (λ n xs. find_entry n c.args.address xs) (λ n. refl)
    (λ n x xs. refl) c.args.functions.now c.partition_point-count.result c.partition_point-count.ensures.bound c.requires point
    c.index-functions-count.result c.if-count-gt0.true c.if-functions-count.true)

pub returns-else-count-gt0-clause-value : goal.returns-else-count-gt0-clause-value
returns-else-count-gt0-clause-value c =
    let parted = IsPartitionedBy-leb (λ (x : Function). x.entry) c.args.functions.now c.args.address (rises Function (λ x. x.entry) c.args.functions.now c.requires) in
    let point : IsPartitionPoint (λ y. nat_le y.entry c.args.address ≡ true) (λ y. nat_le y.entry c.args.address ≡ false) c.args.functions.now c.partition_point-count.result =
    IsPartitionPoint-from_clause
    (λ (x : Function). nat_le x.entry c.args.address) c.args.functions.now c.partition_point-count.result c.partition_point-count.ensures.partitioned parted
    (λ a r q k. search rules) in
    let bound : c.partition_point-count.result ≤ length c.args.functions.now = c.partition_point-count.ensures.bound in
    elim c.else-count-gt0.branch [
      | else-count-gt0-via-then-count-gt0+else-functions-count w ↦
          sym (misses Function (λ x. x.entry) c.args.address (λ n xs. find_entry n c.args.address xs) (λ n. refl)
          (λ n x xs. refl) c.args.functions.now c.partition_point-count.result bound c.requires point w.index-functions-count.result w.if-count-gt0.true
          w.if-functions-count.false)
      | else-count-gt0-via-else-count-gt0 w ↦
          sym (misses_all Function (λ x. x.entry) c.args.address (λ n xs. find_entry n c.args.address xs) (λ n. refl)
          (λ n x xs. refl) c.args.functions.now c.partition_point-count.result bound c.requires point (omega (arith, w.if-count-gt0)))
    ]
