use Rattle.std.proofs.Common.{◌≡◌, ℕ, ◌∷◌, ◌+◌, Result, Ok, drop, get_or, ap, ◌∙◌, arith}
use Rattle.std.specs.List.{flat_map}
use Rattle.std.proofs.lemmas.List.{drop_more}
use Rattle.sbx_text.specs.declared.fault.TextFault.{TextFault}
use Rattle.sbx_asm.specs.Items.{lines_of, items_of}
use Rattle.sbx_asm.proofs.Keeping.{own, is_left, own_count, other_counts, next_item, all_items}
use Rattle.sbx_asm.proofs.text.Text.lines.Goals as goal

pub first_line-requires : goal.first_line-requires
first_line-requires c =
    is_left c.as_slice-found.result.now c.loop-index.index _ c.loop-index.rest.now (drop_more c.as_slice-found.result.now c.loop-index.index (Ok 0) (omega arith)) c.loop-index.invariant.found

pub loop-index-preserved : goal.loop-index-preserved
loop-index-preserved c =
    let this : Result ℕ TextFault = get_or c.as_slice-found.result.now c.loop-index.index (Ok 0) in
    let is : drop c.loop-index.index c.as_slice-found.result.now ≡ this ∷ drop (c.loop-index.index + 1) c.as_slice-found.result.now =
    drop_more c.as_slice-found.result.now c.loop-index.index (Ok 0) c.loop-index-test.true in
    let first = c.first_line.ensures.lines in
    let read = c.in_ok-line.ensures (flat_map own (lines_of c.first_line.result.1.now))
    (own_count c.as_slice-found.result.now c.loop-index.index this c.loop-index.rest.now is c.loop-index.invariant.found c.first_line.result.0.now
    c.first_line.result.1.now first) (c.loop-index.invariant.tokens ∙ ap (flat_map own) first) in
    record {
      tokens = read.1;
      found = other_counts c.as_slice-found.result.now c.loop-index.index this c.loop-index.rest.now is c.loop-index.invariant.found c.first_line.result.0.now c.first_line.result.1.now first;
      meant = rw (c.in_ok-push.ensures.items, read.0)
          (next_item c.loop-index.lines.items
          (items_of c.args.self.now) c.loop-index.index c.loop-index.rest.now c.loop-index.invariant.meant c.first_line.result.0.now
          c.first_line.result.1.now first);
    }

pub returns : goal.returns
returns c = all_items c.loop-index.lines.items
    (items_of c.args.self.now) c.loop-index.index c.loop-index.rest.now c.loop-index.invariant.meant c.as_slice-found.result.now
    (omega arith) c.loop-index.invariant.found
