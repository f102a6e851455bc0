use Rattle.std.proofs.Common.{refl, map, arith}
use Rattle.std.specs.List.{flat_map}
use Rattle.sbx_asm.proofs.Keeping.{count_of, own, one_more, all_read}
use Rattle.sbx_asm.proofs.text.Text.read.Goals as goal

pub loop-rest-preserved : goal.loop-rest-preserved
loop-rest-preserved c = record {
  tokens = one_more
      (flat_map own) c.loop-rest.kept.tokens.items _ c.loop-rest.rest.now c.loop-rest.invariant.tokens c.first_line.result.0.now c.first_line.result.1.now _ _
      c.first_line.ensures.lines refl c.in_ok-add_line.ensures.1;
  found = one_more
      (map count_of) c.loop-rest.kept.found.items _ c.loop-rest.rest.now c.loop-rest.invariant.found c.first_line.result.0.now c.first_line.result.1.now _ _
      c.first_line.ensures.lines refl c.in_ok-add_line.ensures.0;
}

pub invariant_of-result : goal.invariant_of-result
invariant_of-result c = (
  all_read (flat_map own) c.loop-rest.kept.tokens.items _ c.loop-rest.rest.now c.loop-rest.invariant.tokens refl (omega arith),
  all_read (map count_of) c.loop-rest.kept.found.items _ c.loop-rest.rest.now c.loop-rest.invariant.found refl (omega arith),
)
