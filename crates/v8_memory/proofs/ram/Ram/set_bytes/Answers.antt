use Rattle.std.proofs.lemmas.Grind.{common_steps}
use Rattle.std.proofs.Common.{arith, ap, sym, ◌∙◌, length}
use Rattle.v8_memory.proofs.Places.{no_bytes, byte_more}
use Rattle.v8_memory.proofs.ram.Ram.set_bytes.Goals as goal

pub loop-k-init : goal.loop-k-init
loop-k-init c = record { placed = no_bytes _ _ _; size = ap length (sym c.self.view_is) ∙ c.self.invariant }

pub loop-k-preserved : goal.loop-k-preserved
loop-k-preserved c =
    let l = c.loop-k in
    record {
      placed = byte_more c.args.at c.args.bytes.now l.k c.byte_or_zero.result _ _ _ l.invariant.placed (omega arith) (omega arith) c.byte_or_zero.ensures c.place_byte.ensures.value;
      size = c.place_byte.ensures.size;
    }

pub returns-clause-placed : goal.returns-clause-placed
returns-clause-placed c = grind (arith, common_steps)
