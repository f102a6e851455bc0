use Rattle.std.proofs.lemmas.Grind.{common_steps}
use Rattle.v8_mmu.specs.Ram.{entry_of}
use Rattle.std.proofs.Common.{rules, arith}
use Rattle.v8_memory.proofs.ram.Ram.entry.Goals as goal

pub returns-clause-value : goal.returns-clause-value
unfolding entry_of
returns-clause-value c = search rules

pub slice_bounds-read_u32-end : goal.slice_bounds-read_u32-end
unfolding entry_of
slice_bounds-read_u32-end c = grind (arith, common_steps)

pub read_u32-requires : goal.read_u32-requires
unfolding entry_of
read_u32-requires c = grind (arith, common_steps)

pub overflow_add-at : goal.overflow_add-at
unfolding entry_of
overflow_add-at c = grind (arith, common_steps)

pub slice_bounds-read_u32-start : goal.slice_bounds-read_u32-start
unfolding entry_of
slice_bounds-read_u32-start c = grind (arith, common_steps)

pub returns-clause-bytes : goal.returns-clause-bytes
unfolding entry_of
returns-clause-bytes c = grind (arith, common_steps)

pub four_bytes-requires : goal.four_bytes-requires
unfolding entry_of
four_bytes-requires c = grind (arith, common_steps)

pub slice_bounds-read_u32-count : goal.slice_bounds-read_u32-count
unfolding entry_of
slice_bounds-read_u32-count c = grind (arith, common_steps)
