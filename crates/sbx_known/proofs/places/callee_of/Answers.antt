use Rattle.std.proofs.Common.{List, sym, subst}
use Rattle.sbx_image.specs.Function.{Function}
use Rattle.sbx_known.specs.Sorted.{Ascend}
use Rattle.sbx_known.proofs.InOrder.{functions_ascend}
use Rattle.sbx_known.proofs.places.callee_of.Goals as goal

pub find_entry-requires : goal.find_entry-requires
find_entry-requires c = subst (λ (fs : List Function). Ascend (λ (f : Function). f.entry) fs) (sym c.functions.ensures.value) (functions_ascend c.args.image.now c.requires)
