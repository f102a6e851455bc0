use Rattle.std.proofs.Common.{ap}
use Rattle.sbx_asm.specs.declared.context.Context.{Context}
use Rattle.sbx_asm.proofs.context.Context.after.Goals as goal

pub returns : goal.returns
returns c = λ values before h acting.
    let begins = c.begins_block-begins_block.ensures values before h in
    let annotated = c.takes_annotations-is_annotated.ensures values before h in
    λ j. record {
      place = c.after.ensures before (ap (λ (k : Context). k.place) h) j;
      totals = c.after-2.ensures values before (ap (λ (k : Context). k.totals) h) begins j;
      function = c.after-3.ensures values before (ap (λ (k : Context). k.function) h) j;
      block = c.after-4.ensures values before (ap (λ (k : Context). k.block) h) acting begins annotated j;
    }
