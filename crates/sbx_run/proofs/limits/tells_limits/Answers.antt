use Rattle.std.proofs.Common.{◌≡◌, List, subst, arith}
use Rattle.std.specs.List.{AllByRecursion}
use Rattle.sbx_flat.specs.Runs.{budget}
use Rattle.sbx_image.specs.Region.{Region}
use Rattle.sbx_image.specs.Spelling.{IsTypedRegion}
use Rattle.sbx_run.proofs.limits.tells_limits.Goals as goal

pub returns : goal.returns
returns c =
    let words = c.word_count-words.ensures in
    let pages = c.stack_pages-pages.ensures in
    let turns : c.budget-turns.result ≡ budget c.args.image.now = c.budget-turns.ensures in
    let word_count = words.count in
    let few_words = words.few in
    let page_count = pages.count in
    let some_pages = pages.some in
    let few_pages = pages.few in
    record {
      fits = record { words = omega arith; pages = c.regions.ensures.pages; stack = omega arith };
      stack = omega arith;
      bytes = subst (λ (rs : List Region). AllByRecursion IsTypedRegion rs) c.regions.ensures.value c.tells_regions.ensures;
      budget_fits = omega (arith, turns);
    }
