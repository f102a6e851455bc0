use Rattle.std.proofs.Common.{◌≡◌, ◌+◌, ◌-◌, ◌++◌, ◌<◌, List, ℕ, length, replicate, take, drop, ap, ◌∙◌, arith}
use Rattle.std.proofs.lemmas.Grind.{common_steps}
use Rattle.std.proofs.lemmas.List.{length-drop, length-replicate, length-take}
use Rattle.std.proofs.lemmas.Slice.{take-put_mid}
use Rattle.sbx_image.specs.Regions.{pages_for}
use Rattle.v8_board.specs.Start.{at_most}
use Rattle.v8_board.proofs.Regions.{pages_few, pages_more, rights_filled}
use Rattle.v8_board.proofs.placing.rights_of.Goals as goal

pub slice_bounds-fill-end : goal.slice_bounds-fill-end
slice_bounds-fill-end c =
    let l = c.loop-region in
    let taken = c.page_count-more.ensures.value ∙ ap (λ (bs : List ℕ). at_most 64 (pages_for (length bs))) c.as_slice-bytes.ensures in
    let few = pages_few c.args.regions.now l.region-index c.region-item.result (omega arith) c.region-item.is c.requires l.pages c.page_count-more.result l.invariant.count taken in
    omega arith

pub loop-region-preserved : goal.loop-region-preserved
loop-region-preserved c =
    let l = c.loop-region in
    let less : l.region-index < length c.args.regions.now = omega arith in
    let taken = c.page_count-more.ensures.value ∙ ap (λ (bs : List ℕ). at_most 64 (pages_for (length bs))) c.as_slice-bytes.ensures in
    let few = pages_few c.args.regions.now l.region-index c.region-item.result less c.region-item.is c.requires l.pages c.page_count-more.result l.invariant.count taken in
    let more = c.page_count-more.result in
    let w = c.region-item.result.writable in
    let part = length-take (l.pages + more - l.pages) (drop l.pages l.rights) in
    let rest = length-drop l.pages l.rights in
    let size = l.invariant.size in
    let front = length-take l.pages l.rights in
    let count : length (take (l.pages + more - l.pages) (drop l.pages l.rights)) ≡ more = omega arith in
    let filled : c.fill.new.self ≡ replicate more w = c.fill.ensures.after (λ y e. e) ∙ ap (λ n. replicate n w) count in
    let long : length c.fill.new.self ≡ more = ap length filled ∙ length-replicate more w in
    record {
      size = grind (arith, common_steps);
      count = pages_more c.args.regions.now l.region-index c.region-item.result less c.region-item.is c.requires l.pages more l.invariant.count taken;
      few = few;
      rights = rights_filled c.args.regions.now l.region-index c.region-item.result less c.region-item.is c.requires l.pages more l.invariant.count taken l.rights _ l.invariant.rights
          (take-put_mid l.pages (l.pages + more - l.pages) l.rights c.fill.new.self (l.pages + more) (omega arith) (omega arith) ∙ ap (λ ws. take l.pages l.rights ++ ws) filled);
    }

pub returns-clause-rights : goal.returns-clause-rights
returns-clause-rights c = grind (arith, common_steps)

pub overflow_add-pages : goal.overflow_add-pages
overflow_add-pages c = grind (arith, common_steps)

pub overflow_add-pages-in-loop-region : goal.overflow_add-pages-in-loop-region
overflow_add-pages-in-loop-region c = grind (arith, common_steps)

pub slice_bounds-fill-count : goal.slice_bounds-fill-count
slice_bounds-fill-count c = grind (arith, common_steps)

pub slice_bounds-fill-start : goal.slice_bounds-fill-start
slice_bounds-fill-start c = grind (arith, common_steps)

pub returns-clause-count : goal.returns-clause-count
returns-clause-count c = grind (arith, common_steps)
