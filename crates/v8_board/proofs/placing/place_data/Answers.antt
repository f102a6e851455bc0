use Rattle.std.proofs.lemmas.Grind.{common_steps}
use Rattle.std.proofs.Common.{ℕ, ◌+◌, ◌*◌, ◌<◌, List, length, refl, ap, subst, ◌∙◌, arith}
use Rattle.v8_contained.specs.Placing.{HasBytesOf}
use Rattle.v8_map.specs.declared.TheConstants.{DATA_PLACE}
use Rattle.sbx_image.specs.Regions.{pages_for}
use Rattle.v8_board.specs.Start.{at_most}
use Rattle.v8_board.proofs.Regions.{bytes_placed, nothing_placed, pages_few, pages_more}
use Rattle.v8_board.proofs.placing.place_data.Goals as goal

pub loop-region-init : goal.loop-region-init
loop-region-init g c = record { count = refl; few = omega arith; bytes = nothing_placed _ _; port = refl; ended = refl; stopped = refl }

pub set_bytes-requires : goal.set_bytes-requires
set_bytes-requires g c =
    let l = c.loop-region in
    let taken = c.page_count-more.ensures.value ∙ ap (λ (bs : List ℕ). at_most 64 (pages_for (length bs))) c.as_slice-bytes.ensures in
    let few = pages_few c.args.regions.now l.region-index c.region-item.result (omega arith) c.region-item.is c.requires l.pages c.page_count-more.result l.invariant.count taken in
    omega arith

pub loop-region-preserved : goal.loop-region-preserved
loop-region-preserved g c =
    let l = c.loop-region in
    let less : l.region-index < length c.args.regions.now = omega arith in
    let taken = c.page_count-more.ensures.value ∙ ap (λ (bs : List ℕ). at_most 64 (pages_for (length bs))) c.as_slice-bytes.ensures in
    record {
      count = pages_more c.args.regions.now l.region-index c.region-item.result less c.region-item.is c.requires l.pages c.page_count-more.result l.invariant.count taken;
      few = pages_few c.args.regions.now l.region-index c.region-item.result less c.region-item.is c.requires l.pages c.page_count-more.result l.invariant.count taken;
      bytes = bytes_placed c.args.regions.now l.region-index c.region-item.result less c.region-item.is c.requires l.pages c.page_count-more.result
          l.invariant.count taken _ l.memory.ram _ l.invariant.bytes
          (subst (λ (bs : List ℕ). HasBytesOf (DATA_PLACE + 4096 * l.pages) bs
          (4096 * c.page_count-more.result) l.memory.ram c.set_bytes.new.self.ram) c.as_slice-bytes.ensures c.set_bytes.ensures.ram);
      port = c.set_bytes.ensures.port ∙ l.invariant.port;
      ended = c.set_bytes.ensures.ended ∙ l.invariant.ended;
      stopped = c.set_bytes.ensures.stopped ∙ l.invariant.stopped;
    }

pub returns-clause-data : goal.returns-clause-data
returns-clause-data g c = grind (arith, common_steps)

pub returns-clause-port : goal.returns-clause-port
returns-clause-port g c = assumption

pub returns-clause-ended : goal.returns-clause-ended
returns-clause-ended g c = assumption

pub returns-clause-stopped : goal.returns-clause-stopped
returns-clause-stopped g c = assumption

pub overflow_add-pages-in-loop-region : goal.overflow_add-pages-in-loop-region
overflow_add-pages-in-loop-region g c = grind (arith, common_steps)

pub page_count-more-requires-clause-count : goal.page_count-more-requires-clause-count
page_count-more-requires-clause-count g c = grind (arith, common_steps)

pub overflow_mul-pages : goal.overflow_mul-pages
overflow_mul-pages g c = grind (arith, common_steps)

pub overflow_mul-more : goal.overflow_mul-more
overflow_mul-more g c = grind (arith, common_steps)

pub overflow_add-pages : goal.overflow_add-pages
overflow_add-pages g c = grind (arith, common_steps)
