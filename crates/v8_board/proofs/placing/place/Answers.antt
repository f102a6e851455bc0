use Rattle.std.proofs.lemmas.Grind.{common_steps}
use Rattle.std.proofs.Common.{◌≡◌, ℕ, ◌*◌, List, length, ap, sym, subst, ◌∙◌, arith}
use Rattle.sbx_image.specs.Region.{Region}
use Rattle.sbx_image.specs.Regions.{laid, page_rights}
use Rattle.v8_contained.specs.Layout.{Pages, data_count}
use Rattle.v8_layout.specs.Tables.{table_word}
use Rattle.v8_contained.specs.Placing.{HasWords, HasBytesOf}
use Rattle.v8_board.specs.Start.{IsPlaced, pages_of}
use Rattle.v8_board.proofs.Placed.{data_counted, placed}
use Rattle.v8_board.proofs.placing.place.Goals as goal

pub returns-clause-ram : goal.returns-clause-ram
returns-clause-ram g c =
    let p = c.args.image.now in
    let pages = c.pages_of-pages.result in
    let same = c.pages_of-pages.ensures in
    let m3 = c.set_words-3.new.self.ram in
    let m4 = c.set_words-4.new.self.ram in
    let m5 = c.place_data.new.memory.ram in
    let counted : data_count (pages_of p) ≡ length (page_rights p.regions) = data_counted p c.regions.ensures.pages in
    subst (λ (m : List ℕ). IsPlaced g.row.N p c.args.memory.now.ram m) (sym c.restart.ensures.ram)
    (placed g.row.N p pages.code (length (page_rights p.regions)) c.trap_table.result c.handler_page.result c.page_tables.result _ _ _ _ _ _
    (ap (λ (x : Pages). x.code_count) (sym same)) counted (c.place_data.ensures.data.size ∙ c.set_words-4.ensures.size)
    c.trap_table.ensures c.handler_page.ensures
    (λ k less. c.page_tables.ensures k less ∙ ap (λ (x : Pages). table_word x k) same)
    c.set_words.ensures.ram c.set_words-2.ensures.ram c.set_words-3.ensures.ram
    (subst (λ (ws : List ℕ). HasWords 0x10000 ws (1024 * pages.code) m3 m4) c.words.ensures
    (subst (λ k. HasWords 0x10000 c.words.result.now k m3 m4) c.code_words.ensures c.set_words-4.ensures.ram))
    (subst (λ (rs : List Region). HasBytesOf 0x50000 (laid rs) (4096 * length (page_rights rs)) m4 m5) c.regions-2.ensures.value c.place_data.ensures.data))

pub returns-clause-bytes : goal.returns-clause-bytes
returns-clause-bytes g c = assumption

pub returns-clause-port : goal.returns-clause-port
returns-clause-port g c = grind (arith, common_steps)

pub place_data-requires : goal.place_data-requires
place_data-requires g c = grind (arith, common_steps)

pub set_words-requires-4-clause-whole : goal.set_words-requires-4-clause-whole
set_words-requires-4-clause-whole g c = assumption

pub returns-clause-stopped : goal.returns-clause-stopped
returns-clause-stopped g c = assumption

pub returns-clause-ended : goal.returns-clause-ended
returns-clause-ended g c = assumption

pub handler_page-requires-clause-many : goal.handler_page-requires-clause-many
handler_page-requires-clause-many g c = assumption

pub handler_page-requires-clause-few : goal.handler_page-requires-clause-few
handler_page-requires-clause-few g c = assumption

pub set_words-requires-3-clause-whole : goal.set_words-requires-3-clause-whole
set_words-requires-3-clause-whole g c = assumption

pub slice_bounds-set_words-end-2 : goal.slice_bounds-set_words-end-2
slice_bounds-set_words-end-2 g c = grind (arith, common_steps)

pub pages_of-pages-requires-clause-few : goal.pages_of-pages-requires-clause-few
pages_of-pages-requires-clause-few g c = grind (arith, common_steps)

pub slice_bounds-rights-end : goal.slice_bounds-rights-end
slice_bounds-rights-end g c = grind (arith, common_steps)

pub rights_of-count-requires : goal.rights_of-count-requires
rights_of-count-requires g c = grind (arith, common_steps)

pub slice_bounds-set_words-end-3 : goal.slice_bounds-set_words-end-3
slice_bounds-set_words-end-3 g c = grind (arith, common_steps)

pub pages_of-pages-requires-clause-rights : goal.pages_of-pages-requires-clause-rights
pages_of-pages-requires-clause-rights g c = grind (arith, common_steps)

pub set_words-requires-3-clause-fits : goal.set_words-requires-3-clause-fits
set_words-requires-3-clause-fits g c = grind (arith, common_steps)

pub set_words-requires-2-clause-fits : goal.set_words-requires-2-clause-fits
set_words-requires-2-clause-fits g c = grind (arith, common_steps)

pub slice_bounds-pages_of-end : goal.slice_bounds-pages_of-end
slice_bounds-pages_of-end g c = grind (arith, common_steps)
