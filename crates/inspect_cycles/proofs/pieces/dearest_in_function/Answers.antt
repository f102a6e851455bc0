use Rattle.std.proofs.Common.{ℕ, ◌≡◌, ◌+◌, ◌<◌, ap, ◌∙◌, length, arith}
use Rattle.sbx_image.specs.Function.{Function}
use Rattle.sbx_image.specs.Order.{function_at}
use Rattle.inspect_cycles.specs.Pieces.{AreWithin, IsOfBlock}
use Rattle.inspect_cycles.specs.declared.pieces.Piece.{Piece}
use Rattle.inspect_cycles.proofs.Blocks.{keeps, one_of, or_last, weaker}
use Rattle.inspect_cycles.proofs.pieces.dearest_in_function.Goals as goal

pub loop-block-preserved : goal.loop-block-preserved
loop-block-preserved c =
    let t = c.args.table.now in
    let parts = c.args.image.now in
    let f = c.args.function in
    let n = c.loop-block.block in
    let next = c.dearer-dearest.result in
    let this = c.dearest_in_block in
    let so_far = c.loop-block.invariant in
    let Below : ℕ → Piece → Type 0 = λ m x. (b : ℕ) × (b < m) × IsOfBlock t parts f b x in
    record {
      within = λ b less. or_last (AreWithin t parts next f) n b less
          (λ i word. keeps t parts this.result next f n i this.ensures.some c.dearer-dearest.ensures.other (this.ensures.within i word))
          (λ before i word. keeps t parts c.loop-block.dearest next f b i so_far.some c.dearer-dearest.ensures.one (so_far.within b before i word));
      is = one_of (Below (n + 1)) c.loop-block.dearest this.result next c.dearer-dearest.ensures.is
          (weaker (Below n) (Below (n + 1)) c.loop-block.dearest (λ h. (h.0, (let less = h.1 in omega (arith, less)), h.2)) so_far.is)
          (weaker (IsOfBlock t parts f n) (Below (n + 1)) this.result (λ h. (n, omega arith, h)) this.ensures.is);
      some = c.dearer-dearest.ensures.some so_far.some this.ensures.some;
    }

pub returns-clause-within : goal.returns-clause-within
returns-clause-within c b block i word ended at =
    let over = c.loop-block-test.false in
    let count : c.len-block-end.result ≡ length (function_at c.args.image.now c.args.function).blocks = c.len-block-end.ensures ∙ ap (λ (f : Function). length f.blocks) c.function_at.ensures.value in
    let less = block.1 in
    c.loop-block.invariant.within b (omega (arith, over, count, less)) i word ended at
