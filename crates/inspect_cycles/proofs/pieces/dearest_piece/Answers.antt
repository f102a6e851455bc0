use Rattle.std.proofs.Common.{ℕ, List, length, ap, arith}
use Rattle.sbx_image.specs.Function.{Function}
use Rattle.sbx_known.specs.Spots.{IsBlock}
use Rattle.inspect_cycles.specs.Pieces.{AreWithin, IsOfBlock}
use Rattle.inspect_cycles.specs.declared.pieces.Piece.{Piece}
use Rattle.inspect_cycles.proofs.Blocks.{keeps, one_of, or_last, weaker}
use Rattle.inspect_cycles.proofs.pieces.dearest_piece.Goals as goal

pub loop-function-preserved : goal.loop-function-preserved
loop-function-preserved c =
    let t = c.args.table.now in
    let parts = c.args.image.now in
    let n = c.loop-function.function in
    let next = c.dearer-dearest.result in
    let this = c.dearest_in_function in
    let so_far = c.loop-function.invariant in
    let Any : Piece → Type 0 = λ x. (f : ℕ) × (b : ℕ) × IsBlock parts f b × IsOfBlock t parts f b x in
    let One : Piece → Type 0 = λ x. (b : ℕ) × IsBlock parts n b × IsOfBlock t parts n b x in
    record {
      within = λ f b less. or_last (λ f. IsBlock parts f b → AreWithin t parts next f b) n f less
          (λ block i word. keeps t parts this.result next n b i this.ensures.some c.dearer-dearest.ensures.other (this.ensures.within b block i word))
          (λ before block i word. keeps t parts c.loop-function.dearest next f b i so_far.some c.dearer-dearest.ensures.one (so_far.within f b before block i word));
      is = one_of Any c.loop-function.dearest this.result next c.dearer-dearest.ensures.is so_far.is
          (weaker One Any this.result (λ h. (n, h.0, h.1, h.2)) this.ensures.is);
      some = c.dearer-dearest.ensures.some so_far.some this.ensures.some;
    }

pub returns : goal.returns
returns c =
    let so_far = c.loop-function.invariant in
    let over = c.loop-function-test.false in
    let count = ap (λ (fs : List Function). length fs) c.functions-function-end.ensures.value in
    record {
      some = so_far.some;
      within = λ f b block. so_far.within f b (let less = block.0 in omega (arith, over, count, less)) block;
      is = so_far.is;
    }
