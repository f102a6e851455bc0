use Rattle.std.proofs.Common.{◌<◌, ◌≤◌, ◌-◌, ◌/◌, List, length, sym, ap, ◌∙◌, subst, arith}
use Rattle.std.specs.List.Sorted.{IsPartitionPoint}
use Rattle.sbx_image.specs.Block.{Block}
use Rattle.sbx_image.specs.Function.{Function}
use Rattle.sbx_known.specs.Sorted.{Ascend}
use Rattle.sbx_known.proofs.InOrder.{blocks_ascend}
use Rattle.inspect_known.proofs.Finding.{found, low, none_begun, none_found}
use Rattle.inspect_known.proofs.find.find_word.Goals as goal
use Rattle.inspect_known.proofs.find.find_word.Goals.{else-bytes-eq0-via-then-bytes-eq0+else-number-words_in, else-bytes-eq0-via-else-bytes-eq0}

pub begun-count-requires : goal.begun-count-requires
begun-count-requires c =
    let same = c.as_slice.ensures ∙ ap (λ (f : Function). f.blocks) c.function_at.ensures.value in
    subst (λ (bs : List Block). Ascend (λ (b : Block). b.address) bs) (sym same) (blocks_ascend c.args.image.now c.requires.keeps c.args.function c.requires.function)

pub returns-then-count-eq0 : goal.returns-then-count-eq0
returns-then-count-eq0 c =
    let same = c.as_slice.ensures ∙ ap (λ (f : Function). f.blocks) c.function_at.ensures.value in
    let few = subst (λ (bs : List Block). c.begun-count.result ≤ length bs) same c.begun-count.ensures.few in
    let point = subst
    (λ (bs : List Block). IsPartitionPoint (λ (b : Block). b.address ≤ c.args.address)
    (λ (b : Block). c.args.address < b.address) bs c.begun-count.result) same c.begun-count.ensures.point in
    none_begun c.args.image.now c.requires.keeps c.args.function c.requires.function c.args.address c.begun-count.result few point c.if-count-eq0.true

pub overflow_sub-bytes : goal.overflow_sub-bytes
overflow_sub-bytes c =
    let same = c.as_slice.ensures ∙ ap (λ (f : Function). f.blocks) c.function_at.ensures.value in
    let few = subst (λ (bs : List Block). c.begun-count.result ≤ length bs) same c.begun-count.ensures.few in
    let point = subst
    (λ (bs : List Block). IsPartitionPoint (λ (b : Block). b.address ≤ c.args.address)
    (λ (b : Block). c.args.address < b.address) bs c.begun-count.result) same c.begun-count.ensures.point in
    let some = c.if-count-eq0.false in
    let h = low c.args.image.now c.requires.keeps c.args.function c.requires.function c.args.address c.begun-count.result few point (c.begun-count.result - 1) (omega (arith, some)) in
    let e = ap (λ (b : Block). b.address) c.block_at.ensures in
    omega (arith, h, e)

pub returns-then-number-words_in : goal.returns-then-number-words_in
returns-then-number-words_in c =
    let same = c.as_slice.ensures ∙ ap (λ (f : Function). f.blocks) c.function_at.ensures.value in
    let few = subst (λ (bs : List Block). c.begun-count.result ≤ length bs) same c.begun-count.ensures.few in
    let point = subst
    (λ (bs : List Block). IsPartitionPoint (λ (b : Block). b.address ≤ c.args.address)
    (λ (b : Block). c.args.address < b.address) bs c.begun-count.result) same c.begun-count.ensures.point in
    let some = c.if-count-eq0.false in
    let h = low c.args.image.now c.requires.keeps c.args.function c.requires.function c.args.address c.begun-count.result few point (c.begun-count.result - 1) (omega (arith, some)) in
    let e = ap (λ (b : Block). b.address) c.block_at.ensures in
    let whole = c.if-bytes-eq0.true in
    let within = c.if-number-words_in.true in
    let count = c.words_in.ensures in
    found c.args.image.now c.requires.keeps c.args.function c.requires.function c.args.address c.begun-count.result few point (c.begun-count.result - 1)
    ((c.args.address - c.block_at.result.now.address) / 4)
    (omega (arith, some)) (omega (arith, within, count)) (omega (arith, h, e, whole))

pub returns-else-bytes-eq0 : goal.returns-else-bytes-eq0
returns-else-bytes-eq0 c =
    let same = c.as_slice.ensures ∙ ap (λ (f : Function). f.blocks) c.function_at.ensures.value in
    let few = subst (λ (bs : List Block). c.begun-count.result ≤ length bs) same c.begun-count.ensures.few in
    let point = subst
    (λ (bs : List Block). IsPartitionPoint (λ (b : Block). b.address ≤ c.args.address)
    (λ (b : Block). c.args.address < b.address) bs c.begun-count.result) same c.begun-count.ensures.point in
    let some = c.if-count-eq0.false in
    none_found c.args.image.now c.requires.keeps c.args.function c.requires.function c.args.address c.begun-count.result few point
    (c.begun-count.result - 1) c.block_at.result.now.address (omega (arith, some)) (ap (λ (b : Block). b.address) c.block_at.ensures)
    (λ whole within. elim c.else-bytes-eq0.branch [
      | else-bytes-eq0-via-then-bytes-eq0+else-number-words_in w ↦ absurd (let past = w.if-number-words_in in let count = w.words_in.ensures in omega (arith, past, count, within))
      | else-bytes-eq0-via-else-bytes-eq0 w ↦ absurd (let broken = w.if-bytes-eq0 in omega (arith, broken, whole))
    ])
