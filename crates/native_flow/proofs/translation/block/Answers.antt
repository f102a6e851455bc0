use Rattle.std.proofs.Common.{◌<◌, length, nat_lt, slice_index, refl, sym, ap, ◌∙◌, subst, arith}
use Rattle.std.proofs.lemmas.Result.{IfOk-weaker}
use Rattle.native_ends.specs.Translations.{AsksFor, HasSlot, LiesIn}
use Rattle.native_flow.specs.Labelling.{labels_of, word_address}
use Rattle.native_flow.specs.Making.{Stands}
use Rattle.native_flow.specs.Translating.{Grows}
use Rattle.native_flow.proofs.Growing.{any_ok, none_more}
use Rattle.native_flow.proofs.Standing.{stands_first, stands_next}
use Rattle.native_flow.proofs.Starting.{few_words}
use Rattle.native_flow.proofs.Stretches.{asks_there, few_functions, next_word, slot_there}
use Rattle.native_flow.proofs.translation.block.Goals as goal

pub word_address-requires : goal.word_address-requires
word_address-requires c =
    let few = few_words c.args.image.now c.keeps_its_format.ensures.kept in
    let within = c.words_of-first.ensures.within in
    let less = c.loop-k-test.true in
    omega (arith, few, within, less)

pub word_address-requires-2 : goal.word_address-requires-2
word_address-requires-2 c =
    let few = few_words c.args.image.now c.keeps_its_format.ensures.kept in
    let within = c.words_of-first.ensures.within in
    omega (arith, few, within)

pub closed-requires-clause-few : goal.closed-requires-clause-few
closed-requires-clause-few c =
    let same = ap length c.loop-k.invariant.same in
    let few = c.requires.few in
    omega (arith, same, few)

pub closed-requires-clause-number : goal.closed-requires-clause-number
closed-requires-clause-number c =
    let few = few_functions c.args.image.now c.keeps_its_format.ensures.kept c.args.labels.now.starts.items c.args.labels.now.owners.items c.requires.starts c.args.number c.requires.number in
    let same = ap (λ l. slice_index l c.args.number) c.as_slice.ensures.value in
    omega (arith, few, same)

pub loop-k-init : goal.loop-k-init
loop-k-init c = record {
  stands = stands_first c.args.image.now (labels_of c.args.labels.now.starts.items) (slice_index c.as_slice.result.now c.args.number) (slice_index c.args.labels.now.starts.items c.args.number)
      c.words_of-first.result.0 c.new-making.result c.words_of-first.ensures.begins
      (c.new-making.ensures.stands c.args.image.now (labels_of c.args.labels.now.starts.items) (slice_index c.as_slice.result.now c.args.number) (slice_index c.args.labels.now.starts.items c.args.number));
  same = refl;
}

pub loop-k-preserved : goal.loop-k-preserved
loop-k-preserved c =
    let within = c.words_of-first.ensures.within in
    let test = c.loop-k-test.true in
    let less : c.loop-k.k < length c.args.image.now.words = omega (arith, within, test) in
    record {
      stands = stands_next c.args.image.now (labels_of c.args.labels.now.starts.items) (slice_index c.as_slice.result.now c.args.number) (slice_index c.args.labels.now.starts.items c.args.number)
          c.words_of-first.result.0 c.loop-k.k (nat_lt c.words_of-first.result.0 c.loop-k.k) c.asked-operation.result c.loop-k.making c.pass.new.making c.loop-k.auto.k
          (next_word c.args.image.now c.loop-k.k c.keeps_its_format.ensures.kept less)
          (asks_there c.args.image.now c.words-words.result.now c.loop-k.k c.asked-operation.result c.words-words.ensures less c.asked-operation.ensures)
          (c.in_ok-pass.ensures (sym c.is_closing.ensures ∙ c.if-is_closing.false)) c.loop-k.invariant.stands;
      same = c.loop-k.invariant.same;
    }

pub returns-then-is_closing-clause-block : goal.returns-then-is_closing-clause-block
returns-then-is_closing-clause-block c =
    let parts = c.args.image.now in
    let k = c.loop-k.k in
    let function = slice_index c.as_slice.result.now c.args.number in
    let start = slice_index c.args.labels.now.starts.items c.args.number in
    let some = nat_lt c.words_of-first.result.0 k in
    let within = c.words_of-first.ensures.within in
    let test = c.loop-k-test.true in
    let less : k < length parts.words = omega (arith, within, test) in
    let same = ap (λ l. slice_index l c.args.number) c.as_slice.ensures.value in
    let at = sym c.word_address.ensures in
    let asks = subst (λ a. AsksFor parts a c.asked-operation.result) at (asks_there parts c.words-words.result.now k c.asked-operation.result c.words-words.ensures less c.asked-operation.ensures) in
    let slot = subst (λ a. HasSlot parts a c.slot_behind.result) at
    (slot_there parts c.words-words.result.now k c.slot_behind.result c.words-words.ensures c.keeps_its_format.ensures.kept less c.slot_behind.ensures) in
    let lies = subst (λ a. LiesIn parts function a) at (subst (λ g. LiesIn parts g (word_address k)) (sym same) (c.words_of-first.ensures.lies k c.loop-k.auto.k test)) in
    let stands = subst (λ a. Stands parts (labels_of c.args.labels.now.starts.items) function start some a c.loop-k.making) at c.loop-k.invariant.stands in
    IfOk-weaker c.closed.result _ _ (λ block h. h start some (sym c.is_closing.ensures ∙ c.if-is_closing.true) asks slot lies stands) c.closed.ensures.block

pub returns-then-is_closing-clause-grows : goal.returns-then-is_closing-clause-grows
returns-then-is_closing-clause-grows c =
    IfOk-weaker c.closed.result _ _ (λ _ h. subst (λ l. Grows l c.closed.new.edges.items) c.loop-k.invariant.same h) c.closed.ensures.grows

pub returns-clause-grows : goal.returns-clause-grows
returns-clause-grows c = any_ok c.ended.result _ (none_more c.args.edges.now.items c.loop-k.edges.items c.loop-k.invariant.same)
