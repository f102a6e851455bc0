use Rattle.std.proofs.Common.{◌≡◌, ℕ, ◌+◌, ◌<◌, refl, ap, ◌∙◌, subst, inl, arith}
use Rattle.std.specs.Prelude.{◌⊎◌}
use Rattle.sbx_image.specs.Order.{words_in}
use Rattle.sbx_rules.specs.Places.{callee_at, callee_before, op_at, op_before}
use Rattle.sbx_known.proofs.Counts.{few_words, from_spot, next_one}
use Rattle.inspect_cycles.specs.Pieces.{Ends, EndsAt, EndsWithin, IsOfBlock, IsWithin, least, piece_before}
use Rattle.inspect_cycles.specs.declared.pieces.Piece.{Piece}
use Rattle.inspect_cycles.proofs.Blocks.{IsBefore, at_ends, ends_at, keeps, nothing_before, one_of, or_last, piece_on, some_of_least, weaker, within_more}
use Rattle.inspect_cycles.proofs.pieces.dearest_in_block.Goals as goal

pub loop-number-init : goal.loop-number-init
loop-number-init c = record {
  within = λ i less. absurd (omega (arith, less));
  is = inl c.least-dearest.ensures;
  some = some_of_least c.least-dearest.result c.least-dearest.ensures;
  piece = c.no_words-piece.ensures ∙ nothing_before c.args.table.now c.args.image.now c.args.function c.args.block;
  few_cycles = (let none = ap (λ (p : Piece). p.cycles) c.no_words-piece.ensures in omega (arith, none));
  few_turns = (let none = ap (λ (p : Piece). p.turns) c.no_words-piece.ensures in omega (arith, none));
  before = refl;
  called = refl;
  called_is = tt;
}

pub ending-requires-clause-cycles : goal.ending-requires-clause-cycles
ending-requires-clause-cycles c =
    let few = few_words c.args.image.now c.args.function c.args.block c.requires.keeps c.requires.block in
    let bound = c.loop-number.invariant.few_cycles in
    let within = c.loop-number-test.true in
    let count = c.words_in-count.ensures in
    omega (arith, few, bound, within, count)

pub ending-requires-clause-turns : goal.ending-requires-clause-turns
ending-requires-clause-turns c =
    let few = few_words c.args.image.now c.args.function c.args.block c.requires.keeps c.requires.block in
    let bound = c.loop-number.invariant.few_turns in
    let within = c.loop-number-test.true in
    let count = c.words_in-count.ensures in
    omega (arith, few, bound, within, count)

pub going_on-piece-requires-clause-cycles : goal.going_on-piece-requires-clause-cycles
going_on-piece-requires-clause-cycles c =
    let few = few_words c.args.image.now c.args.function c.args.block c.requires.keeps c.requires.block in
    let bound = c.loop-number.invariant.few_cycles in
    let within = c.loop-number-test.true in
    let count = c.words_in-count.ensures in
    omega (arith, few, bound, within, count)

pub going_on-piece-requires-clause-turns : goal.going_on-piece-requires-clause-turns
going_on-piece-requires-clause-turns c =
    let few = few_words c.args.image.now c.args.function c.args.block c.requires.keeps c.requires.block in
    let bound = c.loop-number.invariant.few_turns in
    let within = c.loop-number-test.true in
    let count = c.words_in-count.ensures in
    omega (arith, few, bound, within, count)

pub loop-number-preserved : goal.loop-number-preserved
loop-number-preserved c =
    let t = c.args.table.now in
    let parts = c.args.image.now in
    let f = c.args.function in
    let b = c.args.block in
    let i = c.loop-number.number in
    let r = c.spot_at-spot.result in
    let at = c.spot_at-spot.ensures.place in
    let spot = c.spot_at-spot.ensures.spot in
    let piece = c.loop-number.piece in
    let next = c.dearer-dearest.result in
    let op_is = from_spot (λ f b i. r.operation ≡ op_at parts f b i) f b i r.function r.block r.number at.0 at.1 at.2 spot.operation in
    let before_is = from_spot (λ f b i. r.before ≡ op_before parts f b i) f b i r.function r.block r.number at.0 at.1 at.2 spot.before in
    let count_is = from_spot (λ f b i. r.count ≡ words_in parts f b) f b i r.function r.block r.number at.0 at.1 at.2 spot.count in
    let calls = from_spot (λ f b i. r.callee ≡ callee_at parts f b i) f b i r.function r.block r.number at.0 at.1 at.2 spot.callee in
    let is : IsBefore t parts piece r.before r.operation r.count f b i =
    record { piece_is = c.loop-number.invariant.piece; before_is = before_is; op_is = op_is; count_is = count_is } in
    let ending = c.ending.result in
    let Here : ℕ → Piece → Type 0 = λ n ended. Ends t piece r.before r.operation n r.count ended in
    let within : (ended : Piece) → Here i ended → IsWithin ending ended = subst (λ n. (ended : Piece) → Here n ended → IsWithin ending ended) at.2 c.ending.ensures.within in
    let ended_is : (ending ≡ least) ⊎ Here i ending = subst (λ n. (ending ≡ least) ⊎ Here n ending) at.2 c.ending.ensures.is in
    let ended : EndsWithin t parts next f b i =
    λ x at_it. within_more next ending x c.ending.ensures.some c.dearer-dearest.ensures.other (within x (at_ends t parts piece r.before r.operation r.count f b i is x at_it)) in
    let few_cycles = c.loop-number.invariant.few_cycles in
    let few_turns = c.loop-number.invariant.few_turns in
    let more_cycles = c.going_on-piece.ensures.few_cycles in
    let more_turns = c.going_on-piece.ensures.few_turns in
    let EndsBelow : ℕ → Piece → Type 0 = λ n x. (j : ℕ) × (j < n) × EndsAt t parts f b j x in
    let earlier = weaker (EndsBelow i) (EndsBelow (i + 1)) c.loop-number.dearest (λ h. (h.0, (let less = h.1 in omega (arith, less)), h.2)) c.loop-number.invariant.is in
    let this = weaker (Here i) (EndsBelow (i + 1)) ending (λ h. (i, omega arith, ends_at t parts piece r.before r.operation r.count f b i is ending h)) ended_is in
    record {
      within = λ j less. or_last (EndsWithin t parts next f b) i j less ended
          (λ before. keeps t parts c.loop-number.dearest next f b j c.loop-number.invariant.some c.dearer-dearest.ensures.one (c.loop-number.invariant.within j before));
      is = one_of (EndsBelow (i + 1)) c.loop-number.dearest ending next c.dearer-dearest.ensures.is earlier this;
      some = c.dearer-dearest.ensures.some c.loop-number.invariant.some c.ending.ensures.some;
      piece = piece_on t parts piece r.before r.operation r.count f b i is c.going_on-piece.result c.going_on-piece.ensures.is ∙ ap (piece_before t parts f b) (next_one i);
      few_cycles = omega (arith, few_cycles, more_cycles);
      few_turns = omega (arith, few_turns, more_turns);
      before = op_is ∙ ap (op_before parts f b) (next_one i);
      called = calls ∙ ap (callee_before parts f b) (next_one i);
      called_is = spot.callee_is;
    }

pub returns : goal.returns
returns c =
    let t = c.args.table.now in
    let parts = c.args.image.now in
    let f = c.args.function in
    let b = c.args.block in
    let so_far = c.loop-number.invariant in
    let over = c.loop-number-test.false in
    let end = c.loop-number.auto.number-end in
    let count = c.words_in-count.ensures in
    record {
      some = so_far.some;
      within = λ i word. so_far.within i (omega (arith, over, count, word));
      is = weaker (λ x. (i : ℕ) × (i < c.loop-number.number) × EndsAt t parts f b i x) (IsOfBlock t parts f b) c.loop-number.dearest
          (λ h. (h.0, (let less = h.1 in omega (arith, less, end, count)), h.2)) so_far.is;
    }
