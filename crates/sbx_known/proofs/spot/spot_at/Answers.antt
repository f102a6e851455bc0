use Rattle.std.proofs.Common.{ap, subst, ◌∙◌, ◌≡◌, ℕ}
use Rattle.std.specs.Prelude.{◌↔◌, IsTrue, ◌⊎◌}
use Rattle.v8_formats.specs.Table.{meaning, IsCanonical}
use Rattle.v8_meaning.specs.Operations.{operation_of}
use Rattle.v8_meaning.specs.declared.operation.Operation.{Operation}
use Rattle.sbx_image.specs.Order.{address_of}
use Rattle.sbx_rules.specs.Rules.{is_undefined}
use Rattle.sbx_rules.specs.Places.{callee_at, callee_of, op_at, word_of_place}
use Rattle.sbx_known.proofs.spot.spot_at.Goals as goal

pub returns-clause-spot : goal.returns-clause-spot
unfolding callee_at
returns-clause-spot c =
    let parts = c.args.image.now in
    let f = c.args.place.0 in
    let b = c.args.place.1 in
    let i = c.args.place.2 in
    let op : c.operation_of-operation.result ≡ op_at parts f b i =
    c.operation_of-operation.ensures ∙ ap operation_of (c.decode-instr.ensures.value ∙ ap meaning c.word_of-word.ensures) in
    record {
      keeps = c.requires.keeps;
      place = c.requires.place;
      count = c.requires.count;
      word = c.word_of-word.ensures;
      no_instruction = subst (λ (w : ℕ). IsTrue c.is_no_instruction.result ↔ (IsTrue (is_undefined (meaning w)) ⊎ (IsCanonical w → ⊥)))
          c.word_of-word.ensures c.is_no_instruction.ensures;
      operation = op;
      before = c.requires.before;
      callee = c.callee_of.ensures.value ∙ ap (λ (a : ℕ). callee_of parts a c.operation_of-operation.result) c.address_of-address.ensures.value
          ∙ ap (λ (o : Operation). callee_of parts (address_of parts f b i) o) op;
      called = c.requires.called;
      callee_is = c.callee_of.ensures.bound;
      called_is = c.requires.called_is;
    }
