use Rattle.std.proofs.Common.{arith, ℕ, List, slice_index, sym, subst, ap, ◌∙◌}
use Rattle.std.specs.Prelude.{bit_and, bit_or, bit_xor, ◌==◌}
use Rattle.v8_alu.specs.Results.{from_flag}
use Rattle.native_results.specs.Bench.{Turns}
use Rattle.native_results.specs.Recipes.{with_tags}
use Rattle.native_results.proofs.Making.{on_ok, one}
use Rattle.native_results.proofs.statements.Statements.tags.Goals as goal

abbrev tag : List ℕ → ℕ
tag v = bit_xor (from_flag (bit_and (bit_or (slice_index v 40) (slice_index v 41)) 3 == 0)) 1

pub returns : goal.returns
returns c =
    let old = c.args.self.now.list.items in
    let new = c.set.new.self.list.items in
    on_ok c.set.result (λ _ at. subst (λ b. Turns (with_tags b) old new) (sym c.if-not-tags.false)
    (one 34 c.in_ok-overflow.overflow (λ v. bit_or (slice_index v 34) (tag v)) old new (omega arith) (omega arith) at
    (λ v. c.in_ok-overflow.ensures v ∙ ap (bit_or (slice_index v 34)) (c.in_ok-tagged.ensures v)))) c.set.ensures
