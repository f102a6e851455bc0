use Rattle.std.proofs.Common.{sym, subst}
use Rattle.v8_meaning.specs.declared.operation.Operation.TheVariants.{TaggedTrap}
use Rattle.native_results.specs.Words.{Adds}
use Rattle.native_results.proofs.Divisions.{adds_tag, subtracts_tag}
use Rattle.native_results.proofs.Making.{on_ok}
use Rattle.native_results.proofs.statements.Statements.compute_tagged.Goals as goal

pub returns-in-TaggedAdd : goal.returns-in-TaggedAdd
returns-in-TaggedAdd c =
    let f = c.args.f.now in
    let old = c.args.self.now.list.items in
    let new = c.compute.new.self.list.items in
    on_ok c.compute.result (λ _ h. subst (λ o. Adds (TaggedTrap o f) old new) (sym c.in-TaggedAdd.is) (adds_tag f old new h)) c.compute.ensures

pub returns-in-TaggedSub : goal.returns-in-TaggedSub
returns-in-TaggedSub c =
    let f = c.args.f.now in
    let old = c.args.self.now.list.items in
    let new = c.compute-in-TaggedSub.new.self.list.items in
    on_ok c.compute-in-TaggedSub.result (λ _ h. subst (λ o. Adds (TaggedTrap o f) old new) (sym c.in-TaggedSub.is) (subtracts_tag f old new h)) c.compute-in-TaggedSub.ensures
