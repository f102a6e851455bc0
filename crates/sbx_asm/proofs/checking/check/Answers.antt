use Rattle.std.proofs.Common.{ℕ, ◌+◌, List, [], ◌∷◌, ◌++◌, refl, ap, arith}
use Rattle.std.proofs.lemmas.Grind.{common_steps}
use Rattle.std.specs.List.{fold}
use Rattle.sbx_asm.specs.Rules.{told, Values, faults_at}
use Rattle.sbx_asm.specs.Items.{Item, each}
use Rattle.sbx_asm.specs.Images.{words_at}
use Rattle.sbx_asm.specs.Kept.{worth}
use Rattle.sbx_asm.proofs.Walks.{rest_is, one_more, told_more}
use Rattle.sbx_asm.proofs.checking.check.Goals as goal

pub loop-at-init : goal.loop-at-init
loop-at-init c = record {
  before = [];
  context = c.start-context.ensures (worth c.args.table.now);
  faults = refl;
  words = ap (λ (ws : List ℕ). ws ++ each (words_at (worth c.args.table.now)) [] c.args.lines.now) c.new.ensures.items;
}

pub loop-at-preserved : goal.loop-at-preserved
loop-at-preserved c =
    let values : Values = worth c.args.table.now in
    let lines : List Item = c.args.lines.now in
    let k : ℕ = c.loop-at.at in
    let i : Item = c.index-lines-at.result in
    let so_far = c.loop-at.invariant in
    let own = c.in_ok-is_acting.ensures so_far.before so_far.context in
    let rest = rest_is lines (k + 1) in
    record {
      before = i ∷ so_far.before;
      context = c.after-context.ensures values so_far.before so_far.context own.0;
      faults = told_more (faults_at values) c.loop-at.checked.fault c.add_line.new.self.fault
          (fold told c.args.told_before
          (each (faults_at values) [] lines)) so_far.before lines k i _ c.loop-at-test.true c.index-lines-at.is rest own.1 so_far.faults;
      words = one_more (words_at values) c.loop-at.checked.words.items c.add_line.new.self.words.items
          (each (words_at values) [] lines) so_far.before lines k i _ c.loop-at-test.true c.index-lines-at.is rest own.2 so_far.words;
    }

pub returns : goal.returns
returns c = grind (arith, common_steps)
