use Rattle.std.proofs.Common.{◌≡◌, ℕ, ◌+◌, List, [], ◌∷◌, ◌++◌, refl, ap, drop, ◌∙◌, arith}
use Rattle.sbx_asm.specs.declared.fault.AsmFault.{AsmFault}
use Rattle.sbx_asm.specs.Items.{Item, each}
use Rattle.sbx_asm.specs.declared.place.LocationCounter.{LocationCounter}
use Rattle.sbx_asm.specs.Kept.{worth}
use Rattle.inspect_check.specs.Alone.{found_at}
use Rattle.sbx_asm.proofs.Walks.{each_given, one_more}
use Rattle.inspect_check.proofs.faults.faults_behind.Goals as goal

pub loop-line-init : goal.loop-line-init
loop-line-init c = record {
  before = [];
  stands = c.start-place.ensures;
  found = ap (λ (found : List AsmFault). found ++ each (found_at (worth c.args.survey.now.table) c.args.survey.now.repeats.items c.args.behind) [] c.args.lines.now) c.new-found.ensures.items;
}

pub loop-line-preserved : goal.loop-line-preserved
loop-line-preserved c =
    let lines : List Item = c.args.lines.now in
    let gives : List Item → Item → List Item → List AsmFault = found_at (worth c.args.survey.now.table) c.args.survey.now.repeats.items c.args.behind in
    let so_far = c.loop-line.invariant in
    record {
      before = c.line-item.result ∷ so_far.before;
      stands = c.after-place.ensures so_far.before so_far.stands;
      found = one_more gives c.loop-line.found.items c.push_found.new.found.items
          (each gives [] lines) so_far.before lines c.loop-line.line-index c.line-item.result (drop (c.loop-line.line-index + 1) lines)
          c.loop-line-test.true c.line-item.is refl
          (c.in_ok-push_found.ensures so_far.before (drop (c.loop-line.line-index + 1) lines) (ap (λ (p : LocationCounter). p.next_word) so_far.stands)) so_far.found;
    }

pub returns : goal.returns
returns c = λ surveyed.
    let lines : List Item = c.args.lines.now in
    let gives : List Item → Item → List Item → List AsmFault = found_at (worth c.args.survey.now.table) c.args.survey.now.repeats.items c.args.behind in
    each_given gives c.loop-line.found.items (each gives [] lines) c.loop-line.invariant.before lines c.loop-line.line-index (omega arith) c.loop-line.invariant.found
    ∙ (λ j. each (found_at (surveyed.0 j) (surveyed.1 j) c.args.behind) [] lines)
