use Rattle.std.proofs.Common.{◌+◌, drop, false, get_or, length}
use Rattle.std.specs.Prelude.{◌||◌}
use Rattle.std.proofs.lemmas.List.{at_drop_all}
use Rattle.native_text.specs.Pauses.{returns_to}
use Rattle.native_text.proofs.Marks.{arms_first, left_all, left_less, left_none}
use Rattle.native_text.proofs.points.Heads.note_arms.Goals as goal

pub loop-arm-init : goal.loop-arm-init
loop-arm-init c = left_all c.args.self.now.marks.items (λ k. returns_to k c.args.arms.now)

pub loop-arm-preserved : goal.loop-arm-preserved
loop-arm-preserved c =
    let arms = c.args.arms.now in
    let l = c.loop-arm in
    left_less l.self.marks.items c.mark.new.self.marks.items (length c.args.self.now.marks.items) _ (λ k. returns_to k (drop (l.arm-index + 1) arms))
    (λ k. returns_to k (drop l.arm-index arms)) (λ k. get_or c.args.self.now.marks.items k false || returns_to k arms)
    (λ k. arms_first arms l.arm-index _ k c.loop-arm-test.true) c.mark.ensures l.invariant

pub returns : goal.returns
returns c =
    let arms = c.args.arms.now in
    let l = c.loop-arm in
    record {
      count = l.invariant.count;
      marks = left_none l.self.marks.items (length c.args.self.now.marks.items) (λ k. returns_to k (drop l.arm-index arms))
          (λ k. get_or c.args.self.now.marks.items k false || returns_to k arms)
          (λ k. at_drop_all (returns_to k) arms l.arm-index c.loop-arm-test.false) l.invariant;
    }
