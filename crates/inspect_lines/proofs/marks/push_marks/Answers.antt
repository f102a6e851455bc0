use Rattle.std.proofs.lemmas.Grind.{common_steps}
use Rattle.std.proofs.Common.{◌≡◌, ℕ, ◌++◌, subst, string_bytes, arith}
use Rattle.inspect_lines.specs.Marks.{marks_text}
use Rattle.inspect_lines.proofs.marks.push_marks.Goals as goal

pub returns : goal.returns
returns c =
    let all : c.loop-page.page ≡ 64 = omega (arith, c.loop-page-test.false, c.loop-page.auto.page-end) in
    subst (λ (n : ℕ). string_bytes c.loop-page.out ≡ string_bytes c.args.out.now ++ marks_text c.args.referenced c.args.modified n) all c.loop-page.invariant

pub loop-page-preserved : goal.loop-page-preserved
loop-page-preserved c = grind (arith, common_steps)
