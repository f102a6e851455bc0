use Rattle.std.proofs.Common.{◌≡◌, Bool, true, false, Option, Some, None, sym, ap, ◌∙◌, List}
use Rattle.std.specs.Prelude.{◌&&◌, not}
use Rattle.sbx_image.specs.Range.{Range}
use Rattle.sbx_rules.specs.Known.{Known, known}
use Rattle.sbx_rules.specs.Rules.{has_outs, is_back}
use Rattle.sbx_known.specs.declared.courses.Course.{Course}
use Rattle.sbx_known.specs.Courses.{is_any}
use Rattle.sbx_pass.proofs.after.breaks_results.Goals as goal

returned : (course : Option Course) (d : Known) (results : List Range) (t : Bool) → is_any (λ v. is_back v.way) course d ≡ t →
    is_any (λ v. is_back v.way && not (has_outs 8 results v.known)) course d ≡ (t && not (has_outs 8 results d))
returned None d results t e = ap (λ b. b && not (has_outs 8 results d)) e
returned (Some c) d results t e = ap (λ b. b && not (has_outs 8 results d)) e

pub returns-then-comes_back : goal.returns-then-comes_back
returns-then-comes_back c =
    let d = known c.args.state.now in
    ap not (c.has_outs.ensures ∙ ap (λ (rs : List Range). has_outs 8 rs d) c.as_slice.ensures)
    ∙ sym (returned c.args.course d c.args.function.now.results true (sym (c.comes_back.ensures d) ∙ c.if-comes_back.true))

pub returns-else-comes_back : goal.returns-else-comes_back
returns-else-comes_back c =
    let d = known c.args.state.now in
    c.if-comes_back.false ∙ sym (returned c.args.course d c.args.function.now.results false (sym (c.comes_back.ensures d) ∙ c.if-comes_back.false))
