use Rattle.std.proofs.Common.{◌≡◌, ℕ, false, Option, sym, ap, ◌∙◌, arith, inl, inr}
use Rattle.std.specs.Prelude.{not}
use Rattle.std.specs.List.{list_any}
use Rattle.sbx_rules.specs.Known.{known}
use Rattle.sbx_image.specs.Order.{function_at}
use Rattle.sbx_rules.specs.Places.{op_at, op_before}
use Rattle.sbx_rules.specs.Rules.{has_cells, misses_params, params_of}
use Rattle.sbx_rules.specs.Ways.{after_call, visits_at}
use Rattle.sbx_known.specs.Courses.{IsStraight, is_branch, runs}
use Rattle.sbx_known.proofs.Stepping.{arrivals_are, params_told, performed}
use Rattle.sbx_pass.proofs.step.fault_once_run.Goals as goal

pub returns-then-end_call-clause-told : goal.returns-then-end_call-clause-told
returns-then-end_call-clause-told c =
    let parts = c.args.image.now in
    let f = c.args.spot.now.function in
    let b = c.args.spot.now.block in
    let i = c.args.spot.now.number in
    let s = c.requires.spot in
    let cs = c.args.courses.now in
    let o = c.args.spot.now.operation in
    let d = known c.args.here.now in
    let e = known c.args.other.now in
    let d1 = known c.perform_on.new.here in
    let e1 = known c.perform_on.new.other in
    let straight : is_branch (op_before parts f b i) ≡ false → IsStraight cs = λ h. c.requires.straight (ap is_branch s.before ∙ h) in
    let first = performed (function_at parts f).frame o (op_at parts f b i) (runs cs.first) d d1 s.operation c.perform_on.ensures.first in
    let second = performed (function_at parts f).frame o (op_at parts f b i) (runs cs.second) e e1 s.operation c.perform_on.ensures.second in
    let told : list_any (misses_params parts f b i) (visits_at parts f b i) ≡ c.end_call.result =
    params_told parts f b i cs d e d1 e1 c.requires.visits straight first second
    ∙ ap (λ (g : Option ℕ). not (has_cells d1 (params_of parts f b i g))) (sym s.called) ∙ sym c.end_call.ensures.missed in
    record { from = omega arith; to = omega arith; broken = inr (inl (told ∙ c.if-end_call.true)); lesser = λ other low high h. absurd (omega arith) }

pub fault_after-requires-clause-arrivals : goal.fault_after-requires-clause-arrivals
fault_after-requires-clause-arrivals c =
    let parts = c.args.image.now in
    let f = c.args.spot.now.function in
    let b = c.args.spot.now.block in
    let i = c.args.spot.now.number in
    let s = c.requires.spot in
    let cs = c.args.courses.now in
    let o = c.args.spot.now.operation in
    let d = known c.args.here.now in
    let e = known c.args.other.now in
    let d1 = known c.perform_on.new.here in
    let e1 = known c.perform_on.new.other in
    let straight : is_branch (op_before parts f b i) ≡ false → IsStraight cs = λ h. c.requires.straight (ap is_branch s.before ∙ h) in
    let first = performed (function_at parts f).frame o (op_at parts f b i) (runs cs.first) d d1 s.operation c.perform_on.ensures.first in
    let second = performed (function_at parts f).frame o (op_at parts f b i) (runs cs.second) e e1 s.operation c.perform_on.ensures.second in
    arrivals_are parts f b i cs d e d1 e1 c.requires.visits straight first second (known c.end_call.new.state)
    (c.end_call.ensures.known ∙ ap (λ (g : Option ℕ). after_call parts g d1) s.called)

pub fault_after-requires-clause-params : goal.fault_after-requires-clause-params
fault_after-requires-clause-params c =
    let parts = c.args.image.now in
    let f = c.args.spot.now.function in
    let b = c.args.spot.now.block in
    let i = c.args.spot.now.number in
    let s = c.requires.spot in
    let cs = c.args.courses.now in
    let o = c.args.spot.now.operation in
    let d = known c.args.here.now in
    let e = known c.args.other.now in
    let d1 = known c.perform_on.new.here in
    let e1 = known c.perform_on.new.other in
    let straight : is_branch (op_before parts f b i) ≡ false → IsStraight cs = λ h. c.requires.straight (ap is_branch s.before ∙ h) in
    let first = performed (function_at parts f).frame o (op_at parts f b i) (runs cs.first) d d1 s.operation c.perform_on.ensures.first in
    let second = performed (function_at parts f).frame o (op_at parts f b i) (runs cs.second) e e1 s.operation c.perform_on.ensures.second in
    let told : list_any (misses_params parts f b i) (visits_at parts f b i) ≡ c.end_call.result =
    params_told parts f b i cs d e d1 e1 c.requires.visits straight first second
    ∙ ap (λ (g : Option ℕ). not (has_cells d1 (params_of parts f b i g))) (sym s.called) ∙ sym c.end_call.ensures.missed in
    told ∙ c.if-end_call.false
