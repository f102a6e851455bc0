use Rattle.std.proofs.Common.{◌≡◌, ℕ, suc, sym, ap, ◌∙◌, subst}
use Rattle.std.specs.Prelude.{◌&&◌, ◌||◌, ◌==◌, ◌↔◌, IsTrue}
use Rattle.std.specs.List.{list_any}
use Rattle.v8_meaning.specs.declared.operation.Operation.{Operation}
use Rattle.sbx_rules.specs.Known.{known}
use Rattle.sbx_rules.specs.Fuel.{IsEnough, IsWithinBudget}
use Rattle.sbx_image.specs.Order.{function_at}
use Rattle.sbx_rules.specs.Places.{ends_run}
use Rattle.sbx_rules.specs.Rules.{HasUnpaidEdge, ends_here, is_back, is_entry, names_strange}
use Rattle.sbx_rules.specs.Ways.{Visit, fuel_at, state_at, visits_at, weight_to}
use Rattle.sbx_known.specs.Courses.{arrived, listed}
use Rattle.sbx_pass.proofs.Arriving.{any_mapped}
use Rattle.sbx_pass.proofs.Paid.{four}
use Rattle.sbx_pass.proofs.after.lacks_fuel.Goals as goal

pub returns : goal.returns
returns c =
    let parts = c.args.image.now in
    let f = c.args.spot.now.function in
    let b = c.args.spot.now.block in
    let i = c.args.spot.now.number in
    let d = known c.args.here.now in
    let e = known c.args.other.now in
    let cs = c.args.courses.now in
    let back : list_any (λ (v : Visit). is_back v.way) (listed cs d e) ≡ list_any (λ (v : Visit). is_back v.way) (visits_at parts f b i) =
    ap (list_any (λ (v : Visit). is_back v.way)) (sym c.requires.arrivals) ∙ sym (any_mapped (λ v. is_back v.way) (arrived parts f b i) (visits_at parts f b i)) in
    let ends : (list_any (λ (v : Visit). is_back v.way) (listed cs d e) || ends_run c.args.spot.now.operation) ≡ ends_here parts f b i =
    ap (λ x. x || ends_run c.args.spot.now.operation) back ∙ ap (λ (o : Operation). list_any (λ (v : Visit). is_back v.way) (visits_at parts f b i) || ends_run o) c.requires.spot.operation in
    let Short : ℕ → Type 0 = λ n. IsEnough (state_at parts f b 0) (fuel_at parts f b) n → ⊥ in
    let told = c.ends_short.ensures d e in
    let W = c.requires.weight in
    let second : IsTrue c.ends_short.result ↔ (IsTrue (ends_here parts f b i) × Short (weight_to parts f b (suc i))) = (
      λ h. let x = told.0 h in (sym ends ∙ x.0, subst Short W x.1),
      λ h. told.1 (ends ∙ h.0, subst Short (sym W) h.1),
    ) in
    let fourth : IsTrue c.names_strange_at.result ↔ IsTrue ((i == 0) && names_strange parts f b i) = (λ h. sym c.names_strange_at.ensures ∙ h, λ h. c.names_strange_at.ensures ∙ h) in
    let all = four parts f b i c.leaves_unpaid.result c.ends_short.result c.lacks_budget.result c.names_strange_at.result
    (HasUnpaidEdge parts f b i) (IsTrue (ends_here parts f b i) × Short (weight_to parts f b (suc i)))
    (IsTrue (is_entry b i) × (IsWithinBudget (state_at parts f b 0) (fuel_at parts f b) (function_at parts f).budget → ⊥)) (IsTrue ((i == 0) && names_strange parts f b i))
    c.leaves_unpaid.ensures second c.lacks_budget.ensures fourth in
    (λ h. all.0 (sym c.is_some_of.ensures ∙ h), λ h. c.is_some_of.ensures ∙ all.1 h)
