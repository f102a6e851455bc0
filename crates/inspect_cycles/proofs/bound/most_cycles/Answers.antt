use Rattle.std.proofs.Common.{◌≡◌, ℕ, ◌*◌, ◌/◌, ap, sym, ◌∙◌, subst}
use Rattle.sbx_image.specs.Parts.{Parts}
use Rattle.sbx_flat.specs.Runs.{budget}
use Rattle.sbx_sound.specs.Law.{IsFormed}
use Rattle.inspect_cycles.specs.Cycles.{AreMost}
use Rattle.inspect_cycles.specs.Pieces.{IsDearest}
use Rattle.inspect_cycles.proofs.Paid.{pieces_bound}
use Rattle.inspect_cycles.proofs.bound.most_cycles.Goals as goal

pub returns-clause-most : goal.returns-clause-most
returns-clause-most c =
    let t = c.args.table.now in
    let parts : Parts = c.args.accepted.now in
    let most = c.dearest_piece-dearest.result in
    let image = c.image-image.ensures.image in
    let here : IsFormed c.image-image.result.now = record { kept = c.keeps_its_format.ensures.kept; typed = c.keeps_its_format.ensures.typed } in
    let formed : IsFormed parts = subst IsFormed image here in
    let dearest : IsDearest t parts most = subst (λ (p : Parts). IsDearest t p most) image c.dearest_piece-dearest.ensures in
    let allowed : budget parts ≡ c.budget-budget.result = sym (c.budget-budget.ensures ∙ ap budget image) in
    let told : most.cycles * budget parts / most.turns ≡ c.cycles_within.result = ap (λ (n : ℕ). most.cycles * n / most.turns) allowed ∙ sym c.cycles_within.ensures in
    subst (AreMost t parts) told (pieces_bound t parts formed c.image-image.ensures.checked most dearest c.image-image.ensures.safe)
