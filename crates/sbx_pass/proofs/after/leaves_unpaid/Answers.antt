use Rattle.std.proofs.Common.{◌≡◌, ℕ, Bool, true, false, refl, sym, ap, ◌∙◌, subst}
use Rattle.std.specs.Prelude.{◌↔◌, IsTrue, not}
use Rattle.sbx_rules.specs.Known.{known}
use Rattle.sbx_pass.specs.Paying.{IsPaidOn}
use Rattle.sbx_pass.proofs.Locating.{located}
use Rattle.sbx_pass.proofs.Paid.{unpaid_told}
use Rattle.sbx_pass.proofs.after.leaves_unpaid.Goals as goal

pub pays-requires-clause-locations : goal.pays-requires-clause-locations
pays-requires-clause-locations c =
    let parts = c.args.image.now in
    let f = c.args.spot.now.function in
    let b = c.args.spot.now.block in
    let i = c.args.spot.now.number in
    (located parts f b i c.args.courses.now (known c.args.here.now) (known c.args.other.now) c.requires.arrivals).0

pub pays-requires-2-clause-locations : goal.pays-requires-2-clause-locations
pays-requires-2-clause-locations c =
    let parts = c.args.image.now in
    let f = c.args.spot.now.function in
    let b = c.args.spot.now.block in
    let i = c.args.spot.now.number in
    (located parts f b i c.args.courses.now (known c.args.here.now) (known c.args.other.now) c.requires.arrivals).1

off : (x : Bool) → not x ≡ true → x ≡ false
off true h = absurd (cc)
off false h = refl

pub returns : goal.returns
returns c =
    let parts = c.args.image.now in
    let f = c.args.spot.now.function in
    let b = c.args.spot.now.block in
    let i = c.args.spot.now.number in
    let d = known c.args.here.now in
    let e = known c.args.other.now in
    let cs = c.args.courses.now in
    let first = subst (λ (n : ℕ). IsTrue c.pays.result ↔ IsPaidOn parts f b n cs.first d) c.requires.weight c.pays.ensures in
    let second = subst (λ (n : ℕ). IsTrue c.pays-2.result ↔ IsPaidOn parts f b n cs.second e) c.requires.weight c.pays-2.ensures in
    let told = unpaid_told parts f b i cs d e c.pays.result c.pays-2.result c.requires.arrivals first second in
    (λ h. told.0 (sym c.are_both.ensures ∙ off c.are_both.result h), λ h. ap not (c.are_both.ensures ∙ told.1 h))
