use Rattle.std.proofs.Common.{◌≡◌, ◌<◌, ◌^◌, sym, ap, ◌∙◌, arith}
use Rattle.std.proofs.lemmas.Bool.{eqb-true, eq-eqb}
use Rattle.v8_formats.specs.Spelling.{spelling}
use Rattle.v8_formats.specs.Table.{meaning}
use Rattle.v8_formats.proofs.TableOk.{canonical_same, same_canonical}
use Rattle.sbx_faults.proofs.shapes.spells.Goals as goal

pub returns : goal.returns
returns c =
    let w = c.args.word in
    let fits : w < 2 ^ 32 = omega arith in
    let spelled : c.encode.result ≡ spelling (meaning w) = c.encode.ensures ∙ ap spelling c.requires.meant in
    record { unused = (λ t. same_canonical w fits (sym spelled ∙ eqb-true _ _ t), λ k. eq-eqb _ _ (spelled ∙ canonical_same w fits k)) }
