-- The regions behind the last line.
use Rattle.std.proofs.Common.{◌≡◌, ℕ, ◌≤◌, List, [], ◌++◌, length, drop, sym, ap, ◌∙◌}
use Rattle.std.proofs.lemmas.List.{append-nil, at_drop_all}
use Rattle.sbx_image.specs.Region.{Region}
use Rattle.sbx_asm.specs.declared.data.Data.{Data}
use Rattle.sbx_asm.specs.Items.{Item}
use Rattle.sbx_asm.specs.Images.{filled, region_with}
use Rattle.sbx_asm.specs.Rules.{Values}
use Rattle.sbx_asm.specs.Kept.{regions_with}

pub all_regions : (values : Values) (d : Data) (before is : List Item) (k : ℕ) (total : List Region) → length is ≤ k → regions_with values d before (drop k is) ≡ total
    → d.regions.items ++ region_with d.writable (filled d.bytes.items) ≡ total
all_regions values d before is k total h so_far =
    ap (λ (rs : List Region). d.regions.items ++ rs) (sym (append-nil (region_with d.writable (filled d.bytes.items))))
    ∙ ap (λ (bs : List ℕ). d.regions.items ++ (region_with d.writable (filled bs) ++ [])) (sym (append-nil d.bytes.items))
    ∙ sym (at_drop_all (regions_with values d before) is k h)
    ∙ so_far
