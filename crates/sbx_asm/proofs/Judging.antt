-- What the passes over the lines give together is what a source means.
use Rattle.std.proofs.Common.{◌≡◌, ℕ, ◌+◌, List, [], length, Option, None, Some, Result, Ok, Err, inr, sym, ap, ◌∙◌}
use Rattle.std.specs.List.{fold}
use Rattle.sbx_image.specs.Parts.{Parts}
use Rattle.sbx_asm.specs.declared.fault.AsmFault.{AsmFault}
use Rattle.sbx_asm.specs.Rules.{told, Values, duplicates, faults_at, faults_of, least_of}
use Rattle.sbx_asm.specs.Items.{Item, items_of, each}
use Rattle.sbx_asm.specs.Addresses.{values_of}
use Rattle.sbx_asm.specs.Images.{image_of, judged, source_image, Gives}
use Rattle.sbx_asm.proofs.Views.{all_labels}
use Rattle.std.proofs.lemmas.List.Sums.{fold-append}

-- the fault that is told of the labels, and then of the lines, is the least of all
pub all_told : (items : List Item) (values : Values) (first all : Option AsmFault) → values ≡ values_of items →
    first ≡ fold told None (duplicates [] (all_labels items)) → all ≡ fold told first (each (faults_at values) [] items)
    → all ≡ least_of (faults_of items)
all_told items values first all v f e =
    e
    ∙ (λ j. fold told (f j) (each (faults_at (v j)) [] items))
    ∙ sym (fold-append told None (duplicates [] (all_labels items)) (each (faults_at (values_of items)) [] items))

module _ (source : List ℕ) (items : List Item) (lines : items ≡ items_of source) where
  pub is_told : (f : AsmFault) → Some f ≡ least_of (faults_of items) → source_image source ≡ Err f
  unfolding source_image
  is_told f e = sym (λ j. judged (length (lines j) + 1) ((e ∙ ap (λ (is : List Item). least_of (faults_of is)) lines) j) (image_of (lines j)))

  pub is_judged : (parts : Parts) → None ≡ least_of (faults_of items) → parts ≡ image_of items → source_image source ≡ judged (length items + 1) None parts
  unfolding source_image
  is_judged parts e p =
      sym (λ j. judged (length (lines j) + 1) ((e ∙ ap (λ (is : List Item). least_of (faults_of is)) lines) j) ((p ∙ ap image_of lines) j))

pub gives : (result meant : Result Parts AsmFault) → meant ≡ result → Gives result meant
gives (Ok p) meant h = h
gives (Err f) meant h = inr h
