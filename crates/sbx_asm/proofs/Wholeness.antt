-- Lines without faults are an image, where one is a `.function` and the data take at most 64 pages; what is told at the line after the last is
-- that this isn't so.
use Rattle.std.proofs.Common.{◌≡◌, ◌⊎◌, inl, inr, ℕ, ◌+◌, ◌*◌, ◌≤◌, ◌<◌, Bool, true, false, List, [], ◌∷◌, ◌++◌, length, map, get_or, Option, None, Some}
use Rattle.std.proofs.Common.{Result, Ok, Err, IfErr, refl, sym, ap, subst, ◌∙◌, arith}
use Rattle.std.specs.Prelude.{not, ◌&&◌, ◌==◌, nat_lt, if◌then◌else◌}
use Rattle.std.specs.List.{AllByRecursion, flat_map, list_any, enumerate_from}
use Rattle.std.proofs.lemmas.Bool.{eqb-true, eqb-false, ltb-true, ltb-false}
use Rattle.std.proofs.lemmas.List.{append-nil}
use Rattle.v8_map.specs.declared.TheConstants.{CODE_START}
use Rattle.sbx_text.specs.declared.Token.{Token}
use Rattle.sbx_text.specs.declared.fault.TextFault.{TextFault}
use Rattle.sbx_text.specs.Tokens.{tokens_of}
use Rattle.sbx_parts.specs.declared.fault.ImageFault.{ImageFault}
use Rattle.sbx_parts.specs.declared.fault.ImageFault.TheVariants as fault
use Rattle.sbx_parts.specs.declared.order.Next.TheVariants.{Exactly}
use Rattle.sbx_parts.specs.declared.parts.Region.{Region}
use Rattle.sbx_parts.specs.declared.services.Services.{Services}
use Rattle.sbx_parts.specs.Regions.{page_rights}
use Rattle.sbx_parts.specs.Rules.{between, each as keep_each, is_version, is_known, is_data, region_keeps, function_keeps, parts_keep, code_start}
use Rattle.sbx_image.specs.Parts.{Parts}
use Rattle.sbx_directives.specs.declared.directive.Directive.TheVariants as directives
use Rattle.sbx_directives.specs.declared.directive.Statement.TheVariants as statements
use Rattle.sbx_asm.specs.declared.fault.AsmFault.{AsmFault}
use Rattle.sbx_asm.specs.declared.fault.Cause.{Cause}
use Rattle.sbx_asm.specs.declared.fault.Cause.TheVariants as causes
use Rattle.sbx_asm.specs.Items.{Item, Said, read_line, item_of, items_of, lines_of, each, count, starts_function, is_region, services, stacks, depths, has}
use Rattle.sbx_asm.specs.Addresses.{Label, labelled, labels_at, names_said, label_address, code_address, code_offset, section_room, values_of}
use Rattle.sbx_asm.specs.Rules.{Values, at, is_earlier, duplicates, faults_at, faults_of, least_of}
use Rattle.sbx_asm.specs.Images.{words_at, function_at, image_of, whole_cause, judged, source_image, IsOfTheWhole, Gives}
use Rattle.sbx_asm.specs.Laws.{LinesWithoutFaultsAreAnImage, TwoFaultsAreOfTheWhole}
use Rattle.sbx_asm.proofs.Views.{saying, behind, all_labels, version_with, kept}
use Rattle.sbx_asm.proofs.Nils.{nil_right}
use Rattle.sbx_asm.proofs.Rooms.{code_within}
use Rattle.sbx_asm.proofs.Wholes.{append_all}
use Rattle.sbx_asm.proofs.Meanings.{least_told}
use Rattle.sbx_asm.proofs.ValueCounts.{items_count}
use Rattle.sbx_asm.proofs.Lying.{newest}
use Rattle.sbx_asm.proofs.CodeLying.{words_before}
use Rattle.sbx_asm.proofs.Passing.{passes, goes, within}
use Rattle.sbx_asm.proofs.Bounds.{SaidKeeps, Keep, items_keep}
use Rattle.sbx_asm.proofs.KeptData.{data_is, regions_kept}
use Rattle.sbx_asm.proofs.KeptBlocks.{first_keeps, flat_keeps}
use Rattle.sbx_asm.proofs.KeptCode.{Says, functions_kept, as_many, few_functions, some_code}

-- ---- what is said of the whole

abbrev SetKeeps : Services → Type 0
SetKeeps x = is_known x.0 ≡ true

abbrev StackKeeps : ℕ → Type 0
StackKeeps n = between 1 16 n ≡ true

services_keep : (s : Said) → SaidKeeps s → AllByRecursion SetKeeps (services (saying s))
services_keep (Ok (statements.Directive (directives.Services x))) h = (h, tt)
services_keep (Ok (statements.Directive _)) h = tt
services_keep (Ok _) h = tt
services_keep (Err f) h = tt

stacks_keep : (s : Said) → SaidKeeps s → AllByRecursion StackKeeps (stacks (saying s))
stacks_keep (Ok (statements.Directive (directives.Stack n))) h = (h, tt)
stacks_keep (Ok (statements.Directive _)) h = tt
stacks_keep (Ok _) h = tt
stacks_keep (Err f) h = tt

services_kept : (is : List Item) → Keep is → SetKeeps (get_or (flat_map services is) 0 (record { 0 = 0 }))
services_kept is h = first_keeps SetKeeps (record { 0 = 0 }) (flat_map services is) refl (flat_keeps SetKeeps services (λ i. services_keep i.said) is h)

stack_kept : (is : List Item) → Keep is → StackKeeps (get_or (flat_map stacks is) 0 1)
stack_kept is h = first_keeps StackKeeps 1 (flat_map stacks is) refl (flat_keeps StackKeeps stacks (λ i. stacks_keep i.said) is h)

version_kept : (depths regions : Bool) → is_version (version_with depths regions) ≡ true
version_kept true regions = refl
version_kept false true = refl
version_kept false false = refl

-- version 1 has no regions, and a version without depths is not that of depths
plain_version : (depths regions : Bool) → version_with depths regions ≡ 1 → regions ≡ false
plain_version true regions e = absurd (omega (arith, e))
plain_version false true e = absurd (omega (arith, e))
plain_version false false e = refl

depths_said : (depths regions : Bool) → (version_with depths regions ≡ 3) ⊎ (depths ≡ false)
depths_said true regions = inl refl
depths_said false regions = inr refl

-- ---- the image

module _ (source : List ℕ) (clean : faults_of (items_of source) ≡ []) where
  abbrev items : List Item
  items = items_of source

  abbrev worth : Values
  worth = values_of items

  abbrev words : List ℕ
  words = each (words_at worth) [] items

  abbrev version : ℕ
  version = version_with (list_any (has depths) items) (list_any is_region items)

  abbrev end : ℕ
  end = code_start + 4 * length words

  lines_clean : each (faults_at worth) [] items ≡ []
  lines_clean = nil_right (duplicates [] (all_labels items)) (each (faults_at worth) [] items) clean

  code_is : code_offset (behind [] items) ≡ 4 * length words
  code_is = let h = words_before worth items [] [] (subst (λ (is : List Item). each (faults_at worth) [] is ≡ []) (sym (append-nil items)) lines_clean) in omega (arith, h)

  is_kept : 1 ≤ count starts_function items → length (page_rights (newest worth true [] [] items)) ≤ 64 → parts_keep (image_of items) ≡ Ok tt
  unfolding parts_keep image_of
  is_kept some few =
      let size = code_is in
      let room = code_within (behind [] items) in
      let first = some_code worth items [] lines_clean some in
      let functions = as_many worth items [] in
      let most = few_functions worth items [] lines_clean (omega arith) in
      let pages = regions_kept worth items (items_count source) lines_clean few in
      let all = functions_kept worth items [] version end lines_clean (items_keep source) (omega (arith, size)) (depths_said (list_any (has depths) items) (list_any is_region items)) refl refl refl in
      passes (is_version version) fault.Version _ tt (version_kept (list_any (has depths) items) (list_any is_region items))
      (passes (is_known (get_or (flat_map services items) 0 (record { 0 = 0 })).0) fault.Service _ tt (services_kept items (items_keep source))
      (passes (between 1 65536 (length words)) fault.Limit _ tt (within 1 65536 (length words) (omega (arith, size, first)) (omega (arith, size, room)))
      (passes (is_data version (newest worth true [] [] items)) fault.Limit _ tt
      (data_is worth items (items_count source) lines_clean version (plain_version (list_any (has depths) items) (list_any is_region items)))
      (passes (between 1 16 (get_or (flat_map stacks items) 0 1)) fault.Limit _ tt (stack_kept items (items_keep source))
      (passes (between 1 256 (length (each function_at [] items))) fault.Limit _ tt
      (within 1 256 (length (each function_at [] items)) (omega (arith, functions, some)) (omega (arith, functions, most)))
      (goes (keep_each region_keeps 0 (newest worth true [] [] items)) _ pages.0 tt pages.1
      (goes (keep_each (function_keeps version end) (Exactly code_start, 0) (each function_at [] items)) _ all.0 tt all.1 refl)))))))

pub are_an_image : LinesWithoutFaultsAreAnImage
unfolding source_image image_of
are_an_image source clean some few =
    let items : List Item = items_of source in
    ap (λ (fs : List AsmFault). judged (length items + 1) (least_of fs) (image_of items)) clean
    ∙ ap (λ (r : Result (Unit {0}) ImageFault). kept (length items + 1) (image_of items) r) (is_kept source clean some few)

-- ---- the faults of lines are told at lines

module _ (most : ℕ) where
  abbrev IsLine : AsmFault → Type 0
  IsLine f = f.line ≤ most

  abbrev IsNumbered : Item → Type 0
  IsNumbered i = i.number ≤ most

  abbrev IsLabelled : Label → Type 0
  IsLabelled l = l.line ≤ most

  at_line : (line : ℕ) (causes_there : List Cause) → line ≤ most → AllByRecursion IsLine (map (at line) causes_there)
  at_line line [] h = tt
  at_line line (c ∷ cs) h = (h, at_line line cs h)

  twice_at_lines : (before ls : List Label) → AllByRecursion IsLabelled ls → AllByRecursion IsLine (duplicates before ls)
  twice_at_lines before [] h = tt
  twice_at_lines before (l ∷ ls) h = append_all IsLine (map (at l.line) _) (duplicates (before ++ l ∷ []) ls) (at_line l.line _ h.0) (twice_at_lines (before ++ l ∷ []) ls h.1)

  labelled_lines : (line address : ℕ) (names : List (List ℕ)) → line ≤ most → AllByRecursion IsLabelled (map (labelled line address) names)
  labelled_lines line address [] h = tt
  labelled_lines line address (name ∷ names) h = (h, labelled_lines line address names h)

  module _ {A : Type 0} (P : A → Type 0) (gives : List Item → Item → List Item → List A) (one : (before : List Item) (i : Item) (after : List Item) →
      IsNumbered i → AllByRecursion P (gives before i after)) where
    each_line : (before is : List Item) → AllByRecursion IsNumbered is → AllByRecursion P (each gives before is)
    each_line before [] h = tt
    each_line before (i ∷ is) h = append_all P (gives before i is) (each gives (i ∷ before) is) (one before i is h.0) (each_line (i ∷ before) is h.1)

  labels_here : (before : List Item) (i : Item) (after : List Item) → IsNumbered i → AllByRecursion IsLabelled (labels_at before i after)
  labels_here before i after h =
      append_all IsLabelled (map (labelled i.number (label_address before)) i.labels) (map (labelled i.number (code_address before)) (names_said i.bytes i.said))
      (labelled_lines i.number (label_address before) i.labels h) (labelled_lines i.number (code_address before) (names_said i.bytes i.said) h)

  all_at_lines : (is : List Item) → AllByRecursion IsNumbered is → AllByRecursion IsLine (faults_of is)
  all_at_lines is h =
      append_all IsLine (duplicates [] (all_labels is)) (each (faults_at (values_of is)) [] is)
      (twice_at_lines [] (all_labels is) (each_line IsLabelled labels_at labels_here [] is h))
      (each_line IsLine (faults_at (values_of is)) (λ before i after k. at_line i.number _ k) [] is h)

  number_is : (number : ℕ) (line : List ℕ) (r : Result (List Token) TextFault) → (read_line number line r).number ≡ number
  number_is number line (Ok ts) = refl
  number_is number line (Err f) = refl

  are_numbered : (ls : List (List ℕ)) (k : ℕ) → k + length ls ≤ most + 1 → AllByRecursion IsNumbered (map item_of (enumerate_from k ls))
  are_numbered [] k h = tt
  are_numbered (l ∷ ls) k h = let e = number_is k l (tokens_of l) in (omega (arith, e, h), are_numbered ls (k + 1) (omega (arith, h)))

as_many_items : (ls : List (List ℕ)) (k : ℕ) → length (map item_of (enumerate_from k ls)) ≡ length ls
as_many_items [] k = refl
as_many_items (l ∷ ls) k = let h = as_many_items ls (k + 1) in omega (arith, h)

at_a_line : (source : List ℕ) → AllByRecursion (λ f. f.line ≤ length (items_of source)) (faults_of (items_of source))
at_a_line source =
    let count = as_many_items (lines_of source) 1 in
    all_at_lines (length (items_of source)) (items_of source) (are_numbered (length (items_of source)) (lines_of source) 1 (omega (arith, count)))

among : {A : Type 0} (P : A → Type 0) (front rest : List A) (x : A) → AllByRecursion P (front ++ x ∷ rest) → P x
among P [] rest x h = h.0
among P (y ∷ front) rest x h = among P front rest x h.1

-- ---- what is told at the line after the last

-- why parts are none, by how many functions and pages they have
whole_with : (fs pages : ℕ) (c : Cause) → c ≡ (if not (fs == 0) && nat_lt 64 pages then causes.Limit else causes.Directive) → (1 ≤ fs → pages ≤ 64 → ⊥)
    → ((c ≡ causes.Directive) × (fs ≡ 0)) ⊎ ((c ≡ causes.Limit) × (1 ≤ fs) × (64 < pages))
whole_with fs pages c is no_image = by (fs == 0) refl (nat_lt 64 pages) refl is
  where
    by : (t : Bool) → (fs == 0) ≡ t → (u : Bool) → nat_lt 64 pages ≡ u → c ≡ (if not t && u then causes.Limit else causes.Directive) →
        ((c ≡ causes.Directive) × (fs ≡ 0)) ⊎ ((c ≡ causes.Limit) × (1 ≤ fs) × (64 < pages))
    by true e u f h = inl (h, eqb-true fs 0 e)
    by false e true f h = inr (h, (let some = eqb-false fs 0 e in let k : 1 ≤ fs = omega (arith, some) in k), ltb-true 64 pages f)
    by false e false f h = absurd (no_image (let some = eqb-false fs 0 e in omega (arith, some)) (let few = ltb-false 64 pages f in omega (arith, few)))

pub two_of_the_whole : TwoFaultsAreOfTheWhole
unfolding image_of
two_of_the_whole source f told line = by (least_told source f told)
  where
    none_at : (front rest : List AsmFault) → faults_of (items_of source) ≡ front ++ f ∷ rest → ⊥
    none_at front rest e =
        let h = among (λ (g : AsmFault). g.line ≤ length (items_of source)) front rest f (subst (AllByRecursion (λ (g : AsmFault). g.line ≤ length (items_of source))) e (at_a_line source)) in
        omega (arith, h, line)

    by : (((front : List AsmFault) × (rest : List AsmFault) × (faults_of (items_of source) ≡ front ++ f ∷ rest)) × AllByRecursion (λ g. is_earlier g f ≡ false) (faults_of (items_of source)))
        ⊎ ((faults_of (items_of source) ≡ []) × (f ≡ at (length (items_of source) + 1) (whole_cause (image_of (items_of source))))) → IsOfTheWhole (items_of source) f.cause
    by (inl h) = absurd (none_at h.0.0 h.0.1 h.0.2)
    by (inr h) =
        let many = as_many (values_of (items_of source)) (items_of source) [] in
        let pages : ℕ = length (page_rights (image_of (items_of source)).regions) in
        let is : f.cause ≡ (if not (count starts_function (items_of source) == 0) && nat_lt 64 pages then causes.Limit else causes.Directive) =
        ap (λ (g : AsmFault). g.cause) h.1 ∙ ap (λ (n : ℕ). if not (n == 0) && nat_lt 64 pages then causes.Limit else causes.Directive) many in (
          h.0,
          whole_with (count starts_function (items_of source)) pages f.cause is
              (λ some few. absurd (let image = are_an_image source h.0 some few in let both : Ok (image_of (items_of source)) ≡ Err f = sym image ∙ told in cc)),
        )

-- what a call tells at that line, where want of memory is told at line 0
pub told_of_the_whole : (source : List ℕ) (r : Result Parts AsmFault) → Gives r (source_image source) → IfErr r (λ f. f.line ≡ length (items_of source) + 1 → IsOfTheWhole (items_of source) f.cause)
told_of_the_whole source (Ok parts) h = tt
told_of_the_whole source (Err f) (inl e) = λ line. absurd (let none = ap (λ (g : AsmFault). g.line) e in omega (arith, none, line))
told_of_the_whole source (Err f) (inr e) = λ line. two_of_the_whole source f e line
