-- The annotations of lines without faults keep the rules of an image: each range, fuel, cell and term, and how many there are.
use Rattle.std.proofs.Common.{◌≡◌, ℕ, ◌+◌, ◌≤◌, ◌<◌, Bool, true, false, pos, List, [], ◌∷◌, ◌++◌, length, map, get_or, Result, Ok, Err, refl, sym, ap, subst, ◌∙◌, append_assoc, arith}
use Rattle.std.specs.Prelude.{not, ◌&&◌, ◌==◌, nat_le, nat_lt, if◌then◌else◌}
use Rattle.std.specs.List.{AllByRecursion, flat_map, list_any}
use Rattle.std.proofs.lemmas.Bool.{le-leb, leb-false, lt-ltb}
use Rattle.std.proofs.lemmas.List.{length-append}
use Rattle.sbx_parts.specs.declared.fault.ImageFault.{ImageFault}
use Rattle.sbx_parts.specs.declared.fault.ImageFault.TheVariants as fault
use Rattle.sbx_parts.specs.declared.order.Next.{Next}
use Rattle.sbx_parts.specs.declared.order.Next.TheVariants.{Above}
use Rattle.sbx_parts.specs.declared.parts.Cell.{Cell}
use Rattle.sbx_parts.specs.declared.parts.Range.{Range}
use Rattle.sbx_parts.specs.declared.parts.Term.{Term}
use Rattle.sbx_parts.specs.Rules.{◌>>=◌, wants, between, each as keep_each, admits, is_fuel, is_location, is_coefficient, location_keeps, range_keeps, ranges_keep, cell_keeps, term_keeps, block_keeps}
use Rattle.sbx_directives.specs.declared.directive.Directive.TheVariants as directives
use Rattle.sbx_directives.specs.declared.directive.Statement.TheVariants as statements
use Rattle.sbx_asm.specs.declared.fault.Cause.{Cause}
use Rattle.sbx_asm.specs.declared.fault.Cause.TheVariants as causes
use Rattle.sbx_asm.specs.Items.{Item, Said, each, up_to, ends_function, ends_block, params, results, depths, fuels, cells, terms}
use Rattle.sbx_asm.specs.Rules.{Values, when, in_place, ascending, takes_annotations, takes_ranges, line_rules, faults_at}
use Rattle.sbx_asm.specs.Images.{block_with}
use Rattle.sbx_asm.proofs.Views.{saying}
use Rattle.sbx_asm.proofs.Nils.{cons_nil, nil_left, nil_right}
use Rattle.sbx_asm.proofs.Wholes.{append_all}
use Rattle.sbx_asm.proofs.Passing.{passes, goes, within, each_first, each_none, each_append}
use Rattle.sbx_asm.proofs.Bounds.{Keeps, SaidKeeps, ItemKeeps, Keep}
use Rattle.sbx_asm.proofs.KeptData.{no_cause, clean_first, clean_rest}

-- ---- what some lines have

module _ {A : Type 0} (P : A → Type 0) where
  pub first_keeps : (default : A) (xs : List A) → P default → AllByRecursion P xs → P (get_or xs 0 default)
  first_keeps default [] h k = h
  first_keeps default (x ∷ xs) h k = k.0

  pub flat_keeps : (f : Item → List A) → ((i : Item) → ItemKeeps i → AllByRecursion P (f i)) → (is : List Item) → Keep is → AllByRecursion P (flat_map f is)
  flat_keeps f one [] h = tt
  flat_keeps f one (i ∷ is) h = append_all P (f i) (flat_map f is) (one i h.0) (flat_keeps f one is h.1)

pub up_to_keeps : (test : Item → Bool) (is : List Item) → Keep is → Keep (up_to test is)
up_to_keeps test [] h = tt
up_to_keeps test (i ∷ is) h = by (test i) (up_to_keeps test is h.1)
  where
    by : (b : Bool) → Keep (up_to test is) → Keep (if b then [] else i ∷ up_to test is)
    by true more = tt
    by false more = (h.0, more)

abbrev RangeKeeps : Range → Type 0
RangeKeeps r = range_keeps r ≡ Ok tt

params_keep : (s : Said) → SaidKeeps s → AllByRecursion RangeKeeps (params (saying s))
params_keep (Ok (statements.Directive (directives.Param r))) h = (h, tt)
params_keep (Ok (statements.Directive _)) h = tt
params_keep (Ok _) h = tt
params_keep (Err f) h = tt

results_keep : (s : Said) → SaidKeeps s → AllByRecursion RangeKeeps (results (saying s))
results_keep (Ok (statements.Directive (directives.Result r))) h = (h, tt)
results_keep (Ok (statements.Directive _)) h = tt
results_keep (Ok _) h = tt
results_keep (Err f) h = tt

depths_keep : (s : Said) → SaidKeeps s → AllByRecursion (λ n. nat_le n 256 ≡ true) (depths (saying s))
depths_keep (Ok (statements.Directive (directives.Depth n))) h = (h, tt)
depths_keep (Ok (statements.Directive _)) h = tt
depths_keep (Ok _) h = tt
depths_keep (Err f) h = tt

fuels_keep : (s : Said) → SaidKeeps s → AllByRecursion (λ z. is_fuel z ≡ true) (fuels (saying s))
fuels_keep (Ok (statements.Directive (directives.Fuel z))) h = (h, tt)
fuels_keep (Ok (statements.Directive _)) h = tt
fuels_keep (Ok _) h = tt
fuels_keep (Err f) h = tt

all_ranges : (rs : List Range) → AllByRecursion RangeKeeps rs → ranges_keep rs ≡ Ok tt
all_ranges [] h = each_none (λ _ r. range_keeps r) tt
all_ranges (r ∷ rs) h = each_first (λ _ r. range_keeps r) tt r rs tt tt h.0 (all_ranges rs h.1)

pub params_kept : (own : List Item) → Keep own → ranges_keep (flat_map params own) ≡ Ok tt
params_kept own h = all_ranges (flat_map params own) (flat_keeps RangeKeeps params (λ i. params_keep i.said) own h)

pub results_kept : (own : List Item) → Keep own → ranges_keep (flat_map results own) ≡ Ok tt
results_kept own h = all_ranges (flat_map results own) (flat_keeps RangeKeeps results (λ i. results_keep i.said) own h)

pub depth_kept : (own : List Item) → Keep own → nat_le (get_or (flat_map depths own) 0 0) 256 ≡ true
depth_kept own h = first_keeps (λ n. nat_le n 256 ≡ true) 0 (flat_map depths own) (le-leb 0 256 (omega arith)) (flat_keeps (λ n. nat_le n 256 ≡ true) depths (λ i. depths_keep i.said) own h)

-- ---- rules that stand in their place

pub placed : (t : Bool) (rules : List Cause) → in_place t rules ≡ [] → rules ≡ []
placed true rules h = h
placed false rules h = cons_nil h

module _ (values : Values) where
  -- ---- no more than a rule allows

  module _ {A : Type 0} (of : Item → List A) (ends : Item → Bool) (most : ℕ)
      (room : (before : List Item) (i : Item) → line_rules values before i i.said ≡ [] → length (flat_map of (up_to ends before)) ≤ most →
      length (of i) + length (flat_map of (up_to ends before)) ≤ most) where
    few_more : (after before : List Item) → each (faults_at values) before after ≡ [] → length (flat_map of (up_to ends before)) ≤ most →
        length (flat_map of (up_to ends before)) + length (flat_map of (up_to ends after)) ≤ most
    few_more [] before clean few = omega (arith, few)
    few_more (i ∷ after) before clean few = by (few_more after (i ∷ before)) (ends i) refl
      where
        by : (each (faults_at values) (i ∷ before) after ≡ [] → length (flat_map of (up_to ends (i ∷ before))) ≤ most →
            length (flat_map of (up_to ends (i ∷ before))) + length (flat_map of (up_to ends after)) ≤ most)
            → (t : Bool) → ends i ≡ t → length (flat_map of (up_to ends before)) + length (flat_map of (if t then [] else i ∷ up_to ends after)) ≤ most
        by more true e = omega (arith, few)
        by more false e =
            let own : length (flat_map of (up_to ends (i ∷ before))) ≡ length (of i) + length (flat_map of (up_to ends before)) =
            (λ j. length (flat_map of (if e j then [] else i ∷ up_to ends before))) ∙ length-append (of i) (flat_map of (up_to ends before)) in
            let here = room before i (clean_first values before i after clean) few in
            let all = more (clean_rest values before i after clean) (omega (arith, own, here)) in
            let next = length-append (of i) (flat_map of (up_to ends after)) in
            omega (arith, own, all, next)

    -- from a line on that is an end itself
    few_from : (before : List Item) (i : Item) (after : List Item) → ends i ≡ true → each (faults_at values) (i ∷ before) after ≡ [] → length (flat_map of (up_to ends after)) ≤ most
    few_from before i after e clean =
        let none : length (flat_map of (up_to ends (i ∷ before))) ≡ 0 = (λ j. length (flat_map of (if e j then [] else i ∷ up_to ends before))) in
        let all = few_more after (i ∷ before) clean (omega (arith, none)) in
        omega (arith, all)

  less : (t : Bool) (most n : ℕ) → nat_le most n ≡ t → when t causes.Limit ≡ [] → n + 1 ≤ most
  less true most n e h = cons_nil h
  less false most n e h = let k = leb-false most n e in omega (arith, k)

  not_full : (most n : ℕ) → when (nat_le most n) causes.Limit ≡ [] → n + 1 ≤ most
  not_full most n h = less (nat_le most n) most n refl h

  param_room : (before : List Item) (i : Item) (s : Said) → line_rules values before (record i { said = s }) s ≡ [] → length (flat_map params (up_to ends_function before)) ≤ 6
      → length (params (record i { said = s })) + length (flat_map params (up_to ends_function before)) ≤ 6
  param_room before i (Ok (statements.Directive (directives.Param r))) clean few = let k =
      not_full 6 (length (flat_map params (up_to ends_function before))) (placed (takes_ranges values before) _ clean) in omega (arith, k)
  param_room before i (Ok (statements.Directive _)) clean few = omega (arith, few)
  param_room before i (Ok _) clean few = omega (arith, few)
  param_room before i (Err f) clean few = omega (arith, few)

  result_room : (before : List Item) (i : Item) (s : Said) → line_rules values before (record i { said = s }) s ≡ [] → length (flat_map results (up_to ends_function before)) ≤ 6
      → length (results (record i { said = s })) + length (flat_map results (up_to ends_function before)) ≤ 6
  result_room before i (Ok (statements.Directive (directives.Result r))) clean few = let k =
      not_full 6 (length (flat_map results (up_to ends_function before))) (placed (takes_ranges values before) _ clean) in omega (arith, k)
  result_room before i (Ok (statements.Directive _)) clean few = omega (arith, few)
  result_room before i (Ok _) clean few = omega (arith, few)
  result_room before i (Err f) clean few = omega (arith, few)

  pub params_few : (before : List Item) (i : Item) (after : List Item) → ends_function i ≡ true → each (faults_at values) (i ∷ before) after ≡ [] →
      length (flat_map params (up_to ends_function after)) ≤ 6
  params_few = few_from params ends_function 6 (λ before i. param_room before i i.said)

  pub results_few : (before : List Item) (i : Item) (after : List Item) → ends_function i ≡ true → each (faults_at values) (i ∷ before) after ≡ [] →
      length (flat_map results (up_to ends_function after)) ≤ 6
  results_few = few_from results ends_function 6 (λ before i. result_room before i i.said)

  -- ---- cells and terms: their locations ascend

  abbrev last : {A : Type 0} → (A → ℕ) → List A → ℕ
  last location xs = get_or (map location xs) 0 0

  above : (most location : ℕ) (locations : List ℕ) → ascending most locations location ≡ [] → nat_lt (get_or locations 0 0) location ≡ true
  above most location locations h =
      let no : nat_le location (get_or locations 0 0) ≡ false =
      no_cause (nat_le location (get_or locations 0 0)) causes.Directive
      (nil_right (when (nat_le most (length locations)) causes.Limit) (when (nat_le location (get_or locations 0 0)) causes.Directive) h) in
      lt-ltb _ _ (leb-false location (get_or locations 0 0) no)

  fewer : (most location : ℕ) (locations : List ℕ) → ascending most locations location ≡ [] → length locations + 1 ≤ most
  fewer most location locations h = not_full most (length locations) (nil_left (when (nat_le most (length locations)) causes.Limit) (when (nat_le location (get_or locations 0 0)) causes.Directive) h)

  location_kept : (before location : ℕ) → is_location location ≡ true → nat_lt before location ≡ true → location_keeps before location ≡ Ok tt
  location_kept before location h k = passes (is_location location) fault.Limit (λ _. wants (nat_lt before location) fault.Order) tt h (passes_last (nat_lt before location) k)
    where
      passes_last : (b : Bool) → b ≡ true → wants b fault.Order ≡ Ok tt
      passes_last true e = refl
      passes_last false e = absurd (cc)

  cell_kept : (before : ℕ) (c : Cell) → (is_location c.location ≡ true) × (range_keeps c.range ≡ Ok tt) → nat_lt before c.location ≡ true → cell_keeps before c ≡ Ok c.location
  unfolding cell_keeps
  cell_kept before c h k =
      goes (location_keeps before c.location) (λ _. range_keeps c.range >>= λ _. Ok c.location) tt c.location (location_kept before c.location h.0 k)
      (goes (range_keeps c.range) (λ _. Ok c.location) tt c.location h.1 refl)

  term_kept : (before : ℕ) (t : Term) → (is_location t.location ≡ true) × (is_coefficient t.coefficient ≡ true) → nat_lt before t.location ≡ true → term_keeps before t ≡ Ok t.location
  unfolding term_keeps
  term_kept before t h k =
      goes (location_keeps before t.location) (λ _. wants (is_coefficient t.coefficient) fault.Limit >>= λ _. Ok t.location) tt t.location (location_kept before t.location h.0 k)
      (passes (is_coefficient t.coefficient) fault.Limit (λ _. Ok t.location) t.location h.1 refl)

  module _ {A : Type 0} (of : Item → List A) (location : A → ℕ) (keeps : ℕ → A → Result ℕ ImageFault)
      (one : (before : List Item) (i : Item) → ItemKeeps i → line_rules values before i i.said ≡ [] →
      keep_each keeps (last location (flat_map of (up_to ends_block before))) (of i) ≡
      Ok (last location (of i ++ flat_map of (up_to ends_block before)))) where
    ascend : (after before : List Item) → Keep after → each (faults_at values) before after ≡ [] →
        (end : ℕ) × (keep_each keeps (last location (flat_map of (up_to ends_block before))) (flat_map of (up_to ends_block after)) ≡ Ok end)
    ascend [] before keep clean = (last location (flat_map of (up_to ends_block before)), each_none keeps _)
    ascend (i ∷ after) before keep clean = by (ascend after (i ∷ before)) (ends_block i) refl
      where
        by : (Keep after → each (faults_at values) (i ∷ before) after ≡ [] →
            (end : ℕ) × (keep_each keeps (last location (flat_map of (up_to ends_block (i ∷ before)))) (flat_map of (up_to ends_block after)) ≡ Ok end))
            → (t : Bool) → ends_block i ≡ t →
            (end : ℕ) × (keep_each keeps (last location (flat_map of (up_to ends_block before)))
            (flat_map of (if t then [] else i ∷ up_to ends_block after)) ≡ Ok end)
        by more true e = (last location (flat_map of (up_to ends_block before)), each_none keeps _)
        by more false e =
            let rest = more keep.1 (clean_rest values before i after clean) in
            let from : last location (flat_map of (up_to ends_block (i ∷ before))) ≡ last location (of i ++ flat_map of (up_to ends_block before)) =
            (λ j. last location (flat_map of (if e j then [] else i ∷ up_to ends_block before))) in (
              rest.0,
              each_append keeps (of i) (flat_map of (up_to ends_block after)) (last location (flat_map of (up_to ends_block before)))
                  (last location (of i ++ flat_map of (up_to ends_block before))) rest.0
                  (one before i keep.0 (clean_first values before i after clean))
                  (subst (λ (n : ℕ). keep_each keeps n (flat_map of (up_to ends_block after)) ≡ Ok rest.0) from rest.1),
            )

    ascend_from : (before : List Item) (i : Item) (after : List Item) → ends_block i ≡ true → Keep after → each (faults_at values) (i ∷ before) after ≡ [] →
        (end : ℕ) × (keep_each keeps 0 (flat_map of (up_to ends_block after)) ≡ Ok end)
    ascend_from before i after e keep clean =
        let none : last location (flat_map of (up_to ends_block (i ∷ before))) ≡ 0 = (λ j. last location (flat_map of (if e j then [] else i ∷ up_to ends_block before))) in
        let all = ascend after (i ∷ before) keep clean in
        (all.0, subst (λ (n : ℕ). keep_each keeps n (flat_map of (up_to ends_block after)) ≡ Ok all.0) none all.1)

  one_cell : (before : List Item) (i : Item) (s : Said) → SaidKeeps s → line_rules values before (record i { said = s }) s ≡ []
      → keep_each cell_keeps (last (λ (c : Cell). c.location) (flat_map cells (up_to ends_block before))) (cells (record i { said = s })) ≡
      Ok (last (λ (c : Cell). c.location) (cells (record i { said = s }) ++ flat_map cells (up_to ends_block before)))
  one_cell before i (Ok (statements.Directive (directives.Cell c))) h clean =
      let others : List ℕ = map (λ (d : Cell). d.location) (flat_map cells (up_to ends_block before)) in
      each_first cell_keeps (get_or others 0 0) c [] c.location c.location
      (cell_kept (get_or others 0 0) c h (above 64 c.location others (placed (takes_annotations values before) _ clean))) (each_none cell_keeps c.location)
  one_cell before i (Ok (statements.Directive _)) h clean = each_none cell_keeps _
  one_cell before i (Ok _) h clean = each_none cell_keeps _
  one_cell before i (Err f) h clean = each_none cell_keeps _

  one_term : (before : List Item) (i : Item) (s : Said) → SaidKeeps s → line_rules values before (record i { said = s }) s ≡ []
      → keep_each term_keeps (last (λ (t : Term). t.location) (flat_map terms (up_to ends_block before))) (terms (record i { said = s })) ≡
      Ok (last (λ (t : Term). t.location) (terms (record i { said = s }) ++ flat_map terms (up_to ends_block before)))
  one_term before i (Ok (statements.Directive (directives.Term t))) h clean =
      let others : List ℕ = map (λ (u : Term). u.location) (flat_map terms (up_to ends_block before)) in
      each_first term_keeps (get_or others 0 0) t [] t.location t.location
      (term_kept (get_or others 0 0) t h (above 8 t.location others (placed (takes_annotations values before) _ clean))) (each_none term_keeps t.location)
  one_term before i (Ok (statements.Directive _)) h clean = each_none term_keeps _
  one_term before i (Ok _) h clean = each_none term_keeps _
  one_term before i (Err f) h clean = each_none term_keeps _

  mapped_length : {A : Type 0} (f : A → ℕ) (xs : List A) → length (map f xs) ≡ length xs
  mapped_length f [] = refl
  mapped_length f (x ∷ xs) = let h = mapped_length f xs in omega (arith, h)

  cell_room : (before : List Item) (i : Item) (s : Said) → line_rules values before (record i { said = s }) s ≡ [] → length (flat_map cells (up_to ends_block before)) ≤ 64
      → length (cells (record i { said = s })) + length (flat_map cells (up_to ends_block before)) ≤ 64
  cell_room before i (Ok (statements.Directive (directives.Cell c))) clean few =
      let others : List ℕ = map (λ (d : Cell). d.location) (flat_map cells (up_to ends_block before)) in
      let k = fewer 64 c.location others (placed (takes_annotations values before) _ clean) in
      let same = mapped_length (λ (d : Cell). d.location) (flat_map cells (up_to ends_block before)) in
      omega (arith, k, same)
  cell_room before i (Ok (statements.Directive _)) clean few = omega (arith, few)
  cell_room before i (Ok _) clean few = omega (arith, few)
  cell_room before i (Err f) clean few = omega (arith, few)

  term_room : (before : List Item) (i : Item) (s : Said) → line_rules values before (record i { said = s }) s ≡ [] → length (flat_map terms (up_to ends_block before)) ≤ 8
      → length (terms (record i { said = s })) + length (flat_map terms (up_to ends_block before)) ≤ 8
  term_room before i (Ok (statements.Directive (directives.Term t))) clean few =
      let others : List ℕ = map (λ (u : Term). u.location) (flat_map terms (up_to ends_block before)) in
      let k = fewer 8 t.location others (placed (takes_annotations values before) _ clean) in
      let same = mapped_length (λ (u : Term). u.location) (flat_map terms (up_to ends_block before)) in
      omega (arith, k, same)
  term_room before i (Ok (statements.Directive _)) clean few = omega (arith, few)
  term_room before i (Ok _) clean few = omega (arith, few)
  term_room before i (Err f) clean few = omega (arith, few)

  -- ---- a block, by the lines behind the one that begins it

  no_fuel : is_fuel (pos 0) ≡ true
  no_fuel = refl

  pub block_kept : (end : ℕ) (next : Next) (address : ℕ) (before : List Item) (i : Item) (after : List Item) → ends_block i ≡ true → Keep after →
      each (faults_at values) (i ∷ before) after ≡ [] → admits end next address ≡ true
      → block_keeps end next (block_with address (up_to ends_block after)) ≡ Ok (Above address)
  unfolding block_keeps
  block_kept end next address before i after e keep clean here =
      let own : List Item = up_to ends_block after in
      let cell_count = few_from cells ends_block 64 (λ b j. cell_room b j j.said) before i after e clean in
      let term_count = few_from terms ends_block 8 (λ b j. term_room b j j.said) before i after e clean in
      let fuel : is_fuel (get_or (flat_map fuels own) 0 (pos 0)) ≡ true =
      first_keeps (λ z. is_fuel z ≡ true) (pos 0) (flat_map fuels own) no_fuel
      (flat_keeps (λ z. is_fuel z ≡ true) fuels (λ j. fuels_keep j.said) own (up_to_keeps ends_block after keep)) in
      let their_cells = ascend_from cells (λ (c : Cell). c.location) cell_keeps (λ b j h. one_cell b j j.said h) before i after e keep clean in
      let their_terms = ascend_from terms (λ (t : Term). t.location) term_keeps (λ b j h. one_term b j j.said h) before i after e keep clean in
      passes (admits end next address) fault.Order _ (Above address) here
      (passes (between 0 64 (length (flat_map cells own))) fault.Limit _ (Above address) (within 0 64 _ (omega arith) cell_count)
      (passes (between 0 8 (length (flat_map terms own))) fault.Limit _ (Above address) (within 0 8 _ (omega arith) term_count)
      (passes (is_fuel (get_or (flat_map fuels own) 0 (pos 0))) fault.Limit _ (Above address) fuel
      (goes (keep_each cell_keeps 0 (flat_map cells own)) _ their_cells.0 (Above address) their_cells.1
      (goes (keep_each term_keeps 0 (flat_map terms own)) _ their_terms.0 (Above address) their_terms.1 refl)))))
