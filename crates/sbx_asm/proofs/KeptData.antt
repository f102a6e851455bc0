-- The data of lines without faults keep the rules of an image, where they take at most 64 pages.
use Rattle.std.proofs.Common.{◌≡◌, ℕ, ◌+◌, ◌*◌, ◌%◌, ◌≤◌, Bool, true, false, List, [], ◌∷◌, ◌++◌, length, Result, Ok, Err, refl, sym, ap, subst, ◌∙◌, append_assoc, arith}
use Rattle.std.specs.Prelude.{◌&&◌, ◌||◌, ◌==◌, nat_le, nat_lt, if◌then◌else◌}
use Rattle.std.specs.List.{AllByRecursion, list_any}
use Rattle.std.proofs.lemmas.Bool.{and_from, le-leb, lt-ltb, eq-eqb, eqb-true, leb-false}
use Rattle.std.proofs.lemmas.List.{append-nil, length-append}
use Rattle.sbx_parts.specs.declared.fault.ImageFault.TheVariants as fault
use Rattle.sbx_parts.specs.declared.parts.Region.{Region}
use Rattle.sbx_parts.specs.Regions.{page_rights, pages_for}
use Rattle.sbx_parts.specs.Rules.{wants, each as keep_each, is_data, is_data_length, is_one_region, is_length_behind, region_keeps}
use Rattle.sbx_parts.proofs.Placing.{page_count}
use Rattle.sbx_directives.specs.declared.directive.Directive.TheVariants as directives
use Rattle.sbx_directives.specs.declared.directive.Statement.TheVariants as statements
use Rattle.sbx_asm.specs.declared.fault.Cause.{Cause}
use Rattle.sbx_asm.specs.declared.fault.Cause.TheVariants as causes
use Rattle.sbx_asm.specs.Items.{Item, Said, each, up_to, count, is_text, is_data as is_data_line, is_region}
use Rattle.sbx_asm.specs.Addresses.{data_offset, section_room, in_code}
use Rattle.sbx_asm.specs.Rules.{Values, when, line_rules, faults_at}
use Rattle.sbx_asm.specs.Images.{filled, region_with, bytes_at, region_at}
use Rattle.sbx_asm.proofs.Views.{item, another_region}
use Rattle.sbx_asm.proofs.Nils.{cons_nil, nil_left, nil_right}
use Rattle.sbx_asm.proofs.Wholes.{append_all}
use Rattle.sbx_asm.proofs.ValueCounts.{ItemCounts}
use Rattle.sbx_asm.proofs.Unfilled.{or_left, or_right, stays_out}
use Rattle.sbx_asm.proofs.Lying.{which_region, no_size, filled_length, newest, newest_more, line_clean, size_more, room_more}
use Rattle.sbx_asm.proofs.Beginning.{none_in_code, asks}
use Rattle.sbx_asm.proofs.Passing.{passes, each_first, each_none}

-- ---- one region

pub record Sized (r : Region) : Type 0 where
  pub some : nat_lt 0 (length r.bytes) ≡ true
  pub whole : is_data_length (length r.bytes) ≡ true

sized_with : (writable : Bool) (bs : List ℕ) → length bs ≤ section_room → length bs % 8 ≡ 0 → AllByRecursion Sized (region_with writable bs)
sized_with writable [] few whole = tt
sized_with writable (b ∷ bs) few whole = (record { some = lt-ltb 0 (length (b ∷ bs)) (omega arith); whole = and_from _ _ (le-leb _ _ few) (eq-eqb _ _ whole) }, tt)

filled_sized : (writable : Bool) (bs : List ℕ) → length bs ≤ section_room → AllByRecursion Sized (region_with writable (filled bs))
filled_sized writable bs room = let e = filled_length bs in sized_with writable (filled bs) (omega (arith, e, room)) (omega (arith, e))

at_most_one : (writable : Bool) (bs : List ℕ) → length (region_with writable bs) ≤ 1
at_most_one writable [] = omega arith
at_most_one writable (b ∷ bs) = omega arith

-- ---- regions one after the other, where each is sized

one_kept : (pages : ℕ) (r : Region) → Sized r → pages + pages_for (length r.bytes) ≤ 64 → region_keeps pages r ≡ Ok (pages + pages_for (length r.bytes))
unfolding region_keeps
one_kept pages r h few =
    passes (is_length_behind pages (length r.bytes)) fault.Limit (λ _. Ok (pages + pages_for (length r.bytes))) (pages + pages_for (length r.bytes))
    (and_from _ _ h.some (and_from _ _ h.whole (le-leb _ _ few))) refl

all_kept : (rs : List Region) (pages : ℕ) → AllByRecursion Sized rs → pages + length (page_rights rs) ≤ 64 → (last : ℕ) × (keep_each region_keeps pages rs ≡ Ok last)
all_kept [] pages h few = (pages, each_none region_keeps pages)
all_kept (r ∷ rs) pages h few =
    let own = page_count r rs in
    let rest = all_kept rs (pages + pages_for (length r.bytes)) h.1 (omega (arith, own, few)) in
    (rest.0, each_first region_keeps pages r rs (pages + pages_for (length r.bytes)) rest.0 (one_kept pages r h.0 (omega (arith, own, few))) rest.1)

-- ---- the regions of lines without faults

pub no_cause : (t : Bool) (c : Cause) → when t c ≡ [] → t ≡ false
no_cause true c h = cons_nil h
no_cause false c h = refl

module _ (values : Values) where
  pub clean_first : (before : List Item) (i : Item) (after : List Item) → each (faults_at values) before (i ∷ after) ≡ [] → line_rules values before i i.said ≡ []
  clean_first before i after clean = line_clean values before i after (nil_left (faults_at values before i after) (each (faults_at values) (i ∷ before) after) clean)

  pub clean_rest : (before : List Item) (i : Item) (after : List Item) → each (faults_at values) before (i ∷ after) ≡ [] → each (faults_at values) (i ∷ before) after ≡ []
  clean_rest before i after clean = nil_right (faults_at values before i after) (each (faults_at values) (i ∷ before) after) clean

  -- a line that begins one
  new_region : (P : List Region → Type 0) (writable : Bool) (bs : List ℕ) (before : List Item) (i : Item) (after : List Item) → is_region i ≡ true
      → ((right : Bool) → P (region_with writable (filled (bs ++ [])) ++ newest values right [] (i ∷ before) after)) → P (newest values writable bs before (i ∷ after))
  new_region P writable bs before i after e h =
      let region = which_region i i.said e in
      let it = λ (s : Said). item i.number i.labels i.bytes i.tokens s in
      subst (λ (s : Said). P (region_with writable (filled (bs ++ [])) ++ newest values region.0 [] (it s ∷ before) after) →
      P (newest values writable bs before (it s ∷ after))) (sym region.1) (λ k. k) (h region.0)

  -- each is sized
  pub are_sized : (after before : List Item) (writable : Bool) (bs : List ℕ) → data_offset before ≡ length bs → length bs ≤ section_room →
      AllByRecursion ItemCounts after → each (faults_at values) before after ≡ []
      → AllByRecursion Sized (newest values writable bs before after)
  are_sized [] before writable bs size room says clean =
      append_all Sized (region_with writable (filled (bs ++ []))) []
      (subst (λ (ys : List ℕ). AllByRecursion Sized (region_with writable (filled ys))) (sym (append-nil bs)) (filled_sized writable bs room)) tt
  are_sized (i ∷ after) before writable bs size room says clean = by (are_sized after (i ∷ before)) (is_region i) refl
    where
      mine : line_rules values before i i.said ≡ []
      mine = clean_first before i after clean

      by : ((writable : Bool) (cs : List ℕ) → data_offset (i ∷ before) ≡ length cs → length cs ≤ section_room → AllByRecursion ItemCounts after → each (faults_at values) (i ∷ before) after ≡ []
          → AllByRecursion Sized (newest values writable cs (i ∷ before) after)) → (t : Bool) → is_region i ≡ t → AllByRecursion Sized (newest values writable bs before (i ∷ after))
      by more true e =
          new_region (AllByRecursion Sized) writable bs before i after e
          (λ right. append_all Sized (region_with writable (filled (bs ++ []))) (newest values right [] (i ∷ before) after)
          (subst (λ (ys : List ℕ). AllByRecursion Sized (region_with writable (filled ys))) (sym (append-nil bs)) (filled_sized writable bs room))
          (more right [] (no_size before i e) (omega arith) says.1 (clean_rest before i after clean)))
      by more false e =
          subst (AllByRecursion Sized) (sym (newest_more values writable bs before i after e))
          (more writable (bs ++ bytes_at values before i []) (size_more values before bs size room i says.0 mine e)
          (room_more values before bs size room i says.0 mine e) says.1 (clean_rest before i after clean))

  -- there are at most 8 `.region`
  pub few_begin : (after before : List Item) → count is_region before ≤ 8 → each (faults_at values) before after ≡ [] → count is_region before + count is_region after ≤ 8
  few_begin [] before few clean = omega (arith, few)
  few_begin (i ∷ after) before few clean = by (few_begin after (i ∷ before)) (is_region i) refl
    where
      by : (count is_region (i ∷ before) ≤ 8 → each (faults_at values) (i ∷ before) after ≡ [] → count is_region (i ∷ before) + count is_region after ≤ 8) → (t : Bool) → is_region i ≡ t
          → count is_region before + (if t then count is_region after + 1 else count is_region after) ≤ 8
      by more true e =
          let one : count is_region (i ∷ before) ≡ count is_region before + 1 = λ j. if e j then count is_region before + 1 else count is_region before in
          let full = no_cause (nat_le 8 (count is_region before)) causes.Limit
          (nil_right (when (list_any is_data_line before) causes.Directive) (when (nat_le 8 (count is_region before)) causes.Limit)
          (sym (asks values before i i.said e) ∙ clean_first before i after clean)) in
          let less = leb-false 8 (count is_region before) full in
          let all = more (omega (arith, one, less)) (clean_rest before i after clean) in
          omega (arith, one, all)
      by more false e =
          let none : count is_region (i ∷ before) ≡ count is_region before = λ j. if e j then count is_region before + 1 else count is_region before in
          let all = more (omega (arith, none, few)) (clean_rest before i after clean) in
          omega (arith, none, all)

  -- as many regions as `.region`, and the one before them
  one_each : (after before : List Item) (writable : Bool) (bs : List ℕ) → length (newest values writable bs before after) ≤ 1 + count is_region after
  one_each [] before writable bs = let one = at_most_one writable (filled (bs ++ [])) in let all = length-append (region_with writable (filled (bs ++ []))) [] in omega (arith, one, all)
  one_each (i ∷ after) before writable bs = by (one_each after (i ∷ before)) (is_region i) refl
    where
      by : ((right : Bool) (cs : List ℕ) → length (newest values right cs (i ∷ before) after) ≤ 1 + count is_region after) → (t : Bool) → is_region i ≡ t
          → length (newest values writable bs before (i ∷ after)) ≤ 1 + (if t then count is_region after + 1 else count is_region after)
      by more true e =
          new_region (λ rs. length rs ≤ 1 + (count is_region after + 1)) writable bs before i after e
          (λ right. let rest = more right [] in let one = at_most_one writable (filled (bs ++ [])) in
          let all = length-append (region_with writable (filled (bs ++ []))) (newest values right [] (i ∷ before) after) in omega (arith, rest, one, all))
      by more false e = subst (λ (rs : List Region). length rs ≤ 1 + count is_region after) (sym (newest_more values writable bs before i after e)) (more writable (bs ++ bytes_at values before i []))

  -- but there is none before them: data before the first `.region` stand behind a `.data`, and a source has one or the other
  pub few_in_all : (after before : List Item) (writable : Bool) (bs : List ℕ) → (list_any is_data_line before ≡ false → (in_code before ≡ true) × (bs ≡ [])) →
      count is_region after ≤ 8 → each (faults_at values) before after ≡ []
      → length (newest values writable bs before after) ≤ 8
  few_in_all [] before writable bs none few clean = let one = one_each [] before writable bs in omega (arith, one)
  few_in_all (i ∷ after) before writable bs none few clean = by (few_in_all after (i ∷ before)) (is_region i) refl few
    where
      mine : line_rules values before i i.said ≡ []
      mine = clean_first before i after clean

      by : ((right : Bool) (cs : List ℕ) → (list_any is_data_line (i ∷ before) ≡ false → (in_code (i ∷ before) ≡ true) × (cs ≡ [])) →
          count is_region after ≤ 8 → each (faults_at values) (i ∷ before) after ≡ []
          → length (newest values right cs (i ∷ before) after) ≤ 8) → (t : Bool) → is_region i ≡ t →
          (if t then count is_region after + 1 else count is_region after) ≤ 8 → length (newest values writable bs before (i ∷ after)) ≤ 8
      by more true e small =
          let no_data : list_any is_data_line before ≡ false =
          no_cause (list_any is_data_line before) causes.Directive
          (nil_left (when (list_any is_data_line before) causes.Directive) (when (nat_le 8 (count is_region before)) causes.Limit)
          (sym (asks values before i i.said e) ∙ mine)) in
          let empty : bs ≡ [] = (none no_data).1 in
          subst (λ (ys : List ℕ). length (newest values writable ys before (i ∷ after)) ≤ 8) (sym empty)
          (new_region (λ rs. length rs ≤ 8) writable [] before i after e (λ right. let rest = one_each after (i ∷ before) right [] in omega (arith, rest, small)))
      by more false e small =
          subst (λ (rs : List Region). length rs ≤ 8) (sym (newest_more values writable bs before i after e))
          (more writable (bs ++ bytes_at values before i []) still small (clean_rest before i after clean))
        where
          still : list_any is_data_line (i ∷ before) ≡ false → (in_code (i ∷ before) ≡ true) × (bs ++ bytes_at values before i [] ≡ [])
          still h =
              let so_far = none (or_right (is_data_line i) (list_any is_data_line before) h) in
              let own = none_in_code values before i.number i.labels i.bytes i.tokens i.said so_far.0 mine in
              (stays_out (is_text i) (is_data_line i) (is_region i) (in_code before) e (or_left (is_data_line i) (list_any is_data_line before) h) so_far.0, (λ k. so_far.1 k ++ own k))

  -- without a `.region` it is one, which may be written
  alone : (after before : List Item) (bs : List ℕ) → list_any is_region after ≡ false → newest values true bs before after ≡ region_with true (filled (bs ++ each (bytes_at values) before after))
  alone [] before bs none = append-nil (region_with true (filled (bs ++ [])))
  alone (i ∷ after) before bs none =
      newest_more values true bs before i after (or_left (is_region i) (list_any is_region after) none)
      ∙ alone after (i ∷ before) (bs ++ bytes_at values before i []) (or_right (is_region i) (list_any is_region after) none)
      ∙ ap (λ (ys : List ℕ). region_with true (filled ys)) (append_assoc bs (bytes_at values before i []) (each (bytes_at values) (i ∷ before) after))

one_sized : (bs : List ℕ) → AllByRecursion Sized (region_with true bs) → is_one_region (region_with true bs) ≡ true
one_sized [] h = refl
one_sized (b ∷ bs) h = and_from _ _ refl (and_from _ _ h.0.some h.0.whole)

-- ---- the data of a source

module _ (values : Values) (items : List Item) (says : AllByRecursion ItemCounts items) (clean : each (faults_at values) [] items ≡ []) where
  pub all_sized : AllByRecursion Sized (newest values true [] [] items)
  all_sized = are_sized values items [] true [] refl (omega arith) says clean

  few_regions : length (newest values true [] [] items) ≤ 8
  few_regions = few_in_all values items [] true [] (λ _. (refl, refl)) (let few = few_begin values items [] (omega arith) clean in omega (arith, few)) clean

  one_region : list_any is_region items ≡ false → is_one_region (newest values true [] [] items) ≡ true
  one_region none =
      let same = alone values items [] [] none in
      subst (λ (rs : List Region). is_one_region rs ≡ true) (sym same) (one_sized (filled (each (bytes_at values) [] items)) (subst (AllByRecursion Sized) same all_sized))

  -- of each version
  pub data_is : (version : ℕ) → (version ≡ 1 → list_any is_region items ≡ false) → is_data version (newest values true [] [] items) ≡ true
  data_is version plain = by (version == 1) refl
    where
      by : (t : Bool) → (version == 1) ≡ t → (if t then is_one_region (newest values true [] [] items) else nat_le (length (newest values true [] [] items)) 8) ≡ true
      by true e = one_region (plain (eqb-true version 1 e))
      by false e = le-leb _ _ few_regions

  pub regions_kept : length (page_rights (newest values true [] [] items)) ≤ 64 → (last : ℕ) × (keep_each region_keeps 0 (newest values true [] [] items) ≡ Ok last)
  regions_kept few = all_kept (newest values true [] [] items) 0 all_sized (omega (arith, few))
