-- Numbers of lines show in faults alone, and a line that says nothing changes nothing else.
use Rattle.std.proofs.Common.{◌≡◌, ℕ, ◌+◌, ◌*◌, ◌≤◌, Bool, true, false, cond, leb, pos, List, [], ◌∷◌, ◌++◌, length, map, Some, Ok, Err, refl, sym, ap, ◌∙◌, arith, get_or}
use Rattle.std.specs.Prelude.{not, ◌&&◌, ◌||◌, nat_lt, replicate, if◌then◌else◌}
use Rattle.std.specs.List.{AllByRecursion, flat_map, list_any}
use Rattle.std.specs.Str.{bytes_eq}
use Rattle.std.proofs.lemmas.Bool.{le-ltb}
use Rattle.std.proofs.lemmas.List.{map-append}
use Rattle.v8_map.specs.declared.TheConstants.{CODE_START, DATA_START}
use Rattle.v8_syntax.specs.Statements.{source_meaning, statement_length}
use Rattle.sbx_text.specs.declared.Token.{Token}
use Rattle.sbx_image.specs.Block.{Block}
use Rattle.sbx_image.specs.Cell.{Cell}
use Rattle.sbx_image.specs.Term.{Term}
use Rattle.sbx_directives.specs.declared.directive.Keyword.TheVariants as keywords
use Rattle.sbx_directives.specs.declared.directive.Directive.TheVariants as directives
use Rattle.sbx_directives.specs.declared.directive.Statement.TheVariants as statements
use Rattle.sbx_directives.specs.Data.{bytes_of_width}
use Rattle.sbx_asm.specs.declared.fault.AsmFault.{AsmFault}
use Rattle.sbx_asm.specs.declared.fault.Cause.{Cause}
use Rattle.sbx_asm.specs.declared.fault.Cause.TheVariants as causes
use Rattle.sbx_asm.specs.Rules.{at, Values, when, ascending, duplicates, data_rules, block_rules, in_place, value_rules, acts, takes_annotations, takes_ranges}
use Rattle.sbx_asm.specs.Rules.{has_fuel, line_rules, faults_at, faults_of, least_of, value_fault_of}
use Rattle.sbx_asm.specs.Items.{Item, Said, each, up_to, count, starts_function, ends_function, is_data, is_region, has_bytes, is_block, ends_block}
use Rattle.sbx_asm.specs.Items.{in_function, begins_block, block_count, services, stacks, params, results, depths, fuels, cells, terms, has, is_text}
use Rattle.sbx_asm.specs.Addresses.{Label, code_length, data_length, region_start, section_room, start_behind, code_offset, data_offset, code_address, in_code}
use Rattle.sbx_asm.specs.Addresses.{labelled, names_said, labels_at, worth_in, values_of}
use Rattle.sbx_asm.proofs.Views.{up_to_room, fits_behind, is_called, has_depth, renumbered, retold, saying, leaves_region, address_in_section, told_again}
use Rattle.sbx_asm.proofs.Views.{range_rules, statement_rules, words_meant, version_with, fault_meant, all_labels, another_block}
use Rattle.sbx_asm.specs.Images as images
use Rattle.sbx_asm.specs.Images.{block_with, block_at, function_at, words_at, bytes_at, filled, region_with, region_at, image_of}
use Rattle.sbx_asm.specs.Laws.{BlankLinesChangeNothing, NumbersShowInFaultsAlone}
use Rattle.sbx_asm.proofs.Rooms.{in_room, code_within, data_within}
use Rattle.sbx_asm.proofs.Tables.{same_values}

-- a line that says nothing
abbrev blank : ℕ → List ℕ → List Token → Item
blank number bytes tokens = record { number = number; labels = []; bytes = bytes; tokens = tokens; said = Ok statements.Nothing }

-- Two readings of some lines: a line, which has another number in the first, or one that says nothing, which the second leaves out.
data Turn : Type 0 where
  keep : Item → Turn
  skip : ℕ → List ℕ → List Token → Turn

abbrev right : List Turn → List Item
right [] = []
right (keep i ∷ is) = i ∷ right is
right (skip n bs ts ∷ is) = right is

abbrev until : (Item → Bool) → List Turn → List Turn
until t [] = []
until t (keep i ∷ is) = cond (t i) [] (keep i ∷ until t is)
until t (skip n bs ts ∷ is) = skip n bs ts ∷ until t is

right_if : (b : Bool) (i : Item) (is : List Turn) → cond b [] (i ∷ right is) ≡ right (cond b [] (keep i ∷ is))
right_if true i is = refl
right_if false i is = refl

right_until : (t : Item → Bool) (is : List Turn) → up_to t (right is) ≡ right (until t is)
right_until t [] = refl
right_until t (keep i ∷ is) = ap (λ (js : List Item). cond (t i) [] (i ∷ js)) (right_until t is) ∙ right_if (t i) i (until t is)
right_until t (skip n bs ts ∷ is) = right_until t is

-- nothing more fills no more
unfilled : (offset : ℕ) → offset ≤ section_room → up_to_room (offset + 0) ≡ offset
unfilled offset h = let e : offset + 0 ≡ offset = omega arith in in_room (offset + 0) (omega arith) ∙ e

module _ (f : ℕ → ℕ) where
  abbrev u : Item → Item
  u i = renumbered f i

  abbrev left : List Turn → List Item
  left [] = []
  left (keep i ∷ is) = u i ∷ left is
  left (skip n bs ts ∷ is) = blank n bs ts ∷ left is

  abbrev r : AsmFault → AsmFault
  r a = retold f a

  relabelled : Label → Label
  relabelled l = record l { line = f l.line }

  -- ---- lists of items

  left_if : (b : Bool) (i : Item) (is : List Turn) → cond b [] (u i ∷ left is) ≡ left (cond b [] (keep i ∷ is))
  left_if true i is = refl
  left_if false i is = refl

  -- what asks neither for the number nor for lines that say nothing
  module _ (t : Item → Bool) (same : (i : Item) → t (u i) ≡ t i) (none : (n : ℕ) (bs : List ℕ) (ts : List Token) → t (blank n bs ts) ≡ false) where
    left_until : (is : List Turn) → up_to t (left is) ≡ left (until t is)
    left_until [] = refl
    left_until (keep i ∷ is) = let e = same i in let more = left_until is in (λ k. cond (e k) [] (u i ∷ more k)) ∙ left_if (t i) i (until t is)
    left_until (skip n bs ts ∷ is) = let e = none n bs ts in let more = left_until is in λ k. cond (e k) [] (blank n bs ts ∷ more k)

    -- what is the same of both readings up to a line
    up_to_u : {T : Type 0} (g h : List Item → T) (is : List Turn) → g (left (until t is)) ≡ h (right (until t is)) → g (up_to t (left is)) ≡ h (up_to t (right is))
    up_to_u g h is e = ap g (left_until is) ∙ e ∙ sym (ap h (right_until t is))

    any_u : (is : List Turn) → list_any t (left is) ≡ list_any t (right is)
    any_u [] = refl
    any_u (keep i ∷ is) = let e = same i in let more = any_u is in λ k. e k || more k
    any_u (skip n bs ts ∷ is) = let e = none n bs ts in let more = any_u is in λ k. e k || more k

    count_u : (is : List Turn) → count t (left is) ≡ count t (right is)
    count_u [] = refl
    count_u (keep i ∷ is) = let e = same i in let more = count_u is in λ k. cond (e k) (more k + 1) (more k)
    count_u (skip n bs ts ∷ is) = let e = none n bs ts in let more = count_u is in λ k. cond (e k) (count t (left is) + 1) (more k)

  flat_u : {A : Type 0} (g : Item → List A) → ((i : Item) → g (u i) ≡ g i) → ((n : ℕ) (bs : List ℕ) (ts : List Token) → g (blank n bs ts) ≡ []) →
      (is : List Turn) → flat_map g (left is) ≡ flat_map g (right is)
  flat_u g same none [] = refl
  flat_u g same none (keep i ∷ is) = let e = same i in let more = flat_u g same none is in λ k. e k ++ more k
  flat_u g same none (skip n bs ts ∷ is) = let e = none n bs ts in let more = flat_u g same none is in λ k. e k ++ more k

  -- so up to the line that ends a block or a function
  any_in_block : (t : Item → Bool) → ((i : Item) → t (u i) ≡ t i) → ((n : ℕ) (bs : List ℕ) (ts : List Token) → t (blank n bs ts) ≡ false) → (is : List Turn) →
      list_any t (up_to ends_block (left is)) ≡ list_any t (up_to ends_block (right is))
  any_in_block t same none is = up_to_u ends_block (λ _. refl) (λ _ _ _. refl) (list_any t) (list_any t) is (any_u t same none (until ends_block is))

  any_in_function : (t : Item → Bool) → ((i : Item) → t (u i) ≡ t i) → ((n : ℕ) (bs : List ℕ) (ts : List Token) → t (blank n bs ts) ≡ false) →
      (is : List Turn) → list_any t (up_to ends_function (left is)) ≡ list_any t (up_to ends_function (right is))
  any_in_function t same none is = up_to_u ends_function (λ _. refl) (λ _ _ _. refl) (list_any t) (list_any t) is (any_u t same none (until ends_function is))

  in_block : {A : Type 0} (g : Item → List A) → ((i : Item) → g (u i) ≡ g i) → ((n : ℕ) (bs : List ℕ) (ts : List Token) → g (blank n bs ts) ≡ []) →
      (is : List Turn) → flat_map g (up_to ends_block (left is)) ≡ flat_map g (up_to ends_block (right is))
  in_block g same none is = up_to_u ends_block (λ _. refl) (λ _ _ _. refl) (flat_map g) (flat_map g) is (flat_u g same none (until ends_block is))

  of_function : {A : Type 0} (g : Item → List A) → ((i : Item) → g (u i) ≡ g i) → ((n : ℕ) (bs : List ℕ) (ts : List Token) → g (blank n bs ts) ≡ []) →
      (is : List Turn) → flat_map g (up_to ends_function (left is)) ≡ flat_map g (up_to ends_function (right is))
  of_function g same none is = up_to_u ends_function (λ _. refl) (λ _ _ _. refl) (flat_map g) (flat_map g) is (flat_u g same none (until ends_function is))

  -- ---- places

  code_offset_u : (is : List Turn) → code_offset (left is) ≡ code_offset (right is)
  code_offset_u [] = refl
  code_offset_u (keep i ∷ is) = ap (λ (n : ℕ). up_to_room (n + code_length i)) (code_offset_u is)
  code_offset_u (skip n bs ts ∷ is) = unfilled (code_offset (left is)) (code_within (left is)) ∙ code_offset_u is

  data_offset_u : (is : List Turn) → data_offset (left is) ≡ data_offset (right is)
  data_offset_u [] = refl
  data_offset_u (keep i ∷ is) = ap (λ (n : ℕ). if is_region i then 0 else up_to_room (n + data_length n i.said)) (data_offset_u is)
  data_offset_u (skip n bs ts ∷ is) = unfilled (data_offset (left is)) (data_within (left is)) ∙ data_offset_u is

  code_address_u : (is : List Turn) → code_address (left is) ≡ code_address (right is)
  code_address_u is = ap (λ (n : ℕ). CODE_START + n) (code_offset_u is)

  start_u : (is : List Turn) → region_start (left is) ≡ region_start (right is)
  start_u [] = refl
  start_u (skip n bs ts ∷ is) = start_u is
  start_u (keep i ∷ is) =
      let a = start_u is in let b = data_offset_u is in
      let later = any_u is_region (λ _. refl) (λ _ _ _. refl) is in
      λ k. if is_region i then (if later k then start_behind (a k) (b k) else DATA_START) else a k

  section_u : (is : List Turn) → in_code (left is) ≡ in_code (right is)
  section_u [] = refl
  section_u (skip n bs ts ∷ is) = section_u is
  section_u (keep i ∷ is) = ap (λ (x : Bool). if is_text i then true else (if is_data i || is_region i then false else x)) (section_u is)

  address_u : (is : List Turn) (x : Bool) → address_in_section (left is) x ≡ address_in_section (right is) x
  address_u is true = code_address_u is
  address_u is false = let a = start_u is in let b = data_offset_u is in λ k. a k + b k

  -- ---- labels

  map_labelled : (n a : ℕ) (names : List (List ℕ)) → map (labelled (f n) a) names ≡ map relabelled (map (labelled n a) names)
  unfolding relabelled
  map_labelled n a [] = refl
  map_labelled n a (name ∷ names) = ap (λ (ls : List Label). labelled (f n) a name ∷ ls) (map_labelled n a names)

  labels_at_u : (before : List Turn) (i : Item) → labels_at (left before) (u i) [] ≡ map relabelled (labels_at (right before) i [])
  labels_at_u before i =
      let here : address_in_section (left before) (in_code (left before)) ≡ address_in_section (right before) (in_code (right before))
      = address_u before (in_code (left before)) ∙ ap (address_in_section (right before)) (section_u before) in
      let there = code_address_u before in
      (λ k. map (labelled (f i.number) (here k)) i.labels ++ map (labelled (f i.number) (there k)) (names_said i.bytes i.said))
      ∙ (let a = map_labelled i.number (address_in_section (right before) (in_code (right before))) i.labels in
      let b = map_labelled i.number (code_address (right before)) (names_said i.bytes i.said) in λ k. a k ++ b k)
      ∙ sym (map-append relabelled (map (labelled i.number (address_in_section (right before) (in_code (right before)))) i.labels)
      (map (labelled i.number (code_address (right before))) (names_said i.bytes i.said)))

  labels_u : (before is : List Turn) → each labels_at (left before) (left is) ≡ map relabelled (each labels_at (right before) (right is))
  labels_u before [] = refl
  labels_u before (skip n bs ts ∷ is) = labels_u (skip n bs ts ∷ before) is
  labels_u before (keep i ∷ is) =
      (let a = labels_at_u before i in let b = labels_u (keep i ∷ before) is in λ k. a k ++ b k)
      ∙ sym (map-append relabelled (labels_at (right before) i (right is)) (each labels_at (i ∷ right before) (right is)))

  worth_u : (ls : List Label) (q : List ℕ) → worth_in (map relabelled ls) q ≡ worth_in ls q
  unfolding relabelled
  worth_u [] q = refl
  worth_u (l ∷ ls) q = ap (cond (bytes_eq l.name q) (Some l.address)) (worth_u ls q)

  values_u : (is : List Turn) → values_of (left is) ≡ values_of (right is)
  values_u is = ap worth_in (labels_u [] is) ∙ same_values (worth_in (map relabelled (all_labels (right is)))) (worth_in (all_labels (right is))) (worth_u (all_labels (right is)))

  called_u : (name : List ℕ) (ls : List Label) → list_any (is_called name) (map relabelled ls) ≡ list_any (is_called name) ls
  unfolding relabelled
  called_u name [] = refl
  called_u name (l ∷ ls) = ap (λ (b : Bool). bytes_eq l.name name || b) (called_u name ls)

  again_u : (b : Bool) (n : ℕ) (fs : List AsmFault) → told_again b (f n) ++ map r fs ≡ map r (told_again b n ++ fs)
  again_u true n fs = refl
  again_u false n fs = refl

  twice_u : (before ls : List Label) → duplicates (map relabelled before) (map relabelled ls) ≡ map r (duplicates before ls)
  unfolding relabelled
  twice_u before [] = refl
  twice_u before (l ∷ ls) =
      let called = called_u l.name before in
      let more = ap (λ (bs : List Label). duplicates bs (map relabelled ls)) (sym (map-append relabelled before (l ∷ []))) ∙ twice_u (before ++ l ∷ []) ls in
      (λ k. told_again (called k) (f l.line) ++ more k) ∙ again_u (list_any (is_called l.name) before) l.line (duplicates (before ++ l ∷ []) ls)

  -- ---- functions and blocks

  in_function_u : (is : List Turn) → in_function (left is) ≡ in_function (right is)
  in_function_u [] = refl
  in_function_u (skip n bs ts ∷ is) = in_function_u is
  in_function_u (keep i ∷ is) = ap (λ (b : Bool). if ends_function i then starts_function i else b) (in_function_u is)

  begins_u : (before : List Turn) (i : Item) → begins_block (left before) (u i) ≡ begins_block (right before) i
  begins_u before i = ap (λ (b : Bool). starts_function i || (is_block i && b)) (in_function_u before)

  block_count_u : (is : List Turn) → block_count (left is) ≡ block_count (right is)
  block_count_u [] = refl
  block_count_u (skip n bs ts ∷ is) = block_count_u is
  block_count_u (keep i ∷ is) = let e = begins_u is i in let more = block_count_u is in λ k. cond (e k) (more k + 1) (more k)

  block_with_u : (a : ℕ) (own : List Turn) → block_with a (left own) ≡ block_with a (right own)
  block_with_u a own =
      let zs = flat_u fuels (λ _. refl) (λ _ _ _. refl) own in let cs = flat_u cells (λ _. refl) (λ _ _ _. refl) own in let ts = flat_u terms (λ _. refl) (λ _ _ _. refl) own in
      λ k. record { address = a; fuel = get_or (zs k) 0 (pos 0); cells = cs k; terms = ts k }

  -- a block up to its end, at its place
  block_there : (before after : List Turn) → block_with (code_address (left before)) (up_to ends_block (left after)) ≡ block_with (code_address (right before)) (up_to ends_block (right after))
  block_there before after =
      ap (λ (a : ℕ). block_with a (up_to ends_block (left after))) (code_address_u before)
      ∙ up_to_u ends_block (λ _. refl) (λ _ _ _. refl) (block_with (code_address (right before))) (block_with (code_address (right before))) after
      (block_with_u (code_address (right before)) (until ends_block after))

  block_u : (before after : List Turn) (s : Said) → block_at (left before) (saying s) (left after) ≡ block_at (right before) (saying s) (right after)
  block_u before after (Ok (statements.Directive (directives.Block name))) = ap (λ (b : Block). b ∷ []) (block_there before after)
  block_u before after (Ok (statements.Directive _)) = refl
  block_u before after (Ok _) = refl
  block_u before after (Err e) = refl

  blocks_u : (before own : List Turn) → each block_at (left before) (left own) ≡ each block_at (right before) (right own)
  blocks_u before [] = refl
  blocks_u before (skip n bs ts ∷ own) = blocks_u (skip n bs ts ∷ before) own
  blocks_u before (keep i ∷ own) = let a = block_u before own i.said in let b = blocks_u (keep i ∷ before) own in λ k. a k ++ b k

  function_u : (before : List Turn) (i : Item) (after : List Turn) (s : Said) →
      function_at (left before) (u (record i { said = s })) (left after) ≡ function_at (right before) (record i { said = s }) (right after)
  function_u before i after (Ok (statements.Directive (directives.Function name kind frame room budget))) =
      let it : Item = record i { said = Ok (statements.Directive (directives.Function name kind frame room budget)) } in
      let own : List Turn = until ends_function after in
      let a = code_address_u before in let ps = of_function params (λ _. refl) (λ _ _ _. refl) after in let rs = of_function results (λ _. refl) (λ _ _ _. refl) after in
      let ns = of_function depths (λ _. refl) (λ _ _ _. refl) after in
      let b = up_to_u ends_function (λ _. refl) (λ _ _ _. refl) (λ is. block_with (code_address (left before)) (up_to ends_block is))
      (λ is. block_with (code_address (right before)) (up_to ends_block is)) after (block_there before own) in
      let bs = up_to_u ends_function (λ _. refl) (λ _ _ _. refl) (each block_at (u it ∷ left before)) (each block_at (it ∷ right before)) after (blocks_u (keep it ∷ before) own) in
      λ k. record { kind = kind; params = ps k; results = rs k; entry = a k; frame = frame; stack_room = room; budget = budget; depth = get_or (ns k) 0 0; blocks = b k ∷ bs k } ∷ []
  function_u before i after (Ok (statements.Directive _)) = refl
  function_u before i after (Ok _) = refl
  function_u before i after (Err e) = refl

  functions_u : (before is : List Turn) → each function_at (left before) (left is) ≡ each function_at (right before) (right is)
  functions_u before [] = refl
  functions_u before (skip n bs ts ∷ is) = functions_u (skip n bs ts ∷ before) is
  functions_u before (keep i ∷ is) =
      let a = function_u before i is i.said in
      let b = functions_u (keep i ∷ before) is in λ k. a k ++ b k

  -- ---- what the labels are worth

  module _ (values : Values) where
    words_said_u : (before : List Turn) (i : Item) (s : Said) → words_at values (left before) (u (record i { said = s })) [] ≡ words_at values (right before) (record i { said = s }) []
    words_said_u before i (Ok statements.Instruction) = ap (λ (a : ℕ). words_meant (source_meaning values a i.bytes i.tokens)) (code_address_u before)
    words_said_u before i (Ok _) = refl
    words_said_u before i (Err e) = refl

    words_u : (before is : List Turn) → each (words_at values) (left before) (left is) ≡ each (words_at values) (right before) (right is)
    words_u before [] = refl
    words_u before (skip n bs ts ∷ is) = words_u (skip n bs ts ∷ before) is
    words_u before (keep i ∷ is) = let a = words_said_u before i i.said in let b = words_u (keep i ∷ before) is in λ k. a k ++ b k

    bytes_said_u : (before : List Turn) (i : Item) (s : Said) → bytes_at values (left before) (u (record i { said = s })) [] ≡ bytes_at values (right before) (record i { said = s }) []
    bytes_said_u before i (Ok (statements.Directive (directives.Align n))) = ap (λ (o : ℕ). replicate (data_length o (Ok (statements.Directive (directives.Align n)))) 0) (data_offset_u before)
    bytes_said_u before i (Ok (statements.Directive (directives.Values w n))) = refl
    bytes_said_u before i (Ok (statements.Directive (directives.Skip n))) = refl
    bytes_said_u before i (Ok (statements.Directive _)) = refl
    bytes_said_u before i (Ok _) = refl
    bytes_said_u before i (Err e) = refl

    bytes_u : (before is : List Turn) → each (bytes_at values) (left before) (left is) ≡ each (bytes_at values) (right before) (right is)
    bytes_u before [] = refl
    bytes_u before (skip n bs ts ∷ is) = bytes_u (skip n bs ts ∷ before) is
    bytes_u before (keep i ∷ is) = let a = bytes_said_u before i i.said in let b = bytes_u (keep i ∷ before) is in λ k. a k ++ b k

    -- a region up to its end, at its place
    region_u : (before : List Turn) (i : Item) (after : List Turn) (s : Said) →
        region_at values (left before) (u (record i { said = s })) (left after) ≡ region_at values (right before) (record i { said = s }) (right after)
    region_u before i after (Ok (statements.Directive (directives.Region writable))) =
        let behind_it : List Turn = keep (record i { said = Ok (statements.Directive (directives.Region writable)) }) ∷ before in
        ap (λ (bs : List ℕ). region_with writable (filled bs))
        (up_to_u is_region (λ _. refl) (λ _ _ _. refl) (each (bytes_at values) (left behind_it)) (each (bytes_at values) (right behind_it)) after
        (bytes_u behind_it (until is_region after)))
    region_u before i after (Ok (statements.Directive _)) = refl
    region_u before i after (Ok _) = refl
    region_u before i after (Err e) = refl

    regions_at_u : (before is : List Turn) → each (region_at values) (left before) (left is) ≡ each (region_at values) (right before) (right is)
    regions_at_u before [] = refl
    regions_at_u before (skip n bs ts ∷ is) = regions_at_u (skip n bs ts ∷ before) is
    regions_at_u before (keep i ∷ is) = let a = region_u before i is i.said in let b = regions_at_u (keep i ∷ before) is in λ k. a k ++ b k

    regions_u : (is : List Turn) → images.regions_of values (left is) ≡ images.regions_of values (right is)
    regions_u is =
        let first = up_to_u is_region (λ _. refl) (λ _ _ _. refl) (each (bytes_at values) []) (each (bytes_at values) []) is (bytes_u [] (until is_region is)) in let others = regions_at_u [] is in
        λ k. region_with true (filled (first k)) ++ others k

    annotations_u : (is : List Turn) → takes_annotations values (left is) ≡ takes_annotations values (right is)
    annotations_u is = let a = in_function_u is in let b = any_in_block (acts values) (λ _. refl) (λ _ _ _. refl) is in λ k. a k && not (b k)

    ranges_u : (is : List Turn) → takes_ranges values (left is) ≡ takes_ranges values (right is)
    ranges_u is = let a = annotations_u is in let b = any_in_function is_block (λ _. refl) (λ _ _ _. refl) is in λ k. a k && not (b k)

    has_fuel_u : (is : List Turn) → has_fuel values (left is) ≡ has_fuel values (right is)
    has_fuel_u [] = refl
    has_fuel_u (skip n bs ts ∷ is) = has_fuel_u is
    has_fuel_u (keep i ∷ is) = let a = begins_u is i in let b = annotations_u is in let more = has_fuel_u is in λ k. not (a k) && ((has fuels i && b k) || more k)

    has_depth_u : (is : List Turn) → has_depth (left is) ≡ has_depth (right is)
    has_depth_u is = let a = in_function_u is in let b = any_in_function (has depths) (λ _. refl) (λ _ _ _. refl) is in λ k. a k && b k

    data_rules_u : (is : List Turn) (m n : ℕ) → m ≡ n → data_rules (left is) m ≡ data_rules (right is) n
    data_rules_u is m n p = let a = section_u is in let b = data_offset_u is in λ k. when ((a k)) causes.Directive ++ when (not (fits_behind (b k) (p k))) causes.Limit

    another_block_u : (is : List Turn) → another_block (left is) ≡ another_block (right is)
    another_block_u is = ap (λ (n : ℕ). when (leb 4096 n) causes.Limit) (block_count_u is)

    block_rules_u : (is : List Turn) → block_rules (left is) ≡ block_rules (right is)
    block_rules_u is = let a = in_function_u is in let b = another_block_u is in λ k. cond (a k) (b k) (causes.Annotation ∷ [])

    line_rules_u : (is : List Turn) (i : Item) (s : Said) → line_rules values (left is) (u i) s ≡ line_rules values (right is) i s
    line_rules_u is i (Err e) = refl
    line_rules_u is i (Ok statements.Nothing) = refl
    line_rules_u is i (Ok statements.Instruction) =
        let a = section_u is in let b = in_function_u is in let c = code_offset_u is in
        λ k. when (not (a k && b k)) causes.Directive
        ++ (when (not (fits_behind (c k) (4 * statement_length i.bytes i.tokens))) causes.Limit
        ++ statement_rules (fault_meant values (CODE_START + c k) i))
    line_rules_u is i (Ok (statements.Malformed keywords.Block name)) = ap (λ (cs : List Cause). cs ++ causes.Directive ∷ []) (block_rules_u is)
    line_rules_u is i (Ok (statements.Malformed _ name)) = refl
    line_rules_u is i (Ok (statements.Directive directives.Text)) = refl
    line_rules_u is i (Ok (statements.Directive directives.Data)) = ap (λ (b : Bool). when b causes.Directive) (any_u is_region (λ _. refl) (λ _ _ _. refl) is)
    line_rules_u is i (Ok (statements.Directive (directives.Region writable))) =
        let a = any_u is_data (λ _. refl) (λ _ _ _. refl) is in let b = count_u is_region (λ _. refl) (λ _ _ _. refl) is in λ k. when (a k) causes.Directive ++ when (leb 8 (b k)) causes.Limit
    line_rules_u is i (Ok (statements.Directive (directives.Services x))) = ap (λ (b : Bool). when b causes.Directive) (any_u (has services) (λ _. refl) (λ _ _ _. refl) is)
    line_rules_u is i (Ok (statements.Directive (directives.Stack n))) = ap (λ (b : Bool). when b causes.Directive) (any_u (has stacks) (λ _. refl) (λ _ _ _. refl) is)
    line_rules_u is i (Ok (statements.Directive (directives.Function name kind frame room budget))) =
        let a = count_u starts_function (λ _. refl) (λ _ _ _. refl) is in let b = another_block_u is in λ k. when (leb 256 (a k)) causes.Limit ++ b k
    line_rules_u is i (Ok (statements.Directive (directives.Param x))) = let a = ranges_u is in let b = of_function params (λ _. refl) (λ _ _ _. refl) is in
        λ k. in_place (a k) (range_rules (length (b k)))
    line_rules_u is i (Ok (statements.Directive (directives.Result x))) = let a = ranges_u is in let b = of_function results (λ _. refl) (λ _ _ _. refl) is in
        λ k. in_place (a k) (range_rules (length (b k)))
    line_rules_u is i (Ok (statements.Directive (directives.Depth n))) = let a = has_depth_u is in let b = ranges_u is in λ k. cond (a k) (causes.Directive ∷ []) (in_place (b k) [])
    line_rules_u is i (Ok (statements.Directive (directives.Block name))) = block_rules_u is
    line_rules_u is i (Ok (statements.Directive (directives.Cell x))) = let a = annotations_u is in let b = in_block cells (λ _. refl) (λ _ _ _. refl) is in
        λ k. in_place (a k) (ascending 64 (map (λ (c : Cell). c.location) (b k)) x.location)
    line_rules_u is i (Ok (statements.Directive (directives.Fuel z))) = let a = has_fuel_u is in let b = annotations_u is in λ k. cond (a k) (causes.Directive ∷ []) (in_place (b k) [])
    line_rules_u is i (Ok (statements.Directive (directives.Term x))) = let a = annotations_u is in let b = in_block terms (λ _. refl) (λ _ _ _. refl) is in
        λ k. in_place (a k) (ascending 8 (map (λ (t : Term). t.location) (b k)) x.location)
    line_rules_u is i (Ok (statements.Directive (directives.Values w n))) =
        ap (λ (cs : List Cause). cs ++ value_rules (value_fault_of values i)) (data_rules_u is (bytes_of_width w * n) (bytes_of_width w * n) refl)
    line_rules_u is i (Ok (statements.Directive (directives.Skip n))) = data_rules_u is n n refl
    line_rules_u is i (Ok (statements.Directive (directives.Align n))) = data_rules_u is _ _ (ap (λ (o : ℕ). data_length o (Ok (statements.Directive (directives.Align n)))) (data_offset_u is))

    -- ---- faults

    map_at : (n : ℕ) (cs : List Cause) → map (at (f n)) cs ≡ map r (map (at n) cs)
    map_at n [] = refl
    map_at n (c ∷ cs) = ap (λ (fs : List AsmFault). at (f n) c ∷ fs) (map_at n cs)

    faults_at_u : (before : List Turn) (i : Item) (after : List Turn) → nat_lt 1000000 (f i.number) ≡ nat_lt 1000000 i.number →
        faults_at values (left before) (u i) (left after) ≡ map r (faults_at values (right before) i (right after))
    faults_at_u before i after many =
        let cs = line_rules_u before i i.said in
        let filled_up = up_to_u leaves_region (λ _. refl) (λ _ _ _. refl) (list_any has_bytes) (list_any has_bytes) after (any_u has_bytes (λ _. refl) (λ _ _ _. refl) (until leaves_region after)) in
        let begins = begins_u before i in
        let acting = any_in_block (acts values) (λ _. refl) (λ _ _ _. refl) after in
        (λ k. map (at (f i.number)) (when (many k) causes.Limit ++ (cs k ++ (when (is_region i && not (filled_up k)) causes.Directive ++ when (begins k && not (acting k)) causes.Directive))))
        ∙ map_at i.number _

    blank_faults : (before : List Item) (n : ℕ) (bs : List ℕ) (ts : List Token) (after : List Item) → n ≤ 1000000 → faults_at values before (blank n bs ts) after ≡ []
    blank_faults before n bs ts after few = ap (λ (b : Bool). map (at n) (when b causes.Limit ++ [])) (le-ltb 1000000 n few)

  -- no number passes 1,000,000 in one reading alone, and no line that is left out does
  abbrev Few : List Turn → Type 0
  Few [] = Unit {0}
  Few (keep i ∷ is) = (nat_lt 1000000 (f i.number) ≡ nat_lt 1000000 i.number) × Few is
  Few (skip n bs ts ∷ is) = (n ≤ 1000000) × Few is

  faults_u : (values : Values) (before is : List Turn) → Few is → each (faults_at values) (left before) (left is) ≡ map r (each (faults_at values) (right before) (right is))
  faults_u values before [] h = refl
  faults_u values before (skip n bs ts ∷ is) h =
      ap (λ (fs : List AsmFault). fs ++ each (faults_at values) (left (skip n bs ts ∷ before)) (left is)) (blank_faults values (left before) n bs ts (left is) h.0)
      ∙ faults_u values (skip n bs ts ∷ before) is h.1
  faults_u values before (keep i ∷ is) h =
      (let one = faults_at_u values before i is h.0 in let more = faults_u values (keep i ∷ before) is h.1 in λ k. one k ++ more k)
      ∙ sym (map-append r (faults_at values (right before) i (right is)) (each (faults_at values) (i ∷ right before) (right is)))

  image_u : (is : List Turn) → image_of (left is) ≡ image_of (right is)
  unfolding image_of
  image_u is =
      let vs = values_u is in
      let ws = ap (λ (v : Values). each (words_at v) [] (left is)) vs ∙ words_u (values_of (right is)) [] is in
      let rs = ap (λ (v : Values). images.regions_of v (left is)) vs ∙ regions_u (values_of (right is)) is in
      let deep = any_u (has depths) (λ _. refl) (λ _ _ _. refl) is in
      let regional = any_u is_region (λ _. refl) (λ _ _ _. refl) is in
      let ss = flat_u services (λ _. refl) (λ _ _ _. refl) is in
      let ks = flat_u stacks (λ _. refl) (λ _ _ _. refl) is in
      let fs = functions_u [] is in
      λ k. record { version = version_with (deep k) (regional k); services = get_or (ss k) 0 (record { 0 = 0 }); words = ws k; regions = rs k; stack_pages = get_or (ks k) 0 1; functions = fs k }

  all_faults_u : (is : List Turn) → Few is → faults_of (left is) ≡ map r (faults_of (right is))
  all_faults_u is h =
      let twice = ap (duplicates []) (labels_u [] is) ∙ twice_u [] (all_labels (right is)) in
      let each_one = ap (λ (v : Values). each (faults_at v) [] (left is)) (values_u is) ∙ faults_u (values_of (right is)) [] is h in
      (λ k. twice k ++ each_one k) ∙ sym (map-append r (duplicates [] (all_labels (right is))) (each (faults_at (values_of (right is))) [] (right is)))

  -- ---- lines by other numbers

  left_kept : (is : List Item) → left (map keep is) ≡ map u is
  left_kept [] = refl
  left_kept (i ∷ is) = ap (λ (js : List Item). u i ∷ js) (left_kept is)

  few_kept : (is : List Item) → AllByRecursion (λ i. (i.number ≤ 1000000) × (f i.number ≤ 1000000)) is → Few (map keep is)
  few_kept [] h = tt
  few_kept (i ∷ is) h = (le-ltb 1000000 (f i.number) h.0.1 ∙ sym (le-ltb 1000000 i.number h.0.0), few_kept is h.1)

right_kept : (is : List Item) → right (map keep is) ≡ is
right_kept [] = refl
right_kept (i ∷ is) = ap (λ (js : List Item). i ∷ js) (right_kept is)

pub numbers_show : NumbersShowInFaultsAlone
numbers_show f items h = (
  sym (ap image_of (left_kept f items)) ∙ image_u f (map keep items) ∙ ap image_of (right_kept items),
  sym (ap faults_of (left_kept f items)) ∙ all_faults_u f (map keep items) (few_kept f items h) ∙ ap (λ (is : List Item). map (retold f) (faults_of is)) (right_kept items),
)

-- ---- a line that says nothing

abbrev same : ℕ → ℕ
same n = n

retold_same : (fs : List AsmFault) → map (retold same) fs ≡ fs
retold_same [] = refl
retold_same (a ∷ fs) = ap (λ (gs : List AsmFault). a ∷ gs) (retold_same fs)

left_same : (is : List Item) → left same (map keep is) ≡ is
left_same [] = refl
left_same (i ∷ is) = ap (λ (js : List Item). i ∷ js) (left_same is)

few_same : (is : List Item) → Few same (map keep is)
few_same [] = tt
few_same (i ∷ is) = (refl, few_same is)

module _ (n : ℕ) (bs : List ℕ) (ts : List Token) (after : List Item) where
  with_blank : List Item → List Turn
  with_blank [] = skip n bs ts ∷ map keep after
  with_blank (i ∷ front) = keep i ∷ with_blank front

  left_blank : (front : List Item) → left same (with_blank front) ≡ front ++ blank n bs ts ∷ after
  unfolding with_blank
  left_blank [] = ap (λ (is : List Item). blank n bs ts ∷ is) (left_same after)
  left_blank (i ∷ front) = ap (λ (is : List Item). i ∷ is) (left_blank front)

  right_blank : (front : List Item) → right (with_blank front) ≡ front ++ after
  unfolding with_blank
  right_blank [] = right_kept after
  right_blank (i ∷ front) = ap (λ (is : List Item). i ∷ is) (right_blank front)

  few_blank : n ≤ 1000000 → (front : List Item) → Few same (with_blank front)
  unfolding with_blank
  few_blank few [] = (few, few_same after)
  few_blank few (i ∷ front) = (refl, few_blank few front)

pub blank_changes : BlankLinesChangeNothing
blank_changes front after i bare silent few =
    let is : List Turn = with_blank i.number i.bytes i.tokens after front in
    let there : front ++ i ∷ after ≡ left same is
    = (λ k. front ++ record i { labels = bare k; said = silent k } ∷ after) ∙ sym (left_blank i.number i.bytes i.tokens after front) in
    let here : right is ≡ front ++ after = right_blank i.number i.bytes i.tokens after front in (
      ap (λ (js : List Item). least_of (faults_of js)) there
          ∙ ap least_of (all_faults_u same is (few_blank i.number i.bytes i.tokens after few front) ∙ retold_same (faults_of (right is)))
          ∙ ap (λ (js : List Item). least_of (faults_of js)) here,
      λ _. ap image_of there ∙ image_u same is ∙ ap image_of here,
    )
