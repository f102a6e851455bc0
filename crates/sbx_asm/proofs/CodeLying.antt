-- Where the code of a source lies in its image: where its labels say.
use Rattle.std.proofs.Common.{◌≡◌, ℕ, suc, ◌+◌, ◌-◌, ◌*◌, ◌/◌, ◌%◌, ◌≤◌, Bool, true, false, List, [], ◌∷◌, ◌++◌, length, map, None, Some, Result, Ok, Err, refl, sym, ap, ◌∙◌, append_assoc, arith}
use Rattle.std.specs.Prelude.{MatchResult, not, ◌&&◌, ◌==◌, nat_le, slice_get, if◌then◌else◌}
use Rattle.std.specs.Result.{result_err}
use Rattle.std.proofs.lemmas.Bool.{leb-true}
use Rattle.std.proofs.lemmas.Bool.Decides.{nat_tests}
use Rattle.std.proofs.lemmas.List.{length-append, length-map}
use Rattle.v8_map.specs.declared.TheConstants.{CODE_START}
use Rattle.v8_formats.specs.declared.instr.Instr.{Instr}
use Rattle.v8_formats.specs.Spelling.{spelling}
use Rattle.v8_syntax.specs.declared.fault.SyntaxFault.{SyntaxFault}
use Rattle.v8_syntax.specs.Statements.{source_meaning, statement_length}
use Rattle.v8_rereading.specs.Laws.{IsNoStatement}
use Rattle.v8_rereading.proofs.Lengths.{counts_instructions}
use Rattle.sbx_text.specs.declared.Token.{Token}
use Rattle.sbx_image.specs.Function.{Function}
use Rattle.sbx_image.specs.Parts.{Parts}
use Rattle.sbx_directives.specs.declared.directive.Directive.TheVariants as directives
use Rattle.sbx_directives.specs.declared.directive.Statement.TheVariants as statements
use Rattle.sbx_asm.specs.declared.fault.Cause.{Cause}
use Rattle.sbx_asm.specs.declared.fault.Cause.TheVariants as causes
use Rattle.sbx_asm.specs.Rules.{Values, when, line_rules, faults_at, faults_of, least_of}
use Rattle.sbx_asm.specs.Items.{Item, Said, each, count, starts_function, in_function, items_of}
use Rattle.sbx_asm.specs.Addresses.{code_length, code_offset, code_address, section_room, in_code, label_address}
use Rattle.sbx_asm.specs.Images.{words_at, function_at, image_of, source_image}
use Rattle.sbx_asm.specs.Laws.{CodeLiesWhereLabelsSay, FunctionsBeginWhereNamesSay, code_at}
use Rattle.sbx_asm.proofs.Views.{behind, fits_behind, item, statement_rules, words_meant, address_in_section}
use Rattle.sbx_asm.proofs.Rooms.{in_room, code_within}
use Rattle.sbx_asm.proofs.Nils.{cons_nil, nil_left, nil_right}
use Rattle.sbx_asm.proofs.Meanings.{code_is, judged_parts, words_split}
use Rattle.sbx_asm.proofs.Lying.{between, clean_at, clean_here, line_clean, worth}

-- ---- the words of a line without faults

no_cause : (t : Bool) (c : Cause) → when (not t) c ≡ [] → t ≡ true
no_cause true c h = refl
no_cause false c h = cons_nil h

first_holds : (a b : Bool) → (a && b) ≡ true → a ≡ true
first_holds true b h = refl
first_holds false b h = h

as_many : (r : Result (List Instr) SyntaxFault) (n : ℕ) → MatchResult r (λ is. length is ≡ n) (λ f. IsNoStatement f → n ≡ 1) → statement_rules (result_err r) ≡ [] → 4 * length (words_meant r) ≡ 4 * n
as_many (Ok is) n h k = ap (λ (m : ℕ). 4 * m) (length-map is spelling ∙ h)
as_many (Err f) n h k = cons_nil k

module _ (values : Values) (before : List Item) (number : ℕ) (labels : List (List ℕ)) (bytes : List ℕ) (tokens : List Token) where
  abbrev it : Said → Item
  it s = item number labels bytes tokens s

  -- a statement stands in the code
  stands : in_code before && in_function before ≡ true → in_code before ≡ true
  stands h = first_holds (in_code before) (in_function before) h

  -- they are as many as the line is long
  length_is : (s : Said) → line_rules values before (it s) s ≡ [] → 4 * length (words_at values before (it s) []) ≡ code_length (it s)
  length_is (Ok statements.Instruction) clean =
      as_many (source_meaning values (code_address before) bytes tokens) (statement_length bytes tokens) (counts_instructions values (code_address before) bytes tokens)
      (nil_right (when (not (fits_behind (code_offset before) (4 * statement_length bytes tokens))) causes.Limit) _
      (nil_right (when (not (in_code before && in_function before)) causes.Directive) _ clean))
  length_is (Ok _) clean = refl
  length_is (Err f) clean = cons_nil clean

  -- and the code holds them
  pub room_is : (s : Said) → line_rules values before (it s) s ≡ [] → code_offset before + code_length (it s) ≤ section_room
  room_is (Ok statements.Instruction) clean =
      let n = 4 * statement_length bytes tokens in
      let fits : fits_behind (code_offset before) n ≡ true =
      no_cause (fits_behind (code_offset before) n) causes.Limit
      (nil_left (when (not (fits_behind (code_offset before) n)) causes.Limit) _
      (nil_right (when (not (in_code before && in_function before)) causes.Directive) _ clean)) in
      let k = leb-true n (section_room - code_offset before) fits in
      let size = code_within before in
      omega (arith, k, size)
  room_is (Ok _) clean = let size = code_within before in omega (arith, size)
  room_is (Err f) clean = cons_nil clean

  nothing_at : {A : Type 0} (k w : ℕ) → slice_get {X = ℕ} [] k ≡ Some w → A
  nothing_at k w h = absurd (cc)

  -- what has words stands in the code
  in_its_section : (s : Said) (k w : ℕ) → line_rules values before (it s) s ≡ [] → slice_get (words_at values before (it s) []) k ≡ Some w → in_code before ≡ true
  in_its_section (Ok statements.Instruction) k w clean h =
      stands (no_cause (in_code before && in_function before) causes.Directive
      (nil_left (when (not (in_code before && in_function before)) causes.Directive) _ clean))
  in_its_section (Ok _) k w clean h = nothing_at k w h
  in_its_section (Err f) k w clean h = nothing_at k w h

-- ---- so many words stand before a line

module _ (values : Values) where
  pub words_before : (front before more : List Item) → each (faults_at values) before (front ++ more) ≡ [] →
      code_offset (behind before front) ≡ code_offset before + 4 * length (each (words_at values) before front)
  words_before [] before more clean = omega arith
  words_before (i ∷ front) before more clean =
      let mine : line_rules values before i i.said ≡ [] =
      line_clean values before i (front ++ more)
      (nil_left (faults_at values before i (front ++ more)) (each (faults_at values) (i ∷ before) (front ++ more)) clean) in
      let rest = words_before front (i ∷ before) more (nil_right (faults_at values before i (front ++ more)) (each (faults_at values) (i ∷ before) (front ++ more)) clean) in
      let own = length_is values before i.number i.labels i.bytes i.tokens i.said mine in
      let here = in_room (code_offset before + code_length i) (room_is values before i.number i.labels i.bytes i.tokens i.said mine) in
      let all = length-append (words_at values before i []) (each (words_at values) (i ∷ before) front) in
      omega (arith, rest, own, here, all)

-- ---- a word by its address

word_there : (words : List ℕ) (n : ℕ) → code_at words (CODE_START + 4 * n) ≡ slice_get words n
word_there words n =
    let from : nat_le CODE_START (CODE_START + 4 * n) ≡ true = grind (arith, nat_tests) in
    let whole : ((CODE_START + 4 * n) % 4 == 0) ≡ true = grind (arith, nat_tests) in
    let place : (CODE_START + 4 * n - CODE_START) / 4 ≡ n = omega arith in
    (λ j. if from j && whole j then slice_get words ((CODE_START + 4 * n - CODE_START) / 4) else None) ∙ ap (slice_get words) place

-- ---- the law

module _ (source : List ℕ) (parts : Parts) (means : source_image source ≡ Ok parts) (front after : List Item) (i : Item) (lines : items_of source ≡ front ++ i ∷ after) where
  abbrev values : Values
  values = worth source parts means

  abbrev words_in_front : List ℕ
  words_in_front = each (words_at values) [] front

  mine : line_rules values (behind [] front) i i.said ≡ []
  mine = line_clean values (behind [] front) i after (clean_at values front [] i after (clean_here source parts means front after i lines))

  all_words : parts.words ≡ words_in_front ++ (words_at values (behind [] front) i after ++ each (words_at values) (i ∷ behind [] front) after)
  all_words = (code_is source parts means).1 ∙ ap (each (words_at values) []) lines ∙ words_split values [] front (i ∷ after)

  lie_here : (k w : ℕ) → slice_get (words_at values (behind [] front) i after) k ≡ Some w → code_at parts.words (label_address (behind [] front) + 4 * k) ≡ Some w
  lie_here k w h =
      let own = words_at values (behind [] front) i after in
      let rest = each (words_at values) (i ∷ behind [] front) after in
      let section = ap (address_in_section (behind [] front)) (in_its_section values (behind [] front) i.number i.labels i.bytes i.tokens i.said k w mine h) in
      let count = words_before values front [] (i ∷ after) (clean_here source parts means front after i lines) in
      let place : code_address (behind [] front) + 4 * k ≡ CODE_START + 4 * (length words_in_front + k) = omega (arith, count) in
      ap (λ (a : ℕ). code_at parts.words (a + 4 * k)) section
      ∙ ap (code_at parts.words) place
      ∙ word_there parts.words (length words_in_front + k)
      ∙ ap (λ (ws : List ℕ). slice_get ws (length words_in_front + k)) (all_words ∙ sym (append_assoc words_in_front own rest))
      ∙ between words_in_front own rest k w h

pub code_lies : CodeLiesWhereLabelsSay
code_lies source parts means front after i k w lines h = lie_here source parts means front after i lines k w h

-- ---- functions

abbrev entries : List Function → List ℕ
entries fs = map (λ (f : Function). f.entry) fs

-- one more line, which begins a function or none
one_more : (before : List Item) (j : Item) (after : List Item) (s : Said) (rest : List Function) (n a : ℕ) → slice_get (entries rest) n ≡ Some a
    → slice_get (entries (function_at before (record j { said = s }) after ++ rest)) (if starts_function (record j { said = s }) then n + 1 else n) ≡ Some a
one_more before j after (Ok (statements.Directive (directives.Function name kind frame room budget))) rest n a h =
    let e : n + 1 ≡ suc n = omega arith in ap (slice_get (code_address before ∷ entries rest)) e ∙ h
one_more before j after (Ok (statements.Directive _)) rest n a h = h
one_more before j after (Ok _) rest n a h = h
one_more before j after (Err f) rest n a h = h

its_own : (before : List Item) (i : Item) (after : List Item) (s : Said) (rest : List Function) → starts_function (record i { said = s }) ≡ true
    → slice_get (entries (function_at before (record i { said = s }) after ++ rest)) 0 ≡ Some (code_address before)
its_own before i after (Ok (statements.Directive (directives.Function name kind frame room budget))) rest h = refl
its_own before i after (Ok (statements.Directive _)) rest h = absurd (cc)
its_own before i after (Ok _) rest h = absurd (cc)
its_own before i after (Err f) rest h = absurd (cc)

entry_is : (front before : List Item) (i : Item) (after : List Item) → starts_function i ≡ true
    → slice_get (entries (each function_at before (front ++ i ∷ after))) (count starts_function front) ≡ Some (code_address (behind before front))
entry_is [] before i after h = its_own before i after i.said (each function_at (i ∷ before) after) h
entry_is (j ∷ front) before i after h =
    one_more before j (front ++ i ∷ after) j.said (each function_at (j ∷ before) (front ++ i ∷ after)) (count starts_function front)
    (code_address (behind (j ∷ before) front)) (entry_is front (j ∷ before) i after h)

their_functions : (source : List ℕ) (parts : Parts) → source_image source ≡ Ok parts → parts.functions ≡ each function_at [] (items_of source)
unfolding source_image image_of
their_functions source parts means =
    let items = items_of source in
    sym (ap (λ (p : Parts). p.functions) (judged_parts (length items + 1) (least_of (faults_of items)) (image_of items) parts means).1)

pub functions_begin : FunctionsBeginWhereNamesSay
functions_begin source parts means front after i lines h =
    ap (λ (fs : List Function). slice_get (entries fs) (count starts_function front)) (their_functions source parts means ∙ ap (each function_at []) lines) ∙ entry_is front [] i after h
