-- The functions and the blocks of lines without faults keep the rules of an image: in each a line acts, so they follow one another in the code.
use Rattle.std.proofs.Common.{◌≡◌, ◌⊎◌, inl, inr, ℕ, ◌+◌, ◌-◌, ◌*◌, ◌%◌, ◌≤◌, ◌<◌, Bool, true, false, List, [], ◌∷◌, ◌++◌, length, get_or, Option, None, Some}
use Rattle.std.proofs.Common.{Result, Ok, Err, IfOk, refl, sym, ap, subst, ◌∙◌, arith}
use Rattle.std.specs.Prelude.{not, ◌&&◌, ◌||◌, ◌==◌, nat_le, nat_lt, if◌then◌else◌, codes}
use Rattle.std.specs.List.{AllByRecursion, flat_map, list_any}
use Rattle.std.specs.Option.{option_map_or}
use Rattle.std.specs.Result.{result_err}
use Rattle.std.specs.Str.{bytes_eq}
use Rattle.std.proofs.lemmas.Bool.{and_from, cond_both, eq-eqb, eqb-true, eqb-false, not-false, le-leb, leb-false, lt-ltb}
use Rattle.std.proofs.lemmas.List.{length-append}
use Rattle.v8_map.specs.declared.TheConstants.{CODE_START}
use Rattle.v8_formats.specs.declared.instr.Instr.{Instr}
use Rattle.v8_forms.specs.declared.part.Range.TheVariants as ranges
use Rattle.v8_syntax.specs.declared.expression.Expression.{Expression}
use Rattle.v8_syntax.specs.declared.fault.SyntaxFault.{SyntaxFault}
use Rattle.v8_syntax.specs.declared.fault.SyntaxFault.TheVariants as syntax
use Rattle.v8_syntax.specs.declared.word.StatementToken.{StatementToken}
use Rattle.v8_syntax.specs.Statements.{◌>>=◌, statement_tokens, name_first, word_in, set_instructions, is_symbolic, set_operands, set, count_of, statement_length}
use Rattle.sbx_text.specs.declared.Token.{Token}
use Rattle.sbx_parts.specs.declared.fault.ImageFault.{ImageFault}
use Rattle.sbx_parts.specs.declared.fault.ImageFault.TheVariants as fault
use Rattle.sbx_parts.specs.declared.order.Next.{Next}
use Rattle.sbx_parts.specs.declared.order.Next.TheVariants.{Exactly, Above}
use Rattle.sbx_parts.specs.declared.parts.Block.{Block}
use Rattle.sbx_parts.specs.declared.parts.Function.{Function}
use Rattle.sbx_parts.specs.declared.parts.Kind.{Kind}
use Rattle.sbx_parts.specs.Rules.{between, each as keep_each, admits, is_depth, FunctionsSoFar, ranges_keep, block_keeps, function_keeps, code_start}
use Rattle.sbx_directives.specs.declared.directive.Directive.TheVariants as directives
use Rattle.sbx_directives.specs.declared.directive.Keyword.TheVariants as keywords
use Rattle.sbx_directives.specs.declared.directive.Statement.TheVariants as statements
use Rattle.sbx_directives.specs.declared.fault.DataFault.{DataFault}
use Rattle.sbx_directives.specs.declared.fault.DataFault.TheVariants as data_faults
use Rattle.sbx_directives.specs.Data.{data_of, bytes_of_width}
use Rattle.sbx_asm.specs.declared.fault.Cause.TheVariants as causes
use Rattle.sbx_asm.specs.Items.{Item, Said, each, up_to, count, starts_function, ends_function, is_block, ends_block, is_region, is_text, has_bytes}
use Rattle.sbx_asm.specs.Items.{in_function, begins_block, block_count, params, results, depths, has}
use Rattle.sbx_asm.specs.Addresses.{code_length, code_offset, code_address, section_room, in_code}
use Rattle.sbx_asm.specs.Rules.{Values, at, when, data_rules, value_rules, block_rules, acts, line_rules, faults_at}
use Rattle.sbx_asm.specs.Images.{block_with, block_at, function_at}
use Rattle.sbx_asm.proofs.Views.{behind, item, up_to_room}
use Rattle.sbx_asm.proofs.Nils.{cons_nil, nil_left, nil_right, nil_map}
use Rattle.sbx_asm.proofs.Rooms.{in_room, code_within}
use Rattle.sbx_asm.proofs.Unfilled.{or_left, or_right}
use Rattle.sbx_asm.proofs.Beginning.{wanted}
use Rattle.sbx_asm.proofs.CodeLying.{room_is}
use Rattle.sbx_asm.proofs.Passing.{passes, goes, within, each_first, each_none}
use Rattle.sbx_asm.proofs.Bounds.{HeadKeeps, SaidKeeps, Keep}
use Rattle.sbx_asm.proofs.KeptData.{no_cause, clean_first, clean_rest}
use Rattle.sbx_asm.proofs.KeptBlocks.{placed, up_to_keeps, params_few, results_few, params_kept, results_kept, depth_kept, block_kept}

-- ---- a statement takes a word or more

abbrev Some_of : List Instr → Type 0
Some_of is = 1 ≤ length is

set_some : (symbolic : Bool) (w rd : ℕ) → Some_of (set_instructions symbolic w rd)
set_some symbolic w rd =
    cond_both (not symbolic && (nat_lt w 4096 || nat_le 4294963200 w)) _ _ Some_of (λ _. omega arith)
    (λ _. cond_both (not symbolic && w % 1024 == 0) _ _ Some_of (λ _. omega arith) (λ _. omega arith))

made_some : (symbolic : Bool) (rd : ℕ) (r : Result ℕ SyntaxFault) → IfOk (r >>= λ w. Ok (set_instructions symbolic w rd)) Some_of
made_some symbolic rd (Ok w) = set_some symbolic w rd
made_some symbolic rd (Err f) = tt

set_made : (o : Option ((Expression × ℕ) × List StatementToken)) →
    IfOk (option_map_or (λ x. word_in ranges.Whole x.0.0 >>= λ w. Ok (set_instructions (is_symbolic x.0.0.base) w x.0.1)) o (Err syntax.Shape)) Some_of
set_made (Some x) = made_some (is_symbolic x.0.0.base) x.0.1 (word_in ranges.Whole x.0.0)
set_made None = tt

counted : (r : Result (List Instr) SyntaxFault) → IfOk r Some_of → 1 ≤ count_of r
counted (Ok is) h = h
counted (Err syntax.UnknownSymbol) h = omega arith
counted (Err _) h = omega arith

statement_some : (line : List ℕ) (tokens : List Token) → 1 ≤ statement_length line tokens
unfolding set
statement_some line tokens = by (name_first line (statement_tokens line tokens))
  where
    by : (o : Option (List ℕ × List StatementToken)) → 1 ≤ option_map_or (λ x. if bytes_eq x.0 (codes "set") then count_of (set (λ _. None) line x.1) else 1) o 1
    by None = omega arith
    by (Some x) =
        cond_both (bytes_eq x.0 (codes "set")) (count_of (set (λ _. None) line x.1)) 1 (λ n. 1 ≤ n)
        (λ _. counted (set (λ _. None) line x.1) (set_made (set_operands (λ _. None) line x.1))) (λ _. omega arith)

-- ---- the code rises

one_rises : (offset size : ℕ) → offset ≤ section_room → offset ≤ up_to_room (offset + size)
one_rises offset size h = omega arith

pub code_rises : (front before : List Item) → code_offset before ≤ code_offset (behind before front)
code_rises [] before = omega arith
code_rises (i ∷ front) before = let one = one_rises (code_offset before) (code_length i) (code_within before) in let more = code_rises front (i ∷ before) in omega (arith, one, more)

up_rises : (test : Item → Bool) (after before : List Item) → code_offset (behind before (up_to test after)) ≤ code_offset (behind before after)
up_rises test [] before = omega arith
up_rises test (i ∷ after) before = by (test i) (up_rises test after (i ∷ before))
  where
    by : (t : Bool) → code_offset (behind (i ∷ before) (up_to test after)) ≤ code_offset (behind (i ∷ before) after) →
        code_offset (behind before (if t then [] else i ∷ up_to test after)) ≤ code_offset (behind (i ∷ before) after)
    by true h = code_rises (i ∷ after) before
    by false h = h

length_whole : (i : Item) (s : Said) → code_length (record i { said = s }) % 4 ≡ 0
length_whole i (Ok statements.Instruction) = omega arith
length_whole i (Ok _) = refl
length_whole i (Err f) = refl

whole_with : (offset size : ℕ) → offset % 4 ≡ 0 → size % 4 ≡ 0 → up_to_room (offset + size) % 4 ≡ 0
whole_with offset size h k = omega arith

code_whole : (before : List Item) → code_offset before % 4 ≡ 0
code_whole [] = refl
code_whole (i ∷ before) = whole_with (code_offset before) (code_length i) (code_whole before) (length_whole i i.said)

-- an end of a function is one of a block
up_to_twice : (after : List Item) → up_to ends_block (up_to ends_function after) ≡ up_to ends_block after
up_to_twice [] = refl
up_to_twice (i ∷ after) = by (ends_function i) refl (up_to_twice after)
  where
    by : (t : Bool) → ends_function i ≡ t → up_to ends_block (up_to ends_function after) ≡ up_to ends_block after
        → up_to ends_block (if t then [] else i ∷ up_to ends_function after) ≡ (if t || is_block i then [] else i ∷ up_to ends_block after)
    by true e h = refl
    by false e h = λ j. if e j || is_block i then [] else i ∷ h j

-- ---- what a line begins

block_begun : (before : List Item) (i : Item) (s : Said) (after : List Item) → is_block (record i { said = s }) ≡ false → block_at before (record i { said = s }) after ≡ []
block_begun before i (Ok (statements.Directive (directives.Block name))) after e = absurd (cc)
block_begun before i (Ok (statements.Directive _)) after e = refl
block_begun before i (Ok _) after e = refl
block_begun before i (Err f) after e = refl

function_begun : (before : List Item) (i : Item) (s : Said) (after : List Item) → starts_function (record i { said = s }) ≡ false → function_at before (record i { said = s }) after ≡ []
function_begun before i (Ok (statements.Directive (directives.Function name kind frame room budget))) after e = absurd (cc)
function_begun before i (Ok (statements.Directive _)) after e = refl
function_begun before i (Ok _) after e = refl
function_begun before i (Err f) after e = refl

-- the numbers of a `.function`
record Head : Type 0 where
  kind : Kind
  frame : ℕ
  room : ℕ
  budget : ℕ

abbrev function_with : List Item → Item → List Item → Head → Function
function_with before i after h =
    let own : List Item = up_to ends_function after in
    record {
      kind = h.kind;
      params = flat_map params own;
      results = flat_map results own;
      entry = code_address before;
      frame = h.frame;
      stack_room = h.room;
      budget = h.budget;
      depth = get_or (flat_map depths own) 0 0;
      blocks = block_with (code_address before) (up_to ends_block own) ∷ each block_at (i ∷ before) own;
    }

record IsFunctionWith (before : List Item) (i : Item) (after : List Item) : Type 0 where
  head : Head
  keeps : HeadKeeps head.frame head.room head.budget
  is : function_at before i after ≡ function_with before i after head ∷ []

which_function : (before : List Item) (i : Item) (s : Said) (after : List Item) → SaidKeeps s → starts_function (record i { said = s }) ≡ true → IsFunctionWith before (record i { said = s }) after
which_function before i (Ok (statements.Directive (directives.Function name kind frame room budget))) after k e =
    record { head = record { kind = kind; frame = frame; room = room; budget = budget }; keeps = k; is = refl }
which_function before i (Ok (statements.Directive _)) after k e = absurd (cc)
which_function before i (Ok _) after k e = absurd (cc)
which_function before i (Err f) after k e = absurd (cc)

stays_in : (before : List Item) (i : Item) → ends_function i ≡ false → in_function (i ∷ before) ≡ in_function before
stays_in before i e = λ j. if e j then starts_function i else in_function before

goes_in : (before : List Item) (i : Item) → starts_function i ≡ true → in_function (i ∷ before) ≡ true
goes_in before i e = ends (ends_function i) refl
  where
    ends : (t : Bool) → ends_function i ≡ t → (if t then starts_function i else in_function before) ≡ true
    ends true k = e
    ends false k = absurd (let n = or_left (starts_function i) _ k in let both : true ≡ false = sym e ∙ n in cc)

ends_by_start : (i : Item) → starts_function i ≡ true → ends_function i ≡ true
ends_by_start i e = λ j. e j || elim i.said [ Ok (statements.Malformed keywords.Function name) ↦ true | _ ↦ false ]

module _ (values : Values) where
  -- ---- a line without faults

  -- begins no function, or is a `.function`
  no_end : (before : List Item) (i : Item) (s : Said) → line_rules values before (record i { said = s }) s ≡ [] →
      starts_function (record i { said = s }) ≡ false → ends_function (record i { said = s }) ≡ false
  no_end before i (Ok (statements.Directive (directives.Function name kind frame room budget))) clean e = absurd (cc)
  no_end before i (Ok (statements.Directive _)) clean e = refl
  no_end before i (Ok (statements.Malformed keywords.Function name)) clean e = cons_nil clean
  no_end before i (Ok _) clean e = refl
  no_end before i (Err f) clean e = refl

  record IsBlockWith (before : List Item) (i : Item) (after : List Item) : Type 0 where
    is : block_at before i after ≡ block_with (code_address before) (up_to ends_block after) ∷ []
    few : block_count before + 1 ≤ 4096

  fewer : (t : Bool) (n : ℕ) → nat_le 4096 n ≡ t → when t causes.Limit ≡ [] → n + 1 ≤ 4096
  fewer true n e h = cons_nil h
  fewer false n e h = let k = leb-false 4096 n e in omega (arith, k)

  which_block : (before : List Item) (i : Item) (s : Said) (after : List Item) → line_rules values before (record i { said = s }) s ≡ [] →
      is_block (record i { said = s }) ≡ true → IsBlockWith before (record i { said = s }) after
  which_block before i (Ok (statements.Directive (directives.Block name))) after clean e =
      record {
        is = refl;
        few =
            fewer (nat_le 4096 (block_count before)) (block_count before) refl
            (placed (in_function before) (when (nat_le 4096 (block_count before)) causes.Limit) clean);
      }
  which_block before i (Ok (statements.Directive _)) after clean e = absurd (cc)
  which_block before i (Ok (statements.Malformed keywords.Block name)) after clean e = cons_nil (nil_right (block_rules before) (causes.Directive ∷ []) clean)
  which_block before i (Ok _) after clean e = absurd (cc)
  which_block before i (Err f) after clean e = absurd (cc)

  not_acting : (o : Option DataFault) → value_rules o ≡ [] → (elim o [ Some data_faults.UnknownSymbol ↦ true | _ ↦ false ]) ≡ true → ⊥
  not_acting None clean e = absurd (cc)
  not_acting (Some data_faults.UnknownSymbol) clean e = cons_nil clean
  not_acting (Some _) clean e = absurd (cc)

  -- what acts takes a word
  acts_long : (before : List Item) (i : Item) (s : Said) → line_rules values before (record i { said = s }) s ≡ [] →
      acts values (record i { said = s }) ≡ true → 4 ≤ code_length (record i { said = s })
  acts_long before i (Ok statements.Instruction) clean e = let some = statement_some i.bytes i.tokens in omega (arith, some)
  acts_long before i (Ok (statements.Directive (directives.Values w n))) clean e =
      absurd (not_acting (result_err (data_of values i.bytes w i.tokens)) (nil_right (data_rules before (bytes_of_width w * n)) (value_rules (result_err (data_of values i.bytes w i.tokens))) clean) e)
  acts_long before i (Ok (statements.Directive _)) clean e = absurd (cc)
  acts_long before i (Ok _) clean e = absurd (cc)
  acts_long before i (Err f) clean e = cons_nil clean

  code_more : (before : List Item) (i : Item) → line_rules values before i i.said ≡ [] → code_offset (i ∷ before) ≡ code_offset before + code_length i
  code_more before i mine = in_room (code_offset before + code_length i) (room_is values before i.number i.labels i.bytes i.tokens i.said mine)

  -- and so do lines in which one acts
  acts_ahead : (test : Item → Bool) (after before : List Item) → each (faults_at values) before after ≡ [] → list_any (acts values) (up_to test after) ≡ true →
      code_offset before + 4 ≤ code_offset (behind before (up_to test after))
  acts_ahead test [] before clean h = absurd (cc)
  acts_ahead test (i ∷ after) before clean h = by (acts_ahead test after (i ∷ before) (clean_rest values before i after clean)) (test i) h
    where
      one : (u : Bool) → acts values i ≡ u →
          (list_any (acts values) (up_to test after) ≡ true → code_offset (i ∷ before) + 4 ≤ code_offset (behind (i ∷ before) (up_to test after))) →
          (u || list_any (acts values) (up_to test after)) ≡ true
          → code_offset before + 4 ≤ code_offset (behind (i ∷ before) (up_to test after))
      one true e more k =
          let mine = clean_first values before i after clean in
          let own = acts_long before i i.said mine e in
          let next = code_more before i mine in
          let rest = code_rises (up_to test after) (i ∷ before) in
          omega (arith, own, next, rest)
      one false e more k = let rest = more k in let next = code_rises (i ∷ []) before in omega (arith, rest, next)

      by : (list_any (acts values) (up_to test after) ≡ true → code_offset (i ∷ before) + 4 ≤ code_offset (behind (i ∷ before) (up_to test after))) → (t : Bool)
          → list_any (acts values) (if t then [] else i ∷ up_to test after) ≡ true → code_offset before + 4 ≤ code_offset (behind before (if t then [] else i ∷ up_to test after))
      by more true k = absurd (cc)
      by more false k = one (acts values i) refl more k

  -- in a block a line acts
  begun_acts : (before : List Item) (i : Item) (after : List Item) → each (faults_at values) before (i ∷ after) ≡ [] → begins_block before i ≡ true →
      list_any (acts values) (up_to ends_block after) ≡ true
  begun_acts before i after clean e =
      let mine = nil_map (at i.number) _ (nil_left (faults_at values before i after) (each (faults_at values) (i ∷ before) after) clean) in
      wanted (begins_block before i) (list_any (acts values) (up_to ends_block after)) e
      (nil_right (when (is_region i && not (list_any has_bytes (up_to (λ j. is_text j || is_region j) after))) causes.Directive) _
      (nil_right (line_rules values before i i.said) _ (nil_right (when (nat_lt 1000000 i.number) causes.Limit) _ mine)))

  -- ---- the blocks of a function, from a line in it on

  -- behind the block that begins at an address, or in it, and its line that acts is to come
  abbrev Acted : ℕ → List Item → List Item → Type 0
  Acted a before after = (a < code_address before) ⊎ (list_any (acts values) (up_to ends_block after) ≡ true)

  record Blocks (end a : ℕ) (before after : List Item) : Type 0 where
    last : ℕ
    keep : keep_each (block_keeps end) (Above a) (each block_at before (up_to ends_function after)) ≡ Ok (Above last)
    low : last < code_address (behind before (up_to ends_function after))

  abbrev EndsAt : ℕ → List Item → List Item → Type 0
  EndsAt end before after = CODE_START + code_offset (behind before after) ≡ end

  -- an address of the code behind another one
  admitted : (end a : ℕ) (before : List Item) → a < code_address before → code_address before < end → admits end (Above a) (code_address before) ≡ true
  admitted end a before h k = let whole = code_whole before in and_from _ _ (lt-ltb a (code_address before) h) (and_from _ _ (eq-eqb _ _ (omega (arith, whole))) (lt-ltb (code_address before) end k))

  -- where a block begins, the code goes on
  not_last : (end : ℕ) (before : List Item) (i : Item) (after : List Item) → EndsAt end before (i ∷ after) → each (faults_at values) before (i ∷ after) ≡ [] →
      begins_block before i ≡ true → code_address before < end
  not_last end before i after ends clean e =
      let more = acts_ahead ends_block after (i ∷ before) (clean_rest values before i after clean) (begun_acts before i after clean e) in
      let first = code_rises (i ∷ []) before in
      let rest = up_rises ends_block after (i ∷ before) in
      omega (arith, more, first, rest, ends)

  BlocksFollow : List Item → List Item → Type 0
  BlocksFollow before after = (end a : ℕ) → each (faults_at values) before after ≡ [] → Keep after → EndsAt end before after → in_function before ≡ true →
      a ≤ code_address before → Acted a before after → Blocks end a before after

  acted_more : (a : ℕ) (before : List Item) (i : Item) (after : List Item) → line_rules values before i i.said ≡ [] → a ≤ code_address before →
      ends_block i ≡ false → Acted a before (i ∷ after) → Acted a (i ∷ before) after
  acted_more a before i after mine le e (inl h) = inl (let next = code_rises (i ∷ []) before in omega (arith, h, next))
  acted_more a before i after mine le e (inr h) = by (acts values i) refl (sym (λ j. list_any (acts values) (if e j then [] else i ∷ up_to ends_block after)) ∙ h)
    where
      by : (u : Bool) → acts values i ≡ u → (u || list_any (acts values) (up_to ends_block after)) ≡ true → Acted a (i ∷ before) after
      by true k more = inl (let own = acts_long before i i.said mine k in let next = code_more before i mine in omega (arith, own, next, le))
      by false k more = inr more

  acted_there : (a : ℕ) (before : List Item) (i : Item) (after : List Item) → ends_block i ≡ true → Acted a before (i ∷ after) → a < code_address before
  acted_there a before i after e (inl h) = h
  acted_there a before i after e (inr h) = absurd (let k : false ≡ true = sym (λ j. list_any (acts values) (if e j then [] else i ∷ up_to ends_block after)) ∙ h in cc)

  blocks_follow : (after before : List Item) → BlocksFollow before after
  unfolding BlocksFollow
  blocks_follow [] before end a clean keep ends inside le (inl h) = record { last = a; keep = each_none (block_keeps end) (Above a); low = h }
  blocks_follow [] before end a clean keep ends inside le (inr h) = absurd (cc)
  blocks_follow (i ∷ after) before end a clean keep ends inside le acted = by (blocks_follow after (i ∷ before)) (ends_function i) refl (is_block i) refl
    where
      mine : line_rules values before i i.said ≡ []
      mine = clean_first values before i after clean

      rest : each (faults_at values) (i ∷ before) after ≡ []
      rest = clean_rest values before i after clean

      own : List Item
      own = up_to ends_function after

      -- the block that a `.block` begins, and those behind it
      another : (e : ends_function i ≡ false) → is_block i ≡ true → Blocks end (code_address before) (i ∷ before) after →
          (last : ℕ) × (keep_each (block_keeps end) (Above a) (block_at before i own ++ each block_at (i ∷ before) own) ≡ Ok (Above last))
          × (last < code_address (behind (i ∷ before) own))
      another e f later =
          let ending : ends_block i ≡ true = (λ j. ends_function i || f j) ∙ (λ j. e j || true) in
          let begins : begins_block before i ≡ true = (λ j. starts_function i || (f j && inside j)) ∙ (λ j. or_left (starts_function i) _ e j || true) in
          let high = not_last end before i after ends clean begins in
          let there = acted_there a before i after ending acted in
          let it = which_block before i i.said own mine f in
          let block : block_keeps end (Above a) (block_with (code_address before) (up_to ends_block own)) ≡ Ok (Above (code_address before)) =
          ap (λ (is : List Item). block_keeps end (Above a) (block_with (code_address before) is)) (up_to_twice after)
          ∙ block_kept values end (Above a) (code_address before) before i after ending keep.1 rest (admitted end a before there high) in (
            later.last,
            subst (λ (bs : List Block). keep_each (block_keeps end) (Above a) (bs ++ each block_at (i ∷ before) own) ≡ Ok (Above later.last)) (sym it.is)
                (each_first (block_keeps end) (Above a) (block_with (code_address before) (up_to ends_block own)) (each block_at (i ∷ before) own)
                (Above (code_address before)) (Above later.last) block later.keep),
            later.low,
          )

      by : BlocksFollow (i ∷ before) after → (t : Bool) → ends_function i ≡ t → (u : Bool) → is_block i ≡ u → Blocks end a before (i ∷ after)
      by more true e u f =
          let none : up_to ends_function (i ∷ after) ≡ [] = λ j. if e j then [] else i ∷ own in
          let ending : ends_block i ≡ true = λ j. e j || is_block i in
          record {
            last = a;
            keep = ap (λ (is : List Item). keep_each (block_keeps end) (Above a) (each block_at before is)) none ∙ each_none (block_keeps end) (Above a);
            low = subst (λ (is : List Item). a < code_address (behind before is)) (sym none) (acted_there a before i after ending acted);
          }
      by more false e true f =
          let all : up_to ends_function (i ∷ after) ≡ i ∷ own = λ j. if e j then [] else i ∷ own in
          let begins : begins_block before i ≡ true = (λ j. starts_function i || (f j && inside j)) ∙ (λ j. or_left (starts_function i) _ e j || true) in
          let next = code_rises (i ∷ []) before in
          let blocks = another e f (more end (code_address before) rest keep.1 ends (stays_in before i e ∙ inside) (omega (arith, next)) (inr (begun_acts before i after clean begins))) in
          record {
            last = blocks.0;
            keep = ap (λ (is : List Item). keep_each (block_keeps end) (Above a) (each block_at before is)) all ∙ blocks.1;
            low = subst (λ (is : List Item). blocks.0 < code_address (behind before is)) (sym all) blocks.2;
          }
      by more false e false f =
          let all : up_to ends_function (i ∷ after) ≡ i ∷ own = λ j. if e j then [] else i ∷ own in
          let ending : ends_block i ≡ false = (λ j. e j || is_block i) ∙ f in
          let next = code_rises (i ∷ []) before in
          let later = more end a rest keep.1 ends (stays_in before i e ∙ inside) (omega (arith, next, le)) (acted_more a before i after mine le ending acted) in
          record {
            last = later.last;
            keep = ap (λ (is : List Item). keep_each (block_keeps end) (Above a) (each block_at before is)) all
                ∙ ap (λ (bs : List Block). keep_each (block_keeps end) (Above a) (bs ++ each block_at (i ∷ before) own)) (block_begun before i i.said own f) ∙ later.keep;
            low = subst (λ (is : List Item). later.last < code_address (behind before is)) (sym all) later.low;
          }

  -- ---- how many blocks there are

  record Counted (before after : List Item) : Type 0 where
    all : length (each block_at before (up_to ends_function after)) + block_count before ≡ block_count (behind before (up_to ends_function after))
    few : block_count (behind before (up_to ends_function after)) ≤ 4096

  blocks_counted : (after before : List Item) → each (faults_at values) before after ≡ [] → in_function before ≡ true → block_count before ≤ 4096 → Counted before after
  blocks_counted [] before clean inside few = record { all = omega arith; few = few }
  blocks_counted (i ∷ after) before clean inside few = by (blocks_counted after (i ∷ before)) (ends_function i) refl (is_block i) refl
    where
      mine : line_rules values before i i.said ≡ []
      mine = clean_first values before i after clean

      rest : each (faults_at values) (i ∷ before) after ≡ []
      rest = clean_rest values before i after clean

      own : List Item
      own = up_to ends_function after

      with_all : up_to ends_function (i ∷ after) ≡ i ∷ own → (n : ℕ) → length (block_at before i own) ≡ n → block_count (i ∷ before) ≡ block_count before + n →
          Counted (i ∷ before) after → Counted before (i ∷ after)
      with_all same n one count later =
          let sum = length-append (block_at before i own) (each block_at (i ∷ before) own) in
          let total : length (each block_at before (i ∷ own)) + block_count before ≡ block_count (behind (i ∷ before) own) = (let l = later.all in omega (arith, sum, one, count, l)) in
          record {
            all = subst (λ (is : List Item). length (each block_at before is) + block_count before ≡ block_count (behind before is)) (sym same) total;
            few = subst (λ (is : List Item). block_count (behind before is) ≤ 4096) (sym same) later.few;
          }

      by : (each (faults_at values) (i ∷ before) after ≡ [] → in_function (i ∷ before) ≡ true → block_count (i ∷ before) ≤ 4096 → Counted (i ∷ before) after) →
          (t : Bool) → ends_function i ≡ t → (u : Bool) → is_block i ≡ u → Counted before (i ∷ after)
      by more true e u f =
          let none : up_to ends_function (i ∷ after) ≡ [] = λ j. if e j then [] else i ∷ own in
          record {
            all = subst (λ (is : List Item). length (each block_at before is) + block_count before ≡ block_count (behind before is)) (sym none) (omega arith);
            few = subst (λ (is : List Item). block_count (behind before is) ≤ 4096) (sym none) few;
          }
      by more false e true f =
          let begins : begins_block before i ≡ true = (λ j. starts_function i || (f j && inside j)) ∙ (λ j. or_left (starts_function i) _ e j || true) in
          let count : block_count (i ∷ before) ≡ block_count before + 1 = λ j. if begins j then block_count before + 1 else block_count before in
          let it = which_block before i i.said own mine f in
          let room = it.few in
          with_all (λ j. if e j then [] else i ∷ own) 1 (ap (λ (bs : List Block). length bs) it.is) count (more rest (stays_in before i e ∙ inside) (omega (arith, count, room)))
      by more false e false f =
          let begins : begins_block before i ≡ false = (λ j. starts_function i || (f j && in_function before)) ∙ (λ j. or_left (starts_function i) _ e j || false) in
          let count : block_count (i ∷ before) ≡ block_count before + 0 = (λ j. if begins j then block_count before + 1 else block_count before) ∙ (omega arith) in
          with_all (λ j. if e j then [] else i ∷ own) 0 (ap (λ (bs : List Block). length bs) (block_begun before i i.said own f)) count
          (more rest (stays_in before i e ∙ inside) (omega (arith, count, few)))

  -- ---- depths

  -- the version has depths, or no line has one
  abbrev pub Says : ℕ → List Item → Type 0
  Says version after = (version ≡ 3) ⊎ (list_any (has depths) after ≡ false)

  says_more : (version : ℕ) (i : Item) (after : List Item) → Says version (i ∷ after) → Says version after
  says_more version i after (inl e) = inl e
  says_more version i after (inr e) = inr (or_right (has depths i) (list_any (has depths) after) e)

  none_has : (xs : List ℕ) → not (length xs == 0) ≡ false → xs ≡ []
  none_has [] e = refl
  none_has (x ∷ xs) e = absurd (let k = eqb-true (length (x ∷ xs)) 0 (not-false (length (x ∷ xs) == 0) e) in omega (arith, k))

  no_depth : (test : Item → Bool) (after : List Item) → list_any (has depths) after ≡ false → flat_map depths (up_to test after) ≡ []
  no_depth test [] e = refl
  no_depth test (i ∷ after) e = by (test i) (no_depth test after (or_right (has depths i) (list_any (has depths) after) e))
    where
      by : (t : Bool) → flat_map depths (up_to test after) ≡ [] → flat_map depths (if t then [] else i ∷ up_to test after) ≡ []
      by true h = refl
      by false h = ap (λ (ns : List ℕ). ns ++ flat_map depths (up_to test after)) (none_has (depths i) (or_left (has depths i) (list_any (has depths) after) e)) ∙ h

  depth_is : (version : ℕ) (after : List Item) → Keep after → Says version after → is_depth version (get_or (flat_map depths (up_to ends_function after)) 0 0) ≡ true
  depth_is version after keep (inl e) = by (version == 3) refl
    where
      by : (t : Bool) → (version == 3) ≡ t → (if t then nat_le (get_or (flat_map depths (up_to ends_function after)) 0 0) 256 else get_or (flat_map depths (up_to ends_function after)) 0 0 == 0) ≡ true
      by true k = depth_kept (up_to ends_function after) (up_to_keeps ends_function after keep)
      by false k = absurd (eqb-false version 3 k e)
  depth_is version after keep (inr e) = ap (λ (ns : List ℕ). is_depth version (get_or ns 0 0)) (no_depth ends_function after e) ∙ by (version == 3)
    where
      by : (t : Bool) → (if t then nat_le 0 256 else 0 == 0) ≡ true
      by true = refl
      by false = refl

  -- ---- a function

  record Kept (version end : ℕ) (next : Next) (before : List Item) (i : Item) (after : List Item) : Type 0 where
    function : Function
    is : function_at before i after ≡ function ∷ []
    last : ℕ
    keeps : function_keeps version end (next, block_count before) function ≡ Ok (Above last, block_count (behind (i ∷ before) (up_to ends_function after)))
    low : last < code_address (behind (i ∷ before) (up_to ends_function after))

  abbrev stands : FunctionsSoFar → Result FunctionsSoFar ImageFault
  stands place = Ok place

  pair_same : (last n m : ℕ) → n ≡ m → stands (Above last, n) ≡ stands (Above last, m)
  pair_same last n m h = ap (λ (k : ℕ). stands (Above last, k)) h

  function_kept : (version end : ℕ) (next : Next) (before : List Item) (i : Item) (after : List Item) → starts_function i ≡ true → SaidKeeps i.said →
      Keep after → each (faults_at values) before (i ∷ after) ≡ []
      → EndsAt end before (i ∷ after) → Says version after → admits end next (code_address before) ≡ true → block_count before + 1 ≤ 4096 → Kept version end next before i after
  unfolding function_keeps BlocksFollow
  function_kept version end next before i after e own_keeps keep clean ends says here room =
      let own : List Item = up_to ends_function after in
      let entry : ℕ = code_address before in
      let rest = clean_rest values before i after clean in
      let begins : begins_block before i ≡ true = λ j. e j || (is_block i && in_function before) in
      let count : block_count (i ∷ before) ≡ block_count before + 1 = λ j. if begins j then block_count before + 1 else block_count before in
      let ending : ends_function i ≡ true = ends_by_start i e in
      let ending_block : ends_block i ≡ true = λ j. ending j || is_block i in
      let it = which_function before i i.said after own_keeps e in
      let h = it.head in
      let f : Function = function_with before i after h in
      let next_code = code_rises (i ∷ []) before in
      let later = blocks_follow after (i ∷ before) end entry rest keep ends (goes_in before i e) (omega (arith, next_code)) (inr (begun_acts before i after clean begins)) in
      let blocks = blocks_counted after (i ∷ before) rest (goes_in before i e) (omega (arith, count, room)) in
      let all = blocks.all in
      let few = blocks.few in
      let first : block_keeps end (Exactly entry) (block_with entry (up_to ends_block own)) ≡ Ok (Above entry) =
      ap (λ (is : List Item). block_keeps end (Exactly entry) (block_with entry is)) (up_to_twice after)
      ∙ block_kept values end (Exactly entry) entry before i after ending_block keep rest (eq-eqb entry entry refl) in
      let their_blocks : keep_each (block_keeps end) (Exactly entry) f.blocks ≡ Ok (Above later.last) =
      each_first (block_keeps end) (Exactly entry) (block_with entry (up_to ends_block own)) (each block_at (i ∷ before) own) (Above entry) (Above later.last) first later.keep in
      let total : block_count before + length f.blocks ≡ block_count (behind (i ∷ before) own) = omega (arith, all, count) in
      let most : length f.blocks ≤ 4096 - block_count before = omega (arith, all, count, few) in
      let state : FunctionsSoFar = (Above later.last, block_count (behind (i ∷ before) own)) in
      record {
        function = f;
        is = it.is;
        last = later.last;
        keeps =
            passes (between 0 6 (length f.params)) fault.Limit _ state (within 0 6 _ (omega arith) (params_few values before i after ending rest))
            (passes (between 0 6 (length f.results)) fault.Limit _ state (within 0 6 _ (omega arith) (results_few values before i after ending rest))
            (passes (admits end next entry) fault.Order _ state here
            (passes (between 0 4096 h.frame) fault.Limit _ state it.keeps.frame_within
            (passes (between 0 65536 h.room) fault.Limit _ state it.keeps.room_within
            (passes (between 0 1099511627775 h.budget) fault.Limit _ state it.keeps.budget_within
            (passes (is_depth version f.depth) fault.Limit _ state (depth_is version after keep says)
            (passes (between 1 (4096 - block_count before) (length f.blocks)) fault.Limit _ state (within 1 _ _ (omega arith) most)
            (goes (ranges_keep f.params) _ tt state (params_kept own (up_to_keeps ends_function after keep))
            (goes (ranges_keep f.results) _ tt state (results_kept own (up_to_keeps ends_function after keep))
            (goes (keep_each (block_keeps end) (Exactly entry) f.blocks) _ (Above later.last) state their_blocks (pair_same later.last _ _ total)))))))))));
        low = later.low;
      }

  -- ---- functions, one after the other

  -- from a line in a function on, whose last block begins at an address and which has so many blocks with those before it
  FunctionsFollow : List Item → List Item → Type 0
  FunctionsFollow before after = (version end a n : ℕ) → each (faults_at values) before after ≡ [] → Keep after → EndsAt end before after → Says version after → in_function before ≡ true
      → a < code_address (behind before (up_to ends_function after)) → n ≡ block_count (behind before (up_to ends_function after))
      → (place : FunctionsSoFar) × (keep_each (function_keeps version end) (Above a, n) (each function_at before after) ≡ Ok place)

  room_for : (before : List Item) (i : Item) (s : Said) → line_rules values before (record i { said = s }) s ≡ [] →
      starts_function (record i { said = s }) ≡ true → (count starts_function before + 1 ≤ 256) × (block_count before + 1 ≤ 4096)
  room_for before i (Ok (statements.Directive (directives.Function name kind frame room budget))) clean e = (
    few_functions (nat_le 256 (count starts_function before)) (count starts_function before) refl
        (nil_left (when (nat_le 256 (count starts_function before)) causes.Limit) (when (nat_le 4096 (block_count before)) causes.Limit) clean),
    fewer (nat_le 4096 (block_count before)) (block_count before) refl
        (nil_right (when (nat_le 256 (count starts_function before)) causes.Limit) (when (nat_le 4096 (block_count before)) causes.Limit) clean),
  )
    where
      few_functions : (t : Bool) (n : ℕ) → nat_le 256 n ≡ t → when t causes.Limit ≡ [] → n + 1 ≤ 256
      few_functions true n k h = cons_nil h
      few_functions false n k h = let l = leb-false 256 n k in omega (arith, l)
  room_for before i (Ok (statements.Directive _)) clean e = absurd (cc)
  room_for before i (Ok _) clean e = absurd (cc)
  room_for before i (Err f) clean e = absurd (cc)

  -- one more function, and those behind it
  one_function : (version end : ℕ) (next : Next) (before : List Item) (i : Item) (after : List Item) → Kept version end next before i after
      → ((a n : ℕ) → a < code_address (behind (i ∷ before) (up_to ends_function after)) → n ≡ block_count (behind (i ∷ before) (up_to ends_function after)) →
      (place : FunctionsSoFar) × (keep_each (function_keeps version end) (Above a, n) (each function_at (i ∷ before) after) ≡ Ok place))
      → (place : FunctionsSoFar) × (keep_each (function_keeps version end) (next, block_count before) (each function_at before (i ∷ after)) ≡ Ok place)
  one_function version end next before i after it more =
      let total : ℕ = block_count (behind (i ∷ before) (up_to ends_function after)) in
      let rest = more it.last total it.low refl in (
        rest.0,
        subst (λ (fs : List Function). keep_each (function_keeps version end) (next, block_count before) (fs ++ each function_at (i ∷ before) after) ≡ Ok rest.0) (sym it.is)
            (each_first (function_keeps version end) (next, block_count before) it.function (each function_at (i ∷ before) after) (Above it.last, total) rest.0 it.keeps rest.1),
      )

  functions_follow : (after before : List Item) → FunctionsFollow before after
  unfolding FunctionsFollow
  functions_follow [] before version end a n clean keep ends says inside low count = ((Above a, n), each_none (function_keeps version end) (Above a, n))
  functions_follow (i ∷ after) before version end a n clean keep ends says inside low count = by (functions_follow after (i ∷ before)) (starts_function i) refl
    where
      mine : line_rules values before i i.said ≡ []
      mine = clean_first values before i after clean

      rest : each (faults_at values) (i ∷ before) after ≡ []
      rest = clean_rest values before i after clean

      by : FunctionsFollow (i ∷ before) after → (t : Bool) → starts_function i ≡ t →
          (place : FunctionsSoFar) × (keep_each (function_keeps version end) (Above a, n) (each function_at before (i ∷ after)) ≡ Ok place)
      by more true e =
          let ending : ends_function i ≡ true = ends_by_start i e in
          let none : up_to ends_function (i ∷ after) ≡ [] = λ j. if ending j then [] else i ∷ up_to ends_function after in
          let there : a < code_address before = subst (λ (is : List Item). a < code_address (behind before is)) none low in
          let blocks : n ≡ block_count before = count ∙ ap (λ (is : List Item). block_count (behind before is)) none in
          let begins : begins_block before i ≡ true = λ j. e j || (is_block i && in_function before) in
          let here = admitted end a before there (not_last end before i after ends clean begins) in
          let it = function_kept version end (Above a) before i after e keep.0 keep.1 clean ends (says_more version i after says) here (room_for before i i.said mine e).1 in
          subst (λ (m : ℕ). (place : FunctionsSoFar) × (keep_each (function_keeps version end) (Above a, m) (each function_at before (i ∷ after)) ≡ Ok place)) (sym blocks)
          (one_function version end (Above a) before i after it (λ b m l k. more version end b m rest keep.1 ends (says_more version i after says) (goes_in before i e) l k))
      by more false e =
          let quiet : ends_function i ≡ false = no_end before i i.said mine e in
          let all : up_to ends_function (i ∷ after) ≡ i ∷ up_to ends_function after = λ j. if quiet j then [] else i ∷ up_to ends_function after in
          let later = more version end a n rest keep.1 ends (says_more version i after says) (stays_in before i quiet ∙ inside)
          (subst (λ (is : List Item). a < code_address (behind before is)) all low) (count ∙ ap (λ (is : List Item). block_count (behind before is)) all) in
          (later.0, ap (λ (fs : List Function). keep_each (function_keeps version end) (Above a, n) (fs ++ each function_at (i ∷ before) after)) (function_begun before i i.said after e) ∙ later.1)

  -- before any function there is no code, and no block
  no_code : (before : List Item) (i : Item) (s : Said) → line_rules values before (record i { said = s }) s ≡ [] → in_function before ≡ false → code_length (record i { said = s }) ≡ 0
  no_code before i (Ok statements.Instruction) clean outside =
      cons_nil (sym (outside_told (in_code before) (in_function before) outside)
      ∙ nil_left (when (not (in_code before && in_function before)) causes.Directive) _ clean)
    where
      outside_told : (c f : Bool) → f ≡ false → when (not (c && f)) causes.Directive ≡ causes.Directive ∷ []
      outside_told true f k = λ j. when (not (k j)) causes.Directive
      outside_told false f k = refl
  no_code before i (Ok _) clean outside = refl
  no_code before i (Err f) clean outside = cons_nil clean

  pub functions_kept : (after before : List Item) (version end : ℕ) → each (faults_at values) before after ≡ [] → Keep after → EndsAt end before after →
      Says version after → in_function before ≡ false → code_offset before ≡ 0 → block_count before ≡ 0
      → (place : FunctionsSoFar) × (keep_each (function_keeps version end) (Exactly code_start, 0) (each function_at before after) ≡ Ok place)
  unfolding FunctionsFollow
  functions_kept [] before version end clean keep ends says outside first none = ((Exactly code_start, 0), each_none (function_keeps version end) (Exactly code_start, 0))
  functions_kept (i ∷ after) before version end clean keep ends says outside first none = by (functions_kept after (i ∷ before) version end) (starts_function i) refl
    where
      mine : line_rules values before i i.said ≡ []
      mine = clean_first values before i after clean

      rest : each (faults_at values) (i ∷ before) after ≡ []
      rest = clean_rest values before i after clean

      by : (each (faults_at values) (i ∷ before) after ≡ [] → Keep after → EndsAt end (i ∷ before) after → Says version after →
          in_function (i ∷ before) ≡ false → code_offset (i ∷ before) ≡ 0 → block_count (i ∷ before) ≡ 0
          → (place : FunctionsSoFar) × (keep_each (function_keeps version end) (Exactly code_start, 0) (each function_at (i ∷ before) after) ≡ Ok place))
          → (t : Bool) → starts_function i ≡ t → (place : FunctionsSoFar) × (keep_each (function_keeps version end) (Exactly code_start, 0) (each function_at before (i ∷ after)) ≡ Ok place)
      by more true e =
          let here : admits end (Exactly code_start) (code_address before) ≡ true = eq-eqb _ _ (omega (arith, first)) in
          let it = function_kept version end (Exactly code_start) before i after e keep.0 keep.1 clean ends (says_more version i after says) here (omega (arith, none)) in
          subst (λ (m : ℕ). (place : FunctionsSoFar) × (keep_each (function_keeps version end) (Exactly code_start, m) (each function_at before (i ∷ after)) ≡ Ok place)) none
          (one_function version end (Exactly code_start) before i after it
          (λ b m l k. functions_follow after (i ∷ before) version end b m rest keep.1 ends (says_more version i after says) (goes_in before i e) l k))
      by more false e =
          let quiet : ends_function i ≡ false = no_end before i i.said mine e in
          let own = no_code before i i.said mine outside in
          let next = code_more before i mine in
          let begins : begins_block before i ≡ false = (λ j. e j || (is_block i && in_function before)) ∙ both_false (is_block i) (in_function before) outside in
          let count : block_count (i ∷ before) ≡ block_count before = λ j. if begins j then block_count before + 1 else block_count before in
          let later = more rest keep.1 ends (says_more version i after says) (stays_in before i quiet ∙ outside) (omega (arith, own, next, first)) (count ∙ none) in (
            later.0,
            ap (λ (fs : List Function). keep_each (function_keeps version end) (Exactly code_start, 0) (fs ++ each function_at (i ∷ before) after))
                (function_begun before i i.said after e) ∙ later.1,
          )
        where
          both_false : (u v : Bool) → v ≡ false → (u && v) ≡ false
          both_false true v h = h
          both_false false v h = refl

  -- ---- how many functions there are, and that they have code

  pub as_many : (after before : List Item) → length (each function_at before after) ≡ count starts_function after
  as_many [] before = refl
  as_many (i ∷ after) before = by (starts_function i) refl (as_many after (i ∷ before)) (length-append (function_at before i after) (each function_at (i ∷ before) after))
    where
      one_begun : (before : List Item) (i : Item) (s : Said) (after : List Item) → starts_function (record i { said = s }) ≡ true → length (function_at before (record i { said = s }) after) ≡ 1
      one_begun before i (Ok (statements.Directive (directives.Function name kind frame room budget))) after e = refl
      one_begun before i (Ok (statements.Directive _)) after e = absurd (cc)
      one_begun before i (Ok _) after e = absurd (cc)
      one_begun before i (Err f) after e = absurd (cc)

      by : (t : Bool) → starts_function i ≡ t → length (each function_at (i ∷ before) after) ≡ count starts_function after →
          length (function_at before i after ++ each function_at (i ∷ before) after) ≡
          length (function_at before i after) + length (each function_at (i ∷ before) after)
          → length (each function_at before (i ∷ after)) ≡ (if t then count starts_function after + 1 else count starts_function after)
      by true e more sum = let one = one_begun before i i.said after e in omega (arith, more, sum, one)
      by false e more sum = let none = ap (λ (fs : List Function). length fs) (function_begun before i i.said after e) in omega (arith, more, sum, none)

  pub few_functions : (after before : List Item) → each (faults_at values) before after ≡ [] → count starts_function before ≤ 256 → count starts_function before + count starts_function after ≤ 256
  few_functions [] before clean few = omega (arith, few)
  few_functions (i ∷ after) before clean few = by (few_functions after (i ∷ before) (clean_rest values before i after clean)) (starts_function i) refl
    where
      by : (count starts_function (i ∷ before) ≤ 256 → count starts_function (i ∷ before) + count starts_function after ≤ 256) → (t : Bool) → starts_function i ≡ t
          → count starts_function before + (if t then count starts_function after + 1 else count starts_function after) ≤ 256
      by more true e =
          let one : count starts_function (i ∷ before) ≡ count starts_function before + 1 = λ j. if e j then count starts_function before + 1 else count starts_function before in
          let room = (room_for before i i.said (clean_first values before i after clean) e).0 in
          let all = more (omega (arith, one, room)) in
          omega (arith, one, all)
      by more false e =
          let none : count starts_function (i ∷ before) ≡ count starts_function before = λ j. if e j then count starts_function before + 1 else count starts_function before in
          let all = more (omega (arith, none, few)) in
          omega (arith, none, all)

  pub some_code : (after before : List Item) → each (faults_at values) before after ≡ [] → 1 ≤ count starts_function after → code_offset before + 4 ≤ code_offset (behind before after)
  some_code [] before clean some = absurd (omega (arith, some))
  some_code (i ∷ after) before clean some = by (some_code after (i ∷ before) (clean_rest values before i after clean)) (starts_function i) refl some
    where
      by : (1 ≤ count starts_function after → code_offset (i ∷ before) + 4 ≤ code_offset (behind (i ∷ before) after)) → (t : Bool) → starts_function i ≡ t
          → 1 ≤ (if t then count starts_function after + 1 else count starts_function after) → code_offset before + 4 ≤ code_offset (behind (i ∷ before) after)
      by more true e one =
          let begins : begins_block before i ≡ true = λ j. e j || (is_block i && in_function before) in
          let ahead = acts_ahead ends_block after (i ∷ before) (clean_rest values before i after clean) (begun_acts before i after clean begins) in
          let first = code_rises (i ∷ []) before in
          let last = up_rises ends_block after (i ∷ before) in
          omega (arith, ahead, first, last)
      by more false e one = let rest = more one in let first = code_rises (i ∷ []) before in omega (arith, rest, first)
