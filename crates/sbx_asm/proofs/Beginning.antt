-- Where the regions of an image begin: where a label behind their `.region` points.
use Rattle.std.proofs.Common.{◌≡◌, ℕ, suc, ◌+◌, ◌*◌, ◌<◌, ◌≤◌, Bool, true, false, List, [], ◌∷◌, ◌++◌, length, drop, None, Some, Ok, Err, refl, sym, ap, subst, ◌∙◌, append_assoc, arith}
use Rattle.std.specs.Prelude.{not, ◌&&◌, ◌||◌, nat_le, slice_get, if◌then◌else◌, nat_lt}
use Rattle.std.specs.Result.{result_err}
use Rattle.std.specs.List.{AllByRecursion, list_any, list_all}
use Rattle.std.proofs.lemmas.Bool.{false≢true, ltb-true}
use Rattle.std.proofs.lemmas.List.{append-nil, length-append}
use Rattle.sbx_text.specs.declared.Token.{Token}
use Rattle.sbx_image.specs.Region.{Region}
use Rattle.sbx_image.specs.Regions.{pages_for, placed_from, start_in, start_of}
use Rattle.sbx_directives.specs.declared.operand.Operand.{Operand}
use Rattle.sbx_directives.specs.declared.directive.Width.{Width}
use Rattle.sbx_directives.specs.declared.directive.Width.TheVariants as widths
use Rattle.sbx_directives.specs.declared.directive.Directive.TheVariants as directives
use Rattle.sbx_directives.specs.declared.directive.Statement.TheVariants as statements
use Rattle.sbx_directives.specs.Directives.{operands_of, is_expression, value_count}
use Rattle.sbx_directives.specs.Data.{data_of, bytes_of_width}
use Rattle.sbx_asm.specs.declared.fault.Cause.TheVariants as causes
use Rattle.sbx_asm.specs.Rules.{at, Values, when, data_rules, value_rules, line_rules, faults_at}
use Rattle.sbx_asm.specs.Items.{Item, Said, each, up_to, count, is_region, is_data, has_bytes, is_text}
use Rattle.sbx_asm.proofs.Views.{behind, item, leaves_region, address_in_section, another_region}
use Rattle.sbx_asm.specs.Addresses.{data_length, section_room, data_offset, region_start, in_code, label_address}
use Rattle.sbx_asm.specs.Images.{filled, region_with, bytes_at, region_at}
use Rattle.sbx_asm.specs.Laws.{RegionsBeginWhereLabelsSay}
use Rattle.sbx_asm.proofs.Nils.{cons_nil, nil_left, nil_right, nil_map}
use Rattle.sbx_asm.proofs.ValueCounts.{SaysCount, ItemCounts}
use Rattle.sbx_asm.proofs.Unfilled.{Unfilled, or_left, or_right, stays_out, unfilled_more}
use Rattle.sbx_asm.proofs.Lying.{which_region, no_size, filled_length, filled_pages, begins_behind, newest, newest_more, length_is, line_clean, size_more}
use Rattle.sbx_asm.proofs.Lying.{room_more, start_same, regions_here, clean_here, counts_here, worth}

-- ---- bytes

any_value : (os : List Operand) (n : ℕ) → value_count os ≡ Some n → 0 < n
unfolding value_count
any_value [] n h = absurd (cc)
any_value (o ∷ os) n h = by (list_all is_expression (o ∷ os)) h
  where
    by : (t : Bool) → (if t then Some (length (o ∷ os)) else None) ≡ Some n → 0 < n
    by true k = let e : length (o ∷ os) ≡ n = cc in omega (arith, e)
    by false k = absurd (cc)

wide : (w : Width) (n : ℕ) → 0 < n → 0 < bytes_of_width w * n
wide widths.Byte n h = omega (arith, h)
wide widths.Half n h = omega (arith, h)
wide widths.Word n h = omega (arith, h)

long : (i : Item) (size : ℕ) (s : Said) → SaysCount i.bytes i.tokens s → has_bytes (record i { said = s }) ≡ true → 0 < data_length size s
long i size (Ok (statements.Directive (directives.Values w n))) says h = wide w n (any_value (operands_of i.bytes (drop 1 i.tokens)) n says)
long i size (Ok (statements.Directive (directives.Skip n))) says h = ltb-true 0 n h
long i size (Ok (statements.Directive _)) says h = absurd (cc)
long i size (Ok _) says h = absurd (cc)
long i size (Err f) says h = absurd (cc)

some_filled : (bs : List ℕ) → 0 < length bs → 0 < length (filled bs)
some_filled bs h = let e = filled_length bs in omega (arith, e, h)

-- ---- regions in their order

-- the start of one behind a region that has bytes
behind_one : (writable : Bool) (xs : List ℕ) (rs : List Region) (start n : ℕ) → 0 < length xs
    → start_in (slice_get (placed_from start (region_with writable xs ++ rs)) (n + 1)) ≡ start_in (slice_get (placed_from (start + 4096 * pages_for (length xs)) rs) n)
behind_one writable [] rs start n h = absurd (omega (arith, h))
behind_one writable (x ∷ xs) rs start n h = let e : n + 1 ≡ suc n = omega arith in ap (λ (m : ℕ). start_in (slice_get (placed_from start (region_with writable (x ∷ xs) ++ rs)) m)) e

its_start : (writable : Bool) (xs : List ℕ) (rs : List Region) (start : ℕ) → 0 < length xs → start_in (slice_get (placed_from start (region_with writable xs ++ rs)) 0) ≡ Some start
its_start writable [] rs start h = absurd (omega (arith, h))
its_start writable (x ∷ xs) rs start h = refl

-- ---- lines that leave the code alone

in_data : (before : List Item) (i : Item) (s : Said) → is_region (record i { said = s }) ≡ true → in_code (record i { said = s } ∷ before) ≡ false
in_data before i (Ok (statements.Directive (directives.Region writable))) h = refl
in_data before i (Ok (statements.Directive _)) h = absurd (cc)
in_data before i (Ok _) h = absurd (cc)
in_data before i (Err f) h = absurd (cc)

pub wanted : (t u : Bool) → t ≡ true → when (t && not u) causes.Directive ≡ [] → u ≡ true
wanted true true e h = refl
wanted true false e h = cons_nil h
wanted false u e h = absurd (cc)

no_cause : (t : Bool) → when t causes.Directive ≡ [] → t ≡ false
no_cause true h = cons_nil h
no_cause false h = refl

module _ (values : Values) where
  -- data in the code have a fault, so what stands there has no bytes
  pub none_in_code : (before : List Item) (number : ℕ) (labels : List (List ℕ)) (bytes : List ℕ) (tokens : List Token) (s : Said)
      → in_code before ≡ true → line_rules values before (item number labels bytes tokens s) s ≡ [] → bytes_at values before (item number labels bytes tokens s) [] ≡ []
  none_in_code before number labels bytes tokens (Ok (statements.Directive (directives.Values w n))) e clean =
      cons_nil (sym (ap (λ (x : Bool). when x causes.Directive) e)
      ∙ nil_left (when (in_code before) causes.Directive) _
      (nil_left (data_rules before (bytes_of_width w * n)) (value_rules (result_err (data_of values bytes w tokens))) clean))
  none_in_code before number labels bytes tokens (Ok (statements.Directive (directives.Skip n))) e clean =
      cons_nil (sym (ap (λ (x : Bool). when x causes.Directive) e) ∙ nil_left (when (in_code before) causes.Directive) _ clean)
  none_in_code before number labels bytes tokens (Ok (statements.Directive (directives.Align n))) e clean =
      cons_nil (sym (ap (λ (x : Bool). when x causes.Directive) e) ∙ nil_left (when (in_code before) causes.Directive) _ clean)
  none_in_code before number labels bytes tokens (Ok (statements.Directive _)) e clean = refl
  none_in_code before number labels bytes tokens (Ok _) e clean = refl
  none_in_code before number labels bytes tokens (Err f) e clean = refl

  -- ---- a region of a source without faults has bytes

  abbrev ahead : List Item → List Item → List ℕ
  ahead before after = each (bytes_at values) before (up_to is_region after)

  ahead_more : (before : List Item) (i : Item) (after : List Item) → is_region i ≡ false → ahead before (i ∷ after) ≡ bytes_at values before i [] ++ ahead (i ∷ before) after
  ahead_more before i after h = λ j. each (bytes_at values) before (if h j then [] else i ∷ up_to is_region after)

  some_first : (n front rest : ℕ) → 0 < front → n ≡ front + rest → 0 < n
  some_first n front rest some all = omega arith

  some_later : (n front rest : ℕ) → 0 < rest → n ≡ front + rest → 0 < n
  some_later n front rest some all = omega arith

  some_ahead : (after before : List Item) → AllByRecursion ItemCounts after → each (faults_at values) before after ≡ [] →
      list_any has_bytes (up_to leaves_region after) ≡ true → 0 < length (ahead before after)
  some_ahead [] before says clean h = absurd (false≢true h)
  some_ahead (i ∷ after) before says clean h =
      by (leaves_region i) (has_bytes i) refl refl h
      (some_ahead after (i ∷ before) says.1 (nil_right (faults_at values before i after) (each (faults_at values) (i ∷ before) after) clean))
    where
      by : (t u : Bool) → leaves_region i ≡ t → has_bytes i ≡ u → list_any has_bytes (if t then [] else i ∷ up_to leaves_region after) ≡ true
          → (list_any has_bytes (up_to leaves_region after) ≡ true → 0 < length (ahead (i ∷ before) after)) → 0 < length (ahead before (i ∷ after))
      by true u e f k more = absurd (false≢true k)
      by false true e f k more =
          let mine = line_clean values before i after (nil_left (faults_at values before i after) (each (faults_at values) (i ∷ before) after) clean) in
          let count = length_is values before i.number i.labels i.bytes i.tokens i.said says.0 mine in
          let some = long i (data_offset before) i.said says.0 f in
          let all = ap length (ahead_more before i after (or_right (is_text i) (is_region i) e)) ∙ length-append (bytes_at values before i []) (ahead (i ∷ before) after) in
          some_first (length (ahead before (i ∷ after))) (length (bytes_at values before i [])) (length (ahead (i ∷ before) after)) (subst (λ (n : ℕ). 0 < n) (sym count) some) all
      by false false e f k more =
          let later = more (sym (ap (λ (t : Bool). t || list_any has_bytes (up_to leaves_region after)) f) ∙ k) in
          let all = ap length (ahead_more before i after (or_right (is_text i) (is_region i) e)) ∙ length-append (bytes_at values before i []) (ahead (i ∷ before) after) in
          some_later (length (ahead before (i ∷ after))) (length (bytes_at values before i [])) (length (ahead (i ∷ before) after)) later all

  region_has : (before : List Item) (i : Item) (after : List Item) → AllByRecursion ItemCounts after → each (faults_at values) before (i ∷ after) ≡ [] →
      is_region i ≡ true → 0 < length (ahead (i ∷ before) after)
  region_has before i after says clean e =
      let mine = nil_left (faults_at values before i after) (each (faults_at values) (i ∷ before) after) clean in
      let told = nil_left (when (is_region i && not (list_any has_bytes (up_to leaves_region after))) causes.Directive) _
      (nil_right (line_rules values before i i.said) _ (nil_right (when (nat_lt 1000000 i.number) causes.Limit) _ (nil_map (at i.number) _ mine))) in
      some_ahead after (i ∷ before) says (nil_right (faults_at values before i after) (each (faults_at values) (i ∷ before) after) clean)
      (wanted (is_region i) (list_any has_bytes (up_to leaves_region after)) e told)

  -- ---- the start of a region, by those before it

  abbrev starts_at : Bool → List ℕ → List Item → List Item → ℕ → List Item → Type 0
  starts_at writable bs before after n there = start_in (slice_get (placed_from (region_start before) (newest values writable bs before after)) n) ≡ Some (region_start there)

  -- the newest region, behind which the lines begin another one
  module _ (before : List Item) (bs : List ℕ) (size : data_offset before ≡ length bs) (room : length bs ≤ section_room) (number : ℕ) (labels : List (List ℕ))
      (bytes : List ℕ) (tokens : List Token) (right : Bool) (clean : another_region before ≡ []) (unfilled : Unfilled before) where
    abbrev new : Item
    new = item number labels bytes tokens (Ok (statements.Directive (directives.Region right)))

    next : region_start before + 4096 * pages_for (length (filled (bs ++ []))) ≡ region_start (new ∷ before)
    next =
        ap (λ (n : ℕ). region_start before + 4096 * n) (ap (λ (ys : List ℕ). pages_for (length (filled ys))) (append-nil bs) ∙ filled_pages bs ∙ ap pages_for (sym size))
        ∙ sym (begins_behind before clean unfilled)

    -- where it has bytes
    behind_bytes : (writable : Bool) (after : List Item) (n : ℕ) (there : List Item) → 0 < length (bs ++ []) → starts_at right [] (new ∷ before) after n there →
        starts_at writable bs before (new ∷ after) (n + 1) there
    behind_bytes writable after n there some h =
        behind_one writable (filled (bs ++ [])) (newest values right [] (new ∷ before) after) (region_start before) n (some_filled (bs ++ []) some)
        ∙ ap (λ (s : ℕ). start_in (slice_get (placed_from s (newest values right [] (new ∷ before) after)) n)) next ∙ h

    -- where it has none
    behind_nothing : (writable : Bool) (after : List Item) (n : ℕ) (there : List Item) → bs ≡ [] → starts_at right [] (new ∷ before) after n there → starts_at writable bs before (new ∷ after) n there
    behind_nothing writable after n there none h =
        let rs = newest values right [] (new ∷ before) after in
        let start : region_start before ≡ region_start (new ∷ before) = (let e = next in let k = ap (λ (ys : List ℕ). length (filled (ys ++ []))) none in omega (arith, e, k)) in
        ap (λ (ys : List ℕ). start_in (slice_get (placed_from (region_start before) (region_with writable (filled (ys ++ [])) ++ rs)) n)) none
        ∙ ap (λ (s : ℕ). start_in (slice_get (placed_from s rs) n)) start ∙ h

  -- what a `.region` asks
  pub asks : (before : List Item) (i : Item) (s : Said) → is_region (record i { said = s }) ≡ true → line_rules values before i s ≡ another_region before
  asks before i (Ok (statements.Directive (directives.Region writable))) h = refl
  asks before i (Ok (statements.Directive _)) h = absurd (cc)
  asks before i (Ok _) h = absurd (cc)
  asks before i (Err f) h = absurd (cc)

  module _ (before : List Item) (bs : List ℕ) (size : data_offset before ≡ length bs) (room : length bs ≤ section_room) (j : Item) (rest : List Item)
      (mine : line_rules values before j j.said ≡ []) (unfilled : Unfilled before) where
    abbrev it : Said → Item
    it s = item j.number j.labels j.bytes j.tokens s

    over_region : is_region j ≡ true → (writable : Bool) (n : ℕ) (there : List Item) → 0 < length (bs ++ ahead before (j ∷ rest)) →
        ((right : Bool) → starts_at right [] (j ∷ before) rest n there) → starts_at writable bs before (j ∷ rest) (n + 1) there
    over_region e writable n there some h =
        let region = which_region j j.said e in
        let clean = sym (asks before j j.said e) ∙ mine in
        subst (λ (s : Said). 0 < length (bs ++ ahead before (it s ∷ rest)) → starts_at region.0 [] (it s ∷ before) rest n there →
        starts_at writable bs before (it s ∷ rest) (n + 1) there) (sym region.1)
        (behind_bytes before bs size room j.number j.labels j.bytes j.tokens region.0 clean unfilled writable rest n there) some (h region.0)

    over_nothing : is_region j ≡ true → (writable : Bool) (n : ℕ) (there : List Item) → bs ≡ [] →
        ((right : Bool) → starts_at right [] (j ∷ before) rest n there) → starts_at writable bs before (j ∷ rest) n there
    over_nothing e writable n there none h =
        let region = which_region j j.said e in
        let clean = sym (asks before j j.said e) ∙ mine in
        subst (λ (s : Said). starts_at region.0 [] (it s ∷ before) rest n there → starts_at writable bs before (it s ∷ rest) n there) (sym region.1)
        (behind_nothing before bs size room j.number j.labels j.bytes j.tokens region.0 clean unfilled writable rest n there none) (h region.0)

    over_other : (says : ItemCounts j) (e : is_region j ≡ false) (writable : Bool) (n : ℕ) (there : List Item) →
        starts_at writable (bs ++ bytes_at values before j []) (j ∷ before) rest n there → starts_at writable bs before (j ∷ rest) n there
    over_other says e writable n there h =
        ap (λ (rs : List Region). start_in (slice_get (placed_from (region_start before) rs) n)) (newest_more values writable bs before j rest e)
        ∙ ap (λ (s : ℕ). start_in (slice_get (placed_from s (newest values writable (bs ++ bytes_at values before j []) (j ∷ before) rest)) n))
        (sym (start_same values before bs size room j says mine e))
        ∙ h

    -- no data stand before the first region
    none_yet : (e : is_region j ≡ false) → (list_any is_data before ≡ false → (in_code before ≡ true) × (bs ≡ []))
        → list_any is_data (j ∷ before) ≡ false → (in_code (j ∷ before) ≡ true) × (bs ++ bytes_at values before j [] ≡ [])
    none_yet e before_it h =
        let so_far = before_it (or_right (is_data j) (list_any is_data before) h) in
        let own = none_in_code before j.number j.labels j.bytes j.tokens j.said so_far.0 mine in (
          stays_out (is_text j) (is_data j) (is_region j) (in_code before) e (or_left (is_data j) (list_any is_data before) h) so_far.0,
          (λ k. so_far.1 k ++ own k),
        )

  its_own : (before : List Item) (j : Item) (rest : List Item) (right : Bool) → 0 < length (ahead (j ∷ before) rest) → starts_at right [] (j ∷ before) rest 0 (j ∷ before)
  its_own before j rest right some =
      its_start right (filled (ahead (j ∷ before) rest)) (each (region_at values) (j ∷ before) rest) (region_start (j ∷ before))
      (some_filled (ahead (j ∷ before) rest) some)

  one_more : (j : Item) (front : List Item) → is_region j ≡ true → count is_region (j ∷ front) ≡ count is_region front + 1
  one_more j front e = λ k. if e k then count is_region front + 1 else count is_region front

  no_more : (j : Item) (front : List Item) → is_region j ≡ false → count is_region (j ∷ front) ≡ count is_region front
  no_more j front e = λ k. if e k then count is_region front + 1 else count is_region front

  module _ (i : Item) (after : List Item) (begins : is_region i ≡ true) where
    -- from within a region that has bytes
    AfterOne : List Item → List Item → Type 0
    AfterOne front before = (bs : List ℕ) (writable : Bool) → data_offset before ≡ length bs → length bs ≤ section_room → Unfilled before →
        AllByRecursion ItemCounts (front ++ i ∷ after) → each (faults_at values) before (front ++ i ∷ after) ≡ []
        → 0 < length (bs ++ ahead before (front ++ i ∷ after)) → starts_at writable bs before (front ++ i ∷ after) (count is_region front + 1) (i ∷ behind before front)

    after_one : (front before : List Item) → AfterOne front before
    unfolding AfterOne
    after_one [] before bs writable size room unfilled says clean some =
        let mine = line_clean values before i after (nil_left (faults_at values before i after) (each (faults_at values) (i ∷ before) after) clean) in
        over_region before bs size room i after mine unfilled begins writable 0 (i ∷ before) some (λ right. its_own before i after right (region_has before i after says.1 clean begins))
    after_one (j ∷ front) before bs writable size room unfilled says clean some = by (after_one front (j ∷ before)) (is_region j) refl
      where
        mine : line_rules values before j j.said ≡ []
        mine = line_clean values before j (front ++ i ∷ after) (nil_left (faults_at values before j (front ++ i ∷ after)) (each (faults_at values) (j ∷ before) (front ++ i ∷ after)) clean)

        later : each (faults_at values) (j ∷ before) (front ++ i ∷ after) ≡ []
        later = nil_right (faults_at values before j (front ++ i ∷ after)) (each (faults_at values) (j ∷ before) (front ++ i ∷ after)) clean

        by : AfterOne front (j ∷ before) → (t : Bool) → is_region j ≡ t → starts_at writable bs before (j ∷ (front ++ i ∷ after)) (count is_region (j ∷ front) + 1) (i ∷ behind (j ∷ before) front)
        by more true e =
            subst (λ (n : ℕ). starts_at writable bs before (j ∷ (front ++ i ∷ after)) (n + 1) (i ∷ behind (j ∷ before) front)) (sym (one_more j front e))
            (over_region before bs size room j (front ++ i ∷ after) mine unfilled e writable (count is_region front + 1) (i ∷ behind (j ∷ before) front) some
            (λ right. more [] right (no_size before j e) (omega arith) (unfilled_more values before j mine unfilled) says.1 later (region_has before j (front ++ i ∷ after) says.1 clean e)))
        by more false e =
            let own = bytes_at values before j [] in
            let same : bs ++ ahead before (j ∷ (front ++ i ∷ after)) ≡ (bs ++ own) ++ ahead (j ∷ before) (front ++ i ∷ after) =
            ap (λ (ys : List ℕ). bs ++ ys) (ahead_more before j (front ++ i ∷ after) e)
            ∙ sym (append_assoc bs own (ahead (j ∷ before) (front ++ i ∷ after))) in
            subst (λ (n : ℕ). starts_at writable bs before (j ∷ (front ++ i ∷ after)) (n + 1) (i ∷ behind (j ∷ before) front)) (sym (no_more j front e))
            (over_other before bs size room j (front ++ i ∷ after) mine unfilled says.0 e writable (count is_region front + 1) (i ∷ behind (j ∷ before) front)
            (more (bs ++ own) writable (size_more values before bs size room j says.0 mine e) (room_more values before bs size room j says.0 mine e)
            (unfilled_more values before j mine unfilled) says.1 later (subst (λ (ys : List ℕ). 0 < length ys) same some)))

    -- from before the first one
    AfterNone : List Item → List Item → Type 0
    AfterNone front before = (bs : List ℕ) (writable : Bool) → data_offset before ≡ length bs → length bs ≤ section_room → Unfilled before →
        AllByRecursion ItemCounts (front ++ i ∷ after) → each (faults_at values) before (front ++ i ∷ after) ≡ []
        → (list_any is_data before ≡ false → (in_code before ≡ true) × (bs ≡ [])) → starts_at writable bs before (front ++ i ∷ after) (count is_region front) (i ∷ behind before front)

    no_data : (before : List Item) (j : Item) → is_region j ≡ true → line_rules values before j j.said ≡ [] → list_any is_data before ≡ false
    no_data before j e mine =
        no_cause (list_any is_data before)
        (nil_left (when (list_any is_data before) causes.Directive) (when (nat_le 8 (count is_region before)) causes.Limit)
        (sym (asks before j j.said e) ∙ mine))

    after_none : (front before : List Item) → AfterNone front before
    unfolding AfterNone AfterOne
    after_none [] before bs writable size room unfilled says clean none =
        let mine = line_clean values before i after (nil_left (faults_at values before i after) (each (faults_at values) (i ∷ before) after) clean) in
        over_nothing before bs size room i after mine unfilled begins writable 0 (i ∷ before) (none (no_data before i begins mine)).1
        (λ right. its_own before i after right (region_has before i after says.1 clean begins))
    after_none (j ∷ front) before bs writable size room unfilled says clean none = by (after_none front (j ∷ before)) (is_region j) refl
      where
        mine : line_rules values before j j.said ≡ []
        mine = line_clean values before j (front ++ i ∷ after) (nil_left (faults_at values before j (front ++ i ∷ after)) (each (faults_at values) (j ∷ before) (front ++ i ∷ after)) clean)

        later : each (faults_at values) (j ∷ before) (front ++ i ∷ after) ≡ []
        later = nil_right (faults_at values before j (front ++ i ∷ after)) (each (faults_at values) (j ∷ before) (front ++ i ∷ after)) clean

        by : AfterNone front (j ∷ before) → (t : Bool) → is_region j ≡ t → starts_at writable bs before (j ∷ (front ++ i ∷ after)) (count is_region (j ∷ front)) (i ∷ behind (j ∷ before) front)
        by more true e =
            subst (λ (n : ℕ). starts_at writable bs before (j ∷ (front ++ i ∷ after)) n (i ∷ behind (j ∷ before) front)) (sym (one_more j front e))
            (over_nothing before bs size room j (front ++ i ∷ after) mine unfilled e writable (count is_region front + 1) (i ∷ behind (j ∷ before) front) (none (no_data before j e mine)).1
            (λ right. after_one front (j ∷ before) [] right (no_size before j e) (omega arith) (unfilled_more values before j mine unfilled) says.1 later
            (region_has before j (front ++ i ∷ after) says.1 clean e)))
        by more false e =
            subst (λ (n : ℕ). starts_at writable bs before (j ∷ (front ++ i ∷ after)) n (i ∷ behind (j ∷ before) front)) (sym (no_more j front e))
            (over_other before bs size room j (front ++ i ∷ after) mine unfilled says.0 e writable (count is_region front) (i ∷ behind (j ∷ before) front)
            (more (bs ++ bytes_at values before j []) writable (size_more values before bs size room j says.0 mine e)
            (room_more values before bs size room j says.0 mine e) (unfilled_more values before j mine unfilled) says.1 later
            (none_yet before bs size room j (front ++ i ∷ after) mine unfilled e none)))

-- ---- the law

-- a label right behind a `.region` points to the region's first byte
label_of_start : (before : List Item) (i : Item) → is_region i ≡ true → label_address (i ∷ before) ≡ region_start (i ∷ before)
label_of_start before i e =
    ap (address_in_section (i ∷ before)) (in_data before i i.said e)
    ∙ (let none = no_size before i e in omega (arith, none))

pub regions_begin : RegionsBeginWhereLabelsSay
unfolding AfterNone
regions_begin source parts means front after i lines e =
    ap (λ (rs : List Region). start_of rs (count is_region front)) (sym (regions_here source parts means front after i lines))
    ∙ after_none (worth source parts means) i after e front [] [] true refl (omega arith) (λ _ _. refl) (counts_here source parts means front after i lines)
    (clean_here source parts means front after i lines) (λ _. (refl, refl))
    ∙ ap Some (sym (label_of_start (behind [] front) i e))
