-- Where the data of a source lie in its image: where its labels say.
use Rattle.std.proofs.Common.{◌≡◌, ℕ, zero, suc, ◌+◌, ◌-◌, ◌*◌, ◌%◌, ◌<◌, ◌≤◌, Bool, true, false, cond, List, [], ◌∷◌, ◌++◌, length, Option, None, Some, Ok}
use Rattle.std.proofs.Common.{Err, refl, sym, ap, subst, ◌∙◌, append_assoc, arith}
use Rattle.std.specs.Prelude.{min, not, nat_le, nat_lt, slice_get, if◌then◌else◌}
use Rattle.std.specs.List.{AllByRecursion, list_any}
use Rattle.std.proofs.Math.Nat.{min-eq_left}
use Rattle.std.specs.Result.{result_err}
use Rattle.std.proofs.lemmas.Bool.{le-ltb, leb-true, leb-false}
use Rattle.std.proofs.lemmas.List.{append-nil, length-append, length-replicate}
use Rattle.std.proofs.lemmas.Option.{slice_get_past, slice_get_within}
use Rattle.v8_map.specs.declared.TheConstants.{DATA_START}
use Rattle.sbx_text.specs.declared.Token.{Token}
use Rattle.sbx_image.specs.Parts.{Parts}
use Rattle.sbx_image.specs.Region.{Region}
use Rattle.sbx_image.specs.Regions.{Placed, byte_in, byte_of_region, data_at, or_else, pages_for, placed_from}
use Rattle.sbx_directives.specs.declared.directive.Directive.TheVariants as directives
use Rattle.sbx_directives.specs.declared.directive.Statement.TheVariants as statements
use Rattle.sbx_directives.specs.Data.{data_of, bytes_of_width}
use Rattle.sbx_asm.specs.declared.fault.Cause.{Cause}
use Rattle.sbx_asm.specs.declared.fault.Cause.TheVariants as causes
use Rattle.sbx_asm.specs.Rules.{at, Values, duplicates, faults_of, least_of, when, data_rules, value_rules, line_rules, faults_at}
use Rattle.sbx_asm.specs.Items.{Item, items_of, Said, each, up_to, count, is_data, is_region}
use Rattle.sbx_asm.proofs.Views.{behind, up_to_room, fits_behind, last_start, data_address, item, address_in_section, another_region, all_labels}
use Rattle.sbx_asm.specs.Addresses.{data_length, padding_of, section_room, data_offset, start_behind, next_start, region_start, in_code, label_address, values_of}
use Rattle.sbx_asm.specs.Images.{filled, region_with, bytes_at, region_at, image_of, source_image}
use Rattle.sbx_asm.specs.Laws.{DataLieWhereLabelsSay}
use Rattle.sbx_asm.proofs.Rooms.{in_room, data_within, low, first_start}
use Rattle.sbx_asm.proofs.Unfilled.{Unfilled, unfilled_more}
use Rattle.sbx_asm.proofs.Nils.{cons_nil, nil_left, nil_right, nil_map}
use Rattle.sbx_asm.proofs.Meanings.{none_told, judged_parts}
use Rattle.sbx_asm.proofs.ValueCounts.{SaysCount, ItemCounts, items_count, values_length}

-- ---- lists

pub in_front : (xs ys : List ℕ) (k : ℕ) → k < length xs → slice_get (xs ++ ys) k ≡ slice_get xs k
in_front [] ys k less = absurd (omega arith)
in_front (x ∷ xs) ys zero less = refl
in_front (x ∷ xs) ys (suc k) less = in_front xs ys k (omega arith)

past_front : (xs ys : List ℕ) (k : ℕ) → length xs ≤ k → slice_get (xs ++ ys) k ≡ slice_get ys (k - length xs)
past_front [] ys k past = let e : k ≡ k - 0 = omega arith in ap (slice_get ys) e
past_front (x ∷ xs) ys zero past = absurd (omega arith)
past_front (x ∷ xs) ys (suc k) past = let e : k - length xs ≡ suc k - suc (length xs) = omega arith in past_front xs ys k (omega arith) ∙ ap (slice_get ys) e

-- between others
pub between : (xs ys zs : List ℕ) (k b : ℕ) → slice_get ys k ≡ Some b → slice_get ((xs ++ ys) ++ zs) (length xs + k) ≡ Some b
between xs ys zs k b h =
    let less = slice_get_within ys k b h in
    let count = length-append xs ys in
    let here : length xs + k - length xs ≡ k = omega arith in
    in_front (xs ++ ys) zs (length xs + k) (omega (arith, count, less)) ∙ past_front xs ys (length xs + k) (omega arith) ∙ ap (slice_get ys) here ∙ h

-- ---- a region alone

-- zeros up to a multiple of 8 take no page more
pub filled_length : (bs : List ℕ) → length (filled bs) ≡ length bs + (8 - length bs % 8) % 8
filled_length bs = length-append bs _ ∙ ap (λ (n : ℕ). length bs + n) (length-replicate ((8 - length bs % 8) % 8) 0)

pub filled_pages : (bs : List ℕ) → pages_for (length (filled bs)) ≡ pages_for (length bs)
filled_pages bs = let e = filled_length bs in omega (arith, e)

filled_fits : (bs : List ℕ) → length (filled bs) ≤ 4096 * pages_for (length bs)
filled_fits bs = let e = filled_length bs in omega (arith, e)

abbrev there : ℕ → List ℕ → Placed
there start bytes = record { address = start; bytes = bytes; writable = true }

no_byte : (start a : ℕ) (xs : List ℕ) → start + length xs ≤ a → byte_of_region (there start xs) a ≡ None
no_byte start a xs past =
    let test : nat_lt a start ≡ false = le-ltb _ _ (omega (arith, past)) in
    ap (λ (t : Bool). if t then None else slice_get xs (a - start)) test ∙ slice_get_past xs (a - start) (omega (arith, past))

own_byte : (start n : ℕ) (xs : List ℕ) → byte_of_region (there start xs) (start + n) ≡ slice_get xs n
own_byte start n xs =
    let test : nat_lt (start + n) start ≡ false = le-ltb _ _ (omega arith) in
    let place : start + n - start ≡ n = omega arith in
    ap (λ (t : Bool). if t then None else slice_get xs (start + n - start)) test ∙ ap (slice_get xs) place

none_there : (t : Bool) (o : Option ℕ) → o ≡ (if t then o else o)
none_there true o = refl
none_there false o = refl

-- a region without bytes is none, and moves none
first_region : (writable : Bool) (xs : List ℕ) (rs : List Region) (start a : ℕ)
    → byte_in (placed_from start (region_with writable xs ++ rs)) a ≡ or_else (byte_of_region (there start xs) a) (byte_in (placed_from (start + 4096 * pages_for (length xs)) rs) a)
first_region writable [] rs start a =
    (let e : start ≡ start + 4096 * pages_for 0 = omega arith in ap (λ (s : ℕ). byte_in (placed_from s rs) a) e)
    ∙ ap (λ (o : Option ℕ). or_else o (byte_in (placed_from (start + 4096 * pages_for 0) rs) a)) (none_there (nat_lt a start) None)
first_region writable (x ∷ xs) rs start a = refl

-- ---- a line that begins no region

begins_none : (values : Values) (before : List Item) (i : Item) (after : List Item) (s : Said) → is_region (record i { said = s }) ≡ false → region_at values before (record i { said = s }) after ≡ []
begins_none values before i after (Ok (statements.Directive (directives.Region writable))) h = absurd (cc)
begins_none values before i after (Ok (statements.Directive _)) h = refl
begins_none values before i after (Ok _) h = refl
begins_none values before i after (Err f) h = refl

-- ---- one that begins one

pub which_region : (i : Item) (s : Said) → is_region (record i { said = s }) ≡ true → (writable : Bool) × (s ≡ Ok (statements.Directive (directives.Region writable)))
which_region i (Ok (statements.Directive (directives.Region writable))) h = (writable, refl)
which_region i (Ok (statements.Directive _)) h = absurd (cc)
which_region i (Ok _) h = absurd (cc)
which_region i (Err f) h = absurd (cc)

no_bytes : (values : Values) (before : List Item) (i : Item) (s : Said) → is_region (record i { said = s }) ≡ true → bytes_at values before (record i { said = s }) [] ≡ []
no_bytes values before i (Ok (statements.Directive (directives.Region writable))) h = refl
no_bytes values before i (Ok (statements.Directive _)) h = absurd (cc)
no_bytes values before i (Ok _) h = absurd (cc)
no_bytes values before i (Err f) h = absurd (cc)

pub no_size : (before : List Item) (i : Item) → is_region i ≡ true → data_offset (i ∷ before) ≡ 0
no_size before i h = ap (λ (t : Bool). if t then 0 else up_to_room (data_offset before + data_length (data_offset before) i.said)) h

-- ---- where regions begin

abbrev up_to_last : ℕ → ℕ
up_to_last address = min address last_start

capped : (address : ℕ) → up_to_last address ≤ address
capped address = omega arith

not_below : (start address : ℕ) → start ≤ last_start → start ≤ address → start ≤ up_to_last address
not_below start address h k = omega arith

rises_with : (start size : ℕ) (later begins : Bool) → (later ≡ false → start ≡ DATA_START) → start ≤ last_start →
    start ≤ (if begins then (if later then start_behind start size else DATA_START) else start)
rises_with start size true true first h = not_below start (start + 4096 * pages_for size) h (omega arith)
rises_with start size false true first h = let e = first refl in omega (arith, e)
rises_with start size later false first h = omega arith

-- each begins no earlier than the one before
pub rises : (front before : List Item) → region_start before ≤ region_start (behind before front)
rises [] before = omega arith
rises (i ∷ front) before = let h =
    rises_with (region_start before) (data_offset before) (list_any is_region before) (is_region i) (first_start before) (low before) in
    let k = rises front (i ∷ before) in omega (arith, h, k)

within_with : (start size n : ℕ) (later begins : Bool) → size ≤ section_room → start ≤ DATA_START + section_room * n
    → (if begins then (if later then start_behind start size else DATA_START) else start) ≤ DATA_START + section_room * (if begins then n + 1 else n)
within_with start size n true true small h = let k = capped (start + 4096 * pages_for size) in omega (arith, k)
within_with start size n false true small h = omega arith
within_with start size n later false small h = h

-- and each takes no more than its room
within : (before : List Item) → region_start before ≤ DATA_START + section_room * count is_region before
within [] = omega arith
within (i ∷ before) = within_with (region_start before) (data_offset before) (count is_region before) (list_any is_region before) (is_region i) (data_within before) (within before)

-- one of the first eight begins right behind the pages of the one before
pub begins_behind : (before : List Item) → another_region before ≡ [] → Unfilled before → next_start before (region_start before) ≡ region_start before + 4096 * pages_for (data_offset before)
begins_behind before clean unfilled = by (list_any is_region before) refl
  where
    no_cause : (t : Bool) (c : Cause) → when t c ≡ [] → t ≡ false
    no_cause true c h = cons_nil h
    no_cause false c h = refl

    not_last : up_to_last (region_start before + 4096 * pages_for (data_offset before)) ≡ region_start before + 4096 * pages_for (data_offset before)
    not_last =
        let few : nat_le 8 (count is_region before) ≡ false =
        no_cause (nat_le 8 (count is_region before)) causes.Limit
        (nil_right (when (list_any is_data before) causes.Directive) (when (nat_le 8 (count is_region before)) causes.Limit) clean) in
        let less = leb-false 8 (count is_region before) few in
        let start = within before in
        let size = data_within before in
        min-eq_left (omega (arith, less, start, size))

    by : (later : Bool) → list_any is_region before ≡ later →
        (if later then start_behind (region_start before) (data_offset before) else DATA_START) ≡ region_start before + 4096 * pages_for (data_offset before)
    by true e = not_last
    by false e =
        let no_data : list_any is_data before ≡ false =
        no_cause (list_any is_data before) causes.Directive
        (nil_left (when (list_any is_data before) causes.Directive) (when (nat_le 8 (count is_region before)) causes.Limit) clean) in
        let none = unfilled e no_data in
        let start = first_start before e in
        omega (arith, none, start)

-- ---- lines without faults

has_room : (t : Bool) → when (not t) causes.Limit ≡ [] → t ≡ true
has_room true h = refl
has_room false h = cons_nil h

module _ (values : Values) (before : List Item) (number : ℕ) (labels : List (List ℕ)) (bytes : List ℕ) (tokens : List Token) where
  abbrev it : Said → Item
  it s = item number labels bytes tokens s

  -- the bytes of a line are as many as its length
  pub length_is : (s : Said) → SaysCount bytes tokens s → line_rules values before (it s) s ≡ [] → length (bytes_at values before (it s) []) ≡ data_length (data_offset before) s
  length_is (Ok (statements.Directive (directives.Values w n))) says clean =
      values_length values bytes w tokens n says
      (nil_right (data_rules before (bytes_of_width w * n)) (value_rules (result_err (data_of values bytes w tokens))) clean)
  length_is (Ok (statements.Directive (directives.Skip n))) says clean = length-replicate n 0
  length_is (Ok (statements.Directive (directives.Align n))) says clean = length-replicate (padding_of n (data_offset before)) 0
  length_is (Ok (statements.Directive _)) says clean = refl
  length_is (Ok _) says clean = refl
  length_is (Err f) says clean = refl

  room_left : (n : ℕ) → data_rules before n ≡ [] → data_offset before + n ≤ section_room
  room_left n clean =
      let fits : fits_behind (data_offset before) n ≡ true =
      has_room (fits_behind (data_offset before) n)
      (nil_right (when (in_code before) causes.Directive) (when (not (fits_behind (data_offset before) n)) causes.Limit) clean) in
      let k = leb-true n (section_room - data_offset before) fits in
      let size = data_within before in
      omega (arith, k, size)

  no_more : data_offset before + 0 ≤ section_room
  no_more = let size = data_within before in omega (arith, size)

  -- and its region holds them
  room_is : (s : Said) → line_rules values before (it s) s ≡ [] → data_offset before + data_length (data_offset before) s ≤ section_room
  room_is (Ok (statements.Directive (directives.Values w n))) clean =
      room_left (bytes_of_width w * n) (nil_left (data_rules before (bytes_of_width w * n)) (value_rules (result_err (data_of values bytes w tokens))) clean)
  room_is (Ok (statements.Directive (directives.Skip n))) clean = room_left n clean
  room_is (Ok (statements.Directive (directives.Align n))) clean = room_left (padding_of n (data_offset before)) clean
  room_is (Ok (statements.Directive _)) clean = no_more
  room_is (Ok _) clean = no_more
  room_is (Err f) clean = no_more

  -- what has bytes stands in the data
  no_code : (x : Bool) (cs : List Cause) → when x causes.Directive ++ cs ≡ [] → x ≡ false
  no_code true cs h = cons_nil h
  no_code false cs h = refl

  nothing_at : {A : Type 0} (k b : ℕ) → slice_get {X = ℕ} [] k ≡ Some b → A
  nothing_at k b h = absurd (cc)

  in_data : (s : Said) (k b : ℕ) → line_rules values before (it s) s ≡ [] → slice_get (bytes_at values before (it s) []) k ≡ Some b → in_code before ≡ false
  in_data (Ok (statements.Directive (directives.Values w n))) k b clean h =
      no_code (in_code before) _ (nil_left (data_rules before (bytes_of_width w * n)) (value_rules (result_err (data_of values bytes w tokens))) clean)
  in_data (Ok (statements.Directive (directives.Skip n))) k b clean h = no_code (in_code before) _ clean
  in_data (Ok (statements.Directive (directives.Align n))) k b clean h = no_code (in_code before) _ clean
  in_data (Ok (statements.Directive _)) k b clean h = nothing_at k b h
  in_data (Ok _) k b clean h = nothing_at k b h
  in_data (Err f) k b clean h = nothing_at k b h

-- ---- the newest region, with the bytes of some more lines, and the regions behind it

module _ (values : Values) where
  abbrev pub newest : Bool → List ℕ → List Item → List Item → List Region
  newest writable bs before after = region_with writable (filled (bs ++ each (bytes_at values) before (up_to is_region after))) ++ each (region_at values) before after

  -- with a line that begins no region
  pub newest_more : (writable : Bool) (bs : List ℕ) (before : List Item) (i : Item) (after : List Item) → is_region i ≡ false →
      newest writable bs before (i ∷ after) ≡ newest writable (bs ++ bytes_at values before i []) (i ∷ before) after
  newest_more writable bs before i after h =
      (λ j. region_with writable (filled (bs ++ each (bytes_at values) before (cond (h j) [] (i ∷ up_to is_region after))))
      ++ (region_at values before i after ++ each (region_at values) (i ∷ before) after))
      ∙ ap (λ (rs : List Region). region_with writable
      (filled (bs ++ (bytes_at values before i [] ++ each (bytes_at values) (i ∷ before) (up_to is_region after))))
      ++ (rs ++ each (region_at values) (i ∷ before) after)) (begins_none values before i after i.said h)
      ∙ ap (λ (xs : List ℕ). region_with writable (filled xs) ++ each (region_at values) (i ∷ before) after)
      (sym (append_assoc bs (bytes_at values before i []) (each (bytes_at values) (i ∷ before) (up_to is_region after))))

  -- the byte at an address
  abbrev Gives : ℕ → Bool → List ℕ → List Item → List Item → ℕ → Type 0
  Gives a writable bs before after b = byte_in (placed_from (region_start before) (newest writable bs before after)) a ≡ Some b

  module _ (before : List Item) (bs : List ℕ) (size : data_offset before ≡ length bs) (room : length bs ≤ section_room) where
    -- a line that begins none leaves the newest one, with its bytes
    module _ (i : Item) (says : ItemCounts i) (clean : line_rules values before i i.said ≡ []) (quiet : is_region i ≡ false) where
      abbrev own : List ℕ
      own = bytes_at values before i []

      own_length : length own ≡ data_length (data_offset before) i.said
      own_length = length_is values before i.number i.labels i.bytes i.tokens i.said says clean

      pub room_more : length (bs ++ own) ≤ section_room
      room_more = let r = room_is values before i.number i.labels i.bytes i.tokens i.said clean in let l = own_length in let e = length-append bs own in omega (arith, r, size, l, e)

      pub size_more : data_offset (i ∷ before) ≡ length (bs ++ own)
      size_more =
          ap (λ (t : Bool). if t then 0 else up_to_room (data_offset before + data_length (data_offset before) i.said)) quiet
          ∙ in_room (data_offset before + data_length (data_offset before) i.said) (room_is values before i.number i.labels i.bytes i.tokens i.said clean)
          ∙ (let l = own_length in let e = length-append bs own in omega (arith, size, l, e))

      pub start_same : region_start (i ∷ before) ≡ region_start before
      start_same = ap (λ (t : Bool). if t then next_start before (region_start before) else region_start before) quiet

      goes_on : (a : ℕ) (writable : Bool) (after : List Item) (b : ℕ) → Gives a writable (bs ++ own) (i ∷ before) after b → Gives a writable bs before (i ∷ after) b
      goes_on a writable after b h =
          ap (λ (rs : List Region). byte_in (placed_from (region_start before) rs) a) (newest_more writable bs before i after quiet)
          ∙ ap (λ (s : ℕ). byte_in (placed_from s (newest writable (bs ++ own) (i ∷ before) after)) a) (sym start_same)
          ∙ h

      -- its own bytes lie behind those so far
      own_lies : (writable : Bool) (after : List Item) (k b : ℕ) → slice_get own k ≡ Some b → Gives (data_address before + k) writable bs before (i ∷ after) b
      own_lies writable after k b h =
          let rest = each (bytes_at values) (i ∷ before) (up_to is_region after) in
          let all = (bs ++ own) ++ rest in
          let behind_it = each (region_at values) (i ∷ before) after in
          let start = region_start before in
          let inside : slice_get (filled all) (length bs + k) ≡ Some b =
          (let f = between bs own rest k b h in in_front all _ (length bs + k) (slice_get_within all (length bs + k) b f) ∙ f) in
          let place : data_address before + k ≡ start + (length bs + k) = omega (arith, size) in
          ap (λ (rs : List Region). byte_in (placed_from start rs) (data_address before + k)) (newest_more writable bs before i after quiet)
          ∙ first_region writable (filled all) behind_it start (data_address before + k)
          ∙ ap (λ (o : Option ℕ). or_else o (byte_in (placed_from (start + 4096 * pages_for (length (filled all))) behind_it) (data_address before + k)))
          (ap (byte_of_region (there start (filled all))) place ∙ own_byte start (length bs + k) (filled all) ∙ inside)

    -- one that begins one ends it
    module _ (number : ℕ) (labels : List (List ℕ)) (bytes : List ℕ) (tokens : List Token) (right : Bool) where
      abbrev new : Item
      new = item number labels bytes tokens (Ok (statements.Directive (directives.Region right)))

      begins : (a : ℕ) (writable : Bool) (after : List Item) (b : ℕ) → another_region before ≡ [] → Unfilled before → region_start (new ∷ before) ≤ a →
          Gives a right [] (new ∷ before) after b → Gives a writable bs before (new ∷ after) b
      begins a writable after b clean unfilled past h =
          let xs = filled (bs ++ []) in
          let rs = newest right [] (new ∷ before) after in
          let start = region_start before in
          let pages : pages_for (length xs) ≡ pages_for (data_offset before) =
          ap (λ (ys : List ℕ). pages_for (length (filled ys))) (append-nil bs) ∙ filled_pages bs ∙ ap pages_for (sym size) in
          let next : start + 4096 * pages_for (length xs) ≡ region_start (new ∷ before) = ap (λ (n : ℕ). start + 4096 * n) pages ∙ sym (begins_behind before clean unfilled) in
          let fits = filled_fits (bs ++ []) in
          let kept = filled_pages (bs ++ []) in
          first_region writable xs rs start a
          ∙ ap (λ (o : Option ℕ). or_else o (byte_in (placed_from (start + 4096 * pages_for (length xs)) rs) a)) (no_byte start a xs (omega (arith, fits, kept, next, past)))
          ∙ ap (λ (s : ℕ). byte_in (placed_from s rs) a) next
          ∙ h

  -- ---- line by line

  pub line_clean : (before : List Item) (i : Item) (after : List Item) → faults_at values before i after ≡ [] → line_rules values before i i.said ≡ []
  line_clean before i after mine =
      nil_left (line_rules values before i i.said) _ (nil_right (when (nat_lt 1000000 i.number) causes.Limit) _ (nil_map (at i.number) _ mine))

  lies : (front before : List Item) (bs : List ℕ) (writable : Bool) (i : Item) (after : List Item) (k b : ℕ) → data_offset before ≡ length bs → length bs ≤ section_room → Unfilled before
      → AllByRecursion ItemCounts (front ++ i ∷ after) → each (faults_at values) before (front ++ i ∷ after) ≡ [] → slice_get (bytes_at values (behind before front) i []) k ≡ Some b
      → Gives (data_address (behind before front) + k) writable bs before (front ++ i ∷ after) b
  lies [] before bs writable i after k b size room unfilled says clean h = by (is_region i) refl
    where
      by : (t : Bool) → is_region i ≡ t → Gives (data_address before + k) writable bs before (i ∷ after) b
      by true e = absurd (let none = no_bytes values before i i.said e in let g : None ≡ Some b = sym (ap (λ (ys : List ℕ). slice_get ys k) none) ∙ h in cc)
      by false e = own_lies before bs size room i says.0
          (line_clean before i after (nil_left (faults_at values before i after) (each (faults_at values) (i ∷ before) after) clean)) e writable after k b h
  lies (j ∷ front) before bs writable i after k b size room unfilled says clean h = by (lies front (j ∷ before)) (is_region j) refl
    where
      mine : line_rules values before j j.said ≡ []
      mine = line_clean before j (front ++ i ∷ after) (nil_left (faults_at values before j (front ++ i ∷ after)) (each (faults_at values) (j ∷ before) (front ++ i ∷ after)) clean)

      later : each (faults_at values) (j ∷ before) (front ++ i ∷ after) ≡ []
      later = nil_right (faults_at values before j (front ++ i ∷ after)) (each (faults_at values) (j ∷ before) (front ++ i ∷ after)) clean

      past : region_start (j ∷ before) ≤ (data_address (behind (j ∷ before) front) + k)
      past = let r = rises front (j ∷ before) in omega (arith, r)

      by : ((cs : List ℕ) (right : Bool) (i : Item) (after : List Item) (k b : ℕ) → data_offset (j ∷ before) ≡ length cs → length cs ≤ section_room →
          Unfilled (j ∷ before) → AllByRecursion ItemCounts (front ++ i ∷ after)
          → each (faults_at values) (j ∷ before) (front ++ i ∷ after) ≡ [] → slice_get (bytes_at values (behind (j ∷ before) front) i []) k ≡ Some b
          → Gives (data_address (behind (j ∷ before) front) + k) right cs (j ∷ before) (front ++ i ∷ after) b)
          → (t : Bool) → is_region j ≡ t → Gives (data_address (behind (j ∷ before) front) + k) writable bs before (j ∷ (front ++ i ∷ after)) b
      by more true e =
          let region = which_region j j.said e in
          let lain : Gives (data_address (behind (j ∷ before) front) + k) region.0 [] (j ∷ before) (front ++ i ∷ after) b =
          more [] region.0 i after k b (no_size before j e) (omega arith) (unfilled_more values before j mine unfilled) says.1 later h in
          let it = λ (s : Said). item j.number j.labels j.bytes j.tokens s in
          subst (λ (s : Said). line_rules values before (it s) s ≡ [] → Unfilled before →
          region_start (it s ∷ before) ≤ (data_address (behind (j ∷ before) front) + k) →
          Gives (data_address (behind (j ∷ before) front) + k) region.0 [] (it s ∷ before) (front ++ i ∷ after) b →
          Gives (data_address (behind (j ∷ before) front) + k) writable bs before (it s ∷ (front ++ i ∷ after)) b) (sym region.1)
          (begins before bs size room j.number j.labels j.bytes j.tokens region.0 (data_address (behind (j ∷ before) front) + k) writable (front ++ i ∷ after) b) mine unfilled past lain
      by more false e =
          goes_on before bs size room j says.0 mine e (data_address (behind (j ∷ before) front) + k) writable (front ++ i ∷ after) b
          (more (bs ++ bytes_at values before j []) writable i after k b (size_more before bs size room j says.0 mine e)
          (room_more before bs size room j says.0 mine e) (unfilled_more values before j mine unfilled) says.1 later h)

  -- the faults of a line in its place
  pub clean_at : (front before : List Item) (i : Item) (after : List Item) → each (faults_at values) before (front ++ i ∷ after) ≡ [] → faults_at values (behind before front) i after ≡ []
  clean_at [] before i after clean = nil_left (faults_at values before i after) (each (faults_at values) (i ∷ before) after) clean
  clean_at (j ∷ front) before i after clean =
      clean_at front (j ∷ before) i after
      (nil_right (faults_at values before j (front ++ i ∷ after)) (each (faults_at values) (j ∷ before) (front ++ i ∷ after)) clean)

-- ---- the law

module _ (source : List ℕ) (parts : Parts) (means : source_image source ≡ Ok parts) where
  abbrev items : List Item
  items = items_of source

  abbrev pub worth : Values
  worth = values_of items

  kept : (least_of (faults_of items) ≡ None) × (image_of items ≡ parts)
  unfolding source_image
  kept = judged_parts (length items + 1) (least_of (faults_of items)) (image_of items) parts means

  clean_lines : each (faults_at worth) [] items ≡ []
  clean_lines = nil_right (duplicates [] (all_labels items)) (each (faults_at worth) [] items) (none_told (faults_of items) kept.0)

  their_regions : newest worth true [] [] items ≡ parts.regions
  unfolding image_of
  their_regions = ap (λ (p : Parts). p.regions) kept.1

  module _ (front after : List Item) (i : Item) (lines : items ≡ front ++ i ∷ after) where
    pub clean_here : each (faults_at worth) [] (front ++ i ∷ after) ≡ []
    clean_here = subst (λ (xs : List Item). each (faults_at worth) [] xs ≡ []) lines clean_lines

    pub counts_here : AllByRecursion ItemCounts (front ++ i ∷ after)
    counts_here = subst (λ (xs : List Item). AllByRecursion ItemCounts xs) lines (items_count source)

    pub regions_here : newest worth true [] [] (front ++ i ∷ after) ≡ parts.regions
    regions_here = ap (newest worth true [] []) (sym lines) ∙ their_regions

    label_here : (k b : ℕ) → slice_get (bytes_at worth (behind [] front) i after) k ≡ Some b → label_address (behind [] front) ≡ data_address (behind [] front)
    label_here k b h =
        ap (address_in_section (behind [] front))
        (in_data worth (behind [] front) i.number i.labels i.bytes i.tokens i.said k b
        (line_clean worth (behind [] front) i after (clean_at worth front [] i after clean_here)) h)

    lie_here : (k b : ℕ) → slice_get (bytes_at worth (behind [] front) i after) k ≡ Some b → data_at parts.regions (label_address (behind [] front) + k) ≡ Some b
    lie_here k b h =
        ap (λ (a : ℕ). data_at parts.regions (a + k)) (label_here k b h)
        ∙ ap (λ (rs : List Region). data_at rs (data_address (behind [] front) + k)) (sym regions_here)
        ∙ lies worth front [] [] true i after k b refl (omega arith) (λ _ _. refl) counts_here clean_here h

pub data_lie : DataLieWhereLabelsSay
data_lie source parts means front after i k b lines h = lie_here source parts means front after i lines k b h
