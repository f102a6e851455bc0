-- The starts of blocks so far, with one more word.
use Rattle.std.proofs.Common.{◌≡◌, ◌≢◌, ℕ, zero, suc, ◌+◌, ◌-◌, ◌/◌, ◌<◌, ◌≤◌, ◌⊎◌, inl, inr, Bool, true, false}
use Rattle.std.proofs.Common.{List, [], ◌∷◌, ◌++◌, length, Ok, get_or, slice_index, refl, sym, ap, ◌∙◌, subst, arith}
use Rattle.std.specs.Prelude.{◌==◌, slice_get, if◌then◌else◌}
use Rattle.std.proofs.lemmas.Bool.Decides.{nat_tests}
use Rattle.std.proofs.lemmas.List.{get_or_append_left, get_or-append-add, length-append}
use Rattle.std.proofs.lemmas.Option.{slice_get_past}
use Rattle.sbx_image.specs.Order.{AreInOrder, IsBlock, IsFunction, address_of, address_or_end, block_at, code_end, entry_or_end, function_at, function_end, or_block, or_function}
use Rattle.sbx_parts.specs.declared.parts.Function.{Function}
use Rattle.sbx_image.specs.Parts.{Parts}
use Rattle.sbx_image.specs.Rules.{code_start, parts_keep}
use Rattle.sbx_parts.proofs.Ordered.{in_order}
use Rattle.native_ends.specs.Translations.{Begins, LiesIn}
use Rattle.native_flow.specs.Labelling.{AreStarts, IsRow, Rises, begins_at, block_or_end, function_or_end, label_at, word_address}
use Rattle.native_flow.proofs.Rows.{begins_word, begun, lies, not_begun, row_of, there_is}

-- ---- one more at the end

one_more : (l : List ℕ) (x : ℕ) → length (l ++ x ∷ []) ≡ length l + 1
one_more l x = length-append l (x ∷ [])

read_front : (l : List ℕ) (x i : ℕ) → i < length l → slice_index (l ++ x ∷ []) i ≡ slice_index l i
read_front l x i less = get_or_append_left l (x ∷ []) 0 i less

read_last : (l : List ℕ) (x i : ℕ) → i ≡ length l → slice_index (l ++ x ∷ []) i ≡ x
read_last l x i same = let e : i ≡ length l + 0 = omega (arith, same) in ap (slice_index (l ++ x ∷ [])) e ∙ get_or-append-add l (x ∷ []) 0 0

-- what holds of each holds of each with one more
each_more : (P : ℕ → ℕ → Type 0) (l m : List ℕ) (x y : ℕ) → length m ≡ length l → ((i : ℕ) → i < length l → P (slice_index m i) (slice_index l i)) → P y x →
    (i : ℕ) → i < length (l ++ x ∷ []) → P (slice_index (m ++ y ∷ []) i) (slice_index (l ++ x ∷ []) i)
each_more P l m x y same each last i less = by (search arith)
  where
    size : length (l ++ x ∷ []) ≡ length l + 1
    size = one_more l x

    by : (i < length l) ⊎ (length l ≤ i) → P (slice_index (m ++ y ∷ []) i) (slice_index (l ++ x ∷ []) i)
    by (inl low) =
        subst (λ b. P (slice_index (m ++ y ∷ []) i) b) (sym (read_front l x i low))
        (subst (λ a. P a (slice_index l i)) (sym (read_front m y i (omega (arith, same, low)))) (each i low))
    by (inr high) =
        let at : i ≡ length l = omega (arith, size, less, high) in
        subst (λ b. P (slice_index (m ++ y ∷ []) i) b) (sym (read_last l x i at)) (subst (λ a. P a x) (sym (read_last m y i (omega (arith, at, same)))) last)

-- ---- a word more

module _ (parts : Parts) (kept : parts_keep parts ≡ Ok tt) (f b first last k : ℕ) (is : IsBlock parts f b) (row : IsRow parts f b first last) (from : first ≤ k) (to : k < last)
    (starts owners : List ℕ) (so_far : AreStarts parts (word_address k) starts owners) where
  order : AreInOrder parts
  order = in_order parts kept

  -- none begins between two words
  next_or : (a : ℕ) → Begins parts a → a < word_address (k + 1) → (a < word_address k) ⊎ (a ≡ word_address k)
  next_or a begins less =
      let w = begins_word parts order a begins in
      let at = w.2 in
      by (search arith) at
    where
      by : (a < word_address k) ⊎ (word_address k ≤ a) → a ≡ word_address (begins_word parts order a begins).0 → (a < word_address k) ⊎ (a ≡ word_address k)
      by (inl low) at = inl low
      by (inr high) at = inr (omega (arith, high, less, at))

  all_more : (a : ℕ) → (a < word_address k) ⊎ (a ≡ word_address k) → Begins parts a →
      (i : ℕ) × (i < length (starts ++ word_address k ∷ [])) × (slice_index (starts ++ word_address k ∷ []) i ≡ a)
  all_more a (inl low) begins =
      let size = one_more starts (word_address k) in
      let at = so_far.all a begins low in
      let less = at.1 in
      (at.0, omega (arith, size, less), read_front starts (word_address k) at.0 less ∙ at.2)
  all_more a (inr same) begins =
      let size = one_more starts (word_address k) in
      (length starts, omega (arith, size), read_last starts (word_address k) (length starts) refl ∙ sym same)

  rises : (i j : ℕ) → i < j → j < length (starts ++ word_address k ∷ []) → slice_index (starts ++ word_address k ∷ []) i < slice_index (starts ++ word_address k ∷ []) j
  rises i j before less = by (search arith)
    where
      size : length (starts ++ word_address k ∷ []) ≡ length starts + 1
      size = one_more starts (word_address k)

      by : (j < length starts) ⊎ (length starts ≤ j) → slice_index (starts ++ word_address k ∷ []) i < slice_index (starts ++ word_address k ∷ []) j
      by (inl low) =
          let x = read_front starts (word_address k) i (omega (arith, low, before)) in
          let y = read_front starts (word_address k) j low in
          let up = so_far.ascending i j before low in
          omega (arith, x, y, up)
      by (inr high) =
          let at : j ≡ length starts = omega (arith, high, less, size) in
          let low : i < length starts = omega (arith, at, before) in
          let x = read_front starts (word_address k) i low in
          let y = read_last starts (word_address k) j at in
          let up = so_far.below i low in
          omega (arith, x, y, up)

  pub one_starts : begins_at parts.words first k ≡ true → AreStarts parts (word_address (k + 1)) (starts ++ word_address k ∷ []) (owners ++ f ∷ [])
  one_starts test =
      let begins = begun parts order kept f b first last k is row from to test in
      let in_function = lies parts order kept f b first last k is row from to in
      let size = one_more starts (word_address k) in
      let other_size = one_more owners f in
      let same = so_far.many in
      let few = so_far.few in
      record {
        many = omega (arith, size, other_size, same);
        ascending = rises;
        below = each_more (λ _ a. a < word_address (k + 1)) starts starts (word_address k) (word_address k) refl (λ i less. let h = so_far.below i less in omega (arith, h)) (omega arith);
        begin = each_more (λ _ a. Begins parts a) starts starts (word_address k) (word_address k) refl so_far.begin begins;
        owned = each_more (LiesIn parts) starts owners (word_address k) f same so_far.owned in_function;
        all = λ a is_start less. all_more a (next_or a is_start less) is_start;
        few = omega (arith, size, few);
      }

  none_by : (a : ℕ) → begins_at parts.words first k ≡ false → (a < word_address k) ⊎ (a ≡ word_address k) → Begins parts a → a < word_address k
  none_by a test (inl low) begins = low
  none_by a test (inr same) begins = absurd (not_begun parts order kept f b first last k is row from to test (subst (Begins parts) same begins))

  pub none_starts : begins_at parts.words first k ≡ false → AreStarts parts (word_address (k + 1)) starts owners
  none_starts test =
      let few = so_far.few in
      record {
        many = so_far.many;
        ascending = so_far.ascending;
        below = λ i less. let h = so_far.below i less in omega (arith, h);
        begin = so_far.begin;
        owned = so_far.owned;
        all = λ a begins less. so_far.all a begins (none_by a test (next_or a begins less) begins);
        few = omega (arith, few);
      }

-- ---- the first word and the last

pub no_starts : (parts : Parts) → parts_keep parts ≡ Ok tt → AreStarts parts (function_or_end parts 0) [] []
no_starts parts kept =
    let order = in_order parts kept in
    let entry : function_or_end parts 0 ≡ code_start = first_entry order in
    record {
      many = refl;
      ascending = λ i j before less. absurd (omega (arith, less));
      below = λ i less. absurd (omega (arith, less));
      begin = λ i less. absurd (omega (arith, less));
      owned = λ i less. absurd (omega (arith, less));
      all = λ a begins less. let w = begins_word parts order a begins in let at = w.2 in absurd (omega (arith, at, less, entry));
      few = omega (arith, entry);
    }
  where
    first_entry : AreInOrder parts → function_or_end parts 0 ≡ code_start
    first_entry order =
        let is = (order.entries 0 order.first.0.0) in
        let there = there_is parts.functions 0 order.first.0.0 in
        let same : (function_at parts 0).entry ≡ there.0.entry = ap (λ o. (or_function o).entry) there.1 in
        ap (entry_or_end (code_end parts)) there.1 ∙ sym same ∙ is.1 ∙ order.first.1

pub at_bound : (parts : Parts) (one other : ℕ) (starts owners : List ℕ) → one ≡ other → AreStarts parts one starts owners → AreStarts parts other starts owners
at_bound parts one other starts owners same h = subst (λ x. AreStarts parts x starts owners) same h

-- a function begins with its first block
pub first_block : (parts : Parts) (f : ℕ) → parts_keep parts ≡ Ok tt → IsFunction parts f → function_or_end parts f ≡ block_or_end parts f 0
unfolding address_of
first_block parts f kept is =
    let order = in_order parts kept in
    let h = order.entries f is in
    let entry = h.1 in
    let there = there_is parts.functions f is in
    let block = there_is (function_at parts f).blocks 0 h.0.1 in
    let same : (function_at parts f).entry ≡ there.0.entry = ap (λ o. (or_function o).entry) there.1 in
    let at : (block_at parts f 0).address ≡ block.0.address = ap (λ o. (or_block o).address) block.1 in
    ap (entry_or_end (code_end parts)) there.1 ∙ omega (arith, same, at, entry) ∙ sym (ap (address_or_end (function_end parts f)) block.1)

pub last_block : (parts : Parts) (f n : ℕ) → length (function_at parts f).blocks ≤ n → block_or_end parts f n ≡ function_or_end parts (f + 1)
last_block parts f n past = ap (address_or_end (function_end parts f)) (slice_get_past (function_at parts f).blocks n past)

pub last_function : (parts : Parts) (n : ℕ) → length parts.functions ≤ n → function_or_end parts n ≡ code_end parts
last_function parts n past = ap (entry_or_end (code_end parts)) (slice_get_past parts.functions n past)

pub a_block : (parts : Parts) (f b : ℕ) → b < length (function_at parts f).blocks → block_or_end parts f b ≡ (block_at parts f b).address
a_block parts f b less =
    let there = there_is (function_at parts f).blocks b less in
    ap (address_or_end (function_end parts f)) there.1 ∙ sym (ap (λ o. (or_block o).address) there.1)

-- ---- the label of an address

pub label_there : (starts : List ℕ) (a i : ℕ) → ((x y : ℕ) → x < y → y < length starts → slice_index starts x < slice_index starts y) → i < length starts → slice_index starts i ≡ a →
    label_at starts a ≡ i + 1
label_there [] a i up less at = absurd (omega (arith, less))
label_there (start ∷ rest) a zero up less at = let test : (start == a) ≡ true = grind (arith, nat_tests) in ap (λ (b : Bool). if b then 1 else label_at rest a + 1) test
label_there (start ∷ rest) a (suc i) up less at =
    let rise = up 0 (suc i) (omega arith) less in
    let test : (start == a) ≡ false = grind (arith, nat_tests) in
    let before = label_there rest a i (λ x y below within. up (suc x) (suc y) (omega (arith, below)) (omega (arith, within))) (omega (arith, less)) at in
    ap (λ (b : Bool). if b then 1 else label_at rest a + 1) test ∙ omega (arith, before)

pub label_nowhere : (starts : List ℕ) (a : ℕ) → ((i : ℕ) → i < length starts → slice_index starts i ≢ a) → label_at starts a ≡ length starts + 1
label_nowhere [] a none = refl
label_nowhere (start ∷ rest) a none =
    let first = none 0 (omega arith) in
    let test : (start == a) ≡ false = grind (arith, nat_tests) in
    let before = label_nowhere rest a (λ i less. none (suc i) (omega (arith, less))) in
    ap (λ (b : Bool). if b then 1 else label_at rest a + 1) test ∙ omega (arith, before)

pub function_is : (fs : List Function) (f : ℕ) (x : Function) → f < length fs → x ≡ get_or fs f x → or_function (slice_get fs f) ≡ x
function_is [] f x less at = absurd (omega (arith, less))
function_is (y ∷ fs) zero x less at = sym at
function_is (y ∷ fs) (suc f) x less at = function_is fs f x (omega (arith, less)) at

pub row_is : (parts : Parts) (f b first last start end : ℕ) → parts_keep parts ≡ Ok tt → IsBlock parts f b → start ≡ block_or_end parts f b → end ≡ block_or_end parts f (b + 1) →
    first ≡ (start - code_start) / 4 → last ≡ (end - code_start) / 4 → IsRow parts f b first last
row_is parts f b first last start end kept is begins ends a z =
    subst (λ x. IsRow parts f b x last) (sym (a ∙ ap (λ x. (x - code_start) / 4) (begins ∙ a_block parts f b is.1)))
    (subst (λ x. IsRow parts f b ((((block_at parts f b).address) - code_start) / 4) x) (sym (z ∙ ap (λ x. (x - code_start) / 4) ends)) (row_of parts (in_order parts kept) f b is))

pub few_words : (parts : Parts) → parts_keep parts ≡ Ok tt → length parts.words ≤ 65536
few_words parts kept = let small = (in_order parts kept).small in omega (arith, small)

pub row_from : (parts : Parts) (f b start : ℕ) → parts_keep parts ≡ Ok tt → IsBlock parts f b → start ≡ block_or_end parts f b → code_start ≤ start
row_from parts f b start kept is begins =
    let row = row_of parts (in_order parts kept) f b is in
    let at = row.begins in
    let same = a_block parts f b is.1 in
    omega (arith, begins, same, at)

pub row_to : (parts : Parts) (f b end : ℕ) → parts_keep parts ≡ Ok tt → IsBlock parts f b → end ≡ block_or_end parts f (b + 1) → code_start ≤ end
row_to parts f b end kept is ends = let row = row_of parts (in_order parts kept) f b is in let at = row.ends in omega (arith, ends, at)

-- what a search says of addresses in order
pub found_label : (starts : List ℕ) (a i n : ℕ) → Rises starts → (i < length starts) × (get_or starts i 0 ≡ a) → n ≡ i + 1 → n ≡ label_at starts a
found_label starts a i n up there is = is ∙ sym (label_there starts a i up there.0 there.1)

pub up_to : (starts : List ℕ) → Rises starts → (i j : ℕ) → i ≤ j → j < length starts → get_or starts i 0 ≤ get_or starts j 0
up_to starts up i j le less = by (search arith)
  where
    by : (i < j) ⊎ (j ≤ i) → get_or starts i 0 ≤ get_or starts j 0
    by (inl low) = let h = up i j low less in omega (arith, h)
    by (inr high) = let same : i ≡ j = omega (arith, le, high) in let e : get_or starts i 0 ≡ get_or starts j 0 = ap (λ k. get_or starts k 0) same in omega (arith, e)

pub lost_label : (starts : List ℕ) (a i n : ℕ) → (i ≤ length starts) × ((k : ℕ) → k < i → get_or starts k 0 < a) × ((k : ℕ) → i ≤ k → k < length starts → a < get_or starts k 0) →
    n ≡ length starts + 1 → n ≡ label_at starts a
lost_label starts a i n parted is = is ∙ sym (label_nowhere starts a (λ k less. other k less (search arith)))
  where
    other : (k : ℕ) → k < length starts → (k < i) ⊎ (i ≤ k) → slice_index starts k ≢ a
    other k less (inl low) = let h = parted.1 k low in λ e. omega (arith, h, e)
    other k less (inr high) = let h = parted.2 k high less in λ e. omega (arith, h, e)

-- the same lists
pub starts_as : (parts : Parts) (bound : ℕ) (starts owners new_starts new_owners : List ℕ) → new_starts ≡ starts → new_owners ≡ owners → AreStarts parts bound starts owners →
    AreStarts parts bound new_starts new_owners
starts_as parts bound starts owners new_starts new_owners a b h =
    subst (λ x. AreStarts parts bound x new_owners) (sym a) (subst (λ y. AreStarts parts bound starts y) (sym b) h)

pub few_starts : (parts : Parts) (starts owners : List ℕ) → parts_keep parts ≡ Ok tt → AreStarts parts (code_end parts) starts owners → length starts ≤ 65536
few_starts parts starts owners kept h = let few = h.few in let words = few_words parts kept in omega (arith, few, words)
