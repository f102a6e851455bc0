-- RAM with everything placed in it.
use Rattle.std.proofs.Common.{◌≡◌, ℕ, ◌+◌, ◌*◌, ◌/◌, ◌<◌, ◌≤◌, ◌⊎◌, inl, inr, Bool, true, false, cond, List, length, slice_index, Some, refl, sym, ap, ◌∙◌, subst, arith}
use Rattle.std.specs.Prelude.{nat_le}
use Rattle.std.proofs.lemmas.List.{length-take, take_all}
use Rattle.std.proofs.lemmas.Bool.Decides.{nat_tests}
use Rattle.sbx_image.specs.Parts.{Parts}
use Rattle.sbx_image.specs.Regions.{laid, page_rights}
use Rattle.v8_core.specs.Ram.{AreBytes, entry_of}
use Rattle.v8_contained.specs.Handlers.{trap_word, handler_word}
use Rattle.v8_contained.specs.Layout.{AreFew, HasTables, IsLoaded, data_count}
use Rattle.v8_contained.specs.Contained.{IsKept}
use Rattle.v8_layout.specs.Laws.{IsMapped}
use Rattle.v8_layout.specs.Tables.{table_word}
use Rattle.v8_layout.proofs.Map.{tables_map}
use Rattle.v8_layout.proofs.Words.{words_make_tables}
use Rattle.v8_contained.specs.Placing.{HasWords, HasBytesOf}
use Rattle.v8_contained.proofs.Stays.{word_kept}
use Rattle.v8_board.specs.Start.{IsPlaced, at_most, contents_of, pages_of}

-- ---- what is below the words or bytes that were placed stays

below_words : (at c p : ℕ) (ws old new : List ℕ) → HasWords at ws c old new → p + 4 ≤ at → entry_of new p ≡ entry_of old p
below_words at c p ws old new h under = word_kept old new p h.size (λ j low high. h.others j (inl (omega arith)))

below_bytes : (at c p : ℕ) (bs old new : List ℕ) → HasBytesOf at bs c old new → p + 4 ≤ at → entry_of new p ≡ entry_of old p
below_bytes at c p bs old new h under = word_kept old new p h.size (λ j low high. h.others j (inl (omega arith)))

-- ---- what was bytes is bytes

words_fit : (at c : ℕ) (ws old new : List ℕ) → HasWords at ws c old new → AreBytes old → AreBytes new
words_fit at c ws old new h bytes p =
    let split : ((p < at) ⊎ (at + 4 * c ≤ p)) ⊎ ((at ≤ p) × (p < at + 4 * c)) = search arith in
    elim split [ inl apart ↦ subst (λ b. b < 256) (sym (h.others p apart)) (bytes p) | inr inside ↦ h.fit p inside.0 inside.1 ]

bytes_fit : (at c : ℕ) (bs old new : List ℕ) → HasBytesOf at bs c old new → AreBytes old → AreBytes new
bytes_fit at c bs old new h bytes p =
    let split : ((p < at) ⊎ (at + c ≤ p)) ⊎ ((at ≤ p) × (p < at + c)) = search arith in
    elim split [ inl apart ↦ subst (λ b. b < 256) (sym (h.others p apart)) (bytes p) | inr inside ↦ h.fit p inside.0 inside.1 ]

-- ---- the pages of an image

most_is : (most n : ℕ) → at_most most n ≤ most
most_is most n = by_test (nat_le n most) refl
  where
    by_test : (b : Bool) → nat_le n most ≡ b → cond b n most ≤ most
    by_test true e = grind (arith, nat_tests)
    by_test false e = omega arith

-- the rights of 64 pages at most are all taken
pub rights_are : (p : Parts) → length (page_rights p.regions) ≤ 64 → (pages_of p).writable ≡ page_rights p.regions
unfolding pages_of
rights_are p few = take_all 64 (page_rights p.regions) few

-- how many pages of data there are
pub data_counted : (p : Parts) → length (page_rights p.regions) ≤ 64 → data_count (pages_of p) ≡ length (page_rights p.regions)
data_counted p few = ap length (rights_are p few)

pub pages_few : (p : Parts) → AreFew (pages_of p)
unfolding pages_of
pages_few p =
    record {
      code = most_is 64 ((length p.words + 1023) / 1024);
      data_pages = (let most = length-take 64 (page_rights p.regions) in omega arith);
      stack = most_is 16 p.stack_pages;
    }

-- ---- one part after the other

pub placed : (n : ℕ) (p : Parts) (cc dc : ℕ) (t h w m0 m1 m2 m3 m4 m5 : List ℕ) →
    (pages_of p).code_count ≡ cc → data_count (pages_of p) ≡ dc → length m5 ≡ 0x100000 →
    ((k : ℕ) → k < 1024 → slice_index t k ≡ trap_word k) → ((k : ℕ) → k < 1024 → slice_index h k ≡ handler_word n k) → ((k : ℕ) → k < 896 → slice_index w k ≡ table_word (pages_of p) k) →
    HasWords 0 t 1024 m0 m1 → HasWords 0x1000 h 1024 m1 m2 → HasWords 0x2000 w 896 m2 m3 → HasWords 0x10000 p.words (1024 * cc) m3 m4 →
    HasBytesOf 0x50000 (laid p.regions) (4096 * dc) m4 m5 → IsPlaced n p m0 m5
placed n p cc dc t h w m0 m1 m2 m3 m4 m5 codes bytes size trap handler tables a b c d e =
    let few = pages_few p in
    let few_code : cc ≤ 64 = (let f = few.code in omega arith) in
    let few_data : dc ≤ 64 = (let f = few.data_pages in omega arith) in
    record {
      size = size;
      trap = λ k less.
          below_bytes 0x50000 (4096 * dc) (4 * k) (laid p.regions) m4 m5 e (omega arith) ∙ below_words 0x10000 (1024 * cc) (4 * k) p.words m3 m4 d (omega arith)
          ∙ below_words 0x2000 896 (4 * k) w m2 m3 c (omega arith) ∙ below_words 0x1000 1024 (4 * k) h m1 m2 b (omega arith)
          ∙ (let sum : 4 * k ≡ 0 + 4 * k = omega arith in ap (entry_of m1) sum) ∙ a.words_are k less ∙ ap Some (trap k less);
      handler = λ k less.
          below_bytes 0x50000 (4096 * dc) (0x1000 + 4 * k) (laid p.regions) m4 m5 e (omega arith) ∙ below_words 0x10000 (1024 * cc) (0x1000 + 4 * k) p.words m3 m4 d (omega arith)
          ∙ below_words 0x2000 896 (0x1000 + 4 * k) w m2 m3 c (omega arith) ∙ b.words_are k less ∙ ap Some (handler k less);
      tables = λ k less.
          below_bytes 0x50000 (4096 * dc) (0x2000 + 4 * k) (laid p.regions) m4 m5 e (omega arith) ∙ below_words 0x10000 (1024 * cc) (0x2000 + 4 * k) p.words m3 m4 d (omega arith)
          ∙ c.words_are k less ∙ ap Some (tables k less);
      code = λ i less. below_bytes 0x50000 (4096 * dc) (0x10000 + 4 * i) (laid p.regions) m4 m5 e (omega arith) ∙ d.words_are i (omega arith);
      bytes = λ i less. e.bytes_are i (omega arith);
      stack = λ i high. e.others i (inr (omega arith)) ∙ d.others i (inr (omega arith)) ∙ c.others i (inr (omega arith)) ∙ b.others i (inr (omega arith)) ∙ a.others i (inr (omega arith));
      fit = λ start.
          bytes_fit 0x50000 (4096 * dc) (laid p.regions) m4 m5 e (words_fit 0x10000 (1024 * cc) p.words m3 m4 d
          (words_fit 0x2000 896 w m2 m3 c (words_fit 0x1000 1024 h m1 m2 b (words_fit 0 1024 t m0 m1 a start))));
    }

-- ---- what was placed is loaded

pub placed_tables : (n : ℕ) (p : Parts) (old new : List ℕ) → IsPlaced n p old new → HasTables (pages_of p) new
placed_tables n p old new h = words_make_tables (pages_of p) new h.size h.tables

pub placed_loaded : (n : ℕ) (p : Parts) (old new : List ℕ) → IsPlaced n p old new → IsLoaded n (pages_of p) p.words new
placed_loaded n p old new h = record { tables = placed_tables n p old new h; trap = h.trap; handler = h.handler; code = h.code }

pub placed_kept : (n : ℕ) (p : Parts) (old new : List ℕ) → IsPlaced n p old new → IsKept n (pages_of p) (contents_of p) new
placed_kept n p old new h = record { loaded = placed_loaded n p old new h; fixed = λ i less no. h.bytes i less }

pub placed_maps : (n : ℕ) (p : Parts) (old new : List ℕ) → IsPlaced n p old new → IsMapped (pages_of p) new
placed_maps n p old new h = tables_map (pages_of p) new (pages_few p) (placed_tables n p old new h)
