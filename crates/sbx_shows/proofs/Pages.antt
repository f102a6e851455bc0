-- The pages that RAM shows as used stay the image's own over marks.
use Rattle.std.proofs.Common.{◌≡◌, ◌≢◌, ℕ, ◌+◌, ◌-◌, ◌*◌, ◌/◌, ◌%◌, ◌^◌, ◌<◌, ◌≤◌, ◌⊎◌, inl, inr, Bool, true, false, cond, List, length, Option, Some, None, refl, sym, ap, ◌∙◌, arith}
use Rattle.std.specs.Prelude.{◌==◌, ◌&&◌, ◌||◌, nat_le, nat_lt, if◌then◌else◌}
use Rattle.std.proofs.lemmas.Bool.Decides.{nat_tests}
use Rattle.v8_map.specs.declared.TheConstants.{CODE_TABLE, CONTEXT_TABLE, SYSTEM_TABLE}
use Rattle.v8_core.specs.Ram.{entry_of}
use Rattle.v8_core.specs.Paths.{marked, marked_ram}
use Rattle.v8_mmu.proofs.RamLemmas.{entry_is}
use Rattle.v8_mmu.proofs.RamMore.{entry_elsewhere, marked_is, marks as marks_of}
use Rattle.v8_loaded.specs.Layout.{Pages, IsLoaded, code_entry, data_count, data_entry, stack_entry, system_entry, unmarked}
use Rattle.v8_layout.specs.Tables.{table_word}
use Rattle.v8_layout.proofs.Entries.{acc_small, data_entry_word}
use Rattle.v8_layout.proofs.Marks.{Markable, code_markable, sides}
use Rattle.v8_routines.specs.Services.{code_marked, device_marked, table_marked, vector_marked}
use Rattle.v8_board.specs.Start.{IsPlaced, at_most, pages_of}
use Rattle.v8_board.specs.Marks.{bit_of}
use Rattle.v8_board.proofs.Placed.{pages_few}
use Rattle.sbx_flat.specs.Parts.{Parts}
use Rattle.sbx_flat.specs.OwnPages.{is_own_code_page, is_own_data_page, is_own_page}
use Rattle.sbx_shows.specs.Marks.{OwnMarks}

-- ---- where no page is marked yet

test_high : (k a : ℕ) → a ≤ k → nat_lt k a ≡ false
test_high k a h = grind (arith, nat_tests)

not_first : (k : ℕ) → 0 < k → (k == 0) ≡ false
not_first k h = grind (arith, nat_tests)

-- an entry whose bits 5 and 6 are 0, by cases
plain_choice : (b : Bool) (x y : ℕ) → x % 128 < 32 → y % 128 < 32 → cond b x y % 128 < 32
plain_choice true x y a c = a
plain_choice false x y a c = c

plain_system : (i : ℕ) → system_entry i % 128 < 32
plain_system i =
    plain_choice (i == 0) 0x1A _ (omega arith) (plain_choice (i == 1) 0x11A _ (omega arith) (plain_choice (i == 16) 0x1000001E 0 (omega arith) (omega arith)))

-- the tables of pages as they are written
plain_word : (g : Pages) (k : ℕ) → table_word g (640 + k) % 128 < 32
unfolding table_word
plain_word g k =
    let j = 640 + k in
    rw (not_first (640 + k) (omega arith))
    (rw (test_high (640 + k) 256 (omega arith))
    (rw (test_high (640 + k) 512 (omega arith)) (rw (test_high (640 + k) 576 (omega arith)) (rw (test_high (640 + k) 640 (omega arith))
    (plain_choice (nat_lt j 704) (code_entry g (j - 640)) _ (plain_choice (nat_lt (j - 640) g.code_count) (0x1012 + 0x100 * (j - 640)) 0 (omega arith) (omega arith))
    (plain_choice (nat_lt j 768) (data_entry g (j - 704)) _
    (plain_choice (nat_lt (j - 704) (data_count g)) (data_entry_word g (j - 704)) 0 (let acc = acc_small g (j - 704) in omega arith) (omega arith))
    (plain_choice (nat_lt j 832) (stack_entry g (j - 768)) (system_entry (j - 832))
    (plain_choice (nat_le (64 - g.stack_count) (j - 768) && nat_lt (j - 768) 64) (0x9006 + 0x100 * (j - 768 - 48)) 0 (omega arith) (omega arith))
    (plain_system (j - 832)))))))))

no_bit : (o : Option ℕ) (w low : ℕ) → o ≡ Some w → w / 2 ^ low % 2 ≡ 0 → bit_of o low ≡ 1 → ⊥
no_bit o w low there none one = let both : w / 2 ^ low % 2 ≡ 1 = sym (ap (λ x. bit_of x low) there) ∙ one in absurd (omega arith)

-- an image that has been placed has no page with R or M
pub placed_own : (n : ℕ) (parts : Parts) (old new : List ℕ) → IsPlaced n parts old new → OwnMarks parts new
placed_own n parts old new placed =
    let there : (k : ℕ) → k < 192 → entry_of new (CODE_TABLE + 4 * k) ≡ Some (table_word (pages_of parts) (640 + k)) =
    λ (k : ℕ) (less : k < 192). let same : CODE_TABLE + 4 * k ≡ CONTEXT_TABLE + 4 * (640 + k) = omega arith in ap (entry_of new) same ∙ placed.tables (640 + k) (omega arith) in
    record {
      referenced = λ k less is. let plain = plain_word (pages_of parts) k in
          absurd (no_bit (entry_of new (CODE_TABLE + 4 * k)) (table_word (pages_of parts) (640 + k)) 5 (there k less) (omega arith) is);
      modified = λ k less is. let plain = plain_word (pages_of parts) k in
          absurd (no_bit (entry_of new (CODE_TABLE + 4 * k)) (table_word (pages_of parts) (640 + k)) 6 (there k less) (omega arith) is);
    }

-- ---- marks

-- a data page of the image's own
pub owned : (parts : Parts) (page : ℕ) → is_own_data_page parts false page ≡ true → is_own_page parts page ≡ true
owned parts page e = either (is_own_code_page parts page) (is_own_data_page parts false page) e
  where
    either : (c d : Bool) → d ≡ true → (c || d) ≡ true
    either true d f = refl
    either false d f = f

-- a mark leaves the other entries
pub mark_leaves : (ram : List ℕ) (place p : ℕ) (store : Bool) → (p + 4 ≤ place) ⊎ (place + 4 ≤ p) → entry_of (marked_ram ram place store) p ≡ entry_of ram p
unfolding marked_ram
mark_leaves ram place p store apart = by_entry (entry_of ram place) refl
  where
    by_entry : (o : Option ℕ) → entry_of ram place ≡ o → entry_of (marked_ram ram place store) p ≡ entry_of ram p
    by_entry None e = rw e refl
    by_entry (Some w) e = ap (λ r. entry_of r p) (marked_is ram place w store e) ∙ entry_elsewhere ram place p (marked w store) (entry_is ram place w e).0 apart

-- RAM whose entries of pages are as before
pub own_by : (parts : Parts) (old new : List ℕ) → ((k : ℕ) → k < 192 → entry_of new (CODE_TABLE + 4 * k) ≡ entry_of old (CODE_TABLE + 4 * k)) → OwnMarks parts old → OwnMarks parts new
own_by parts old new same own =
    record {
      referenced = λ k less is. own.referenced k less (ap (λ o. bit_of o 5) (sym (same k less)) ∙ is);
      modified = λ k less is. own.modified k less (ap (λ o. bit_of o 6) (sym (same k less)) ∙ is);
    }

-- a mark above the tables of code, data and stack
pub system_own : (parts : Parts) (ram : List ℕ) (place : ℕ) (store : Bool) → SYSTEM_TABLE ≤ place → OwnMarks parts ram → OwnMarks parts (marked_ram ram place store)
system_own parts ram place store above own = own_by parts ram (marked_ram ram place store) (λ k less. mark_leaves ram place (CODE_TABLE + 4 * k) store (inl (omega arith))) own

pub table_own : (parts : Parts) (ram : List ℕ) → OwnMarks parts ram → OwnMarks parts (table_marked ram)
table_own parts ram own = system_own parts ram SYSTEM_TABLE false (omega arith) own

pub device_own : (parts : Parts) (ram : List ℕ) (store : Bool) → OwnMarks parts ram → OwnMarks parts (device_marked store ram)
device_own parts ram store own = system_own parts ram 0x2D40 store (omega arith) own

-- an entry with or without marks has 32 bits where the one without has 31
entry_fits : (w t : ℕ) → unmarked w ≡ t → t < 2 ^ 31 → w < 2 ^ 32
entry_fits w t is small = by_kind (w % 4 == 2) refl
  where
    by_kind : (b : Bool) → (w % 4 == 2) ≡ b → w < 2 ^ 32
    by_kind true e = let sum : w / 128 * 128 + w % 32 ≡ t = rw e at is in omega arith
    by_kind false e = let same : w ≡ t = rw e at is in omega arith

-- M of an entry that a store or another access marks
modified_by : (parts : Parts) (page w v : ℕ) (store : Bool) → v ≡ (if store then 1 else w / 2 ^ 6 % 2) →
    (store ≡ true → is_own_data_page parts true page ≡ true) → (w / 2 ^ 6 % 2 ≡ 1 → is_own_data_page parts true page ≡ true) → v ≡ 1 →
    is_own_data_page parts true page ≡ true
modified_by parts page w v true is stored before one = stored refl
modified_by parts page w v false is stored before one = before (sym is ∙ one)

-- A mark on the entry of an own page, for a store that of an own data page that may be written, or of no page of code, data or stack.
pub mark_own : (parts : Parts) (ram : List ℕ) (place t : ℕ) (store : Bool) → Markable ram place t →
    ((k : ℕ) → k < 192 → place ≡ CODE_TABLE + 4 * k → is_own_page parts (0x40 + k) ≡ true) →
    ((k : ℕ) → k < 192 → place ≡ CODE_TABLE + 4 * k → store ≡ true → is_own_data_page parts true (0x40 + k) ≡ true) →
    OwnMarks parts ram → OwnMarks parts (marked_ram ram place store)
mark_own parts ram place t store can is_own is_own_data own =
    let w = can.entry.word in
    let m = marks_of ram place w store can.entry.there (entry_fits w t can.entry.is can.small) in
    let elsewhere : (k : ℕ) → place ≢ CODE_TABLE + 4 * k → entry_of (marked_ram ram place store) (CODE_TABLE + 4 * k) ≡ entry_of ram (CODE_TABLE + 4 * k) =
    λ (k : ℕ) (other : place ≢ CODE_TABLE + 4 * k). mark_leaves ram place (CODE_TABLE + 4 * k) store (sides (CODE_TABLE + 4 * k) place (omega arith) can.aligned (λ e. other (sym e))) in
    record {
      referenced = λ k less is.
          let split : (place ≡ CODE_TABLE + 4 * k) ⊎ (place ≢ CODE_TABLE + 4 * k) = search arith in
          elim split [
            | inl here ↦ is_own k less here
            | inr other ↦ own.referenced k less (ap (λ o. bit_of o 5) (sym (elsewhere k other)) ∙ is)
          ];
      modified = λ k less is.
          let split : (place ≡ CODE_TABLE + 4 * k) ⊎ (place ≢ CODE_TABLE + 4 * k) = search arith in
          elim split [
            | inl here ↦
                let now : bit_of (entry_of (marked_ram ram place store) (CODE_TABLE + 4 * k)) 6 ≡ marked w store / 2 ^ 6 % 2 =
                ap (λ p. bit_of (entry_of (marked_ram ram place store) p) 6) (sym here) ∙ ap (λ o. bit_of o 6) m.entry in
                let was : bit_of (entry_of ram (CODE_TABLE + 4 * k)) 6 ≡ w / 2 ^ 6 % 2 = ap (λ p. bit_of (entry_of ram p) 6) (sym here) ∙ ap (λ o. bit_of o 6) can.entry.there in
                modified_by parts (0x40 + k) w (marked w store / 2 ^ 6 % 2) store m.modified (is_own_data k less here) (λ set. own.modified k less (was ∙ set)) (sym now ∙ is)
            | inr other ↦ own.modified k less (ap (λ o. bit_of o 6) (sym (elsewhere k other)) ∙ is)
          ];
    }

-- ---- turns

at_most_is : (most n : ℕ) → at_most most n ≤ n
at_most_is most n = by_test (nat_le n most) refl
  where
    by_test : (b : Bool) → nat_le n most ≡ b → cond b n most ≤ n
    by_test true e = omega arith
    by_test false e = grind (arith, nat_tests)

-- the code words up to the end of the last code page that is mapped lie in pages with a code word of the image's
own_code : (parts : Parts) (i k : ℕ) → i < 1024 * (pages_of parts).code_count → CODE_TABLE + 4 * (i / 1024) ≡ CODE_TABLE + 4 * k → is_own_page parts (0x40 + k) ≡ true
unfolding pages_of
own_code parts i k within at =
    let fits = at_most_is 64 ((length parts.words + 1023) / 1024) in
    let less : 4096 * k < 4 * length parts.words = omega arith in
    let code : is_own_code_page parts (0x40 + k) ≡ true = grind (arith, nat_tests) in
    ap (λ b. b || is_own_data_page parts false (0x40 + k)) code

-- a fetch of the code word i
pub code_own : (n : ℕ) (parts : Parts) (ram : List ℕ) (i : ℕ) → IsLoaded n (pages_of parts) parts.words ram → i < 1024 * (pages_of parts).code_count →
    OwnMarks parts ram → OwnMarks parts (code_marked i ram)
code_own n parts ram i loaded within own =
    mark_own parts ram (CODE_TABLE + 4 * (i / 1024)) (0x1012 + 0x100 * (i / 1024)) false (code_markable (pages_of parts) ram loaded.tables (pages_few parts) (i / 1024) (omega arith))
    (λ k less at. own_code parts i k within at)
    (λ k less at set. absurd (cc))
    own

-- the call of a service at the code word i, as it ends the run
pub vector_own : (n : ℕ) (parts : Parts) (ram : List ℕ) (i : ℕ) (store : Bool) → IsLoaded n (pages_of parts) parts.words ram →
    i < 1024 * (pages_of parts).code_count → OwnMarks parts ram → OwnMarks parts (vector_marked i store ram)
vector_own n parts ram i store loaded within own =
    device_own parts (table_marked (table_marked (code_marked i ram))) store
    (table_own parts (table_marked (code_marked i ram)) (table_own parts (code_marked i ram) (code_own n parts ram i loaded within own)))

-- and as it comes back
pub served_own : (n : ℕ) (parts : Parts) (ram : List ℕ) (i : ℕ) (store : Bool) → IsLoaded n (pages_of parts) parts.words ram →
    i < 1024 * (pages_of parts).code_count → OwnMarks parts ram → OwnMarks parts (table_marked (table_marked (vector_marked i store ram)))
served_own n parts ram i store loaded within own =
    table_own parts (table_marked (vector_marked i store ram)) (table_own parts (vector_marked i store ram) (vector_own n parts ram i store loaded within own))
