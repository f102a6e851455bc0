-- Where the 64 bytes of calls and their slots lie, and that the stack's pages are the image's own.
use Rattle.std.proofs.Common.{◌≡◌, ◌≢◌, ℕ, ◌+◌, ◌-◌, ◌*◌, ◌/◌, ◌%◌, ◌<◌, ◌≤◌, ◌⊎◌, inl, inr, Bool, true, false, refl, List, length, sym, ap, ◌∙◌, subst, arith}
use Rattle.std.specs.Prelude.{◌&&◌, ◌||◌, nat_le, nat_lt, slice_get, if◌then◌else◌}
use Rattle.std.proofs.lemmas.Bool.Decides.{nat_tests}
use Rattle.v8_map.specs.declared.TheConstants.{CODE_TABLE, STACK_LOWEST, STACK_END, STACK_PLACE, SYSTEM_TABLE}
use Rattle.v8_core.specs.Ram.{entry_of}
use Rattle.v8_loaded.specs.Layout.{IsLoaded}
use Rattle.v8_loaded.specs.Areas.{HasRoom, area_of}
use Rattle.v8_loaded.specs.Places.{code_marked, stack_entry_place}
use Rattle.v8_board.specs.Marks.{bit_of}
use Rattle.v8_board.specs.Start.{at_most, pages_of}
use Rattle.sbx_flat.specs.Parts.{Parts}
use Rattle.sbx_flat.specs.Regions.{page_rights}
use Rattle.sbx_flat.specs.Registers.{Registers}
use Rattle.sbx_flat.specs.OwnPages.{is_own_data_page, may_reach}
use Rattle.sbx_shows.specs.Marks.{OwnMarks}
use Rattle.sbx_shows.proofs.Pages.{code_own, owned}
use Rattle.sbx_flat.specs.Calls.{base, depth}
use Rattle.sbx_flat.specs.WellFormed.{IsStacked, IsSlot}
use Rattle.sbx_shows.specs.Shows.{Fits}

pub stack_count : (parts : Parts) → Fits parts → (pages_of parts).stack_count ≡ parts.stack_pages
unfolding pages_of
stack_count parts fits =
    let few = fits.stack in
    let small : nat_le parts.stack_pages 16 ≡ true = grind (arith, nat_tests) in
    ap (λ (b : Bool). if b then parts.stack_pages else 16) small

pub base_up : (pages : ℕ) (file : Registers) (i k : ℕ) → IsStacked pages file → i ≤ k → k < depth file → base file i ≤ base file k
base_up pages file i k st most less =
    let split : (i < k) ⊎ (i ≡ k) = search arith in
    elim split [
      | inl older ↦ let e = st.apart i k older less in omega arith
      | inr same ↦ let e : base file i ≡ base file k = ap (base file) same in omega arith
    ]

-- a slot lies beside the 64 bytes of each call
pub slot_beside : (pages : ℕ) (file : Registers) (i k a : ℕ) → pages ≤ 16 → IsStacked pages file → i < depth file → k < depth file → IsSlot file k a →
    (area_of a + 4 ≤ area_of (base file i)) ⊎ (area_of (base file i) + 64 ≤ area_of a)
slot_beside pages file i k a few st less there o =
    let low = st.low i less in
    let low_k = st.low k there in
    let above = o.low in
    let split : (k < i) ⊎ (i ≤ k) = search arith in
    elim split [
      | inl newer ↦ let e = o.below i newer less in inl (omega arith)
      | inr older ↦ let e = base_up pages file i k st older there in inr (omega arith)
    ]

-- a page of the stack is the image's own, for loads and for stores
pub stack_own : (parts : Parts) (store : Bool) (va : ℕ) → Fits parts → STACK_END ≤ va + 4096 * (pages_of parts).stack_count → va < STACK_END → is_own_data_page parts store (va / 4096) ≡ true
stack_own parts store va fits low high =
    let count = stack_count parts fits in
    let few = fits.stack in
    let from : 0x100 - parts.stack_pages ≤ va / 4096 = omega arith in
    let to : va / 4096 < 0x100 = omega arith in
    let page = va / 4096 in
    let test : (nat_le (0x100 - parts.stack_pages) page && nat_lt page 0x100) ≡ true = grind (arith, nat_tests, from, to) in
    either (nat_le 0x80 page && may_reach store (slice_get (page_rights parts.regions) (page - 0x80))) (nat_le (0x100 - parts.stack_pages) page && nat_lt page 0x100) test
  where
    either : (d s : Bool) → s ≡ true → (d || s) ≡ true
    either true s e = refl
    either false s e = e

-- RAM whose entries of code, data and stack pages are those after a fetch of the code word i, but for the pages of 64 bytes of stack
pub handled_own : (n : ℕ) (parts : Parts) (old new : List ℕ) (i sp : ℕ) → Fits parts → IsLoaded n (pages_of parts) parts.words old →
    i < 1024 * (pages_of parts).code_count → HasRoom (pages_of parts) sp →
    ((p : ℕ) → p < SYSTEM_TABLE → p % 4 ≡ 0 → ((j : ℕ) → j < 16 → p ≢ stack_entry_place (area_of sp + (STACK_LOWEST - STACK_PLACE) + 4 * j)) → entry_of new p ≡ entry_of (code_marked i old) p) →
    OwnMarks parts old → OwnMarks parts new
handled_own n parts old new i sp fits loaded within room same own =
    let few = fits.stack in
    let count = stack_count parts fits in
    let low = room.low in
    let high = room.high in
    let aligned = room.aligned in
    let mid = code_marked i old in
    let after : OwnMarks parts mid = code_own n parts old i loaded within own in
    let first_own : (store : Bool) → is_own_data_page parts store (sp / 4096) ≡ true = λ (store : Bool). stack_own parts store sp fits low (omega arith) in
    let last_own : (store : Bool) → is_own_data_page parts store ((sp + 60) / 4096) ≡ true = λ (store : Bool). stack_own parts store (sp + 60) fits (omega arith) (omega arith) in
    let beside : (k : ℕ) → k < 192 → 0x40 + k ≢ sp / 4096 → 0x40 + k ≢ (sp + 60) / 4096 → entry_of new (CODE_TABLE + 4 * k) ≡ entry_of mid (CODE_TABLE + 4 * k) =
    λ (k : ℕ) (less : k < 192) (a : 0x40 + k ≢ sp / 4096) (b : 0x40 + k ≢ (sp + 60) / 4096).
    same (CODE_TABLE + 4 * k) (omega arith) (omega arith) (λ j small e. apart_by k j sp (omega arith) (omega arith) small a b e) in
    record {
      referenced = λ k less is.
          let one : (0x40 + k ≡ sp / 4096) ⊎ (0x40 + k ≢ sp / 4096) = search arith in
          let two : (0x40 + k ≡ (sp + 60) / 4096) ⊎ (0x40 + k ≢ (sp + 60) / 4096) = search arith in
          elim one [
            | inl e ↦ owned parts (0x40 + k) (subst (λ q. is_own_data_page parts false q ≡ true) (sym e) (first_own false))
            | inr a ↦ elim two [
              | inl e ↦ owned parts (0x40 + k) (subst (λ q. is_own_data_page parts false q ≡ true) (sym e) (last_own false))
              | inr b ↦ after.referenced k less (ap (λ o. bit_of o 5) (sym (beside k less a b)) ∙ is)
            ]
          ];
      modified = λ k less is.
          let one : (0x40 + k ≡ sp / 4096) ⊎ (0x40 + k ≢ sp / 4096) = search arith in
          let two : (0x40 + k ≡ (sp + 60) / 4096) ⊎ (0x40 + k ≢ (sp + 60) / 4096) = search arith in
          elim one [
            | inl e ↦ subst (λ q. is_own_data_page parts true q ≡ true) (sym e) (first_own true)
            | inr a ↦ elim two [
              | inl e ↦ subst (λ q. is_own_data_page parts true q ≡ true) (sym e) (last_own true)
              | inr b ↦ after.modified k less (ap (λ o. bit_of o 6) (sym (beside k less a b)) ∙ is)
            ]
          ];
    }
  where
    -- the 64 bytes lie in the page of the first one and in that of the last word
    apart_by : (k j sp : ℕ) → STACK_LOWEST ≤ sp → sp + 64 ≤ STACK_END → j < 16 → 0x40 + k ≢ sp / 4096 → 0x40 + k ≢ (sp + 60) / 4096 →
        CODE_TABLE + 4 * k ≡ stack_entry_place (area_of sp + (STACK_LOWEST - STACK_PLACE) + 4 * j) → ⊥
    apart_by k j sp low high small a b e = omega arith

-- a code word lies in its page
pub code_room : (parts : Parts) (i : ℕ) → Fits parts → i < length parts.words → i < 1024 * (pages_of parts).code_count
unfolding pages_of
code_room parts i fits less =
    let few = fits.words in
    let small : nat_le ((length parts.words + 1023) / 1024) 64 ≡ true = grind (arith, nat_tests) in
    let is : at_most 64 ((length parts.words + 1023) / 1024) ≡ (length parts.words + 1023) / 1024 = ap (λ (b : Bool). if b then (length parts.words + 1023) / 1024 else 64) small in
    omega (arith, is)
