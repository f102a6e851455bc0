-- RAM that is the same above the tables shows the same.
use Rattle.std.proofs.Common.{◌≡◌, ℕ, ◌+◌, ◌*◌, ◌≤◌, inr, Bool, List, sym, ◌∙◌, arith}
use Rattle.std.specs.Prelude.{slice_index}
use Rattle.v8_loaded.specs.Areas.{area_of}
use Rattle.v8_map.specs.declared.TheConstants.{TABLES_END}
use Rattle.v8_core.specs.Ram.{entry_of}
use Rattle.v8_core.specs.Paths.{marked_ram}
use Rattle.v8_layout.proofs.Marks.{Markable, kept_elsewhere}
use Rattle.v8_loaded.proofs.Turns.{marked_byte}
use Rattle.sbx_flat.specs.Parts.{Parts}
use Rattle.sbx_flat.specs.Memory.{Bytes}
use Rattle.sbx_flat.specs.Registers.{Registers}
use Rattle.sbx_flat.specs.Calls.{base}
use Rattle.sbx_flat.specs.WellFormed.{IsStacked}
use Rattle.sbx_shows.specs.Shows.{ShowsSaved, ShowsSlots, ShowsData, HasStack, data_area}

pub record SameAbove (old new : List ℕ) : Type 0 where
  pub words : (p : ℕ) → TABLES_END ≤ p → entry_of new p ≡ entry_of old p
  pub bytes : (p : ℕ) → TABLES_END ≤ p → slice_index new p ≡ slice_index old p

-- a mark
pub marked_same : (ram : List ℕ) (place t : ℕ) (store : Bool) → Markable ram place t → SameAbove ram (marked_ram ram place store)
marked_same ram place t store m =
    let high = m.high in
    let aligned = m.aligned in
    record {
      words = λ p above. kept_elsewhere ram place t store m p (inr (omega arith));
      bytes = λ p above. marked_byte ram place t store m p above;
    }

pub saved_kept : (pages r : ℕ) (file : Registers) (old new : List ℕ) → pages ≤ 16 → IsStacked pages file → SameAbove old new → ShowsSaved file r old → ShowsSaved file r new
saved_kept pages r file old new few st same h = record {
  locals = λ k j a b d. let low = st.low k b in same.words (area_of (base file k) + 4 * j) (omega arith) ∙ h.locals k j a b d;
  ins = λ k j a b d. let low = st.low k b in same.words (area_of (base file k) + 32 + 4 * j) (omega arith) ∙ h.ins k j a b d;
}

pub slots_kept : (pages : ℕ) (file : Registers) (old new : List ℕ) → pages ≤ 16 → IsStacked pages file → SameAbove old new → ShowsSlots file old → ShowsSlots file new
slots_kept pages file old new few st same h k a w less is =
    let o = h k a w less is in
    let low = st.low k less in
    let above = o.place.low in
    record { place = o.place; there = same.words (area_of a) (omega arith) ∙ o.there }

pub stack_kept : (old new : List ℕ) → SameAbove old new → HasStack old → HasStack new
stack_kept old new same h p w above there = h p w above (sym (same.words p (omega arith)) ∙ there)

pub data_kept : (parts : Parts) (memory : Bytes) (old new : List ℕ) → SameAbove old new → ShowsData parts memory old → ShowsData parts memory new
data_kept parts memory old new same h a b is =
    let o = h a b is in
    let low = o.low in
    record { low = o.low; high = o.high; small = o.small; there = same.bytes (data_area a) (omega arith) ∙ o.there }
