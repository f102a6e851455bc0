-- An address of a mapped page has the entry of the page's number, and a mark of that entry changes no other.
use Rattle.std.proofs.Common.{◌≡◌, ◌≢◌, ℕ, ◌+◌, ◌-◌, ◌*◌, ◌/◌, ◌%◌, ◌^◌, ◌<◌, ◌≤◌, Bool, true, false, cond, List, Option, Some, None, IfSome, refl, sym, ap, ◌∙◌, arith}
use Rattle.std.specs.Prelude.{◌==◌, if◌then◌else◌}
use Rattle.std.proofs.lemmas.Bool.Decides.{nat_tests}
use Rattle.v8_core.specs.Ram.{entry_of}
use Rattle.v8_core.specs.Paths.{marked, marked_ram}
use Rattle.v8_core.specs.Permissions.{rights_of}
use Rattle.v8_mmu.proofs.RamLemmas.{entry_is, entry_of-with_entry}
use Rattle.v8_mmu.proofs.RamMore.{marked_is, marked_small}
use Rattle.v8_loaded.specs.Layout.{Pages, AreFew, data_acc, data_count, unmarked}
use Rattle.v8_loaded.specs.AddressMap.{Mapped, mapped, page_at, within}
use Rattle.v8_loaded.proofs.Map.{inside_is}
use Rattle.v8_loaded.proofs.Marks.{Markable, kept_elsewhere, sides}
use Rattle.v8_marks.specs.Marks.{entry_at, is_in, reached, with_mark}

-- ---- where an address's entry lies

-- The page of an address: its entry's place is that of the page's number, and none of the 192 where it is a system page's; what may be
-- written lies above the tables.
pub record IsPlaced (va : ℕ) (p : Mapped) : Type 0 where
  pub there : (i : ℕ) → i < 192 → va / 4096 ≡ 0x40 + i → 0x2A00 + 4 * i ≡ p.place
  pub back : (i : ℕ) → i < 192 → 0x2A00 + 4 * i ≡ p.place → va / 4096 ≡ 0x40 + i
  pub high : (user : Bool) → (rights_of p.acc user).write ≡ true → 0x50000 ≤ p.pa

not_written_4 : (user : Bool) → (rights_of 4 user).write ≡ true → ⊥
not_written_4 true e = cc
not_written_4 false e = cc

not_written_6 : (user : Bool) → (rights_of 6 user).write ≡ true → ⊥
not_written_6 true e = cc
not_written_6 false e = cc

one_more : (b : Bool) (x : Mapped) (rest : Option Mapped) (P : Mapped → Type 0) → (b ≡ true → P x) → IfSome rest P → IfSome (cond b (Some x) rest) P
one_more true x rest P here there = here refl
one_more false x rest P here there = there

pub placed : (g : Pages) → AreFew g → (va : ℕ) → IfSome (page_at g va) (IsPlaced va)
unfolding page_at
placed g few va =
    one_more (within 0x40000 (0x40000 + 4096 * g.code_count) va) (mapped (va - 0x30000) 4 (0x2A00 + 4 * ((va - 0x40000) / 4096))) _ (IsPlaced va)
    (λ e. let s = inside_is 0x40000 (0x40000 + 4096 * g.code_count) va e in let low = s.0 in let high = s.1 in let most = few.code in
    record { there = λ i less is. omega arith; back = λ i less is. omega arith; high = λ user may. absurd (not_written_4 user may) })
    (one_more (within 0x80000 (0x80000 + 4096 * data_count g) va) (mapped (va - 0x30000) (data_acc g ((va - 0x80000) / 4096)) (0x2B00 + 4 * ((va - 0x80000) / 4096))) _ (IsPlaced va)
    (λ e. let s = inside_is 0x80000 (0x80000 + 4096 * data_count g) va e in let low = s.0 in let high = s.1 in let most = few.data_pages in
    record { there = λ i less is. omega arith; back = λ i less is. omega arith; high = λ user may. omega arith })
    (one_more (within (0x100000 - 4096 * g.stack_count) 0x100000 va) (mapped (va - 0x60000) 1 (0x2C00 + 4 * ((va - 0xC0000) / 4096))) _ (IsPlaced va)
    (λ e. let s = inside_is (0x100000 - 4096 * g.stack_count) 0x100000 va e in let low = s.0 in let high = s.1 in let most = few.stack in
    record { there = λ i less is. omega arith; back = λ i less is. omega arith; high = λ user may. omega arith })
    (one_more (within 0xF0000000 0xF0001000 va) (mapped (va - 0xF0000000) 6 0x2D00) _ (IsPlaced va)
    (λ e. let s = inside_is 0xF0000000 0xF0001000 va e in let low = s.0 in let high = s.1 in
    record { there = λ i less is. omega arith; back = λ i less is. omega arith; high = λ user may. absurd (not_written_6 user may) })
    (one_more (within 0xF0001000 0xF0002000 va) (mapped (va - 0xF0000000) 6 0x2D04) _ (IsPlaced va)
    (λ e. let s = inside_is 0xF0001000 0xF0002000 va e in let low = s.0 in let high = s.1 in
    record { there = λ i less is. omega arith; back = λ i less is. omega arith; high = λ user may. absurd (not_written_6 user may) })
    (one_more (within 0xF0010000 0xF0011000 va) (mapped (va - 0xF0010000 + 0x100000000) 7 0x2D40) None (IsPlaced va)
    (λ e. let s = inside_is 0xF0010000 0xF0011000 va e in let low = s.0 in let high = s.1 in
    record { there = λ i less is. omega arith; back = λ i less is. omega arith; high = λ user may. omega arith })
    tt)))))

-- ---- a mark

entry_small : (w t : ℕ) → unmarked w ≡ t → t < 2 ^ 31 → w < 2 ^ 32
entry_small w t is small = by_kind (w % 4 == 2) refl
  where
    by_kind : (b : Bool) → (w % 4 == 2) ≡ b → w < 2 ^ 32
    by_kind true e = let sum : w / 128 * 128 + w % 32 ≡ t = rw e at is in omega arith
    by_kind false e = let sum : w ≡ t = rw e at is in omega arith

-- the entry that is marked
mark_there : (ram : List ℕ) (place t : ℕ) (store : Bool) → Markable ram place t → entry_of (marked_ram ram place store) place ≡ with_mark store (entry_of ram place)
mark_there ram place t store h =
    let w = h.entry.word in
    ap (λ r. entry_of r place) (marked_is ram place w store h.entry.there)
    ∙ entry_of-with_entry ram place (marked w store) (entry_is ram place w h.entry.there).0 (marked_small w store (entry_small w t h.entry.is h.small))
    ∙ sym (ap (with_mark store) h.entry.there)

-- the entry of page i, where that of an address is marked
pub mark_reaches : (ram : List ℕ) (va i t : ℕ) (p : Mapped) (store : Bool) → i < 192 → IsPlaced va p → Markable ram p.place t →
    entry_at (marked_ram ram p.place store) i ≡ reached i va store (entry_at ram i)
mark_reaches ram va i t p store less at h = by_page (is_in i va) refl
  where
    by_page : (b : Bool) → is_in i va ≡ b → entry_at (marked_ram ram p.place store) i ≡ (if b then with_mark store (entry_at ram i) else entry_at ram i)
    by_page true e =
        let here : va / 4096 ≡ 0x40 + i = grind (arith, nat_tests) in
        let same = at.there i less here in
        ap (entry_of (marked_ram ram p.place store)) same ∙ mark_there ram p.place t store h ∙ sym (ap (λ q. with_mark store (entry_of ram q)) same)
    by_page false e =
        let other : va / 4096 ≢ 0x40 + i = grind (arith, nat_tests) in
        kept_elsewhere ram p.place t store h (0x2A00 + 4 * i) (sides (0x2A00 + 4 * i) p.place (omega arith) h.aligned (λ same. other (at.back i less same)))
