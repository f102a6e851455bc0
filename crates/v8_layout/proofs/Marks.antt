-- A mark on a page's entry, and a store above the tables, keep what is loaded.
use Rattle.std.proofs.Common.{◌≡◌, ◌≢◌, ℕ, ◌+◌, ◌-◌, ◌*◌, ◌/◌, ◌%◌, ◌^◌, ◌<◌, ◌≤◌, ◌⊎◌, inl, inr, Bool, true, false, cond, List, length, Option, Some, None}
use Rattle.std.proofs.Common.{IsSomeAnd, IfSome, refl, sym, ap, ◌∙◌, subst, arith}
use Rattle.std.specs.Prelude.{◌==◌, nat_le}
use Rattle.std.proofs.lemmas.Bool.Decides.{nat_tests}
use Rattle.v8_mmu.specs.Ram.{entry_of, with_entry}
use Rattle.v8_mmu.specs.Paths.{marked, marked_ram}
use Rattle.v8_mmu.proofs.RamLemmas.{Within, entry_is, length-with_entry, length-marked_ram, entry_of-with_entry}
use Rattle.v8_mmu.proofs.RamMore.{entry_elsewhere, marked_high, marked_is}
use Rattle.v8_layout.specs.Layout.{Pages, AreFew, HasTables, HasEntry, IsLoaded, unmarked, code_entry, data_acc, data_count, data_entry, stack_entry, system_entry}
use Rattle.v8_layout.specs.AddressMap.{Mapped, mapped, within, page_at}
use Rattle.v8_layout.proofs.Entries.{unmarked_marked, PageEntry, acc_small, data_entry_is, data_entry_word, entry_from, entry_back}
use Rattle.v8_layout.proofs.Map.{inside_is}

-- the entry of a page that may be marked
pub record Markable (ram : List ℕ) (place t : ℕ) : Type 0 where
  pub entry : PageEntry ram place t
  pub kind : t % 4 ≡ 2
  pub small : t < 2 ^ 31
  pub aligned : place % 4 ≡ 0
  pub low : 0x2A00 ≤ place
  pub high : place < 0x2E00

pub kept_elsewhere : (ram : List ℕ) (place t : ℕ) (store : Bool) → Markable ram place t → (p : ℕ) → (p + 4 ≤ place) ⊎ (place + 4 ≤ p) → entry_of (marked_ram ram place store) p ≡ entry_of ram p
kept_elsewhere ram place t store h p apart =
    ap (λ r. entry_of r p) (marked_is ram place h.entry.word store h.entry.there)
    ∙ entry_elsewhere ram place p (marked h.entry.word store) (entry_is ram place h.entry.word h.entry.there).0 apart

word_small : (w t : ℕ) (store : Bool) → unmarked w ≡ t → t < 2 ^ 31 → t % 4 ≡ 2 → marked w store < 2 ^ 32
word_small w t store is small kind = by_kind (w % 4 == 2) refl
  where
    by_kind : (b : Bool) → (w % 4 == 2) ≡ b → marked w store < 2 ^ 32
    by_kind true e =
        let sum : w / 128 * 128 + w % 32 ≡ t = rw e at is in
        let same : marked w store / 2 ^ 7 ≡ w / 2 ^ 7 = marked_high w store in
        omega arith
    by_kind false e =
        let sum : w ≡ t = rw e at is in
        let same : marked w store / 2 ^ 7 ≡ w / 2 ^ 7 = marked_high w store in
        omega arith

kind_back : (w t : ℕ) → unmarked w ≡ t → t % 4 ≡ 2 → w % 4 ≡ 2
kind_back w t is kind = by_kind (w % 4 == 2) refl
  where
    by_kind : (b : Bool) → (w % 4 == 2) ≡ b → w % 4 ≡ 2
    by_kind true e = grind (arith, nat_tests)
    by_kind false e = let same : w ≡ t = rw e at is in omega arith

-- the marked entry itself
kept_here : (ram : List ℕ) (place t : ℕ) (store : Bool) → Markable ram place t → PageEntry (marked_ram ram place store) place t
kept_here ram place t store h =
    let w = h.entry.word in
    let kind : w % 4 ≡ 2 = kind_back w t h.entry.is h.kind in
    record {
      word = marked w store;
      there = ap (λ r. entry_of r place) (marked_is ram place w store h.entry.there)
          ∙ entry_of-with_entry ram place (marked w store) (entry_is ram place w h.entry.there).0 (word_small w t store h.entry.is h.small h.kind);
      is = (unmarked_marked w store kind).1 ∙ h.entry.is;
    }

pub sides : (p q : ℕ) → p % 4 ≡ 0 → q % 4 ≡ 0 → p ≢ q → (p + 4 ≤ q) ⊎ (q + 4 ≤ p)
sides p q a b other = by_side (nat_le (p + 4) q) refl
  where
    by_side : (c : Bool) → nat_le (p + 4) q ≡ c → (p + 4 ≤ q) ⊎ (q + 4 ≤ p)
    by_side true e = inl (grind (arith, nat_tests))
    by_side false e = let no : q < p + 4 = grind (arith, nat_tests) in inr (omega arith)

-- any entry of a table of pages
pub kept_entry : (ram : List ℕ) (place t : ℕ) (store : Bool) → Markable ram place t → (p u : ℕ) → p % 4 ≡ 0 → IsSomeAnd (entry_of ram p) (λ w. unmarked w ≡ u) →
    IsSomeAnd (entry_of (marked_ram ram place store) p) (λ w. unmarked w ≡ u)
kept_entry ram place t store h p u aligned e = by_place (p == place) refl
  where
    by_place : (b : Bool) → (p == place) ≡ b → IsSomeAnd (entry_of (marked_ram ram place store) p) (λ w. unmarked w ≡ u)
    by_place true is =
        let same : p ≡ place = grind (arith, nat_tests) in
        let was : IsSomeAnd (entry_of ram place) (λ w. unmarked w ≡ u) = subst (λ q. IsSomeAnd (entry_of ram q) (λ w. unmarked w ≡ u)) same e in
        let t_is : t ≡ u = sym h.entry.is ∙ (rw h.entry.there at was) in
        let now : IsSomeAnd (entry_of (marked_ram ram place store) place) (λ w. unmarked w ≡ t) = entry_back (marked_ram ram place store) place t (kept_here ram place t store h) in
        subst (λ q. IsSomeAnd (entry_of (marked_ram ram place store) q) (λ w. unmarked w ≡ u)) (sym same)
        (subst (λ v. IsSomeAnd (entry_of (marked_ram ram place store) place) (λ w. unmarked w ≡ v)) t_is now)
    by_place false is =
        let other : p ≢ place = grind (arith, nat_tests) in
        subst (λ o. IsSomeAnd o (λ w. unmarked w ≡ u)) (sym (kept_elsewhere ram place t store h p (sides p place aligned h.aligned other))) e

-- marks keep the tables
pub mark_keeps_tables : (g : Pages) (ram : List ℕ) (place t : ℕ) (store : Bool) → HasTables g ram → Markable ram place t → HasTables g (marked_ram ram place store)
mark_keeps_tables g ram place t store l h =
    let low = h.low in
    let high = h.high in
    record {
      size = length-marked_ram ram place store ∙ l.size;
      context = kept_elsewhere ram place t store h 0x2000 (inl (omega arith)) ∙ l.context;
      contexts = λ i one small. kept_elsewhere ram place t store h (0x2000 + 4 * i) (inl (omega arith)) ∙ l.contexts i one small;
      regions = λ i small. kept_elsewhere ram place t store h (0x2400 + 4 * i) (inl (omega arith)) ∙ l.regions i small;
      programs = λ i small. kept_elsewhere ram place t store h (0x2800 + 4 * i) (inl (omega arith)) ∙ l.programs i small;
      systems = λ i small. kept_elsewhere ram place t store h (0x2900 + 4 * i) (inl (omega arith)) ∙ l.systems i small;
      code_pages = λ i small. kept_entry ram place t store h (0x2A00 + 4 * i) (code_entry g i) (omega arith) (l.code_pages i small);
      data_pages = λ i small. kept_entry ram place t store h (0x2B00 + 4 * i) (data_entry g i) (omega arith) (l.data_pages i small);
      stack_pages = λ i small. kept_entry ram place t store h (0x2C00 + 4 * i) (stack_entry g i) (omega arith) (l.stack_pages i small);
      system_pages = λ i small. kept_entry ram place t store h (0x2D00 + 4 * i) (system_entry i) (omega arith) (l.system_pages i small);
    }

-- marks keep all that is loaded
pub mark_keeps : (n : ℕ) (g : Pages) (words ram : List ℕ) (place t : ℕ) (store : Bool) → IsLoaded n g words ram → Markable ram place t → IsLoaded n g words (marked_ram ram place store)
mark_keeps n g words ram place t store l h =
    let low = h.low in
    let high = h.high in
    record {
      tables = mark_keeps_tables g ram place t store l.tables h;
      trap = λ k small. kept_elsewhere ram place t store h (4 * k) (inl (omega arith)) ∙ l.trap k small;
      handler = λ k small. kept_elsewhere ram place t store h (0x1000 + 4 * k) (inl (omega arith)) ∙ l.handler k small;
      code = λ i small. kept_elsewhere ram place t store h (0x10000 + 4 * i) (inr (omega arith)) ∙ l.code i small;
    }

-- ---- the pages that an access may mark

pub system_markable : (g : Pages) (ram : List ℕ) → HasTables g ram → (i t : ℕ) → i < 64 → system_entry i ≡ t → t % 4 ≡ 2 → t < 2 ^ 31 → Markable ram (0x2D00 + 4 * i) t
system_markable g ram l i t small is kind less =
    record {
      entry = entry_from ram (0x2D00 + 4 * i) t (subst (HasEntry ram (0x2D00 + 4 * i)) is (l.system_pages i small));
      kind = kind;
      small = less;
      aligned = omega arith;
      low = omega arith;
      high = omega arith;
    }

pub code_markable : (g : Pages) (ram : List ℕ) → HasTables g ram → AreFew g → (i : ℕ) → i < g.code_count → Markable ram (0x2A00 + 4 * i) (0x1012 + 0x100 * i)
code_markable g ram l few i less =
    let most = few.code in
    let is : code_entry g i ≡ 0x1012 + 0x100 * i = grind (arith, nat_tests) in
    record {
      entry = entry_from ram (0x2A00 + 4 * i) (0x1012 + 0x100 * i) (subst (HasEntry ram (0x2A00 + 4 * i)) is (l.code_pages i (omega arith)));
      kind = omega arith;
      small = omega arith;
      aligned = omega arith;
      low = omega arith;
      high = omega arith;
    }

pub data_markable : (g : Pages) (ram : List ℕ) → HasTables g ram → AreFew g → (i : ℕ) → i < data_count g → Markable ram (0x2B00 + 4 * i) (data_entry_word g i)
data_markable g ram l few i less =
    let most = few.data_pages in
    let acc = acc_small g i in
    record {
      entry = entry_from ram (0x2B00 + 4 * i) (data_entry_word g i) (subst (HasEntry ram (0x2B00 + 4 * i)) (data_entry_is g i less) (l.data_pages i (omega arith)));
      kind = omega arith;
      small = omega arith;
      aligned = omega arith;
      low = omega arith;
      high = omega arith;
    }

pub stack_markable : (g : Pages) (ram : List ℕ) → HasTables g ram → AreFew g → (i : ℕ) → 64 - g.stack_count ≤ i → i < 64 → Markable ram (0x2C00 + 4 * i) (0x9006 + 0x100 * (i - 48))
stack_markable g ram l few i low less =
    let most = few.stack in
    let is : stack_entry g i ≡ 0x9006 + 0x100 * (i - 48) = grind (arith, nat_tests) in
    record {
      entry = entry_from ram (0x2C00 + 4 * i) (0x9006 + 0x100 * (i - 48)) (subst (HasEntry ram (0x2C00 + 4 * i)) is (l.stack_pages i less));
      kind = omega arith;
      small = omega arith;
      aligned = omega arith;
      low = omega arith;
      high = omega arith;
    }

-- ---- stores

-- RAM that is the same below the data
pub loaded_by : (n : ℕ) (g : Pages) (words ram new : List ℕ) → AreFew g → length new ≡ length ram →
    ((p : ℕ) → p + 4 ≤ 0x50000 → entry_of new p ≡ entry_of ram p) → IsLoaded n g words ram → IsLoaded n g words new
loaded_by n g words ram new few same kept l =
    let most = few.code in
    let t = l.tables in
    record {
      tables = record {
        size = same ∙ t.size;
        context = kept 0x2000 (omega arith) ∙ t.context;
        contexts = λ i one small. kept (0x2000 + 4 * i) (omega arith) ∙ t.contexts i one small;
        regions = λ i small. kept (0x2400 + 4 * i) (omega arith) ∙ t.regions i small;
        programs = λ i small. kept (0x2800 + 4 * i) (omega arith) ∙ t.programs i small;
        systems = λ i small. kept (0x2900 + 4 * i) (omega arith) ∙ t.systems i small;
        code_pages = λ i small. rw (kept (0x2A00 + 4 * i) (omega arith)) (t.code_pages i small);
        data_pages = λ i small. rw (kept (0x2B00 + 4 * i) (omega arith)) (t.data_pages i small);
        stack_pages = λ i small. rw (kept (0x2C00 + 4 * i) (omega arith)) (t.stack_pages i small);
        system_pages = λ i small. rw (kept (0x2D00 + 4 * i) (omega arith)) (t.system_pages i small);
      };
      trap = λ k small. kept (4 * k) (omega arith) ∙ l.trap k small;
      handler = λ k small. kept (0x1000 + 4 * k) (omega arith) ∙ l.handler k small;
      code = λ i small. kept (0x10000 + 4 * i) (omega arith) ∙ l.code i small;
    }

-- a word stored to data or stack
pub store_keeps : (n : ℕ) (g : Pages) (words ram : List ℕ) (p w : ℕ) → AreFew g → IsLoaded n g words ram → 0x50000 ≤ p → p % 4 ≡ 0 → p + 4 ≤ 0x100000 → IsLoaded n g words (with_entry ram p w)
store_keeps n g words ram p w few l low aligned high =
    let size = l.tables.size in
    let there : Within ram p = record { aligned = aligned; fits = omega arith } in
    loaded_by n g words ram (with_entry ram p w) few (length-with_entry ram p w (omega arith)) (λ q less. entry_elsewhere ram p q w there (inl (omega arith))) l

-- ---- the entry of any mapped address

abbrev pub CanMark : List ℕ → Mapped → Type 0
CanMark ram p = (t : ℕ) × Markable ram p.place t

one_more : (b : Bool) (x : Mapped) (rest : Option Mapped) (P : Mapped → Type 0) → (b ≡ true → P x) → IfSome rest P → IfSome (cond b (Some x) rest) P
one_more true x rest P here there = here refl
one_more false x rest P here there = there

pub mapped_markable : (g : Pages) (ram : List ℕ) → HasTables g ram → AreFew g → (va : ℕ) → IfSome (page_at g va) (CanMark ram)
unfolding page_at
mapped_markable g ram l few va =
    one_more (within 0x40000 (0x40000 + 4096 * g.code_count) va) (mapped (va - 0x30000) 4 (0x2A00 + 4 * ((va - 0x40000) / 4096))) _ (CanMark ram)
    (λ e. let s = inside_is 0x40000 (0x40000 + 4096 * g.code_count) va e in
    (0x1012 + 0x100 * ((va - 0x40000) / 4096), code_markable g ram l few ((va - 0x40000) / 4096) (let low = s.0 in let high = s.1 in omega arith)))
    (one_more (within 0x80000 (0x80000 + 4096 * data_count g) va) (mapped (va - 0x30000) (data_acc g ((va - 0x80000) / 4096)) (0x2B00 + 4 * ((va - 0x80000) / 4096))) _ (CanMark ram)
    (λ e. let s = inside_is 0x80000 (0x80000 + 4096 * data_count g) va e in
    (data_entry_word g ((va - 0x80000) / 4096), data_markable g ram l few ((va - 0x80000) / 4096) (let low = s.0 in let high = s.1 in omega arith)))
    (one_more (within (0x100000 - 4096 * g.stack_count) 0x100000 va) (mapped (va - 0x60000) 1 (0x2C00 + 4 * ((va - 0xC0000) / 4096))) _ (CanMark ram)
    (λ e. let s = inside_is (0x100000 - 4096 * g.stack_count) 0x100000 va e in (
      0x9006 + 0x100 * ((va - 0xC0000) / 4096 - 48),
      stack_markable g ram l few ((va - 0xC0000) / 4096) (let low = s.0 in let most = few.stack in
          omega arith) (let high = s.1 in omega arith),
    ))
    (one_more (within 0xF0000000 0xF0001000 va) (mapped (va - 0xF0000000) 6 0x2D00) _ (CanMark ram) (λ e. (0x1A, system_markable g ram l 0 0x1A (omega arith) refl refl (omega arith)))
    (one_more (within 0xF0001000 0xF0002000 va) (mapped (va - 0xF0000000) 6 0x2D04) _ (CanMark ram) (λ e. (0x11A, system_markable g ram l 1 0x11A (omega arith) refl refl (omega arith)))
    (one_more (within 0xF0010000 0xF0011000 va) (mapped (va - 0xF0010000 + 0x100000000) 7 0x2D40) None (CanMark ram)
    (λ e. (0x1000001E, system_markable g ram l 16 0x1000001E (omega arith) refl refl (omega arith))) tt)))))

keep_if : (n : ℕ) (g : Pages) (words ram : List ℕ) (store : Bool) → IsLoaded n g words ram → (o : Option Mapped) → IfSome o (CanMark ram) →
    IfSome o (λ p. IsLoaded n g words (marked_ram ram p.place store))
keep_if n g words ram store l None h = tt
keep_if n g words ram store l (Some p) h = mark_keeps n g words ram p.place h.0 store l h.1

pub marks_keep : (n : ℕ) (g : Pages) (words ram : List ℕ) (va : ℕ) (store : Bool) → AreFew g → IsLoaded n g words ram → IfSome (page_at g va) (λ p. IsLoaded n g words (marked_ram ram p.place store))
marks_keep n g words ram va store few l = keep_if n g words ram store l (page_at g va) (mapped_markable g ram l.tables few va)
