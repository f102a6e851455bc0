-- What an access to a loaded board reaches.
use Rattle.std.proofs.Common.{◌≡◌, ℕ, ◌+◌, ◌-◌, ◌*◌, ◌/◌, ◌^◌, ◌<◌, ◌≤◌, ◌⊎◌, inl, inr, Bool, true, false, cond, List, Option, Some, None, Result, Ok, Err, IfSome, refl, sym, ap, ◌∙◌, subst, arith}
use Rattle.std.specs.Prelude.{nat_le, if◌then◌else◌, ◌&&◌}
use Rattle.v8_core.specs.Permissions.{permits, rights_of, access_type}
use Rattle.v8_core.specs.Walked.{Page, walked, root_of}
use Rattle.v8_core.specs.Access.{Access}
use Rattle.v8_core.specs.MmuRegs.{MmuRegs}
use Rattle.v8_core.specs.MmuFault.{MmuFault}
use Rattle.v8_loaded.specs.Layout.{Pages, AreFew, data_acc, data_count, is_writable}
use Rattle.v8_loaded.specs.AddressMap.{Mapped, mapped, within, page_at, reached, translated}
use Rattle.v8_loaded.proofs.Map.{inside_is, tables_map}
use Rattle.v8_loaded.proofs.Marks.{Markable, mapped_markable}
use Rattle.v8_contained.specs.Contained.{Contents, IsKept}
use Rattle.v8_contained.proofs.Stays.{IsFree}

-- ---- the kinds of pages

-- a page of code, which may be fetched from alone
pub record IsCode (g : Pages) (va : ℕ) (p : Mapped) : Type 0 where
  pub acc : p.acc ≡ 4
  pub low : 0x40000 ≤ va
  pub high : va < 0x40000 + 4096 * g.code_count
  pub pa : p.pa ≡ va - 0x30000

-- data that may not be written
pub record IsFixed (g : Pages) (va : ℕ) (p : Mapped) : Type 0 where
  pub acc : p.acc ≡ 0
  pub low : 0x80000 ≤ va
  pub high : va < 0x80000 + 4096 * data_count g
  pub pa : p.pa ≡ va - 0x30000

-- data that may be written, or the stack
pub record IsWritable (g : Pages) (va : ℕ) (p : Mapped) : Type 0 where
  pub acc : p.acc ≡ 1
  pub where_ : ((0x80000 ≤ va) × (va < 0x80000 + 4096 * data_count g) × (p.pa ≡ va - 0x30000) × (is_writable g ((va - 0x80000) / 4096) ≡ true))
      ⊎ ((0x100000 ≤ va + 4096 * g.stack_count) × (va < 0x100000) × (p.pa ≡ va - 0x60000))
  pub free : IsFree g p.pa
  pub high : p.pa < 0xA0000

-- the trap table's page or the window handlers', which only the supervisor reaches
pub record IsSystem (p : Mapped) : Type 0 where
  pub acc : p.acc ≡ 6
  pub high : p.pa < 0x2000

-- the device's page, past RAM, which only the supervisor reaches
pub record IsDevice (va : ℕ) (p : Mapped) : Type 0 where
  pub acc : p.acc ≡ 7
  pub pa : 0x100000000 ≤ p.pa

-- which of them the page of an address is
pub data Kind (g : Pages) (va : ℕ) (p : Mapped) : Type 0 where
  Code : IsCode g va p → Kind g va p
  Fixed : IsFixed g va p → Kind g va p
  Writable : IsWritable g va p → Kind g va p
  System : IsSystem p → Kind g va p
  Registers : IsDevice va p → Kind g va p

one_more : (b : Bool) (x : Mapped) (rest : Option Mapped) (P : Mapped → Type 0) → (b ≡ true → P x) → IfSome rest P → IfSome (cond b (Some x) rest) P
one_more true x rest P here there = here refl
one_more false x rest P here there = there

-- a page of data, by its right
data_kind : (g : Pages) (va place : ℕ) (w : Bool) → AreFew g → is_writable g ((va - 0x80000) / 4096) ≡ w → 0x80000 ≤ va → va < 0x80000 + 4096 * data_count g →
    Kind g va (mapped (va - 0x30000) (cond w 1 0) place)
data_kind g va place true few right low high =
    let most = few.data_pages in
    let number : (va - 0x30000 - 0x50000) / 4096 ≡ (va - 0x80000) / 4096 = omega arith in
    Writable (record {
      acc = refl;
      where_ = inl (low, high, refl, right);
      free = record { low = omega arith; right = λ under. ap (is_writable g) number ∙ right };
      high = omega arith;
    })
data_kind g va place false few right low high = Fixed (record { acc = refl; low = low; high = high; pa = refl })

kinds_of : (g : Pages) → AreFew g → (va : ℕ) → IfSome (page_at g va) (Kind g va)
unfolding page_at
kinds_of g few va =
    one_more (within 0x40000 (0x40000 + 4096 * g.code_count) va) (mapped (va - 0x30000) 4 (0x2A00 + 4 * ((va - 0x40000) / 4096))) _ (Kind g va)
    (λ e. let s = inside_is 0x40000 (0x40000 + 4096 * g.code_count) va e in Code (record { acc = refl; low = s.0; high = s.1; pa = refl }))
    (one_more (within 0x80000 (0x80000 + 4096 * data_count g) va) (mapped (va - 0x30000) (data_acc g ((va - 0x80000) / 4096)) (0x2B00 + 4 * ((va - 0x80000) / 4096))) _ (Kind g va)
    (λ e. let s = inside_is 0x80000 (0x80000 + 4096 * data_count g) va e in
    data_kind g va (0x2B00 + 4 * ((va - 0x80000) / 4096)) (is_writable g ((va - 0x80000) / 4096)) few refl s.0 s.1)
    (one_more (within (0x100000 - 4096 * g.stack_count) 0x100000 va) (mapped (va - 0x60000) 1 (0x2C00 + 4 * ((va - 0xC0000) / 4096))) _ (Kind g va)
    (λ e. let s = inside_is (0x100000 - 4096 * g.stack_count) 0x100000 va e in let low = s.0 in let high = s.1 in let most = few.stack in
    Writable (record { acc = refl; where_ = inr (omega arith, high, refl); free = record { low = omega arith; right = λ under. absurd (omega arith) }; high = omega arith }))
    (one_more (within 0xF0000000 0xF0001000 va) (mapped (va - 0xF0000000) 6 0x2D00) _ (Kind g va)
    (λ e. let s = inside_is 0xF0000000 0xF0001000 va e in let low = s.0 in let high = s.1 in System (record { acc = refl; high = omega arith }))
    (one_more (within 0xF0001000 0xF0002000 va) (mapped (va - 0xF0000000) 6 0x2D04) _ (Kind g va)
    (λ e. let s = inside_is 0xF0001000 0xF0002000 va e in let low = s.0 in let high = s.1 in System (record { acc = refl; high = omega arith }))
    (one_more (within 0xF0010000 0xF0011000 va) (mapped (va - 0xF0010000 + 0x100000000) 7 0x2D40) None (Kind g va)
    (λ e. let s = inside_is 0xF0010000 0xF0011000 va e in let low = s.0 in let high = s.1 in Registers (record { acc = refl; pa = omega arith }))
    tt)))))

-- ---- the page that a walk ends at

-- a walk for this access ends at a page of such a kind, which permits the access, and its entry can be marked
pub record Reach (g : Pages) (ram : List ℕ) (va : ℕ) (a : Access) (page : Page) : Type 0 where
  pub acc : ℕ
  pub kind : Kind g va (mapped page.pa acc page.place)
  pub may : permits (rights_of acc a.user) a.kind ≡ true
  pub target : ℕ
  pub mark : Markable ram page.place target

abbrev pub Reached : Pages → List ℕ → ℕ → Access → Result Page MmuFault → Type 0
Reached g ram va a (Ok page) = Reach g ram va a page
Reached g ram va a (Err e) = Unit

CanMark : List ℕ → Mapped → Type 0
CanMark ram p = (t : ℕ) × Markable ram p.place t

through_is : (g : Pages) (ram : List ℕ) (va : ℕ) (a : Access) (p : Mapped) (may : Bool) → permits (rights_of p.acc a.user) a.kind ≡ may → Kind g va p → (t : ℕ) → Markable ram p.place t →
    Reached g ram va a (if may then Ok (record { pa = p.pa; level = 3; place = p.place }) else Err (record { ft = if a.user && nat_le 6 p.acc then 3 else 2; level = 3; at = access_type a }))
through_is g ram va a p true e kind t mark = record { acc = p.acc; kind = kind; may = e; target = t; mark = mark }
through_is g ram va a p false e kind t mark = tt

reached_is : (g : Pages) (ram : List ℕ) (va : ℕ) (a : Access) (o : Option Mapped) → IfSome o (Kind g va) → IfSome o (λ p. (t : ℕ) × Markable ram p.place t) → Reached g ram va a (reached va a o)
reached_is g ram va a None k m = tt
reached_is g ram va a (Some p) k m = through_is g ram va a p (permits (rights_of p.acc a.user) a.kind) refl k m.0 m.1

pub reaches : (n : ℕ) (g : Pages) (held : Contents) (ram : List ℕ) (mmu : MmuRegs) (va : ℕ) (a : Access) → AreFew g → root_of mmu ≡ 0x2000 →
    IsKept n g held ram → va < 2 ^ 32 → Reached g ram va a (walked ram (root_of mmu) va a)
unfolding translated
reaches n g held ram mmu va a few root kept small =
    subst (Reached g ram va a) (sym (ap (λ r. walked ram r va a) root ∙ tables_map g ram few kept.loaded.tables va a small))
    (reached_is g ram va a (page_at g va) (kinds_of g few va) (mapped_markable g ram kept.loaded.tables few va))
