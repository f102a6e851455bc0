-- What loads and stores leave of the entries: the mark of the page that they reach.
use Rattle.std.proofs.Common.{◌≡◌, ℕ, ◌+◌, ◌-◌, ◌*◌, ◌^◌, ◌<◌, ◌≤◌, inl, Bool, true, false, cond, List, Option, Some, None, Result, Ok, Err, IfSome, refl, sym, ap, ◌∙◌, subst, arith}
use Rattle.std.specs.Prelude.{if◌then◌else◌, nat_le, nat_lt, ◌&&◌}
use Rattle.v8_core.specs.Size.{Size}
use Rattle.v8_core.specs.Transfers.{exchanged_size, loaded_size, writes_memory}
use Rattle.v8_core.specs.Transfer.{Transfer}
use Rattle.v8_core.specs.Transfer.TheVariants as transfers
use Rattle.v8_core.specs.Space.{Space}
use Rattle.v8_core.specs.Space.TheVariants.{Normal, Alternate, Missing}
use Rattle.v8_core.specs.Spaces.{is_code_space}
use Rattle.v8_core.specs.Meaning.{exchanged_after, stored_after}
use Rattle.v8_core.specs.Ram.{number_at, with_number}
use Rattle.v8_core.specs.Paths.{marked_ram}
use Rattle.v8_core.specs.Permissions.{access_type, permits, rights_of}
use Rattle.v8_core.specs.Walked.{Page, root_of, walked}
use Rattle.v8_core.specs.Access.{Access}
use Rattle.v8_core.specs.MmuRegs.{MmuRegs}
use Rattle.v8_core.specs.MmuFault.{MmuFault}
use Rattle.v8_core.specs.Cpu.{Cpu}
use Rattle.v8_core.specs.declared.access.Moved.{Moved}
use Rattle.v8_core.specs.declared.access.Moved.TheVariants.{Done, Fault}
use Rattle.v8_core.specs.Memory.{Memory, answers, loaded_from, move_answered, move_through, moves}
use Rattle.v8_core.specs.Accesses.{access_of, code_kind, data_kind}
use Rattle.v8_loaded.specs.Layout.{Pages, AreFew, HasTables}
use Rattle.v8_loaded.specs.AddressMap.{Mapped, page_at, reached as map_reached, translated}
use Rattle.v8_loaded.specs.Board.{Device, board, board_load, board_store, device_base, device_store, overwritten, with_ram}
use Rattle.v8_loaded.proofs.Map.{tables_map}
use Rattle.v8_loaded.proofs.Marks.{CanMark, Markable, mapped_markable}
use Rattle.v8_contained.proofs.Stays.{number_is, with_number_beside, with_number_size, word_kept}
use Rattle.v8_marks.specs.Marks.{entry_at, reached}
use Rattle.v8_marks.proofs.Placing.{IsPlaced, mark_reaches, placed}

abbrev pub mem_of : List ℕ → Device → Memory Device
mem_of ram d = record { ram = ram; device = d }

-- ---- the bus

-- what is stored leaves the entry
abbrev Leaves : List ℕ → ℕ → Option (List ℕ × Device) → Type 0
Leaves ram i None = Unit
Leaves ram i (Some made) = entry_at made.0 i ≡ entry_at ram i

over : (ram : List ℕ) (d : Device) (pa : ℕ) (size : Size) (v i : ℕ) (o : Option ℕ) → i < 192 → 0x50000 ≤ pa → number_at ram pa size ≡ o → Leaves ram i (overwritten ram d pa size v o)
over ram d pa size v i None less high e = tt
over ram d pa size v i (Some was) less high e =
    let h = number_is ram pa size was e in
    word_kept ram (with_number ram pa size v) (0x2A00 + 4 * i) (with_number_size ram pa size v h.fits)
    (λ j from to. with_number_beside ram pa size v h.fits j (inl (omega arith)))

beside_ram : (ram : List ℕ) (i : ℕ) (o : Option Device) → Leaves ram i (with_ram ram o)
beside_ram ram i None = tt
beside_ram ram i (Some d) = refl

store_by : (ram : List ℕ) (d : Device) (pa : ℕ) (size : Size) (v i : ℕ) (b : Bool) → i < 192 → 0x50000 ≤ pa →
    Leaves ram i (cond b (overwritten ram d pa size v (number_at ram pa size)) (with_ram ram (device_store d (pa - device_base) size v)))
store_by ram d pa size v i true less high = over ram d pa size v i (number_at ram pa size) less high refl
store_by ram d pa size v i false less high = beside_ram ram i (device_store d (pa - device_base) size v)

stores : (ram : List ℕ) (d : Device) (pa : ℕ) (size : Size) (v i : ℕ) → i < 192 → 0x50000 ≤ pa → Leaves ram i (board_store ram d pa size v)
unfolding board_store
stores ram d pa size v i less high = store_by ram d pa size v i (nat_lt pa device_base) less high

-- what is answered leaves the entry
abbrev Answers : List ℕ → ℕ → Option (ℕ × List ℕ × Device) → Type 0
Answers ram i None = Unit
Answers ram i (Some made) = entry_at made.1 i ≡ entry_at ram i

after_store : (ram : List ℕ) (was i : ℕ) (o : Option (List ℕ × Device)) → Leaves ram i o → Answers ram i (stored_after was o)
after_store ram was i None h = tt
after_store ram was i (Some made) h = h

after_load : (ram : List ℕ) (i : ℕ) (o : Option (ℕ × Device)) → Answers ram i (loaded_from ram o)
after_load ram i None = tt
after_load ram i (Some answer) = refl

after_exchange : (ram : List ℕ) (pa : ℕ) (size : Size) (v i : ℕ) (o : Option (ℕ × Device)) → i < 192 → 0x50000 ≤ pa → Answers ram i (exchanged_after board_store ram pa size v o)
after_exchange ram pa size v i None less high = tt
after_exchange ram pa size v i (Some answer) less high = after_store ram answer.0 i (board_store ram answer.1 pa size v) (stores ram answer.1 pa size v i less high)

answered : (ram : List ℕ) (d : Device) (pa : ℕ) (t : Transfer) (v i : ℕ) → i < 192 → (writes_memory t ≡ true → 0x50000 ≤ pa) → Answers ram i (answers board ram d pa t v)
answered ram d pa (transfers.Load l) v i less high = after_load ram i (board_load ram d pa (loaded_size l))
answered ram d pa (transfers.Store size) v i less high = after_store ram 0 i (board_store ram d pa size v) (stores ram d pa size v i less (high refl))
answered ram d pa (transfers.Exchange e) v i less high = after_exchange ram pa (exchanged_size e) v i (board_load ram d pa (exchanged_size e)) less (high refl)

-- ---- the page that is reached

-- The walk ends at the page of the address, which can be marked.
pub record Ends (ram : List ℕ) (va : ℕ) (a : Access) (page : Page) : Type 0 where
  pub mapped : Mapped
  pub pa : page.pa ≡ mapped.pa
  pub place : page.place ≡ mapped.place
  pub placed : IsPlaced va mapped
  pub target : ℕ
  pub mark : Markable ram mapped.place target
  pub may : permits (rights_of mapped.acc a.user) a.kind ≡ true

abbrev pub IsEnd : List ℕ → ℕ → Access → Result Page MmuFault → Type 0
IsEnd ram va a (Ok page) = Ends ram va a page
IsEnd ram va a (Err e) = Unit

through_ends : (ram : List ℕ) (va : ℕ) (a : Access) (p : Mapped) (may : Bool) → permits (rights_of p.acc a.user) a.kind ≡ may → IsPlaced va p → (t : ℕ) → Markable ram p.place t →
    IsEnd ram va a (if may then Ok (record { pa = p.pa; level = 3; place = p.place }) else Err (record { ft = if a.user && nat_le 6 p.acc then 3 else 2; level = 3; at = access_type a }))
through_ends ram va a p true e at t mark = record { mapped = p; pa = refl; place = refl; placed = at; target = t; mark = mark; may = e }
through_ends ram va a p false e at t mark = tt

reached_ends : (ram : List ℕ) (va : ℕ) (a : Access) (o : Option Mapped) → IfSome o (IsPlaced va) → IfSome o (CanMark ram) → IsEnd ram va a (map_reached va a o)
reached_ends ram va a None at mark = tt
reached_ends ram va a (Some p) at mark = through_ends ram va a p (permits (rights_of p.acc a.user) a.kind) refl at mark.0 mark.1

pub walk_ends : (g : Pages) (ram : List ℕ) (mmu : MmuRegs) (va : ℕ) (a : Access) → AreFew g → root_of mmu ≡ 0x2000 → HasTables g ram → va < 2 ^ 32 → IsEnd ram va a (walked ram (root_of mmu) va a)
unfolding translated
walk_ends g ram mmu va a few root tables small =
    subst (IsEnd ram va a) (sym (ap (λ r. walked ram r va a) root ∙ tables_map g ram few tables va a small))
    (reached_ends ram va a (page_at g va) (placed g few va) (mapped_markable g ram tables few va))

-- ---- a load or a store

-- the entry is marked where bytes moved, and else RAM is as it was
abbrev pub Moves : ℕ → ℕ → Bool → List ℕ → Moved × Memory Device → Type 0
Moves i va store ram (Done v pa, m) = entry_at m.ram i ≡ reached i va store (entry_at ram i)
Moves i va store ram (Fault st, m) = m.ram ≡ ram

move_answer : (ram : List ℕ) (d : Device) (a : Access) (store : Bool) (va i : ℕ) (page : Page) (marks : List ℕ) (o : Option (ℕ × List ℕ × Device)) →
    entry_at marks i ≡ reached i va store (entry_at ram i) → Answers marks i o → Moves i va store ram (move_answered (mem_of ram d) page a o)
move_answer ram d a store va i page marks None marked same = refl
move_answer ram d a store va i page marks (Some made) marked same = same ∙ marked

move_to : (ram : List ℕ) (d : Device) (a : Access) (va i : ℕ) (t : Transfer) (v : ℕ) (r : Result Page MmuFault) → i < 192 →
    ((acc : ℕ) → writes_memory t ≡ true → permits (rights_of acc a.user) a.kind ≡ true → (rights_of acc a.user).write ≡ true) →
    IsEnd ram va a r → Moves i va (writes_memory t) ram (move_through board a t v (mem_of ram d) r)
move_to ram d a va i t v (Err e) less writes end = refl
move_to ram d a va i t v (Ok page) less writes end =
    let marks = marked_ram ram page.place (writes_memory t) in
    move_answer ram d a (writes_memory t) va i page marks (answers board marks d page.pa t v)
    (ap (λ q. entry_at (marked_ram ram q (writes_memory t)) i) end.place ∙ mark_reaches ram va i end.target end.mapped (writes_memory t) less end.placed end.mark)
    (answered marks d page.pa t v i less (λ store. let high = end.placed.high a.user (writes end.mapped.acc store end.may) in let same = end.pa in omega arith))

store_right : (w x : Bool) → (w && x) ≡ true → w ≡ true
store_right true x e = refl
store_right false x e = e

code_writes : (code : Bool) (acc : ℕ) (user : Bool) → permits (rights_of acc user) (if code then code_kind true else data_kind true) ≡ true → (rights_of acc user).write ≡ true
code_writes true acc user e = store_right (rights_of acc user).write (rights_of acc user).run e
code_writes false acc user e = e

-- a store asks for the right to write
access_writes : (n : ℕ) (cpu : Cpu n) (store : Bool) (space : Space) (acc : ℕ) → store ≡ true →
    permits (rights_of acc (access_of n cpu store space).user) (access_of n cpu store space).kind ≡ true →
    (rights_of acc (access_of n cpu store space).user).write ≡ true
access_writes n cpu true Normal acc e may = may
access_writes n cpu true Missing acc e may = may
access_writes n cpu true (Alternate asi) acc e may = code_writes (is_code_space asi) acc (access_of n cpu true (Alternate asi)).user may
access_writes n cpu false space acc e may = absurd (cc)

pub move_marks : (n : ℕ) (g : Pages) (ram : List ℕ) (d : Device) (mmu : MmuRegs) (cpu : Cpu n) (space : Space) (va i : ℕ) (t : Transfer) (v : ℕ) → AreFew g →
    root_of mmu ≡ 0x2000 → HasTables g ram → va < 2 ^ 32 → i < 192 →
    Moves i va (writes_memory t) ram (moves board mmu va (access_of n cpu (writes_memory t) space) t v (mem_of ram d))
unfolding moves
move_marks n g ram d mmu cpu space va i t v few root tables small less =
    let a = access_of n cpu (writes_memory t) space in
    move_to ram d a va i t v (walked ram (root_of mmu) va a) less (λ acc store may. access_writes n cpu (writes_memory t) space acc store may) (walk_ends g ram mmu va a few root tables small)
