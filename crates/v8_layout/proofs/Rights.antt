-- What user code may do where, by the ACC of the pages.
use Rattle.std.proofs.Common.{◌≡◌, ℕ, ◌+◌, ◌-◌, ◌*◌, ◌/◌, inl, Bool, true, false, cond, Some, None, Ok, Err, refl, sym, ap, ◌∙◌, arith}
use Rattle.std.specs.Prelude.{◌&&◌, ◌||◌, is_ok}
use Rattle.v8_mmu.specs.Permissions.{permits, rights_of}
use Rattle.v8_mmu.specs.Walked.{Page}
use Rattle.v8_mmu.specs.declared.access.Access.{Access}
use Rattle.v8_mmu.specs.declared.translation.MmuFault.{MmuFault}
use Rattle.v8_layout.specs.Layout.{Pages, AreFew, data_count, is_writable}
use Rattle.v8_layout.specs.AddressMap.{Mapped, code_page, data_number, data_page, device_page, handlers_page, in_data, in_stack, mapped, may_be_read}
use Rattle.v8_layout.specs.AddressMap.{may_be_written, page_at, reached, stack_page, through, translated, trap_table_page, within}
use Rattle.v8_layout.specs.Laws.{RightsHold, StoresAreForbidden, user_load, user_store}
use Rattle.v8_layout.proofs.Map.{data_at, inside_is, outside, tables_map}

-- ---- what the address map allows an access

abbrev is_allowed : Access → Mapped → Bool
is_allowed a p = permits (rights_of p.acc a.user) a.kind

either_ok : (b : Bool) (page : Page) (fault : MmuFault) → is_ok (cond b (Ok page) (Err fault)) ≡ b
either_ok true page fault = refl
either_ok false page fault = refl

through_ok : (a : Access) (p : Mapped) → is_ok (through a p) ≡ is_allowed a p
through_ok a p = either_ok (is_allowed a p) (record { pa = p.pa; level = 3; place = p.place }) _

-- code, data, stack, trap table, handlers, device
chain_ok : (va : ℕ) (a : Access) (c d s t h v : Bool) (pc pd ps pt ph pv : Mapped) →
    is_ok (reached va a (cond c (Some pc) (cond d (Some pd) (cond s (Some ps) (cond t (Some pt) (cond h (Some ph) (cond v (Some pv) None)))))))
    ≡ cond c (is_allowed a pc) (cond d (is_allowed a pd) (cond s (is_allowed a ps) (cond t (is_allowed a pt) (cond h (is_allowed a ph) (cond v (is_allowed a pv) false)))))
chain_ok va a true d s t h v pc pd ps pt ph pv = through_ok a pc
chain_ok va a false true s t h v pc pd ps pt ph pv = through_ok a pd
chain_ok va a false false true t h v pc pd ps pt ph pv = through_ok a ps
chain_ok va a false false false true h v pc pd ps pt ph pv = through_ok a pt
chain_ok va a false false false false true v pc pd ps pt ph pv = through_ok a ph
chain_ok va a false false false false false true pc pd ps pt ph pv = through_ok a pv
chain_ok va a false false false false false false pc pd ps pt ph pv = refl

-- no page of the system is a user's
no_system : (t h v : Bool) → cond t false (cond h false (cond v false false)) ≡ false
no_system true h v = refl
no_system false true v = refl
no_system false false true = refl
no_system false false false = refl

-- w: what a page of data allows
by_parts : (c d s t h v w : Bool) → (c ≡ true → (d ≡ false) × (s ≡ false)) → (d ≡ true → s ≡ false) →
    cond c false (cond d w (cond s true (cond t false (cond h false (cond v false false))))) ≡ (d && w) || s
by_parts true d s t h v w code apart = let no = code refl in rw no.0 (rw no.1 refl)
by_parts false true s t h v true code apart = refl
by_parts false true s t h v false code apart = sym (apart refl)
by_parts false false true t h v w code apart = refl
by_parts false false false t h v w code apart = no_system t h v

data_reads : (w : Bool) → permits (rights_of (cond w 1 0) true) user_load.kind ≡ true
data_reads true = refl
data_reads false = refl

data_writes : (w : Bool) → permits (rights_of (cond w 1 0) true) user_store.kind ≡ w
data_writes true = refl
data_writes false = refl

and_true : (b c : Bool) → (b && true) || c ≡ b || c
and_true true c = refl
and_true false c = refl

-- ---- the parts are apart

code_apart : (g : Pages) (va : ℕ) → AreFew g → within 0x40000 (0x40000 + 4096 * g.code_count) va ≡ true → (in_data g va ≡ false) × (in_stack g va ≡ false)
code_apart g va few e =
    let s = inside_is 0x40000 (0x40000 + 4096 * g.code_count) va e in
    let high = s.1 in
    let code = few.code in
    let stack = few.stack in
    (outside 0x80000 (0x80000 + 4096 * data_count g) va (inl (omega arith)), outside (0x100000 - 4096 * g.stack_count) 0x100000 va (inl (omega arith)))

data_apart : (g : Pages) (va : ℕ) → AreFew g → in_data g va ≡ true → in_stack g va ≡ false
data_apart g va few e =
    let s = inside_is 0x80000 (0x80000 + 4096 * data_count g) va e in
    let high = s.1 in
    let pages = few.data_pages in
    let stack = few.stack in
    outside (0x100000 - 4096 * g.stack_count) 0x100000 va (inl (omega arith))

-- ---- the laws

load_ok : (g : Pages) (va : ℕ) → AreFew g → is_ok (translated g va user_load) ≡ may_be_read g va
unfolding translated page_at
load_ok g va few =
    let c = within 0x40000 (0x40000 + 4096 * g.code_count) va in
    let t = within 0xF0000000 0xF0001000 va in
    let h = within 0xF0001000 0xF0002000 va in
    let v = within 0xF0010000 0xF0011000 va in
    chain_ok va user_load c (in_data g va) (in_stack g va) t h v (code_page va) (data_page g va) (stack_page va) (trap_table_page va) (handlers_page va) (device_page va)
    ∙ ap (λ w. cond c false (cond (in_data g va) w (cond (in_stack g va) true (cond t false (cond h false (cond v false false)))))) (data_reads (is_writable g (data_number va)))
    ∙ by_parts c (in_data g va) (in_stack g va) t h v true (code_apart g va few) (data_apart g va few) ∙ and_true (in_data g va) (in_stack g va)

store_ok : (g : Pages) (va : ℕ) → AreFew g → is_ok (translated g va user_store) ≡ may_be_written g va
unfolding translated page_at
store_ok g va few =
    let c = within 0x40000 (0x40000 + 4096 * g.code_count) va in
    let t = within 0xF0000000 0xF0001000 va in
    let h = within 0xF0001000 0xF0002000 va in
    let v = within 0xF0010000 0xF0011000 va in
    chain_ok va user_store c (in_data g va) (in_stack g va) t h v (code_page va) (data_page g va) (stack_page va) (trap_table_page va) (handlers_page va) (device_page va)
    ∙ ap (λ w. cond c false (cond (in_data g va) w (cond (in_stack g va) true (cond t false (cond h false (cond v false false)))))) (data_writes (is_writable g (data_number va)))
    ∙ by_parts c (in_data g va) (in_stack g va) t h v (is_writable g (data_number va)) (code_apart g va few) (data_apart g va few)

pub rights_hold : RightsHold
rights_hold g ram va few tables small =
    (ap is_ok (tables_map g ram few tables va user_load small) ∙ load_ok g va few, ap is_ok (tables_map g ram few tables va user_store small) ∙ store_ok g va few)

-- read and not written: a page of data that may not be written
pub is_fixed : (d w s : Bool) → (d || s) ≡ true → ((d && w) || s) ≡ false → (d ≡ true) × (w ≡ false)
is_fixed true true s read written = absurd (let no : true ≡ false = written in cc)
is_fixed true false s read written = (refl, refl)
is_fixed false w true read written = absurd (let no : true ≡ false = written in cc)
is_fixed false w false read written = absurd (let no : false ≡ true = read in cc)

forbidden_by : (w : Bool) (pa place : ℕ) → w ≡ false → through user_store (mapped pa (cond w 1 0) place) ≡ Err (record { ft = 2; level = 3; at = 4 })
forbidden_by true pa place e = absurd (let no : true ≡ false = e in cc)
forbidden_by false pa place e = refl

pub stores_are_forbidden : StoresAreForbidden
unfolding translated
stores_are_forbidden g ram va few tables small read written =
    let parts = is_fixed (in_data g va) (is_writable g (data_number va)) (in_stack g va) read written in
    let s = inside_is 0x80000 (0x80000 + 4096 * data_count g) va parts.0 in
    tables_map g ram few tables va user_store small ∙ ap (reached va user_store) (data_at g va few s.0 s.1)
    ∙ forbidden_by (is_writable g (data_number va)) (va - 0x30000) (0x2B00 + 4 * ((va - 0x80000) / 4096)) parts.1
