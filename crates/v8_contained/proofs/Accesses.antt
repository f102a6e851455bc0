-- What loads and stores of a loaded board leave: all that stays as it was loaded, and the device, but for words of the device's page.
use Rattle.std.proofs.Common.{◌≡◌, ℕ, ◌+◌, ◌-◌, ◌*◌, ◌/◌, ◌%◌, ◌^◌, ◌<◌, ◌≤◌, ◌⊎◌, inl, inr, Bool, true, false, cond, List, Option, Some, None, Result, Ok, Err, refl, sym, ap, ◌∙◌, subst, arith}
use Rattle.std.specs.Prelude.{◌&&◌, ◌||◌, nat_lt}
use Rattle.std.proofs.lemmas.Bool.Decides.{nat_tests}
use Rattle.v8_core.specs.Size.{Size}
use Rattle.v8_core.specs.Size.TheVariants.{Byte, Half, Word, Double}
use Rattle.v8_core.specs.Transfers.{bytes_in, size_of, loaded_size, exchanged_size, writes_memory}
use Rattle.v8_core.specs.Transfer.{Transfer}
use Rattle.v8_core.specs.Transfer.TheVariants as transfers
use Rattle.v8_core.specs.Meaning.{exchanged_after, stored_after}
use Rattle.v8_core.specs.Ram.{number_at}
use Rattle.v8_core.specs.Paths.{marked_ram}
use Rattle.v8_core.specs.Permissions.{permits, rights_of}
use Rattle.v8_core.specs.Walked.{Page, walked, root_of}
use Rattle.v8_core.specs.Access.{Access}
use Rattle.v8_core.specs.MmuRegs.{MmuRegs}
use Rattle.v8_core.specs.MmuFault.{MmuFault}
use Rattle.v8_core.specs.declared.access.Moved.{Moved}
use Rattle.v8_core.specs.declared.access.Moved.TheVariants.{Done, Fault}
use Rattle.v8_core.specs.Memory.{Memory, loaded_from, answers, moves, move_through, move_answered}
use Rattle.v8_core.specs.Accesses.{data_kind}
use Rattle.v8_loaded.specs.Layout.{Pages, AreFew, data_count, is_writable}
use Rattle.v8_loaded.specs.AddressMap.{data_number, in_data, in_stack, mapped}
use Rattle.v8_loaded.proofs.Map.{inside}
use Rattle.v8_loaded.specs.Board.{Device, board, board_load, board_store, device_load, device_store, device_base, is_word, beside, overwritten, with_ram}
use Rattle.v8_contained.specs.Contained.{Contents, IsKept, may_be_reached}
use Rattle.v8_contained.proofs.Reaches.{Reached, Kind, IsFixed, IsWritable, Code, Fixed, Writable, System, Registers, reaches}
use Rattle.v8_contained.proofs.Stays.{IsFree, marked_stays, number_is, number_stored}

abbrev pub mem_of : List ℕ → Device → Memory Device
mem_of ram d = record { ram = ram; device = d }

-- ---- the bus

-- an answer that leaves the device, from RAM
abbrev LoadsSame : Device → ℕ → Size → Option (ℕ × Device) → Type 0
LoadsSame d pa size None = Unit
LoadsSame d pa size (Some x) = (x.1 ≡ d) × (pa % bytes_in size ≡ 0)

beside_same : (ram : List ℕ) (d : Device) (pa : ℕ) (size : Size) (o : Option ℕ) → number_at ram pa size ≡ o → LoadsSame d pa size (beside d o)
beside_same ram d pa size None e = tt
beside_same ram d pa size (Some v) e = (refl, (number_is ram pa size v e).aligned)

device_silent : (d : Device) (pa : ℕ) (size : Size) → is_word size ≡ false → LoadsSame d pa size (device_load d (pa - device_base) size)
unfolding device_load
device_silent d pa size e = rw e tt

-- RAM, or no word of the device
abbrev pub IsCalm : ℕ → Size → Type 0
IsCalm pa size = (pa < 0x100000000) ⊎ (is_word size ≡ false)

load_by : (ram : List ℕ) (d : Device) (pa : ℕ) (size : Size) (b : Bool) → nat_lt pa device_base ≡ b → IsCalm pa size →
    LoadsSame d pa size (cond b (beside d (number_at ram pa size)) (device_load d (pa - device_base) size))
load_by ram d pa size true e calm = beside_same ram d pa size (number_at ram pa size) refl
load_by ram d pa size false e (inl low) = let no : 0x100000000 ≤ pa = grind (arith, nat_tests) in absurd (omega arith)
load_by ram d pa size false e (inr silent) = device_silent d pa size silent

board_loads : (ram : List ℕ) (d : Device) (pa : ℕ) (size : Size) → IsCalm pa size → LoadsSame d pa size (board_load ram d pa size)
unfolding board_load
board_loads ram d pa size calm = load_by ram d pa size (nat_lt pa device_base) refl calm

abbrev StoresSame : ℕ → Pages → Contents → Device → ℕ → Size → Option (List ℕ × Device) → Type 0
StoresSame n g held d pa size None = Unit
StoresSame n g held d pa size (Some x) = IsKept n g held x.0 × (x.1 ≡ d) × (pa % bytes_in size ≡ 0)

over_same : (n : ℕ) (g : Pages) (held : Contents) (ram : List ℕ) (d : Device) (pa : ℕ) (size : Size) (v : ℕ) (o : Option ℕ) → AreFew g → IsKept n g held ram →
    IsFree g pa → number_at ram pa size ≡ o → StoresSame n g held d pa size (overwritten ram d pa size v o)
over_same n g held ram d pa size v None few kept free e = tt
over_same n g held ram d pa size v (Some was) few kept free e = (number_stored n g held ram pa size was v few kept e free, refl, (number_is ram pa size was e).aligned)

device_deaf : (n : ℕ) (g : Pages) (held : Contents) (ram : List ℕ) (d : Device) (pa : ℕ) (size : Size) (v : ℕ) → is_word size ≡ false →
    StoresSame n g held d pa size (with_ram ram (device_store d (pa - device_base) size v))
unfolding device_store
device_deaf n g held ram d pa size v e = rw e tt

store_by : (n : ℕ) (g : Pages) (held : Contents) (ram : List ℕ) (d : Device) (pa : ℕ) (size : Size) (v : ℕ) (b : Bool) → AreFew g → IsKept n g held ram →
    IsFree g pa → nat_lt pa device_base ≡ b → IsCalm pa size →
    StoresSame n g held d pa size (cond b (overwritten ram d pa size v (number_at ram pa size)) (with_ram ram (device_store d (pa - device_base) size v)))
store_by n g held ram d pa size v true few kept free e calm = over_same n g held ram d pa size v (number_at ram pa size) few kept free refl
store_by n g held ram d pa size v false few kept free e (inl less) = let no : 0x100000000 ≤ pa = grind (arith, nat_tests) in absurd (omega arith)
store_by n g held ram d pa size v false few kept free e (inr silent) = device_deaf n g held ram d pa size v silent

board_stores : (n : ℕ) (g : Pages) (held : Contents) (ram : List ℕ) (d : Device) (pa : ℕ) (size : Size) (v : ℕ) → AreFew g → IsKept n g held ram → IsFree g pa →
    IsCalm pa size → StoresSame n g held d pa size (board_store ram d pa size v)
unfolding board_store
board_stores n g held ram d pa size v few kept free calm = store_by n g held ram d pa size v (nat_lt pa device_base) few kept free refl calm

-- ---- what each kind of access may reach

-- what its right allows, or, for the supervisor, something that no word is moved to or from
abbrev pub Owns : Pages → Bool → Bool → ℕ → Size → Type 0
Owns g true store va size = (j : ℕ) → j < bytes_in size → may_be_reached g store (va + j) ≡ true
Owns g false store va size = Unit

-- the supervisor moves double words alone
abbrev pub IsQuiet : Bool → Size → Type 0
IsQuiet true size = Unit
IsQuiet false size = is_word size ≡ false

either_left : (b c : Bool) → b ≡ true → (b || c) ≡ true
either_left true c e = refl
either_left false c e = absurd (let no : false ≡ true = e in cc)

either_right : (b c : Bool) → c ≡ true → (b || c) ≡ true
either_right true c e = refl
either_right false c e = e

both_true : (b c : Bool) → b ≡ true → c ≡ true → (b && c) ≡ true
both_true true c e f = f
both_true false c e f = e

-- a byte of the stack, one of data, and one of a page of data that may be written
stack_reached : (g : Pages) (va : ℕ) (store : Bool) → 0x100000 ≤ va + 4096 * g.stack_count → va < 0x100000 → may_be_reached g store va ≡ true
stack_reached g va true low high = either_right (in_data g va && is_writable g (data_number va)) (in_stack g va) (inside (0x100000 - 4096 * g.stack_count) 0x100000 va (omega arith) high)
stack_reached g va false low high = either_right (in_data g va) (in_stack g va) (inside (0x100000 - 4096 * g.stack_count) 0x100000 va (omega arith) high)

data_reached : (g : Pages) (va : ℕ) → 0x80000 ≤ va → va < 0x80000 + 4096 * data_count g → may_be_reached g false va ≡ true
data_reached g va low high = either_left (in_data g va) (in_stack g va) (inside 0x80000 (0x80000 + 4096 * data_count g) va low high)

free_reached : (g : Pages) (va : ℕ) (store : Bool) → 0x80000 ≤ va → va < 0x80000 + 4096 * data_count g → is_writable g ((va - 0x80000) / 4096) ≡ true → may_be_reached g store va ≡ true
free_reached g va true low high right =
    either_left (in_data g va && is_writable g (data_number va)) (in_stack g va)
    (both_true (in_data g va) (is_writable g (data_number va)) (inside 0x80000 (0x80000 + 4096 * data_count g) va low high) right)
free_reached g va false low high right = data_reached g va low high

-- the bytes of an aligned number lie in one page
one_page : (va pa j : ℕ) (size : Size) → pa % bytes_in size ≡ 0 → pa ≡ va - 0x30000 → 0x80000 ≤ va → j < bytes_in size → (va + j - 0x80000) / 4096 ≡ (va - 0x80000) / 4096
one_page va pa j Byte whole is low less = omega arith
one_page va pa j Half whole is low less = omega arith
one_page va pa j Word whole is low less = omega arith
one_page va pa j Double whole is low less = omega arith

in_stack_yet : (va pa j : ℕ) (size : Size) → pa % bytes_in size ≡ 0 → pa ≡ va - 0x60000 → 0xF0000 ≤ va → va < 0x100000 → j < bytes_in size → va + j < 0x100000
in_stack_yet va pa j Byte whole is low high less = omega arith
in_stack_yet va pa j Half whole is low high less = omega arith
in_stack_yet va pa j Word whole is low high less = omega arith
in_stack_yet va pa j Double whole is low high less = omega arith

-- what an access of each of these pages reaches
fixed_owns : (g : Pages) (va pa acc place : ℕ) (size : Size) → IsFixed g va (mapped pa acc place) → pa % bytes_in size ≡ 0 → Owns g true false va size
fixed_owns g va pa acc place size h whole j less =
    let low = h.low in
    let high = h.high in
    let same = one_page va pa j size whole h.pa low less in
    data_reached g (va + j) (omega arith) (omega arith)

writable_owns : (g : Pages) (store : Bool) (va pa acc place : ℕ) (size : Size) → AreFew g → IsWritable g va (mapped pa acc place) → pa % bytes_in size ≡ 0 → Owns g true store va size
writable_owns g store va pa acc place size few h whole j less = elim h.where_ [
  | inl part ↦
      let low = part.0 in
      let high = part.1 in
      let same = one_page va pa j size whole part.2 low less in
      free_reached g (va + j) store (omega arith) (omega arith) (ap (is_writable g) same ∙ part.3)
  | inr stack ↦
      let low = stack.0 in
      let most = few.stack in
      let high = in_stack_yet va pa j size whole stack.2 (omega arith) stack.1 less in
      stack_reached g (va + j) store (omega arith) high
]

-- what an allowed load or store of a page of this kind may rely on
pub record Safe (g : Pages) (user store : Bool) (va pa : ℕ) (size : Size) : Type 0 where
  pub calm : IsCalm pa size
  pub free : store ≡ true → IsFree g pa
  pub owns : pa % bytes_in size ≡ 0 → Owns g user store va size

no_store : {A : Type 0} → false ≡ true → A
no_store e = cc

writable_safe : (g : Pages) (user store : Bool) (va pa acc place : ℕ) (size : Size) → AreFew g → IsWritable g va (mapped pa acc place) → Safe g user store va pa size
writable_safe g user store va pa acc place size few h = let high = h.high in record { calm = inl (omega arith); free = λ e. h.free; owns = by_user user }
  where
    by_user : (b : Bool) → pa % bytes_in size ≡ 0 → Owns g b store va size
    by_user true whole = writable_owns g store va pa acc place size few h whole
    by_user false whole = tt

fixed_safe : (g : Pages) (user : Bool) (va pa acc place : ℕ) (size : Size) → AreFew g → IsFixed g va (mapped pa acc place) → Safe g user false va pa size
fixed_safe g user va pa acc place size few h =
    let high = h.high in
    let most = few.data_pages in
    let is = h.pa in
    record { calm = inl (omega arith); free = λ e. no_store e; owns = by_user user }
  where
    by_user : (b : Bool) → pa % bytes_in size ≡ 0 → Owns g b false va size
    by_user true whole = fixed_owns g va pa acc place size h whole
    by_user false whole = tt

safe : (g : Pages) (user store : Bool) (va pa acc place : ℕ) (size : Size) → AreFew g → IsQuiet user size → Kind g va (mapped pa acc place) →
    permits (rights_of acc user) (data_kind store) ≡ true → Safe g user store va pa size
safe g user store va pa acc place size few quiet (Writable h) may = writable_safe g user store va pa acc place size few h
safe g user false va pa acc place size few quiet (Fixed h) may = fixed_safe g user va pa acc place size few h
safe g true true va pa acc place size few quiet (Fixed h) may = absurd (let no : false ≡ true = rw h.acc at may in cc)
safe g false true va pa acc place size few quiet (Fixed h) may = absurd (let no : false ≡ true = rw h.acc at may in cc)
safe g true false va pa acc place size few quiet (Code h) may = absurd (let no : false ≡ true = rw h.acc at may in cc)
safe g true false va pa acc place size few quiet (System h) may = absurd (let no : false ≡ true = rw h.acc at may in cc)
safe g true false va pa acc place size few quiet (Registers h) may = absurd (let no : false ≡ true = rw h.acc at may in cc)
safe g true true va pa acc place size few quiet (Code h) may = absurd (let no : false ≡ true = rw h.acc at may in cc)
safe g true true va pa acc place size few quiet (System h) may = absurd (let no : false ≡ true = rw h.acc at may in cc)
safe g true true va pa acc place size few quiet (Registers h) may = absurd (let no : false ≡ true = rw h.acc at may in cc)
safe g false false va pa acc place size few quiet (Code h) may = absurd (let no : false ≡ true = rw h.acc at may in cc)
safe g false false va pa acc place size few quiet (System h) may = let high = h.high in record { calm = inl (omega arith); free = λ e. no_store e; owns = λ whole. tt }
safe g false false va pa acc place size few quiet (Registers h) may = record { calm = inr quiet; free = λ e. no_store e; owns = λ whole. tt }
safe g false true va pa acc place size few quiet (Code h) may = absurd (let no : false ≡ true = rw h.acc at may in cc)
safe g false true va pa acc place size few quiet (System h) may = absurd (let no : false ≡ true = rw h.acc at may in cc)
safe g false true va pa acc place size few quiet (Registers h) may =
    let far = h.pa in record { calm = inr quiet; free = λ e. record { low = omega arith; right = λ under. absurd (omega arith) }; owns = λ whole. tt }

-- ---- what the bus makes of a transfer

abbrev SwapsSame : ℕ → Pages → Contents → Device → ℕ → Size → Option (ℕ × List ℕ × Device) → Type 0
SwapsSame n g held d pa size None = Unit
SwapsSame n g held d pa size (Some x) = IsKept n g held x.1 × (x.2 ≡ d) × (pa % bytes_in size ≡ 0)

stored_same : (n : ℕ) (g : Pages) (held : Contents) (d : Device) (pa : ℕ) (size : Size) (was : ℕ) (o : Option (List ℕ × Device)) →
    StoresSame n g held d pa size o → SwapsSame n g held d pa size (stored_after was o)
stored_same n g held d pa size was None same = tt
stored_same n g held d pa size was (Some x) same = same

exchange_same : (n : ℕ) (g : Pages) (held : Contents) (ram : List ℕ) (d : Device) (pa : ℕ) (size : Size) (v : ℕ) (o : Option (ℕ × Device)) → AreFew g →
    IsKept n g held ram → IsFree g pa → IsCalm pa size → LoadsSame d pa size o → SwapsSame n g held d pa size (exchanged_after board_store ram pa size v o)
exchange_same n g held ram d pa size v None few kept free calm same = tt
exchange_same n g held ram d pa size v (Some x) few kept free calm same =
    subst (λ e. SwapsSame n g held d pa size (stored_after x.0 (board_store ram e pa size v))) (sym same.0)
    (stored_same n g held d pa size x.0 (board_store ram d pa size v) (board_stores n g held ram d pa size v few kept free calm))

loaded_same : (n : ℕ) (g : Pages) (held : Contents) (ram : List ℕ) (d : Device) (pa : ℕ) (size : Size) (o : Option (ℕ × Device)) → IsKept n g held ram →
    LoadsSame d pa size o → SwapsSame n g held d pa size (loaded_from ram o)
loaded_same n g held ram d pa size None kept same = tt
loaded_same n g held ram d pa size (Some x) kept same = (kept, same.0, same.1)

-- a load may be from anywhere that is calm, the others go to where nothing lies that stays
answers_same : (n : ℕ) (g : Pages) (held : Contents) (ram : List ℕ) (d : Device) (pa : ℕ) (t : Transfer) (v : ℕ) → AreFew g → IsKept n g held ram →
    (writes_memory t ≡ true → IsFree g pa) → IsCalm pa (size_of t) →
    SwapsSame n g held d pa (size_of t) (answers board ram d pa t v)
answers_same n g held ram d pa (transfers.Load l) v few kept free calm =
    loaded_same n g held ram d pa (loaded_size l) (board_load ram d pa (loaded_size l)) kept (board_loads ram d pa (loaded_size l) calm)
answers_same n g held ram d pa (transfers.Store size) v few kept free calm =
    stored_same n g held d pa size 0 (board_store ram d pa size v) (board_stores n g held ram d pa size v few kept (free refl) calm)
answers_same n g held ram d pa (transfers.Exchange e) v few kept free calm =
    let size = exchanged_size e in
    exchange_same n g held ram d pa size v (board_load ram d pa size) few kept (free refl) calm (board_loads ram d pa size calm)

-- ---- transfers

abbrev pub OnDone : Moved → Type 0 → Type 0
OnDone (Done v pa) P = P
OnDone (Fault st) P = Unit

-- what a load, a store or a swap leaves: RAM keeps what is held, the device stays, and what was reached is the mode's own
pub record MoveIs (n : ℕ) (g : Pages) (held : Contents) (d : Device) (user store : Bool) (va : ℕ) (size : Size) (r : Moved × Memory Device) : Type 0 where
  pub kept : IsKept n g held r.1.ram
  pub device : r.1.device ≡ d
  pub owns : OnDone r.0 (Owns g user store va size)

move_answer : (n : ℕ) (g : Pages) (held : Contents) (ram : List ℕ) (d : Device) (a : Access) (store : Bool) (va : ℕ) (size : Size) (page : Page) (o : Option (ℕ × List ℕ × Device)) →
    IsKept n g held ram → SwapsSame n g held d page.pa size o → (page.pa % bytes_in size ≡ 0 → Owns g a.user store va size) →
    MoveIs n g held d a.user store va size (move_answered (mem_of ram d) page a o)
move_answer n g held ram d a store va size page None kept same owns = record { kept = kept; device = refl; owns = tt }
move_answer n g held ram d a store va size page (Some x) kept same owns = record { kept = same.0; device = same.1; owns = owns same.2 }

-- an access of data, in this mode
abbrev pub data_access : Bool → Transfer → Access
data_access user t = record { user = user; kind = data_kind (writes_memory t) }

move_reached : (n : ℕ) (g : Pages) (held : Contents) (ram : List ℕ) (d : Device) (user : Bool) (va : ℕ) (t : Transfer) (v : ℕ) (r : Result Page MmuFault) →
    AreFew g → IsKept n g held ram → IsQuiet user (size_of t) → Reached g ram va (data_access user t) r →
    MoveIs n g held d user (writes_memory t) va (size_of t) (move_through board (data_access user t) t v (mem_of ram d) r)
move_reached n g held ram d user va t v (Err e) few kept quiet reach = record { kept = kept; device = refl; owns = tt }
move_reached n g held ram d user va t v (Ok page) few kept quiet reach =
    let s = safe g user (writes_memory t) va page.pa reach.acc page.place (size_of t) few quiet reach.kind reach.may in
    let marks = marked_ram ram page.place (writes_memory t) in
    move_answer n g held ram d (data_access user t) (writes_memory t) va (size_of t) page (answers board marks d page.pa t v) kept
    (answers_same n g held marks d page.pa t v few (marked_stays n g held ram page.place reach.target (writes_memory t) kept reach.mark) s.free s.calm) s.owns

pub move_is : (n : ℕ) (g : Pages) (held : Contents) (ram : List ℕ) (d : Device) (mmu : MmuRegs) (user : Bool) (va : ℕ) (t : Transfer) (v : ℕ) → AreFew g →
    root_of mmu ≡ 0x2000 → IsKept n g held ram → va < 2 ^ 32 → IsQuiet user (size_of t) →
    MoveIs n g held d user (writes_memory t) va (size_of t) (moves board mmu va (data_access user t) t v (mem_of ram d))
unfolding moves
move_is n g held ram d mmu user va t v few root kept small quiet =
    let a : Access = data_access user t in
    move_reached n g held ram d user va t v (walked ram (root_of mmu) va a) few kept quiet (reaches n g held ram mmu va a few root kept small)
