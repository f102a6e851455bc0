-- A turn of user code.
use Rattle.std.proofs.Common.{◌≡◌, ℕ, ◌+◌, ◌*◌, ◌%◌, ◌^◌, ◌<◌, ◌≤◌, ◌⊎◌, inl, inr, Bool, true, false, List, Option, Some, None, Result, Ok, Err, refl, sym, ap, ◌∙◌, subst, arith, lit<}
use Rattle.std.specs.Prelude.{not}
use Rattle.v8_core.specs.Table.{meaning}
use Rattle.v8_core.specs.Operations.{operation_of}
use Rattle.v8_core.specs.Operation.{Operation}
use Rattle.v8_core.specs.Ram.{entry_of}
use Rattle.v8_core.specs.Paths.{marked_ram}
use Rattle.v8_core.specs.Permissions.{permits, rights_of}
use Rattle.v8_core.specs.Walked.{Page, walked, root_of}
use Rattle.v8_core.specs.Access.{Access}
use Rattle.v8_core.specs.AccessKind.TheVariants as kinds
use Rattle.v8_core.specs.Stop.{Stop}
use Rattle.v8_core.specs.MmuFault.{MmuFault}
use Rattle.v8_core.specs.MmuRegs.{MmuRegs}
use Rattle.v8_mmu.proofs.RamLemmas.{entry_is}
use Rattle.v8_core.specs.Windows.{trapped}
use Rattle.v8_core.specs.Cpu.{Cpu}
use Rattle.v8_core.specs.Effects.{advanced}
use Rattle.v8_core.specs.Traps.{first_trap, entered}
use Rattle.v8_core.specs.declared.turn.DataAccess.{DataAccess}
use Rattle.v8_core.specs.declared.turn.Event.TheVariants.{Annulled}
use Rattle.v8_core.specs.declared.turn.Outcome.{Outcome}
use Rattle.v8_core.specs.Memory.{fetches, fetch_through, fetch_answered}
use Rattle.v8_core.specs.Accesses.{World, world, is_user, faulted}
use Rattle.v8_core.specs.Steps.{executes, executes_or, proceeds, attempts, turn_of, ends, tries, skipped, goes_on, next}
use Rattle.v8_loaded.specs.Layout.{Pages, AreFew}
use Rattle.v8_loaded.specs.AddressMap.{mapped}
use Rattle.v8_loaded.specs.Board.{Device, board}
use Rattle.v8_contained.specs.Contained.{Contents, IsKept, IsUser, IsSupervisor, IsContained, Enters, IsOwn, IsOwnFetch, IsOwnAccess, TurnIs}
use Rattle.v8_contained.proofs.Shapes.{shaped_trapped}
use Rattle.v8_contained.proofs.Reaches.{Reached, Kind, Code, Fixed, Writable, System, Registers, reaches}
use Rattle.v8_contained.proofs.Stays.{marked_stays}
use Rattle.v8_contained.proofs.Users.{UserEnds, user_acts, not_privileged, trap_small, user_faulted, user_goes}

-- ---- the fetch

abbrev pub fetch_by : Bool → Access
fetch_by user = record { user = user; kind = kinds.Fetch }

abbrev OnWord : Result ℕ ℕ → Type 0 → Type 0
OnWord (Ok w) P = P
OnWord (Err st) P = Unit

abbrev InCode : Pages → ℕ → Type 0
InCode g va = (0x40000 ≤ va) × (va + 4 ≤ 0x40000 + 4096 * g.code_count)

-- what a fetch of user code leaves: RAM keeps what is held, and a word that was fetched lies in the code
pub record FetchIs (n : ℕ) (g : Pages) (held : Contents) (va : ℕ) (r : Result ℕ ℕ × List ℕ) : Type 0 where
  pub kept : IsKept n g held r.1
  pub own : OnWord r.0 (InCode g va)

in_code : (g : Pages) (va pa acc place : ℕ) → Kind g va (mapped pa acc place) → permits (rights_of acc true) kinds.Fetch ≡ true → pa % 4 ≡ 0 → InCode g va
in_code g va pa acc place (Code h) may whole = let low = h.low in let high = h.high in let is = h.pa in (low, omega arith)
in_code g va pa acc place (Fixed h) may whole = absurd (let no : false ≡ true = rw h.acc at may in cc)
in_code g va pa acc place (Writable h) may whole = absurd (let no : false ≡ true = rw h.acc at may in cc)
in_code g va pa acc place (System h) may whole = absurd (let no : false ≡ true = rw h.acc at may in cc)
in_code g va pa acc place (Registers h) may whole = absurd (let no : false ≡ true = rw h.acc at may in cc)

fetch_answer : (n : ℕ) (g : Pages) (held : Contents) (ram marks : List ℕ) (va : ℕ) (page : Page) (o p : Option ℕ) → IsKept n g held ram →
    IsKept n g held marks → entry_of ram page.pa ≡ o → (page.pa % 4 ≡ 0 → InCode g va) → FetchIs n g held va (fetch_answered ram page (fetch_by true) marks o p)
fetch_answer n g held ram marks va page None p kept after e own = record { kept = kept; own = tt }
fetch_answer n g held ram marks va page (Some w) None kept after e own = record { kept = kept; own = tt }
fetch_answer n g held ram marks va page (Some w) (Some x) kept after e own = record { kept = after; own = own (entry_is ram page.pa w e).0.aligned }

fetch_reached : (n : ℕ) (g : Pages) (held : Contents) (ram : List ℕ) (va : ℕ) (r : Result Page MmuFault) → IsKept n g held ram →
    Reached g ram va (fetch_by true) r → FetchIs n g held va (fetch_through (fetch_by true) ram r)
fetch_reached n g held ram va (Err e) kept reach = record { kept = kept; own = tt }
fetch_reached n g held ram va (Ok page) kept reach =
    let marks = marked_ram ram page.place false in
    fetch_answer n g held ram marks va page (entry_of ram page.pa) (entry_of marks page.pa) kept
    (marked_stays n g held ram page.place reach.target false kept reach.mark) refl (in_code g va page.pa reach.acc page.place reach.kind reach.may)

pub fetch_is : (n : ℕ) (g : Pages) (held : Contents) (ram : List ℕ) (mmu : MmuRegs) (va : ℕ) → AreFew g → root_of mmu ≡ 0x2000 → IsKept n g held ram →
    va < 2 ^ 32 → FetchIs n g held va (fetches mmu va (fetch_by true) ram)
unfolding fetches
fetch_is n g held ram mmu va few root kept small = fetch_reached n g held ram va (walked ram (root_of mmu) va (fetch_by true)) kept (reaches n g held ram mmu va (fetch_by true) few root kept small)

-- ---- a trap that user code takes

entered_by : (n : ℕ) (cpu : Cpu n) (t : ℕ) → cpu.control.et ≡ true → cpu.control.base ≡ 0xF0000000 →
    entered n cpu t ≡ record {
      regs = trapped n cpu.regs cpu.control.pc cpu.control.npc;
      control = record cpu.control { et = false; ps = cpu.control.s; s = true; annul = false; tt = t; pc = (0xF0000000 + t * 16) % 2 ^ 32; npc = (0xF0000000 + t * 16 + 4) % 2 ^ 32 };
    }
unfolding entered
entered_by n cpu t on base = rw on (ap (λ b. record {
  regs = trapped n cpu.regs cpu.control.pc cpu.control.npc;
  control = record cpu.control { et = false; ps = cpu.control.s; s = true; annul = false; tt = t; pc = (b + t * 16) % 2 ^ 32; npc = (b + t * 16 + 4) % 2 ^ 32 };
}) base)

pub user_entered : (n : ℕ) (cpu : Cpu n) (t : ℕ) → 4 ≤ n → IsUser n cpu → t < 256 → IsSupervisor n (entered n cpu t)
user_entered n cpu t few u small =
    subst (IsSupervisor n) (sym (entered_by n cpu t u.traps u.table))
    (record {
      shape = shaped_trapped n cpu.regs cpu.control.pc cpu.control.npc few u.shape;
      system = refl;
      off = refl;
      before = u.user;
      straight = refl;
      table = u.table;
      sane = u.sane;
      npc_word = omega arith;
      place = Enters t;
      stands = (small, record { here = omega arith; next = omega arith });
    })

-- ---- the turn

module _ (n : ℕ) (g : Pages) (held : Contents) (ram : List ℕ) (d : Device) (mmu : MmuRegs) (cpu : Cpu n) (few : 4 ≤ n) (many : n ≤ 32) (pages : AreFew g)
    (root : root_of mmu ≡ 0x2000) (kept : IsKept n g held ram) (running : d.stopped ≡ None) (u : IsUser n cpu) where
  abbrev x : World n Device
  x = world n cpu ram d

  contained : (y : World n Device) → IsKept n g held y.memory.ram → y.memory.device ≡ d → IsUser n y.cpu ⊎ IsSupervisor n y.cpu → IsContained n g held mmu y
  contained y l same mode = record { few = few; many = many; pages = pages; root = root; kept = l; mode = inr (record { running = ap (λ (e : Device). e.stopped) same ∙ running; mode = mode }) }

  own_turn : (word : Option ℕ) (access : Option DataAccess) → IsOwnFetch g cpu.control.pc word → IsOwnAccess g access → IsOwn g (is_user n cpu) cpu.control.pc word access
  own_turn word access f a = subst (λ (b : Bool). IsOwn g (not b) cpu.control.pc word access) (sym u.user) (f, a)

  ended : (word : Option ℕ) (access : Option DataAccess) (trap : Option ℕ) (mid : World n Device) → IsOwnFetch g cpu.control.pc word →
      UserEnds n g held d (record { access = access; trap = trap }, mid) → TurnIs n g held mmu x (ends board n x word access trap mid)
  ended word access None mid f h = record { keeps = contained mid h.kept h.device (inl h.cpu); own = own_turn word access f h.access; device = inl h.device }
  ended word access (Some t) mid f h = record {
    keeps = contained (record mid { cpu = entered n mid.cpu t }) h.kept h.device (inr (user_entered n mid.cpu t few h.cpu h.trap));
    own = own_turn word access f h.access;
    device = inl h.device;
  }

  executed : (i : Operation) (marks : List ℕ) (o : Option ℕ) → IsKept n g held marks → first_trap n cpu i ≡ o → UserEnds n g held d (executes_or board n mmu i (world n cpu marks d) o)
  executed i marks None after e = user_acts n g held marks d mmu cpu few pages root after u i (not_privileged n cpu i e)
  executed i marks (Some t) after e = record { kept = after; device = refl; cpu = u; trap = trap_small n cpu i t e; access = tt }

  abbrev Done : Option ℕ × (Outcome × World n Device) → Type 0
  Done a = TurnIs n g held mmu x (ends board n x a.0 a.1.0.access a.1.0.trap a.1.1)

  proceeded : (r : Result ℕ ℕ) (marks : List ℕ) → FetchIs n g held cpu.control.pc (r, marks) → Done (proceeds board n mmu x r marks)
  unfolding executes
  proceeded (Ok w) marks f =
      let i = operation_of (meaning w) in
      let o = executes_or board n mmu i (world n cpu marks d) (first_trap n cpu i) in
      ended (Some w) o.0.access o.0.trap o.1 f.own (executed i marks (first_trap n cpu i) f.kept refl)
  proceeded (Err st) marks f = ended None None (Some 1) (world n (faulted n cpu st) marks d) tt (record { kept = f.kept; device = refl; cpu = user_faulted n cpu st u; trap = lit< tt; access = tt })

  tried : TurnIs n g held mmu x (tries board n mmu x)
  unfolding tries attempts
  tried =
      let f = fetches mmu cpu.control.pc (fetch_by true) ram in
      subst (λ (b : Bool). Done (proceeds board n mmu x (fetches mmu cpu.control.pc (fetch_by (not b)) ram).0 (fetches mmu cpu.control.pc (fetch_by (not b)) ram).1)) (sym u.user)
      (proceeded f.0 f.1 (fetch_is n g held ram mmu cpu.control.pc pages root kept u.pc_word))

  annulled : TurnIs n g held mmu x (turn_of n cpu Annulled None None, record x { cpu = skipped n cpu })
  unfolding advanced
  annulled = record {
    keeps = contained (record x { cpu = skipped n cpu }) kept refl
        (inl (user_goes n cpu cpu.regs (record (advanced cpu.control) { annul = false }) u u.shape refl refl refl refl u.npc_word
        (let w : (cpu.control.npc + 4) % 2 ^ 32 < 2 ^ 32 = omega arith in w)));
    own = own_turn None None tt tt;
    device = inl refl;
  }

  by_annul : (b : Bool) → TurnIs n g held mmu x (goes_on board n mmu x None None b)
  by_annul true = annulled
  by_annul false = tried

  pub user_turn : TurnIs n g held mmu x (next board n mmu x)
  unfolding next
  user_turn =
      subst (λ (s : Option Stop). TurnIs n g held mmu x (goes_on board n mmu x s cpu.control.error cpu.control.annul)) (sym running)
      (subst (λ (e : Option ℕ). TurnIs n g held mmu x (goes_on board n mmu x None e cpu.control.annul)) (sym u.sane) (by_annul cpu.control.annul))
