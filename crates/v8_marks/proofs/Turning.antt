-- A turn marks the pages of its fetch and of its access.
use Rattle.std.proofs.Common.{◌≡◌, ℕ, ◌^◌, ◌<◌, ◌⊎◌, inl, inr, Bool, true, false, List, Option, Some, None, IsSome, Result, Ok, Err, refl, sym, ap, ◌∙◌, subst, arith}
use Rattle.v8_core.specs.Table.{meaning}
use Rattle.v8_core.specs.Operation.{Operation}
use Rattle.v8_core.specs.Operation.TheVariants.{Transfer}
use Rattle.v8_core.specs.Operations.{operation_of}
use Rattle.v8_core.specs.Transfer.{Transfer as Moving}
use Rattle.v8_core.specs.Transfers.{sent, writes_memory}
use Rattle.v8_core.specs.MemoryOperand.{MemoryOperand}
use Rattle.v8_core.specs.Windows.{reg_of}
use Rattle.v8_core.specs.Ram.{entry_of}
use Rattle.v8_core.specs.Paths.{marked_ram}
use Rattle.v8_core.specs.Walked.{Page, root_of, walked}
use Rattle.v8_core.specs.Access.{Access}
use Rattle.v8_core.specs.AccessKind.TheVariants.{Fetch}
use Rattle.v8_core.specs.Stop.{Stop}
use Rattle.v8_core.specs.MmuRegs.{MmuRegs}
use Rattle.v8_core.specs.MmuFault.{MmuFault}
use Rattle.v8_core.specs.Cpu.{Cpu}
use Rattle.v8_core.specs.Effects.{address_of}
use Rattle.v8_core.specs.Traps.{first_trap}
use Rattle.v8_core.specs.declared.access.Moved.{Moved}
use Rattle.v8_core.specs.declared.access.Moved.TheVariants.{Done, Fault}
use Rattle.v8_core.specs.declared.turn.DataAccess.{DataAccess}
use Rattle.v8_core.specs.declared.turn.Outcome.{Outcome}
use Rattle.v8_core.specs.declared.turn.Turn.{Turn}
use Rattle.v8_core.specs.Memory.{Memory, fetch_answered, fetch_through, fetches, moves}
use Rattle.v8_core.specs.Accesses.{World, access_of, is_user, place_of, transfer_ends, transfers, world}
use Rattle.v8_core.specs.Steps.{acts, attempts, ends, executes, executes_or, goes_on, next, proceeds, tries}
use Rattle.v8_loaded.specs.Layout.{Pages, AreFew, IsLoaded}
use Rattle.v8_loaded.specs.Board.{Device, board}
use Rattle.v8_loaded.proofs.Marks.{mark_keeps}
use Rattle.v8_contained.specs.Contained.{Contents, IsContained, IsRunning, IsSupervisor, IsUser, SupervisorPlace, Stands}
use Rattle.v8_contained.specs.Contained.{Acts, Branches, Enters, Handles, Leaves, Retries, Returns, Slips}
use Rattle.v8_marks.specs.Marks.{TurnsMark, after_access, after_fetch, after_turn, entry_at, reached}
use Rattle.v8_marks.proofs.Placing.{mark_reaches}
use Rattle.v8_marks.proofs.Moving.{IsEnd, Moves, move_marks, walk_ends}

-- ---- a fetch

-- the entry after a fetch, and what is loaded still
abbrev Fetches : ℕ → Pages → List ℕ → ℕ → ℕ → List ℕ → Result ℕ ℕ × List ℕ → Type 0
Fetches n g words i pc ram (Ok w, new) = (entry_at new i ≡ reached i pc false (entry_at ram i)) × IsLoaded n g words new
Fetches n g words i pc ram (Err st, new) = new ≡ ram

fetch_word : (n : ℕ) (g : Pages) (words : List ℕ) (i pc : ℕ) (ram marks : List ℕ) (page : Page) (a : Access) (o p : Option ℕ) →
    entry_at marks i ≡ reached i pc false (entry_at ram i) → IsLoaded n g words marks →
    Fetches n g words i pc ram (fetch_answered ram page a marks o p)
fetch_word n g words i pc ram marks page a None p marked loaded = refl
fetch_word n g words i pc ram marks page a (Some u) None marked loaded = refl
fetch_word n g words i pc ram marks page a (Some u) (Some w) marked loaded = (marked, loaded)

fetch_page : (n : ℕ) (g : Pages) (words : List ℕ) (i pc : ℕ) (ram : List ℕ) (a : Access) (r : Result Page MmuFault) → i < 192 → IsLoaded n g words ram →
    IsEnd ram pc a r → Fetches n g words i pc ram (fetch_through a ram r)
fetch_page n g words i pc ram a (Err e) less loaded end = refl
fetch_page n g words i pc ram a (Ok page) less loaded end =
    fetch_word n g words i pc ram (marked_ram ram page.place false) page a (entry_of ram page.pa) (entry_of (marked_ram ram page.place false) page.pa)
    (ap (λ q. entry_at (marked_ram ram q false) i) end.place ∙ mark_reaches ram pc i end.target end.mapped false less end.placed end.mark)
    (subst (λ q. IsLoaded n g words (marked_ram ram q false)) (sym end.place) (mark_keeps n g words ram end.mapped.place end.target false loaded end.mark))

-- ---- an operation

module _ (n : ℕ) (g : Pages) (words : List ℕ) (mmu : MmuRegs) (few : AreFew g) (root : root_of mmu ≡ 0x2000) (i : ℕ) (less : i < 192) where
  fetch_marks : (ram : List ℕ) (pc : ℕ) (a : Access) → IsLoaded n g words ram → pc < 2 ^ 32 → Fetches n g words i pc ram (fetches mmu pc a ram)
  unfolding fetches
  fetch_marks ram pc a loaded small = fetch_page n g words i pc ram a (walked ram (root_of mmu) pc a) less loaded (walk_ends g ram mmu pc a few root loaded.tables small)

  -- what came of an operation
  abbrev Acted : List ℕ → Outcome × World n Device → Type 0
  Acted ram r = entry_at r.1.memory.ram i ≡ after_access i r.0.access (entry_at ram i)

  ends_moving : (va : ℕ) (t : Moving) (rd : ℕ) (cpu : Cpu n) (ram : List ℕ) (r : Moved × Memory Device) → Moves i va (writes_memory t) ram r → Acted ram (transfer_ends n va t rd cpu r.0 r.1)
  ends_moving va t rd cpu ram (Done v pa, m) marked = marked
  ends_moving va t rd cpu ram (Fault st, m) same = ap (λ q. entry_at q i) same

  address_small : (cpu : Cpu n) (o : MemoryOperand) → place_of n cpu o < 2 ^ 32
  unfolding address_of
  address_small cpu o = omega arith

  transfer_marks : (t : Moving) (o : MemoryOperand) (x : World n Device) → IsLoaded n g words x.memory.ram → Acted x.memory.ram (transfers board n mmu t o x)
  unfolding transfers
  transfer_marks t o x loaded =
      ends_moving (place_of n x.cpu o) t o.rd x.cpu x.memory.ram (moves board mmu (place_of n x.cpu o) (access_of n x.cpu (writes_memory t) o.space) t (sent (reg_of n x.cpu.regs) t o.rd) x.memory)
      (move_marks n g x.memory.ram x.memory.device mmu x.cpu o.space (place_of n x.cpu o) i t (sent (reg_of n x.cpu.regs) t o.rd) few root loaded.tables (address_small x.cpu o) less)

  act_marks : (op : Operation) (x : World n Device) → IsLoaded n g words x.memory.ram → Acted x.memory.ram (acts board n mmu op x)
  act_marks (Transfer t o) x loaded = transfer_marks t o x loaded
  act_marks _ x loaded = refl

  execute_marks : (op : Operation) (x : World n Device) (o : Option ℕ) → IsLoaded n g words x.memory.ram → Acted x.memory.ram (executes_or board n mmu op x o)
  execute_marks op x None loaded = act_marks op x loaded
  execute_marks op x (Some t) loaded = refl

  -- ---- an attempt, and a turn

  abbrev Attempted : World n Device → Option ℕ × (Outcome × World n Device) → Type 0
  Attempted x r = entry_at r.1.1.memory.ram i ≡ after_access i r.1.0.access (after_fetch i x.cpu.control.pc r.0 (entry_at x.memory.ram i))

  proceed_marks : (x : World n Device) (r : Result ℕ ℕ × List ℕ) → Fetches n g words i x.cpu.control.pc x.memory.ram r → Attempted x (proceeds board n mmu x r.0 r.1)
  unfolding executes
  proceed_marks x (Err st, ram) same = ap (λ q. entry_at q i) same
  proceed_marks x (Ok w, ram) (marked, loaded) =
      let op = operation_of (meaning w) in
      let y = world n x.cpu ram x.memory.device in
      let o = executes_or board n mmu op y (first_trap n x.cpu op) in
      execute_marks op y (first_trap n x.cpu op) loaded ∙ ap (after_access i o.0.access) marked

  attempt_marks : (x : World n Device) → IsLoaded n g words x.memory.ram → x.cpu.control.pc < 2 ^ 32 → Attempted x (attempts board n mmu x)
  unfolding attempts
  attempt_marks x loaded small =
      let a : Access = record { user = is_user n x.cpu; kind = Fetch } in
      proceed_marks x (fetches mmu x.cpu.control.pc a x.memory.ram) (fetch_marks x.memory.ram x.cpu.control.pc a loaded small)

  abbrev Turned : World n Device → Turn × World n Device → Type 0
  Turned x r = entry_at r.1.memory.ram i ≡ after_turn i r.0 (entry_at x.memory.ram i)

  end_marks : (x : World n Device) (word : Option ℕ) (access : Option DataAccess) (t : Option ℕ) (mid : World n Device) →
      Attempted x (word, (record { access = access; trap = t }, mid)) → Turned x (ends board n x word access t mid)
  end_marks x word access None mid marked = marked
  end_marks x word access (Some t) mid marked = marked

  try_marks : (x : World n Device) → IsLoaded n g words x.memory.ram → x.cpu.control.pc < 2 ^ 32 → Turned x (tries board n mmu x)
  unfolding tries
  try_marks x loaded small = let a = attempts board n mmu x in end_marks x a.0 a.1.0.access a.1.0.trap a.1.1 (attempt_marks x loaded small)

  go_marks : (x : World n Device) (s : Option Stop) (e : Option ℕ) (annul : Bool) → IsLoaded n g words x.memory.ram →
      (s ≡ None → e ≡ None → x.cpu.control.pc < 2 ^ 32) → Turned x (goes_on board n mmu x s e annul)
  go_marks x (Some s) e annul loaded small = refl
  go_marks x None (Some t) annul loaded small = refl
  go_marks x None None true loaded small = refl
  go_marks x None None false loaded small = try_marks x loaded (small refl refl)

-- ---- where a contained board stands

place_small : (n : ℕ) (cpu : Cpu n) (p : SupervisorPlace) → Stands cpu p → cpu.control.pc < 2 ^ 32
place_small n cpu (Enters t) h = let small = h.0 in let at = h.1.here in omega arith
place_small n cpu (Acts t) h = let small = h.small in let at = h.at.here in omega arith
place_small n cpu (Branches k) (inl is, at) = let here = at.here in omega arith
place_small n cpu (Branches k) (inr is, at) = let here = at.here in omega arith
place_small n cpu (Slips k) (inl is, at) = let here = at.here in omega arith
place_small n cpu (Slips k) (inr is, at) = let here = at.here in omega arith
place_small n cpu (Leaves t) (inl is, at) = let here = at.here in omega arith
place_small n cpu (Leaves t) (inr is, at) = let here = at.here in omega arith
place_small n cpu (Returns t) (inl is, here) = omega arith
place_small n cpu (Returns t) (inr is, here) = omega arith
place_small n cpu (Handles k) (inl is, at) = let here = at.here in omega arith
place_small n cpu (Handles k) (inr is, at) = let here = at.here in let low = is.1 in omega arith
place_small n cpu (Retries k) (inl is, here) = omega arith
place_small n cpu (Retries k) (inr is, here) = omega arith

mode_small : (n : ℕ) (cpu : Cpu n) → IsUser n cpu ⊎ IsSupervisor n cpu → cpu.control.pc < 2 ^ 32
mode_small n cpu (inl u) = u.pc_word
mode_small n cpu (inr s) = place_small n cpu s.place s.stands

not_ended : {A : Type 0} (o : Option A) → o ≡ None → IsSome o → ⊥
not_ended None e h = let no : false ≡ true = h in cc
not_ended (Some a) e h = cc

pub pc_small : (n : ℕ) (g : Pages) (held : Contents) (mmu : MmuRegs) (x : World n Device) → IsContained n g held mmu x → x.memory.device.stopped ≡ None →
    x.cpu.control.error ≡ None → x.cpu.control.pc < 2 ^ 32
pc_small n g held mmu x c running sane = by_mode c.mode
  where
    by_mode : (IsSome x.memory.device.stopped ⊎ IsSome x.cpu.control.error) ⊎ IsRunning n x → x.cpu.control.pc < 2 ^ 32
    by_mode (inl (inl s)) = absurd (not_ended x.memory.device.stopped running s)
    by_mode (inl (inr e)) = absurd (not_ended x.cpu.control.error sane e)
    by_mode (inr r) = mode_small n x.cpu r.mode

pub turns_mark : TurnsMark
unfolding next
turns_mark n g held mmu x i c less =
    go_marks n g held.words mmu c.pages c.root i less x x.memory.device.stopped x.cpu.control.error x.cpu.control.annul c.kept.loaded (λ running sane. pc_small n g held mmu x c running sane)
