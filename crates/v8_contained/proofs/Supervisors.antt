-- A turn of the supervisor, at each place of the vectors and the handlers.
use Rattle.std.proofs.Common.{◌≡◌, ℕ, ◌+◌, ◌%◌, ◌^◌, ◌<◌, ◌≤◌, ◌⊎◌, inl, inr, Bool, true, false, List, Option, Some, None, Result, Ok, IsSome, refl, sym, ap, ◌∙◌, subst, arith}
use Rattle.std.specs.Prelude.{not, ◌&&◌}
use Rattle.v8_core.specs.Size.TheVariants as sizes
use Rattle.v8_core.specs.Table.{meaning}
use Rattle.v8_core.specs.Three.{Three}
use Rattle.v8_core.specs.Two.{Two}
use Rattle.v8_core.specs.Operations.{operation_of}
use Rattle.v8_core.specs.Operands.{following}
use Rattle.v8_core.specs.MemoryOperand.{MemoryOperand}
use Rattle.v8_core.specs.Operation.{Operation}
use Rattle.v8_core.specs.Operation.TheVariants.{Compute, SetHigh, ReadState, WriteState, Transfer, Save, Restore, JumpAndLink, ReturnFromTrap}
use Rattle.v8_core.specs.Loading.TheVariants as loadings
use Rattle.v8_core.specs.Transfer.{Transfer as Moving}
use Rattle.v8_core.specs.Transfer.TheVariants as transfer
use Rattle.v8_core.specs.Transfers.{received, sent, size_of, writes_memory}
use Rattle.v8_core.specs.Space.{Space}
use Rattle.v8_core.specs.Space.TheVariants as spaces
use Rattle.v8_core.specs.StateRegister.{StateRegister}
use Rattle.v8_core.specs.StateRegister.TheVariants.{Psr, Wim, Tbr}
use Rattle.v8_core.specs.Walked.{root_of}
use Rattle.v8_core.specs.Access.{Access}
use Rattle.v8_core.specs.AccessKind.TheVariants as kinds
use Rattle.v8_core.specs.MmuRegs.{MmuRegs}
use Rattle.v8_core.specs.Windows.{Windows, above, below, moved, with_reg}
use Rattle.v8_windows.proofs.AfterWrites.{above_less}
use Rattle.v8_core.specs.Control.{Control}
use Rattle.v8_core.specs.Cpu.{Cpu}
use Rattle.v8_core.specs.Effects.{reg, address_of, advanced, jumped, returned, stepped, written, with_regs, taken, computed, effect}
use Rattle.v8_core.specs.Registers.{state_word, with_state}
use Rattle.v8_core.specs.Traps.{first_trap, entered}
use Rattle.v8_core.specs.declared.access.Moved.{Moved}
use Rattle.v8_core.specs.declared.access.Moved.TheVariants.{Done, Fault}
use Rattle.v8_core.specs.declared.turn.DataAccess.{DataAccess}
use Rattle.v8_core.specs.declared.turn.Outcome.{Outcome}
use Rattle.v8_core.specs.declared.turn.Turn.{Turn}
use Rattle.v8_core.specs.Memory.{Memory, moves, fetches}
use Rattle.v8_core.specs.Accesses.{World, world, is_user, place_of, access_of, data_kind, transfer_ends, transfers}
use Rattle.v8_core.specs.Steps.{acts, executes, executes_or, proceeds, attempts, ends, tries, next}
use Rattle.v8_core.proofs.Turns.{Ready, tries_as}
use Rattle.v8_loaded.specs.Layout.{Pages, AreFew}
use Rattle.v8_loaded.specs.Board.{Device, board, is_word}
use Rattle.v8_contained.specs.Contained.{Contents, IsKept, IsShaped, IsUser, IsSupervisor, SupervisorPlace, Stands, IsOwn, TurnIs, ByVector}
use Rattle.v8_contained.proofs.Shapes.{shaped_reg, shaped_regs, shaped_moved, shaped_mask, below_less}
use Rattle.v8_contained.proofs.Accesses.{mem_of, data_access, MoveIs, move_is}

abbrev pub super_fetch : Access
super_fetch = record { user = false; kind = kinds.Fetch }

-- ---- operations that go on to the next word, whatever they find

abbrev is_wim : StateRegister → Bool
is_wim Psr = false
is_wim Wim = true
is_wim Tbr = false

abbrev is_plain : Space → Bool
is_plain spaces.Normal = true
is_plain (spaces.Alternate asi) = false
is_plain spaces.Missing = false

-- double words alone
abbrev is_pair_move : Moving → Bool
is_pair_move (transfer.Load loadings.Double) = true
is_pair_move (transfer.Load _) = false
is_pair_move (transfer.Store sizes.Double) = true
is_pair_move (transfer.Store _) = false
is_pair_move (transfer.Exchange e) = false

unfoldable pub tame : Operation → Bool
tame (Compute op f) = true
tame (SetHigh f) = true
tame (ReadState r rd) = true
tame (WriteState r f) = is_wim r
tame (Save f) = true
tame (Restore f) = true
tame (Transfer t m) = is_pair_move t && is_plain m.space
tame _ = false

plain_is : (s : Space) → is_plain s ≡ true → s ≡ spaces.Normal
plain_is spaces.Normal e = refl
plain_is (spaces.Alternate asi) e = absurd (let no : false ≡ true = e in cc)
plain_is spaces.Missing e = absurd (let no : false ≡ true = e in cc)

both : (a b : Bool) → (a && b) ≡ true → (a ≡ true) × (b ≡ true)
both true b e = (refl, e)
both false b e = absurd (let no : false ≡ true = e in cc)

no_word : {A : Type 0} → false ≡ true → A
no_word e = cc

pair_quiet : (t : Moving) → is_pair_move t ≡ true → is_word (size_of t) ≡ false
pair_quiet (transfer.Load loadings.Double) e = refl
pair_quiet (transfer.Load loadings.UnsignedByte) e = no_word e
pair_quiet (transfer.Load loadings.SignedByte) e = no_word e
pair_quiet (transfer.Load loadings.UnsignedHalf) e = no_word e
pair_quiet (transfer.Load loadings.SignedHalf) e = no_word e
pair_quiet (transfer.Load loadings.Word) e = no_word e
pair_quiet (transfer.Store sizes.Double) e = refl
pair_quiet (transfer.Store sizes.Byte) e = no_word e
pair_quiet (transfer.Store sizes.Half) e = no_word e
pair_quiet (transfer.Store sizes.Word) e = no_word e
pair_quiet (transfer.Exchange x) e = no_word e

-- ---- the processor

small_word : (a : ℕ) → a % 2 ^ 32 < 2 ^ 32
small_word a = omega arith

pub super_goes : (n : ℕ) (cpu : Cpu n) (regs : Windows) (c : Control) → IsSupervisor n cpu → IsShaped n regs → c.s ≡ cpu.control.s → c.et ≡ cpu.control.et →
    c.ps ≡ cpu.control.ps → c.annul ≡ cpu.control.annul → c.base ≡ cpu.control.base → c.error ≡ cpu.control.error → c.npc < 2 ^ 32 →
    (p : SupervisorPlace) × Stands {n = n} (record { regs = regs; control = c }) p → IsSupervisor n (record { regs = regs; control = c })
super_goes n cpu regs c u shape s et ps annul base error npc at =
    record {
      shape = shape;
      system = s ∙ u.system;
      off = et ∙ u.off;
      before = ps ∙ u.before;
      straight = annul ∙ u.straight;
      table = base ∙ u.table;
      sane =
          error ∙ u.sane;
      npc_word = npc;
      place = at.0;
      stands = at.1;
    }

-- where the next word is, whatever the registers
abbrev pub Nexts : {n : ℕ} → Cpu n → Type 0
Nexts {n} cpu = (c : Cpu n) → c.control.pc ≡ cpu.control.npc → c.control.npc ≡ following cpu.control.npc → (p : SupervisorPlace) × Stands c p

-- user or supervisor code goes on; a trap is error mode
abbrev pub MadeBy : (n : ℕ) → Option ℕ → Cpu n → Type 0
MadeBy n None cpu = IsUser n cpu ⊎ IsSupervisor n cpu
MadeBy n (Some t) cpu = cpu.control.et ≡ false

-- where a turn of supervisor code ends: RAM keeps what is held, the device stays, and the mode is one that its trap makes
pub record SuperEnds (n : ℕ) (g : Pages) (held : Contents) (d : Device) (o : Outcome × World n Device) : Type 0 where
  pub kept : IsKept n g held o.1.memory.ram
  pub device : o.1.memory.device ≡ d
  pub mode : MadeBy n o.0.trap o.1.cpu

module _ (n : ℕ) (g : Pages) (held : Contents) (ram : List ℕ) (d : Device) (mmu : MmuRegs) (cpu : Cpu n) (few : 4 ≤ n) (pages : AreFew g)
    (root : root_of mmu ≡ 0x2000) (kept : IsKept n g held ram) (u : IsSupervisor n cpu) where
  pub goes_written : (rd x : ℕ) → Nexts cpu → IsSupervisor n (written n cpu rd x)
  unfolding written advanced
  goes_written rd x at =
      super_goes n cpu (with_reg n cpu.regs rd x) (advanced cpu.control) u (shaped_reg n cpu.regs rd x few u.shape) refl refl refl refl refl refl
      (small_word (cpu.control.npc + 4)) (at (record { regs = with_reg n cpu.regs rd x; control = advanced cpu.control }) refl refl)

  goes_taken : (t : Moving) (rd number : ℕ) → Nexts cpu → IsSupervisor n (taken n cpu t rd number)
  unfolding taken advanced
  goes_taken t rd number at =
      let regs = with_regs n cpu.regs (received t rd number) in
      super_goes n cpu regs (advanced cpu.control) u (shaped_regs n cpu.regs (received t rd number) few u.shape) refl refl refl refl refl refl (small_word (cpu.control.npc + 4))
      (at (record { regs = regs; control = advanced cpu.control }) refl refl)

  pub goes_stepped : (regs : Windows) → IsShaped n regs → Nexts cpu → IsSupervisor n (record { regs = regs; control = advanced cpu.control })
  unfolding advanced
  goes_stepped regs shape at =
      super_goes n cpu regs (advanced cpu.control) u shape refl refl refl refl refl refl (small_word (cpu.control.npc + 4))
      (at (record { regs = regs; control = advanced cpu.control }) refl refl)

  -- a window that is entered, and a register there
  goes_moved : (w rd x : ℕ) → w < n → Nexts cpu → IsSupervisor n (written n (record cpu { regs = moved cpu.regs w }) rd x)
  unfolding written advanced
  goes_moved w rd x less at =
      super_goes n cpu (with_reg n (moved cpu.regs w) rd x) (advanced cpu.control) u
      (shaped_reg n (moved cpu.regs w) rd x few (shaped_moved n cpu.regs w u.shape less)) refl refl refl refl refl refl (small_word (cpu.control.npc + 4))
      (at (record { regs = with_reg n (moved cpu.regs w) rd x; control = advanced cpu.control }) refl refl)

  pub plainly : (new : Cpu n) → IsSupervisor n new → SuperEnds n g held d (record { access = None; trap = None }, world n new ram d)
  plainly new h = record { kept = kept; device = refl; mode = inr h }

  transferred : (va rd : ℕ) (t : Moving) (e : Moved) (m : Memory Device) → Nexts cpu → MoveIs n g held d false (writes_memory t) va (size_of t) (e, m) →
      SuperEnds n g held d (transfer_ends n va t rd cpu e m)
  transferred va rd t (Done v pa) m at h = record { kept = h.kept; device = h.device; mode = inr (goes_taken t rd v at) }
  transferred va rd t (Fault st) m at h = record { kept = h.kept; device = h.device; mode = u.off }

  super_address : (o : MemoryOperand) → place_of n cpu o < 2 ^ 32
  unfolding address_of
  super_address o = small_word _

  accessed : (s : Space) (t : Moving) → s ≡ spaces.Normal → access_of n cpu (writes_memory t) s ≡ data_access false t
  accessed s t e = ap (access_of n cpu (writes_memory t)) e ∙ ap (λ (b : Bool). record { user = not b; kind = data_kind (writes_memory t) }) u.system

  pair_moves : (t : Moving) (o : MemoryOperand) → is_pair_move t ≡ true → o.space ≡ spaces.Normal → Nexts cpu → SuperEnds n g held d (transfers board n mmu t o (world n cpu ram d))
  unfolding transfers
  pair_moves t o pair normal at =
      let va = place_of n cpu o in
      let x = sent (reg n cpu) t o.rd in
      let r = moves board mmu va (data_access false t) t x (mem_of ram d) in
      subst (λ (a : Access). SuperEnds n g held d
      (transfer_ends n va t o.rd cpu (moves board mmu va a t x (mem_of ram d)).0 (moves board mmu va a t x (mem_of ram d)).1))
      (sym (accessed o.space t normal))
      (transferred va o.rd t r.0 r.1 at (move_is n g held ram d mmu false va t x pages root kept (super_address o) (pair_quiet t pair)))

  writes_mask : (r : StateRegister) (x : ℕ) → is_wim r ≡ true → Nexts cpu → IsSupervisor n (stepped n (with_state n cpu r x))
  unfolding advanced
  writes_mask Psr x e at = absurd (let no : false ≡ true = e in cc)
  writes_mask Wim x e at = goes_stepped (record cpu.regs { mask = x % 2 ^ n }) (shaped_mask n cpu.regs (x % 2 ^ n) u.shape) at
  writes_mask Tbr x e at = absurd (let no : false ≡ true = e in cc)

  not_tame : {A : Type 0} → false ≡ true → A
  not_tame e = cc

  pub tame_acts : (i : Operation) → tame i ≡ true → Nexts cpu → SuperEnds n g held d (acts board n mmu i (world n cpu ram d))
  unfolding tame effect computed advanced
  tame_acts (Compute op f) e at =
      plainly (effect n cpu (Compute op f))
      (super_goes n cpu _ _ u (shaped_reg n cpu.regs f.rd _ few u.shape) refl refl refl refl refl refl (small_word (cpu.control.npc + 4))
      (at (effect n cpu (Compute op f)) refl refl))
  tame_acts (SetHigh f) e at = plainly (effect n cpu (SetHigh f)) (goes_written f.rd _ at)
  tame_acts (ReadState r rd) e at = plainly (effect n cpu (ReadState r rd)) (goes_written rd (state_word n cpu r) at)
  tame_acts (WriteState r f) e at = plainly (effect n cpu (WriteState r f)) (writes_mask r _ e at)
  tame_acts (Save f) e at = plainly (effect n cpu (Save f)) (goes_moved (below n cpu.regs.current) f.rd _ (below_less n cpu.regs.current few u.shape.current) at)
  tame_acts (Restore f) e at = plainly (effect n cpu (Restore f)) (goes_moved (above n cpu.regs.current) f.rd _ (above_less n cpu.regs.current few u.shape.current) at)
  tame_acts (Transfer t m) e at = let parts = both (is_pair_move t) (is_plain m.space) e in pair_moves t m parts.0 (plain_is m.space parts.1) at
  tame_acts _ e at = not_tame e

  -- a jump, to any word, whose delay slot comes first
  pub jump_acts : (f : Three) → ((c : Cpu n) → c.control.pc ≡ cpu.control.npc → (p : SupervisorPlace) × Stands c p) → SuperEnds n g held d (acts board n mmu (JumpAndLink f) (world n cpu ram d))
  unfolding effect jumped address_of
  jump_acts f at = plainly (effect n cpu (JumpAndLink f))
      (super_goes n cpu (with_reg n cpu.regs f.rd cpu.control.pc) _ u (shaped_reg n cpu.regs f.rd cpu.control.pc few u.shape) refl refl refl refl refl refl
      (small_word _) (at (effect n cpu (JumpAndLink f)) refl))

  -- the return to user code
  pub return_acts : (f : Two) → SuperEnds n g held d (acts board n mmu (ReturnFromTrap f) (world n cpu ram d))
  unfolding effect returned jumped address_of
  return_acts f = record {
    kept = kept;
    device = refl;
    mode = inl (record {
      shape = shaped_moved n cpu.regs (above n cpu.regs.current) u.shape (above_less n cpu.regs.current few u.shape.current);
      user = u.before;
      traps = refl;
      table = u.table;
      sane = u.sane;
      pc_word = u.npc_word;
      npc_word = small_word _;
    });
  }

-- ---- the turn

-- error mode
stuck : (n : ℕ) (cpu : Cpu n) (t : ℕ) → cpu.control.et ≡ false → IsSome (entered n cpu t).control.error
unfolding entered
stuck n cpu t off = rw off refl

module _ (n : ℕ) (g : Pages) (held : Contents) (ram : List ℕ) (d : Device) (mmu : MmuRegs) (cpu : Cpu n) (few : 4 ≤ n) (many : n ≤ 32) (pages : AreFew g)
    (root : root_of mmu ≡ 0x2000) (running : d.stopped ≡ None) (u : IsSupervisor n cpu) where
  abbrev x : World n Device
  x = world n cpu ram d

  abbrev Good : Turn × World n Device → Type 0
  Good p = TurnIs n g held mmu x p

  own_turn : (word : Option ℕ) (access : Option DataAccess) → IsOwn g (is_user n cpu) cpu.control.pc word access
  own_turn word access = subst (λ (b : Bool). IsOwn g (not b) cpu.control.pc word access) (sym u.system) tt

  pub good_end : (word : Option ℕ) (access : Option DataAccess) (mid : World n Device) → IsKept n g held mid.memory.ram → IsSome mid.memory.device.stopped →
      (mid.memory.device ≡ d) ⊎ ByVector n x mid → Good (ends board n x word access None mid)
  good_end word access mid l stopped same =
      record {
        keeps = record { few = few; many = many; pages = pages; root = root; kept = l; mode = inl (inl stopped) };
        own = own_turn word access;
        device =
            same;
      }

  pub good_more : (word : Option ℕ) (access : Option DataAccess) (mid : World n Device) → IsKept n g held mid.memory.ram → mid.memory.device.stopped ≡ None →
      IsUser n mid.cpu ⊎ IsSupervisor n mid.cpu → (mid.memory.device ≡ d) ⊎ ByVector n x mid → Good (ends board n x word access None mid)
  good_more word access mid l going mode same =
      record {
        keeps = record { few = few; many = many; pages = pages; root = root; kept = l; mode = inr (record { running = going; mode = mode }) };
        own =
            own_turn word access;
        device = same;
      }

  ended : (word : Option ℕ) (access : Option DataAccess) (trap : Option ℕ) (mid : World n Device) →
      SuperEnds n g held d (record { access = access; trap = trap }, mid) → Good (ends board n x word access trap mid)
  ended word access None mid h = good_more word access mid h.kept (ap (λ (e : Device). e.stopped) h.device ∙ running) h.mode (inl h.device)
  ended word access (Some t) mid h = record {
    keeps = record { few = few; many = many; pages = pages; root = root; kept = h.kept; mode = inl (inr (stuck n mid.cpu t h.mode)) };
    own = own_turn word access;
    device = inl h.device;
  }

  abbrev Made : ℕ → Outcome × World n Device → Type 0
  Made w o = Good (ends board n x (Some w) o.0.access o.0.trap o.1)

  executed : (w : ℕ) (i : Operation) (marks : List ℕ) (o : Option ℕ) → IsKept n g held marks → Made w (acts board n mmu i (world n cpu marks d)) →
      Made w (executes_or board n mmu i (world n cpu marks d) o)
  executed w i marks None after done = done
  executed w i marks (Some t) after done = ended (Some w) None (Some t) (world n cpu marks d) (record { kept = after; device = refl; mode = u.off })

  -- a turn where the word is known, and what its operation makes
  pub at_word : (w : ℕ) (i : Operation) (marks : List ℕ) → fetches mmu cpu.control.pc super_fetch ram ≡ (Ok w, marks) → operation_of (meaning w) ≡ i →
      IsKept n g held marks → Made w (acts board n mmu i (world n cpu marks d)) → Good (next board n mmu x)
  unfolding tries attempts executes
  at_word w i marks fetch is after done =
      let ready : Ready board n cpu d = record { running = running; sane = u.sane; straight = u.straight } in
      let F : Result ℕ ℕ × List ℕ → Turn × World n Device = λ f. (let a = proceeds board n mmu x f.0 f.1 in ends board n x a.0 a.1.0.access a.1.0.trap a.1.1) in
      let mode : fetches mmu cpu.control.pc (record { user = is_user n cpu; kind = kinds.Fetch }) ram ≡ (Ok w, marks) =
      ap (λ (b : Bool). fetches mmu cpu.control.pc (record { user = not b; kind = kinds.Fetch }) ram) u.system ∙ fetch in
      subst Good (sym (tries_as board n mmu cpu ram d ready ∙ ap F mode))
      (subst (λ (j : Operation). Made w (executes_or board n mmu j (world n cpu marks d) (first_trap n cpu j))) (sym is) (executed w i marks (first_trap n cpu i) after done))

  -- the device isn't reached
  pub at_quiet : (w : ℕ) (i : Operation) (marks : List ℕ) → fetches mmu cpu.control.pc super_fetch ram ≡ (Ok w, marks) → operation_of (meaning w) ≡ i →
      IsKept n g held marks → SuperEnds n g held d (acts board n mmu i (world n cpu marks d)) → Good (next board n mmu x)
  at_quiet w i marks fetch is after h =
      let o = acts board n mmu i (world n cpu marks d) in
      at_word w i marks fetch is after (ended (Some w) o.0.access o.0.trap o.1 h)
