-- The text of an image's run, and what is written of it.
use Rattle.std.proofs.Common.{◌≡◌, ◌⊎◌, ℕ, List, [], Option, Err, false, None, inl, inr, refl, sym, ap, subst, ◌∙◌}
use Rattle.std.proofs.KnownBytes.{Appends-nil}
use Rattle.want.specs.Wants.{refused}
use Rattle.sbx_put.specs.Fronts.{Wrote}
use Rattle.sbx_image.specs.Parts.{Parts}
use Rattle.v8_map.specs.declared.TheConstants.{CONTEXT_TABLE}
use Rattle.v8_core.specs.Accesses.{World}
use Rattle.v8_core.specs.Cpu.{Cpu}
use Rattle.v8_core.specs.MmuRegs.{MmuRegs}
use Rattle.v8_core.specs.PortFault.{PortFault}
use Rattle.v8_core.specs.PortFault.TheVariants as ports
use Rattle.v8_core.specs.Registers.{booted, cleared}
use Rattle.v8_core.specs.Walked.{root_of}
use Rattle.v8_core.specs.Windows.{Windows}
use Rattle.v8_memory.specs.Board.{Device, board, seen}
use Rattle.v8_board.specs.Seen.{State}
use Rattle.v8_board.specs.States.{IsState}
use Rattle.v8_board.specs.Start.{IsPlaced, no_counts}
use Rattle.sbx_raw.specs.Runs.{IsBegun}
use Rattle.sbx_raw.specs.declared.fault.RunFault.{RunFault}
use Rattle.sbx_raw.specs.declared.fault.RunFault.TheVariants as runs
use Rattle.inspect_states.specs.Lines.{Known, known_of}
use Rattle.inspect_states.specs.Runs.{BeginsStates, IsFaultOf, IsStates}
use Rattle.inspect_states.specs.Told.{BeginsStated, IsLoaded, IsStated, Leaves, Stated, nothing_told, run_fault, start_of, unbooted}

-- a machine with the processor, the RAM and the device of a board that an image was loaded into
pub loaded_by : (n : ℕ) (p : Parts) (input : List ℕ) (b : State n) (mmu : MmuRegs) (w : World n Device) → root_of mmu ≡ CONTEXT_TABLE → IsBegun n p input b → w.cpu ≡ booted n (booted n (unbooted n))
    → w.memory.ram ≡ b.world.memory.ram → w.memory.device ≡ seen input false [] None → IsLoaded n p input (start_of n mmu w)
loaded_by n p input b mmu w root begun cpu ram device =
    let made : State n = record { world = begun.made.world; mmu = mmu; counts = no_counts } in
    record {
      made = made;
      new = record { cpu = begun.new.cpu; ram = begun.new.ram; device = begun.new.device; mmu = root; counts = refl };
      loaded = record {
        cpu = cpu ∙ ap (λ (c : Cpu n). booted n c) (sym begun.new.cpu);
        ram = subst (λ (r : List ℕ). IsPlaced n p made.world.memory.ram r) (sym ram) begun.loaded.ram;
        device = device ∙ ap (λ (d : Device). record d { ended = false; stopped = None }) (sym begun.new.device);
        mmu = refl;
        root = root;
        counts = refl;
      };
    }

-- the state of a board that was begun
pub begun_state : (n : ℕ) (p : Parts) (input : List ℕ) (s : State n) → IsBegun n p input s → IsState n s.mmu s.world
begun_state n p input s begun = begun.state

-- there was no memory to begin
pub not_begun : (n : ℕ) (p : Parts) (input : List ℕ) (limit : ℕ) (a : Option (List ℕ)) (fault : RunFault) → fault ≡ runs.Memory refused
    → Stated n p input limit a a (Err fault)
not_begun n p input limit a fault is =
    subst (λ (f : RunFault). Stated n p input limit a a (Err f)) (sym is) ([], inl refl, Appends-nil a)

-- what was known before the first line
known_is : (n : ℕ) (registers : Windows) (known ram : List ℕ) → registers ≡ cleared n → known ≡ ram → known_of registers known ≡ nothing_told n ram
known_is n registers known ram none is =
    ap (λ (v : Windows). known_of v known) none ∙ ap (λ (r : List ℕ). known_of (cleared n) r) is

-- the lines of a run
pub stated : (n : ℕ) (p : Parts) (input : List ℕ) (limit : ℕ) (mmu : MmuRegs) (w end : World n Device) (registers : Windows) (known : List ℕ) (a b : Option (List ℕ))
    → IsLoaded n p input (start_of n mmu w) → registers ≡ cleared n → known ≡ w.memory.ram
    → Wrote a b (IsStates board n mmu limit w end (known_of registers known)) → Wrote a b (IsStated n p input limit)
stated n p input limit mmu w end registers known a b begun none is (text, told, written) =
    let whole : IsStated n p input limit text = record {
      start = start_of n mmu w;
      begun = begun;
      end = end;
      told = subst (λ (k : Known). IsStates board n mmu limit w end k text) (known_is n registers known w.memory.ram none is) told;
    } in
    (text, whole, written)

-- which fault there is, of a port whose own is want of memory
fault_is : (fault : PortFault) → IsFaultOf (ports.Memory refused) fault → (fault ≡ ports.Memory refused) ⊎ (fault ≡ ports.Writer)
fault_is fault (inl own) = own
fault_is fault (inr is) = inl is

leaves : (n : ℕ) (p : Parts) (input : List ℕ) (limit : ℕ) (fault : PortFault) (bytes : List ℕ) → (fault ≡ ports.Memory refused) ⊎ (fault ≡ ports.Writer)
    → BeginsStated n p input limit bytes → Leaves n p input limit (run_fault fault) bytes
leaves n p input limit (ports.Memory want) bytes is begins = inr begins
leaves n p input limit ports.Reader bytes (inl is) begins = absurd (let bad : ⊥ = cc in bad)
leaves n p input limit ports.Reader bytes (inr is) begins = absurd (let bad : ⊥ = cc in bad)
leaves n p input limit ports.Writer bytes is begins = begins

-- the first bytes of the lines of a run, which a fault cut short
pub begins_stated : (n : ℕ) (p : Parts) (input : List ℕ) (limit : ℕ) (mmu : MmuRegs) (w : World n Device) (registers : Windows) (known : List ℕ) (fault : PortFault) (told : RunFault)
    (a b : Option (List ℕ)) → IsLoaded n p input (start_of n mmu w) → registers ≡ cleared n → known ≡ w.memory.ram
    → IsFaultOf (ports.Memory refused) fault → told ≡ run_fault fault → Wrote a b (BeginsStates board n mmu limit w (known_of registers known))
    → Stated n p input limit a b (Err told)
begins_stated n p input limit mmu w registers known fault told a b begun none same is gives (bytes, begins, written) =
    let some : BeginsStated n p input limit bytes = record {
      start = start_of n mmu w;
      begun = begun;
      told = subst (λ (k : Known). BeginsStates board n mmu limit w k bytes) (known_is n registers known w.memory.ram none same) begins;
    } in
    let left : Leaves n p input limit (run_fault fault) bytes = leaves n p input limit fault bytes (fault_is fault is) some in
    (bytes, subst (λ (f : RunFault). Leaves n p input limit f bytes) (sym gives) left, written)
