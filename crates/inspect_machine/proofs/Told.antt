-- What is written of a machine.
use Rattle.std.proofs.Common.{◌≡◌, ℕ, List, [], ◌++◌, Option, Result, Ok, Err, OnErr, OnOk, IfErr, false, None, inl, inr, refl, ap, subst, ◌∙◌}
use Rattle.std.specs.Io.KnownBytes.{Appends}
use Rattle.want.specs.Wants.{refused}
use Rattle.sbx_put.specs.Fronts.{Wrote, WroteSome}
use Rattle.sbx_put.proofs.Written.{nothing_written, some_after, written_after}
use Rattle.v8_core.specs.Accesses.{World, world}
use Rattle.v8_core.specs.Cpu.{Cpu}
use Rattle.v8_core.specs.MmuRegs.{MmuRegs}
use Rattle.v8_core.specs.PortFault.{PortFault}
use Rattle.v8_core.specs.PortFault.TheVariants as ports
use Rattle.v8_core.specs.Registers.{cleared}
use Rattle.v8_core.specs.Windows.{Windows}
use Rattle.v8_memory.specs.Board.{Device, board, seen}
use Rattle.sbx_raw.specs.declared.fault.RunFault.{RunFault}
use Rattle.sbx_raw.specs.declared.fault.RunFault.TheVariants as runs
use Rattle.inspect_states.specs.Lines.{Known, known_of}
use Rattle.inspect_states.specs.Runs.{BeginsStates, IsFaultOf, IsStates}
use Rattle.inspect_start.specs.Starts.{IsFit}
use Rattle.inspect_start.specs.declared.start.Start.{Start}
use Rattle.inspect_states.specs.Told.{nothing_told, run_fault}
use Rattle.inspect_machine.specs.Bare.{IsMmuOf, started}
use Rattle.inspect_machine.specs.Changed.{WORDS, changes_text}
use Rattle.inspect_machine.specs.Told.{BeginsLines, IsOwnFault, IsTold, Told, start_of}

-- a start that fits a machine of so many windows fits one of as many
pub fit_same : (windows n : ℕ) (s : Start) → windows ≡ n → IsFit windows s → IsFit n s
fit_same windows n s same fit = subst (λ (w : ℕ). IsFit w s) same fit

-- a world that is a start's
pub starts : (n : ℕ) (s : Start) (cpu : Cpu n) (ram : List ℕ) (device : Device) → cpu ≡ started n s → ram ≡ s.ram.items → device ≡ seen [] false [] None
    → world n cpu ram device ≡ start_of n s
starts n s cpu ram device a b c =
    ap (λ (x : Cpu n). world n x ram device) a ∙ ap (λ (x : List ℕ). world n (started n s) x device) b
    ∙ ap (λ (x : Device). world n (started n s) s.ram.items x) c

known_is : (n : ℕ) (registers : Windows) (known ram : List ℕ) → registers ≡ cleared n → known ≡ ram → known_of registers known ≡ nothing_told n ram
known_is n registers known ram none is =
    ap (λ (v : Windows). known_of v known) none ∙ ap (λ (r : List ℕ). known_of (cleared n) r) is

-- ---- there was no memory to begin

pub not_begun : (n : ℕ) (s : Start) (limit : ℕ) (a : Option (List ℕ)) (fault : RunFault) → fault ≡ runs.Memory refused → Told n s limit a a (Err fault)
not_begun n s limit a fault is = (inl is, ([], inl refl, nothing_written a))

-- ---- the states' lines

own_fault : (fault : PortFault) (told : RunFault) → IsFaultOf (ports.Memory refused) fault → told ≡ run_fault fault → IsOwnFault told
own_fault fault told (inl (inl is)) gives = inl (gives ∙ ap (λ (f : PortFault). run_fault f) is)
own_fault fault told (inl (inr is)) gives = inr (gives ∙ ap (λ (f : PortFault). run_fault f) is)
own_fault fault told (inr is) gives = inl (gives ∙ ap (λ (f : PortFault). run_fault f) is)

-- the first bytes of the lines, which a fault cut short
pub begun_lines : (n : ℕ) (s : Start) (limit : ℕ) (mmu : MmuRegs) (w : World n Device) (registers : Windows) (known : List ℕ) (fault : PortFault) (told : RunFault)
    (a b : Option (List ℕ)) → IsMmuOf s mmu → w ≡ start_of n s → registers ≡ cleared n → known ≡ s.ram.items
    → IsFaultOf (ports.Memory refused) fault → told ≡ run_fault fault → Wrote a b (BeginsStates board n mmu limit w (known_of registers known))
    → Told n s limit a b (Err told)
begun_lines n s limit mmu w registers known fault told a b regs start none same is gives (bytes, begins, written) =
    let there = subst (λ (k : Known). BeginsStates board n mmu limit w k bytes) (known_is n registers known s.ram.items none same) begins in
    let from = subst (λ (x : World n Device). BeginsStates board n mmu limit x (nothing_told n s.ram.items) bytes) start there in
    let lines : BeginsLines n s limit bytes = (mmu, regs, from) in
    (own_fault fault told is gives, (bytes, inr (inl lines), written))

-- ---- the words of RAM that changed

-- a text that was written is this one
pub whole_text : (a b : Option (List ℕ)) (empty text shown changes : List ℕ) → empty ≡ [] → text ≡ empty ++ changes → shown ≡ text → Appends a b shown → Appends a b changes
whole_text a b empty text shown changes none made same written =
    subst (λ (t : List ℕ). Appends a b t) (same ∙ made ∙ ap (λ (t : List ℕ). t ++ changes) none) written

pub some_text : (a b : Option (List ℕ)) (empty text shown changes : List ℕ) → empty ≡ [] → text ≡ empty ++ changes → shown ≡ text → WroteSome a b shown → WroteSome a b changes
some_text a b empty text shown changes none made same some =
    subst (λ (t : List ℕ). WroteSome a b t) (same ∙ made ∙ ap (λ (t : List ℕ). t ++ changes) none) some

pub no_text : (a : Option (List ℕ)) (changes : List ℕ) → WroteSome a a changes
no_text a changes = ([], changes, refl, nothing_written a)

pub told_all : (n : ℕ) (s : Start) (limit : ℕ) (mmu : MmuRegs) (w end : World n Device) (registers : Windows) (known first now : List ℕ) (a b c : Option (List ℕ))
    (r : Result (Unit {0}) RunFault) → IsMmuOf s mmu → w ≡ start_of n s → registers ≡ cleared n → known ≡ s.ram.items → first ≡ s.ram.items → now ≡ end.memory.ram
    → Wrote a b (IsStates board n mmu limit w end (known_of registers known)) → OnOk r (Appends b c (changes_text first now WORDS))
    → OnErr r (WroteSome b c (changes_text first now WORDS)) → IfErr r IsOwnFault → Told n s limit a c r
told_all n s limit mmu w end registers known first now a b c r regs start none same one last (lines, told, written) =
    let there = subst (λ (k : Known). IsStates board n mmu limit w end k lines) (known_is n registers known s.ram.items none same) told in
    let from = subst (λ (x : World n Device). IsStates board n mmu limit x end (nothing_told n s.ram.items) lines) start there in
    let changes = changes_text first now WORDS in
    let named : changes ≡ changes_text s.ram.items end.memory.ram WORDS =
    ap (λ (x : List ℕ). changes_text x now WORDS) one ∙ ap (λ (x : List ℕ). changes_text s.ram.items x WORDS) last in
    let whole : IsTold n s limit (lines ++ changes) =
    record { mmu = mmu; regs = regs; end = end; lines = lines; told = from; is = ap (λ (x : List ℕ). lines ++ x) named } in
    ended n s limit lines changes a b c r whole written
  where
    ended : (n : ℕ) (s : Start) (limit : ℕ) (lines changes : List ℕ) (a b c : Option (List ℕ)) (r : Result (Unit {0}) RunFault) → IsTold n s limit (lines ++ changes)
        → Appends a b lines → OnOk r (Appends b c changes) → OnErr r (WroteSome b c changes) → IfErr r IsOwnFault → Told n s limit a c r
    ended n s limit lines changes a b c (Ok u) whole written more part fault = (lines ++ changes, whole, written_after a b c lines changes written more)
    ended n s limit lines changes a b c (Err f) whole written more part fault =
        let (front, rest, split, put) = some_after a b c (lines ++ changes) lines changes refl written part in
        (fault, (front, inr (inr (lines ++ changes, whole, (rest, split))), put))
