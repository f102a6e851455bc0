-- Turns of user code that transfer control: branches, CALL and JMPL.
use Rattle.std.proofs.Common.{◌≡◌, ◌≢◌, ℕ, ◌%◌, ◌^◌, ◌<◌, Bool, true, false, List, Some, None, refl, ap, ◌∙◌, subst, arith}
use Rattle.std.specs.Prelude.{◌==◌, if◌then◌else◌}
use Rattle.std.proofs.lemmas.Bool.Decides.{nat_tests}
use Rattle.v8_core.specs.Conditions.{holds}
use Rattle.v8_core.specs.Branch.{Branch}
use Rattle.v8_core.specs.Three.{Three}
use Rattle.v8_core.specs.Admitted.{is_admitted}
use Rattle.v8_core.specs.Operands.{address, annuls, following, target}
use Rattle.v8_core.specs.Operation.{Operation}
use Rattle.v8_core.specs.Operation.TheVariants.{BranchOnCondition, Call, JumpAndLink}
use Rattle.v8_core.specs.Windows.{with_reg}
use Rattle.v8_core.specs.MmuRegs.{MmuRegs}
use Rattle.v8_core.specs.Effects.{advanced as board_advanced, branched, effect, jumped}
use Rattle.v8_core.specs.Traps.{first_trap}
use Rattle.v8_core.specs.Control.{Control}
use Rattle.v8_core.specs.Cpu.{Cpu}
use Rattle.v8_core.specs.declared.turn.Event.TheVariants.{Ran}
use Rattle.v8_core.specs.Accesses.{World, quiet, world}
use Rattle.v8_core.specs.Steps.{acts, turn_of}
use Rattle.v8_loaded.specs.Board.{Device, board}
use Rattle.v8_loaded.specs.Users.{AsksFor}
use Rattle.v8_board.proofs.Placed.{pages_few}
use Rattle.sbx_flat.specs.Parts.{Parts}
use Rattle.sbx_flat.specs.Effects.{branched as flat_branched, branches, does}
use Rattle.sbx_flat.specs.Registers.{still}
use Rattle.sbx_flat.specs.States.{Goes, State, transferred, with_reg as flat_with_reg, reg}
use Rattle.sbx_flat.specs.Turns.{IsWrong}
use Rattle.sbx_flat.specs.declared.path.Wrong.TheVariants.{Misaligned}
use Rattle.sbx_flat.proofs.Law.{still_is_fresh}
use Rattle.sbx_shows.specs.Shows.{Shows, ShowsControl}
use Rattle.sbx_shows.specs.Steps.{OneTurn, Stands}
use Rattle.sbx_shows.proofs.Fields.{ThreeIn}
use Rattle.sbx_shows.proofs.Places.{fails_not, fetched, fields, marks, plain_turn, room, same_address, word}
use Rattle.sbx_shows.proofs.Processor.{branches_to, calls_to, calm_branch, calm_call, calm_jump, jumps_to}
use Rattle.sbx_shows.proofs.Users.{control_shows, marked_shows, next_whole, next_word, register_shows}

-- a place that many words from a word is a word's
target_whole : (pc d : ℕ) → pc % 4 ≡ 0 → target pc d % 4 ≡ 0
target_whole pc d e = omega arith

target_word : (pc d : ℕ) → target pc d < 2 ^ 32
target_word pc d = omega arith

-- JMPL of sandboxed code writes no register
links_nowhere : (f : Three) → is_admitted (JumpAndLink f) ≡ true → f.rd ≡ 0
unfolding is_admitted
links_nowhere f e = by_rd (f.rd == 0) refl
  where
    by_rd : (t : Bool) → (f.rd == 0) ≡ t → f.rd ≡ 0
    by_rd true p = grind (arith, nat_tests, p)
    by_rd false p = absurd (let no : false ≡ true = rw p at e in cc)

-- a branch, taken or not
branch_control : (c : Control) (s : State) (b : Branch) → ShowsControl c s → s.pc % 4 ≡ 0 → ShowsControl (branched c b) (branches b s)
unfolding branched board_advanced jumped
branch_control c s b a whole =
    let both = by_taken (holds b.cond c.icc) in
    subst (λ k. ShowsControl (if holds b.cond c.icc then record (jumped c (target c.pc b.displacement)) { annul = annuls b c.icc } else record (board_advanced c) { annul = annuls b c.icc })
    (record (transferred (if holds b.cond k then target s.pc b.displacement else following s.npc) s) { annulled = annuls b s.icc })) a.icc both
  where
    by_taken : (t : Bool) → ShowsControl (if t then record (jumped c (target c.pc b.displacement)) { annul = annuls b c.icc } else record (board_advanced c) { annul = annuls b c.icc })
        (record (transferred (if t then target s.pc b.displacement else following s.npc) s) { annulled = annuls b s.icc })
    by_taken true = let at = a.pc in
        record {
          pc = a.npc;
          npc = ap (λ p. target p b.displacement) a.pc;
          npc_word = target_word c.pc b.displacement;
          npc_whole =
              target_whole c.pc b.displacement (omega arith);
          annul = ap (annuls b) a.icc;
          icc = a.icc;
          y = a.y;
          y_word = a.y_word;
          user = a.user;
          traps =
              a.traps;
          sane = a.sane;
          table = a.table;
        }
    by_taken false =
        record {
          pc = a.npc;
          npc = ap following a.npc;
          npc_word = next_word c.npc;
          npc_whole = next_whole c.npc a.npc_whole;
          annul = ap (annuls b) a.icc;
          icc =
              a.icc;
          y = a.y;
          y_word = a.y_word;
          user = a.user;
          traps = a.traps;
          sane = a.sane;
          table = a.table;
        }

-- a register written, and on to a place after the delay slot
jump_shows : (n : ℕ) (parts : Parts) (x : World n Device) (s : State) (r rd v place : ℕ) → Shows n parts x s r → rd < 32 → rd ≢ 14 → rd ≢ 30 → v < 2 ^ 32 → place < 2 ^ 32 → place % 4 ≡ 0 →
    Shows n parts (world n (record { regs = with_reg n x.cpu.regs rd v; control = jumped x.cpu.control place }) x.memory.ram x.memory.device) (transferred place (flat_with_reg rd v s)) r
unfolding jumped
jump_shows n parts x s r rd v place h low sp fp small word whole =
    let a = h.control in
    let wrote = register_shows n parts x s r rd v h low sp fp small in
    control_shows n parts (world n (record x.cpu { regs = with_reg n x.cpu.regs rd v }) x.memory.ram x.memory.device)
    (flat_with_reg rd v s) r s.npc place s.annulled s.icc s.y (jumped x.cpu.control place) wrote
    (record { pc = a.npc; npc = refl; npc_word = word; npc_whole = whole; annul = a.annul; icc = a.icc; y = a.y; y_word = a.y_word; user = a.user; traps = a.traps; sane = a.sane; table = a.table })

module _ (n : ℕ) (parts : Parts) (mmu : MmuRegs) (x : World n Device) (s : State) (r i : ℕ) (h : Stands n parts mmu x s r i) (good : IsWrong parts s → ⊥) where
  abbrev c : Cpu n
  c = x.cpu

  abbrev ram : List ℕ
  ram = fetched n parts mmu x s r i h

  marked : Shows n parts (world n c ram x.memory.device) s r
  marked = marked_shows n parts x s r ram h.shows (marks n parts mmu x s r i h)

  -- one that takes the processor there
  one : (op : Operation) (to : Cpu n) (next_state : State) → AsksFor parts.words i op → first_trap n c op ≡ None →
      ((y : World n Device) → acts board n mmu op y ≡ (quiet, record y { cpu = effect n y.cpu op })) →
      effect n c op ≡ to → does parts still op s ≡ Goes next_state → Shows n parts (world n to ram x.memory.device) next_state r → OneTurn n parts mmu x s op r
  one op to next_state is calm plain does_so goes shown = record {
    fresh = still;
    is_fresh = still_is_fresh;
    next_state = next_state;
    goes = goes;
    word = word n parts mmu x s r i h;
    access = None;
    new = world n to ram x.memory.device;
    turn = plain_turn n parts mmu x s r i h op is calm plain ∙ ap (λ (k : Cpu n). (turn_of n c Ran (Some (word n parts mmu x s r i h)) None, world n k ram x.memory.device)) does_so;
    reaches = tt;
    shows = shown;
  }

  pub branch_turn : (b : Branch) → AsksFor parts.words i (BranchOnCondition b) → OneTurn n parts mmu x s (BranchOnCondition b) r
  branch_turn b is =
      let at = h.place in
      one (BranchOnCondition b) (record c { control = branched c.control b }) (branches b s) is (calm_branch n c b) (λ y. refl) (branches_to n c b) refl
      (control_shows n parts (world n c ram x.memory.device) s r s.npc (flat_branched b s) (annuls b s.icc) s.icc s.y (branched c.control b) marked
      (branch_control c.control s b h.shows.control (omega arith)))

  pc_word : c.control.pc < 2 ^ 32
  pc_word = let few = (pages_few parts).code in let here = h.shows.control.pc in let at = h.place in let less = room n parts mmu x s r i h in omega arith

  pub call_turn : (d : ℕ) → AsksFor parts.words i (Call d) → OneTurn n parts mmu x s (Call d) r
  call_turn d is =
      let pc = c.control.pc in
      let here = h.shows.control.pc in
      let at = h.place in
      let to : Cpu n = record { regs = with_reg n c.regs 15 pc; control = jumped c.control (target pc d) } in
      let shown = jump_shows n parts (world n c ram x.memory.device) s r 15 pc (target pc d) marked (omega arith) (omega arith) (omega arith) pc_word
      (target_word pc d) (target_whole pc d (omega arith)) in
      one (Call d) to (transferred (target s.pc d) (flat_with_reg 15 s.pc s)) is (calm_call n c d) (λ y. refl) (calls_to n c d) refl
      (subst (λ p. Shows n parts (world n to ram x.memory.device) (transferred (target p d) (flat_with_reg 15 p s)) r) here shown)

  pub jump_turn : (f : Three) → AsksFor parts.words i (JumpAndLink f) → is_admitted (JumpAndLink f) ≡ true → OneTurn n parts mmu x s (JumpAndLink f) r
  jump_turn f is admitted = by_place (a % 4 == 0) refl
    where
      fit : ThreeIn f
      fit = fields n parts mmu x s r i h (JumpAndLink f) is

      a : ℕ
      a = address (reg s) f.rs1 f.operand2

      by_place : (t : Bool) → (a % 4 == 0) ≡ t → OneTurn n parts mmu x s (JumpAndLink f) r
      by_place false e = absurd (fails_not n parts mmu x s r i h (JumpAndLink f) is admitted good Misaligned (rw e refl))
      by_place true e =
          let whole : a % 4 ≡ 0 = grind (arith, nat_tests, e) in
          let none = links_nowhere f admitted in
          let place = same_address n parts mmu x s r i h f.rs1 f.operand2 fit.first fit.second in
          let pc = c.control.pc in
          let to : Cpu n = record { regs = with_reg n c.regs f.rd pc; control = jumped c.control a } in
          let shown = jump_shows n parts (world n c ram x.memory.device) s r f.rd pc a marked fit.destination (omega arith) (omega arith) pc_word (omega arith) whole in
          one (JumpAndLink f) to (transferred a (flat_with_reg f.rd s.pc s)) is (calm_jump n c f a place whole) (λ y. refl) (jumps_to n c f a place) (rw e refl)
          (subst (λ p. Shows n parts (world n to ram x.memory.device) (transferred a (flat_with_reg f.rd p s)) r) h.shows.control.pc shown)
