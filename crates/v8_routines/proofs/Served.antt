-- A call of a service, turn by turn.
use Rattle.std.proofs.Common.{◌≡◌, ℕ, zero, suc, ◌+◌, ◌*◌, ◌%◌, ◌^◌, ◌<◌, Bool, true, false, List, [], ◌∷◌, ◌++◌, Some, None, refl, sym, ap, ◌∙◌, subst, arith}
use Rattle.std.specs.Prelude.{◌==◌, if◌then◌else◌}
use Rattle.std.proofs.lemmas.Bool.Decides.{nat_tests}
use Rattle.v8_core.specs.Size.TheVariants.{Word}
use Rattle.v8_core.specs.Table.{meaning}
use Rattle.v8_core.specs.Operand.TheVariants.{Register, Immediate}
use Rattle.v8_core.specs.Operands.{following}
use Rattle.v8_core.specs.Operations.{operation_of}
use Rattle.v8_core.specs.Windows.{Windows, above, can_enter, moved, reg_of, trapped, with_reg}
use Rattle.v8_core.specs.Stop.TheVariants.{Exit}
use Rattle.v8_core.specs.MmuRegs.{MmuRegs}
use Rattle.v8_loaded.specs.Handlers.{trap_word}
use Rattle.v8_core.specs.Effects.{address_of}
use Rattle.v8_core.specs.Traps.{applies, first_trap}
use Rattle.v8_core.specs.Control.{Control}
use Rattle.v8_core.specs.Cpu.{Cpu}
use Rattle.v8_core.specs.declared.turn.Event.{Event}
use Rattle.v8_core.specs.declared.turn.Event.TheVariants.{Ran, Stopped}
use Rattle.v8_core.specs.Accesses.{World, world, moving}
use Rattle.v8_core.specs.Steps.{next, ran_event}
use Rattle.v8_loaded.specs.Layout.{Pages, IsLoaded}
use Rattle.v8_loaded.specs.Board.{Device, board, gets, got_from}
use Rattle.v8_loaded.specs.Input.{next_byte}
use Rattle.v8_loaded.specs.Places.{code_marked, table_marked}
use Rattle.v8_loaded.specs.Turns.{Leads, TurnsTo, world_after}
use Rattle.v8_loaded.specs.Users.{RunsUser, in_vector}
use Rattle.v8_loaded.proofs.Fetches.{device_kept, table_kept}
use Rattle.v8_loaded.proofs.Leading.{leads_more, leads_one}
use Rattle.v8_loaded.proofs.Users.{pc_word as pc_fits, trap_turn, user_kept}
use Rattle.v8_loaded.proofs.Vectors.{vector_turn}
use Rattle.v8_routines.specs.Services.{Calls, ExitLaw, GetLaw, MayReturn, PutLaw, calls, exit_events, exited, got, put, returned_from, scratched, served_events, vector_marked, vector_registers}
use Rattle.v8_routines.proofs.Frames.{answered, answered_is, back, back_with, may_return, may_return_with, reads_address, reads_npc, reads_npc_after, reads_word}
use Rattle.v8_routines.proofs.Vector.{address_is, calm_jump, calm_load, calm_return, calm_store, input_loaded, jump_back, jumps_back, load_input, loads_input}
use Rattle.v8_routines.proofs.Vector.{register_address_is, resumed, return_back, returns_back, set_device, sets_device, store_word, stores_word, word_put}
use Rattle.v8_routines.proofs.Vector.{word_stopped}

-- ---- the words

exit_0 : operation_of (meaning (trap_word 512)) ≡ set_device
unfolding operation_of meaning trap_word
exit_0 = refl

exit_1 : operation_of (meaning (trap_word 513)) ≡ store_word 8
unfolding operation_of meaning trap_word
exit_1 = refl

get_0 : operation_of (meaning (trap_word 516)) ≡ set_device
unfolding operation_of meaning trap_word
get_0 = refl

get_1 : operation_of (meaning (trap_word 517)) ≡ load_input
unfolding operation_of meaning trap_word
get_1 = refl

get_2 : operation_of (meaning (trap_word 518)) ≡ jump_back
unfolding operation_of meaning trap_word
get_2 = refl

get_3 : operation_of (meaning (trap_word 519)) ≡ return_back
unfolding operation_of meaning trap_word
get_3 = refl

put_0 : operation_of (meaning (trap_word 520)) ≡ set_device
unfolding operation_of meaning trap_word
put_0 = refl

put_1 : operation_of (meaning (trap_word 521)) ≡ store_word 4
unfolding operation_of meaning trap_word
put_1 = refl

put_2 : operation_of (meaning (trap_word 522)) ≡ jump_back
unfolding operation_of meaning trap_word
put_2 = refl

put_3 : operation_of (meaning (trap_word 523)) ≡ return_back
unfolding operation_of meaning trap_word
put_3 = refl

-- ---- the trap of a call

calm_set : (n : ℕ) (cpu : Cpu n) → first_trap n cpu set_device ≡ None
unfolding applies
calm_set n cpu = refl

exit_traps : (n : ℕ) (cpu : Cpu n) → first_trap n cpu (calls 0) ≡ Some 0x80
unfolding applies reg_of
exit_traps n cpu = refl

get_traps : (n : ℕ) (cpu : Cpu n) → first_trap n cpu (calls 1) ≡ Some 0x81
unfolding applies reg_of
get_traps n cpu = refl

put_traps : (n : ℕ) (cpu : Cpu n) → first_trap n cpu (calls 2) ≡ Some 0x82
unfolding applies reg_of
put_traps n cpu = refl

-- ---- back in user code

control_back : (c : Control) (t : ℕ) → c.et ≡ true → c.annul ≡ false →
    record c { et = true; ps = c.s; annul = false; tt = t; pc = c.npc; npc = following c.npc } ≡ returned_from c t
control_back c t traps straight =
    ap (λ (b : Bool). record c { et = b; ps = c.s; annul = false; tt = t; pc = c.npc; npc = following c.npc }) (sym traps)
    ∙ ap (λ (b : Bool). record c { ps = c.s; annul = b; tt = t; pc = c.npc; npc = following c.npc }) (sym straight)

whole_test : (p : ℕ) → p % 4 ≡ 0 → (p % 4 == 0) ≡ true
whole_test p e = grind (arith, nat_tests)

-- four after a multiple of four
next_whole : (p : ℕ) → p % 4 ≡ 0 → ((p + 4) % 2 ^ 32 % 4 == 0) ≡ true
next_whole p e = let f : (p + 4) % 2 ^ 32 % 4 ≡ 0 = omega arith in whole_test ((p + 4) % 2 ^ 32) f

-- ---- the services

gets_running : (d : Device) → d.stopped ≡ None → (gets d).1.stopped ≡ None
unfolding gets
gets_running d running = by_end d.ended
  where
    by_end : (b : Bool) → (if b then (0xFFFFFFFF, d) else got_from d (next_byte d.input)).1.stopped ≡ None
    by_end true = running
    by_end false = running

module _ (n : ℕ) (g : Pages) (words : List ℕ) (mmu : MmuRegs) (x : World n Device) (i : ℕ) (u : RunsUser n g words mmu x i) where
  abbrev c : Cpu n
  c = x.cpu

  abbrev v : Windows
  v = x.cpu.regs

  abbrev pc : ℕ
  pc = x.cpu.control.pc

  abbrev npc : ℕ
  npc = x.cpu.control.npc

  abbrev d : Device
  d = x.memory.device

  -- RAM turn by turn
  abbrev ram1 : List ℕ
  ram1 = code_marked i x.memory.ram

  abbrev ram2 : List ℕ
  ram2 = table_marked ram1

  abbrev ram3 : Bool → List ℕ
  ram3 store = vector_marked i store x.memory.ram

  abbrev ram4 : Bool → List ℕ
  ram4 store = table_marked (ram3 store)

  pc_word : pc < 2 ^ 32
  pc_word = pc_fits n g words mmu x i u

  loaded1 : IsLoaded n g words ram1
  loaded1 = user_kept n g words mmu x i u

  loaded2 : IsLoaded n g words ram2
  loaded2 = table_kept n g words ram1 u.few loaded1

  loaded_before : IsLoaded n g words (table_marked ram2)
  loaded_before = table_kept n g words ram2 u.few loaded2

  loaded3 : (store : Bool) → IsLoaded n g words (ram3 store)
  loaded3 store = device_kept n g words (table_marked ram2) u.few loaded_before store

  loaded4 : (store : Bool) → IsLoaded n g words (ram4 store)
  loaded4 store = table_kept n g words (ram3 store) u.few (loaded3 store)

  abbrev vector : Windows
  vector = vector_registers n v pc npc

  -- sethi %hi(device),%l3, at the word k of the trap table
  set_turn : (t k a : ℕ) → k < 1024 → a ≡ 0xF0000000 + 4 * k → operation_of (meaning (trap_word k)) ≡ set_device →
      TurnsTo n g mmu (world n (in_vector n c t (trapped n v pc npc) a (following a)) ram1 d) Ran (world n (in_vector n c t vector (following a) (following (following a))) ram2 d)
  set_turn t k a small at is =
      vector_turn n g words mmu x i u t (trapped n v pc npc) a (following a) k ram1 d set_device None
      (world n (in_vector n c t vector (following a) (following (following a))) ram2 d) Ran loaded1 u.running small at is
      (calm_set n (in_vector n c t (trapped n v pc npc) a (following a))) (sets_device n mmu c t v pc npc a (following a) ram2 d) (ap ran_event u.running) tt

  device_at : (t a b offset va : ℕ) → (0xF0010000 + offset) % 2 ^ 32 ≡ va →
      address_of n (in_vector n c t vector a b) 19 (Immediate offset) ≡ va
  device_at t a b offset va is = address_is n c t vector a b 19 0xF0010000 offset (reads_address n v pc npc u.file pc_word u.npc_word)
      ∙ is

  -- jmpl %l2,%g0 and rett %l2+4, in these registers
  jump_turn : (t k a : ℕ) (regs : Windows) (ram : List ℕ) (e : Device) → IsLoaded n g words ram → e.stopped ≡ None →
      reg_of n regs 18 ≡ npc → k < 1024 → a ≡ 0xF0000000 + 4 * k → operation_of (meaning (trap_word k)) ≡ jump_back →
      TurnsTo n g mmu (world n (in_vector n c t regs a (following a)) ram e) Ran (world n (in_vector n c t regs (following a) npc) (table_marked ram) e)
  jump_turn t k a regs ram e loaded running reads small at is =
      let to = register_address_is n c t regs a (following a) 18 npc reads u.npc_word in
      vector_turn n g words mmu x i u t regs a (following a) k ram e jump_back None (world n (in_vector n c t regs (following a) npc) (table_marked ram) e) Ran loaded running small at is
      (calm_jump n (in_vector n c t regs a (following a)) (record { rd = 0; rs1 = 18; operand2 = Register 0 }) npc to (whole_test npc u.npc_whole))
      (jumps_back n mmu c t regs a (following a) npc (table_marked ram) e to) (ap ran_event running) tt

  return_turn : (t k a : ℕ) (regs : Windows) (ram : List ℕ) (e : Device) → IsLoaded n g words ram → e.stopped ≡ None →
      reg_of n regs 18 ≡ npc → can_enter regs (above n regs.current) ≡ true → k < 1024 → a ≡ 0xF0000000 + 4 * k →
      operation_of (meaning (trap_word k)) ≡ return_back →
      TurnsTo n g mmu (world n (in_vector n c t regs a npc) ram e) Ran (world n (resumed n c t (moved regs (above n regs.current)) npc (following npc)) (table_marked ram) e)
  return_turn t k a regs ram e loaded running reads free small at is =
      let to = address_is n c t regs a npc 18 npc 4 reads in
      vector_turn n g words mmu x i u t regs a npc k ram e return_back None
      (world n (resumed n c t (moved regs (above n regs.current)) npc (following npc)) (table_marked ram) e) Ran loaded running small at is
      (calm_return n c t regs a npc (record { rs1 = 18; operand2 = Immediate 4 }) (following npc) free to (next_whole npc u.npc_whole))
      (returns_back n mmu c t regs a npc (following npc) (table_marked ram) e to) (ap ran_event running) tt

  -- the end, with these registers
  ends_with : (t : ℕ) (regs windows : Windows) (ram : List ℕ) (e : Device) → windows ≡ regs →
      world n (resumed n c t windows npc (following npc)) ram e ≡ world n (record { regs = regs; control = returned_from c.control t }) ram e
  ends_with t regs windows ram e same =
      ap (λ (r : Windows). world n (resumed n c t r npc (following npc)) ram e) same
      ∙ ap (λ (k : Control). world n (record { regs = regs; control = k }) ram e) (control_back c.control t u.traps u.straight)

  abbrev word : ℕ
  word = reg_of n v 8

  reads : reg_of n vector 24 ≡ word
  reads = reads_word n v pc npc u.file pc_word u.npc_word

  -- st %i0,[%l3+8]
  stop_turn : TurnsTo n g mmu (world n (in_vector n c 0x80 vector 0xF0000804 0xF0000808) ram2 d) (Stopped (Exit word)) (exited n x i)
  stop_turn =
      let e : Device = record d { stopped = Some (Exit word) } in
      let at = device_at 0x80 0xF0000804 0xF0000808 8 0xF0010008 refl in
      vector_turn n g words mmu x i u 0x80 vector 0xF0000804 0xF0000808 513 ram2 d (store_word 8)
      (Some (record { va = 0xF0010008; pa = 0x100000008; size = Word; store = true })) (exited n x i) (Stopped (Exit word))
      loaded2 u.running (omega arith) refl exit_1
      (calm_store n (in_vector n c 0x80 vector 0xF0000804 0xF0000808) 8 0xF0010008 at refl)
      (stores_word n mmu c 0x80 vector 0xF0000804 0xF0000808 8 (table_marked ram2) (ram3 true) d e 0xF0010008 0x100000008 word at reads
      (word_stopped n g words (table_marked ram2) mmu d word u.few loaded_before u.root))
      refl refl

  pub exits_so : Calls words i 0 → Leads n g mmu x (exit_events word) (exited n x i)
  exits_so asks =
      leads_more (trap_turn n g words mmu x i u (calls 0) 0x80 asks (exit_traps n c))
      (leads_more (set_turn 0x80 512 0xF0000800 (omega arith) refl exit_0) (leads_one stop_turn))

  -- ld [%l3],%i0
  abbrev after_get : Device
  after_get = (gets d).1

  abbrev given : Windows
  given = answered n v pc npc (gets d).0

  get_turn : TurnsTo n g mmu (world n (in_vector n c 0x81 vector 0xF0000814 0xF0000818) ram2 d) Ran (world n (in_vector n c 0x81 given 0xF0000818 0xF000081C) (ram3 false) after_get)
  get_turn =
      let at = device_at 0x81 0xF0000814 0xF0000818 0 0xF0010000 refl in
      vector_turn n g words mmu x i u 0x81 vector 0xF0000814 0xF0000818 517 ram2 d load_input
      (Some (record { va = 0xF0010000; pa = 0x100000000; size = Word; store = false }))
      (world n (in_vector n c 0x81 given 0xF0000818 0xF000081C) (ram3 false) after_get) Ran
      loaded2 u.running (omega arith) refl get_1
      (calm_load n (in_vector n c 0x81 vector 0xF0000814 0xF0000818) 0xF0010000 at refl)
      (loads_input n mmu c 0x81 vector 0xF0000814 0xF0000818 (table_marked ram2) (ram3 false) d after_get 0xF0010000 0x100000000 (gets d).0 at
      (input_loaded n g words (table_marked ram2) mmu d u.few loaded_before u.root)
      ∙ ap (λ (r : Windows). (moving 0xF0010000 0x100000000 Word false, world n (in_vector n c 0x81 r 0xF0000818 0xF000081C) (ram3 false) after_get)) (answered_is n v pc npc (gets d).0))
      (ap ran_event (gets_running d u.running)) refl

  pub gets_so : MayReturn n x → Calls words i 1 → Leads n g mmu x (served_events 0x81) (got n x i)
  gets_so may asks =
      let running = gets_running d u.running in
      let here = reads_npc_after n v pc npc u.file pc_word u.npc_word (gets d).0 in
      let free = may_return_with n v pc npc u.file pc_word u.npc_word (gets d).0 may in
      let same = ends_with 0x81 (with_reg n (scratched n v pc npc) 8 (gets d).0) (moved given (above n given.current)) (table_marked (ram4 false)) after_get
      (back_with n v pc npc u.file pc_word u.npc_word (gets d).0) in
      let last = return_turn 0x81 519 0xF000081C given (ram4 false) after_get (loaded4 false) running here free (omega arith) refl get_3 in
      leads_more (trap_turn n g words mmu x i u (calls 1) 0x81 asks (get_traps n c))
      (leads_more (set_turn 0x81 516 0xF0000810 (omega arith) refl get_0)
      (leads_more get_turn
      (leads_more (jump_turn 0x81 518 0xF0000818 given (ram3 false) after_get (loaded3 false) running here (omega arith) refl get_2)
      (leads_one (subst (TurnsTo n g mmu (world n (in_vector n c 0x81 given 0xF000081C npc) (ram4 false) after_get) Ran) same last)))))

  -- st %i0,[%l3+4]
  abbrev after_put : Device
  after_put = record d { output = d.output ++ (word % 2 ^ 8) ∷ [] }

  put_turn : TurnsTo n g mmu (world n (in_vector n c 0x82 vector 0xF0000824 0xF0000828) ram2 d) Ran (world n (in_vector n c 0x82 vector 0xF0000828 0xF000082C) (ram3 true) after_put)
  put_turn =
      let at = device_at 0x82 0xF0000824 0xF0000828 4 0xF0010004 refl in
      vector_turn n g words mmu x i u 0x82 vector 0xF0000824 0xF0000828 521 ram2 d (store_word 4)
      (Some (record { va = 0xF0010004; pa = 0x100000004; size = Word; store = true }))
      (world n (in_vector n c 0x82 vector 0xF0000828 0xF000082C) (ram3 true) after_put) Ran
      loaded2 u.running (omega arith) refl put_1
      (calm_store n (in_vector n c 0x82 vector 0xF0000824 0xF0000828) 4 0xF0010004 at refl)
      (stores_word n mmu c 0x82 vector 0xF0000824 0xF0000828 4 (table_marked ram2) (ram3 true) d after_put 0xF0010004 0x100000004 word at reads
      (word_put n g words (table_marked ram2) mmu d word u.few loaded_before u.root))
      (ap ran_event u.running) refl

  pub puts_so : MayReturn n x → Calls words i 2 → Leads n g mmu x (served_events 0x82) (put n x i)
  puts_so may asks =
      let here = reads_npc n v pc npc u.file pc_word u.npc_word in
      let free = may_return n v pc npc u.file pc_word u.npc_word may in
      let same = ends_with 0x82 (scratched n v pc npc) (moved vector (above n vector.current)) (table_marked (ram4 true)) after_put (back n v pc npc u.file pc_word u.npc_word) in
      let last = return_turn 0x82 523 0xF000082C vector (ram4 true) after_put (loaded4 true) u.running here free (omega arith) refl put_3 in
      leads_more (trap_turn n g words mmu x i u (calls 2) 0x82 asks (put_traps n c))
      (leads_more (set_turn 0x82 520 0xF0000820 (omega arith) refl put_0)
      (leads_more put_turn
      (leads_more (jump_turn 0x82 522 0xF0000828 vector (ram3 true) after_put (loaded3 true) u.running here (omega arith) refl put_2)
      (leads_one (subst (TurnsTo n g mmu (world n (in_vector n c 0x82 vector 0xF000082C npc) (ram4 true) after_put) Ran) same last)))))

  -- ---- until its last turn a call stands in supervisor mode

  abbrev at_vector : ℕ → ℕ → World n Device
  at_vector t a = world n (in_vector n c t (trapped n v pc npc) a (following a)) ram1 d

  abbrev at_device : ℕ → ℕ → World n Device
  at_device t a = world n (in_vector n c t vector (following a) (following (following a))) ram2 d

  then_to : (k : ℕ) (mid new : World n Device) (event : Event) → world_after board n mmu k x ≡ mid → TurnsTo n g mmu mid event new → world_after board n mmu (suc k) x ≡ new
  then_to k mid new event before turn = ap (λ w. (next board n mmu w).1) before ∙ turn.is

  abbrev in_system : ℕ → Type 0
  in_system k = (world_after board n mmu k x).cpu.control.s ≡ true

  pub exit_system : Calls words i 0 → (k : ℕ) → k < 2 → in_system (suc k)
  exit_system asks k less = by_turn k less
    where
      first : world_after board n mmu 1 x ≡ at_vector 0x80 0xF0000800
      first = (trap_turn n g words mmu x i u (calls 0) 0x80 asks (exit_traps n c)).is

      second : world_after board n mmu 2 x ≡ at_device 0x80 0xF0000800
      second = then_to 1 (at_vector 0x80 0xF0000800) (at_device 0x80 0xF0000800) Ran first (set_turn 0x80 512 0xF0000800 (omega arith) refl exit_0)

      by_turn : (k : ℕ) → k < 2 → in_system (suc k)
      by_turn zero less = ap (λ (w : World n Device). w.cpu.control.s) first
      by_turn (suc zero) less = ap (λ (w : World n Device). w.cpu.control.s) second
      by_turn (suc (suc k)) less = absurd (omega arith)

  pub get_system : Calls words i 1 → (k : ℕ) → k < 4 → in_system (suc k)
  get_system asks k less = by_turn k less
    where
      third_world : World n Device
      third_world = world n (in_vector n c 0x81 given 0xF0000818 0xF000081C) (ram3 false) after_get

      fourth_world : World n Device
      fourth_world = world n (in_vector n c 0x81 given 0xF000081C npc) (ram4 false) after_get

      first : world_after board n mmu 1 x ≡ at_vector 0x81 0xF0000810
      first = (trap_turn n g words mmu x i u (calls 1) 0x81 asks (get_traps n c)).is

      second : world_after board n mmu 2 x ≡ at_device 0x81 0xF0000810
      second = then_to 1 (at_vector 0x81 0xF0000810) (at_device 0x81 0xF0000810) Ran first (set_turn 0x81 516 0xF0000810 (omega arith) refl get_0)

      third : world_after board n mmu 3 x ≡ third_world
      third = then_to 2 (at_device 0x81 0xF0000810) third_world Ran second get_turn

      fourth : world_after board n mmu 4 x ≡ fourth_world
      fourth = then_to 3 third_world fourth_world Ran third
          (jump_turn 0x81 518 0xF0000818 given (ram3 false) after_get (loaded3 false) (gets_running d u.running)
          (reads_npc_after n v pc npc u.file pc_word u.npc_word (gets d).0) (omega arith) refl get_2)

      by_turn : (k : ℕ) → k < 4 → in_system (suc k)
      by_turn zero less = ap (λ (w : World n Device). w.cpu.control.s) first
      by_turn (suc zero) less = ap (λ (w : World n Device). w.cpu.control.s) second
      by_turn (suc (suc zero)) less = ap (λ (w : World n Device). w.cpu.control.s) third
      by_turn (suc (suc (suc zero))) less = ap (λ (w : World n Device). w.cpu.control.s) fourth
      by_turn (suc (suc (suc (suc k)))) less = absurd (omega arith)

  pub put_system : Calls words i 2 → (k : ℕ) → k < 4 → in_system (suc k)
  put_system asks k less = by_turn k less
    where
      third_world : World n Device
      third_world = world n (in_vector n c 0x82 vector 0xF0000828 0xF000082C) (ram3 true) after_put

      fourth_world : World n Device
      fourth_world = world n (in_vector n c 0x82 vector 0xF000082C npc) (ram4 true) after_put

      first : world_after board n mmu 1 x ≡ at_vector 0x82 0xF0000820
      first = (trap_turn n g words mmu x i u (calls 2) 0x82 asks (put_traps n c)).is

      second : world_after board n mmu 2 x ≡ at_device 0x82 0xF0000820
      second = then_to 1 (at_vector 0x82 0xF0000820) (at_device 0x82 0xF0000820) Ran first (set_turn 0x82 520 0xF0000820 (omega arith) refl put_0)

      third : world_after board n mmu 3 x ≡ third_world
      third = then_to 2 (at_device 0x82 0xF0000820) third_world Ran second put_turn

      fourth : world_after board n mmu 4 x ≡ fourth_world
      fourth = then_to 3 third_world fourth_world Ran third
          (jump_turn 0x82 522 0xF0000828 vector (ram3 true) after_put (loaded3 true) u.running (reads_npc n v pc npc u.file pc_word u.npc_word) (omega arith) refl put_2)

      by_turn : (k : ℕ) → k < 4 → in_system (suc k)
      by_turn zero less = ap (λ (w : World n Device). w.cpu.control.s) first
      by_turn (suc zero) less = ap (λ (w : World n Device). w.cpu.control.s) second
      by_turn (suc (suc zero)) less = ap (λ (w : World n Device). w.cpu.control.s) third
      by_turn (suc (suc (suc zero))) less = ap (λ (w : World n Device). w.cpu.control.s) fourth
      by_turn (suc (suc (suc (suc k)))) less = absurd (omega arith)

pub exit_law : ExitLaw
exit_law n g words mmu x i u asks = exits_so n g words mmu x i u asks

pub get_law : GetLaw
get_law n g words mmu x i u may asks = gets_so n g words mmu x i u may asks

pub put_law : PutLaw
put_law n g words mmu x i u may asks = puts_so n g words mmu x i u may asks

-- what was loaded is loaded after a call too
pub loaded_after : (n : ℕ) (g : Pages) (words : List ℕ) (mmu : MmuRegs) (x : World n Device) (i : ℕ) (store : Bool) →
    RunsUser n g words mmu x i → IsLoaded n g words (table_marked (table_marked (vector_marked i store x.memory.ram)))
loaded_after n g words mmu x i store u = table_kept n g words (table_marked (vector_marked i store x.memory.ram)) u.few (loaded4 n g words mmu x i u store)
