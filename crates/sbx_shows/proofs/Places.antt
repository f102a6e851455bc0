-- Where user code stands: what both machines read there, and a turn that reaches no data.
use Rattle.std.proofs.Common.{◌≡◌, ◌≢◌, ℕ, ◌*◌, ◌^◌, ◌<◌, true, List, Some, None, refl, sym, ap, ◌∙◌, subst, arith}
use Rattle.std.specs.Prelude.{slice_index, ◌==◌, ◌||◌, if◌then◌else◌}
use Rattle.std.proofs.lemmas.Bool.Decides.{nat_tests}
use Rattle.v8_core.specs.Operand.{Operand}
use Rattle.v8_core.specs.Operand.TheVariants.{Register, Immediate}
use Rattle.v8_core.specs.Admitted.{is_admitted}
use Rattle.v8_core.specs.Operands.{address, second, sum_address}
use Rattle.v8_core.specs.Operation.{Operation}
use Rattle.v8_core.specs.Windows.{Windows, reg_of}
use Rattle.v8_core.specs.MmuRegs.{MmuRegs}
use Rattle.v8_core.specs.Effects.{address_of, effect}
use Rattle.v8_core.specs.Traps.{first_trap}
use Rattle.v8_core.specs.declared.turn.Event.TheVariants.{Ran}
use Rattle.v8_core.specs.Accesses.{World, quiet, world}
use Rattle.v8_core.specs.Steps.{acts, next, ran_event, turn_of}
use Rattle.v8_loaded.specs.Board.{Device, board}
use Rattle.v8_loaded.specs.Places.{code_marked}
use Rattle.v8_loaded.specs.Users.{AsksFor, RunsUser}
use Rattle.v8_loaded.proofs.Users.{user_runs}
use Rattle.v8_contained.proofs.Files.{reads_word}
use Rattle.v8_board.specs.Start.{pages_of}
use Rattle.sbx_flat.specs.Parts.{Parts}
use Rattle.sbx_flat.specs.Effects.{does}
use Rattle.sbx_flat.specs.Registers.{still}
use Rattle.sbx_flat.specs.States.{Fails, State, Turn, reg}
use Rattle.sbx_flat.specs.declared.path.Wrong.{Wrong}
use Rattle.sbx_flat.specs.declared.path.Wrong.TheVariants.{StackPointer}
use Rattle.sbx_flat.specs.Turns.{IsWrong, asked, turn, word_at}
use Rattle.sbx_flat.proofs.Law.{still_is_fresh}
use Rattle.sbx_flat.proofs.Turns.{performs_admitted, turn_at, word_at_place}
use Rattle.sbx_shows.specs.Steps.{Stands}
use Rattle.sbx_shows.proofs.Fields.{FieldsIn, SecondIn, fields_in}
use Rattle.sbx_shows.proofs.Reading.{reads_same}
use Rattle.sbx_shows.proofs.Stacks.{code_room}
use Rattle.sbx_shows.proofs.Users.{OnlyMarks, fetch_marks, runs_user}

-- only SAVE writes %sp and %fp
pub not_stack : (rd : ℕ) (t : Turn) → rd ≢ 14 → rd ≢ 30 → (if (rd == 14) || (rd == 30) then Fails StackPointer else t) ≡ t
not_stack rd t sp fp = grind (arith, nat_tests, sp, fp)

module _ (n : ℕ) (parts : Parts) (mmu : MmuRegs) (x : World n Device) (s : State) (r i : ℕ) (h : Stands n parts mmu x s r i) where
  pub room : i < 1024 * (pages_of parts).code_count
  room = code_room parts i h.fits h.within

  pub user : RunsUser n (pages_of parts) parts.words mmu x i
  user = runs_user n parts mmu x s r i h.shows h.root h.straight h.place room

  abbrev pub fetched : List ℕ
  fetched = code_marked i x.memory.ram

  pub marks : OnlyMarks n parts x.memory.ram fetched
  marks = fetch_marks n parts x.memory.ram i h.shows.loaded h.shows.marks room

  abbrev pub word : ℕ
  word = slice_index parts.words i

  abbrev regs : Windows
  regs = x.cpu.regs

  -- ---- what both read

  pub same_reg : (q : ℕ) → q < 32 → reg_of n regs q ≡ reg s q
  unfolding reg
  same_reg q less = reads_same n regs s.registers r q h.shows.file h.shows.calls less

  pub same_second : (o : Operand) → SecondIn o → second (reg_of n regs) o ≡ second (reg s) o
  same_second (Register q) small = same_reg q small
  same_second (Immediate k) small = refl

  pub second_word : (o : Operand) → SecondIn o → second (reg_of n regs) o < 2 ^ 32
  second_word (Register q) small = reads_word n regs q h.shows.file
  second_word (Immediate k) small = small

  pub same_address : (rs1 : ℕ) (o : Operand) → rs1 < 32 → SecondIn o → address_of n x.cpu rs1 o ≡ address (reg s) rs1 o
  unfolding address_of
  same_address rs1 o less small = ap (λ a. sum_address a (second (reg_of n regs) o)) (same_reg rs1 less) ∙ ap (sum_address (reg s rs1)) (same_second o small)

  -- the fields of the word's operation
  pub fields : (op : Operation) → AsksFor parts.words i op → FieldsIn op
  fields op is = subst FieldsIn is (fields_in word)

  -- ---- a turn that reaches no data

  pub plain_turn : (op : Operation) → AsksFor parts.words i op → first_trap n x.cpu op ≡ None → ((y : World n Device) → acts board n mmu op y ≡ (quiet, record y { cpu = effect n y.cpu op })) →
      next board n mmu x ≡ (turn_of n x.cpu Ran (Some word) None, world n (effect n x.cpu op) fetched x.memory.device)
  plain_turn op is calm plain =
      let new = world n (effect n x.cpu op) fetched x.memory.device in
      user_runs n (pages_of parts) parts.words mmu x i user op None new is calm (plain (world n x.cpu fetched x.memory.device))
      ∙ ap (λ e. (turn_of n x.cpu (ran_event e) (Some word) None, new)) h.shows.device.running

  -- ---- a state that does not fail

  pub here : word_at parts.words s.pc ≡ Some word
  here = ap (word_at parts.words) h.place ∙ word_at_place parts.words i h.within

  pub performs : (op : Operation) → AsksFor parts.words i op → is_admitted op ≡ true → (t : Turn) → does parts still op s ≡ t → turn parts still s ≡ t
  performs op is admitted t goes =
      turn_at parts still s word h.shows.going h.straight here
      ∙ performs_admitted parts still (asked word) s (subst (λ o. is_admitted o ≡ true) (sym is) admitted)
      ∙ ap (λ o. does parts still o s) is ∙ goes

  pub fails_not : (op : Operation) → AsksFor parts.words i op → is_admitted op ≡ true → (IsWrong parts s → ⊥) → (why : Wrong) → does parts still op s ≡ Fails why → ⊥
  fails_not op is admitted good why fails = good (still, still_is_fresh, why, performs op is admitted (Fails why) fails)
