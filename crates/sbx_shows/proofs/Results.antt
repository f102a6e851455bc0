-- Turns of user code that write a register, Y or the codes: results of every operation that reaches no memory and no window.
use Rattle.std.proofs.Common.{◌≡◌, ◌≢◌, ℕ, ◌^◌, ◌<◌, Bool, true, false, Option, Some, None, refl, sym, ap, ◌∙◌, subst, arith}
use Rattle.std.specs.Prelude.{IfSome, bit_xor, ◌==◌, ◌||◌, if◌then◌else◌}
use Rattle.std.proofs.lemmas.Bool.Decides.{nat_tests}
use Rattle.std.proofs.lemmas.Nat.{xor_lt}
use Rattle.v8_core.specs.Icc.{Icc}
use Rattle.v8_core.specs.Three.{Three}
use Rattle.v8_core.specs.Two.{Two}
use Rattle.v8_core.specs.Upper.{Upper}
use Rattle.v8_core.specs.AluOut.{AluOut}
use Rattle.v8_core.specs.Division.{Division}
use Rattle.v8_core.specs.Op.{Op}
use Rattle.v8_core.specs.TaggedOp.{TaggedOp}
use Rattle.v8_core.specs.Outcomes.{division_of, outcome, tagged_outcome}
use Rattle.v8_core.specs.Admitted.{is_admitted}
use Rattle.v8_core.specs.Operation.{Operation}
use Rattle.v8_core.specs.Operation.TheVariants.{Compute, Divide, TaggedTrap, SetHigh, ReadY, WriteY}
use Rattle.v8_core.specs.Windows.{reg_of}
use Rattle.v8_core.specs.MmuRegs.{MmuRegs}
use Rattle.v8_core.specs.Effects.{effect, quotient_from, second_of, state_operand, tagged_from}
use Rattle.v8_core.specs.Traps.{first_trap}
use Rattle.v8_core.specs.Cpu.{Cpu}
use Rattle.v8_core.specs.declared.turn.Event.TheVariants.{Ran}
use Rattle.v8_core.specs.Accesses.{World, quiet, world}
use Rattle.v8_core.specs.Steps.{acts, turn_of}
use Rattle.v8_loaded.specs.Board.{Device, board}
use Rattle.v8_loaded.specs.Users.{AsksFor}
use Rattle.v8_alu.proofs.Outcomes.{AreResults, division_words, outcome_words, tagged_words}
use Rattle.v8_contained.proofs.Files.{reads_word}
use Rattle.sbx_flat.specs.Parts.{Parts}
use Rattle.sbx_flat.specs.Effects.{does, high_word, operand_value, writes, writes_result, writes_some}
use Rattle.sbx_flat.specs.Registers.{still}
use Rattle.sbx_flat.specs.States.{Fails, Goes, State, Turn, advanced, reg, with_reg as flat_with_reg}
use Rattle.sbx_flat.specs.Turns.{IsWrong}
use Rattle.sbx_flat.specs.declared.path.Wrong.{Wrong}
use Rattle.sbx_flat.specs.declared.path.Wrong.TheVariants.{StackPointer, TagOverflow, ZeroDivisor}
use Rattle.sbx_flat.proofs.Law.{still_is_fresh}
use Rattle.sbx_shows.specs.Shows.{Shows}
use Rattle.sbx_shows.specs.Steps.{OneTurn, Stands}
use Rattle.sbx_shows.proofs.Fields.{ThreeIn, TwoIn}
use Rattle.sbx_shows.proofs.Places.{fails_not, fetched, fields, marks, plain_turn, same_reg, same_second, second_word, word}
use Rattle.sbx_shows.proofs.Processor.{adds_tagged, board_outcome, calm_compute, calm_divide, calm_high, calm_read, calm_tagged, calm_write, computes, divides}
use Rattle.sbx_shows.proofs.Processor.{moved_on, reads_y, sets_high, with_result, with_value, writes_y}
use Rattle.sbx_shows.proofs.Users.{marked_shows, moved_shows, value_shows, write_shows}

-- a result that there is goes to its register, or the state is wrong
written_result : (rd : ℕ) (why : Wrong) (o : Option AluOut) (out : AluOut) (s : State) → o ≡ Some out → writes_some rd why o s ≡ writes_result rd out s
written_result rd why o out s is = ap (λ p. writes_some rd why p s) is

module _ (n : ℕ) (parts : Parts) (mmu : MmuRegs) (x : World n Device) (s : State) (r i : ℕ) (h : Stands n parts mmu x s r i) (good : IsWrong parts s → ⊥) where
  abbrev c : Cpu n
  c = x.cpu

  -- ---- the registers that may be written

  free_of : (op : Operation) (rd : ℕ) (rest : Turn) → AsksFor parts.words i op → is_admitted op ≡ true →
      does parts still op s ≡ (if (rd == 14) || (rd == 30) then Fails StackPointer else rest) → ((rd == 14) || (rd == 30)) ≡ false
  free_of op rd rest is admitted goes = by_test ((rd == 14) || (rd == 30)) refl
    where
      by_test : (t : Bool) → ((rd == 14) || (rd == 30)) ≡ t → ((rd == 14) || (rd == 30)) ≡ false
      by_test true e = absurd (fails_not n parts mmu x s r i h op is admitted good StackPointer (goes ∙ ap (λ (b : Bool). if b then Fails StackPointer else rest) e))
      by_test false e = e

  not_sp : (rd : ℕ) → ((rd == 14) || (rd == 30)) ≡ false → rd ≢ 14
  not_sp rd e = grind (arith, nat_tests, e)

  not_fp : (rd : ℕ) → ((rd == 14) || (rd == 30)) ≡ false → rd ≢ 30
  not_fp rd e = grind (arith, nat_tests, e)

  -- ---- a result with codes and Y

  result_turn : (op : Operation) (rd : ℕ) (out : AluOut) → AsksFor parts.words i op → is_admitted op ≡ true → rd < 32 → first_trap n c op ≡ None →
      ((y : World n Device) → acts board n mmu op y ≡ (quiet, record y { cpu = effect n y.cpu op })) →
      effect n c op ≡ with_result n c rd out → AreResults out → does parts still op s ≡ writes_result rd out s → OneTurn n parts mmu x s op r
  result_turn op rd out is admitted low calm plain does_so small goes =
      let ram = fetched n parts mmu x s r i h in
      let new = world n (with_result n c rd out) ram x.memory.device in
      let next_state = advanced (flat_with_reg rd out.value (record s { icc = out.icc; y = out.y })) in
      let free = free_of op rd (Goes next_state) is admitted goes in
      record {
        fresh = still;
        is_fresh = still_is_fresh;
        next_state = next_state;
        goes = goes ∙ ap (λ (b : Bool). if b then Fails StackPointer else Goes next_state) free;
        word = word n parts mmu x s r i h;
        access = None;
        new = new;
        turn = plain_turn n parts mmu x s r i h op is calm plain ∙ ap (λ (k : Cpu n). (turn_of n c Ran (Some (word n parts mmu x s r i h)) None, world n k ram x.memory.device)) does_so;
        reaches = tt;
        shows = write_shows n parts x s r rd out.value out.icc out.y ram h.shows (marks n parts mmu x s r i h) low (not_sp rd free) (not_fp rd free) small.0 small.1;
      }

  -- what both machines compute
  same_operands : {A : Type 0} (f : ℕ → ℕ → Icc → ℕ → A) (k : Three) → ThreeIn k →
      f (reg_of n c.regs k.rs1) (second_of n c k.operand2) c.control.icc c.control.y ≡ f (reg s k.rs1) (operand_value s k.operand2) s.icc s.y
  same_operands f k fit =
      ap (λ a. f a (second_of n c k.operand2) c.control.icc c.control.y) (same_reg n parts mmu x s r i h k.rs1 fit.first)
      ∙ ap (λ b. f (reg s k.rs1) b c.control.icc c.control.y) (same_second n parts mmu x s r i h k.operand2 fit.second)
      ∙ ap (λ (d : Icc). f (reg s k.rs1) (operand_value s k.operand2) d c.control.y) h.shows.control.icc
      ∙ ap (λ y. f (reg s k.rs1) (operand_value s k.operand2) s.icc y) h.shows.control.y

  pub compute_turn : (op : Op) (f : Three) → AsksFor parts.words i (Compute op f) → OneTurn n parts mmu x s (Compute op f) r
  unfolding is_admitted
  compute_turn op f is =
      let fit : ThreeIn f = fields n parts mmu x s r i h (Compute op f) is in
      let out = board_outcome n c op f in
      let same = same_operands (outcome op) f fit in
      let words = outcome_words op (reg_of n c.regs f.rs1) (second_of n c f.operand2) c.control.icc c.control.y (reads_word n c.regs f.rs1 h.shows.file)
      (second_word n parts mmu x s r i h f.operand2 fit.second) h.shows.control.y_word in
      result_turn (Compute op f) f.rd out is refl fit.destination (calm_compute n c op f) (λ y. refl) (computes n c op f) words (ap (λ (o : AluOut). writes_result f.rd o s) (sym same))

  words_of : (o : Option AluOut) (out : AluOut) → o ≡ Some out → IfSome o AreResults → AreResults out
  words_of o out is small = subst (λ (p : Option AluOut). IfSome p AreResults) is small

  pub divide_turn : (op : Division) (f : Three) → AsksFor parts.words i (Divide op f) → OneTurn n parts mmu x s (Divide op f) r
  unfolding is_admitted quotient_from
  divide_turn op f is = by_result (quotient_from n c op f) refl
    where
      fit : ThreeIn f
      fit = fields n parts mmu x s r i h (Divide op f) is

      same : quotient_from n c op f ≡ division_of op (reg s f.rs1) (operand_value s f.operand2) s.icc s.y
      same = same_operands (division_of op) f fit

      by_result : (o : Option AluOut) → quotient_from n c op f ≡ o → OneTurn n parts mmu x s (Divide op f) r
      by_result None e = absurd (fails_not n parts mmu x s r i h (Divide op f) is refl good ZeroDivisor (ap (λ o. writes_some f.rd ZeroDivisor o s) (sym same ∙ e)))
      by_result (Some out) e =
          result_turn (Divide op f) f.rd out is refl fit.destination (calm_divide n c op f out e) (λ y. refl) (divides n c op f out e)
          (words_of (quotient_from n c op f) out e (division_words op (reg_of n c.regs f.rs1) (second_of n c f.operand2) c.control.icc c.control.y h.shows.control.y_word))
          (written_result f.rd ZeroDivisor _ out s (sym same ∙ e))

  pub tagged_turn : (op : TaggedOp) (f : Three) → AsksFor parts.words i (TaggedTrap op f) → OneTurn n parts mmu x s (TaggedTrap op f) r
  unfolding is_admitted tagged_from
  tagged_turn op f is = by_result (tagged_from n c op f) refl
    where
      fit : ThreeIn f
      fit = fields n parts mmu x s r i h (TaggedTrap op f) is

      same : tagged_from n c op f ≡ tagged_outcome op (reg s f.rs1) (operand_value s f.operand2) s.icc s.y
      same = same_operands (tagged_outcome op) f fit

      by_result : (o : Option AluOut) → tagged_from n c op f ≡ o → OneTurn n parts mmu x s (TaggedTrap op f) r
      by_result None e = absurd (fails_not n parts mmu x s r i h (TaggedTrap op f) is refl good TagOverflow (ap (λ o. writes_some f.rd TagOverflow o s) (sym same ∙ e)))
      by_result (Some out) e =
          result_turn (TaggedTrap op f) f.rd out is refl fit.destination (calm_tagged n c op f out e) (λ y. refl) (adds_tagged n c op f out e)
          (words_of (tagged_from n c op f) out e (tagged_words op (reg_of n c.regs f.rs1) (second_of n c f.operand2) c.control.icc c.control.y h.shows.control.y_word))
          (written_result f.rd TagOverflow _ out s (sym same ∙ e))

  -- ---- a word

  value_turn : (op : Operation) (rd v : ℕ) → AsksFor parts.words i op → is_admitted op ≡ true → rd < 32 → first_trap n c op ≡ None →
      ((y : World n Device) → acts board n mmu op y ≡ (quiet, record y { cpu = effect n y.cpu op })) →
      effect n c op ≡ with_value n c rd v → v < 2 ^ 32 → does parts still op s ≡ writes rd v s → OneTurn n parts mmu x s op r
  value_turn op rd v is admitted low calm plain does_so small goes =
      let ram = fetched n parts mmu x s r i h in
      let new = world n (with_value n c rd v) ram x.memory.device in
      let next_state = advanced (flat_with_reg rd v s) in
      let free = free_of op rd (Goes next_state) is admitted goes in
      record {
        fresh = still;
        is_fresh = still_is_fresh;
        next_state = next_state;
        goes = goes ∙ ap (λ (b : Bool). if b then Fails StackPointer else Goes next_state) free;
        word = word n parts mmu x s r i h;
        access = None;
        new = new;
        turn = plain_turn n parts mmu x s r i h op is calm plain ∙ ap (λ (k : Cpu n). (turn_of n c Ran (Some (word n parts mmu x s r i h)) None, world n k ram x.memory.device)) does_so;
        reaches = tt;
        shows = value_shows n parts x s r rd v ram h.shows (marks n parts mmu x s r i h) low (not_sp rd free) (not_fp rd free) small;
      }

  pub high_turn : (f : Upper) → AsksFor parts.words i (SetHigh f) → OneTurn n parts mmu x s (SetHigh f) r
  unfolding is_admitted
  high_turn f is =
      let low : f.rd < 32 = fields n parts mmu x s r i h (SetHigh f) is in
      value_turn (SetHigh f) f.rd (high_word f) is refl low (calm_high n c f) (λ y. refl) (sets_high n c f) (omega arith) refl

  pub read_turn : (rd : ℕ) → AsksFor parts.words i (ReadY rd) → OneTurn n parts mmu x s (ReadY rd) r
  unfolding is_admitted
  read_turn rd is =
      let low : rd < 32 = fields n parts mmu x s r i h (ReadY rd) is in
      value_turn (ReadY rd) rd c.control.y is refl low (calm_read n c rd) (λ y. refl) (reads_y n c rd) h.shows.control.y_word (ap (λ v. writes rd v s) (sym h.shows.control.y))

  -- ---- Y

  pub write_turn : (f : Two) → AsksFor parts.words i (WriteY f) → OneTurn n parts mmu x s (WriteY f) r
  write_turn f is =
      let fit : TwoIn f = fields n parts mmu x s r i h (WriteY f) is in
      let ram = fetched n parts mmu x s r i h in
      let first = same_reg n parts mmu x s r i h f.rs1 fit.first in
      let other = same_second n parts mmu x s r i h f.operand2 fit.second in
      let v = bit_xor (reg s f.rs1) (operand_value s f.operand2) in
      let same : state_operand n c f ≡ v = ap (λ a. bit_xor a (second_of n c f.operand2)) first ∙ ap (bit_xor (reg s f.rs1)) other in
      let small : state_operand n c f < 2 ^ 32 =
      xor_lt 32 (reg_of n c.regs f.rs1) (second_of n c f.operand2) (reads_word n c.regs f.rs1 h.shows.file)
      (second_word n parts mmu x s r i h f.operand2 fit.second) in
      let k = c.control in
      let new = world n (record c { control = moved_on k k.icc (state_operand n c f) }) ram x.memory.device in
      let marked = marked_shows n parts x s r ram h.shows (marks n parts mmu x s r i h) in
      let shown = moved_shows n parts (world n c ram x.memory.device) s r k.icc (state_operand n c f) marked small in
      let codes : record s { icc = k.icc; y = state_operand n c f } ≡ record s { y = v } =
      ap (λ (d : Icc). record s { icc = d; y = state_operand n c f }) h.shows.control.icc ∙ ap (λ y. record s { y = y }) same in
      record {
        fresh = still;
        is_fresh = still_is_fresh;
        next_state = advanced (record s { y = v });
        goes = refl;
        word = word n parts mmu x s r i h;
        access = None;
        new = new;
        turn = plain_turn n parts mmu x s r i h (WriteY f) is (calm_write n c f) (λ y. refl)
            ∙ ap (λ (k : Cpu n). (turn_of n c Ran (Some (word n parts mmu x s r i h)) None, world n k ram x.memory.device)) (writes_y n c f);
        reaches = tt;
        shows = subst (λ (t : State). Shows n parts new (advanced t) r) codes shown;
      }
