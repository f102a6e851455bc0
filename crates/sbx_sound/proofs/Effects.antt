-- Each kind of step of a state that shows what is shared leaves a state that shows what is shared after it, whatever the open words are.
use Rattle.std.proofs.Common.{◌≡◌, ◌≢◌, ℕ, zero, suc, ◌+◌, ◌-◌, ◌*◌, ◌%◌, ◌^◌, ◌<◌, ◌≤◌, Bool, true, false, List, [], ◌∷◌, Some, refl, sym, ap, ◌∙◌, subst, arith}
use Rattle.std.specs.Prelude.{◌==◌, ◌&&◌, ◌||◌, nat_lt, if◌then◌else◌}
use Rattle.std.proofs.lemmas.Bool.Decides.{nat_tests}
use Rattle.v8_word.specs.Conditions.{holds}
use Rattle.v8_word.specs.declared.Icc.{Icc}
use Rattle.v8_formats.specs.declared.instr.Branch.{Branch}
use Rattle.v8_formats.specs.declared.instr.Operand.TheVariants.{Immediate}
use Rattle.v8_formats.specs.declared.instr.Three.{Three}
use Rattle.v8_meaning.specs.declared.operation.MemoryOperand.{MemoryOperand}
use Rattle.v8_meaning.specs.declared.operation.Operation.TheVariants.{Save, Restore, Call, BranchOnCondition, JumpAndLink}
use Rattle.v8_meaning.specs.declared.operation.Transfer.TheVariants as transfer
use Rattle.v8_meaning.specs.Operands.{address, annuls, following, target}
use Rattle.sbx_image.specs.Parts.{Parts}
use Rattle.sbx_flat.specs.Effects.{aligned, branches, does, is_base, jumps, restores, saves, takes, transfers, transfers_in, writes}
use Rattle.sbx_flat.specs.Registers.{Frame, Fresh, Registers, Words, ins_of, popped, pushed, written}
use Rattle.sbx_flat.specs.declared.path.Wrong.TheVariants.{StackPointer, Misaligned, BadFrame}
use Rattle.sbx_flat.specs.States.{State, Turn, Goes, Fails, reg, with_reg, advanced, transferred}
use Rattle.sbx_sound.proofs.Shared.{KnownParts, Lent, Open, Own, Shared, Shows, ShowsCalls, ShowsFile, Window, slot_word, with_location, word_at_location}
use Rattle.sbx_sound.proofs.Frames.{high_location, IsFree, IsGivenBack, given_back, moved_in, pop_shows, push_shows, write_shows}
use Rattle.v8_meaning.specs.declared.operation.Loading.TheVariants as loadings

-- a turn goes on to a state of this kind
pub record Reaches (t : Turn) (P : State → Type 0) : Type 0 where
  pub next : State
  pub goes : t ≡ Goes next
  pub is : P next

pub reaches_by : (t u : Turn) (P : State → Type 0) → t ≡ u → Reaches u P → Reaches t P
reaches_by t u P e r = record { next = r.next; goes = e ∙ r.goes; is = r.is }

-- on to the next instruction, or to a target after it
abbrev pub moved_on : Shared → Shared
moved_on k = record k { pc = k.npc; npc = following k.npc }

abbrev pub moved_to : ℕ → Shared → Shared
moved_to target k = record k { pc = k.npc; npc = target }

-- ---- reading

-- a register that is known, or register 0
pub read_shown : (window : Window) (known : KnownParts) (k : Shared) (s : State) (r : ℕ) → r < 32 → k.words 0 ≡ 0 → (r ≢ 0 → known.location r ≡ true) → Shows window known k s → reg s r ≡ k.words r
unfolding reg
read_shown window known k s zero low none is_known shows = sym none
read_shown window known k s (suc r) low none is_known shows =
    let e : nat_lt (suc r) 32 ≡ true = grind (arith, nat_tests) in
    let f : word_at_location k.base s.registers (suc r) ≡ reg s (suc r) = ap (λ (t : Bool). if t then reg s (suc r) else slot_word k.base s.registers.newest (suc r - 32)) e in
    sym f ∙ shows.file.words_are (suc r) (is_known (omega arith))

-- ---- writes of registers

abbrev pub with_word_known : ℕ → ℕ → Shared → Shared
with_word_known n v k = record k { words = with_location n v k.words }

-- less is known, but for this location
pub record IsFewer (known now : KnownParts) (n : ℕ) : Type 0 where
  pub none : now.location 0 ≡ false
  pub location : (l : ℕ) → now.location l ≡ true → l ≢ n → known.location l ≡ true
  pub codes : now.codes ≡ true → known.codes ≡ true
  pub y : now.y ≡ true → known.y ≡ true

free_of_stack : (n : ℕ) (t u : Turn) → 14 ≢ n → 30 ≢ n → (if (n == 14) || (n == 30) then t else u) ≡ u
free_of_stack n t u a b = grind (arith, nat_tests)

pub writes_reach : (window : Window) (known now : KnownParts) (n v : ℕ) (k : Shared) (s : State) → IsFree window n → IsFewer known now n →
    Shows window known k s → Reaches (writes n v s) (Shows window now (moved_on (with_word_known n v k)))
writes_reach window known now n v k s free fewer shows =
    let rest = shows.rest in
    record {
      next = advanced (with_reg n v s);
      goes = free_of_stack n (Fails StackPointer) (Goes (advanced (with_reg n v s))) free.sp free.fp;
      is = record {
        rest = record { pc = rest.npc; npc = ap following rest.npc; annulled = rest.annulled; memory = rest.memory; input = rest.input; output = rest.output; exit = rest.exit };
        file = write_shows window known.location now.location k.base n v k.words k.calls s.registers free fewer.none fewer.location shows.file;
        codes = λ h. shows.codes (fewer.codes h);
        y = λ h. shows.y (fewer.y h);
      };
    }

-- the codes and Y set
abbrev pub with_codes_known : Icc → ℕ → Shared → Shared
with_codes_known icc y k = record k { icc = icc; y = y }

pub codes_show : (window : Window) (known now : KnownParts) (k : Shared) (s : State) (i j : Icc) (y z : ℕ) → (now.codes ≡ true → i ≡ j) →
    (now.y ≡ true → y ≡ z) → ((l : ℕ) → now.location l ≡ known.location l) → Shows window known k s →
    Shows window now (with_codes_known j z k) (record s { icc = i; y = y })
codes_show window known now k s i j y z same_codes same_y same shows =
    let rest = shows.rest in
    let file = shows.file in
    record {
      rest = record { pc = rest.pc; npc = rest.npc; annulled = rest.annulled; memory = rest.memory; input = rest.input; output = rest.output; exit = rest.exit };
      file = record { base_is = file.base_is; words_are = λ l h. file.words_are l (sym (same l) ∙ h); calls_are = file.calls_are; slots = file.slots; below = file.below };
      codes = same_codes;
      y = same_y;
    }

-- ---- frame words

-- one word that comes in is a write
or_nothing : (a b : Bool) → (a || b || false) ≡ (a || b)
or_nothing true b = refl
or_nothing false true = refl
or_nothing false false = refl

pub takes_one : (n v : ℕ) (s : State) → takes ((n, v) ∷ []) s ≡ writes n v s
takes_one n v s = ap (λ (t : Bool). if t then Fails StackPointer else Goes (advanced (with_reg n v s))) (or_nothing (n == 14) (n == 30))

-- LD of a frame word: the register takes the word
pub load_reaches : (parts : Parts) (size : ℕ) (known now : KnownParts) (j rd : ℕ) (k : Shared) (s : State) → 4 * j + 68 ≤ size → k.base % 8 ≡ 0 →
    known.location (32 + j) ≡ true → IsFree (Own size) rd → IsFewer known now rd → Shows (Own size) known k s
    → (m : MemoryOperand) → m.rd ≡ rd → Reaches (transfers parts (transfer.Load loadings.Word) m (k.base + 64 + 4 * j) s) (Shows (Own size) now (moved_on (with_word_known rd (k.words (32 + j)) k)))
load_reaches parts size known now j rd k s within eight is_known free fewer shows m same =
    let a = k.base + 64 + 4 * j in
    let there : s.registers.newest.slots a ≡ Some (slot_word k.base s.registers.newest j) = shows.file.slots j within in
    let is : slot_word k.base s.registers.newest j ≡ k.words (32 + j) = at_slot k.base s.registers j (k.words (32 + j)) (shows.file.words_are (32 + j) is_known) in
    reaches_by _ (writes rd (k.words (32 + j)) s) _
    (on_four k.base j eight _ ∙ ap (λ x. transfers_in parts (transfer.Load loadings.Word) m.rd a x s) (there ∙ ap Some is) ∙ takes_one m.rd (k.words (32 + j)) s
    ∙ ap (λ r. writes r (k.words (32 + j)) s) same)
    (writes_reach (Own size) known now rd (k.words (32 + j)) k s free fewer shows)
  where
    on_four : (base j : ℕ) → base % 8 ≡ 0 → (t : Turn) → aligned 4 (base + 64 + 4 * j) t ≡ t
    on_four base j e t = let f : (base + 64 + 4 * j) % 4 == 0 ≡ true = grind (arith, nat_tests) in ap (λ (b : Bool). if b then t else Fails Misaligned) f

    at_slot : (base : ℕ) (file : Registers) (j w : ℕ) → word_at_location base file (32 + j) ≡ w → slot_word base file.newest j ≡ w
    at_slot base file j w e =
        let g : 32 + j - 32 ≡ j = omega arith in
        ap (slot_word base file.newest) (sym g) ∙ sym (high_location base file (32 + j) (omega arith)) ∙ e

-- ---- transfers of control

abbrev pub linked : Shared → Shared
linked k = record k { words = with_location 15 k.pc k.words }

-- CALL: its own address goes to %o7
pub call_reaches : (parts : Parts) (fresh : Fresh) (size displacement : ℕ) (known now : KnownParts) (k : Shared) (s : State) → IsFewer known now 15 →
    Shows (Own size) known k s → Reaches (does parts fresh (Call displacement) s) (Shows (Own size) now (moved_to (target k.pc displacement) (linked k)))
call_reaches parts fresh size displacement known now k s fewer shows =
    let rest = shows.rest in
    let free : IsFree (Own size) 15 = record { register = omega arith; sp = omega arith; fp = omega arith; i7 = omega arith; lent = λ e. absurd (cc) } in
    record {
      next = transferred (target s.pc displacement) (with_reg 15 s.pc s);
      goes = refl;
      is = record {
        rest = record { pc = rest.npc; npc = ap (λ x. target x displacement) rest.pc; annulled = rest.annulled; memory = rest.memory; input = rest.input; output = rest.output; exit = rest.exit };
        file = subst (λ x. ShowsFile (Own size) now.location k.base (with_location 15 k.pc k.words) k.calls (written 15 x s.registers)) (sym rest.pc)
            (write_shows (Own size) known.location now.location k.base 15 k.pc k.words k.calls s.registers free fewer.none fewer.location shows.file);
        codes = λ h. shows.codes (fewer.codes h);
        y = λ h. shows.y (fewer.y h);
      };
    }

-- a branch, where its condition doesn't ask for codes that nobody knows
abbrev pub branched_shared : Branch → Shared → Shared
branched_shared b k = record k { pc = k.npc; npc = if holds b.cond k.icc then target k.pc b.displacement else following k.npc; annulled = annuls b k.icc }

pub branch_reaches : (parts : Parts) (fresh : Fresh) (b : Branch) (window : Window) (known : KnownParts) (k : Shared) (s : State) →
    ((i j : Icc) → (known.codes ≡ true → i ≡ j) → holds b.cond i ≡ holds b.cond j) → Shows window known k s →
    Reaches (does parts fresh (BranchOnCondition b) s) (Shows window known (branched_shared b k))
branch_reaches parts fresh b window known k s reads shows =
    let rest = shows.rest in
    let file = shows.file in
    let same = reads s.icc k.icc shows.codes in
    record {
      next = branches b s;
      goes = refl;
      is = record {
        rest = record {
          pc = rest.npc;
          npc = ap (λ (t : Bool). if t then target s.pc b.displacement else following s.npc) same
              ∙ ap (λ x. if holds b.cond k.icc then target x b.displacement else following s.npc) rest.pc
              ∙ ap (λ x. if holds b.cond k.icc then target k.pc b.displacement else following x) rest.npc;
          annulled = annuls_same b s.icc k.icc same;
          memory = rest.memory;
          input = rest.input;
          output = rest.output;
          exit = rest.exit;
        };
        file = record { base_is = file.base_is; words_are = file.words_are; calls_are = file.calls_are; slots = file.slots; below = file.below };
        codes = shows.codes;
        y = shows.y;
      };
    }
  where
    annuls_same : (b : Branch) (i j : Icc) → holds b.cond i ≡ holds b.cond j → annuls b i ≡ annuls b j
    annuls_same b i j e = grind (arith, nat_tests)

-- `ret` and `retl`: to the place after the caller's slot
aligned_goes : (a : ℕ) (t : Turn) → a % 4 ≡ 0 → aligned 4 a t ≡ t
aligned_goes a t e = let f : a % 4 == 0 ≡ true = grind (arith, nat_tests) in ap (λ (b : Bool). if b then t else Fails Misaligned) f

-- where %i7 and %o7 hold the caller's address
i7_of : (c : Open) (cs : List Open) (older : List Frame) (oldest : Words) → ShowsCalls (c ∷ cs) older oldest → ins_of older oldest 31 ≡ c.back
i7_of c cs [] oldest h = absurd h
i7_of c cs (f ∷ fs) oldest h = h.0.back

read_i7 : (c : Open) (cs : List Open) (s : State) → ShowsCalls (c ∷ cs) s.registers.older s.registers.oldest_ins → reg s 31 ≡ c.back
unfolding reg
read_i7 c cs s h = i7_of c cs s.registers.older s.registers.oldest_ins h

read_o7 : (c : Open) (cs : List Open) (s : State) → ShowsCalls (c ∷ cs) (s.registers.newest ∷ s.registers.older) s.registers.oldest_ins → reg s 15 ≡ c.back
unfolding reg
read_o7 c cs s h = h.0.back

keep_shows : (window : Window) (known : KnownParts) (k : Shared) (s : State) (t : ℕ) → Shows window known k s → Shows window known (moved_to t k) (transferred t s)
keep_shows window known k s t shows =
    let rest = shows.rest in
    let file = shows.file in
    record {
      rest = record { pc = rest.npc; npc = refl; annulled = rest.annulled; memory = rest.memory; input = rest.input; output = rest.output; exit = rest.exit };
      file = record { base_is = file.base_is; words_are = file.words_are; calls_are = file.calls_are; slots = file.slots; below = file.below };
      codes = shows.codes;
      y = shows.y;
    }

returns_goes : (s : State) (r a : ℕ) → reg s r ≡ a → (a + 8) % 2 ^ 32 % 4 ≡ 0 → jumps 0 (address (reg s) r (Immediate 8)) s ≡ Goes (transferred ((a + 8) % 2 ^ 32) s)
unfolding written
returns_goes s r a e four = ap (λ x. jumps 0 ((x + 8) % 2 ^ 32) s) e ∙ aligned_goes ((a + 8) % 2 ^ 32) _ four

pub ret_reaches : (parts : Parts) (fresh : Fresh) (size : ℕ) (known : KnownParts) (c : Open) (cs : List Open) (k : Shared) (s : State) → k.calls ≡ c ∷ cs →
    (c.back + 8) % 2 ^ 32 % 4 ≡ 0 → Shows (Own size) known k s
    → Reaches (does parts fresh (JumpAndLink (record { rd = 0; rs1 = 31; operand2 = Immediate 8 })) s) (Shows (Own size) known (moved_to ((c.back + 8) % 2 ^ 32) k))
ret_reaches parts fresh size known c cs k s is four shows = record {
  next = transferred ((c.back + 8) % 2 ^ 32) s;
  goes = returns_goes s 31 c.back (read_i7 c cs s (subst (λ x. ShowsCalls x s.registers.older s.registers.oldest_ins) is shows.file.calls_are)) four;
  is = keep_shows (Own size) known k s ((c.back + 8) % 2 ^ 32) shows;
}

pub retl_reaches : (parts : Parts) (fresh : Fresh) (known : KnownParts) (c : Open) (cs : List Open) (k : Shared) (s : State) → k.calls ≡ c ∷ cs → (c.back + 8) % 2 ^ 32 % 4 ≡ 0 → Shows Lent known k s
    → Reaches (does parts fresh (JumpAndLink (record { rd = 0; rs1 = 15; operand2 = Immediate 8 })) s) (Shows Lent known (moved_to ((c.back + 8) % 2 ^ 32) k))
retl_reaches parts fresh known c cs k s is four shows = record {
  next = transferred ((c.back + 8) % 2 ^ 32) s;
  goes = returns_goes s 15 c.back (read_o7 c cs s (subst (λ x. ShowsCalls x (s.registers.newest ∷ s.registers.older) s.registers.oldest_ins) is shows.file.calls_are)) four;
  is = keep_shows Lent known k s ((c.back + 8) % 2 ^ 32) shows;
}

-- SAVE
pub read_sp : (s : State) (base : ℕ) → s.registers.newest.outs 14 ≡ base → reg s 14 ≡ base
unfolding reg
read_sp s base e = e

pub save_reaches : (parts : Parts) (fresh : Fresh) (frame size : ℕ) (known now : KnownParts) (f : Three) (k : Shared) (s : State) → f.rd ≡ 14 → (b : ℕ) → address (reg s) f.rs1 f.operand2 ≡ b
    → k.base ≡ b + size → 64 ≤ size → b % 8 ≡ 0 → 0x100000 - 4096 * parts.stack_pages ≤ b → parts.stack_pages ≤ 16
    → ((l : ℕ) → now.location l ≡ true → (24 ≤ l) × (l < 32) × (known.location (l - 16) ≡ true)) → (now.codes ≡ false) → (now.y ≡ false) → Shows Lent known k s
    → Reaches (does parts fresh (Save f) s) (Shows (Own size) now (record (moved_on k) { base = b; words = moved_in k.words }))
save_reaches parts fresh frame size known now f k s rd b sum below big eight bottom pages moved no_codes no_y shows =
    let rest = shows.rest in
    let older : reg s 14 ≡ k.base = read_sp s k.base shows.file.base_is in
    record {
      next = advanced (record s { registers = pushed fresh b s.registers });
      goes = may_save parts fresh f.rd (address (reg s) f.rs1 f.operand2) b s k.base size rd sum older below big eight bottom;
      is = record {
        rest = record { pc = rest.npc; npc = ap following rest.npc; annulled = rest.annulled; memory = rest.memory; input = rest.input; output = rest.output; exit = rest.exit };
        file = push_shows known.location now.location k.base b size k.words k.calls fresh s.registers below eight (omega arith) moved shows.file;
        codes = λ h. absurd (cc);
        y = λ h. absurd (cc);
      };
    }
  where
    may_save : (parts : Parts) (fresh : Fresh) (rd x b : ℕ) (s : State) (base size : ℕ) → rd ≡ 14 → x ≡ b → reg s 14 ≡ base → base ≡ b + size → 64 ≤ size →
        b % 8 ≡ 0 → 0x100000 - 4096 * parts.stack_pages ≤ b → saves parts fresh rd x s ≡ Goes (advanced (record s { registers = pushed fresh b s.registers }))
    may_save parts fresh rd x b s base size p q r below big eight bottom =
        let test : ((rd == 14) && is_base parts (reg s 14) x) ≡ true = grind (arith, nat_tests) in
        ap (λ (t : Bool). if t then Goes (advanced (record s { registers = pushed fresh x s.registers })) else Fails BadFrame) test
        ∙ ap (λ y. Goes (advanced (record s { registers = pushed fresh y s.registers }))) q

-- RESTORE: the caller's frame, and then rd
pub restore_reaches : (parts : Parts) (fresh : Fresh) (size : ℕ) (known mid now : KnownParts) (f : Three) (c : Open) (cs : List Open) (k : Shared) (s : State) → k.calls ≡ c ∷ cs
    → (v : ℕ) → address (reg s) f.rs1 f.operand2 ≡ v → IsFree (Own c.frame) f.rd → IsGivenBack c known.location mid.location →
    (mid.codes ≡ true → known.codes ≡ true) → (mid.y ≡ true → known.y ≡ true) → IsFewer mid now f.rd → Shows (Own size) known k s
    → Reaches (does parts fresh (Restore f) s) (Shows (Own c.frame) now (moved_on (with_word_known f.rd v (record k { base = c.base; words = given_back c k.words; calls = cs }))))
restore_reaches parts fresh size known mid now f c cs k s is v sum free gives codes y fewer shows =
    let rest = shows.rest in
    let popped_file = pop_shows size known.location mid.location k.base k.words c cs s.registers gives (subst_calls is shows.file) in
    let t : State = record s { registers = popped_file.left } in
    let after : Shows (Own c.frame) mid (record k { base = c.base; words = given_back c k.words; calls = cs }) t = record {
      rest = record { pc = rest.pc; npc = rest.npc; annulled = rest.annulled; memory = rest.memory; input = rest.input; output = rest.output; exit = rest.exit };
      file = popped_file.shows;
      codes = λ h. shows.codes (codes h);
      y = λ h. shows.y (y h);
    } in
    reaches_by _ (writes f.rd v t) _
    (ap (λ x. restores f.rd x (popped s.registers) s) sum ∙ ap (λ x. restores f.rd v x s) popped_file.pops)
    (writes_reach (Own c.frame) mid now f.rd v (record k { base = c.base; words = given_back c k.words; calls = cs }) t free fewer after)
  where
    subst_calls : k.calls ≡ c ∷ cs → ShowsFile (Own size) known.location k.base k.words k.calls s.registers → ShowsFile (Own size) known.location k.base k.words (c ∷ cs) s.registers
    subst_calls e = subst (λ x. ShowsFile (Own size) known.location k.base k.words x s.registers) e
