-- A machine at a start shows a flat start.
use Rattle.std.proofs.Common.{◌≡◌, ℕ, zero, suc, ◌+◌, ◌-◌, ◌^◌, ◌<◌, ◌≤◌, ◌⊎◌, inl, inr, Bool, true, false, List, [], ◌∷◌, reverse, Option, None, slice_index}
use Rattle.std.proofs.Common.{slice_get, refl, sym, ap, ◌∙◌, subst, arith}
use Rattle.std.specs.Prelude.{◌==◌, ◌&&◌, nat_le, ◌%◌, ◌/◌, if◌then◌else◌}
use Rattle.std.proofs.lemmas.Bool.Decides.{nat_tests}
use Rattle.std.proofs.lemmas.Option.{slice_get_past}
use Rattle.v8_map.specs.declared.TheConstants.{STACK_START}
use Rattle.sbx_image.specs.Rules.{code_start}
use Rattle.sbx_image.specs.Parts.{Parts}
use Rattle.sbx_image.specs.Regions.{data_at}
use Rattle.sbx_flat.specs.Registers.{AreWords, Registers, with_word, word_in}
use Rattle.sbx_flat.specs.Runs.{IsStart}
use Rattle.sbx_flat.specs.States.{State}
use Rattle.flat_plain.specs.Shows.{Shows, ShowsCallers, ShowsFrames, cell_at, slot_at, word_of}
use Rattle.flat_plain.specs.declared.frames.Frames.{Frames}
use Rattle.flat_plain.specs.declared.machine.Plain.{Plain}
use Rattle.flat_plain.proofs.Shown.{eight, seven, word_from, word_local, word_low, word_out}

-- the frames of a start: one call, whose open words are `fill`
pub record IsFirst (m : Frames) (fill : ℕ) : Type 0 where
  pub globals : m.globals ≡ 0 ∷ fill ∷ fill ∷ fill ∷ fill ∷ fill ∷ fill ∷ fill ∷ []
  pub outs : m.outs ≡ fill ∷ fill ∷ fill ∷ fill ∷ fill ∷ fill ∷ STACK_START ∷ fill ∷ []
  pub locals : m.locals ≡ fill ∷ fill ∷ fill ∷ fill ∷ fill ∷ fill ∷ fill ∷ fill ∷ []
  pub ins : m.ins ≡ fill ∷ fill ∷ fill ∷ fill ∷ fill ∷ fill ∷ fill ∷ fill ∷ []
  pub slots : m.slots.words.items ≡ []
  pub older : m.older.items ≡ []

abbrev pub start_file : ℕ → Registers
start_file fill = record { globals = λ _. fill; newest = record { locals = λ _. fill; outs = with_word (λ _. fill) 14 STACK_START; slots = λ _. None }; older = []; oldest_ins = λ _. fill }

abbrev start_word : ℕ → ℕ → ℕ
start_word fill r = if r == 0 then 0 else if r == 14 then STACK_START else fill

file_word : (fill r : ℕ) → r < 32 → word_in (start_file fill) r ≡ start_word fill r
file_word fill r less = grind (arith, nat_tests)

first_zero : (x k : ℕ) → k < 8 → slice_index (0 ∷ x ∷ x ∷ x ∷ x ∷ x ∷ x ∷ x ∷ []) k ≡ (if k == 0 then 0 else x)
first_zero x zero h = refl
first_zero x (suc zero) h = refl
first_zero x (suc (suc zero)) h = refl
first_zero x (suc (suc (suc zero))) h = refl
first_zero x (suc (suc (suc (suc zero)))) h = refl
first_zero x (suc (suc (suc (suc (suc zero))))) h = refl
first_zero x (suc (suc (suc (suc (suc (suc zero)))))) h = refl
first_zero x (suc (suc (suc (suc (suc (suc (suc zero))))))) h = refl
first_zero x (suc (suc (suc (suc (suc (suc (suc (suc k)))))))) h = absurd (omega arith)

low_word : (fill r : ℕ) → r < 8 → (if r == 0 then 0 else fill) ≡ start_word fill r
low_word fill r low = grind (arith, nat_tests)

out_word : (fill r : ℕ) → 8 ≤ r → (if r - 8 == 6 then STACK_START else fill) ≡ start_word fill r
out_word fill r low = grind (arith, nat_tests)

high_word : (fill r : ℕ) → 16 ≤ r → fill ≡ start_word fill r
high_word fill r low = grind (arith, nat_tests)

frames_word : (m : Frames) (fill r : ℕ) → IsFirst m fill → r < 32 → (r < 8) ⊎ (8 ≤ r) → (r < 16) ⊎ (16 ≤ r) → (r < 24) ⊎ (24 ≤ r) → word_of m r ≡ start_word fill r
frames_word m fill r is less (inl low) b c = word_low m r low ∙ ap (λ l. slice_index l r) is.globals ∙ first_zero fill r low ∙ low_word fill r low
frames_word m fill r is less (inr past) (inl low) c = word_out m r past low ∙ ap (λ l. slice_index l (r - 8)) is.outs ∙ seven fill STACK_START (r - 8) (omega arith) ∙ out_word fill r past
frames_word m fill r is less (inr far) (inr past) (inl low) = word_local m r past low ∙ ap (λ l. slice_index l (r - 16)) is.locals ∙ eight fill (r - 16) (omega arith) ∙ high_word fill r past
frames_word m fill r is less (inr far) (inr farther) (inr past) = word_from m r past ∙ ap (λ l. slice_index l (r - 24)) is.ins ∙ eight fill (r - 24) (omega arith) ∙ high_word fill r (omega arith)

none_or : (b : Bool) (o : Option ℕ) → o ≡ None → None ≡ (if b then o else None)
none_or true o none = sym none
none_or false o none = refl

no_slots : (first : ℕ) (words : List ℕ) (a : ℕ) → words ≡ [] → None ≡ slot_at first words a
no_slots first words a none =
    subst (λ l. None ≡ slot_at first l a) (sym none) (none_or (nat_le first a && ((a - first) % 4 == 0)) (slice_get [] ((a - first) / 4)) (slice_get_past [] ((a - first) / 4) (omega arith)))

frames_show : (m : Frames) (fill : ℕ) → IsFirst m fill → ShowsFrames m (start_file fill)
frames_show m fill is = record {
  registers = λ r less. file_word fill r less ∙ sym (frames_word m fill r is less (search arith) (search arith) (search arith));
  slots = λ a. no_slots m.slots.first m.slots.words.items a is.slots;
  callers = subst (λ ms. ShowsCallers (reverse ms) [] (λ _. fill)) (sym is.older) tt;
}

outs_are_words : (fill : ℕ) → fill < 2 ^ 32 → AreWords (with_word (λ _. fill) 14 STACK_START)
outs_are_words fill small n = grind (arith, nat_tests)

abbrev start_state : Parts → List ℕ → ℕ → State
start_state parts input fill = record {
  pc = code_start;
  npc = code_start + 4;
  annulled = false;
  icc = record { n = false; z = false; v = false; c = false };
  y = fill;
  registers = start_file fill;
  memory = data_at parts.regions;
  input = input;
  output = [];
  exit = None;
}

pub starts : (parts : Parts) (input : List ℕ) (fill : ℕ) (m : Plain) → fill < 2 ^ 32 → m.pc ≡ code_start → m.npc ≡ code_start + 4 → m.annulled ≡ false →
    m.icc ≡ record { n = false; z = false; v = false; c = false } → m.y ≡ fill →
    IsFirst m.frames fill → ((a : ℕ) → cell_at m.memory.cells.items a ≡ data_at parts.regions a) → m.input.now ≡ input → m.output.items ≡ [] → m.exit ≡ None →
    (s : State) × IsStart parts input s × Shows m s
starts parts input fill m small pc npc straight icc y frames bytes same output exit = (
  start_state parts input fill,
  record {
    pc = refl;
    npc = refl;
    annulled = refl;
    icc = refl;
    y = small;
    one_frame = refl;
    base = refl;
    slots = λ a. refl;
    globals = λ n. small;
    locals = λ n. small;
    outs = outs_are_words fill small;
    ins = λ n. small;
    memory = λ a. refl;
    input = refl;
    output = refl;
    exit = refl;
  },
  record {
    pc = sym pc;
    npc = sym npc;
    annulled = sym straight;
    icc = sym icc;
    y = sym y;
    frames = frames_show m.frames fill frames;
    memory = λ a. sym (bytes a);
    input = sym same;
    output = sym output;
    exit = sym exit;
  },
)
