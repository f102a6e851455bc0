-- Any board that has been loaded shows a flat start, with one call in a window.
use Rattle.std.proofs.Common.{◌≡◌, ℕ, zero, suc, ◌+◌, ◌-◌, ◌*◌, ◌%◌, ◌^◌, ◌<◌, ◌≤◌, Bool, true, false, List, [], length, None, refl, sym, ap, ◌∙◌, subst, arith}
use Rattle.std.specs.Prelude.{slice_index, nat_lt, if◌then◌else◌}
use Rattle.std.proofs.lemmas.Bool.Decides.{nat_tests}
use Rattle.std.proofs.Math.Nat.{mod-eq_of_lt}
use Rattle.std.proofs.Math.Pow.{pow_mono}
use Rattle.std.proofs.lemmas.List.{append-nil}
use Rattle.std.specs.List.{AllByRecursion}
use Rattle.v8_map.specs.declared.TheConstants.{DATA_START, DATA_PLACE, STACK_END, STACK_START, RAM}
use Rattle.v8_core.specs.Ram.{entry_of}
use Rattle.v8_mmu.proofs.RamLemmas.{entry_is}
use Rattle.v8_core.specs.Windows.{Windows, IsFile, with_reg, word_at}
use Rattle.v8_windows.proofs.AfterWrites.{written_at, written_current}
use Rattle.v8_core.specs.Registers.{booted, started_with}
use Rattle.v8_core.specs.Cpu.{Cpu}
use Rattle.v8_core.specs.Accesses.{world}
use Rattle.v8_loaded.specs.Layout.{data_count}
use Rattle.v8_loaded.specs.Board.{Device}
use Rattle.v8_loaded.proofs.Frames.{word_fits}
use Rattle.v8_board.specs.Seen.{State as BoardState}
use Rattle.v8_board.specs.Start.{IsPlaced, IsStart, pages_of}
use Rattle.v8_board.proofs.Placed.{data_counted, placed_loaded}
use Rattle.v8_board.proofs.Stays.{word_kept}
use Rattle.sbx_flat.specs.Rules.{code_start}
use Rattle.sbx_flat.specs.Parts.{Parts}
use Rattle.sbx_flat.specs.Regions.{data_at, laid}
use Rattle.v8_board.specs.Spelling.{IsTypedRegion}
use Rattle.v8_board.proofs.Within.{data_is_byte, data_lies_at}
use Rattle.sbx_flat.specs.Registers.{Registers}
use Rattle.sbx_flat.specs.Runs.{AreBytes, IsStart as IsFlatStart}
use Rattle.sbx_flat.specs.States.{State}
use Rattle.sbx_flat.specs.Calls.{base, cell, slot}
use Rattle.sbx_flat.specs.WellFormed.{IsStacked}
use Rattle.sbx_shows.specs.Shows.{Fits, HasStack, Shows, ShowsCalls, ShowsData, ShowsSlots, window, data_area}
use Rattle.v8_contained.proofs.Files.{file_reg}
use Rattle.sbx_shows.proofs.Pages.{placed_own}
use Rattle.sbx_shows.proofs.Stacks.{stack_count}
use Rattle.sbx_shows.proofs.Writing.{mask_kept}
use Rattle.sbx_shows.specs.WholeRuns.{IsAnyBoard, IsImage, with_earlier}

-- the registers that booting leaves
abbrev pub boot : ℕ → Windows → Windows
boot n v = with_reg n (record v { current = 0; mask = 2 }) 14 STACK_START

abbrev pub start_file : Windows → Registers
start_file v = record {
  globals = slice_index v.globals;
  newest = record { locals = λ q. word_at v 0 (q - 8); outs = λ q. word_at v 0 (q - 8); slots = λ a. None };
  older = [];
  oldest_ins = λ q. word_at v 1 (q - 24);
}

abbrev pub flat_start : Parts → List ℕ → Windows → ℕ → State
flat_start parts input v y = record {
  pc = code_start;
  npc = code_start + 4;
  annulled = false;
  icc = record { n = false; z = false; v = false; c = false };
  y = y;
  registers = start_file v;
  memory = data_at parts.regions;
  input = input;
  output = [];
  exit = None;
}

module _ (n : ℕ) (old : Windows) (f : IsFile n old) where
  small_mask : 2 < 2 ^ n
  small_mask = let most : 2 ^ 4 ≤ 2 ^ n = pow_mono f.few in omega arith

  empty : IsFile n (record old { current = 0; mask = 2 })
  empty = let few = f.few in record { few = f.few; many = f.many; current = omega arith; mask = small_mask; globals = f.globals; rows = f.rows }

  pub boot_file : IsFile n (boot n old)
  boot_file = file_reg n (record old { current = 0; mask = 2 }) 14 STACK_START empty (omega arith)

  current_is : (boot n old).current ≡ 0
  current_is = written_current n (record old { current = 0; mask = 2 }) 14 STACK_START

  first : window n (boot n old).current 0 ≡ 0
  first = let few = f.few in ap (λ c. window n c 0) current_is ∙ mod-eq_of_lt (omega arith)

  second : window n (boot n old).current 1 ≡ 1
  second = let few = f.few in ap (λ c. window n c 1) current_is ∙ mod-eq_of_lt (omega arith)

  pub start_base : word_at (boot n old) 0 6 ≡ STACK_START
  start_base = written_at n (record old { current = 0; mask = 2 }) 14 STACK_START 0 6 empty (omega arith) (omega arith)

  outs_start : (k j : ℕ) → k ≤ 1 → j < 8 → word_at (boot n old) (window n (boot n old).current k) j ≡ cell (start_file (boot n old)) k j
  unfolding cell
  outs_start zero j a b =
      let test : nat_lt j 8 ≡ true = grind (arith, nat_tests) in
      let back : j ≡ j + 8 - 8 = omega arith in
      ap (λ w. word_at (boot n old) w j) first ∙ ap (word_at (boot n old) 0) back ∙ sym (ap (λ (t : Bool). if t then word_at (boot n old) 0 (j + 8 - 8) else word_at (boot n old) 0 (j + 8 - 8)) test)
  outs_start (suc zero) j a b = let back : j ≡ j + 24 - 24 = omega arith in ap (λ w. word_at (boot n old) w j) second ∙ ap (word_at (boot n old) 1) back
  outs_start (suc (suc k)) j a b = absurd (omega arith)

  locals_start : (k j : ℕ) → k < 1 → 8 ≤ j → j < 16 → word_at (boot n old) (window n (boot n old).current k) j ≡ cell (start_file (boot n old)) k j
  unfolding cell
  locals_start zero j a b c =
      let test : nat_lt j 8 ≡ false = grind (arith, nat_tests) in
      let back : j ≡ j + 8 - 8 = omega arith in
      ap (λ w. word_at (boot n old) w j) first ∙ ap (word_at (boot n old) 0) back ∙ sym (ap (λ (t : Bool). if t then word_at (boot n old) 0 (j + 8 - 8) else word_at (boot n old) 0 (j + 8 - 8)) test)
  locals_start (suc k) j a b c = absurd (omega arith)

  pub calls_start : ShowsCalls n (boot n old) (start_file (boot n old)) 1
  calls_start =
      let few = f.few in
      record {
        some = omega arith;
        most = omega arith;
        open_calls = omega arith;
        mask = mask_kept n (record old { current = 0; mask = 2 }) 14 STACK_START ∙ ap (λ w. 2 ^ w) (sym second);
        globals = λ k a b. refl;
        outs = outs_start;
        locals = locals_start;
      }

  pub stacked_start : (pages : ℕ) → 1 ≤ pages → IsStacked pages (start_file (boot n old))
  unfolding cell
  stacked_start pages some =
      let b = start_base in
      record {
        aligned = λ k less. at_zero k less (λ q. q % 8 ≡ 0) (omega arith);
        low = λ k less. at_zero k less (λ q. STACK_END ≤ q + 4096 * pages) (omega arith);
        high = λ k less. at_zero k less (λ q. q + 64 ≤ STACK_END) (omega arith);
        apart = λ k i a c. absurd (omega arith);
      }
    where
      at_zero : (k : ℕ) → k < 1 → (P : ℕ → Type 0) → P STACK_START → P (base (start_file (boot n old)) k)
      at_zero zero less P p = subst P (sym start_base) p
      at_zero (suc k) less P p = absurd (omega arith)

  pub slots_start : (ram : List ℕ) → ShowsSlots (start_file (boot n old)) ram
  unfolding slot
  slots_start ram zero a w less is = absurd (cc)
  slots_start ram (suc k) a w less is = absurd (omega arith)

-- ---- all of it

data_start_shows : (parts : Parts) (ram : List ℕ) → Fits parts → AllByRecursion IsTypedRegion parts.regions →
    ((i : ℕ) → i < 4096 * data_count (pages_of parts) → slice_index ram (DATA_PLACE + i) ≡ slice_index (laid parts.regions) i) →
    ShowsData parts (data_at parts.regions) ram
data_start_shows parts ram fits typed placed a b is =
    let lies = data_lies_at parts.regions a b is in
    let low = lies.from in
    let high = lies.to in
    let counted = data_counted parts fits.pages in
    let place : data_area a ≡ DATA_PLACE + (a - DATA_START) = omega arith in
    record {
      low = low;
      high = high;
      small = data_is_byte parts.regions a b typed is;
      there = ap (slice_index ram) place ∙ placed (a - DATA_START) (omega arith) ∙ lies.is;
    }

-- the stack of a board that was loaded has words, as its RAM has bytes
stack_start : (n : ℕ) (parts : Parts) (old new : List ℕ) → IsPlaced n parts old new → length old ≡ RAM → ((i : ℕ) → slice_index old i < 256) → HasStack new
stack_start n parts old new placed size bytes p w above there =
    let same : entry_of new p ≡ entry_of old p = word_kept old new p (placed.size ∙ sym size) (λ j low high. placed.stack j (omega arith)) in
    let is = (entry_is old p w (sym same ∙ there)).1 in
    subst (λ v. v < 2 ^ 32) (sym is) (word_fits old p bytes)

pub start_shows : (n : ℕ) (parts : Parts) (input : List ℕ) (made start : BoardState n) → IsImage parts → AreBytes input → IsAnyBoard n input made → IsStart n parts made start →
    Shows n parts start.world (with_earlier made.world.memory.device.output (flat_start parts input (boot n made.world.cpu.regs) made.world.cpu.control.y)) 1
unfolding booted
start_shows n parts input made start image bytes any loaded =
    let v = boot n made.world.cpu.regs in
    let y = made.world.cpu.control.y in
    let earlier = made.world.memory.device.output in
    let s = with_earlier earlier (flat_start parts input v y) in
    let count = stack_count parts image.fits in
    let pages = image.stack in
    let ram = start.world.memory.ram in
    let d : Device = record made.world.memory.device { ended = false; stopped = None } in
    let cpu : Cpu n = record { regs = v; control = started_with y } in
    let file = any.state.cpu.file in
    let shown : Shows n parts (world n cpu ram d) s 1 = record {
      file = boot_file n made.world.cpu.regs file;
      calls = calls_start n made.world.cpu.regs file;
      stacked = stacked_start n made.world.cpu.regs file (pages_of parts).stack_count (omega arith);
      saved = record { locals = λ k j a b c. absurd (omega arith); ins = λ k j a b c. absurd (omega arith) };
      slots = slots_start n made.world.cpu.regs file ram;
      stack = stack_start n parts made.world.memory.ram ram loaded.ram any.state.size any.state.bytes;
      bytes = data_start_shows parts ram image.fits image.bytes loaded.ram.bytes;
      control = record { pc = refl; npc = refl; npc_word = omega arith; npc_whole = refl; annul = refl; icc = refl; y = refl; y_word = any.y; user = refl; traps = refl; sane = refl; table = refl };
      device = record { running = refl; input = any.input_is; ended = λ e. absurd (cc); bytes = bytes; output = sym (append-nil earlier) };
      going = refl;
      loaded = placed_loaded n parts made.world.memory.ram ram loaded.ram;
      marks = placed_own n parts made.world.memory.ram ram loaded.ram;
    } in
    subst (λ (c : Cpu n). Shows n parts (world n c ram start.world.memory.device) s 1) (sym loaded.cpu)
    (subst (λ (e : Device). Shows n parts (world n cpu ram e) s 1) (sym loaded.device) shown)

pub is_flat_start : (n : ℕ) (parts : Parts) (input : List ℕ) (made : BoardState n) → IsAnyBoard n input made →
    IsFlatStart parts input (flat_start parts input (boot n made.world.cpu.regs) made.world.cpu.control.y)
is_flat_start n parts input made any =
    let v = boot n made.world.cpu.regs in
    let f = boot_file n made.world.cpu.regs any.state.cpu.file in
    record {
      pc = refl;
      npc = refl;
      annulled = refl;
      icc = refl;
      y = any.y;
      one_frame = refl;
      base = start_base n made.world.cpu.regs any.state.cpu.file;
      slots = λ a. refl;
      globals = λ q. f.globals.fit q;
      locals = λ q. f.rows.fit 0 (q - 8);
      outs = λ q. f.rows.fit 0 (q - 8);
      ins = λ q. f.rows.fit 1 (q - 24);
      memory = λ a. refl;
      input = refl;
      output = refl;
      exit = refl;
    }
