-- A turn of user code that writes a register, whatever it loads: both machines go on.
use Rattle.std.proofs.Common.{◌≡◌, ◌≢◌, ℕ, ◌+◌, ◌*◌, ◌/◌, ◌%◌, ◌^◌, ◌<◌, Bool, false, List, refl, sym, ap, ◌∙◌, subst, arith}
use Rattle.v8_map.specs.declared.TheConstants.{CODE_START, CODE_TABLE, CONTEXT_TABLE}
use Rattle.v8_core.specs.Icc.{Icc}
use Rattle.v8_core.specs.Operands.{following}
use Rattle.v8_core.specs.Windows.{with_reg}
use Rattle.v8_core.specs.Walked.{root_of}
use Rattle.v8_core.specs.MmuRegs.{MmuRegs}
use Rattle.v8_core.specs.Effects.{advanced as board_advanced}
use Rattle.v8_core.specs.Control.{Control}
use Rattle.v8_core.specs.Accesses.{World, world}
use Rattle.v8_loaded.specs.Layout.{IsLoaded}
use Rattle.v8_layout.proofs.Marks.{code_markable}
use Rattle.v8_loaded.specs.Board.{Device}
use Rattle.v8_routines.specs.Services.{RunsUser, code_marked}
use Rattle.v8_loaded.proofs.Fetches.{code_kept}
use Rattle.v8_contained.proofs.Files.{file_reg}
use Rattle.v8_board.specs.Start.{pages_of}
use Rattle.v8_board.proofs.Placed.{pages_few}
use Rattle.sbx_flat.specs.Parts.{Parts}
use Rattle.sbx_flat.specs.Registers.{written}
use Rattle.sbx_flat.specs.Runs.{AreBytes}
use Rattle.sbx_flat.specs.States.{State, advanced, with_reg as flat_with_reg, reg}
use Rattle.sbx_shows.specs.Marks.{OwnMarks}
use Rattle.sbx_shows.proofs.Pages.{code_own}
use Rattle.sbx_shows.proofs.Reading.{reads_same}
use Rattle.sbx_shows.proofs.Processor.{moved_on}
use Rattle.sbx_shows.specs.Laws.{ReadsTheSame}
use Rattle.sbx_shows.specs.Shows.{Shows, ShowsControl, ShowsDevice}
use Rattle.sbx_shows.proofs.Kept.{SameAbove, data_kept, marked_same, saved_kept, slots_kept, stack_kept}
use Rattle.sbx_shows.proofs.Writing.{calls_written, same_calls, saved_same, slots_same, stacked_same}

-- RAM that differs in marks of own pages alone
pub record OnlyMarks (n : ℕ) (parts : Parts) (old new : List ℕ) : Type 0 where
  pub same : SameAbove old new
  pub loaded : IsLoaded n (pages_of parts) parts.words new
  pub marks : OwnMarks parts new

-- a fetch of the code word i
pub fetch_marks : (n : ℕ) (parts : Parts) (ram : List ℕ) (i : ℕ) → IsLoaded n (pages_of parts) parts.words ram → OwnMarks parts ram →
    i < 1024 * (pages_of parts).code_count → OnlyMarks n parts ram (code_marked i ram)
fetch_marks n parts ram i loaded own within = record {
  same = marked_same ram (CODE_TABLE + 4 * (i / 1024)) (0x1012 + 0x100 * (i / 1024)) false (code_markable (pages_of parts) ram loaded.tables (pages_few parts) (i / 1024) (omega arith));
  loaded = code_kept n (pages_of parts) parts.words ram (pages_few parts) loaded i within;
  marks = code_own n parts ram i loaded within own;
}

pub runs_user : (n : ℕ) (parts : Parts) (mmu : MmuRegs) (x : World n Device) (s : State) (r i : ℕ) → Shows n parts x s r → root_of mmu ≡ CONTEXT_TABLE →
    s.annulled ≡ false → s.pc ≡ CODE_START + 4 * i → i < 1024 * (pages_of parts).code_count → RunsUser n (pages_of parts) parts.words mmu x i
runs_user n parts mmu x s r i h root straight at within =
    record {
      file = h.file;
      user = h.control.user;
      traps = h.control.traps;
      straight = h.control.annul ∙ straight;
      sane = h.control.sane;
      table = h.control.table;
      place = h.control.pc ∙ at;
      within = within;
      npc_word = h.control.npc_word;
      npc_whole = h.control.npc_whole;
      few = pages_few parts;
      loaded = h.loaded;
      root = root;
      running = h.device.running;
    }

-- a word after a word
pub next_whole : (p : ℕ) → p % 4 ≡ 0 → following p % 4 ≡ 0
next_whole p e = omega arith

pub next_word : (p : ℕ) → following p < 2 ^ 32
next_word p = omega arith

-- on to the next instruction
pub control_moved : (c : Control) (s : State) (f : Icc) (y : ℕ) → ShowsControl c s → y < 2 ^ 32 → ShowsControl (moved_on c f y) (advanced (record s { icc = f; y = y }))
control_moved c s f y a small =
    record {
      pc = a.npc;
      npc = ap following a.npc;
      npc_word = next_word c.npc;
      npc_whole = next_whole c.npc a.npc_whole;
      annul = a.annul;
      icc = refl;
      y =
          refl;
      y_word = small;
      user = a.user;
      traps = a.traps;
      sane = a.sane;
      table = a.table;
    }

pub device_kept : (d : Device) (s t : State) → s.input ≡ t.input → s.output ≡ t.output → ShowsDevice d s → ShowsDevice d t
device_kept d s t i o a = record { running = a.running; input = a.input ∙ i; ended = λ e. sym i ∙ a.ended e; bytes = subst AreBytes i a.bytes; output = a.output ∙ o }

module _ (n : ℕ) (parts : Parts) where
  -- the same with other marks
  pub marked_shows : (x : World n Device) (s : State) (r : ℕ) (ram : List ℕ) → Shows n parts x s r → OnlyMarks n parts x.memory.ram ram →
      Shows n parts (world n x.cpu ram x.memory.device) s r
  marked_shows x s r ram h m =
      let few = (pages_few parts).stack in
      let count = (pages_of parts).stack_count in
      record {
        file = h.file;
        calls = h.calls;
        stacked = h.stacked;
        saved = saved_kept count r s.registers x.memory.ram ram few h.stacked m.same h.saved;
        slots = slots_kept count s.registers x.memory.ram ram few h.stacked m.same h.slots;
        stack = stack_kept x.memory.ram ram m.same h.stack;
        bytes = data_kept parts s.memory x.memory.ram ram m.same h.bytes;
        control = h.control;
        device = h.device;
        going = h.going;
        loaded = m.loaded;
        marks = m.marks;
      }

  -- with a register written; only SAVE writes %sp and %fp
  pub register_shows : (x : World n Device) (s : State) (r rd v : ℕ) → Shows n parts x s r → rd < 32 → rd ≢ 14 → rd ≢ 30 → v < 2 ^ 32 →
      Shows n parts (world n (record x.cpu { regs = with_reg n x.cpu.regs rd v }) x.memory.ram x.memory.device) (flat_with_reg rd v s) r
  register_shows x s r rd v h low sp fp small =
      let count = (pages_of parts).stack_count in
      let same = same_calls rd v s.registers low sp fp in
      record {
        file = file_reg n x.cpu.regs rd v h.file small;
        calls = calls_written n x.cpu.regs s.registers r rd v h.file h.calls low;
        stacked = stacked_same count s.registers (written rd v s.registers) same h.stacked;
        saved = saved_same r x.memory.ram s.registers (written rd v s.registers) h.calls.some same h.saved;
        slots = slots_same x.memory.ram s.registers (written rd v s.registers) same h.slots;
        stack = h.stack;
        bytes = h.bytes;
        control = record {
          pc = h.control.pc;
          npc = h.control.npc;
          npc_word = h.control.npc_word;
          npc_whole = h.control.npc_whole;
          annul =
              h.control.annul;
          icc = h.control.icc;
          y = h.control.y;
          y_word = h.control.y_word;
          user = h.control.user;
          traps = h.control.traps;
          sane =
              h.control.sane;
          table = h.control.table;
        };
        device = device_kept x.memory.device s (flat_with_reg rd v s) refl refl h.device;
        going = h.going;
        loaded = h.loaded;
        marks = h.marks;
      }

  -- at another place, with other codes and Y
  pub control_shows : (x : World n Device) (s : State) (r pc npc : ℕ) (annulled : Bool) (f : Icc) (y : ℕ) (c : Control) → Shows n parts x s r →
      ShowsControl c (record s { pc = pc; npc = npc; annulled = annulled; icc = f; y = y }) →
      Shows n parts (world n (record x.cpu { control = c }) x.memory.ram x.memory.device) (record s { pc = pc; npc = npc; annulled = annulled; icc = f; y = y }) r
  control_shows x s r pc npc annulled f y c h now =
      record {
        file = h.file;
        calls = h.calls;
        stacked = h.stacked;
        saved = h.saved;
        slots = h.slots;
        stack = h.stack;
        bytes = h.bytes;
        control = now;
        device = device_kept x.memory.device s (record s { pc = pc; npc = npc; annulled = annulled; icc = f; y = y }) refl refl h.device;
        going = h.going;
        loaded = h.loaded;
        marks = h.marks;
      }

  -- on to the next instruction
  pub moved_shows : (x : World n Device) (s : State) (r : ℕ) (f : Icc) (y : ℕ) → Shows n parts x s r → y < 2 ^ 32 →
      Shows n parts (world n (record x.cpu { control = moved_on x.cpu.control f y }) x.memory.ram x.memory.device) (advanced (record s { icc = f; y = y })) r
  moved_shows x s r f y h small = control_shows x s r s.npc (following s.npc) s.annulled f y (moved_on x.cpu.control f y) h (control_moved x.cpu.control s f y h.control small)

  -- with the codes and Y as they are
  pub next_shows : (x : World n Device) (s : State) (r : ℕ) → Shows n parts x s r →
      Shows n parts (world n (record x.cpu { control = board_advanced x.cpu.control }) x.memory.ram x.memory.device) (advanced s) r
  unfolding board_advanced
  next_shows x s r h =
      let c = x.cpu.control in
      let a = h.control in
      control_shows x s r s.npc (following s.npc) s.annulled s.icc s.y (board_advanced c) h
      (record {
        pc = a.npc;
        npc = ap following a.npc;
        npc_word = next_word c.npc;
        npc_whole = next_whole c.npc a.npc_whole;
        annul = a.annul;
        icc = a.icc;
        y =
            a.y;
        y_word = a.y_word;
        user = a.user;
        traps = a.traps;
        sane = a.sane;
        table = a.table;
      })

  -- a register written, with codes and Y, and on to the next instruction
  pub write_shows : (x : World n Device) (s : State) (r rd v : ℕ) (f : Icc) (y : ℕ) (ram : List ℕ) → Shows n parts x s r → OnlyMarks n parts x.memory.ram ram →
      rd < 32 → rd ≢ 14 → rd ≢ 30 → v < 2 ^ 32 → y < 2 ^ 32 →
      Shows n parts (world n (record { regs = with_reg n x.cpu.regs rd v; control = moved_on x.cpu.control f y }) ram x.memory.device) (advanced (flat_with_reg rd v (record s { icc = f; y = y }))) r
  write_shows x s r rd v f y ram h m low sp fp small word =
      let marked = marked_shows x s r ram h m in
      let wrote = register_shows (world n x.cpu ram x.memory.device) s r rd v marked low sp fp small in
      moved_shows (world n (record x.cpu { regs = with_reg n x.cpu.regs rd v }) ram x.memory.device) (flat_with_reg rd v s) r f y wrote word

  -- the same with the codes and Y as they are
  pub value_shows : (x : World n Device) (s : State) (r rd v : ℕ) (ram : List ℕ) → Shows n parts x s r → OnlyMarks n parts x.memory.ram ram → rd < 32 → rd ≢ 14 → rd ≢ 30 → v < 2 ^ 32 →
      Shows n parts (world n (record { regs = with_reg n x.cpu.regs rd v; control = board_advanced x.cpu.control }) ram x.memory.device) (advanced (flat_with_reg rd v s)) r
  value_shows x s r rd v ram h m low sp fp small =
      let marked = marked_shows x s r ram h m in
      let wrote = register_shows (world n x.cpu ram x.memory.device) s r rd v marked low sp fp small in
      next_shows (world n (record x.cpu { regs = with_reg n x.cpu.regs rd v }) ram x.memory.device) (flat_with_reg rd v s) r wrote

pub reads_the_same : ReadsTheSame
unfolding reg
reads_the_same n parts x s r q h less = reads_same n x.cpu.regs s.registers r q h.file h.calls less
