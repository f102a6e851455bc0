-- What follows for user code from what every state of a board is.
--   word_fits, frame_of_bytes     RAM of bytes holds words, so that a save area with room is one that the handler of underflow may load
--   state_frame                   and so it is in a board's state
--   state_runs                    a board's state in user mode, where an image is loaded, runs user code
use Rattle.std.proofs.Common.{◌≡◌, ℕ, ◌+◌, ◌*◌, ◌^◌, ◌<◌, true, false, List, length, get_or, take, drop, None, sym, ◌∙◌, subst, arith}
use Rattle.std.specs.Int.{w32, from_be_bytes}
use Rattle.std.proofs.lemmas.List.{get_or-take, get_or-drop}
use Rattle.std.proofs.lemmas.Option.{same_Some}
use Rattle.v8_core.specs.Ram.{AreBytes}
use Rattle.v8_core.specs.MmuRegs.{MmuRegs}
use Rattle.v8_core.specs.Accesses.{World}
use Rattle.v8_layout.specs.Layout.{AreFew, IsLoaded, Pages}
use Rattle.v8_memory.specs.Board.{Device}
use Rattle.v8_loaded.specs.Areas.{HasFrame, HasRoom, area_of}
use Rattle.v8_loaded.specs.States.{IsState}
use Rattle.v8_loaded.specs.Users.{RunsUser}
use Rattle.v8_loaded.proofs.Stack.{word_in, word_there}

four_fit : (bs : List ℕ) → get_or bs 0 0 < 256 → get_or bs 1 0 < 256 → get_or bs 2 0 < 256 → get_or bs 3 0 < 256 → from_be_bytes w32 bs < 2 ^ 32
four_fit bs a b c d = omega arith

pub word_fits : (ram : List ℕ) (p : ℕ) → AreBytes ram → word_in ram p < 2 ^ 32
word_fits ram p bytes = four_fit (take 4 (drop p ram)) (fits 0 (omega arith)) (fits 1 (omega arith)) (fits 2 (omega arith)) (fits 3 (omega arith))
  where
    fits : (i : ℕ) → i < 4 → get_or (take 4 (drop p ram)) i 0 < 256
    fits i less = subst (λ v. v < 256) (sym (get_or-take 4 (drop p ram) i 0 less ∙ get_or-drop p ram i 0)) (bytes (p + i))

pub frame_of_bytes : (g : Pages) (ram : List ℕ) (sp : ℕ) → AreFew g → length ram ≡ 0x100000 → AreBytes ram → HasRoom g sp → HasFrame g ram sp
frame_of_bytes g ram sp few size bytes room =
    let most = few.stack in
    let low = room.low in
    let high = room.high in
    let aligned = room.aligned in
    record {
      room = room;
      words = λ j w small there.
          let p = area_of sp + 4 * j in
          let same : word_in ram p ≡ w = same_Some (word_in ram p) w (sym (word_there ram p size (omega arith) (omega arith)) ∙ there) in
          subst (λ v. v < 2 ^ 32) same (word_fits ram p bytes);
    }

module _ (n : ℕ) (g : Pages) (mmu : MmuRegs) (x : World n Device) (st : IsState n mmu x) (few : AreFew g) where
  pub state_frame : (sp : ℕ) → HasRoom g sp → HasFrame g x.memory.ram sp
  state_frame sp room = frame_of_bytes g x.memory.ram sp few st.size st.bytes room

  pub state_runs : (words : List ℕ) (i : ℕ) → IsLoaded n g words x.memory.ram → x.cpu.control.s ≡ false → x.cpu.control.et ≡ true →
      x.cpu.control.base ≡ 0xF0000000 → x.cpu.control.annul ≡ false → x.cpu.control.error ≡ None → x.memory.device.stopped ≡ None →
      x.cpu.control.pc ≡ 0x40000 + 4 * i → i < 1024 * g.code_count → RunsUser n g words mmu x i
  state_runs words i loaded user traps table straight sane running place within = record {
    file = st.cpu.file;
    user = user;
    traps = traps;
    straight = straight;
    sane = sane;
    table = table;
    place = place;
    within = within;
    npc_word = st.cpu.npc_word;
    npc_whole = st.cpu.npc_whole;
    few = few;
    loaded = loaded;
    root = st.root;
    running = running;
  }
