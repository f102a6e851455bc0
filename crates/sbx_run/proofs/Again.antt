-- A board that was loaded is as one that is loaded again, from what it holds then.
use Rattle.std.proofs.Common.{◌≡◌, ℕ, ◌<◌, List, [], length, refl, sym, ap, ◌∙◌, subst, arith}
use Rattle.std.specs.Prelude.{false, get_or, slice_set, None}
use Rattle.std.proofs.lemmas.List.{get_or-set_same, length-set, set-set}
use Rattle.v8_windows.specs.Windows.{Windows, IsFile, with_reg}
use Rattle.v8_state.specs.Registers.{booted, started_with}
use Rattle.v8_state.specs.declared.state.Cpu.{Cpu}
use Rattle.v8_core.specs.Accesses.{world}
use Rattle.v8_memory.specs.Board.{Device}
use Rattle.v8_loaded.specs.States.{IsState}
use Rattle.v8_board.specs.Seen.{State}
use Rattle.v8_board.specs.Start.{IsPlaced, IsStart}
use Rattle.sbx_image.specs.Parts.{Parts}
use Rattle.sbx_shows.specs.WholeRuns.{IsAnyBoard}
use Rattle.sbx_shows.proofs.Start.{boot}

-- ---- booting twice is booting once

some_words : (n : ℕ) (v : Windows) → IsFile n (boot n v) → 0 < length v.words
unfolding with_reg
some_words n v f =
    let few = f.few in
    let count = f.rows.count in
    let same = length-set v.words 0 (slice_set (get_or v.words 0 []) 6 0x000FFFC0) in
    omega (arith, count, same)

boot_again : (n : ℕ) (v : Windows) → 0 < length v.words → boot n (boot n v) ≡ boot n v
unfolding with_reg
boot_again n v some =
    let row = slice_set (get_or v.words 0 []) 6 0x000FFFC0 in
    let rows = slice_set v.words 0 row in
    let first : get_or rows 0 [] ≡ row = get_or-set_same v.words 0 row [] some in
    let twice : slice_set row 6 0x000FFFC0 ≡ row = set-set (get_or v.words 0 []) 6 0x000FFFC0 0x000FFFC0 in
    ap (λ (words : List (List ℕ)). record v { words = words; current = 0; mask = 2 })
    (ap (λ (r : List ℕ). slice_set rows 0 (slice_set r 6 0x000FFFC0)) first ∙ ap (λ (r : List ℕ). slice_set rows 0 r) twice ∙ set-set v.words 0 row row)

abbrev begun_with : (n : ℕ) → Windows → ℕ → Cpu n
begun_with n v kept = record { regs = v; control = started_with kept }

booted_again : (n : ℕ) (c : Cpu n) → IsFile n (booted n c).regs → booted n (booted n c) ≡ booted n c
unfolding booted
booted_again n c f = ap (λ (v : Windows). begun_with n v c.control.y) (boot_again n c.regs (some_words n c.regs f))

-- ---- loading twice

module _ (n : ℕ) (parts : Parts) (made start : State n) (loaded : IsStart n parts made start) (state : IsState n start.mmu start.world) where
  again : start.world.cpu ≡ booted n start.world.cpu
  again = loaded.cpu ∙ sym (booted_again n made.world.cpu (subst (λ (c : Cpu n). IsFile n c.regs) loaded.cpu state.cpu.file)) ∙ ap (booted n) (sym loaded.cpu)

  placed_again : IsPlaced n parts start.world.memory.ram start.world.memory.ram
  placed_again =
      let p = loaded.ram in
      record { size = p.size; trap = p.trap; handler = p.handler; tables = p.tables; code = p.code; bytes = p.bytes; stack = λ i above. refl; fit = λ bytes. bytes }

  -- the loaded board with another device
  abbrev pub with_device : Device → State n
  with_device d = record { world = world n start.world.cpu start.world.memory.ram d; mmu = start.mmu; counts = start.counts }

  pub loaded_again : (d e : Device) → e ≡ record d { ended = false; stopped = None } → IsStart n parts (with_device d) (with_device e)
  loaded_again d e is = record { cpu = again; ram = placed_again; device = is; mmu = refl; root = loaded.root; counts = loaded.counts }

  pub is_any : (d : Device) → IsAnyBoard n d.input (with_device d)
  is_any d = record { state = record { cpu = state.cpu; size = state.size; bytes = state.bytes; root = state.root }; y = state.cpu.y_word; input_is = refl }
