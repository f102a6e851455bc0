-- The law: what is told of the pages at the ends of two runs is the same.
use Rattle.std.proofs.Common.{◌≡◌, ℕ, ◌+◌, ◌*◌, ◌<◌, ◌≤◌, List, None, refl, sym, ap, ◌∙◌, arith}
use Rattle.v8_core.specs.Ram.{entry_of}
use Rattle.v8_core.specs.Walked.{root_of}
use Rattle.v8_core.specs.Accesses.{World}
use Rattle.v8_loaded.specs.Board.{Device, board}
use Rattle.v8_loaded.specs.Turns.{world_after}
use Rattle.v8_board.specs.Runs.{state_after as board_after}
use Rattle.v8_board.specs.Seen.{State, ending_of}
use Rattle.v8_board.specs.Start.{IsPlaced}
use Rattle.v8_marks.specs.Marks.{entry_at}
use Rattle.sbx_image.specs.Parts.{Parts}
use Rattle.sbx_flat.specs.Runs.{budget}
use Rattle.sbx_shows.proofs.Induction.{board_is}
use Rattle.sbx_shows.proofs.Start.{boot, flat_start, is_flat_start, start_shows}
use Rattle.sbx_run.proofs.Ends.{same_end}
use Rattle.sbx_batch.specs.Reuse.{Ran, RunsUseTheSamePages}
use Rattle.sbx_batch.proofs.Flats.{begin_beside}
use Rattle.sbx_batch.proofs.Pairs.{both_end}
use Rattle.sbx_batch.proofs.Uses.{SameEntries, uses_same}

-- loading writes the entries anew
start_entry : (n : ℕ) (parts : Parts) (old new other after_it : List ℕ) → IsPlaced n parts old new → IsPlaced n parts other after_it → SameEntries new after_it
start_entry n parts old new other after_it one two e less =
    let place : 0x2000 + 4 * (640 + e) ≡ 0x2A00 + 4 * e = omega arith in
    ap (entry_of new) (sym place) ∙ one.tables (640 + e) (omega arith) ∙ sym (two.tables (640 + e) (omega arith)) ∙ ap (entry_of after_it) place

-- a run's end is the state after so many turns, before which it was going and after which it has ended
end_is : (n : ℕ) (parts : Parts) (input : List ℕ) (end : State n) (r : Ran n parts input end) (count : ℕ) → count ≤ budget parts →
    ((j : ℕ) → j < count → ending_of n (world_after board n r.start.mmu j r.start.world) ≡ None) →
    (ending_of n (world_after board n r.start.mmu count r.start.world) ≡ None → ⊥) → end.world ≡ world_after board n r.start.mmu count r.start.world
end_is n parts input end r count within going over =
    let world_at : (j : ℕ) → j ≤ count → (board_after n j r.start).world ≡ world_after board n r.start.mmu j r.start.world =
    λ (j : ℕ) (most : j ≤ count). ap (λ (s : State n). s.world) (board_is n r.start.mmu r.start.world r.start.counts j (λ i less. going i (omega arith))) in
    ap (λ (s : State n). s.world)
    (same_end n (budget parts) count r.start end (board_after n count r.start) r.run
    (record { count = count; running = λ j less. ap (ending_of n) (world_at j (omega arith)) ∙ going j less; is = refl }, refl) within
    (λ none. over (sym (ap (ending_of n) (world_at count (omega arith))) ∙ none)))
    ∙ world_at count (omega arith)

pub runs_use_the_same : RunsUseTheSamePages
runs_use_the_same n parts input one other image formed checked bytes r q =
    let a = r.made.world.memory.device.output in
    let b = q.made.world.memory.device.output in
    let s = flat_start parts input (boot n r.made.world.cpu.regs) r.made.world.cpu.control.y in
    let t = flat_start parts input (boot n q.made.world.cpu.regs) q.made.world.cpu.control.y in
    let beside = begin_beside parts formed checked input s t bytes (is_flat_start n parts input r.made r.any) (is_flat_start n parts input q.made q.any) in
    let both = both_end n parts formed checked image.fits r.start.mmu q.start.mmu (ap root_of r.loaded.mmu ∙ r.any.state.root)
    (ap root_of q.loaded.mmu ∙ q.any.state.root) a b r.start.world q.start.world s t 1 beside
    (start_shows n parts input r.made r.start image bytes r.any r.loaded) (start_shows n parts input q.made q.start image bytes q.any q.loaded)
    (start_entry n parts r.made.world.memory.ram r.start.world.memory.ram q.made.world.memory.ram q.start.world.memory.ram r.loaded.ram q.loaded.ram) in
    let within = both.within in
    let first = end_is n parts input one r both.count (omega arith) both.first_going both.first_over in
    let second = end_is n parts input other q both.count (omega arith) both.second_going both.second_over in
    uses_same one.world.memory.ram other.world.memory.ram
    (λ e less. ap (λ (w : World n Device). entry_at w.memory.ram e) first ∙ both.same e less ∙ sym (ap (λ (w : World n Device). entry_at w.memory.ram e) second))
