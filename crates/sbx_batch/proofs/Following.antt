-- Runs that follow one another, and one more.
use Rattle.std.proofs.Common.{◌≡◌, refl, ℕ, ◌+◌, ◌<◌, ◌≤◌, List, [], ◌∷◌, ◌++◌, get_or, drop, length, sym, ap, ◌∙◌, subst, append_assoc}
use Rattle.std.proofs.lemmas.List.{append-nil, drop_all, drop_more}
use Rattle.v8_loaded.specs.Board.{Device}
use Rattle.v8_loaded.specs.States.{IsState}
use Rattle.v8_board.specs.Seen.{State}
use Rattle.v8_board.specs.Start.{IsNew}
use Rattle.sbx_image.specs.Parts.{Parts}
use Rattle.sbx_run.specs.declared.runner.Finished.{Finished}
use Rattle.sbx_batch.specs.declared.batch.Batch.{Batch}
use Rattle.sbx_raw.specs.Outputs.{without_output}
use Rattle.sbx_batch.specs.Batches.{Follow, IsNext}

-- whatever answers the runs of what is left give, with those so far they are the answers to all
abbrev pub Completes : (n : ℕ) → State n → List Batch → List Finished → State n → List Batch → Type 0
Completes n made all answers now left = (more : List Finished) (end : State n) → Follow n now left more end → Follow n made all (answers ++ more) end

-- a run from a board whose output was taken is one from the board
pub next_from : (n : ℕ) (parts : Parts) (input : List ℕ) (finished : Finished) (now taken end : State n) → taken ≡ without_output now →
    IsNext n parts input finished taken end → IsNext n parts input finished now end
next_from n parts input finished now taken end is next =
    let x : IsNext n parts input finished (without_output now) end = subst (λ (s : State n). IsNext n parts input finished s end) is next in
    record { ends = x.ends; output = x.output; alone = x.alone; depth = x.depth; contained = x.contained }

-- what a new board has put out is nothing
pub new_is_silent : (n : ℕ) (input : List ℕ) (s : State n) → IsNew n input [] s → s ≡ without_output s
new_is_silent n input s new =
    let none : s.world.memory.device.output ≡ [] = ap (λ (d : Device). d.output) new.device in
    ap (λ (o : List ℕ). let device = record s.world.memory.device { output = o } in record s { world = record s.world { memory = record s.world.memory { device = device } } }) none

pub silent_state : (n : ℕ) (s now : State n) → now ≡ without_output s → IsState n s.mmu s.world → IsState n now.mmu now.world
silent_state n s now is state =
    let at : IsState n (without_output s).mmu (without_output s).world = record { cpu = state.cpu; size = state.size; bytes = state.bytes; root = state.root } in
    subst (λ (t : State n). IsState n t.mmu t.world) (sym is) at

pub one_more : (n : ℕ) (made now mid : State n) (all : List Batch) (answers : List Finished) (i : ℕ) (each : Batch) (finished : Finished)
    → i < length all → each ≡ get_or all i each → IsNext n each.image.now each.input.now finished now mid
    → Completes n made all answers now (drop i all) → Completes n made all (answers ++ finished ∷ []) mid (drop (i + 1) all)
one_more n made now mid all answers i each finished less is next so more end rest =
    let front : drop i all ≡ each ∷ drop (i + 1) all = drop_more all i each less ∙ ap (λ (b : Batch). b ∷ drop (i + 1) all) (sym is) in
    subst (λ (done : List Finished). Follow n made all done end) (sym (append_assoc answers (finished ∷ []) more))
    (so (finished ∷ more) end (subst (λ (left : List Batch). Follow n now left (finished ∷ more) end) (sym front) (mid, next, rest)))

pub all_done : (n : ℕ) (made now : State n) (all : List Batch) (answers : List Finished) (i : ℕ) → length all ≤ i
    → Completes n made all answers now (drop i all) → Follow n made all answers now
all_done n made now all answers i past so =
    subst (λ (done : List Finished). Follow n made all done now) (append-nil answers)
    (so [] now (subst (λ (left : List Batch). Follow n now left [] now) (sym (drop_all i all past)) refl))
