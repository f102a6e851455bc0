-- What runs give that follow one another on one board.
use Rattle.std.specs.Prelude.{◌≡◌, ℕ, List, [], ◌∷◌}
use Rattle.sbx_image.specs.Parts.{Parts}
use Rattle.v8_board.specs.Seen.{State}
use Rattle.v8_board.specs.Start.{IsNew}
use Rattle.v8_board.specs.Contains.{Contains}
use Rattle.sbx_raw.specs.Outputs.{without_output}
use Rattle.sbx_run.specs.Answer.{EndsOn, IsAnswer, KeepsItsDepth, told_of}
use Rattle.sbx_run.specs.declared.boards.Ended.{Ended}
use Rattle.sbx_run.specs.declared.runner.Finished.{Finished}
use Rattle.sbx_batch.specs.declared.batch.Batch.{Batch}

-- ---- one run

-- the board with this input to give, and nothing put out; registers, Y, RAM and all else are as they were
abbrev pub with_input : {n : ℕ} → State n → List ℕ → State n
with_input s input =
    let device = record s.world.memory.device { input = input; output = [] } in
    record s { world = record s.world { memory = record s.world.memory { device = device } } }

-- what is told of a run, beside its output
abbrev pub ended_of : Finished → Ended
ended_of f = record {
  status = f.status;
  turns = f.turns;
  overflows = f.overflows;
  underflows = f.underflows;
  pages =
      f.pages;
}

-- the same exit word, turns, overflows, underflows, output and pages
abbrev pub AreAlike : Finished → Finished → Type 0
AreAlike f g = (told_of f ≡ told_of g) × (f.output.items ≡ g.output.items) × (f.pages ≡ g.pages)

-- The board was given this input, the image was loaded and ran to its end, from whatever the board held to where it
-- stands now. What it has put out is the output; any answer to the image and the input alone is alike; and an image of
-- version 3 with windows enough for its declared depth overflowed none and underflowed none. The board contains the
-- image's run.
pub record IsNext (n : ℕ) (parts : Parts) (input : List ℕ) (finished : Finished) (old end : State n) : Type 0 where
  pub ends : EndsOn n parts (with_input old input) end (ended_of finished)
  pub output : finished.output.items ≡ end.world.memory.device.output
  pub alone : (single : Finished) → IsAnswer parts n input single → AreAlike finished single
  pub depth : KeepsItsDepth parts n (told_of finished)
  pub contained : Contains n parts end

-- the same, and what the board had put out at its end was taken from it
abbrev pub LeavesNext : (n : ℕ) → Parts → List ℕ → Finished → State n → State n → Type 0
LeavesNext n parts input finished old now = (end : State n) × IsNext n parts input finished old end
    × (now ≡ without_output end)

-- ---- a list of runs

-- one run for each, in order, and each begins on the board as the one before left it
abbrev pub Follow : (n : ℕ) → State n → List Batch → List Finished → State n → Type 0
Follow n old [] [] end = old ≡ end
Follow n old (each ∷ batch) (finished ∷ answers) end =
    (mid : State n) × IsNext n each.image.now each.input.now finished old mid × Follow n mid batch answers end
Follow n old [] (finished ∷ answers) end = ⊥
Follow n old (each ∷ batch) [] end = ⊥

-- the runs follow one another on one board, which is new before the first
pub record AreAnswers (n : ℕ) (batch : List Batch) (answers : List Finished) : Type 0 where
  pub made : State n
  pub end : State n
  pub new : IsNew n [] [] made
  pub runs : Follow n made batch answers end
