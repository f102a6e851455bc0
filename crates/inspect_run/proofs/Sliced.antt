-- Runs in slices.
use Rattle.std.proofs.Common.{◌≡◌, ℕ, List, ◌+◌, ◌*◌, ◌/◌, ◌%◌, subst, sym, refl, arith}
use Rattle.sbx_image.specs.Parts.{Parts}
use Rattle.v8_board.specs.Seen.{State}
use Rattle.v8_board.specs.Runs.{IsRun}
use Rattle.v8_board.proofs.Running.{no_turns, whole_run}
use Rattle.v8_board.proofs.Joined.{runs_join}
use Rattle.v8_board.specs.Contains.{Contains}
use Rattle.sbx_raw.specs.Runs.{IsBegun}
use Rattle.inspect_run.specs.Runs.{IsRun as IsTold, IsRunOf}
use Rattle.inspect_run.specs.declared.run.Run.{Run}

-- no slice
pub no_slice : (n : ℕ) (s : State n) → IsRun n 0 s s
no_slice n s = whole_run n 0 0 s s (no_turns n s) refl

-- one slice more
pub one_slice_more : (n k : ℕ) (s m e : State n) → IsRun n (k * 4194304) s m → IsRun n 4194304 m e → IsRun n ((k + 1) * 4194304) s e
one_slice_more n k s m e before slice =
    let same : k * 4194304 + 4194304 ≡ (k + 1) * 4194304 = omega arith in
    subst (λ (j : ℕ). IsRun n j s e) same (runs_join n (k * 4194304) 4194304 s m e before slice)

-- all slices, and what is left of the limit
pub slices_and_rest : (n k limit : ℕ) (s m e : State n) → k ≡ limit / 4194304 → IsRun n (k * 4194304) s m → IsRun n (limit % 4194304) m e → IsRun n limit s e
slices_and_rest n k limit s m e all before rest =
    let same : k * 4194304 + limit % 4194304 ≡ limit = omega arith in
    subst (λ (j : ℕ). IsRun n j s e) same (runs_join n (k * 4194304) (limit % 4194304) s m e before rest)

-- a run of a board that was loaded with an image, on as many windows as another number says
pub told_on : (n windows : ℕ) (parts : Parts) (input : List ℕ) (limit : ℕ) (start end : State n) (run : Run) → windows ≡ n → IsBegun n parts input start
    → Contains n parts start → IsRunOf n limit start end run → IsTold windows parts input limit run
told_on n windows parts input limit start end run same begun contained is =
    let told : IsTold n parts input limit run = record {
      raw = record {
        start = start;
        end = end;
        begun = begun;
        run = is.run;
        kept = is.kept parts contained;
        outcome = is.shown.outcome;
        output = is.shown.output;
        pages = is.shown.pages;
        fault_status = is.shown.fault_status;
      };
      place = is.shown.place;
    } in
    subst (λ (w : ℕ). IsTold w parts input limit run) (sym same) told
