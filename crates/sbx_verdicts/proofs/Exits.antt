-- What a run of the plain machine tells of the flat machine.
use Rattle.std.proofs.Common.{◌≡◌, ℕ, List, subst}
use Rattle.sbx_image.specs.Parts.{Parts}
use Rattle.sbx_flat.specs.declared.path.Place.{Place}
use Rattle.sbx_flat.specs.Runs.{IsStart}
use Rattle.sbx_flat.specs.States.{State}
use Rattle.flat_plain.specs.Comes.{IsRan}
use Rattle.flat_plain.specs.Shows.{Shows}
use Rattle.flat_plain.specs.declared.machine.Plain.{Plain}
use Rattle.flat_plain.specs.declared.runs.Ending.{Ending}
use Rattle.flat_plain.specs.declared.runs.Ending.TheVariants.{Exit}
use Rattle.sbx_verdicts.specs.Runs.{ExitsSo}
use Rattle.sbx_verdicts.specs.declared.runs.Run.{Run}

-- a run from a start that ends with the line's exit word and output
pub exits_so : (parts : Parts) (run : Run) (fill limit : ℕ) (old new : Plain) (path : List Place) (ending : Ending) (status : ℕ) (input output : List ℕ)
    → input ≡ run.input.items → (s : State) × IsStart parts input s × Shows old s
    → ((s : State) → Shows old s → IsRan parts fill limit s new path ending)
    → ending ≡ Exit status → status ≡ run.status → output ≡ new.output.items → output ≡ run.output.items → ExitsSo parts run path
exits_so parts run fill limit old new path ending status input output all start ran exit same is_output same_output =
    let r : IsRan parts fill limit start.0 new path (Exit status) = subst (IsRan parts fill limit start.0 new path) exit (ran start.0 start.2) in
    record {
      state = r.state;
      flat = (start.0, subst (λ bytes. IsStart parts bytes start.0) all start.1, r.run);
      status = cc (r.ends.1, same);
      output = cc (r.ends.0.output, is_output, same_output);
    }
