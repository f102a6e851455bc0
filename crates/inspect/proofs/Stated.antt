-- States that are told of known bytes.
use Rattle.std.proofs.Common.{◌≡◌, subst, ℕ, List, Option, None, Some, IfSome, Result, Ok, Err, OnOk}
use Rattle.sbx_image.specs.Parts.{Parts}
use Rattle.sbx_image.specs.Reading.{reading}
use Rattle.sbx_raw.specs.Fronts.{Wrote}
use Rattle.inspect_states.specs.Told.{IsStated}
use Rattle.inspect.specs.declared.machine.MachineFault.{MachineFault}
use Rattle.inspect.specs.Machines.{MachineOf}
use Rattle.inspect.specs.States.{StatesOf}

-- where they were told, of the file's image
pub stated_if : (windows limit : ℕ) (file input old new : Option (List ℕ)) (parts : Parts) {E : Type 0} (r : Result (Unit {0}) E)
    → IfSome file (λ bytes. reading bytes ≡ Ok parts) → OnOk r (IfSome input (λ all. Wrote old new (IsStated windows parts all limit)))
    → OnOk r (StatesOf windows limit file input old new)
stated_if windows limit None input old new parts (Ok u) read told = tt
stated_if windows limit (Some bytes) None old new parts (Ok u) read told = tt
stated_if windows limit (Some bytes) (Some all) old new parts (Ok u) read told = (parts, read, told)
stated_if windows limit file input old new parts (Err e) read told = told

-- the states told on a count of windows are those on as many windows
pub stated_on : (count windows limit : ℕ) (parts : Parts) (input : List ℕ) (old new : Option (List ℕ)) → count ≡ windows
    → Wrote old new (IsStated count parts input limit) → Wrote old new (IsStated windows parts input limit)
stated_on count windows limit parts input old new many wrote = subst (λ (n : ℕ). Wrote old new (IsStated n parts input limit)) many wrote

-- what is told of a machine on a count of windows is that on as many windows
pub machine_on : (count windows limit at : ℕ) (binary file : List ℕ) (old new : Option (List ℕ)) (r : Result (Unit {0}) MachineFault) → count ≡ windows
    → MachineOf count limit at binary file old new r → MachineOf windows limit at binary file old new r
machine_on count windows limit at binary file old new r many told = subst (λ (n : ℕ). MachineOf n limit at binary file old new r) many told
