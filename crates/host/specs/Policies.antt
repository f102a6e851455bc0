-- What a host admits, and what is so of an image that it denies.
use Rattle.std.specs.Prelude.{◌≡◌, ◌≢◌, ℕ, ◌≤◌, ◌<◌, ◌==◌, Bool, true, false, List, [], ◌∷◌, ◌++◌, Ok, Err, Option}
use Rattle.std.specs.Prelude.{IfSome}
use Rattle.std.specs.Int.RustNames.{bit_and}
use Rattle.sbx_image.specs.ImageFault.TheVariants.{Memory}
use Rattle.sbx_image.specs.Parts.{Parts}
use Rattle.sbx_image.specs.Reading.{reading}
use Rattle.sbx_flat.specs.Runs.{FlatSafe, budget}
use Rattle.sbx_run.specs.Refusals.{IsRefusal}
use Rattle.want.specs.Wants.{refused}
use Rattle.host.specs.declared.policy.Policy.{Policy}
use Rattle.host.specs.declared.policy.Denial.{Denial}
use Rattle.host.specs.declared.policy.Denial.TheVariants.{Image, Refused, Services, Turns}

-- whether each service that the image declares is one that the policy grants
abbrev pub grants_services : Policy → Parts → Bool
grants_services policy parts = bit_and policy.services.0 parts.services.0 == parts.services.0

-- The bytes spell this image, it is safe, and it declares no service and no turn beyond the policy.
abbrev pub IsAdmitted : Policy → List ℕ → Parts → Type 0
IsAdmitted policy bytes parts = (reading bytes ≡ Ok parts) × FlatSafe parts × (grants_services policy parts ≡ true)
    × (budget parts ≤ policy.turns)

-- What a denial tells is so of the bytes; where it tells want of memory nothing is said of them.
abbrev pub Explains : Policy → List ℕ → Denial → Type 0
Explains policy bytes (Image fault) = fault ≢ Memory refused → reading bytes ≡ Err fault
Explains policy bytes (Refused refusal) = (parts : Parts) × (reading bytes ≡ Ok parts) × IsRefusal parts refusal
Explains policy bytes (Services asked) = (parts : Parts) × (reading bytes ≡ Ok parts) × (asked ≡ parts.services)
    × (grants_services policy parts ≡ false)
Explains policy bytes (Turns asked) = (parts : Parts) × (reading bytes ≡ Ok parts) × (asked ≡ budget parts)
    × (policy.turns < asked)

-- The list grew by the image that the bytes of a file spell, and it is admitted.
abbrev pub AddsAdmitted : Policy → Option (List ℕ) → List Parts → List Parts → Type 0
AddsAdmitted policy file old new = (parts : Parts) × (new ≡ old ++ parts ∷ [])
    × IfSome file (λ bytes. IsAdmitted policy bytes parts)

-- What a denial tells is so of the bytes of a file.
abbrev pub DeniesRightly : Policy → Option (List ℕ) → Denial → Type 0
DeniesRightly policy file denial = IfSome file (λ bytes. Explains policy bytes denial)
