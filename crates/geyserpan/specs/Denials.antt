-- What is admitted, what is so of the bytes where something is denied, and how it is told.
use Rattle.std.specs.Prelude.{◌≡◌, ◌≢◌, ◌⊎◌, ℕ, ◌<◌, ◌≤◌, ◌==◌, Bool, true, false, List, Ok, Err}
use Rattle.std.specs.Int.RustNames.{bit_and}
use Rattle.sbx_image.specs.ImageFault.{ImageFault}
use Rattle.sbx_image.specs.ImageFault.TheVariants.{Short, Magic, Version, Service, Limit, Trailing, Order, Range}
use Rattle.sbx_image.specs.ImageFault.TheVariants.{Memory}
use Rattle.sbx_image.specs.Parts.{Parts}
use Rattle.sbx_image.specs.Reading.{reading}
use Rattle.sbx_flat.specs.Runs.{FlatSafe, budget}
use Rattle.sbx_run.specs.Refusals.{IsRefusal}
use Rattle.sbx_rules.specs.declared.cause.Refusal.{Refusal}
use Rattle.sbx_rules.specs.Causes.{number_of}
use Rattle.want.specs.Wants.{refused}
use Rattle.geyserpan.specs.declared.terms.Terms.{Terms}
use Rattle.geyserpan.specs.declared.terms.Why.{Why}
use Rattle.geyserpan.specs.declared.admitting.Denial.{Denial}
use Rattle.geyserpan.specs.declared.admitting.Denial.TheVariants as denials
use Rattle.geyserpan.specs.declared.admitting.Lack.{Lack}
use Rattle.geyserpan.specs.declared.admitting.Lack.TheVariants as lacks
use Rattle.geyserpan.specs.declared.statuses.TheConstants.{NO_IMAGE, REFUSED, WINDOWS, SERVICES, TURNS}

-- ---- what is granted

-- whether each service that the image declares is granted
abbrev pub grants_services : Terms → Parts → Bool
grants_services terms parts = bit_and terms.services parts.services.0 == parts.services.0

-- they grant the services and the turns that the image declares
abbrev pub Grants : Terms → Parts → Type 0
Grants terms parts = (grants_services terms parts ≡ true) × (budget parts ≤ terms.turns)

abbrev pub HasWindows : Terms → Type 0
HasWindows terms = (4 ≤ terms.windows) × (terms.windows ≤ 32)

-- The bytes spell this image, it is safe, it declares no service and no turn beyond the terms, and there is such a
-- count of windows.
abbrev pub IsAdmitted : List ℕ → Terms → Parts → Type 0
IsAdmitted bytes terms parts =
    (reading bytes ≡ Ok parts) × FlatSafe parts × (grants_services terms parts ≡ true) × (budget parts ≤ terms.turns)
    × HasWindows terms

-- ---- what is denied

-- What a denial tells is so of the bytes and the terms; where it tells want of memory nothing is said of them.
abbrev pub Explains : List ℕ → Terms → Denial → Type 0
Explains bytes terms (denials.Image fault) = fault ≢ Memory refused → reading bytes ≡ Err fault
Explains bytes terms (denials.Refused refusal) = (parts : Parts) × (reading bytes ≡ Ok parts) × IsRefusal parts refusal
Explains bytes terms denials.Windows = (terms.windows < 4) ⊎ (32 < terms.windows)
Explains bytes terms denials.Services = (parts : Parts) × (reading bytes ≡ Ok parts)
    × (grants_services terms parts ≡ false)
Explains bytes terms denials.Turns = (parts : Parts) × (reading bytes ≡ Ok parts) × (terms.turns < budget parts)

-- what the terms don't grant of what the image declares
abbrev pub IsLack : Terms → Parts → Lack → Type 0
IsLack terms parts lacks.Services = grants_services terms parts ≡ false
IsLack terms parts lacks.Turns = terms.turns < budget parts

-- ---- how it is told

abbrev pub fault_number : ImageFault → ℕ
fault_number Short = 1
fault_number Magic = 2
fault_number Version = 3
fault_number Service = 4
fault_number Limit = 5
fault_number Trailing = 6
fault_number Order = 7
fault_number Range = 8
fault_number (Memory want) = 9

-- the bytes are no image, for this fault
pub record IsNoImage (bytes : List ℕ) (why : Why) : Type 0 where
  pub fault : ImageFault
  pub is : reading bytes ≡ Err fault
  pub number : why.number ≡ fault_number fault

-- of the rules that the image breaks this is the one of least number at the least address
pub record IsRefused (bytes : List ℕ) (why : Why) : Type 0 where
  pub parts : Parts
  pub refusal : Refusal
  pub spelt : reading bytes ≡ Ok parts
  pub first : IsRefusal parts refusal
  pub number : why.number ≡ number_of refusal.cause
  pub function : why.function ≡ refusal.function
  pub address : why.address ≡ refusal.address
  pub no_memory : why.number ≢ 19

-- What each status that denies says of the bytes and the terms. What another status says isn't said here.
pub record IsDenial (bytes : List ℕ) (terms : Terms) (status : ℕ) (why : Why) : Type 0 where
  pub no_image : status ≡ NO_IMAGE → IsNoImage bytes why
  pub refused : status ≡ REFUSED → IsRefused bytes why
  pub windows : status ≡ WINDOWS → Explains bytes terms denials.Windows
  pub services : status ≡ SERVICES → Explains bytes terms denials.Services
  pub turns : status ≡ TURNS → Explains bytes terms denials.Turns
