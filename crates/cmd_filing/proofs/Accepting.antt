-- What is accepted of the bytes of a file, and what is refused.
use Rattle.std.proofs.Common.{◌≡◌, subst, sym, ℕ, List, Option, None, Some, IfSome, Ok}
use Rattle.sbx_image.specs.Parts.{Parts}
use Rattle.sbx_image.specs.Reading.{reading}
use Rattle.want.specs.Wants.{refused}
use Rattle.sbx_rules.specs.declared.cause.Cause.TheVariants.{NoMemory}
use Rattle.sbx_rules.specs.declared.cause.Refusal.{Refusal}
use Rattle.sbx_rules.specs.Verdicts.{Checked, IsFirst}
use Rattle.sbx_verify.specs.Refusals.{IsRefusal as IsRefused}
use Rattle.sbx_verify.proofs.Refusals.{broken_rule}

-- a refusal that isn't for want of memory names a broken rule
pub broken : (parts : Parts) (refusal : Refusal) → IsRefused parts refusal → (refusal.cause ≡ NoMemory refused → ⊥) → IsFirst parts refusal
broken parts refusal told other = broken_rule parts refusal told other

-- what is accepted of known bytes
pub accepted_of : (known : Option (List ℕ)) (image accepted : Parts) → IfSome known (λ bytes. reading bytes ≡ Ok image) → (accepted ≡ image) × Checked image
    → IfSome known (λ bytes. (reading bytes ≡ Ok accepted) × Checked accepted)
accepted_of None image accepted read verdict = tt
accepted_of (Some bytes) image accepted read verdict = (subst (λ (p : Parts). reading bytes ≡ Ok p) (sym verdict.0) read, subst Checked (sym verdict.0) verdict.1)
