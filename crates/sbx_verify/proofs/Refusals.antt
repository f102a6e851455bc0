-- A refusal that isn't for want of memory names a broken rule.
use Rattle.std.proofs.Common.{◌≡◌, ap, inl, inr}
use Rattle.want.specs.Wants.{refused}
use Rattle.sbx_image.specs.Parts.{Parts}
use Rattle.sbx_sound.specs.Cause.TheVariants.{NoMemory}
use Rattle.sbx_sound.specs.Refusal.{Refusal}
use Rattle.sbx_sound.specs.Verdicts.{IsFirst}
use Rattle.sbx_verify.specs.Refusals.{IsRefusal}

pub broken_rule : (parts : Parts) (refusal : Refusal) → IsRefusal parts refusal → (refusal.cause ≡ NoMemory refused → ⊥) → IsFirst parts refusal
broken_rule parts refusal (inl first) other = first
broken_rule parts refusal (inr none) other = absurd (other (ap (λ (r : Refusal). r.cause) none))
