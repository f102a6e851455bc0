-- What the assembler tells, unless that is want of memory, is what the source's meaning tells.
use Rattle.std.proofs.Common.{◌≡◌, ◌⊎◌, inl, inr, ℕ, List, Err, ap}
use Rattle.want.specs.Wants.{refused}
use Rattle.sbx_asm.specs.declared.fault.AsmFault.{AsmFault}
use Rattle.sbx_asm.specs.declared.fault.Cause.TheVariants.{Memory}
use Rattle.sbx_asm.specs.Rules.{at}
use Rattle.sbx_asm.specs.Images.{source_image}

pub told_first : (source : List ℕ) (first : AsmFault)
    → ((first ≡ at 0 (Memory refused)) ⊎ (source_image source ≡ Err first)) → (first.cause ≡ Memory refused → ⊥) → source_image source ≡ Err first
told_first source first (inl none) other = absurd (other (ap (λ (f : AsmFault). f.cause) none))
told_first source first (inr means) other = means
