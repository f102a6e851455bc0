-- Why there is no text is so.
use Rattle.std.proofs.Common.{◌≡◌, ◌≢◌, ◌⊎◌, inl, inr, ℕ, List, Err, subst, sym}
use Rattle.want.specs.Wants.{refused}
use Rattle.sbx_image.specs.ImageFault.{ImageFault}
use Rattle.sbx_image.specs.ImageFault.TheVariants as images
use Rattle.sbx_image.specs.Reading.{reading}
use Rattle.sbx_asm.specs.declared.fault.AsmFault.{AsmFault}
use Rattle.sbx_asm.specs.declared.fault.Cause.{Cause}
use Rattle.sbx_asm.specs.declared.fault.Cause.TheVariants as causes
use Rattle.sbx_asm.specs.Images.{source_image}
use Rattle.sbx_asm.specs.Rules.{at}
use Rattle.playground.specs.declared.denied.Denied.{Denied}
use Rattle.playground.specs.declared.denied.Denied.TheVariants as denials
use Rattle.playground.specs.Denials.{IsOfImage, IsOfSource, of_image, of_source}
use Rattle.playground.specs.Told.{MeansNone, SpellNone}

-- the fault of bytes, unless it is want of memory
pub image_denied : (bytes : List ℕ) (fault : ImageFault) → (fault ≢ images.Memory refused → reading bytes ≡ Err fault)
    → IsOfImage bytes (of_image fault)
image_denied bytes images.Short read = (images.Short, read (λ h. absurd (cc)))
image_denied bytes images.Magic read = (images.Magic, read (λ h. absurd (cc)))
image_denied bytes images.Version read = (images.Version, read (λ h. absurd (cc)))
image_denied bytes images.Service read = (images.Service, read (λ h. absurd (cc)))
image_denied bytes images.Limit read = (images.Limit, read (λ h. absurd (cc)))
image_denied bytes images.Trailing read = (images.Trailing, read (λ h. absurd (cc)))
image_denied bytes images.Order read = (images.Order, read (λ h. absurd (cc)))
image_denied bytes images.Range read = (images.Range, read (λ h. absurd (cc)))
image_denied bytes (images.Memory want) read = tt

-- a fault that a source has denies what its cause does
of_cause : (source : List ℕ) (cause : Cause) → MeansNone source → IsOfSource source (of_source cause)
of_cause source (causes.Memory want) none = tt
of_cause source (causes.Text f) none = none
of_cause source (causes.Syntax f) none = none
of_cause source causes.DuplicateLabel none = none
of_cause source causes.Directive none = none
of_cause source causes.Limit none = none
of_cause source causes.Annotation none = none

-- the fault of a source, or want of memory
pub fault_denied : (source : List ℕ) (fault : AsmFault)
    → (fault ≡ at 0 (causes.Memory refused)) ⊎ (source_image source ≡ Err fault)
    → IsOfSource source (of_source fault.cause)
fault_denied source fault (inl same) = subst (λ (f : AsmFault). IsOfSource source (of_source f.cause)) (sym same) tt
fault_denied source fault (inr is) = of_cause source fault.cause (fault, is)

-- bytes that are denied as no image spell none, and are never denied as a source
pub spell_none : (bytes : List ℕ) (denied : Denied) → IsOfImage bytes denied → denied ≡ denials.NoImage
    → SpellNone bytes
spell_none bytes denied is same = subst (λ (d : Denied). IsOfImage bytes d) same is

pub never_source : (bytes : List ℕ) (denied : Denied) → IsOfImage bytes denied → denied ≢ denials.Source
never_source bytes denied is same = subst (λ (d : Denied). IsOfImage bytes d) same is

-- a source that is denied as one means none, and is never denied as an image
pub means_none : (source : List ℕ) (denied : Denied) → IsOfSource source denied → denied ≡ denials.Source
    → MeansNone source
means_none source denied is same = subst (λ (d : Denied). IsOfSource source d) same is

pub never_image : (source : List ℕ) (denied : Denied) → IsOfSource source denied → denied ≢ denials.NoImage
never_image source denied is same = subst (λ (d : Denied). IsOfSource source d) same is
