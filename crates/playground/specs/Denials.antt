-- Why there is no text.
use Rattle.std.specs.Prelude.{ℕ, List}
use Rattle.sbx_image.specs.ImageFault.{ImageFault}
use Rattle.sbx_image.specs.ImageFault.TheVariants as images
use Rattle.sbx_asm.specs.declared.fault.Cause.{Cause}
use Rattle.sbx_asm.specs.declared.fault.Cause.TheVariants as causes
use Rattle.playground.specs.declared.denied.Denied.{Denied}
use Rattle.playground.specs.declared.denied.Denied.TheVariants.{NoImage, Source, Memory, Unwritten}
use Rattle.playground.specs.Told.{MeansNone, SpellNone}

-- what the fault of an image's bytes denies
abbrev pub of_image : ImageFault → Denied
of_image (images.Memory want) = Memory want
of_image other = NoImage

-- and what the cause of a source's does
abbrev pub of_source : Cause → Denied
of_source (causes.Memory want) = Memory want
of_source (causes.Text f) = Source
of_source (causes.Syntax f) = Source
of_source causes.DuplicateLabel = Source
of_source causes.Directive = Source
of_source causes.Limit = Source
of_source causes.Annotation = Source

-- It is so of the bytes of an image, of which no source is asked for.
abbrev pub IsOfImage : List ℕ → Denied → Type 0
IsOfImage bytes NoImage = SpellNone bytes
IsOfImage bytes Source = ⊥
IsOfImage bytes (Memory want) = Unit {0}
IsOfImage bytes Unwritten = Unit {0}

-- It is so of a source, of which no image's bytes are asked for.
abbrev pub IsOfSource : List ℕ → Denied → Type 0
IsOfSource source NoImage = ⊥
IsOfSource source Source = MeansNone source
IsOfSource source (Memory want) = Unit {0}
IsOfSource source Unwritten = Unit {0}
