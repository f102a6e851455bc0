-- A source that is refused means no image; and what an assembly put out.
use Rattle.std.proofs.Common.{◌≡◌, subst, ℕ, List, Option, None, Some, IfSome, Ok, Err, rules}
use Rattle.std.specs.Io.KnownBytes.{Appends}
use Rattle.sbx_image.specs.Parts.{Parts}
use Rattle.sbx_image.specs.Spelling.{spelling}
use Rattle.sbx_asm.specs.declared.fault.AsmFault.{AsmFault}
use Rattle.sbx_asm.specs.Images.{source_image}
use Rattle.cmd_stops.specs.declared.stops.CommandStop.{CommandStop}
use Rattle.cmd_stops.specs.declared.stops.CommandStop.TheVariants.{Source, Image, Refused, File, Input, Output, Memory, NoRoom}
use Rattle.cmd_stops.specs.Stops.{IsTrueOfSource, IsRefusal}
use Rattle.cmd_filing.specs.Files.{IsSource, Assembled, FitsItsFields}

pub faulty_is_no_source : (bytes : List ℕ) (fault : AsmFault) → source_image bytes ≡ Err fault → IsSource bytes → ⊥
faulty_is_no_source bytes fault faulty source =
    let read : source_image bytes ≡ Ok source.0 = source.1 in
    search rules

pub source_stops : (stop : CommandStop) (bytes : List ℕ) → IsRefusal stop → IsTrueOfSource stop bytes → IsSource bytes → ⊥
source_stops (Source fault) bytes refuses told source = faulty_is_no_source bytes fault told source
source_stops (Image fault) bytes refuses told source = told
source_stops (Refused refusal) bytes refuses told source = told
source_stops File bytes refuses told source = absurd refuses
source_stops Input bytes refuses told source = absurd refuses
source_stops Output bytes refuses told source = absurd refuses
source_stops (Memory want) bytes refuses told source = absurd refuses
source_stops (NoRoom full) bytes refuses told source = absurd refuses

-- the spelling of the image of the known bytes of a file
pub assembled_on : (file old new : Option (List ℕ)) (parts : Parts) (object : List ℕ) → IfSome file (λ bytes. source_image bytes ≡ Ok parts)
    → FitsItsFields parts → object ≡ spelling parts → Appends old new object → Assembled file old new
assembled_on None old new parts object means fits spelled grown = tt
assembled_on (Some bytes) old new parts object means fits spelled grown =
    (parts, means, fits, subst (λ (text : List ℕ). Appends old new text) spelled grown)
