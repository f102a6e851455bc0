-- What is done with a file: what its bytes are, what is put out of them, and what a stop leaves.
use Rattle.std.specs.Prelude.{◌≡◌, ℕ, List, [], Ok, Option, IfSome, codes}
use Rattle.std.specs.Io.KnownBytes.{Appends}
use Rattle.cmd_listing.specs.Listing.{listing}
use Rattle.sbx_put.specs.Fronts.{Begins, Wrote}
use Rattle.sbx_image.specs.Parts.{Parts}
use Rattle.sbx_image.specs.Reading.{reading}
use Rattle.sbx_image.specs.Spelling.{IsTyped, spelling}
use Rattle.sbx_asm.specs.Images.{source_image}
use Rattle.sbx_rules.specs.Verdicts.{Checked}
use Rattle.cmd_stops.specs.declared.stops.CommandStop.{CommandStop}
use Rattle.cmd_stops.specs.declared.stops.CommandStop.TheVariants.{Source, Image, Refused, File, Input, Output, Memory}
use Rattle.cmd_stops.specs.declared.stops.CommandStop.TheVariants.{NoRoom}
use Rattle.v8_map.specs.declared.TheConstants.{CODE_START}

-- the bytes spell an image
abbrev pub IsImage : List ℕ → Type 0
IsImage bytes = (parts : Parts) × (reading bytes ≡ Ok parts)

-- the bytes spell an image that breaks no rule
abbrev pub IsAccepted : List ℕ → Type 0
IsAccepted bytes = (parts : Parts) × (reading bytes ≡ Ok parts) × Checked parts

-- the bytes are a source that means an image
abbrev pub IsSource : List ℕ → Type 0
IsSource bytes = (parts : Parts) × (source_image bytes ≡ Ok parts)

-- each number of the parts is one that its field can hold
abbrev pub FitsItsFields : Parts → Type 0
FitsItsFields parts = IsTyped parts

-- The output grew by the spelling of the image that the bytes of the file mean, where they are known. Each of its
-- numbers fits its field: so a law says that it is read again, and is safe where it breaks no rule.
abbrev pub AssembledFrom : List ℕ → Option (List ℕ) → Option (List ℕ) → Type 0
AssembledFrom bytes old new = (parts : Parts) × (source_image bytes ≡ Ok parts) × FitsItsFields parts
    × Appends old new (spelling parts)

abbrev pub Assembled : Option (List ℕ) → Option (List ℕ) → Option (List ℕ) → Type 0
Assembled file old new = IfSome file (λ bytes. AssembledFrom bytes old new)

-- The output grew by the listing of the image that the bytes of the file spell, where they are known.
abbrev pub Listed : Option (List ℕ) → Option (List ℕ) → Option (List ℕ) → Type 0
Listed file old new =
    IfSome file (λ bytes. (parts : Parts) × (reading bytes ≡ Ok parts)
    × Appends old new (listing CODE_START parts.words))

-- The first bytes of what a job puts out when all else is done: of the object of a source, of the line of an accepted
-- image, of the listing of an image.
abbrev pub BeginsObject : List ℕ → List ℕ → Type 0
BeginsObject bytes written = (parts : Parts) × (source_image bytes ≡ Ok parts) × Begins written (spelling parts)

abbrev pub BeginsVerdict : List ℕ → List ℕ → Type 0
BeginsVerdict bytes written = IsAccepted bytes × Begins written (codes "accepted\n")

abbrev pub BeginsListing : List ℕ → List ℕ → Type 0
BeginsListing bytes written = (parts : Parts) × (reading bytes ≡ Ok parts)
    × Begins written (listing CODE_START parts.words)

-- What a stop of such a job leaves: the output's own the first bytes, any other none.
abbrev pub FrontLeaves : (List ℕ → Type 0) → CommandStop → List ℕ → Type 0
FrontLeaves IsFront Output written = IsFront written
FrontLeaves IsFront (NoRoom full) written = IsFront written
FrontLeaves IsFront (Source fault) written = written ≡ []
FrontLeaves IsFront (Image fault) written = written ≡ []
FrontLeaves IsFront (Refused refusal) written = written ≡ []
FrontLeaves IsFront File written = written ≡ []
FrontLeaves IsFront Input written = written ≡ []
FrontLeaves IsFront (Memory want) written = written ≡ []

-- the same where the bytes of the file are known
abbrev pub FrontLeft : (List ℕ → List ℕ → Type 0) → Option (List ℕ) → Option (List ℕ) → Option (List ℕ) → CommandStop →
    Type 0
FrontLeft IsFrontOf file old new stop = IfSome file (λ bytes. Wrote old new (FrontLeaves (IsFrontOf bytes) stop))
