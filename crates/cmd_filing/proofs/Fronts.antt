-- What a job that puts all out at its end has put out where it stops.
use Rattle.std.proofs.Common.{◌≡◌, refl, sym, ℕ, List, [], ◌∙◌, ap, Option, None, Some, IfSome, Result, Ok, Err, IfErr, OnErr, codes}
use Rattle.std.specs.Io.KnownBytes.{Appends}
use Rattle.std.proofs.KnownBytes.{Appends-nil}
use Rattle.v8_map.specs.declared.TheConstants.{CODE_START}
use Rattle.sbx_image.specs.Parts.{Parts}
use Rattle.sbx_image.specs.Reading.{reading}
use Rattle.sbx_image.specs.Spelling.{spelling}
use Rattle.sbx_asm.specs.Images.{source_image}
use Rattle.sbx_rules.specs.Verdicts.{Checked}
use Rattle.cmd_listing.specs.Listing.{listing}
use Rattle.sbx_put.specs.Fronts.{WroteSome}
use Rattle.cmd_stops.specs.declared.stops.CommandStop.{CommandStop}
use Rattle.cmd_stops.specs.declared.stops.CommandStop.TheVariants.{Source, Image, Refused, File, Input, Output, Memory, NoRoom}
use Rattle.cmd_stops.specs.Stops.{IsEarly, IsOfOutput}
use Rattle.cmd_filing.specs.Files.{BeginsListing, BeginsObject, BeginsVerdict, FrontLeaves, FrontLeft, Listed}

nothing_left : (IsFront : List ℕ → Type 0) (stop : CommandStop) → IsEarly stop → FrontLeaves IsFront stop []
nothing_left IsFront (Source fault) early = refl
nothing_left IsFront (Image fault) early = refl
nothing_left IsFront (Refused refusal) early = refl
nothing_left IsFront File early = refl
nothing_left IsFront Input early = refl
nothing_left IsFront Output early = absurd early
nothing_left IsFront (Memory want) early = refl
nothing_left IsFront (NoRoom full) early = absurd early

-- before the output nothing was put out
pub left_early : (IsFrontOf : List ℕ → List ℕ → Type 0) (file old : Option (List ℕ)) (stop : CommandStop) → IsEarly stop → FrontLeft IsFrontOf file old old stop
left_early IsFrontOf None old stop early = tt
left_early IsFrontOf (Some bytes) old stop early = ([], nothing_left (IsFrontOf bytes) stop early, Appends-nil old)

front_left : (IsFront : List ℕ → Type 0) (stop : CommandStop) (written : List ℕ) → IsOfOutput stop → IsFront written → FrontLeaves IsFront stop written
front_left IsFront (Source fault) written own front = absurd own
front_left IsFront (Image fault) written own front = absurd own
front_left IsFront (Refused refusal) written own front = absurd own
front_left IsFront File written own front = absurd own
front_left IsFront Input written own front = absurd own
front_left IsFront Output written own front = front
front_left IsFront (Memory want) written own front = absurd own
front_left IsFront (NoRoom full) written own front = front

-- the output's own stop leaves the first bytes of the object
object_begun : (file old new : Option (List ℕ)) (stop : CommandStop) (parts : Parts) (object : List ℕ) → IfSome file (λ bytes. source_image bytes ≡ Ok parts)
    → object ≡ spelling parts → IsOfOutput stop → WroteSome old new object → FrontLeft BeginsObject file old new stop
object_begun None old new stop parts object means spelled own written = tt
object_begun (Some bytes) old new stop parts object means spelled own (front, rest, is, put) =
    (front, front_left (BeginsObject bytes) stop front own (parts, means, (rest, sym spelled ∙ is)), put)

pub object_left : (file old new : Option (List ℕ)) (parts : Parts) (object : List ℕ) (r : Result (Unit {0}) CommandStop) → IfSome file (λ bytes. source_image bytes ≡ Ok parts)
    → object ≡ spelling parts → IfErr r IsOfOutput → OnErr r (WroteSome old new object) → IfErr r (FrontLeft BeginsObject file old new)
object_left file old new parts object (Ok u) means spelled own written = tt
object_left file old new parts object (Err stop) means spelled own written = object_begun file old new stop parts object means spelled own written

-- those of the line of an accepted image
pub verdict_begun : (file old new : Option (List ℕ)) (parts : Parts) → IfSome file (λ bytes. (reading bytes ≡ Ok parts) × Checked parts)
    → WroteSome old new (codes "accepted\n") → FrontLeft BeginsVerdict file old new Output
verdict_begun None old new parts verdict written = tt
verdict_begun (Some bytes) old new parts verdict (front, rest, is, put) = (front, ((parts, verdict.0, verdict.1), (rest, is)), put)

-- those of the listing of an image
pub listing_begun : (file old new : Option (List ℕ)) (parts : Parts) (words : List ℕ) → IfSome file (λ bytes. reading bytes ≡ Ok parts) → words ≡ parts.words
    → WroteSome old new (listing CODE_START words) → FrontLeft BeginsListing file old new Output
listing_begun None old new parts words read same written = tt
listing_begun (Some bytes) old new parts words read same (front, rest, is, put) =
    (front, (parts, read, (rest, ap (listing CODE_START) (sym same) ∙ is)), put)

-- what a listing of the known bytes of a file has put out
pub listed_on : (file old new : Option (List ℕ)) (parts : Parts) (words : List ℕ) → IfSome file (λ bytes. reading bytes ≡ Ok parts) → words ≡ parts.words
    → Appends old new (listing CODE_START words) → Listed file old new
listed_on None old new parts words read same put = tt
listed_on (Some bytes) old new parts words read same put = (parts, read, rw (sym same) put)
