-- What a front of an image's bytes tells, and what a reader that is fed in pieces keeps and answers.
use Rattle.std.specs.Prelude.{◌≡◌, ℕ, List, ◌++◌, Option, None, Some, Result, Ok, Err, MatchResult}
use Rattle.sbx_image.specs.ImageFault.{ImageFault}
use Rattle.sbx_image.specs.ImageFault.TheVariants.{Short, Magic, Version, Service, Limit, Trailing, Order, Range}
use Rattle.sbx_image.specs.ImageFault.TheVariants.{Memory}
use Rattle.sbx_image.specs.Parts.{Parts}
use Rattle.sbx_image.specs.Reading.{Gives, reading}

-- a fault that further bytes can't mend: any but that the bytes end
abbrev pub lasting : ImageFault → Result (Unit {0}) ImageFault
lasting Short = Ok tt
lasting Magic = Err Magic
lasting Version = Err Version
lasting Service = Err Service
lasting Limit = Err Limit
lasting Trailing = Err Trailing
lasting Order = Err Order
lasting Range = Err Range
lasting (Memory want) = Err (Memory want)

abbrev pub told : Result Parts ImageFault → Result (Unit {0}) ImageFault
told (Ok parts) = Ok tt
told (Err fault) = lasting fault

-- The fault of bytes that may go on.
abbrev pub front : List ℕ → Result (Unit {0}) ImageFault
front bytes = told (reading bytes)

-- the pieces joined or, after a fault, the fault alone
abbrev pub Kept : Type 0
Kept = Result (List ℕ) ImageFault

abbrev pub kept : Option ImageFault → List ℕ → Kept
kept None bytes = Ok bytes
kept (Some fault) bytes = Err fault

-- A piece joins what is kept, unless a fault is told, which is the one of the joined bytes if memory was found; from
-- then on it is kept and told.
abbrev pub IsFed : Kept → List ℕ → Result (Unit {0}) ImageFault → Kept → Type 0
IsFed (Ok bytes) piece result new = Gives (λ x. x) result (front (bytes ++ piece))
    × MatchResult result (λ _. new ≡ Ok (bytes ++ piece)) (λ e. new ≡ Err e)
IsFed (Err fault) piece result new = (result ≡ Err fault) × (new ≡ Err fault)

-- All that was kept is read, or the fault that was kept is told.
abbrev pub IsFinished : Kept → Result Parts ImageFault → Type 0
IsFinished (Ok bytes) result = Gives (λ parts. parts) result (reading bytes)
IsFinished (Err fault) result = result ≡ Err fault
