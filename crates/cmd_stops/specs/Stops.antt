-- What a command tells when it stops, and its exit status.
use Rattle.std.specs.Prelude.{◌≡◌, ℕ, Bool, true, false, List, [], ◌∷◌, ◌++◌, codes, Ok, Err, Option}
use Rattle.std.specs.Io.KnownBytes.{Appends}
use Rattle.sbx_image.specs.Faults as images
use Rattle.sbx_asm.specs.Rules as sources
use Rattle.sbx_rules.specs.Causes as rules
use Rattle.sbx_image.specs.ImageFault.{ImageFault}
use Rattle.sbx_image.specs.ImageFault.TheVariants as fault
use Rattle.sbx_image.specs.Reading.{reading}
use Rattle.sbx_asm.specs.declared.fault.Cause.{Cause}
use Rattle.sbx_asm.specs.declared.fault.Cause.TheVariants as causes
use Rattle.sbx_asm.specs.declared.fault.AsmFault.{AsmFault}
use Rattle.sbx_asm.specs.Images.{source_image}
use Rattle.sbx_raw.specs.declared.fault.RunFault.{RunFault}
use Rattle.sbx_raw.specs.declared.fault.RunFault.TheVariants as runs
use Rattle.sbx_put.specs.Fronts.{WroteSome}
use Rattle.sbx_rules.specs.Verdicts.{IsFirst}
use Rattle.sbx_image.specs.Parts.{Parts}
use Rattle.cmd_stops.specs.declared.stops.Full.{Full}
use Rattle.cmd_stops.specs.declared.stops.CommandStop.{CommandStop}
use Rattle.cmd_stops.specs.declared.stops.CommandStop.TheVariants.{Source, Image, Refused, File, Input, Output, Memory}
use Rattle.cmd_stops.specs.declared.stops.CommandStop.TheVariants.{NoRoom}

-- 2 says that the bytes are at fault, 4 that the system is, 5 that memory is used up
abbrev pub status_of : CommandStop → ℕ
status_of (Source fault) = 2
status_of (Image fault) = 2
status_of (Refused refusal) = 2
status_of File = 4
status_of Input = 4
status_of Output = 4
status_of (Memory want) = 5
status_of (NoRoom full) = 5

-- The bytes of the file are at fault. The other stops tell of the system or of memory.
abbrev pub IsRefusal : CommandStop → Type 0
IsRefusal (Source fault) = Unit {0}
IsRefusal (Image fault) = Unit {0}
IsRefusal (Refused refusal) = Unit {0}
IsRefusal File = ⊥
IsRefusal Input = ⊥
IsRefusal Output = ⊥
IsRefusal (Memory want) = ⊥
IsRefusal (NoRoom full) = ⊥

-- the stops up to the verdict, which is before any input or output
abbrev pub IsEarly : CommandStop → Type 0
IsEarly (Source fault) = Unit {0}
IsEarly (Image fault) = Unit {0}
IsEarly (Refused refusal) = Unit {0}
IsEarly File = Unit {0}
IsEarly Input = ⊥
IsEarly Output = ⊥
IsEarly (Memory want) = Unit {0}
IsEarly (NoRoom full) = ⊥

-- the file or its bytes are at fault: nothing else has been touched
abbrev pub IsOfFile : CommandStop → Type 0
IsOfFile (Source fault) = Unit {0}
IsOfFile (Image fault) = Unit {0}
IsOfFile (Refused refusal) = Unit {0}
IsOfFile File = Unit {0}
IsOfFile Input = ⊥
IsOfFile Output = ⊥
IsOfFile (Memory want) = ⊥
IsOfFile (NoRoom full) = ⊥

-- what stops a trace whose image is there: its own streams, or want of memory
abbrev pub IsOfTrace : CommandStop → Type 0
IsOfTrace (Source fault) = ⊥
IsOfTrace (Image fault) = ⊥
IsOfTrace (Refused refusal) = ⊥
IsOfTrace File = ⊥
IsOfTrace Input = Unit {0}
IsOfTrace Output = Unit {0}
IsOfTrace (Memory want) = Unit {0}
IsOfTrace (NoRoom full) = ⊥

-- want of memory that a file or a stream told
abbrev pub HasNoRoom : CommandStop → Type 0
HasNoRoom stop = (full : Full) × (stop ≡ NoRoom full)

-- the stops that only the output brings: it can't be written, or has no room
abbrev pub IsOfOutput : CommandStop → Type 0
IsOfOutput (Source fault) = ⊥
IsOfOutput (Image fault) = ⊥
IsOfOutput (Refused refusal) = ⊥
IsOfOutput File = ⊥
IsOfOutput Input = ⊥
IsOfOutput Output = Unit {0}
IsOfOutput (Memory want) = ⊥
IsOfOutput (NoRoom full) = Unit {0}

-- the line on standard error
abbrev pub line_of : CommandStop → List ℕ
line_of (Source fault) = sources.shown fault
line_of (Image fault) = codes "image " ++ images.code_of fault
line_of (Refused refusal) = rules.shown refusal
line_of File = codes "file"
line_of Input = codes "input"
line_of Output = codes "output"
line_of (Memory want) = codes "memory"
line_of (NoRoom full) = codes "memory"

abbrev pub whole_line : CommandStop → List ℕ
whole_line stop = line_of stop ++ 10 ∷ []

-- Standard error got the line of a stop: the whole line where it took all, else the first bytes.
abbrev pub Told : CommandStop → Bool → Option (List ℕ) → Option (List ℕ) → Type 0
Told stop true old new = Appends old new (whole_line stop)
Told stop false old new = WroteSome old new (whole_line stop)

-- want of memory is told as such, whichever part met it
abbrev pub stop_of_image : ImageFault → CommandStop
stop_of_image (fault.Memory want) = Memory want
stop_of_image other = Image other

abbrev pub source_stop : Cause → AsmFault → CommandStop
source_stop (causes.Memory want) fault = Memory want
source_stop (causes.Text f) fault = Source fault
source_stop (causes.Syntax f) fault = Source fault
source_stop causes.DuplicateLabel fault = Source fault
source_stop causes.Directive fault = Source fault
source_stop causes.Limit fault = Source fault
source_stop causes.Annotation fault = Source fault

abbrev pub stop_of_source : AsmFault → CommandStop
stop_of_source fault = source_stop fault.cause fault

-- a run reads the input and writes the output
abbrev pub stop_of_run : RunFault → CommandStop
stop_of_run (runs.Memory want) = Memory want
stop_of_run runs.Reader = Input
stop_of_run runs.Writer = Output

-- What is told of a source holds of the bytes of the file. Only the writer of an object may have no room.
abbrev pub IsTrueOfSource : CommandStop → List ℕ → Type 0
IsTrueOfSource (Source fault) bytes = source_image bytes ≡ Err fault
IsTrueOfSource (Image fault) bytes = ⊥
IsTrueOfSource (Refused refusal) bytes = ⊥
IsTrueOfSource File bytes = Unit {0}
IsTrueOfSource Input bytes = Unit {0}
IsTrueOfSource Output bytes = Unit {0}
IsTrueOfSource (Memory want) bytes = Unit {0}
IsTrueOfSource (NoRoom full) bytes = Unit {0}

-- what is told of an image and of the rules holds of the bytes of the file
abbrev pub IsTrueOf : CommandStop → List ℕ → Type 0
IsTrueOf (Source fault) bytes = ⊥
IsTrueOf (Image fault) bytes = reading bytes ≡ Err fault
IsTrueOf (Refused refusal) bytes = (parts : Parts) × (reading bytes ≡ Ok parts) × IsFirst parts refusal
IsTrueOf File bytes = Unit {0}
IsTrueOf Input bytes = Unit {0}
IsTrueOf Output bytes = Unit {0}
IsTrueOf (Memory want) bytes = Unit {0}
IsTrueOf (NoRoom full) bytes = ⊥

-- the same where no rule is looked at
abbrev pub IsTrueOfImage : CommandStop → List ℕ → Type 0
IsTrueOfImage (Source fault) bytes = ⊥
IsTrueOfImage (Image fault) bytes = reading bytes ≡ Err fault
IsTrueOfImage (Refused refusal) bytes = ⊥
IsTrueOfImage File bytes = Unit {0}
IsTrueOfImage Input bytes = Unit {0}
IsTrueOfImage Output bytes = Unit {0}
IsTrueOfImage (Memory want) bytes = Unit {0}
IsTrueOfImage (NoRoom full) bytes = ⊥
