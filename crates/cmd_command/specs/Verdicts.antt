-- What an exit status says of the bytes of the file that a job reads.
use Rattle.std.specs.Prelude.{◌≡◌, ◌⊎◌, ℕ, List, [], Result, Ok, Err, Option, IfSome, codes}
use Rattle.std.specs.Io.KnownBytes.{Appends}
use Rattle.sbx_stream.specs.Outcome.{Outcome}
use Rattle.sbx_stream.specs.RunFault.{RunFault}
use Rattle.sbx_put.specs.Fronts.{Wrote}
use Rattle.sbx_stream.specs.Traces.{BeginsTrace, IsTrace, Leaves}
use Rattle.sbx_image.specs.Parts.{Parts}
use Rattle.sbx_image.specs.Reading.{reading}
use Rattle.cmd_jobs.specs.declared.jobs.Job.{Job}
use Rattle.cmd_jobs.specs.declared.jobs.Job.TheVariants.{Asm, Verify, Run, List as Listing, Trace}
use Rattle.cmd_stops.specs.declared.stops.CommandStop.{CommandStop}
use Rattle.cmd_stops.specs.declared.stops.CommandStop.TheVariants.{Source, Image, Refused, File, Input, Output, Memory}
use Rattle.cmd_stops.specs.declared.stops.CommandStop.TheVariants.{NoRoom}
use Rattle.cmd_filing.specs.Files.{Assembled, BeginsListing, BeginsObject, BeginsVerdict, FrontLeft, IsAccepted}
use Rattle.cmd_filing.specs.Files.{IsImage, IsSource, Listed}
use Rattle.cmd_command.specs.Streaming.{Left, Ran}
use Rattle.cmd_stops.specs.Stops.{IsOfFile, IsOfOutput, IsRefusal, IsTrueOf, IsTrueOfImage, IsTrueOfSource, status_of}

-- what a job needs to be done
abbrev pub Deserves : Job → List ℕ → Type 0
Deserves (Asm source object) bytes = IsSource bytes
Deserves (Verify image) bytes = IsAccepted bytes
Deserves (Run image windows) bytes = IsAccepted bytes
Deserves (Listing image) bytes = IsImage bytes
Deserves (Trace image windows limit) bytes = IsImage bytes

-- what a stop tells of the bytes that a job reads
abbrev pub IsTold : Job → CommandStop → List ℕ → Type 0
IsTold (Asm source object) stop bytes = IsTrueOfSource stop bytes
IsTold (Verify image) stop bytes = IsTrueOf stop bytes
IsTold (Run image windows) stop bytes = IsTrueOf stop bytes
IsTold (Listing image) stop bytes = IsTrueOfImage stop bytes
IsTold (Trace image windows limit) stop bytes = IsTrueOfImage stop bytes

-- The output grew by the trace of an image on an input, on so many windows, up to a limit.
abbrev pub WroteTrace : ℕ → Parts → List ℕ → ℕ → Option (List ℕ) → Option (List ℕ) → Type 0
WroteTrace windows parts input limit old new =
    (outcome : Outcome) × Wrote old new (λ text. IsTrace windows parts input limit text outcome)

-- What a trace gives on so many windows: all of it, or at a fault its first bytes.
abbrev pub TraceGives : ℕ → Parts → List ℕ → ℕ → Option (List ℕ) → Option (List ℕ) → Result Outcome RunFault → Type 0
TraceGives windows parts input limit old new (Ok outcome) =
    Wrote old new (λ text. IsTrace windows parts input limit text outcome)
TraceGives windows parts input limit old new (Err fault) = Wrote old new (Leaves windows parts input limit fault)

-- these are the first bytes of the trace of the image of the bytes
abbrev pub BeginsTraceOf : ℕ → ℕ → List ℕ → List ℕ → List ℕ → Type 0
BeginsTraceOf windows limit bytes input written = (parts : Parts) × (reading bytes ≡ Ok parts)
    × BeginsTrace windows parts input limit written

-- What a stop of a trace leaves. Before the run nothing was put out; the input is told of an image alone; in the run
-- the first bytes of the trace were put out.
abbrev pub TraceLeaves : ℕ → ℕ → List ℕ → List ℕ → CommandStop → List ℕ → Type 0
TraceLeaves windows limit bytes input Input written = IsImage bytes × (written ≡ [])
TraceLeaves windows limit bytes input Output written = BeginsTraceOf windows limit bytes input written
TraceLeaves windows limit bytes input (Memory want) written =
    (written ≡ []) ⊎ BeginsTraceOf windows limit bytes input written
TraceLeaves windows limit bytes input (Source fault) written = written ≡ []
TraceLeaves windows limit bytes input (Image fault) written = written ≡ []
TraceLeaves windows limit bytes input (Refused refusal) written = written ≡ []
TraceLeaves windows limit bytes input File written = written ≡ []
TraceLeaves windows limit bytes input (NoRoom full) written = ⊥

-- the same where the bytes of the file and of the input are known
abbrev pub TraceLeft : ℕ → ℕ → Option (List ℕ) → Option (List ℕ) → Option (List ℕ) → Option (List ℕ) → CommandStop →
    Type 0
TraceLeft windows limit file input old new stop =
    IfSome file (λ bytes. IfSome input (λ all. Wrote old new (TraceLeaves windows limit bytes all stop)))

-- It is the trace of the image of the bytes.
abbrev pub TracedOn : ℕ → ℕ → List ℕ → List ℕ → Option (List ℕ) → Option (List ℕ) → Type 0
TracedOn windows limit bytes input old new =
    (parts : Parts) × (reading bytes ≡ Ok parts) × WroteTrace windows parts input limit old new

-- the same where the bytes of the file and of the input are known
abbrev pub Traced : ℕ → ℕ → Option (List ℕ) → Option (List ℕ) → Option (List ℕ) → Option (List ℕ) → Type 0
Traced windows limit file input old new =
    IfSome file (λ bytes. IfSome input (λ all. TracedOn windows limit bytes all old new))

-- it is so of each file whose bytes spell an image, where they are known
abbrev pub OfSpelled : Parts → (Option (List ℕ) → Type 0) → Type 0
OfSpelled parts P = (file : Option (List ℕ)) → IfSome file (λ bytes. reading bytes ≡ Ok parts) → P file

-- what a job that is done has read and put out
abbrev pub Gave : Job → Option (List ℕ) → Option (List ℕ) → Option (List ℕ) → Option (List ℕ) → Option (List ℕ) → ℕ →
    Type 0
Gave (Asm source object) file input input_now old new status = Assembled file old new × (status ≡ 0)
Gave (Verify image) file input input_now old new status = Appends old new (codes "accepted\n") × (status ≡ 0)
Gave (Run image windows) file input input_now old new status = Ran windows file input input_now old new status
Gave (Listing image) file input input_now old new status = Listed file old new × (status ≡ 0)
Gave (Trace image windows limit) file input input_now old new status = Traced windows limit file input old new
    × (status ≡ 0)

-- what a stop of a job leaves
abbrev pub LeftBy : Job → Option (List ℕ) → Option (List ℕ) → Option (List ℕ) → Option (List ℕ) → Option (List ℕ) →
    CommandStop → Type 0
LeftBy (Asm source object) file input input_now old new stop = FrontLeft BeginsObject file old new stop
LeftBy (Verify image) file input input_now old new stop = FrontLeft BeginsVerdict file old new stop
LeftBy (Run image windows) file input input_now old new stop = Left file input input_now old new stop
LeftBy (Listing image) file input input_now old new stop = FrontLeft BeginsListing file old new stop
LeftBy (Trace image windows limit) file input input_now old new stop = TraceLeft windows limit file input old new stop

-- The stops of a job that come before it takes any input or puts anything out. A run and a trace take both while they
-- go on; the other jobs take no input, and put out what is whole.
abbrev pub IsBefore : Job → CommandStop → Type 0
IsBefore (Asm source object) stop = IsOfOutput stop → ⊥
IsBefore (Verify image) stop = IsOfOutput stop → ⊥
IsBefore (Run image windows) stop = IsOfFile stop
IsBefore (Listing image) stop = IsOfOutput stop → ⊥
IsBefore (Trace image windows limit) stop = IsOfFile stop

-- A status is that of a stop, which tells what is so of the bytes of the file, and leaves what such a stop leaves.
-- Where it refuses the bytes, they don't deserve the job; what a stop before all input and output leaves as it was is
-- as it was.
abbrev pub StopsFor : Job → Option (List ℕ) → Type 0 → (CommandStop → Type 0) → ℕ → Type 0
StopsFor job file Untouched LeftAt status =
    (stop : CommandStop) × (status ≡ status_of stop) × IfSome file (IsTold job stop)
    × (IsRefusal stop → IfSome file (λ bytes. Deserves job bytes → ⊥)) × (IsBefore job stop → Untouched) × LeftAt stop

-- ---- the same in closed words, which a proof opens by `unfolding`

-- what a job that is done has read and put out, and that its status is the one that it deserves: of a run that of its
-- exit word
unfoldable pub HasGiven : Job → Option (List ℕ) → Option (List ℕ) → Option (List ℕ) → Option (List ℕ) →
    Option (List ℕ) → ℕ → Type 0
HasGiven job file input input_now old new status = Gave job file input input_now old new status

-- whose status it is where a job stops, and what that stop leaves
unfoldable pub HasStopped : Job → Option (List ℕ) → Option (List ℕ) → Option (List ℕ) → Option (List ℕ) →
    Option (List ℕ) → Type 0 → ℕ → Type 0
HasStopped job file input input_now old new Untouched status =
    StopsFor job file Untouched (LeftBy job file input input_now old new) status
