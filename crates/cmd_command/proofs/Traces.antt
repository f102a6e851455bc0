-- What a trace gives, and what it leaves where it stops.
use Rattle.std.proofs.Common.{◌≡◌, ◌⊎◌, ◌∙◌, inl, inr, refl, subst, sym, ℕ, List, [], Option, None, Some, IfSome, Result, Ok, Err, IfOk, IfErr, OnOk}
use Rattle.std.proofs.KnownBytes.{Appends-nil}
use Rattle.want.specs.Wants.{refused}
use Rattle.sbx_image.specs.Parts.{Parts}
use Rattle.sbx_image.specs.Reading.{reading}
use Rattle.sbx_stream.specs.Outcome.{Outcome}
use Rattle.sbx_stream.specs.RunFault.{RunFault}
use Rattle.sbx_stream.specs.RunFault.TheVariants as runs
use Rattle.sbx_put.specs.Fronts.{Wrote}
use Rattle.sbx_stream.specs.Traces.{IsTrace, Leaves}
use Rattle.cmd_stops.specs.declared.stops.CommandStop.{CommandStop}
use Rattle.cmd_stops.specs.declared.stops.CommandStop.TheVariants.{Source, Image, Refused, File, Input, Output, Memory, NoRoom}
use Rattle.cmd_stops.specs.Stops.{IsEarly, IsOfFile, IsOfTrace, IsTrueOfImage, stop_of_run}
use Rattle.cmd_filing.specs.Files.{IsImage}
use Rattle.cmd_command.specs.Verdicts.{OfSpelled, TraceGives, TraceLeaves, TraceLeft, Traced}

-- a trace on as many windows as another number says
pub trace_at : (n windows : ℕ) (parts : Parts) (input : List ℕ) (limit : ℕ) (old new : Option (List ℕ)) (result : Result Outcome RunFault) → windows ≡ n
    → IfOk result (λ outcome. Wrote old new (λ text. IsTrace n parts input limit text outcome)) → IfErr result (λ fault. Wrote old new (Leaves n parts input limit fault))
    → TraceGives windows parts input limit old new result
trace_at n windows parts input limit old new (Ok outcome) same whole part =
    subst (λ (w : ℕ). Wrote old new (λ text. IsTrace w parts input limit text outcome)) (sym same) whole
trace_at n windows parts input limit old new (Err fault) same whole part = subst (λ (w : ℕ). Wrote old new (Leaves w parts input limit fault)) (sym same) part

-- a trace of the known bytes of a file on the known bytes of an input
pub traced_on : (windows limit : ℕ) (file input old new : Option (List ℕ)) (parts : Parts) (taken : List ℕ) (outcome : Outcome)
    → IfSome file (λ bytes. reading bytes ≡ Ok parts) → IfSome input (λ all. taken ≡ all)
    → TraceGives windows parts taken limit old new (Ok outcome) → Traced windows limit file input old new
traced_on windows limit None input old new parts taken outcome read same wrote = tt
traced_on windows limit (Some bytes) None old new parts taken outcome read same wrote = tt
traced_on windows limit (Some bytes) (Some all) old new parts taken outcome read same wrote =
    (parts, read, (outcome, subst (λ (input : List ℕ). Wrote old new (λ text. IsTrace windows parts input limit text outcome)) same wrote))

-- ---- where it stops

early : (windows limit : ℕ) (bytes input : List ℕ) (stop : CommandStop) → IsEarly stop → TraceLeaves windows limit bytes input stop []
early windows limit bytes input (Source fault) is = refl
early windows limit bytes input (Image fault) is = refl
early windows limit bytes input (Refused refusal) is = refl
early windows limit bytes input File is = refl
early windows limit bytes input Input is = absurd is
early windows limit bytes input Output is = absurd is
early windows limit bytes input (Memory want) is = inl refl
early windows limit bytes input (NoRoom full) is = absurd is

-- the file stops it: nothing was put out
pub left_before : (windows limit : ℕ) (file input old : Option (List ℕ)) (stop : CommandStop) → IsEarly stop → TraceLeft windows limit file input old old stop
left_before windows limit None input old stop is = tt
left_before windows limit (Some bytes) None old stop is = tt
left_before windows limit (Some bytes) (Some all) old stop is = ([], early windows limit bytes all stop is, Appends-nil old)

-- the input of an image stops it: nothing was put out
pub left_by_input : (windows limit : ℕ) (file input old : Option (List ℕ)) (parts : Parts) (stop : CommandStop) → IfSome file (λ bytes. reading bytes ≡ Ok parts)
    → (stop ≡ Memory refused) ⊎ (stop ≡ Input) → TraceLeft windows limit file input old old stop
left_by_input windows limit None input old parts stop read is = tt
left_by_input windows limit (Some bytes) None old parts stop read is = tt
left_by_input windows limit (Some bytes) (Some all) old parts stop read (inl is) =
    ([], subst (λ (s : CommandStop). TraceLeaves windows limit bytes all s []) (sym is) (inl refl), Appends-nil old)
left_by_input windows limit (Some bytes) (Some all) old parts stop read (inr is) =
    ([], subst (λ (s : CommandStop). TraceLeaves windows limit bytes all s []) (sym is) ((parts, read), refl), Appends-nil old)

leaves : (windows limit : ℕ) (bytes input : List ℕ) (parts : Parts) (fault : RunFault) (written : List ℕ) → reading bytes ≡ Ok parts
    → Leaves windows parts input limit fault written → TraceLeaves windows limit bytes input (stop_of_run fault) written
leaves windows limit bytes input parts (runs.Memory want) written read (inl none) = inl none
leaves windows limit bytes input parts (runs.Memory want) written read (inr front) = inr (parts, read, front)
leaves windows limit bytes input parts runs.Reader written read so = absurd so
leaves windows limit bytes input parts runs.Writer written read so = (parts, read, so)

-- the run stops it
pub left_in_run : (windows limit : ℕ) (file input old new : Option (List ℕ)) (parts : Parts) (taken : List ℕ) (fault : RunFault) (stop : CommandStop)
    → IfSome file (λ bytes. reading bytes ≡ Ok parts) → IfSome input (λ all. taken ≡ all) → TraceGives windows parts taken limit old new (Err fault)
    → stop ≡ stop_of_run fault → TraceLeft windows limit file input old new stop
left_in_run windows limit None input old new parts taken fault stop read same gave is = tt
left_in_run windows limit (Some bytes) None old new parts taken fault stop read same gave is = tt
left_in_run windows limit (Some bytes) (Some all) old new parts taken fault stop read same (written, so, put) is = (
  written,
  subst (λ (s : CommandStop). TraceLeaves windows limit bytes all s written) (sym is)
      (leaves windows limit bytes all parts fault written read (subst (λ (input : List ℕ). Leaves windows parts input limit fault written) same so)),
  put,
)

-- ---- of an image alone

-- what was taken of an input is all of it, where it is known
pub taken_whole : (input : Option (List ℕ)) (taken items : List ℕ) → taken ≡ items → IfSome input (λ all. items ≡ all) → IfSome input (λ all. taken ≡ all)
taken_whole None taken items same whole = tt
taken_whole (Some all) taken items same whole = same ∙ whole

pub of_input : (stop : CommandStop) → (stop ≡ Memory refused) ⊎ (stop ≡ Input) → IsOfTrace stop
of_input stop (inl is) = subst IsOfTrace (sym is) tt
of_input stop (inr is) = subst IsOfTrace (sym is) tt

pub of_run : (fault : RunFault) (stop : CommandStop) → stop ≡ stop_of_run fault → IsOfTrace stop
of_run (runs.Memory want) stop is = subst IsOfTrace (sym is) tt
of_run runs.Reader stop is = subst IsOfTrace (sym is) tt
of_run runs.Writer stop is = subst IsOfTrace (sym is) tt

-- ---- of the image of a file

pub image_of : (P : Type 0) (file : Option (List ℕ)) (parts : Parts) (result : Result (Unit {0}) CommandStop) → IfSome file (λ bytes. reading bytes ≡ Ok parts)
    → OnOk result P → OnOk result (IfSome file IsImage)
image_of P None parts (Ok u) read done = tt
image_of P (Some bytes) parts (Ok u) read done = (parts, read)
image_of P file parts (Err stop) read done = tt

pub traced_of : (windows limit : ℕ) (file input old new : Option (List ℕ)) (parts : Parts) (result : Result (Unit {0}) CommandStop)
    → IfSome file (λ bytes. reading bytes ≡ Ok parts) → OnOk result (OfSpelled parts (λ known. Traced windows limit known input old new))
    → OnOk result (Traced windows limit file input old new)
traced_of windows limit file input old new parts (Ok u) read traced = traced file read
traced_of windows limit file input old new parts (Err stop) read traced = tt

pub left_of : (windows limit : ℕ) (file input old new : Option (List ℕ)) (parts : Parts) (result : Result (Unit {0}) CommandStop)
    → IfSome file (λ bytes. reading bytes ≡ Ok parts) → IfErr result (λ stop. OfSpelled parts (λ known. TraceLeft windows limit known input old new stop))
    → IfErr result (TraceLeft windows limit file input old new)
left_of windows limit file input old new parts (Ok u) read left = tt
left_of windows limit file input old new parts (Err stop) read left = left file read

true_of_image : (stop : CommandStop) (bytes : List ℕ) → IsOfTrace stop → IsTrueOfImage stop bytes
true_of_image (Source fault) bytes is = absurd is
true_of_image (Image fault) bytes is = absurd is
true_of_image (Refused refusal) bytes is = absurd is
true_of_image File bytes is = absurd is
true_of_image Input bytes is = tt
true_of_image Output bytes is = tt
true_of_image (Memory want) bytes is = tt
true_of_image (NoRoom full) bytes is = absurd is

pub stop_of_trace : (file : Option (List ℕ)) (result : Result (Unit {0}) CommandStop) → IfErr result IsOfTrace → IfErr result (λ stop. IfSome file (IsTrueOfImage stop))
stop_of_trace file (Ok u) is = tt
stop_of_trace None (Err stop) is = tt
stop_of_trace (Some bytes) (Err stop) is = true_of_image stop bytes is

not_of_file : (stop : CommandStop) → IsOfTrace stop → IsOfFile stop → ⊥
not_of_file (Source fault) is of_file = absurd is
not_of_file (Image fault) is of_file = absurd is
not_of_file (Refused refusal) is of_file = absurd is
not_of_file File is of_file = absurd is
not_of_file Input is of_file = of_file
not_of_file Output is of_file = of_file
not_of_file (Memory want) is of_file = of_file
not_of_file (NoRoom full) is of_file = absurd is

pub untouched_by_trace : (P : Type 0) (result : Result (Unit {0}) CommandStop) → IfErr result IsOfTrace → IfErr result (λ stop. IsOfFile stop → P)
untouched_by_trace P (Ok u) is = tt
untouched_by_trace P (Err stop) is = λ of_file. absurd (not_of_file stop is of_file)
