-- What a run over a reader and a writer gives, and what it leaves where it stops.
use Rattle.std.proofs.Common.{◌≡◌, ℕ, suc, Bool, true, false, List, [], ◌∷◌, ◌++◌, Option, Some, None, IfSome, Result, Ok, Err, IfOk, IfErr, refl, sym, ◌∙◌, subst, append-nil, rules}
use Rattle.std.specs.Io.KnownBytes.{Consumes, Keeps}
use Rattle.std.proofs.KnownBytes.{Appends-nil, Consumes-nil}
use Rattle.sbx_image.specs.Parts.{Parts}
use Rattle.sbx_image.specs.Reading.{reading}
use Rattle.sbx_flat.specs.Runs.{AreBytes, Behaves}
use Rattle.sbx_port.specs.Following.{beyond}
use Rattle.sbx_port.specs.Streams.{Streamed}
use Rattle.sbx_port.proofs.Tracked.{no_bytes}
use Rattle.sbx_rules.specs.Verdicts.{Checked}
use Rattle.sbx_stream.specs.Finished.{Finished}
use Rattle.sbx_stream.specs.RunFault.{RunFault}
use Rattle.sbx_stream.specs.RunFault.TheVariants as runs
use Rattle.sbx_stream.specs.Streams.{IsAnswerWritten, IsFront, IsStreamed}
use Rattle.cmd_command.specs.Laws.{KnownInputsAreAnswered}
use Rattle.cmd_stops.specs.declared.stops.CommandStop.{CommandStop}
use Rattle.cmd_stops.specs.declared.stops.CommandStop.TheVariants.{Source, Image, Refused, File, Input, Output, Memory, NoRoom}
use Rattle.cmd_stops.specs.Stops.{IsEarly, stop_of_run}
use Rattle.cmd_command.specs.Streaming.{HasFront, HasNothing, Leaves, LeavesOn, Left, OfAccepted, RanOn, RunGives, status_of_word}
use Rattle.sbx_put.proofs.Written.{kept_after}

-- a run on as many windows as another number says
pub run_at : (n windows : ℕ) (parts : Parts) (a b c d : Option (List ℕ)) (result : Result Finished RunFault) → windows ≡ n
    → IfOk result (λ finished. Streamed a b c d (IsStreamed parts n finished)) → IfErr result (λ fault. Streamed a b c d (IsFront parts fault))
    → RunGives windows parts a b c d result
run_at n windows parts a b c d (Ok finished) same whole part = subst (λ (w : ℕ). Streamed a b c d (IsStreamed parts w finished)) (sym same) whole
run_at n windows parts a b c d (Err fault) same whole part = part

none_beyond : (met : Bool) → AreBytes (beyond met [])
none_beyond true = no_bytes
none_beyond false = no_bytes

-- ---- at the end

-- a flush keeps what was written
pub flushed : (a b c d e : Option (List ℕ)) (P : List ℕ → Bool → List ℕ → Type 0) → Streamed a b c d P → Keeps d e → Streamed a b c e P
flushed a b c d e P (read, met, written, so, bytes, got, all, put) kept = (read, met, written, so, bytes, got, all, kept_after c d e written put kept)

pub ended : (windows : ℕ) (parts : Parts) (a b c d e : Option (List ℕ)) (finished : Finished) (status : ℕ) → RunGives windows parts a b c d (Ok finished) → Keeps d e
    → status ≡ status_of_word finished.status → RanOn windows parts a b c e status
ended windows parts a b c d e finished status gave kept is = (finished, flushed a b c d e (IsStreamed parts windows finished) gave kept, is)

-- what was written whole is a front
pub whole_front : (windows : ℕ) (parts : Parts) (a b c d e : Option (List ℕ)) (finished : Finished) → RunGives windows parts a b c d (Ok finished) → Keeps d e
    → Streamed a b c e (LeavesOn parts Output)
whole_front windows parts a b c d e finished (read, met, written, so, bytes, got, all, put) kept = (
  read,
  met,
  written,
  (λ j more.
      let answer = so j more in
      ([], finished.status, answer.flat.path, subst (λ (w : List ℕ). Behaves parts (read ++ beyond met j) w finished.status answer.flat.path) (sym (append-nil written)) answer.flat.behaves)),
  bytes,
  got,
  all,
  kept_after c d e written put kept,
)

-- ---- at a fault

fault_leaves : (parts : Parts) (fault : RunFault) (read : List ℕ) (met : Bool) (written : List ℕ) → IsFront parts fault read met written
    → LeavesOn parts (stop_of_run fault) read met written
fault_leaves parts runs.Reader read met written front =
    let (rest, status, path, behaves, says) = front [] (none_beyond met) in
    (says, λ j more. let f = front j more in (f.0, f.1, f.2, f.3))
fault_leaves parts runs.Writer read met written front = λ j more. let f = front j more in (f.0, f.1, f.2, f.3)
fault_leaves parts (runs.Memory want) read met written front =
    let (rest, status, path, behaves, says) = front [] (none_beyond met) in
    says

pub faulted : (windows : ℕ) (parts : Parts) (a b c d : Option (List ℕ)) (fault : RunFault) (stop : CommandStop) → RunGives windows parts a b c d (Err fault)
    → stop ≡ stop_of_run fault → Streamed a b c d (LeavesOn parts stop)
faulted windows parts a b c d fault stop (read, met, written, so, bytes, got, all, put) is =
    subst (λ (s : CommandStop). Streamed a b c d (LeavesOn parts s)) (sym is) (read, met, written, fault_leaves parts fault read met written so, bytes, got, all, put)

-- ---- of the file

of_accepted : (P : Parts → Type 0) (file : Option (List ℕ)) (parts : Parts) → IfSome file (λ bytes. (reading bytes ≡ Ok parts) × Checked parts) → P parts → OfAccepted P file
of_accepted P None parts read so = tt
of_accepted P (Some bytes) parts read so = (parts, read.0, read.1, so)

leaves_of : (file : Option (List ℕ)) (parts : Parts) (stop : CommandStop) (read : List ℕ) (met : Bool) (written : List ℕ) → IfSome file (λ bytes. (reading bytes ≡ Ok parts) × Checked parts)
    → LeavesOn parts stop read met written → Leaves file stop read met written
leaves_of file parts Input read met written accepted so = of_accepted (λ parts. (met ≡ false) × HasFront parts read met written) file parts accepted so
leaves_of file parts Output read met written accepted so = of_accepted (λ parts. HasFront parts read met written) file parts accepted so
leaves_of file parts (Memory want) read met written accepted so = so
leaves_of file parts (Source fault) read met written accepted so = absurd so
leaves_of file parts (Image fault) read met written accepted so = absurd so
leaves_of file parts (Refused refusal) read met written accepted so = absurd so
leaves_of file parts File read met written accepted so = absurd so
leaves_of file parts (NoRoom full) read met written accepted so = absurd so

pub left_of : (file a b c d : Option (List ℕ)) (parts : Parts) (stop : CommandStop) → IfSome file (λ bytes. (reading bytes ≡ Ok parts) × Checked parts)
    → Streamed a b c d (LeavesOn parts stop) → Left file a b c d stop
left_of file a b c d parts stop accepted (read, met, written, so, bytes, got, all, put) =
    (read, met, written, leaves_of file parts stop read met written accepted so, bytes, got, all, put)

-- ---- before a run

nothing : HasNothing [] false []
nothing = (refl, refl, refl)

early_leaves : (file : Option (List ℕ)) (stop : CommandStop) → IsEarly stop → Leaves file stop [] false []
early_leaves file Input early = absurd early
early_leaves file Output early = absurd early
early_leaves file (Memory want) early = nothing
early_leaves file (NoRoom full) early = absurd early
early_leaves file (Source fault) early = nothing
early_leaves file (Image fault) early = nothing
early_leaves file (Refused refusal) early = nothing
early_leaves file File early = nothing

pub early_left : (file reader writer : Option (List ℕ)) (stop : CommandStop) → IsEarly stop → Left file reader reader writer writer stop
early_left file reader writer stop early =
    ([], false, [], early_leaves file stop early, no_bytes, Consumes-nil reader, (λ yes. search rules), Appends-nil writer)

-- ---- inputs that are known whole

bytes_behind : (xs ys : List ℕ) → AreBytes (xs ++ ys) → AreBytes ys
bytes_behind [] ys p i = p i
bytes_behind (x ∷ xs) ys p i = bytes_behind xs ys (λ k. p (suc k)) i

answer_of_whole : (windows : ℕ) (parts : Parts) (finished : Finished) (input read written : List ℕ) (met : Bool) (now : Option (List ℕ))
    → IsStreamed parts windows finished read met written → AreBytes input → Consumes (Some input) now read → (met ≡ true → input ≡ read)
    → IsAnswerWritten parts windows input finished written
answer_of_whole windows parts finished input read written met None so fit got all = absurd got
answer_of_whole windows parts finished input read written true (Some rest) so fit got all =
    subst (λ (i : List ℕ). IsAnswerWritten parts windows i finished written) (append-nil read ∙ sym (all refl)) (so [] no_bytes)
answer_of_whole windows parts finished input read written false (Some rest) so fit got all =
    subst (λ (i : List ℕ). IsAnswerWritten parts windows i finished written) (sym got) (so rest (bytes_behind read rest (subst AreBytes got fit)))

pub known_inputs_are_answered : KnownInputsAreAnswered
known_inputs_are_answered windows bytes input now old new status fit (parts, is, (finished, (read, met, written, so, small, got, all, put), told)) =
    (parts, finished, written, is, answer_of_whole windows parts finished input read written met now so fit got all, put, told)
