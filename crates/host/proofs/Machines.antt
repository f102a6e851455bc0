-- A run over a reader and a writer on the machine that the words name.
use Rattle.std.proofs.Common.{◌≡◌, ℕ, Bool, true, false, List, Option, Result, Ok, Err, IfOk, IfErr, subst}
use Rattle.sbx_image.specs.Parts.{Parts}
use Rattle.sbx_port.specs.Streams.{Streamed}
use Rattle.sbx_stream.specs.Finished.{Finished}
use Rattle.sbx_stream.specs.RunFault.{RunFault}
use Rattle.cmd_command.specs.Streaming.{RunGives}
use Rattle.engine_stream.specs.Flows.{IsCutOff, IsFlowed}
use Rattle.engine_stream.specs.declared.flow.FlatEnded.{FlatEnded}
use Rattle.host.specs.Runs.{EngineGives, RunsSo, told_of, told_of_flow}
use Rattle.host.specs.declared.running.EndCounts.{EndCounts}

pub flow_at : (n windows : ℕ) (parts : Parts) (a b c d : Option (List ℕ)) (result : Result FlatEnded RunFault) → n ≡ windows
    → IfOk result (λ flowed. Streamed a b c d (IsFlowed parts n flowed)) → IfErr result (λ fault. Streamed a b c d (IsCutOff parts fault))
    → EngineGives windows parts a b c d result
flow_at n windows parts a b c d (Ok flowed) same whole part = subst (λ (w : ℕ). Streamed a b c d (IsFlowed parts w flowed)) same whole
flow_at n windows parts a b c d (Err fault) same whole part = part

pub engine_told : (engine : Bool) (windows : ℕ) (parts : Parts) (a b c d : Option (List ℕ)) (flowed : FlatEnded) (told : EndCounts)
    → engine ≡ true → told ≡ told_of_flow flowed → EngineGives windows parts a b c d (Ok flowed) → RunsSo engine windows parts a b c d (Ok told)
engine_told true windows parts a b c d flowed told is same gives = (flowed, same, gives)
engine_told false windows parts a b c d flowed told is same gives = absurd (cc)

pub engine_failed : (engine : Bool) (windows : ℕ) (parts : Parts) (a b c d : Option (List ℕ)) (fault : RunFault)
    → engine ≡ true → EngineGives windows parts a b c d (Err fault) → RunsSo engine windows parts a b c d (Err fault)
engine_failed true windows parts a b c d fault is gives = gives
engine_failed false windows parts a b c d fault is gives = absurd (cc)

pub board_told : (engine : Bool) (windows : ℕ) (parts : Parts) (a b c d : Option (List ℕ)) (finished : Finished) (told : EndCounts)
    → engine ≡ false → told ≡ told_of finished → RunGives windows parts a b c d (Ok finished) → RunsSo engine windows parts a b c d (Ok told)
board_told false windows parts a b c d finished told is same gives = (finished, same, gives)
board_told true windows parts a b c d finished told is same gives = absurd (cc)

pub board_failed : (engine : Bool) (windows : ℕ) (parts : Parts) (a b c d : Option (List ℕ)) (fault : RunFault)
    → engine ≡ false → RunGives windows parts a b c d (Err fault) → RunsSo engine windows parts a b c d (Err fault)
board_failed false windows parts a b c d fault is gives = gives
board_failed true windows parts a b c d fault is gives = absurd (cc)
