-- A run over a reader and a writer on as many windows as a number says.
use Rattle.std.proofs.Common.{◌≡◌, ℕ, List, Option, Result, Ok, Err, IfOk, IfErr, sym, subst}
use Rattle.sbx_image.specs.Parts.{Parts}
use Rattle.sbx_port.specs.Streams.{Streamed}
use Rattle.sbx_stream.specs.Finished.{Finished}
use Rattle.sbx_stream.specs.RunFault.{RunFault}
use Rattle.sbx_stream.specs.Streams.{IsFront, IsStreamed}
use Rattle.cmd_command.specs.Streaming.{RunGives}

pub run_at : (n windows : ℕ) (parts : Parts) (a b c d : Option (List ℕ)) (result : Result Finished RunFault) → windows ≡ n
    → IfOk result (λ finished. Streamed a b c d (IsStreamed parts n finished)) → IfErr result (λ fault. Streamed a b c d (IsFront parts fault))
    → RunGives windows parts a b c d result
run_at n windows parts a b c d (Ok finished) same whole part = subst (λ (w : ℕ). Streamed a b c d (IsStreamed parts w finished)) (sym same) whole
run_at n windows parts a b c d (Err fault) same whole part = part
