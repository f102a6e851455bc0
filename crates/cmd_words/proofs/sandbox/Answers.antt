use Rattle.std.proofs.Common.{[], ◌≡◌}
use Rattle.std.proofs.lemmas.Result.{IfOk-weaker}
use Rattle.std.specs.Prelude.{IfOk}
use Rattle.clap.specs.Words.{App, app_of, with_subcommand}
use Rattle.cmd_words.specs.Lines.{asm_shape, bare_shape, list_shape, run_shape, trace_shape, verify_shape}
use Rattle.cmd_words.proofs.Lines.{grows}
use Rattle.cmd_words.proofs.sandbox.Goals as goal

abbrev bare_app : App
bare_app = record { top = bare_shape; subs = [] }

abbrev with_asm : App
with_asm = with_subcommand bare_app asm_shape

abbrev with_verify : App
with_verify = with_subcommand with_asm verify_shape

abbrev with_run : App
with_run = with_subcommand with_verify run_shape

abbrev with_list : App
with_list = with_subcommand with_run list_shape

pub returns : goal.returns
returns c =
    let none : IfOk c.bare.result (λ made. app_of made ≡ bare_app) = IfOk-weaker c.bare.result _ _ (λ made is. is.0) c.bare.ensures in
    let one : IfOk c.add-assembling.result (λ made. app_of made ≡ with_asm)
    = grows c.bare.result c.asm.result c.add-assembling.result bare_app asm_shape c.add-assembling.ensures none c.asm.ensures in
    let two : IfOk c.add-verifying.result (λ made. app_of made ≡ with_verify)
    = grows c.add-assembling.result c.of_image.result c.add-verifying.result with_asm verify_shape c.add-verifying.ensures one c.of_image.ensures in
    let three : IfOk c.add-running.result (λ made. app_of made ≡ with_run)
    = grows c.add-verifying.result c.run.result c.add-running.result with_verify run_shape c.add-running.ensures two c.run.ensures in
    let four : IfOk c.add-listing.result (λ made. app_of made ≡ with_list)
    = grows c.add-running.result c.of_image-2.result c.add-listing.result with_run list_shape c.add-listing.ensures three c.of_image-2.ensures in
    grows c.add-listing.result c.trace.result c.add.result with_list trace_shape c.add.ensures four c.trace.ensures
