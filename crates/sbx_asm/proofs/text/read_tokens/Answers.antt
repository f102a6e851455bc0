use Rattle.std.proofs.Common.{arith}
use Rattle.std.proofs.lemmas.Grind.{common_steps}
use Rattle.sbx_text.specs.Tokens.{tokens_of}
use Rattle.sbx_asm.proofs.Keeping.{adds_tokens}
use Rattle.sbx_asm.proofs.text.read_tokens.Goals as goal

pub returns-in-Ok : goal.returns-in-Ok
returns-in-Ok c = adds_tokens c.args.tokens.now.items c.push_tokens.new.found.items (tokens_of c.args.line.now) c.saturating_sub.result c.in-Ok.ensures.exact (omega arith)

pub returns-in-Err : goal.returns-in-Err
returns-in-Err c = grind (arith, common_steps)
