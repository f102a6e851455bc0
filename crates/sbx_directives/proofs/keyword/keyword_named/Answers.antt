use Rattle.sbx_directives.proofs.Dots.{no_dot}
use Rattle.sbx_directives.proofs.keyword.keyword_named.Goals as goal

pub returns-then-sign_byte-ne46 : goal.returns-then-sign_byte-ne46
returns-then-sign_byte-ne46 c = no_dot c.args.name.now c.sign_byte.result c.sign_byte.ensures c.if-sign_byte-ne46.true
