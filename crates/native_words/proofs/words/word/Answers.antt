use Rattle.native_words.proofs.Others.{others_made}
use Rattle.native_words.proofs.words.word.Goals as goal

pub returns-in_default : goal.returns-in_default
returns-in_default c =
    let h = c.in_default in
    others_made c.args.operation.now c.args.statements.now.list.items h.not-Compute h.not-Divide h.not-TaggedTrap h.not-SetHigh h.not-ReadY h.not-WriteY
    h.not-Transfer h.not-Save h.not-Restore
