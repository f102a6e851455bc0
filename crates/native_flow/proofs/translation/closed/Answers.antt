use Rattle.std.proofs.Common.{subst}
use Rattle.std.proofs.lemmas.Result.{IfOk-weaker}
use Rattle.native_ends.specs.Translations.{AsksFor}
use Rattle.native_flow.specs.Labelling.{labels_of}
use Rattle.native_flow.proofs.Growing.{exits, plain_from}
use Rattle.native_flow.proofs.translation.closed.Goals as goal

pub returns-in-TrapOnCondition-clause-block : goal.returns-in-TrapOnCondition-clause-block
returns-in-TrapOnCondition-clause-block c = IfOk-weaker c.exit.result _ _ (λ block h. λ start some closing asks slot lies stands.
    plain_from c.args.image.now c.args.labels.now.starts.items c.args.edges.now.items c.args.function start block
    (h c.args.image.now (labels_of c.args.labels.now.starts.items) c.args.function start some c.args.place.now.address c.in-TrapOnCondition.field-0
    (subst (AsksFor c.args.image.now c.args.place.now.address) c.in-TrapOnCondition.is asks) (exits c.args.operation.now c.in-TrapOnCondition.field-0 c.in-TrapOnCondition.is closing) stands)) c.exit.ensures
