use Rattle.std.proofs.Common.{refl}
use Rattle.std.proofs.lemmas.Result.{IfOk-weaker}
use Rattle.native_lang.specs.declared.stmt.NumberWidth.TheVariants.{Byte, Half, Word as OneWord}
use Rattle.v8_meaning.specs.declared.operation.Loading.TheVariants.{UnsignedByte, UnsignedHalf, Word}
use Rattle.native_words.proofs.Loading.{loading_as, plain_load}
use Rattle.native_words.proofs.accesses.loads.Goals as goal

pub returns-in-UnsignedByte : goal.returns-in-UnsignedByte
returns-in-UnsignedByte c = IfOk-weaker c.load.result _ _ (λ _ list.
    loading_as c.args.loading UnsignedByte c.args.rd c.args.address c.args.statements.now.list.items c.load.new.statements.list.items c.in-UnsignedByte.is
    (plain_load UnsignedByte c.args.rd c.args.address Byte c.load.ensures.low refl (λ n. refl) c.args.statements.now.list.items c.load.new.statements.list.items list)) c.load.ensures.list

pub returns-in-UnsignedHalf : goal.returns-in-UnsignedHalf
returns-in-UnsignedHalf c = IfOk-weaker c.load-in-UnsignedHalf.result _ _ (λ _ list.
    loading_as c.args.loading UnsignedHalf c.args.rd c.args.address c.args.statements.now.list.items c.load-in-UnsignedHalf.new.statements.list.items c.in-UnsignedHalf.is
    (plain_load UnsignedHalf c.args.rd c.args.address Half c.load-in-UnsignedHalf.ensures.low refl (λ n. refl) c.args.statements.now.list.items c.load-in-UnsignedHalf.new.statements.list.items list)) c.load-in-UnsignedHalf.ensures.list

pub returns-in-Word : goal.returns-in-Word
returns-in-Word c = IfOk-weaker c.load-in-Word.result _ _ (λ _ list.
    loading_as c.args.loading Word c.args.rd c.args.address c.args.statements.now.list.items c.load-in-Word.new.statements.list.items c.in-Word.is
    (plain_load Word c.args.rd c.args.address OneWord c.load-in-Word.ensures.low refl (λ n. refl) c.args.statements.now.list.items c.load-in-Word.new.statements.list.items list)) c.load-in-Word.ensures.list
