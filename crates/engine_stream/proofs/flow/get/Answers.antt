use Rattle.std.proofs.Common.{ℕ, Option, subst}
use Rattle.engine_stream.specs.Flows.{IsRead}
use Rattle.engine_stream.proofs.Flowing.{off_reader, on_byte, on_end, on_end_again, onward}
use Rattle.engine_stream.proofs.flow.get.Goals as goal

pub returns-then-met : goal.returns-then-met
returns-then-met g c = λ out. (
  on_end_again c.args.met c.args.course.now c.take_end.new.self (g.R.Read.remaining c.args.reader.now) c.if-met.true c.take_end.ensures.goes out,
  onward c.args.course.now c.take_end.new.self c.args.after c.requires c.take_end.ensures.counts,
)

pub returns-in-Ok-Some : goal.returns-in-Ok-Some
returns-in-Ok-Some g c = λ out.
    let before = g.R.Read.remaining c.args.reader.now in
    let now = g.R.Read.remaining c.read_byte.new.reader in (
      on_byte c.args.met c.args.course.now c.take_byte.new.self before now c.in-Ok-Some.byte c.if-met.false c.tells_byte.ensures
          (subst (λ (o : Option ℕ). IsRead before now o) c.in-Ok-Some.field-0-is c.in-Ok-Some.ensures.read) c.take_byte.ensures.goes out,
      onward c.args.course.now c.take_byte.new.self c.args.after c.requires c.take_byte.ensures.counts,
    )

pub returns-in-Ok-None : goal.returns-in-Ok-None
returns-in-Ok-None g c = λ out.
    let before = g.R.Read.remaining c.args.reader.now in
    let now = g.R.Read.remaining c.read_byte.new.reader in
    let read = subst (λ (o : Option ℕ). IsRead before now o) c.in-Ok-None.field-0-is c.in-Ok-None.ensures.read in (
      on_end c.args.met c.args.course.now c.take_end-in-Ok-None.new.self before now c.if-met.false read.0 read.1 c.take_end-in-Ok-None.ensures.goes out,
      onward c.args.course.now c.take_end-in-Ok-None.new.self c.args.after c.requires c.take_end-in-Ok-None.ensures.counts,
    )

pub returns-in-Err : goal.returns-in-Err
returns-in-Err g c =
    off_reader c.in-Err.fault c.args.met c.args.course.now c.args.course.now (g.R.Read.remaining c.args.reader.now)
    (g.R.Read.remaining c.read_byte.new.reader) c.in-Err.ensures.fault c.if-met.false c.in-Err.ensures.nothing
