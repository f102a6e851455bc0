use Rattle.engine_stream.proofs.Flowing.{off_writer, on_put, onward}
use Rattle.engine_stream.proofs.flow.put.Goals as goal

pub returns-in-Ok : goal.returns-in-Ok
returns-in-Ok g c = λ input. (
  on_put c.args.course.now c.give_byte-byte.new.self (g.W.Write.contents c.args.writer.now)
      (g.W.Write.contents c.write_byte.new.writer) c.give_byte-byte.result c.in-Ok.ensures.written c.give_byte-byte.ensures.goes c.args.met input,
  onward c.args.course.now c.give_byte-byte.new.self c.args.after c.requires c.give_byte-byte.ensures.counts,
)

pub returns-in-Err : goal.returns-in-Err
returns-in-Err g c =
    off_writer c.in-Err.fault c.args.course.now c.give_byte-byte.new.self (g.W.Write.contents c.args.writer.now)
    (g.W.Write.contents c.write_byte.new.writer) c.give_byte-byte.result c.in-Err.ensures.fault c.in-Err.ensures.nothing
    c.give_byte-byte.ensures.goes c.args.met
