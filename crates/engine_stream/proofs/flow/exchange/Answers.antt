use Rattle.engine_stream.proofs.Flowing.{off_memory}
use Rattle.engine_stream.proofs.flow.exchange.Goals as goal

pub returns-in-Byte : goal.returns-in-Byte
returns-in-Byte g c = c.get.ensures (g.W.Write.contents c.args.writer.now)

pub returns-in-Room : goal.returns-in-Room
returns-in-Room g c = c.put.ensures (g.R.Read.remaining c.args.reader.now)

pub returns-in-Refused : goal.returns-in-Refused
returns-in-Refused g c = off_memory c.in-Refused.want c.args.met c.args.course.now c.args.course.now (g.R.Read.remaining c.args.reader.now) (g.W.Write.contents c.args.writer.now)
