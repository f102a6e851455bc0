use Rattle.std.proofs.Common.{false, [], ap, refl, rules, subst, arith}
use Rattle.engine_stream.specs.Flows.{StopsSo}
use Rattle.engine_stream.specs.declared.flow.RunEnd.{RunEnd}
use Rattle.engine_runs.specs.declared.tally.Tally.{Tally}
use Rattle.engine_stream.proofs.Flowing.{advanced, few_turns, flowed_so, no_beginning, not_lost}
use Rattle.engine_stream.proofs.flow.run_over.Goals as goal

pub returns-in-Err-clause-part : goal.returns-in-Err-clause-part
returns-in-Err-clause-part g c = no_beginning c.args.accepted.now c.from.result (g.R.Read.remaining c.args.reader.now) (g.W.Write.contents c.args.writer.now) c.tells_safe.ensures c.from.ensures

pub exchange-requires-clause-few : goal.exchange-requires-clause-few
exchange-requires-clause-few g c =
    let first = g.R.Read.remaining c.args.reader.now in
    let reader = g.R.Read.remaining c.rounds.reader in
    let written_first = g.W.Write.contents c.args.writer.now in
    let writer = g.W.Write.contents c.rounds.writer in
    few_turns c.args.accepted.now c.args.windows c.rounds.met c.advance-halt.new.self first reader written_first writer
    (advanced c.rounds.met c.rounds.course c.advance-halt.new.self reader writer c.advance-halt.ensures.goes c.args.accepted.now c.args.windows first written_first c.rounds.invariant.goes)

pub exchange-requires-clause-found : goal.exchange-requires-clause-found
exchange-requires-clause-found g c = λ is.
    not_lost c.args.accepted.now c.args.windows c.rounds.met c.rounds.course (g.R.Read.remaining c.args.reader.now) (g.R.Read.remaining c.rounds.reader)
    (g.W.Write.contents c.args.writer.now) (g.W.Write.contents c.rounds.writer)
    c.rounds.invariant.goes (c.advance-halt.ensures.lost is)

pub returns-in-Err-Ended-clause-whole : goal.returns-in-Err-Ended-clause-whole
returns-in-Err-Ended-clause-whole g c =
    let first = g.R.Read.remaining c.args.reader.now in
    let reader = g.R.Read.remaining c.rounds.reader in
    let reader_now = g.R.Read.remaining c.exchange.new.reader in
    let written_first = g.W.Write.contents c.args.writer.now in
    let writer = g.W.Write.contents c.rounds.writer in
    let writer_now = g.W.Write.contents c.exchange.new.writer in
    let went = c.advance-halt.new.self in
    let met = c.rounds.met in
    let stops = subst (λ (s : RunEnd). StopsSo s met went reader writer c.exchange.new.course reader_now writer_now) c.in-Err-Ended.field-0-is c.in-Err-Ended.ensures in
    let so = advanced met c.rounds.course went reader writer c.advance-halt.ensures.goes c.args.accepted.now c.args.windows first written_first c.rounds.invariant.goes in
    flowed_so c.args.accepted.now c.args.windows met first written_first reader_now writer_now c.exchange.new.course
    (record { status = c.in-Err-Ended.status; counts = c.tally.result.traffic }) stops.0
    (ap (λ (t : Tally). t.traffic) c.tally.ensures) (stops.1 c.args.accepted.now c.args.windows first written_first so)

pub returns-in-Err-Fault-clause-part : goal.returns-in-Err-Fault-clause-part
returns-in-Err-Fault-clause-part g c =
    let first = g.R.Read.remaining c.args.reader.now in
    let reader = g.R.Read.remaining c.rounds.reader in
    let written_first = g.W.Write.contents c.args.writer.now in
    let writer = g.W.Write.contents c.rounds.writer in
    let went = c.advance-halt.new.self in
    let met = c.rounds.met in
    let so = advanced met c.rounds.course went reader writer c.advance-halt.ensures.goes c.args.accepted.now c.args.windows first written_first c.rounds.invariant.goes in
    (subst (λ (s : RunEnd). StopsSo s met went reader writer c.exchange.new.course (g.R.Read.remaining c.exchange.new.reader)
    (g.W.Write.contents c.exchange.new.writer)) c.in-Err-Fault.field-0-is c.in-Err-Fault.ensures) c.args.accepted.now c.args.windows first
    written_first so

pub rounds-preserved : goal.rounds-preserved
rounds-preserved g c =
    let first = g.R.Read.remaining c.args.reader.now in
    let reader = g.R.Read.remaining c.rounds.reader in
    let written_first = g.W.Write.contents c.args.writer.now in
    let writer = g.W.Write.contents c.rounds.writer in
    let so_many = c.rounds.invariant.rounds in
    let onward = c.advance-halt.ensures.onward in
    let more = c.in-Ok-exchange.ensures.1.0 in record {
      goes = c.in-Ok-exchange.ensures.0 c.args.accepted.now c.args.windows first written_first
          (advanced c.rounds.met c.rounds.course c.advance-halt.new.self reader writer c.advance-halt.ensures.goes c.args.accepted.now c.args.windows first written_first c.rounds.invariant.goes);
      rounds = omega (arith, so_many, onward, more);
      turns = c.in-Ok-exchange.ensures.1.1;
    }

pub rounds-init : goal.rounds-init
rounds-init g c = record {
  goes = ([], false, [], (c.in-Ok.ensures, refl), search rules, search rules, search rules, search rules);
  rounds = omega arith;
  turns = c.in-Ok.course.tally.few;
}
