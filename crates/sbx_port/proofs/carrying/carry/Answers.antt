use Rattle.std.proofs.Common.{◌-◌, ◌++◌, [], ◌∙◌, sym, arith, rules}
use Rattle.std.proofs.KnownBytes.{Appends-nil, Appends-trans, Consumes-nil}
use Rattle.std.proofs.lemmas.Result.{err_from_is_err_and}
use Rattle.sbx_port.proofs.Tracked.{comes_to_an_end, halted_part, no_bytes, no_lack, still_none, unread_part, way_exchanged, way_first, way_sliced, whole}
use Rattle.sbx_port.proofs.carrying.carry.Goals as goal

pub loop-left-init : goal.loop-left-init
loop-left-init g c = (
  [],
  [],
  way_first g.row.N c.args.limit c.args.board.now.state c.requires.waiting,
  c.requires.empty,
  c.requires.served,
  λ yes. search rules,
  (no_bytes, Consumes-nil (g.R.Read.remaining c.args.reader.now), λ yes. search rules),
  Appends-nil (g.W.Write.contents c.args.writer.now),
)

pub returns-in_default-clause-whole : goal.returns-in_default-clause-whole
returns-in_default-clause-whole g c =
    let (read, w, way, empty, served, none, has, written) = c.loop-left.invariant in
    whole g.row.N c.args.limit c.args.board.now.state c.loop-left.left read c.loop-left.met w c.loop-left.board.state
    (g.R.Read.remaining c.args.reader.now) (g.R.Read.remaining c.loop-left.reader) (g.W.Write.contents c.args.writer.now) (g.W.Write.contents c.loop-left.writer)
    way has empty written (λ none. absurd (c.in_default.not-None (c.ending.ensures ∙ none)))

pub returns-clause-whole : goal.returns-clause-whole
returns-clause-whole g c =
    let (read, w, way, empty, served, none, has, written) = c.loop-left.invariant in
    whole g.row.N c.args.limit c.args.board.now.state c.loop-left.left read c.loop-left.met w c.loop-left.board.state
    (g.R.Read.remaining c.args.reader.now) (g.R.Read.remaining c.loop-left.reader) (g.W.Write.contents c.args.writer.now) (g.W.Write.contents c.loop-left.writer)
    way has empty written (λ none. omega arith)

pub returns-in_err-look-clause-part : goal.returns-in_err-look-clause-part
returns-in_err-look-clause-part g c =
    let (read, w, way, empty, served, none, has, written) = c.loop-left.invariant in
    let p = err_from_is_err_and c.from_residual.result c.from_residual.ensures.1 in
    rw (p.1, p.2) (unread_part g.row.N c.args.limit c.args.board.now.state c.loop-left.left read c.loop-left.met w c.loop-left.board.state
    (g.R.Read.remaining c.args.reader.now) (g.R.Read.remaining c.loop-left.reader) (g.W.Write.contents c.args.writer.now) (g.W.Write.contents c.loop-left.writer)
    c.in_err-look.field-0.0 way has c.in_err-look.ensures.not_met c.in_err-look.ensures.fault written)

pub returns-in_err-met-clause-part : goal.returns-in_err-met-clause-part
returns-in_err-met-clause-part g c =
    let (read, w, way, empty, served, none, has, written) = c.loop-left.invariant in
    let slice = c.advance-slice in
    let t = slice.new.board.state in
    let on = way_sliced g.row.N c.args.limit c.args.board.now.state c.loop-left.left read c.loop-left.met w c.loop-left.board.state t slice.result.turns
    way (sym c.ending.ensures ∙ c.in-None.is) slice.ensures.made c.in_ok-look.ensures.fine in
    let p = err_from_is_err_and c.from_residual-in_err-met.result c.from_residual-in_err-met.ensures.1 in
    rw (p.1, p.2) (halted_part g.row.N c.args.limit c.args.board.now.state (c.loop-left.left - slice.result.turns) read c.loop-left.met w t
    (g.R.Read.remaining c.args.reader.now) (g.R.Read.remaining c.loop-left.reader) (g.R.Read.remaining c.exchange.new.reader)
    (g.W.Write.contents c.args.writer.now) (g.W.Write.contents c.loop-left.writer) (g.W.Write.contents c.exchange.new.writer)
    c.in_err-met.field-0.0 slice.result.lacks on has c.in_err-met.ensures.read
    (λ lacks. no_lack c.loop-left.met t.world.memory.device.input
    (still_none g.row.N c.loop-left.left c.loop-left.met c.loop-left.board.state t slice.result.turns slice.ensures.made none) (slice.ensures.lacks lacks))
    written c.in_err-met.ensures.halted)

pub loop-left-preserved : goal.loop-left-preserved
loop-left-preserved g c =
    let (read, w, way, empty, served, none, has, written) = c.loop-left.invariant in
    let slice = c.advance-slice in
    let t = slice.new.board.state in
    let on = way_sliced g.row.N c.args.limit c.args.board.now.state c.loop-left.left read c.loop-left.met w c.loop-left.board.state t slice.result.turns
    way (sym c.ending.ensures ∙ c.in-None.is) slice.ensures.made c.in_ok-look.ensures.fine in
    let (all, there, had, (put, ended)) =
    way_exchanged g.row.N c.args.limit c.args.board.now.state
    (c.loop-left.left - slice.result.turns) read c.loop-left.met c.in_ok-met.met slice.result.lacks w t c.exchange.new.board.state
    (g.R.Read.remaining c.args.reader.now) (g.R.Read.remaining c.loop-left.reader) (g.R.Read.remaining c.exchange.new.reader)
    on has (still_none g.row.N c.loop-left.left c.loop-left.met c.loop-left.board.state t slice.result.turns slice.ensures.made none)
    slice.ensures.lacks c.in_ok-met.ensures.fed c.in_ok-met.ensures.kept in (
      all,
      w ++ t.world.memory.device.output,
      there,
      put,
      c.in_ok-met.ensures.served,
      ended,
      had,
      Appends-trans (g.W.Write.contents c.args.writer.now) (g.W.Write.contents c.loop-left.writer) (g.W.Write.contents c.exchange.new.writer)
          w t.world.memory.device.output written c.in_ok-met.ensures.written,
    )

pub loop-left-smaller : goal.loop-left-smaller
loop-left-smaller g c =
    let slice = c.advance-slice in
    comes_to_an_end g.row.N c.loop-left.left slice.result.turns slice.result.lacks c.in_ok-met.met c.loop-left.board.state slice.new.board.state c.exchange.new.board.state
    (g.R.Read.remaining c.loop-left.reader) (g.R.Read.remaining c.exchange.new.reader)
    slice.ensures.made slice.ensures.lacks slice.ensures.goes c.in_ok-met.ensures.fed

pub ending-requires : goal.ending-requires
ending-requires g c = assumption

pub advance-slice-requires : goal.advance-slice-requires
advance-slice-requires g c = assumption

pub overflow_sub-left : goal.overflow_sub-left
overflow_sub-left g c = assumption

pub look-requires : goal.look-requires
look-requires g c = assumption

pub exchange-requires : goal.exchange-requires
exchange-requires g c = assumption
