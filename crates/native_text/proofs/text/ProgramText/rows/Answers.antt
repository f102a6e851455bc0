use Rattle.std.proofs.Common.{[], ◌∷◌, ◌++◌, rules}
use Rattle.std.specs.Slice.Iter.{chunks_rest}
use Rattle.native_text.proofs.Bytes.{row-more}
use Rattle.native_text.proofs.Worded.{rows-words}
use Rattle.native_text.proofs.text.ProgramText.rows.Goals as goal

pub loop-row-preserved : goal.loop-row-preserved
loop-row-preserved c =
    let steps = c.in-Some.ensures.steps in
    let so_far = c.loop-row.invariant.2 in
    let more =
    row-more so_far.0 c.in-Some.row.now (chunks_rest c.next.new.self) (chunks_rest c.loop-row.row-iterator) c.args.bytes.now c.args.self.now
    c.loop-row.self c.put.new.self c.bytes.new.self c.put-in-loop-row.new.self so_far.1 so_far.2 steps.1.0 c.in_ok-put.ensures
    c.in_ok-bytes.ensures.text c.in_ok-put-2.ensures in (
      search rules,
      tt,
      (so_far.0 ++ c.in-Some.row.now ∷ [], more.0, more.1, rows-words so_far.0 c.in-Some.row.now so_far.3 c.in_ok-bytes.ensures.words),
    )
