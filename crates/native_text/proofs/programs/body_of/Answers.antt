use Rattle.native_text.proofs.Bodies.{body-points-more, body-text-more}
use Rattle.native_text.proofs.Worded.{body-words-more}
use Rattle.native_text.proofs.programs.body_of.Goals as goal

pub loop-block-preserved : goal.loop-block-preserved
loop-block-preserved c =
    let marks = c.args.heads.now.marks.items in
    let l = c.loop-block in
    record {
      text = body-text-more marks c.args.blocks.now l.block-index l.body.points c.block.new.self.points l.label c.has.result c.block-item.result
          _ l.body.text c.block.new.self.text c.loop-block-test.true c.block-item.is c.has.ensures l.invariant.text c.in_ok-block.ensures.text
          c.in_ok-block.ensures.points;
      points = body-points-more marks c.args.blocks.now l.block-index l.body.points c.block.new.self.points l.label _ c.has.result
          c.block-item.result c.loop-block-test.true c.block-item.is c.has.ensures l.invariant.points c.in_ok-block.ensures.points;
      words = λ left. l.invariant.words (body-words-more marks c.args.blocks.now l.block-index l.label c.has.result c.block-item.result
          c.loop-block-test.true c.block-item.is c.has.ensures c.in_ok-block.ensures.words left);
    }
