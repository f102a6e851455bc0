use Rattle.std.proofs.Common.{arith}
use Rattle.native_text.proofs.Bytes.{resume-more}
use Rattle.native_text.proofs.text.ProgramText.resumes.Goals as goal

pub loop-point-preserved : goal.loop-point-preserved
loop-point-preserved c =
    resume-more c.loop-point.point c.args.self.now c.loop-point.self c.put.new.self c.number.new.self c.put-in-loop-point.new.self (omega arith)
    c.loop-point.invariant c.in_ok-put.ensures c.in_ok-number.ensures c.in_ok-put-2.ensures
