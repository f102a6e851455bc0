use Rattle.std.proofs.Common.{codes}
use Rattle.std.proofs.lemmas.Result.{on_ok_weaker}
use Rattle.native_text.specs.Programs.{resumes_text}
use Rattle.native_text.proofs.Bodies.{seven_parts}
use Rattle.native_text.proofs.text.ProgramText.bodies.Goals as goal

pub returns : goal.returns
returns c =
    let body = c.args.body.now in
    on_ok_weaker c.put-4.result
    (λ last.
    seven_parts (codes "\nRUN_BEGINS\n") body.text
    (codes "RUN_ENDS\n\n#define GP_STEPS\n#include \"geyserpan_native.h\"\n\nSTEP_BEGINS\n") (resumes_text body.points)
    (codes "STEP_RESUMES\n") body.text (codes "STEP_ENDS\n") c.args.self.now c.put.new.self c.put_all.new.self c.put-2.new.self
    c.resumes.new.self c.put-3.new.self c.put_all-2.new.self c.put-4.new.self c.in_ok-put.ensures c.in_ok-put_all.ensures
    c.in_ok-put-2.ensures c.in_ok-resumes.ensures c.in_ok-put-3.ensures c.in_ok-put_all-2.ensures last)
    c.put-4.ensures
