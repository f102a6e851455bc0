use Rattle.std.proofs.Common.{refl, rules}
use Rattle.flat_plain.proofs.Starts.{starts}
use Rattle.flat_plain.proofs.machine.Plain.new.Goals as goal

pub returns : goal.returns
returns c =
    starts c.args.image.now c.args.input.now c.args.fill _ (search rules) refl refl refl refl refl
    (record {
      globals = c.first_frame.ensures.globals;
      outs = c.first_frame.ensures.outs;
      locals = c.first_frame.ensures.locals;
      ins =
          c.first_frame.ensures.ins;
      slots = c.first_frame.ensures.slots;
      older = c.first_frame.ensures.older;
    })
    (search rules) refl (search rules) refl
