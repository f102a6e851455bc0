use Rattle.inspect_machine.proofs.Setting.{whole_placed}
use Rattle.inspect_machine.proofs.bare.memory_of.Goals as goal

pub returns-in-Ok-clause-ram : goal.returns-in-Ok-clause-ram
returns-in-Ok-clause-ram c = whole_placed c.args.ram.now _ _ c.requires c.set_bytes.ensures.size c.set_bytes.ensures.ram
