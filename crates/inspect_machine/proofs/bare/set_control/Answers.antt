use Rattle.inspect_machine.proofs.Setting.{controlled}
use Rattle.inspect_machine.proofs.bare.set_control.Goals as goal

pub returns-clause-cpu : goal.returns-clause-cpu
returns-clause-cpu g c =
    controlled g.row.N c.args.machine.now.cpu c.set_wim.new.self.cpu c.set_tbr.new.self.cpu c.set_y.new.self.cpu c.set_pc.new.self.cpu c.set_npc.new.self.cpu
    c.set_psr.new.self.cpu c.args.control.now c.set_psr.result c.requires.rest c.set_wim.ensures.cpu c.set_tbr.ensures.cpu c.set_y.ensures.cpu c.set_pc.ensures.cpu
    c.set_npc.ensures.cpu c.set_psr.ensures.answer c.requires.window c.set_psr.ensures.cpu
