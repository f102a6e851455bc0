use Rattle.std.proofs.lemmas.Grind.{common_steps}
use Rattle.std.proofs.Common.{slice_set, List, ◌≡◌, ℕ, ap, ◌∙◌, arith}
use Rattle.v8_memory.proofs.Bytes.{byte_written, byte_fits}
use Rattle.v8_memory.proofs.ram.Ram.set_byte.Goals as goal

pub returns : goal.returns
returns c =
    let same : c.self.inside.bytes.items ≡ c.args.self.now = c.self.view_is in
    ap (λ (ram : List ℕ). slice_set ram c.args.pa c.args.byte) same ∙ byte_written c.args.self.now c.args.pa c.args.byte (byte_fits c.args.self.now c.args.pa c.requires)

pub index_mut-requires : goal.index_mut-requires
index_mut-requires c = grind (arith, common_steps, byte_fits)

pub invariant_of-self : goal.invariant_of-self
invariant_of-self c = grind (arith, common_steps, byte_fits)
