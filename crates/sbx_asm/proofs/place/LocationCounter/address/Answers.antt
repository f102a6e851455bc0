use Rattle.std.proofs.Common.{◌≡◌, ◌+◌, false, ap, sym, ◌∙◌}
use Rattle.std.specs.Prelude.{min}
use Rattle.sbx_asm.specs.declared.place.LocationCounter.{LocationCounter}
use Rattle.sbx_asm.specs.Addresses.{in_code}
use Rattle.sbx_asm.proofs.Rooms.{in_data}
use Rattle.sbx_asm.proofs.place.LocationCounter.address.Goals as goal

pub returns-else-self : goal.returns-else-self
returns-else-self c = λ before here.
    let chosen : in_code before ≡ false = sym (ap (λ (p : LocationCounter). p.in_code) here) ∙ c.if-self.false in
    c.saturating_add.ensures ∙ ap (λ (p : LocationCounter). min (p.region_start + p.region_bytes) 4294967295) here ∙ in_data before chosen
