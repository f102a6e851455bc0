-- An image that a handle holds is one.
use Rattle.std.proofs.Common.{◌≡◌, Some}
use Rattle.geyserpan.specs.declared.image_slot.Kept.{Kept}

pub one_kept : (a b : Kept) → Some a ≡ Some b → a ≡ b
one_kept a b is = cc
