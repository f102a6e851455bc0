use Rattle.std.proofs.Common.{◌≡◌, ℕ, ◌-◌, ◌*◌, ◌%◌, ◌^◌, ◌<◌, pos, arith, ◌∙◌, ap}
use Rattle.std.specs.Int.{w32, leading_zeros}
use Rattle.std.proofs.lemmas.Int.{to_z_pos}
use Rattle.std.proofs.lemmas.Nat.{one_shl}
use Rattle.sbx_range.specs.Rows.{ones_above}
use Rattle.sbx_range.proofs.Bitwise.{ones_above-small}
use Rattle.sbx_range.proofs.logic.ones_above.Goals as goal

small : (n : ℕ) → n < 2 ^ 31 → ((1 * 2 ^ (32 - leading_zeros w32 n)) % 2 ^ 64 - 1 ≡ ones_above n) × (ones_above n < 2 ^ 31)
small n h = (ap (λ j. j - 1) (one_shl (32 - leading_zeros w32 n) 64 (omega arith)), ones_above-small n h)

pub overflow_cast-result-2 : goal.overflow_cast-result-2
overflow_cast-result-2 c = let s = small c.args.number c.requires in let e = s.0 in record { sfits = omega arith }

pub returns : goal.returns
returns c = let s = small c.args.number c.requires in let e = s.0 in to_z_pos w32 _ (omega arith) ∙ ap pos e
