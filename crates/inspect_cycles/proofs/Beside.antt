-- A bound by a table where services take nothing bounds runs beside their services.
use Rattle.std.proofs.Common.{◌≡◌, ℕ, zero, suc, ◌+◌, ◌≤◌, Bool, true, false, List, [], ◌∷◌, Option, Some, None, refl, arith}
use Rattle.std.specs.Prelude.{if◌then◌else◌}
use Rattle.v8_alu.specs.declared.Op.{Op}
use Rattle.v8_alu.specs.declared.Op.TheVariants.{Umul, UmulCc, Smul, SmulCc}
use Rattle.v8_meaning.specs.declared.operation.Transfer.{Transfer}
use Rattle.v8_meaning.specs.declared.operation.Transfer.TheVariants as transfers
use Rattle.v8_meaning.specs.declared.operation.Operation.{Operation}
use Rattle.v8_meaning.specs.declared.operation.Operation.TheVariants.{Compute, Transfer as Moves, TrapOnCondition}
use Rattle.sbx_image.specs.Parts.{Parts}
use Rattle.sbx_flat.specs.Effects.{service_of}
use Rattle.sbx_flat.specs.declared.path.Place.{Place}
use Rattle.sbx_flat.specs.Turns.{asked, word_at}
use Rattle.inspect_cycles.specs.Cycles.{AreMost, AreMostBeside, cycles, cycles_at, cycles_of, cycles_of_result, cycles_of_service, cycles_of_transfer, cycles_of_word}
use Rattle.inspect_cycles.specs.Cycles.{served, served_at, served_by, served_of, served_of_word, slot_cycles, without_services}
use Rattle.inspect_cycles.specs.declared.table.CycleTable.{CycleTable}

module _ (t : CycleTable) where
  same_result : (op : Op) → cycles_of_result (without_services t) op ≡ cycles_of_result t op
  same_result Umul = refl
  same_result UmulCc = refl
  same_result Smul = refl
  same_result SmulCc = refl
  same_result _ = refl

  same_transfer : (m : Transfer) → cycles_of_transfer (without_services t) m ≡ cycles_of_transfer t m
  same_transfer (transfers.Load kind) = refl
  same_transfer (transfers.Store size) = refl
  same_transfer (transfers.Exchange kind) = refl

  service : (o : Option ℕ) → cycles_of_service t o ≤ cycles_of_service (without_services t) o + served_of t o
  service None = omega arith
  service (Some zero) = omega arith
  service (Some (suc zero)) = omega arith
  service (Some (suc (suc n))) = omega arith

  operation : (op : Operation) → cycles_of t op ≤ cycles_of (without_services t) op + served_by t op
  unfolding cycles_of
  operation (Compute op f) = let same = same_result op in omega (arith, same)
  operation (Moves m f) = let same = same_transfer m in omega (arith, same)
  operation (TrapOnCondition trap) = let more = service (service_of trap) in omega (arith, more)
  operation _ = omega arith

  word : (o : Option ℕ) → cycles_of_word t o ≤ cycles_of_word (without_services t) o + served_of_word t o
  word None = omega arith
  word (Some w) = operation (asked w)

  step : (annulled : Bool) (o : Option ℕ) → (if annulled then slot_cycles t else cycles_of_word t o)
      ≤ (if annulled then slot_cycles (without_services t) else cycles_of_word (without_services t) o) + (if annulled then 0 else served_of_word t o)
  unfolding slot_cycles
  step true o = omega arith
  step false o = word o

  at_place : (parts : Parts) (place : Place) → cycles_at t parts place ≤ cycles_at (without_services t) parts place + served_at t parts place
  at_place parts place = step place.annulled (word_at parts.words place.pc)

  along : (parts : Parts) (path : List Place) → cycles t parts path ≤ cycles (without_services t) parts path + served t parts path
  along parts [] = omega arith
  along parts (place ∷ path) = let here = at_place parts place in let rest = along parts path in omega (arith, here, rest)

  pub beside : (parts : Parts) (most : ℕ) → AreMost (without_services t) parts most → AreMostBeside t parts most
  beside parts most within input path s bytes run = let all = along parts path in let few = within input path s bytes run in omega (arith, all, few)
