-- The rule of shape (V3), part by part.
use Rattle.std.specs.Prelude.{◌≡◌, ℕ, ◌+◌, ◌&&◌, ◌||◌, not, Bool, false, IsTrue, nat_le, Option, Some, None}
use Rattle.v8_meaning.specs.declared.operation.Operation.{Operation}
use Rattle.sbx_image.specs.Parts.{Parts}
use Rattle.sbx_image.specs.Function.{Function}
use Rattle.sbx_image.specs.Order.{function_at, words_in}
use Rattle.sbx_rules.specs.Operations.{is_call, is_framed, is_framed_return, is_restore, is_save, is_transfer, is_trap}
use Rattle.sbx_rules.specs.Places.{ends_run, op_at, op_before}
use Rattle.sbx_rules.specs.Rules.{enters_well, has_bad_shape, is_entry, same_test, suits}
use Rattle.inspect_reasons.specs.declared.shapes.Part.{Part}
use Rattle.inspect_reasons.specs.declared.shapes.Part.TheVariants.{Entry, Save, Restore, Kind, InSlot, NoSlot, BehindSlot}
use Rattle.inspect_reasons.specs.declared.shapes.Part.TheVariants.{BehindExit}

module _ (parts : Parts) (f b i : ℕ) where
  abbrev pub op : Operation
  op = op_at parts f b i

  abbrev pub before : Operation
  before = op_before parts f b i

  abbrev pub is_last : Bool
  is_last = nat_le (words_in parts f b) (i + 1)

  -- word i of block b of function f breaks this part
  abbrev pub breaks : Part → Bool
  breaks Entry = is_entry b i && not (enters_well (function_at parts f) op)
  breaks Save = is_save op && not (is_entry b i && is_framed (function_at parts f).kind)
  breaks Restore = not (same_test (is_framed_return before) (is_restore op))
  breaks Kind = not (suits (function_at parts f).kind op)
  breaks InSlot = is_transfer before && (is_transfer op || is_trap op)
  breaks NoSlot = is_transfer op && is_last
  breaks BehindSlot = is_transfer before && not (is_call before) && not is_last
  breaks BehindExit = ends_run op && not is_last

  -- the part that is told is broken, and with it the rule; where none is told the rule is kept
  abbrev pub IsPart : Option Part → Type 0
  IsPart None = has_bad_shape parts f b i ≡ false
  IsPart (Some part) = IsTrue (breaks part) × IsTrue (has_bad_shape parts f b i)
