use Rattle.std.proofs.Common.{◌≡◌, ◌++◌, take}
use Rattle.std.specs.List.{flat_map}
use Rattle.sbx_image.specs.Spelling.{function_text}
use Rattle.sbx_image.proofs.writing.put_functions.Given as goal

abbrev pub invariant-loop-function : goal.invariant-loop-function
invariant-loop-function l = l.out.items ≡ l.initial.out.items ++ flat_map (function_text l.image.version) (take l.function-index l.function-items)
