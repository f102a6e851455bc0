use Rattle.std.proofs.Common.{◌≡◌, ◌++◌, drop, string_bytes}
use Rattle.inspect_image.specs.Images.{function_text, numbered}
use Rattle.inspect_image.proofs.image.push_functions.Given as goal

-- the text so far and that of the functions that are left is all of it
abbrev pub invariant-loop-function : goal.invariant-loop-function
invariant-loop-function l = (l.number ≡ l.function-index)
    × (string_bytes l.out ++ numbered (function_text l.version) l.number (drop l.function-index l.functions) ≡ string_bytes l.fn.out ++ numbered (function_text l.version) 0 l.functions)
