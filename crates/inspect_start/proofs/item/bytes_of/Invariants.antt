use Rattle.std.proofs.Common.{◌≡◌, ◌++◌, length}
use Rattle.std.specs.Option.{option_map}
use Rattle.inspect_start.specs.Lines.{words_of}
use Rattle.inspect_start.specs.Items.{bytes_of}
use Rattle.inspect_start.proofs.item.bytes_of.Given as goal

-- the bytes so far, and those of the words that are left
abbrev pub invariant-loop-word : goal.invariant-loop-word
invariant-loop-word l = option_map (λ more. l.bytes.items ++ more) (bytes_of (words_of l.rest)) ≡ bytes_of (words_of l.fn.text)

abbrev pub decreases-loop-word : goal.decreases-loop-word
decreases-loop-word l = length l.rest
