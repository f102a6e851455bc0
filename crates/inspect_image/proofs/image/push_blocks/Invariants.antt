use Rattle.std.proofs.Common.{◌≡◌, ◌++◌, drop, string_bytes}
use Rattle.inspect_image.specs.Images.{block_text, numbered}
use Rattle.inspect_image.proofs.image.push_blocks.Given as goal

-- the text so far and that of the blocks that are left is all of it
abbrev pub invariant-loop-block : goal.invariant-loop-block
invariant-loop-block l = (l.number ≡ l.block-index)
    × (string_bytes l.out ++ numbered (block_text l.function) l.number (drop l.block-index l.blocks) ≡ string_bytes l.fn.out ++ numbered (block_text l.function) 0 l.blocks)
