use Rattle.std.proofs.Common.{◌≡◌, ◌++◌, drop}
use Rattle.native_text.specs.Programs.{bytes_text}
use Rattle.native_text.specs.Words.{AreWords}
use Rattle.native_text.proofs.text.ProgramText.bytes.Given as goal

-- with the bytes that are left it is whole
abbrev pub invariant-loop-byte : goal.invariant-loop-byte
invariant-loop-byte l =
    (l.self ++ bytes_text (drop l.byte-index l.bytes) ≡ l.fn.self ++ bytes_text l.bytes)
    × (AreWords (drop l.byte-index l.bytes) → AreWords l.bytes)
