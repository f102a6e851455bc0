use Rattle.std.proofs.Common.{◌≡◌, ◌++◌, drop, string_bytes}
use Rattle.std.specs.List.{flat_map}
use Rattle.inspect_lines.specs.Words.{byte_text}
use Rattle.inspect_json.proofs.runs.push_hexadecimal.Given as goal

-- the digits so far and those of the bytes that are left are all of them
abbrev pub invariant-loop-byte : goal.invariant-loop-byte
invariant-loop-byte l = string_bytes l.text ++ flat_map byte_text (drop l.byte-index l.bytes) ≡ string_bytes l.fn.text ++ flat_map byte_text l.bytes
