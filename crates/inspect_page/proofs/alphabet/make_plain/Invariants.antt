use Rattle.std.proofs.Common.{ℕ, ◌<◌, IsTrue, get_or}
use Rattle.inspect_page.specs.Alphabet.{is_plain}
use Rattle.inspect_page.proofs.alphabet.make_plain.Given as goal

abbrev pub invariant-loop-byte : goal.invariant-loop-byte
invariant-loop-byte l = (k : ℕ) → k < l.byte-index → IsTrue (is_plain (get_or l.text k 0))
