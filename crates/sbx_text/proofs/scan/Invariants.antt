use Rattle.std.proofs.Common.{◌≡◌, ◌-◌, ◌+◌, ◌++◌, List, length}
use Rattle.sbx_text.specs.declared.Token.{Token}
use Rattle.sbx_text.specs.Tokens.{tokens_at, in_front}
use Rattle.sbx_text.proofs.scan.Given as goal

-- the tokens found, and then those of the rest, are the others and the tokens of the line
abbrev pub invariant-loop : goal.invariant-loop
invariant-loop l = record {
  places : l.start + length l.rest ≡ length l.line;
  read : in_front l.found.items (tokens_at (length l.line - l.counter) l.start l.rest) ≡ in_front l.fn.found.items (tokens_at (length l.line) 0 l.line);
  others : (more : List Token) × (l.found.items ≡ l.fn.found.items ++ more);
}
