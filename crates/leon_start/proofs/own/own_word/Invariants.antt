use Rattle.std.proofs.Common.{◌≡◌, drop}
use Rattle.leon_start.specs.Own.{own_word}
use Rattle.leon_start.proofs.own.own_word.Given as goal

-- the words of the parts so far are none
abbrev pub invariant-loop-part : goal.invariant-loop-part
invariant-loop-part l = own_word (drop l.part-index l.parts) l.number ≡ own_word l.initial.parts l.number
