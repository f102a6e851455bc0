-- A byte that is read from those at hand.
use Rattle.std.proofs.Common.{refl, rules}
use Rattle.std.specs.Prelude.{◌≡◌, ◌<◌, ℕ, Bool, true, false, List, ◌∷◌, [], length, take, slice_get, slice_set, Some, None, if◌then◌else◌}
use Rattle.std.specs.declared.option.Option.{Option}
use Rattle.std.specs.Io.KnownBytes.{Consumes, prepend_known}
use Rattle.std.specs.Io.BufRead.{DropsConsumable}

-- where one byte of those at hand is consumed, the known bytes begin with it and lose it
pub one_consumed : (is_unknown : Bool) (at_hand : List ℕ) (known new : Option (List ℕ)) (byte : ℕ) → slice_get at_hand 0 ≡ Some byte
    → DropsConsumable (if is_unknown then None else prepend_known at_hand known) new (Some (length at_hand)) 1
    → Consumes (if is_unknown then None else prepend_known at_hand known) new (byte ∷ [])
one_consumed true at_hand known new byte is drops = tt
one_consumed false at_hand None new byte is drops = tt
one_consumed false [] (Some after) new byte is drops = search rules
one_consumed false (first ∷ rest) (Some after) new byte is drops = search rules

-- a place of one byte that is set has that byte alone
pub one_set : (places : List ℕ) (byte : ℕ) → 0 < length places → take 1 (slice_set places 0 byte) ≡ byte ∷ []
one_set [] byte there = search rules
one_set (place ∷ rest) byte there = refl
