-- What is told of an address: the word there, the ways on which it runs, and what is known before it on each.
use Rattle.std.specs.Prelude.{◌≡◌, ℕ, zero, suc, false, ◌<◌, ◌≤◌, if◌then◌else◌, List, length}
use Rattle.sbx_image.specs.Parts.{Parts}
use Rattle.sbx_domain.specs.Known.{Known, known}
use Rattle.sbx_rules.specs.Places.{op_at, op_before}
use Rattle.sbx_rules.specs.Ways.{Visit, state_at, visits_at, weight_to}
use Rattle.sbx_known.specs.Courses.{AreWell, IsStraight, arrivals_at, is_branch, listed}
use Rattle.sbx_known.specs.Spots.{IsSpot}
use Rattle.inspect_known.specs.declared.known.NotKnown.{NotKnown}
use Rattle.inspect_known.specs.declared.known.NotKnown.TheVariants.{NoFunction, NoWord, NoMemory}
use Rattle.inspect_known.specs.declared.known.Sight.{Sight}
use Rattle.inspect_known.specs.Places.{HasNone, IsAt}

-- What a word's ways begin with: what is known before the word, or in a branch's slot before the branch.
abbrev pub entered : Parts → ℕ → ℕ → ℕ → Known
entered parts f b zero = state_at parts f b 0
entered parts f b (suc i) = if is_branch (op_at parts f b i) then state_at parts f b i else state_at parts f b (suc i)

-- the ways of a sight, each with what is known before the word there
abbrev pub ways_seen : Sight → List Visit
ways_seen s = listed s.courses (known s.first) (known s.second)

-- What a sight holds is so of its word.
pub record IsSeen (parts : Parts) (s : Sight) : Type 0 where
  pub spot : IsSpot parts s.spot
  -- the turns from the block's first word to the end of this one
  pub weight : s.weight ≡ weight_to parts s.spot.function s.spot.block (suc s.spot.number)
  pub ways : ways_seen s ≡ visits_at parts s.spot.function s.spot.block s.spot.number
  pub well : AreWell parts s.spot.function s.courses
  -- but in a branch's slot there is one way, on which the word isn't annulled
  pub straight : is_branch (op_before parts s.spot.function s.spot.block s.spot.number) ≡ false → IsStraight s.courses

-- What is known after the word on the same ways, where control leaves it: a call that the word ends has had its effect.
pub record IsAfter (parts : Parts) (s t : Sight) : Type 0 where
  pub spot : t.spot ≡ s.spot
  pub weight : t.weight ≡ s.weight
  pub courses : t.courses ≡ s.courses
  pub ways : ways_seen t ≡ arrivals_at parts s.spot.function s.spot.block s.spot.number

-- Why nothing is known: the image has no such function, or no word of it stands at the address, or there was no memory
-- for what is known at the word.
abbrev pub IsReason : Parts → ℕ → ℕ → NotKnown → Type 0
IsReason parts f address NoFunction = length parts.functions ≤ f
IsReason parts f address NoWord = (f < length parts.functions) × HasNone parts f address
IsReason parts f address (NoMemory want) = (b : ℕ) × (i : ℕ) × IsAt parts f address b i
