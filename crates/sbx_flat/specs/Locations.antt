-- Words by location: 1 to 31 is a register, 32 + k is word k of the newest frame, at %sp + 64 + 4 * k.
use Rattle.std.specs.Prelude.{ℕ, ◌+◌, ◌-◌, ◌*◌, nat_lt, if◌then◌else◌, Option, Some}
use Rattle.sbx_flat.specs.Registers.{Frame, Registers, word_in}
use Rattle.sbx_flat.specs.States.{State}

-- word k of a frame that has this base, where it is one of its slots
abbrev pub frame_word : ℕ → Frame → ℕ → Option ℕ
frame_word base f k = f.slots (base + 64 + 4 * k)

-- what a location holds, where the newest frame's base is known by itself: a frame word's address is then the same
-- after every write
abbrev pub location_in : ℕ → Registers → ℕ → Option ℕ
location_in base file l = if nat_lt l 32 then Some (word_in file l) else frame_word base file.newest (l - 32)

-- what a location holds in a state
abbrev pub location_of : State → ℕ → Option ℕ
location_of s l = location_in (s.registers.newest.outs 14) s.registers l
