-- Codes of one or two words, and what a step of them comes to, for examples.
use Rattle.std.specs.Prelude.{ℕ, ◌+◌, ◌%◌, ◌^◌, Bool, false, true, List, [], ◌∷◌, replicate, Option, None, Some}
use Rattle.v8_map.specs.declared.TheConstants.{CODE_START, DATA_START}
use Rattle.sbx_image.specs.Parts.{Parts}
use Rattle.sbx_image.specs.Region.{Region}
use Rattle.sbx_flat.specs.Registers.{Frame, Fresh}
use Rattle.sbx_flat.specs.Runs.{Place}
use Rattle.sbx_flat.specs.States.{State, Turn}
use Rattle.sbx_flat.specs.Turns.{turn}

-- save %sp,-96,%sp and restore
abbrev pub save_and_restore : List ℕ
save_and_restore = 0x9DE3BFA0 ∷ 0x81E80000 ∷ []

abbrev pub at_save : Place
at_save = record { pc = CODE_START; annulled = false; address = None }

abbrev pub at_restore : Place
at_restore = record { pc = CODE_START + 4; annulled = false; address = None }

-- a state before the first word of the code, and the same before the second
abbrev pub at_first : State → State
at_first s = record s { pc = CODE_START; npc = CODE_START + 4; annulled = false; exit = None }

abbrev pub at_second : State → State
at_second s = record s { pc = CODE_START + 4; npc = CODE_START + 8; annulled = false; exit = None }

abbrev pub at_third : State → State
at_third s = record s { pc = CODE_START + 8; npc = CODE_START + 12; annulled = false; exit = None }

-- what comes of the state where the code is this word alone
abbrev pub step_of : ℕ → Parts → Fresh → State → Turn
step_of word parts fresh s = turn (record parts { words = word ∷ [] }) fresh (at_first s)

-- the state with a newest frame of this base
abbrev pub based : ℕ → State → State
based base s = record s { registers = record s.registers { newest = record s.registers.newest { outs = λ _. base } } }

-- with these slots in the newest frame
abbrev pub with_slots : (ℕ → Option ℕ) → State → State
with_slots slots s =
    record s { registers = record s.registers { newest = record s.registers.newest { slots = slots } } }

-- with the frame of a caller behind the newest
abbrev pub called_by : Frame → List Frame → State → State
called_by caller older s = record s { registers = record s.registers { older = caller ∷ older } }

-- with memory whose every byte is its address's low one, and %l0 at the start of the data
abbrev pub with_addresses : State → State
with_addresses s =
    record s {
      memory = λ a. Some (a % 2 ^ 8);
      registers =
          record s.registers { newest = record s.registers.newest { locals = λ _. DATA_START } };
    }

-- so many bytes
abbrev pub zeros : Bool → ℕ → Region
zeros writable count = record { bytes = replicate count 0; writable = writable }

-- with one region of so many bytes
abbrev pub with_region : Bool → ℕ → Parts → Parts
with_region writable count parts = record parts { regions = zeros writable count ∷ [] }

-- with a region that is only read, and one that may be written
abbrev pub with_two_regions : Parts → Parts
with_two_regions parts = record parts { regions = zeros false 8 ∷ zeros true 8 ∷ [] }
