-- How a machine of one's own starts.
use Rattle.std.specs.Prelude.{ℕ, ◌≡◌, ◌%◌, ◌^◌, ◌<◌, length}
use Rattle.v8_map.specs.declared.TheConstants.{RAM}
use Rattle.v8_word.specs.Word.{bits_of}
use Rattle.inspect_start.specs.declared.start.ControlValue.{ControlValue}
use Rattle.inspect_start.specs.declared.start.Start.{Start}

-- A start of a machine of so many windows: PC and nPC are addresses of instructions, the window of PSR is there, the
-- context table lies at a word of the physical addresses, and RAM has its size.
pub record IsFit (windows : ℕ) (s : Start) : Type 0 where
  pub pc : s.control.pc % 4 ≡ 0
  pub npc : s.control.npc % 4 ≡ 0
  pub window : bits_of s.control.psr 0 5 < windows
  pub reach : s.control.table < 2 ^ 36
  pub whole : s.control.table % 4 ≡ 0
  pub size : length s.ram.items ≡ RAM

-- where nothing is said: supervisor mode, traps disabled, window 0, and all else 0
abbrev pub plain : ControlValue
plain = record { pc = 0; npc = 4; psr = 0x80; wim = 0; tbr = 0; y = 0; table = 0; context = 0 }
