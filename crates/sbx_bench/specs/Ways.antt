-- What the ways to drive a board of eight windows tell.
use Rattle.std.specs.Prelude.{◌≡◌, ℕ, [], vec_len}
use Rattle.v8_windows.specs.Windows.{reg_of}
use Rattle.sbx_image.specs.Parts.{Parts}
use Rattle.v8_board.specs.Seen.{State}
use Rattle.v8_board.specs.Runs.{IsRun, state_after}
use Rattle.sbx_raw.specs.Runs.{IsBegun, IsRaw}
use Rattle.sbx_raw.specs.declared.raw.Raw.{Raw}
use Rattle.sbx_bench.specs.declared.tally.Tally.{Tally}
use Rattle.sbx_bench.specs.declared.ways.Told.{Told}
use Rattle.sbx_bench.specs.declared.ways.Told.TheVariants.{Register, Output, Text}
use Rattle.sbx_bench.specs.declared.ways.Way.{Way}
use Rattle.sbx_bench.specs.declared.ways.Way.TheVariants as ways

-- what a state shows of a loop: the turns that were counted, and %g3
abbrev pub register_of : State 8 → Told
register_of s = Register s.counts.turns (reg_of 8 s.world.cpu.regs 3)

-- What each way tells of so many turns from the start that loading the image makes. A trace's text is counted as it is
-- written, and is gone then: no more is said than that its count is told. Of the plain interpreter nothing is proved.
abbrev pub IsToldBy : Way → Parts → ℕ → Told → Type 0
IsToldBy ways.Step p turns told = (start : State 8) × IsBegun 8 p [] start
    × (told ≡ register_of (state_after 8 turns start))
IsToldBy ways.Run p turns told = (start : State 8) × (end : State 8) × IsBegun 8 p [] start × IsRun 8 turns start end
    × (told ≡ register_of end)
IsToldBy ways.Raw p turns told = (raw : Raw) × IsRaw 8 p [] turns raw
    × (told ≡ Output raw.outcome.turns (vec_len raw.output))
IsToldBy ways.Trace p turns told = (tally : Tally) × (told ≡ Text tally)
IsToldBy ways.Plain p turns told = (made counter : ℕ) × (told ≡ Register made counter)
