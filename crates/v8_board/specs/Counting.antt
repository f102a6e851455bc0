-- What a board counts: turns, window overflows and window underflows. A count stays at 2^64 - 1.
use Rattle.std.specs.Prelude.{ℕ, ◌+◌, ◌-◌, ◌^◌, ◌==◌, if◌then◌else◌}
use Rattle.v8_word.specs.Traps.{window_overflow, window_underflow}
use Rattle.v8_core.specs.declared.turn.Event.{Event}
use Rattle.v8_core.specs.declared.turn.Event.TheVariants.{Ran, Annulled, Trapped, ErrorMode, Stopped}
use Rattle.v8_board.specs.declared.outcome.Counts.{Counts}

abbrev pub counted : ℕ → ℕ
counted k = if k == 2 ^ 64 - 1 then k else k + 1

abbrev pub with_turn : Counts → Counts
with_turn c = record c { turns = counted c.turns }

abbrev pub with_trap : ℕ → Counts → Counts
with_trap t c =
    if t == window_overflow then record c { overflows = counted c.overflows } else
    (if t == window_underflow then record c { underflows = counted c.underflows } else c)

-- every turn counts, and one that traps into a window handler counts for that too
abbrev pub counts_after : Event → Counts → Counts
counts_after Ran c = with_turn c
counts_after Annulled c = with_turn c
counts_after (Trapped t) c = with_trap t (with_turn c)
counts_after (ErrorMode t) c = with_turn c
counts_after (Stopped s) c = with_turn c
