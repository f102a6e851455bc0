-- The columns of a line: the state before a turn, the word, and what happened.
use Rattle.std.specs.Prelude.{ℕ, ◌-◌, ◌%◌, ◌^◌, false, true, List, [], ◌++◌, codes, Option, Some, None}
use Rattle.std.specs.Fmt.{decimal, digits, format_spec, padded_integral}
use Rattle.v8_core.specs.Registers.{psr_of, tbr_of}
use Rattle.v8_core.specs.Cpu.{Cpu}
use Rattle.v8_core.specs.Stop.{Stop}
use Rattle.v8_core.specs.Stop.TheVariants as stops
use Rattle.v8_core.specs.declared.turn.Event.{Event}
use Rattle.v8_core.specs.declared.turn.Event.TheVariants.{Ran, Annulled, Trapped, ErrorMode, Stopped}
use Rattle.v8_core.specs.declared.turn.Turn.{Turn}
use Rattle.inspect_lines.specs.Words.{byte_text, word_text}
use Rattle.inspect_states.specs.declared.shown.ShownState.{ShownState}

-- what a processor shows beside its registers
abbrev pub shown_of : (n : ℕ) → Cpu n → ShownState
shown_of n cpu =
    record {
      pc = cpu.control.pc;
      npc = cpu.control.npc;
      psr = psr_of n cpu;
      wim = cpu.regs.mask;
      tbr = tbr_of cpu.control;
      y = cpu.control.y;
      fault = cpu.control.status;
    }

-- CWP, the low five bits of PSR, in two decimal digits
abbrev pub window_text : ℕ → List ℕ
window_text psr = padded_integral (format_spec 32 0 4 2 (2 ^ 64 - 1)) false [] (digits 10 false (psr % 32))

-- the number of the line, the window, PC, nPC and the annul flag
abbrev pub place_text : ℕ → List ℕ → ShownState → List ℕ
place_text number annul s =
    decimal number
    ++ (codes " " ++ (window_text s.psr ++ (codes " " ++ (word_text s.pc ++ (codes " " ++ (word_text s.npc
    ++ (codes " " ++ (annul ++ codes " "))))))))

-- PSR, WIM, TBR, Y and the fault status
abbrev pub state_text : ShownState → List ℕ
state_text s =
    word_text s.psr ++ (codes " " ++ (word_text s.wim ++ (codes " " ++ (word_text s.tbr ++ (codes " " ++ (word_text s.y
    ++ (codes " " ++ (word_text s.fault ++ codes " "))))))))

abbrev pub columns_text : ℕ → List ℕ → ShownState → List ℕ
columns_text number annul s = place_text number annul s ++ state_text s

-- the word that was fetched
abbrev pub word_column : Option ℕ → List ℕ
word_column (Some word) = word_text word ++ codes " "
word_column None = codes "-------- "

abbrev pub stop_text : Stop → List ℕ
stop_text (stops.Exit word) = codes "exit:" ++ word_text word
stop_text stops.Trapped = codes "stopped"

abbrev pub event_text : Event → List ℕ
event_text Ran = codes "ran"
event_text Annulled = codes "annulled"
event_text (Trapped t) = codes "trap:" ++ byte_text t
event_text (ErrorMode t) = codes "error:" ++ byte_text t
event_text (Stopped stop) = stop_text stop

abbrev pub outcome_text : Turn → List ℕ
outcome_text t = word_column t.word ++ event_text t.event

-- the annul flag before a turn: an instruction is annulled where it is set
abbrev pub annul_text : Event → List ℕ
annul_text Ran = codes "0"
annul_text Annulled = codes "1"
annul_text (Trapped t) = codes "0"
annul_text (ErrorMode t) = codes "0"
annul_text (Stopped stop) = codes "0"
