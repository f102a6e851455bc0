-- What a turn's line begins with: its number, and the window, the mode, PC, the place and the instruction.
use Rattle.std.specs.Prelude.{ℕ, zero, suc, ◌-◌, ◌^◌, Bool, true, false, List, [], ◌∷◌, ◌++◌, codes, length, Option}
use Rattle.std.specs.Prelude.{Some, None}
use Rattle.std.specs.Fmt.{digits, format_spec, padded_integral}
use Rattle.v8_core.specs.declared.turn.Event.{Event}
use Rattle.v8_core.specs.declared.turn.Event.TheVariants.{Ran, Annulled, Trapped, ErrorMode, Stopped}
use Rattle.v8_core.specs.declared.turn.Turn.{Turn}
use Rattle.v8_formats.specs.Table.{meaning}
use Rattle.v8_forms.specs.Text.{text_of}
use Rattle.sbx_image.specs.Function.{Function}
use Rattle.inspect_lines.specs.Words.{word_text}
use Rattle.inspect_run.specs.Places.{place_of, place_text}

-- a decimal number, with blanks in front up to six columns; one of two digits
abbrev pub number_text : ℕ → List ℕ
number_text n = padded_integral (format_spec 32 0 0 6 (2 ^ 64 - 1)) false [] (digits 10 false n)

abbrev pub window_text : ℕ → List ℕ
window_text n = padded_integral (format_spec 32 0 4 2 (2 ^ 64 - 1)) false [] (digits 10 false n)

abbrev pub mode_text : Bool → List ℕ
mode_text true = codes "u"
mode_text false = codes "s"

abbrev pub blanks : ℕ → List ℕ
blanks zero = []
blanks (suc k) = blanks k ++ 32 ∷ []

-- the text, and blanks up to a column
abbrev pub padded_to : ℕ → List ℕ → List ℕ
padded_to column text = text ++ blanks (column - length text)

abbrev pub unfetched_text : Event → List ℕ
unfetched_text Ran = codes "not fetched"
unfetched_text Annulled = codes "annulled"
unfetched_text (Trapped t) = codes "not fetched"
unfetched_text (ErrorMode t) = codes "not fetched"
unfetched_text (Stopped stop) = codes "not fetched"

-- the instruction that was fetched
abbrev pub instruction_text : Option ℕ → Event → List ℕ
instruction_text (Some word) event = text_of (meaning word)
instruction_text None event = unfetched_text event

-- the number, the window, the mode, PC and the place, and a blank behind each
abbrev pub place_line : List Function → ℕ → Turn → List ℕ
place_line functions number t =
    number_text number
    ++ (codes " " ++ (window_text t.cwp ++ (codes " " ++ (mode_text t.user ++ (codes " " ++ (word_text t.pc
    ++ (codes " " ++ (place_text (place_of functions t.pc) ++ codes " "))))))))

-- the instruction in column 34, or further on where what stands before it is longer
abbrev pub head_text : List Function → ℕ → Turn → List ℕ
head_text functions number t = padded_to 34 (place_line functions number t) ++ instruction_text t.word t.event
