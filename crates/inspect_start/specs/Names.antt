-- What a line may name.
use Rattle.std.specs.Prelude.{ℕ, ◌+◌, ◌-◌, ◌%◌, ◌^◌, ◌==◌, ◌&&◌, Bool, true, nat_lt, nat_le, if◌then◌else◌, List, []}
use Rattle.std.specs.Prelude.{◌∷◌, length, take, drop, slice_index, codes, Option, Some, None}
use Rattle.std.specs.Option.{option_map, option_and_then, option_or}
use Rattle.std.specs.List.{find}
use Rattle.std.specs.Str.{byte, bytes_eq}
use Rattle.v8_word.specs.Word.{bits_of}
use Rattle.inspect_start.specs.declared.fault.StartCause.{StartCause}
use Rattle.inspect_start.specs.declared.fault.StartCause.TheVariants as causes
use Rattle.inspect_start.specs.declared.names.StartField.{StartField}
use Rattle.inspect_start.specs.declared.names.StartField.TheVariants.{Pc, Npc, Psr, Wim, Tbr, Y, Table, Context}
use Rattle.inspect_start.specs.declared.names.StartName.{StartName}
use Rattle.inspect_start.specs.declared.names.StartName.TheVariants.{Window, Control, Register}

-- what stands beside a name in a table
abbrev pub beside : {A : Type 0} → List ℕ → List (List ℕ × A) → Option A
beside name rows = option_map (λ row. row.1) (find (λ row. bytes_eq name row.0) rows)

-- ---- names

-- the state registers, the context table and the context; `%` may stand before these
abbrev pub fields : List (List ℕ × StartField)
fields =
    (codes "pc", Pc) ∷ (codes "npc", Npc) ∷ (codes "psr", Psr) ∷ (codes "wim", Wim) ∷ (codes "tbr", Tbr)
    ∷ (codes "y", Y)
    ∷ (codes "context_table", Table) ∷ (codes "context", Context) ∷ []

-- the first register of a group, by its letter: globals, outs, locals and ins
abbrev pub groups : List (List ℕ × ℕ)
groups = (codes "g", 0) ∷ (codes "o", 8) ∷ (codes "l", 16) ∷ (codes "i", 24) ∷ []

-- a register of a group by a digit, 0 to 7
abbrev pub numbered : ℕ → ℕ → Option ℕ
numbered digit first = if nat_le 48 digit && nat_le digit 55 then Some (first + (digit - 48)) else None

-- `%`, a letter and a digit, or `%sp` or `%fp`
abbrev pub register_named : List ℕ → Option ℕ
register_named word =
    if bytes_eq word (codes "%sp") then Some 14
    else (if bytes_eq word (codes "%fp") then Some 30
    else (if length word == 3 && slice_index word 0 == byte "%"
    then option_and_then (numbered (slice_index word 2)) (beside (slice_index word 1 ∷ []) groups) else None))

abbrev pub without_percent : List ℕ → List ℕ
without_percent word = if bytes_eq (take 1 word) (codes "%") then drop 1 word else word

-- what a word names
abbrev pub name_of : List ℕ → Option StartName
name_of word =
    if bytes_eq word (codes "window") then Some Window
    else option_or (option_map Control (beside (without_percent word) fields))
    (option_map Register (register_named word))

-- ---- the numbers behind them

-- the greatest one: a word, and of the context table a physical address of 36 bits
abbrev pub most_of : StartName → ℕ
most_of (Control Table) = 2 ^ 36 - 1
most_of _ = 2 ^ 32 - 1

-- a number behind a field keeps its rule, on so many windows: PC, nPC and the table lie at multiples of 4, and the
-- window of PSR is there
abbrev pub suits : ℕ → StartField → ℕ → Bool
suits windows Pc n = n % 4 == 0
suits windows Npc n = n % 4 == 0
suits windows Table n = n % 4 == 0
suits windows Psr n = nat_lt (bits_of n 0 5) windows
suits windows _ n = true

-- a number behind a name keeps its rule: a window that is named is there, too
abbrev pub keeps : ℕ → StartName → ℕ → Bool
keeps windows Window n = nat_lt n windows
keeps windows (Control field) n = suits windows field n
keeps windows (Register r) n = true

-- what is wrong where it doesn't
abbrev pub rule_of : StartName → StartCause
rule_of (Control Pc) = causes.Place
rule_of (Control Npc) = causes.Place
rule_of (Control Table) = causes.Place
rule_of _ = causes.Window
