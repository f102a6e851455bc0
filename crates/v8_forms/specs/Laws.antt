-- The laws of the table of forms.
use Rattle.std.specs.Prelude.{◌≡◌, ℕ, ◌+◌, ◌*◌, ◌^◌, Bool, true, false, not, ◌&&◌, ◌||◌, if◌then◌else◌, List, [], ◌∷◌}
use Rattle.std.specs.Prelude.{◌++◌, map}
use Rattle.std.specs.Str.{bytes_eq}
use Rattle.std.specs.List.{list_all, list_any}
use Rattle.v8_formats.specs.declared.instr.Instr.{Instr}
use Rattle.v8_formats.specs.declared.instr.Instr.TheVariants.{FpOperate, CpOperate, FpMemory, CpMemory, FpBranch}
use Rattle.v8_formats.specs.declared.instr.Instr.TheVariants.{CpBranch, Undefined}
use Rattle.v8_formats.specs.Table.{matches, meaning, table}
use Rattle.v8_forms.specs.declared.part.Part.{Part}
use Rattle.v8_forms.specs.declared.part.Part.TheVariants as parts
use Rattle.v8_forms.specs.Forms.{Form, forms, natives, suffixes}

-- ---- names

abbrev kind : Part → ℕ
kind (parts.Register f) = 0
kind parts.State = 1
kind (parts.Second range) = 2
kind (parts.Address range) = 3
kind parts.Memory = 4
kind parts.Elsewhere = 5
kind (parts.Number range) = 6
kind parts.Call = 7
kind parts.Branch = 8

abbrev names : Form → List (List ℕ)
names f = if f.conditional then map (λ suffix. f.name ++ suffix) suffixes else f.name ∷ []

-- a name of one is a name of the other, and their operands are of the same kinds
abbrev are_alike : Form → Form → Bool
are_alike f g =
    bytes_eq (map kind f.parts) (map kind g.parts) && list_any (λ name. list_any (bytes_eq name) (names f)) (names g)

abbrev pub are_told : List Form → Bool
are_told [] = true
are_told (f ∷ fs) = list_all (λ g. not (are_alike f g)) fs && are_told fs

-- no two forms have a name and the kinds of their operands in common
abbrev pub TellsFormsApart : Type 0
TellsFormsApart = are_told forms ≡ true

-- ---- words

-- floating-point, coprocessor and undefined words have no syntax
abbrev has_syntax : Instr → Bool
has_syntax (FpOperate w) = false
has_syntax (CpOperate w) = false
has_syntax (FpMemory w) = false
has_syntax (CpMemory w) = false
has_syntax (FpBranch w) = false
has_syntax (CpBranch w) = false
has_syntax (Undefined w) = false
has_syntax _ = true

abbrev is_state : Part → Bool
is_state parts.State = true
is_state _ = false

-- the words of a form with the least operands, one for each state register
abbrev starts : Form → List ℕ
starts f =
    if list_any (λ p. is_state p) f.parts then f.word ∷ (f.word + 2 ^ 19) ∷ (f.word + 2 * 2 ^ 19)
    ∷ (f.word + 3 * 2 ^ 19) ∷ []
    else f.word ∷ []

-- the words of the forms of instructions are of instructions with a syntax, and each row of the format table with a
-- syntax has such a form
abbrev pub CoversTheTable : Type 0
CoversTheTable =
    (list_all (λ f. list_all (λ w. has_syntax (meaning w)) (starts f)) natives ≡ true)
    × (list_all (λ r. not (has_syntax (r.gives r.value))
    || list_any (λ f. list_any (matches r) (starts f)) natives) table ≡ true)
