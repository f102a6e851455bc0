-- Places of code by their names.
use Rattle.std.specs.Prelude.{ℕ, ◌+◌, ◌-◌, ◌/◌, ◌%◌, ◌==◌, ◌&&◌, nat_le, nat_lt, true, if◌then◌else◌, List, [], ◌∷◌}
use Rattle.std.specs.Prelude.{◌++◌, codes}
use Rattle.std.specs.Fmt.{decimal, digits}
use Rattle.sbx_image.specs.Function.{Function}
use Rattle.inspect_lines.specs.Words.{byte_text}
use Rattle.v8_map.specs.declared.TheConstants.{CODE_START, CODE_END, TRAP_TABLE, HANDLERS, PAGE}
use Rattle.inspect_run.specs.declared.places.CodePlace.{CodePlace}
use Rattle.inspect_run.specs.declared.places.CodePlace.TheVariants as places

-- function n, where it begins at or before an address; else the place found before
abbrev pub nearer : CodePlace → ℕ → Function → ℕ → CodePlace
nearer before n f address = if nat_le f.entry address then places.Function n (address - f.entry) else before

-- the last of the functions, which are numbered from n, that begins at or before an address; else the place found
-- before
abbrev pub last_from : ℕ → CodePlace → List Function → ℕ → CodePlace
last_from n before [] address = before
last_from n before (f ∷ functions) address = last_from (n + 1) (nearer before n f address) functions address

abbrev pub function_from : List Function → ℕ → CodePlace
function_from functions address = last_from 0 places.Elsewhere functions address

-- user code; the trap table, of 16 bytes a vector; the handlers' page, where the one of underflow begins at byte 80
-- (hexadecimal)
abbrev pub place_of : List Function → ℕ → CodePlace
place_of functions address =
    if nat_le CODE_START address && nat_lt address CODE_END then function_from functions address
    else (if address / PAGE == TRAP_TABLE / PAGE then places.Vector (address % PAGE / 16) (address % 16)
    else (if (address / PAGE == HANDLERS / PAGE) && nat_lt (address % PAGE) 0x80 then places.Overflow (address % PAGE)
    else (if address / PAGE == HANDLERS / PAGE then places.Underflow (address % PAGE - 0x80)
    else places.Elsewhere)))

abbrev pub offset_text : ℕ → List ℕ
offset_text offset = codes "+" ++ digits 16 true offset

abbrev pub place_text : CodePlace → List ℕ
place_text (places.Function number offset) = codes "f" ++ (decimal number ++ offset_text offset)
place_text (places.Vector trap offset) = codes "vector " ++ (byte_text trap ++ offset_text offset)
place_text (places.Overflow offset) = codes "overflow" ++ offset_text offset
place_text (places.Underflow offset) = codes "underflow" ++ offset_text offset
place_text places.Elsewhere = codes "-"
