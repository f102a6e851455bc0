-- What is known of a word, and fuel, as text.
use Rattle.std.specs.Prelude.{ℕ, ◌==◌, if◌then◌else◌, List, ◌++◌, codes, Option, Some, None}
use Rattle.std.specs.Fmt.{signed_decimal}
use Rattle.sbx_image.specs.Range.{Range}

abbrev pub multiple_text : ℕ → List ℕ
multiple_text al =
    if al == 0 then codes ""
    else (if al == 1 then codes ", a multiple of 2"
    else (if al == 2 then codes ", a multiple of 4"
    else codes ", a multiple of 8"))

-- the words of a range, read as signed
abbrev pub values_text : Range → List ℕ
values_text r = signed_decimal r.lo ++ (codes " to " ++ (signed_decimal r.hi ++ multiple_text r.alignment))

abbrev pub known_text : Option Range → List ℕ
known_text None = codes "anything: it is undefined"
known_text (Some r) = values_text r
