-- Names and numbers in the source language's own words.
use Rattle.std.specs.Prelude.{ℕ, ◌-◌, ◌/◌, ◌%◌, ◌==◌, nat_lt, if◌then◌else◌, List, ◌++◌, codes}
use Rattle.std.specs.Fmt.{decimal, signed_decimal}
use Rattle.sbx_image.specs.Range.{Range}
use Rattle.v8_forms.specs.Registers.{frame_pointer, stack_pointer}
use Rattle.v8_forms.specs.Text.{group_text}

-- a register, or word k of the frame
abbrev pub location_text : ℕ → List ℕ
location_text l =
    if l == stack_pointer then codes "%sp"
    else (if l == frame_pointer then codes "%fp"
    else (if nat_lt l 32 then group_text (l / 8) ++ decimal (l % 8)
    else codes "slot " ++ decimal (l - 32)))

abbrev pub bounds_text : Range → List ℕ
bounds_text r = signed_decimal r.lo ++ (codes "," ++ (signed_decimal r.hi ++ (codes "," ++ decimal r.alignment)))
