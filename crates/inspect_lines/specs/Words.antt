-- Words of the machine, as text: numbers in hexadecimal digits, and the names of traps.
use Rattle.std.specs.Prelude.{ℕ, ◌-◌, ◌^◌, ◌==◌, nat_le, false, true, if◌then◌else◌, List, [], ◌++◌, codes}
use Rattle.std.specs.Fmt.{digits, format_spec, padded_integral}

-- eight digits
abbrev pub word_text : ℕ → List ℕ
word_text w = padded_integral (format_spec 32 0 4 8 (2 ^ 64 - 1)) false [] (digits 16 true w)

-- two digits
abbrev pub byte_text : ℕ → List ℕ
byte_text b = padded_integral (format_spec 32 0 4 2 (2 ^ 64 - 1)) false [] (digits 16 true b)

-- the name of a trap type that this machine has (chapter 7, table 7-1)
abbrev pub trap_name : ℕ → List ℕ
trap_name t =
    if t == 0x01 then codes "instruction_access_exception"
    else (if t == 0x02 then codes "illegal_instruction"
    else (if t == 0x03 then codes "privileged_instruction"
    else (if t == 0x04 then codes "fp_disabled"
    else (if t == 0x05 then codes "window_overflow"
    else (if t == 0x06 then codes "window_underflow"
    else (if t == 0x07 then codes "mem_address_not_aligned"
    else (if t == 0x09 then codes "data_access_exception"
    else (if t == 0x0A then codes "tag_overflow"
    else (if t == 0x24 then codes "cp_disabled"
    else (if t == 0x2A then codes "division_by_zero"
    else (if nat_le 0x80 t then codes "trap_instruction"
    else codes "reserved")))))))))))

-- its number and its name
abbrev pub trap_text : ℕ → List ℕ
trap_text t = byte_text t ++ (codes " " ++ trap_name t)
