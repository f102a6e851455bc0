-- The block of bytes, from 00080000 up to but not at 00100000, which holds data and frame words at their addresses.
use Rattle.std.specs.Prelude.{ℕ, zero, suc, ◌+◌, ◌-◌, ◌*◌, ◌^◌, Bool, ◌&&◌, nat_le, List, slice_index, slice_set}
use Rattle.std.specs.Prelude.{Option, Some, None, if◌then◌else◌}
use Rattle.sbx_flat.specs.Memory.{Bytes, byte_of}
use Rattle.native_lang.specs.declared.stmt.NumberWidth.{NumberWidth}
use Rattle.native_lang.specs.declared.stmt.NumberWidth.TheVariants.{Byte, Half, Word}

abbrev pub bytes_of_width : NumberWidth → ℕ
bytes_of_width Byte = 1
bytes_of_width Half = 2
bytes_of_width Word = 4

-- the block in the flat machine's terms: bytes by address, none outside
abbrev pub memory_of : List ℕ → Bytes
memory_of block a = if nat_le 0x80000 a && nat_le (a + 1) 0x100000 then Some (slice_index block (a - 0x80000)) else None

abbrev pub has_room : ℕ → ℕ → Bool
has_room address count = nat_le 0x80000 address && nat_le (address + count) 0x100000

-- the number of so many bytes from a place on, the first the highest
abbrev pub number_in : List ℕ → ℕ → ℕ → ℕ
number_in bytes place zero = 0
number_in bytes place (suc count) = number_in bytes place count * 2 ^ 8 + slice_index bytes (place + count)

-- the same with the first k of a number's count bytes written
abbrev pub put_in : List ℕ → ℕ → ℕ → ℕ → ℕ → List ℕ
put_in bytes place count number zero = bytes
put_in bytes place count number (suc k) =
    slice_set (put_in bytes place count number k) (place + k) (byte_of count number k)

-- x is the number of 1, 2 or 4 bytes at address e; none where they lie not all in the block
abbrev pub loaded : List ℕ → ℕ → ℕ → Option ℕ
loaded block a count = if has_room a count then Some (number_in block (a - 0x80000) count) else None

-- the low bytes of v go to address e
abbrev pub stored : List ℕ → ℕ → ℕ → ℕ → Option (List ℕ)
stored block a count number =
    if has_room a count then Some (put_in block (a - 0x80000) count number count) else None
