-- RAM as a list of bytes, and the big-endian numbers in it.
use Rattle.std.specs.Prelude.{ℕ, ◌≡◌, ◌⊎◌, ◌<◌, ◌≤◌, ◌+◌, ◌*◌, ◌/◌, ◌%◌, ◌^◌, ◌==◌, ◌&&◌, List, [], ◌∷◌, ◌++◌, length}
use Rattle.std.specs.Prelude.{slice_index, take, drop, nat_le, nat_lt, Option, Some, None, if◌then◌else◌}
use Rattle.std.specs.Int.{w16, w32, from_be_bytes, to_be_bytes}
use Rattle.v8_word.specs.declared.Size.{Size}
use Rattle.v8_word.specs.declared.Size.TheVariants.{Byte, Half, Word, Double}

-- the word of RAM at a place, a multiple of 4
unfoldable pub entry_of : List ℕ → ℕ → Option ℕ
entry_of ram at =
    if at % 4 == 0 && nat_le (at + 4) (length ram) then Some (from_be_bytes w32 (take 4 (drop at ram))) else None

-- the RAM with another word at a place
unfoldable pub with_entry : List ℕ → ℕ → ℕ → List ℕ
with_entry ram at w = take at ram ++ to_be_bytes w32 w ++ drop (at + 4) ram

-- the halfword of RAM at a place, a multiple of 2
unfoldable pub half_of : List ℕ → ℕ → Option ℕ
half_of ram at =
    if at % 2 == 0 && nat_le (at + 2) (length ram) then Some (from_be_bytes w16 (take 2 (drop at ram))) else None

unfoldable pub with_half : List ℕ → ℕ → ℕ → List ℕ
with_half ram at h = take at ram ++ to_be_bytes w16 h ++ drop (at + 2) ram

-- the byte of RAM at a place
unfoldable pub byte_of : List ℕ → ℕ → Option ℕ
byte_of ram at = if nat_lt at (length ram) then Some (slice_index ram at) else None

unfoldable pub with_byte : List ℕ → ℕ → ℕ → List ℕ
with_byte ram at b = take at ram ++ b ∷ [] ++ drop (at + 1) ram

-- two words as one number
abbrev pub joined : Option ℕ → Option ℕ → Option ℕ
joined (Some high) (Some low) = Some (high * 2 ^ 32 + low)
joined (Some high) None = None
joined None low = None

-- the double word of RAM at a place, a multiple of 8: two words, the first the more significant one
unfoldable pub double_of : List ℕ → ℕ → Option ℕ
double_of ram at = if at % 8 == 0 then joined (entry_of ram at) (entry_of ram (at + 4)) else None

unfoldable pub with_double : List ℕ → ℕ → ℕ → List ℕ
with_double ram at v = with_entry (with_entry ram at (v / 2 ^ 32)) (at + 4) (v % 2 ^ 32)

-- the number of this size at a place, a multiple of the size
abbrev pub number_at : List ℕ → ℕ → Size → Option ℕ
number_at ram at Byte = byte_of ram at
number_at ram at Half = half_of ram at
number_at ram at Word = entry_of ram at
number_at ram at Double = double_of ram at

-- the RAM with another number of this size at a place
abbrev pub with_number : List ℕ → ℕ → Size → ℕ → List ℕ
with_number ram at Byte v = with_byte ram at v
with_number ram at Half v = with_half ram at v
with_number ram at Word v = with_entry ram at v
with_number ram at Double v = with_double ram at v

-- the words without one of so many bytes from a place on are as before
abbrev pub KeepsWords : List ℕ → List ℕ → ℕ → ℕ → Type 0
KeepsWords old new at count = (p : ℕ) → (p + 4 ≤ at) ⊎ (at + count ≤ p) → entry_of new p ≡ entry_of old p

-- these are bytes
abbrev pub AreBytes : List ℕ → Type 0
AreBytes bs = (i : ℕ) → slice_index bs i < 256

-- the four numbers from this place on are bytes
abbrev pub HasBytes : List ℕ → ℕ → Type 0
HasBytes ram at = (slice_index ram at < 256) × (slice_index ram (at + 1) < 256) × (slice_index ram (at + 2) < 256)
    × (slice_index ram (at + 3) < 256)
