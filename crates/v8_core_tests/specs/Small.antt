-- A small bus: some bytes of RAM from address 0, and at 10000000 a word that reads 7 and that, written, stops the
-- machine.
use Rattle.std.specs.Prelude.{ℕ, Bool, true, false, ◌+◌, ◌*◌, ◌/◌, ◌%◌, ◌^◌, ◌==◌, ◌&&◌, List, ◌++◌, take, drop, length}
use Rattle.std.specs.Prelude.{slice_index, slice_set, nat_le, Option, Some, None, if◌then◌else◌}
use Rattle.std.specs.Int.{w64, from_be_bytes, to_be_bytes}
use Rattle.std.specs.Option.{option_map}
use Rattle.v8_word.specs.declared.Size.{Size}
use Rattle.v8_word.specs.declared.Size.TheVariants.{Byte, Half, Word, Double}
use Rattle.v8_mmu.specs.Meaning.{Meaning, exchanged_after}
use Rattle.v8_mmu.specs.Ram.{entry_of, with_entry}
use Rattle.v8_mmu.specs.declared.bus.Stop.{Stop}
use Rattle.v8_mmu.specs.declared.bus.Stop.TheVariants.{Exit}

abbrev pub device_place : ℕ
device_place = 0x10000000

abbrev pub has_half : List ℕ → ℕ → Bool
has_half ram at = at % 2 == 0 && nat_le (at + 2) (length ram)

abbrev pub ram_load : List ℕ → ℕ → Size → Option ℕ
ram_load ram at Byte = if nat_le (at + 1) (length ram) then Some (slice_index ram at) else None
ram_load ram at Half = if has_half ram at then Some (slice_index ram at * 2 ^ 8 + slice_index ram (at + 1)) else None
ram_load ram at Word = entry_of ram at
ram_load ram at Double = if nat_le (at + 8) (length ram) then Some (from_be_bytes w64 (take 8 (drop at ram))) else None

abbrev pub ram_store : List ℕ → ℕ → Size → ℕ → Option (List ℕ)
ram_store ram at Byte v = if nat_le (at + 1) (length ram) then Some (slice_set ram at v) else None
ram_store ram at Half v =
    if has_half ram at then Some (slice_set (slice_set ram at (v / 2 ^ 8)) (at + 1) (v % 2 ^ 8)) else None
ram_store ram at Word v = option_map (λ old. with_entry ram at v) (entry_of ram at)
ram_store ram at Double v =
    if nat_le (at + 8) (length ram) then Some (take at ram ++ to_be_bytes w64 v ++ drop (at + 8) ram) else None

-- the RAM after a store that was answered or not
abbrev pub kept : Bool → List ℕ → Option (List ℕ)
kept true ram = Some ram
kept false ram = None

-- the device has one word
abbrev pub is_device : ℕ → Size → Bool
is_device at Word = at == device_place
is_device at Byte = false
is_device at Half = false
is_device at Double = false

abbrev pub with_device : Option Stop → Option ℕ → Option (ℕ × Option Stop)
with_device d (Some v) = Some (v, d)
with_device d None = None

abbrev pub small_load : List ℕ → Option Stop → ℕ → Size → Option (ℕ × Option Stop)
small_load ram d at size = with_device d (if is_device at size then Some 7 else ram_load ram at size)

abbrev pub answered : Bool → List ℕ → Option Stop → Option (List ℕ × Option Stop)
answered true ram d = Some (ram, d)
answered false ram d = None

abbrev pub stored_with : Option Stop → Option (List ℕ) → Option (List ℕ × Option Stop)
stored_with d (Some ram) = Some (ram, d)
stored_with d None = None

abbrev pub small_store : List ℕ → Option Stop → ℕ → Size → ℕ → Option (List ℕ × Option Stop)
small_store ram d at size v = if is_device at size then Some (ram, Some (Exit v)) else stored_with d
    (ram_store ram at size v)

abbrev pub small_swap : List ℕ → Option Stop → ℕ → Size → ℕ → Option (ℕ × List ℕ × Option Stop)
small_swap ram d at size v = exchanged_after small_store ram at size v (small_load ram d at size)

-- a port that is broken fails wherever it is called
abbrev pub small : Meaning (Option Stop)
small = record {
  stopped = λ d. d;
  load = small_load;
  store = small_store;
  swap = small_swap;
  asks =
      λ d at size store. true;
}
