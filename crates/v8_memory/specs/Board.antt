-- What the board's bus does: 1 MiB of RAM from physical address 0, and a device of four word registers at 100000000.
use Rattle.std.specs.Prelude.{ℕ, ◌≡◌, ◌+◌, ◌-◌, ◌%◌, ◌^◌, ◌==◌, ◌&&◌, not, Bool, true, false, List, [], ◌∷◌, ◌++◌}
use Rattle.std.specs.Prelude.{length, slice_index, nat_lt, Option, Some, None, if◌then◌else◌}
use Rattle.v8_mmu.specs.Size.{Size}
use Rattle.v8_mmu.specs.Size.TheVariants as sizes
use Rattle.v8_mmu.specs.declared.bus.Stop.{Stop}
use Rattle.v8_mmu.specs.declared.bus.Stop.TheVariants.{Exit, Trapped}
use Rattle.v8_mmu.specs.Meaning.{Meaning, exchanged_after}
use Rattle.v8_mmu.specs.Ram.{number_at, with_number}
use Rattle.v8_mmu.specs.States.{Memory, Ported}
use Rattle.v8_map.specs.declared.TheConstants.{DEVICE_PLACE, RAM}
use Rattle.v8_memory.specs.Input.{next_byte}
use Rattle.v8_memory.specs.declared.port.Port.{Ghosts}

-- The device: the input that is left, whether its end was met, the output so far, and what has stopped the machine.
pub record Device : Type 0 where
  pub input : List ℕ
  pub ended : Bool
  pub output : List ℕ
  pub stopped : Option Stop

abbrev pub seen : List ℕ → Bool → List ℕ → Option Stop → Device
seen i e o s = record { input = i; ended = e; output = o; stopped = s }

-- RAM and the device, whose port this is, as a bus is seen
abbrev pub board_seen : {P : Type 0} → (g : Ghosts P) → List ℕ → P → Bool → Option Stop → Ported (Memory Device)
board_seen g ram port ended stopped = record {
  held = record { ram = ram; device = seen (g.input port) ended (g.output port) stopped };
  port = record { failed = g.failed port; calls = g.calls port; fault = g.fault port };
}

-- RAM as it is made
pub record IsBlank (ram : List ℕ) : Type 0 where
  pub size : length ram ≡ RAM
  pub zeros : (i : ℕ) → slice_index ram i ≡ 0

-- addresses from here on are the device's
abbrev pub device_base : ℕ
device_base = DEVICE_PLACE

-- ---- the register that gives input

-- the byte that was got, or all ones at the end of the input
abbrev pub got_word : Option ℕ → ℕ
got_word (Some byte) = byte
got_word None = 0xFFFFFFFF

abbrev pub has_ended : Option ℕ → Bool
has_ended (Some byte) = false
has_ended None = true

abbrev pub got_from : Device → Option ℕ × List ℕ → ℕ × Device
got_from d next = (got_word next.0, record d { input = next.1; ended = has_ended next.0 })

-- an input that has ended isn't asked again
unfoldable pub gets : Device → ℕ × Device
gets d = if d.ended then (0xFFFFFFFF, d) else got_from d (next_byte d.input)

-- ---- loads and stores

abbrev pub is_word : Size → Bool
is_word sizes.Byte = false
is_word sizes.Half = false
is_word sizes.Word = true
is_word sizes.Double = false

-- a word at the first register; nothing else there answers a load
unfoldable pub device_load : Device → ℕ → Size → Option (ℕ × Device)
device_load d place size = if is_word size && place == 0 then Some (gets d) else None

-- a word at one of the others: its low byte is put out, or it stops the machine
unfoldable pub device_store : Device → ℕ → Size → ℕ → Option Device
device_store d place size v =
    if not (is_word size) then None
    else (if place == 4 then Some (record d { output = d.output ++ (v % 2 ^ 8) ∷ [] })
    else (if place == 8 then Some (record d { stopped = Some (Exit v) })
    else (if place == 12 then Some (record d { stopped = Some Trapped }) else None)))

abbrev pub beside : {D : Type 0} → D → Option ℕ → Option (ℕ × D)
beside d (Some v) = Some (v, d)
beside d None = None

-- where RAM has a number of this size, it may be written
abbrev pub overwritten : {D : Type 0} → List ℕ → D → ℕ → Size → ℕ → Option ℕ → Option (List ℕ × D)
overwritten ram d at size v (Some before) = Some (with_number ram at size v, d)
overwritten ram d at size v None = None

abbrev pub with_ram : List ℕ → Option Device → Option (List ℕ × Device)
with_ram ram (Some d) = Some (ram, d)
with_ram ram None = None

unfoldable pub board_load : List ℕ → Device → ℕ → Size → Option (ℕ × Device)
board_load ram d pa size =
    if nat_lt pa device_base then beside d (number_at ram pa size) else device_load d (pa - device_base) size

unfoldable pub board_store : List ℕ → Device → ℕ → Size → ℕ → Option (List ℕ × Device)
board_store ram d pa size v =
    if nat_lt pa device_base then overwritten ram d pa size v (number_at ram pa size)
    else with_ram ram (device_store d (pa - device_base) size v)

-- an exchange is a load and then a store: the device has no register that answers both
abbrev pub board_swap : List ℕ → Device → ℕ → Size → ℕ → Option (ℕ × List ℕ × Device)
board_swap ram d pa size v = exchanged_after board_store ram pa size v (board_load ram d pa size)

-- the port is called by a load of the first register while the input hasn't ended, and by a store to the second one
abbrev pub board_asks : Device → ℕ → Size → Bool → Bool
board_asks d pa size false = is_word size && pa == device_base && not d.ended
board_asks d pa size true = is_word size && pa == device_base + 4

abbrev pub board : Meaning Device
board = record {
  stopped = λ d. d.stopped;
  load = board_load;
  store = board_store;
  swap = board_swap;
  asks =
      board_asks;
}
