-- What a bus does, as functions of its RAM and its device.
use Rattle.std.specs.Prelude.{ℕ, ◌^◌, Bool, List, Option, Some, None}
use Rattle.v8_word.specs.declared.Size.{Size}
use Rattle.v8_word.specs.declared.Size.TheVariants.{Byte, Half, Word, Double}
use Rattle.v8_mmu.specs.declared.bus.Stop.{Stop}
pub use Rattle.v8_word.specs.Sizes.{bytes_in}

-- What a bus with devices of this type does. Nothing is changed where nothing answers.
pub record Meaning (D : Type 0) : Type 0 where
  -- what has stopped the machine
  pub stopped : D → Option Stop
  -- RAM, device, place, size: the value, and the device afterwards; None where nothing answers
  pub load : List ℕ → D → ℕ → Size → Option (ℕ × D)
  -- RAM, device, place, size, value: the RAM and the device afterwards; None where nothing answers
  pub store : List ℕ → D → ℕ → Size → ℕ → Option (List ℕ × D)
  -- RAM, device, place, size, value, of an exchange, which is one access: the value that was there, and the RAM and the
  -- device afterwards; None where nothing answers
  pub swap : List ℕ → D → ℕ → Size → ℕ → Option (ℕ × List ℕ × D)
  -- device, place, size, whether it is a store or an exchange: whether an access there may call the port
  pub asks : D → ℕ → Size → Bool → Bool

-- one more than the greatest number of this size
abbrev pub limit_of : Size → ℕ
limit_of Byte = 2 ^ 8
limit_of Half = 2 ^ 16
limit_of Word = 2 ^ 32
limit_of Double = 2 ^ 64

-- the number that comes in, and RAM and device afterwards; a load leaves RAM
abbrev pub loaded_from : {D : Type 0} → List ℕ → Option (ℕ × D) → Option (ℕ × List ℕ × D)
loaded_from ram (Some answer) = Some (answer.0, ram, answer.1)
loaded_from ram None = None

-- the same of a store, with this value
abbrev pub stored_after : {D T : Type 0} → T → Option (List ℕ × D) → Option (T × List ℕ × D)
stored_after old (Some new) = Some (old, new.0, new.1)
stored_after old None = None

-- After a load at a place, a store there: the old value, and the RAM and the device afterwards. Nothing answers where
-- either has no answer. The exchange of a bus that takes it for a load and a store.
abbrev pub exchanged_after : {D : Type 0} → (List ℕ → D → ℕ → Size → ℕ → Option (List ℕ × D)) → List ℕ → ℕ → Size → ℕ →
    Option (ℕ × D) → Option (ℕ × List ℕ × D)
exchanged_after store ram at size value (Some loaded) = stored_after loaded.0 (store ram loaded.1 at size value)
exchanged_after store ram at size value None = None
