-- A bus over an array of words, as the tests have it: RAM alone, whose words are reached as words.
use Rattle.std.specs.Prelude.{ℕ, false, List, [], ◌∷◌, ◌++◌, Option, None}
use Rattle.std.specs.Int.{w32, to_be_bytes}
use Rattle.std.specs.Option.{option_map}
use Rattle.v8_word.specs.declared.Size.{Size}
use Rattle.v8_word.specs.declared.Size.TheVariants.{Byte, Half, Word, Double}
use Rattle.v8_mmu.specs.Ram.{entry_of, with_entry}
use Rattle.v8_mmu.specs.Meaning.{Meaning, exchanged_after}

-- the bytes of these words, one after another
unfoldable pub bytes_of : List ℕ → List ℕ
bytes_of [] = []
bytes_of (w ∷ ws) = to_be_bytes w32 w ++ bytes_of ws

abbrev pub word_load : List ℕ → Unit {0} → ℕ → Size → Option (ℕ × Unit {0})
word_load ram d at Word = option_map (λ w. (w, tt)) (entry_of ram at)
word_load ram d at Byte = None
word_load ram d at Half = None
word_load ram d at Double = None

abbrev pub word_store : List ℕ → Unit {0} → ℕ → Size → ℕ → Option (List ℕ × Unit {0})
word_store ram d at Word v = option_map (λ w. (with_entry ram at v, tt)) (entry_of ram at)
word_store ram d at Byte v = None
word_store ram d at Half v = None
word_store ram d at Double v = None

abbrev pub word_swap : List ℕ → Unit {0} → ℕ → Size → ℕ → Option (ℕ × List ℕ × Unit {0})
word_swap ram d at size v = exchanged_after word_store ram at size v (word_load ram d at size)

abbrev pub word_bus : Meaning (Unit {0})
word_bus = record {
  stopped = λ d. None;
  load = word_load;
  store = word_store;
  swap = word_swap;
  asks =
      λ d at size store. false;
}
