-- The words of RAM that a machine changed.
use Rattle.std.specs.Prelude.{ℕ, zero, suc, ◌*◌, ◌/◌, ◌==◌, if◌then◌else◌, List, [], ◌++◌, codes, Option, Some, None}
use Rattle.v8_core.specs.Ram.{entry_of}
use Rattle.v8_map.specs.declared.TheConstants.{RAM}
use Rattle.inspect_lines.specs.Words.{word_text}

-- the words of RAM
abbrev pub WORDS : ℕ
WORDS = RAM / 4

-- a word at its place, as a file of a start spells both, where it is another than at first
abbrev pub change_text : ℕ → Option ℕ → Option ℕ → List ℕ
change_text place None now = []
change_text place (Some before) None = []
change_text place (Some before) (Some word) =
    if before == word then [] else codes "0x" ++ (word_text place ++ (codes " 0x" ++ (word_text word ++ codes "\n")))

-- the same of the first words, so many
unfoldable pub changes_text : List ℕ → List ℕ → ℕ → List ℕ
changes_text first now zero = []
changes_text first now (suc k) =
    changes_text first now k ++ change_text (4 * k) (entry_of first (4 * k)) (entry_of now (4 * k))
