-- Words of RAM that are others than was told.
use Rattle.std.specs.Prelude.{ℕ, ◌==◌, if◌then◌else◌, List, [], ◌++◌, codes, Option, Some, None}
use Rattle.v8_mmu.specs.Ram.{entry_of, with_entry}
use Rattle.inspect_lines.specs.Words.{word_text}
use Rattle.inspect_states.specs.declared.words.Places.{Places}

-- a word by its physical address: behind `e` that of a page entry, behind `m` one that was stored to
abbrev pub word_item : List ℕ → ℕ → ℕ → List ℕ
word_item letter place word = codes " " ++ (letter ++ (word_text place ++ (codes "=" ++ word_text word)))

-- the text of a word that was this one and is that, and RAM as it is known then
abbrev pub change_of : List ℕ → List ℕ → ℕ → Option ℕ → Option ℕ → List ℕ × List ℕ
change_of letter known place None now = ([], known)
change_of letter known place (Some before) None = ([], known)
change_of letter known place (Some before) (Some word) =
    if before == word then ([], known) else (word_item letter place word, with_entry known place word)

-- the same of the word at a place in RAM as it is known, and in RAM as it is
abbrev pub change_at : List ℕ → List ℕ → List ℕ → Option ℕ → List ℕ × List ℕ
change_at letter known now None = ([], known)
change_at letter known now (Some place) = change_of letter known place (entry_of known place) (entry_of now place)

-- page entries first, then what was stored; a word is told once
unfoldable pub told_words : List ℕ → List ℕ → Places → List ℕ × List ℕ
told_words known now p =
    let a = change_at (codes "e") known now p.fetched in
    let b = change_at (codes "e") a.1 now p.accessed in
    let c = change_at (codes "m") b.1 now p.stored in
    let d = change_at (codes "m") c.1 now p.second in
    (a.0 ++ (b.0 ++ (c.0 ++ d.0)), d.1)
