-- Marks of pages.
use Rattle.std.specs.Prelude.{ℕ, zero, suc, ◌/◌, ◌%◌, ◌^◌, ◌==◌, if◌then◌else◌, List, [], ◌∷◌, ◌++◌}

-- the mark of page i
abbrev pub mark : ℕ → ℕ → ℕ → ℕ
mark referenced modified i =
    if modified / 2 ^ i % 2 == 1 then 77
    else (if referenced / 2 ^ i % 2 == 1 then 82 else 46)

-- of the first pages, so many
abbrev pub marks_text : ℕ → ℕ → ℕ → List ℕ
marks_text referenced modified zero = []
marks_text referenced modified (suc i) = marks_text referenced modified i ++ mark referenced modified i ∷ []
