-- What is told of the pages is told of their entries alone.
use Rattle.std.proofs.Common.{◌≡◌, ℕ, zero, suc, ◌+◌, ◌*◌, ◌^◌, ◌<◌, ◌≤◌, List, [], ◌∷◌, refl, sym, ap, ◌∙◌, arith}
use Rattle.v8_core.specs.Ram.{entry_of}
use Rattle.v8_board.specs.Marks.{bit_of, marks, page_use_of}
use Rattle.v8_board.specs.declared.page_use.PageUse.{PageUse}
use Rattle.v8_marks.specs.Marks.{entry_at}

-- the entries of all pages
abbrev pub SameEntries : List ℕ → List ℕ → Type 0
SameEntries old new = (e : ℕ) → e < 192 → entry_at old e ≡ entry_at new e

-- so many entries of a table, of which the first is entry t
marks_same : (old new : List ℕ) (table low t k : ℕ) → SameEntries old new → table ≡ 0x2A00 + 4 * t → t + k ≤ 192 → marks old table low k ≡ marks new table low k
unfolding marks
marks_same old new table low t zero same at few = refl
marks_same old new table low t (suc k) same at few =
    let place : 0x2A00 + 4 * (t + k) ≡ table + 4 * k = omega arith in
    let last : entry_of old (table + 4 * k) ≡ entry_of new (table + 4 * k) = ap (entry_of old) (sym place) ∙ same (t + k) (omega arith) ∙ ap (entry_of new) place in
    ap (λ m. m + bit_of (entry_of old (table + 4 * k)) low * 2 ^ k) (marks_same old new table low t k same at (omega arith))
    ∙ ap (λ o. marks new table low k + bit_of o low * 2 ^ k) last

abbrev told : ℕ → ℕ → ℕ → ℕ → ℕ → ℕ → PageUse
told a b c d e f = record { referenced = a ∷ b ∷ c ∷ []; modified = d ∷ e ∷ f ∷ [] }

pub uses_same : (old new : List ℕ) → SameEntries old new → page_use_of old ≡ page_use_of new
unfolding page_use_of
uses_same old new same =
    let one = marks_same old new 0x2A00 5 0 64 same refl (omega arith) in
    let two = marks_same old new 0x2B00 5 64 64 same refl (omega arith) in
    let three = marks_same old new 0x2C00 5 128 64 same refl (omega arith) in
    let four = marks_same old new 0x2A00 6 0 64 same refl (omega arith) in
    let five = marks_same old new 0x2B00 6 64 64 same refl (omega arith) in
    let six = marks_same old new 0x2C00 6 128 64 same refl (omega arith) in
    rw (one, two, three, four, five, six) refl
