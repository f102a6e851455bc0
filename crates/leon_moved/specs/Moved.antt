-- Page tables that stand b higher in physical memory, as on a processor whose RAM doesn't begin at 0 (appendix H).
use Rattle.std.specs.Prelude.{Bool, ℕ, ◌≡◌, ◌+◌, ◌/◌, ◌%◌, ◌^◌, ◌<◌, ◌≤◌, List, ◌++◌, length, slice_index, Some}
use Rattle.std.specs.Prelude.{IsSomeAnd, Ok}
use Rattle.v8_mmu.specs.Ram.{entry_of, with_entry}
use Rattle.v8_mmu.specs.Paths.{LeadsTo, Translates, marked}
use Rattle.v8_mmu.specs.Walked.{walked, page_of}
use Rattle.v8_mmu.specs.declared.access.Access.{Access}
use Rattle.v8_mmu.specs.declared.translation.Found.{Found}

-- An entry that names a place b higher. A page's place is named in its bits from 8 on, without its low 12, that of a
-- table from 2 on, without its low 6.
abbrev pub moved : ℕ → ℕ → ℕ
moved b w = w + b / 16

-- a distance of whole regions of 16 MB
abbrev pub IsDistance : ℕ → Type 0
IsDistance b = b % 2 ^ 24 ≡ 0

-- the entry at a place, and the moved one that stands b higher
abbrev pub IsMovedWord : ℕ → List ℕ → List ℕ → ℕ → Type 0
IsMovedWord b old new place = IsSomeAnd (entry_of old place) (λ w. entry_of new (place + b) ≡ Some (moved b w))

-- The path f in `old` stands b higher in `new`, as g. It ends at a page of at most 16 MB, and no place passes 36 bits.
pub record IsMoved (b : ℕ) (old new : List ℕ) (f g : Found) : Type 0 where
  pub distance : IsDistance b
  pub some : 1 ≤ f.level
  pub level : g.level ≡ f.level
  pub places : (k : ℕ) → k ≤ f.level → slice_index g.places k ≡ slice_index f.places k + b
  pub fit : (k : ℕ) → k ≤ f.level → slice_index f.places k + b < 2 ^ 36
  pub words : (k : ℕ) → k ≤ f.level → IsMovedWord b old new (slice_index f.places k)
  pub pa : g.pa ≡ f.pa + b

-- the moved path leads to the page that is b higher
abbrev pub PathsMove : Type 0
PathsMove = (b : ℕ) (old new : List ℕ) (root va : ℕ) (f g : Found) → IsMoved b old new f g → LeadsTo old root va f →
    LeadsTo new (root + b) va g

-- and so does the walk of an access that it permits
abbrev pub WalksMove : Type 0
WalksMove = (b : ℕ) (old new : List ℕ) (root va : ℕ) (a : Access) (f g : Found) → IsMoved b old new f g →
    Translates old root va a f → walked new (root + b) va a ≡ Ok (page_of g)

-- the mark of a moved entry is the moved one of its mark
abbrev pub MarksMove : Type 0
MarksMove = (b w : ℕ) (store : Bool) → IsDistance b → marked (moved b w) store ≡ moved b (marked w store)

-- words of RAM that has more below it are read and written as much higher
abbrev pub WordsMove : Type 0
WordsMove = (lower ram : List ℕ) (p w : ℕ) → length lower % 4 ≡ 0 →
    (entry_of (lower ++ ram) (length lower + p) ≡ entry_of ram p)
    × (with_entry (lower ++ ram) (length lower + p) w ≡ lower ++ with_entry ram p w)
