-- The pieces of an image's blocks: what runs whole, from its first word to its last one. A piece ends with a transfer's
-- slot, with the word that ends the run, or with its block.
use Rattle.std.specs.Prelude.{◌≡◌, ℕ, zero, suc, ◌+◌, ◌*◌, ◌<◌, ◌≤◌, ◌⊎◌, ◌||◌, Bool, true, false, nat_le}
use Rattle.v8_meaning.specs.declared.operation.Operation.{Operation}
use Rattle.v8_meaning.specs.declared.operation.Operation.TheVariants.{BranchOnCondition}
use Rattle.sbx_image.specs.Parts.{Parts}
use Rattle.sbx_image.specs.Order.{words_in}
use Rattle.sbx_flat.specs.Runs.{weight_of}
use Rattle.sbx_rules.specs.Operations.{is_transfer}
use Rattle.sbx_rules.specs.Places.{ends_run, op_at, op_before}
use Rattle.sbx_known.specs.Spots.{IsBlock}
use Rattle.inspect_cycles.specs.Cycles.{cycles_of, slot_cycles}
use Rattle.inspect_cycles.specs.declared.table.CycleTable.{CycleTable}
use Rattle.inspect_cycles.specs.declared.pieces.Piece.{Piece}

-- a word that is a transfer's slot, or ends the run
abbrev pub turns_off : Operation → Operation → Bool
turns_off before op = is_transfer before || ends_run op

-- with a word more
abbrev pub longer : Piece → ℕ → ℕ → Piece
longer piece cycles turns = record { cycles = piece.cycles + cycles; turns = piece.turns + turns }

abbrev pub no_words : Piece
no_words = record { cycles = 0; turns = 0 }

-- what goes on behind a word, where its piece ends there or doesn't
abbrev pub kept_on : Bool → Piece → Piece
kept_on true piece = no_words
kept_on false piece = piece

-- what its piece takes before word i of a block
unfoldable pub piece_before : CycleTable → Parts → ℕ → ℕ → ℕ → Piece
piece_before t parts f b zero = no_words
piece_before t parts f b (suc i) =
    kept_on (turns_off (op_before parts f b i) (op_at parts f b i))
    (longer (piece_before t parts f b i) (cycles_of t (op_at parts f b i)) (weight_of (op_at parts f b i)))

-- ---- whole pieces

-- a word is the last one of its piece, where what stands before it, itself, its number and its block's count of words
-- are these
abbrev pub ends_piece : Operation → Operation → ℕ → ℕ → Bool
ends_piece before op i count = turns_off before op || nat_le count (i + 1)

abbrev pub is_branch : Operation → Bool
is_branch (BranchOnCondition c) = true
is_branch _ = false

-- What ends with a word, where a piece stands before it: the piece as a whole, or with its slot annulled.
abbrev pub Ends : CycleTable → Piece → Operation → Operation → ℕ → ℕ → Piece → Type 0
Ends t piece before op i count ended =
    ((ends_piece before op i count ≡ true) × (ended ≡ longer piece (cycles_of t op) (weight_of op)))
    ⊎ ((is_branch before ≡ true) × (ended ≡ longer piece (slot_cycles t) 1))

-- the same of word i of a block
abbrev pub EndsAt : CycleTable → Parts → ℕ → ℕ → ℕ → Piece → Type 0
EndsAt t parts f b i ended =
    Ends t (piece_before t parts f b i) (op_before parts f b i) (op_at parts f b i) i (words_in parts f b) ended

abbrev pub IsOfBlock : CycleTable → Parts → ℕ → ℕ → Piece → Type 0
IsOfBlock t parts f b piece = (i : ℕ) × (i < words_in parts f b) × EndsAt t parts f b i piece

-- ---- the dearest piece

-- a piece takes no more by the turn than another one
abbrev pub IsWithin : Piece → Piece → Type 0
IsWithin most piece = piece.cycles * most.turns ≤ most.cycles * piece.turns

-- a turn without cycles: no piece takes less
abbrev pub least : Piece
least = record { cycles = 0; turns = 1 }

-- no piece that ends with word i of a block is dearer
abbrev pub EndsWithin : CycleTable → Parts → Piece → ℕ → ℕ → ℕ → Type 0
EndsWithin t parts most f b i = (ended : Piece) → EndsAt t parts f b i ended → IsWithin most ended

abbrev pub AreWithin : CycleTable → Parts → Piece → ℕ → ℕ → Type 0
AreWithin t parts most f b = (i : ℕ) → i < words_in parts f b → EndsWithin t parts most f b i

-- A piece of a block than which none of the block is dearer by the turn; the least, where none takes any cycles.
pub record IsDearestOf (t : CycleTable) (parts : Parts) (f b : ℕ) (most : Piece) : Type 0 where
  pub some : 1 ≤ most.turns
  pub within : AreWithin t parts most f b
  pub is : (most ≡ least) ⊎ IsOfBlock t parts f b most

-- The same of an image.
pub record IsDearest (t : CycleTable) (parts : Parts) (most : Piece) : Type 0 where
  pub some : 1 ≤ most.turns
  pub within : (f b : ℕ) → IsBlock parts f b → AreWithin t parts most f b
  pub is : (most ≡ least) ⊎ ((f : ℕ) × (b : ℕ) × IsBlock parts f b × IsOfBlock t parts f b most)
