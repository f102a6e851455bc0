-- Functions, blocks and words by number: where they start and end, and in which order they stand in the code.
use Rattle.std.specs.Prelude.{◌≡◌, ℕ, ◌+◌, ◌-◌, ◌*◌, ◌/◌, ◌<◌, ◌≤◌, [], length, Option, Some, None, pos, slice_get}
use Rattle.v8_map.specs.declared.TheConstants.{CODE_END}
use Rattle.sbx_parts.specs.declared.parts.Block.{Block}
use Rattle.sbx_parts.specs.declared.parts.Function.{Function}
use Rattle.sbx_parts.specs.declared.parts.Kind.TheVariants.{Leaf}
use Rattle.sbx_parts.specs.declared.parts.Parts.{Parts}
use Rattle.sbx_parts.specs.Rules.{code_start}

-- ---- functions and blocks by number; the numbers in use are below the lengths

abbrev pub no_block : Block
no_block = record { address = 0; fuel = pos 0; cells = []; terms = [] }

abbrev pub no_function : Function
no_function =
    record {
      kind = Leaf;
      params = [];
      results = [];
      entry = 0;
      frame = 0;
      stack_room = 0;
      budget = 0;
      depth =
          0;
      blocks = [];
    }

abbrev pub or_function : Option Function → Function
or_function None = no_function
or_function (Some f) = f

abbrev pub or_block : Option Block → Block
or_block None = no_block
or_block (Some b) = b

abbrev pub function_at : Parts → ℕ → Function
function_at parts f = or_function (slice_get parts.functions f)

abbrev pub block_at : Parts → ℕ → ℕ → Block
block_at parts f b = or_block (slice_get (function_at parts f).blocks b)

abbrev pub IsFunction : Parts → ℕ → Type 0
IsFunction parts f = f < length parts.functions

abbrev pub IsBlock : Parts → ℕ → ℕ → Type 0
IsBlock parts f b = IsFunction parts f × (b < length (function_at parts f).blocks)

-- ---- where they start and end

abbrev pub code_end : Parts → ℕ
code_end parts = code_start + 4 * length parts.words

abbrev pub entry_or_end : ℕ → Option Function → ℕ
entry_or_end end None = end
entry_or_end end (Some f) = f.entry

abbrev pub address_or_end : ℕ → Option Block → ℕ
address_or_end end None = end
address_or_end end (Some b) = b.address

-- a function ends where the next one begins, a block where the next block of its function does, and the last ones with
-- what they are in
abbrev pub function_end : Parts → ℕ → ℕ
function_end parts f = entry_or_end (code_end parts) (slice_get parts.functions (f + 1))

abbrev pub block_end : Parts → ℕ → ℕ → ℕ
block_end parts f b = address_or_end (function_end parts f) (slice_get (function_at parts f).blocks (b + 1))

-- how many words a block has
unfoldable pub words_in : Parts → ℕ → ℕ → ℕ
words_in parts f b = (block_end parts f b - (block_at parts f b).address) / 4

-- where word i of a block is
unfoldable pub address_of : Parts → ℕ → ℕ → ℕ → ℕ
address_of parts f b i = (block_at parts f b).address + 4 * i

-- ---- their order

-- A block has one word or more, and they are words of the code.
pub record HasWords (parts : Parts) (f b : ℕ) : Type 0 where
  pub some : 1 ≤ words_in parts f b
  pub ends : address_of parts f b (words_in parts f b) ≡ block_end parts f b
  pub each : (i : ℕ) → i < words_in parts f b →
      (k : ℕ) × (k < length parts.words) × (address_of parts f b i ≡ code_start + 4 * k)

-- The code begins with the first function. A function has a block or more, and begins with its first one. Blocks follow
-- one another.
pub record AreInOrder (parts : Parts) : Type 0 where
  pub first : IsBlock parts 0 0 × (address_of parts 0 0 0 ≡ code_start)
  pub entries : (f : ℕ) → IsFunction parts f →
      IsBlock parts f 0 × ((function_at parts f).entry ≡ address_of parts f 0 0)
  pub blocks : (f b : ℕ) → IsBlock parts f b → HasWords parts f b
  pub ascending : (f b c : ℕ) → b < c → IsBlock parts f c → block_end parts f b ≤ address_of parts f c 0
  pub functions : (f g b c : ℕ) → f < g → IsBlock parts f b → IsBlock parts g c →
      block_end parts f b ≤ address_of parts g c 0
  pub small : code_end parts ≤ CODE_END

-- word i of block b of function f, at an address
pub record StandsAt (parts : Parts) (address f b i : ℕ) : Type 0 where
  pub block : IsBlock parts f b
  pub word : i < words_in parts f b
  pub there : address_of parts f b i ≡ address

-- one word of one block of one function stands there
pub record HasPlace (parts : Parts) (address : ℕ) : Type 0 where
  pub function : ℕ
  pub block : ℕ
  pub word : ℕ
  pub there : StandsAt parts address function block word
  pub only : (f b i : ℕ) → StandsAt parts address f b i → (f ≡ function) × (b ≡ block) × (i ≡ word)

-- each word of the code has a place
abbrev pub HavePlaces : Parts → Type 0
HavePlaces parts = (k : ℕ) → k < length parts.words → HasPlace parts (code_start + 4 * k)
