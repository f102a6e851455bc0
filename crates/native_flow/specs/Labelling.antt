-- Where the blocks of a program begin, and which labels they have.
use Rattle.std.specs.Prelude.{◌≡◌, ℕ, ◌+◌, ◌-◌, ◌*◌, ◌<◌, ◌≤◌, ◌==◌, ◌||◌, ◌&&◌, Bool, true, false, nat_le, List, [], ◌∷◌, length}
use Rattle.std.specs.Prelude.{Some, if◌then◌else◌, slice_get, slice_index}
use Rattle.v8_meaning.specs.Operands.{target}
use Rattle.v8_meaning.specs.declared.operation.Operation.{Operation}
use Rattle.v8_meaning.specs.declared.operation.Operation.TheVariants.{Call}
use Rattle.sbx_image.specs.Order.{address_or_end, block_at, block_end, entry_or_end, code_end, function_at, function_end}
use Rattle.sbx_image.specs.Parts.{Parts}
use Rattle.sbx_image.specs.Rules.{code_start}
use Rattle.sbx_flat.specs.Turns.{asked}
use Rattle.native_ends.specs.Translations.{AsksFor, Begins, Labelled, LiesIn}
use Rattle.native_flow.specs.declared.labels.Site.{Site}

-- ---- the code, block by block

abbrev pub is_call : Operation → Bool
is_call (Call displacement) = true
is_call _ = false

-- where a block begins, or behind the last one its function ends
abbrev pub block_or_end : Parts → ℕ → ℕ → ℕ
block_or_end parts f b = address_or_end (function_end parts f) (slice_get (function_at parts f).blocks b)

-- where a function begins, or behind the last one the code ends
abbrev pub function_or_end : Parts → ℕ → ℕ
function_or_end parts f = entry_or_end (code_end parts) (slice_get parts.functions f)

-- the address of a word of the code
abbrev pub word_address : ℕ → ℕ
word_address k = code_start + 4 * k

-- a block of the program begins with the image's block, which begins at word `first`, and behind each call and its slot
abbrev pub begins_at : List ℕ → ℕ → ℕ → Bool
begins_at words first k = (k == first) || (nat_le (first + 2) k && is_call (asked (slice_index words (k - 2))))

-- ---- labels

-- each of them is less than those behind it
abbrev pub Rises : List ℕ → Type 0
Rises starts = (i j : ℕ) → i < j → j < length starts → slice_index starts i < slice_index starts j

-- The addresses below a bound where the program's blocks begin, each once, in order, with the function of each.
pub record AreStarts (parts : Parts) (bound : ℕ) (starts owners : List ℕ) : Type 0 where
  pub many : length owners ≡ length starts
  pub ascending : Rises starts
  pub below : (i : ℕ) → i < length starts → slice_index starts i < bound
  pub begin : (i : ℕ) → i < length starts → Begins parts (slice_index starts i)
  pub owned : (i : ℕ) → i < length starts → LiesIn parts (slice_index owners i) (slice_index starts i)
  pub all : (a : ℕ) → Begins parts a → a < bound → (i : ℕ) × (i < length starts) × (slice_index starts i ≡ a)
  pub few : word_address (length starts) ≤ bound

-- Each call of the code.
abbrev pub HasCalls : Parts → List Site → Type 0
HasCalls parts sites = (a displacement : ℕ) → AsksFor parts a (Call displacement) →
    (i : ℕ) × (slice_get sites i ≡ Some (record { address = a; entry = target a displacement }))

-- label 0 is the run's start; an address has its place in the list and 1, and behind all others is what is never reached
abbrev pub label_at : List ℕ → ℕ → ℕ
label_at [] a = 1
label_at (start ∷ rest) a = if start == a then 1 else label_at rest a + 1

-- the places where functions return are behind it
abbrev pub labels_of : List ℕ → Labelled
labels_of starts = record { at = label_at starts; returns = λ f. length starts + 2 + f }

-- The words of a block of the image, by number: from the first up to but not the last.
pub record IsRow (parts : Parts) (f b first last : ℕ) : Type 0 where
  pub begins : (block_at parts f b).address ≡ word_address first
  pub ends : block_end parts f b ≡ word_address last
  pub more : first < last
  pub within : last ≤ length parts.words

-- the same of the first words alone
abbrev pub HasCallsBelow : List ℕ → ℕ → List Site → Type 0
HasCallsBelow words n sites = (k displacement : ℕ) → k < n → asked (slice_index words k) ≡ Call displacement → (i : ℕ)
    × (slice_get sites i ≡ Some (record { address = word_address k; entry = target (word_address k) displacement }))
