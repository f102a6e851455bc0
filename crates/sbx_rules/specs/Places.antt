-- The places of an image's code, by the numbers of function, block and word: what each word asks for, and what begins
-- at an address. Every look-up is total; the numbers in use are below the lengths.
use Rattle.std.specs.Prelude.{ℕ, zero, suc, ◌-◌, ◌/◌, ◌<◌, Bool, false, ◌==◌, if◌then◌else◌, List, [], ◌∷◌, length}
use Rattle.std.specs.Prelude.{Option, Some, None, slice_index}
use Rattle.v8_meaning.specs.declared.operation.Operation.{Operation}
use Rattle.v8_meaning.specs.declared.operation.Operation.TheVariants.{Call, Nothing, TrapOnCondition}
use Rattle.v8_meaning.specs.Operands.{target}
use Rattle.sbx_image.specs.Order.{address_of, function_at, words_in}
use Rattle.sbx_image.specs.Rules.{code_start}
use Rattle.sbx_image.specs.Block.{Block}
use Rattle.sbx_image.specs.Function.{Function}
use Rattle.sbx_image.specs.Parts.{Parts}
use Rattle.sbx_domain.specs.Effects.{service_of}
use Rattle.sbx_domain.specs.Turns.{asked}

-- ---- words

-- word i of a block
unfoldable pub word_of_place : Parts → ℕ → ℕ → ℕ → ℕ
word_of_place parts f b i = slice_index parts.words ((address_of parts f b i - code_start) / 4)

-- what word i of a block asks for
abbrev pub op_at : Parts → ℕ → ℕ → ℕ → Operation
op_at parts f b i = asked (word_of_place parts f b i)

-- what the word before it asks for, in the same block; nothing stands before a block's first word
abbrev pub op_before : Parts → ℕ → ℕ → ℕ → Operation
op_before parts f b zero = Nothing
op_before parts f b (suc i) = op_at parts f b i

-- word i of block b of function f is there
pub record IsPlace (parts : Parts) (f b i : ℕ) : Type 0 where
  pub function : f < length parts.functions
  pub block : b < length (function_at parts f).blocks
  pub word : i < words_in parts f b

-- ---- finding by address

abbrev pub find_entry : ℕ → ℕ → List Function → Option ℕ
find_entry n address [] = None
find_entry n address (f ∷ fs) = if f.entry == address then Some n else find_entry (suc n) address fs

abbrev pub find_block : ℕ → ℕ → List Block → Option ℕ
find_block n address [] = None
find_block n address (b ∷ bs) = if b.address == address then Some n else find_block (suc n) address bs

-- the function that a CALL goes to
abbrev pub callee_of : Parts → ℕ → Operation → Option ℕ
callee_of parts pc (Call displacement) = find_entry 0 (target pc displacement) parts.functions
callee_of parts pc _ = None

unfoldable pub callee_at : Parts → ℕ → ℕ → ℕ → Option ℕ
callee_at parts f b i = callee_of parts (address_of parts f b i) (op_at parts f b i)

-- the function that was called right before a word, whose slot it is
abbrev pub callee_before : Parts → ℕ → ℕ → ℕ → Option ℕ
callee_before parts f b zero = None
callee_before parts f b (suc i) = callee_at parts f b i

-- ---- services

abbrev pub service_asked : Operation → Option ℕ
service_asked (TrapOnCondition t) = service_of t
service_asked _ = None

abbrev pub is_exit : Option ℕ → Bool
is_exit None = false
is_exit (Some n) = n == 0

-- `ta 0`
abbrev pub ends_run : Operation → Bool
ends_run op = is_exit (service_asked op)
