-- The rules. Each is one condition on a word of the code: word i of block b of function f. An image in which none holds
-- anywhere is checked. A rule on slots, edges and returns speaks of the ways on which the word runs (`Ways`), so that a
-- slot needs no words of its own; a word that is annulled, or runs on no way, reads, writes and reaches nothing.
use Rattle.std.specs.Prelude.{◌≡◌, ℕ, zero, suc, ◌+◌, ◌-◌, ◌*◌, ◌%◌, ◌^◌, ◌⊎◌, ◌&&◌, ◌||◌, not, Bool, true, false}
use Rattle.std.specs.Prelude.{IsTrue, ◌==◌, nat_lt, nat_le, if◌then◌else◌, List, [], ◌∷◌, length, Option, Some, None, ℤ}
use Rattle.std.specs.Prelude.{pos, negsuc, ◌+ℤ◌, int_lt, slice_get}
use Rattle.std.specs.List.{list_any}
use Rattle.v8_word.specs.Registers.{stack_pointer}
use Rattle.v8_formats.specs.declared.instr.Instr.{Instr}
use Rattle.v8_formats.specs.declared.instr.Instr.TheVariants.{Undefined}
use Rattle.v8_formats.specs.declared.instr.Operand.{Operand}
use Rattle.v8_formats.specs.declared.instr.Operand.TheVariants.{Register, Immediate}
use Rattle.v8_formats.specs.Table.{meaning, IsCanonical}
use Rattle.v8_alu.specs.declared.TaggedOp.{TaggedOp}
use Rattle.v8_meaning.specs.declared.operation.Operation.{Operation}
use Rattle.v8_meaning.specs.declared.operation.Operation.TheVariants.{Call, Divide, TaggedTrap, Save, BranchOnCondition}
use Rattle.v8_meaning.specs.declared.operation.Operation.TheVariants.{JumpAndLink}
use Rattle.v8_meaning.specs.Admitted.{is_admitted, is_ret}
use Rattle.sbx_image.specs.Block.{Block}
use Rattle.sbx_image.specs.Cell.{Cell}
use Rattle.sbx_image.specs.Function.{Function}
use Rattle.sbx_image.specs.Kind.{Kind}
use Rattle.sbx_image.specs.Kind.TheVariants.{Leaf, Framed}
use Rattle.sbx_image.specs.Parts.{Parts}
use Rattle.sbx_image.specs.Range.{Range}
use Rattle.sbx_image.specs.Regions.{holds}
use Rattle.sbx_image.specs.Services.{Services}
use Rattle.sbx_domain.specs.Effects.{declares}
use Rattle.sbx_form.specs.Ranges.{is_within}
use Rattle.sbx_form.specs.Table.{tagged_fits}
use Rattle.sbx_domain.specs.declared.entry.Entry.{Entry}
use Rattle.sbx_domain.specs.Forms.{Form}
use Rattle.sbx_domain.specs.Known.{Known, range_at}
use Rattle.sbx_domain.specs.Results.{operand_entry, register_entry}
use Rattle.sbx_domain.specs.Transfer.{transferred}
use Rattle.sbx_rules.specs.declared.cause.Cause.{Cause}
use Rattle.sbx_rules.specs.declared.cause.Cause.TheVariants.{NotAnInstruction, NotAdmitted, BadShape, BadBranch}
use Rattle.sbx_rules.specs.declared.cause.Cause.TheVariants.{BadCall, UndefinedRead, ReservedRegister, Misaligned}
use Rattle.sbx_rules.specs.declared.cause.Cause.TheVariants.{OutOfBounds, ZeroDivisor, TagOverflow, UndeclaredService}
use Rattle.sbx_rules.specs.declared.cause.Cause.TheVariants.{UnkeptCells, OutOfFuel, OutOfStack, RunsPastEnd}
use Rattle.sbx_rules.specs.declared.cause.Cause.TheVariants.{UnkeptResults, BadEntry, TooDeep, NoMemory}
use Rattle.sbx_rules.specs.Fuel.{IsEnough, IsPaid, IsWithinBudget}
use Rattle.sbx_rules.specs.Operations.{Access, access_of, frame_word_read, is_call, is_framed, is_framed_return}
use Rattle.sbx_rules.specs.Operations.{is_reserved, is_restore, is_return, is_save, is_transfer, is_trap, may_write}
use Rattle.sbx_rules.specs.Operations.{reads_codes, reads_of, reads_y, writes_of}
use Rattle.sbx_image.specs.Order.{block_at, function_at, words_in}
use Rattle.sbx_rules.specs.Places.{callee_at, callee_before, ends_run, op_at, op_before, service_asked, word_of_place}
use Rattle.sbx_rules.specs.Ways.{Back, Past, To, Visit, Way, after_visit, branch_way, cells_at, fuel_at, names_cell}
use Rattle.sbx_rules.specs.Ways.{state_at, visits_at, weight_to}

-- ---- words for the rule of shape

abbrev pub is_minus : ℕ → Operand → Bool
is_minus frame (Immediate w) = w == 2 ^ 32 - frame
is_minus frame (Register r) = false

-- save %sp,-F,%sp
abbrev pub is_save_of : ℕ → Operation → Bool
is_save_of frame (Save f) = f.rd == stack_pointer && f.rs1 == stack_pointer && is_minus frame f.operand2
is_save_of frame _ = false

abbrev pub is_frame_size : ℕ → Bool
is_frame_size n = nat_le 64 n && nat_le n 4096 && (n % 8 == 0)

abbrev pub is_entry : ℕ → ℕ → Bool
is_entry b i = (b == 0) && (i == 0)

-- a framed function begins with its SAVE, and a leaf has no frame
abbrev pub enters_well : Function → Operation → Bool
enters_well function op =
    if is_framed function.kind then is_save_of function.frame op && is_frame_size function.frame
    else function.frame == 0

-- a leaf returns by `retl` and calls nothing, a framed function returns by `ret`
abbrev pub suits : Kind → Operation → Bool
suits Framed (JumpAndLink j) = is_ret j
suits Leaf (JumpAndLink j) = not (is_ret j)
suits Leaf (Call d) = false
suits kind op = true

abbrev pub same_test : Bool → Bool → Bool
same_test true b = b
same_test false b = not b

-- ---- words for the rules of registers and addresses

abbrev pub is_some : {A : Type 0} → Option A → Bool
is_some None = false
is_some (Some x) = true

abbrev pub is_defined : Known → ℕ → Bool
is_defined d l = is_some (d.entry l)

abbrev pub is_undefined_word : Known → Option ℕ → Bool
is_undefined_word d None = false
is_undefined_word d (Some l) = not (is_defined d l)

unfoldable pub reads_undefined : Function → Operation → Known → Bool
reads_undefined function op d =
    list_any (λ r. not (r == 0) && not (is_reserved r) && not (is_defined d r)) (reads_of function op)
    || is_undefined_word d (frame_word_read function op)
    || (reads_codes op && not d.icc) || (reads_y op && not (is_some d.y))

unfoldable pub touches_reserved : Function → Operation → Bool
touches_reserved function op =
    list_any is_reserved (reads_of function op) || list_any (λ r. not (may_write function op r)) (writes_of op)

abbrev pub needed_alignment : ℕ → ℕ
needed_alignment size = if size == 8 then 3 else (if size == 4 then 2 else (if size == 2 then 1 else 0))

abbrev pub is_multiple_of_4 : ℤ → Bool
is_multiple_of_4 (pos n) = n % 4 == 0
is_multiple_of_4 (negsuc n) = (n + 1) % 4 == 0

abbrev pub is_aligned_range : ℕ → Option Range → Bool
is_aligned_range size None = false
is_aligned_range size (Some r) = nat_le (needed_alignment size) r.alignment

abbrev pub is_aligned_at : Option ℤ → Access → Bool
is_aligned_at (Some offset) a = is_multiple_of_4 offset
is_aligned_at None a = is_aligned_range a.size a.range

abbrev pub is_aligned_access : Option Access → Bool
is_aligned_access None = true
is_aligned_access (Some a) = is_aligned_at a.offset a

-- from %sp + 64 to the frame's end
abbrev pub is_in_frame : ℕ → ℤ → Bool
is_in_frame frame offset = not (int_lt offset (pos 64)) && not (int_lt (pos frame) (offset +ℤ pos 4))

-- so many bytes from each address of the range lie in one region of the data, the same for all, which may be written if
-- they are written
abbrev pub is_in_data : Parts → ℕ → Bool → Option Range → Bool
is_in_data parts size writes None = false
is_in_data parts size writes (Some r) = holds parts.regions r.lo (r.hi +ℤ pos size) writes

abbrev pub is_placed_at : Parts → ℕ → Option ℤ → Access → Bool
is_placed_at parts frame (Some offset) a = is_in_frame frame offset
is_placed_at parts frame None a = is_in_data parts a.size a.writes a.range

abbrev pub is_placed_access : Parts → ℕ → Option Access → Bool
is_placed_access parts frame None = true
is_placed_access parts frame (Some a) = is_placed_at parts frame a.offset a

abbrev pub holds_zero : Option Entry → Bool
holds_zero None = true
holds_zero (Some e) = not (int_lt (pos 0) e.range.lo) && not (int_lt e.range.hi (pos 0))

abbrev pub may_divide_by_zero : Operation → Known → Bool
may_divide_by_zero (Divide op f) d = holds_zero (operand_entry d f.operand2)
may_divide_by_zero op d = false

abbrev pub tagged_ranges_fit : TaggedOp → Option Entry → Option Entry → Bool
tagged_ranges_fit op (Some a) (Some b) = tagged_fits op a.range b.range
tagged_ranges_fit op (Some a) None = false
tagged_ranges_fit op None b = false

abbrev pub may_overflow : Operation → Known → Bool
may_overflow (TaggedTrap op f) d = not (tagged_ranges_fit op (register_entry d f.rs1) (operand_entry d f.operand2))
may_overflow op d = false

abbrev pub is_declared : Services → Option ℕ → Bool
is_declared services None = true
is_declared services (Some n) = declares services n

-- ---- words for the rules of cells and results

abbrev pub has_range : Option Range → Range → Bool
has_range None r = false
has_range (Some s) r = is_within s r

abbrev pub has_cells : Known → List Cell → Bool
has_cells d [] = true
has_cells d (c ∷ cs) = has_range (range_at d c.location) c.range && has_cells d cs

-- these ranges, from a location on
abbrev pub has_outs : ℕ → List Range → Known → Bool
has_outs l [] d = true
has_outs l (r ∷ rs) d = has_range (range_at d l) r && has_outs (suc l) rs d

-- the locations that a function can write
abbrev pub is_writable : Function → ℕ → Bool
is_writable function l =
    not (is_reserved l)
    && (nat_lt l 16 || (is_framed function.kind && (nat_lt l 32 || nat_le (64 + 4 * (l - 32) + 4) function.frame)))

-- a first block lists no cells, another block lists cells that the function can write
abbrev pub lists_badly : Function → ℕ → Block → Bool
lists_badly function zero block = not (length block.cells == 0)
lists_badly function (suc b) block = list_any (λ c. not (is_writable function c.location)) block.cells

-- ---- words for ways

-- an edge to a block that isn't the first
abbrev pub is_inner_edge : Way → Bool
is_inner_edge (To zero) = false
is_inner_edge (To (suc t)) = true
is_inner_edge _ = false

abbrev pub is_back : Way → Bool
is_back Back = true
is_back _ = false

abbrev pub is_past : Way → Bool
is_past Past = true
is_past _ = false

abbrev pub leads_to : (ℕ → Bool) → Way → Bool
leads_to test (To t) = test t
leads_to test _ = false

-- some of the ways, where the word isn't annulled
abbrev pub runs_with : (Known → Bool) → List Visit → Bool
runs_with test visits = list_any (λ v. not v.annulled && test v.known) visits

abbrev pub is_undefined : Instr → Bool
is_undefined (Undefined w) = true
is_undefined _ = false

-- ---- the rules

module _ (parts : Parts) (f b i : ℕ) where
  abbrev pub function : Function
  function = function_at parts f

  abbrev pub op : Operation
  op = op_at parts f b i

  abbrev pub before : Operation
  before = op_before parts f b i

  abbrev pub is_last : Bool
  is_last = nat_le (words_in parts f b) (i + 1)

  abbrev pub visits : List Visit
  visits = visits_at parts f b i

  -- what is known after the word on one of its ways
  abbrev pub now : Visit → Known
  now v = after_visit parts f b i v

  -- V1: the word is undefined or has a set unused bit.
  abbrev pub IsNoInstruction : Type 0
  IsNoInstruction = IsTrue (is_undefined (meaning (word_of_place parts f b i)))
      ⊎ (IsCanonical (word_of_place parts f b i) → ⊥)

  -- V2: sandboxed code may not ask for the operation.
  abbrev pub IsNotAdmitted : Type 0
  IsNotAdmitted = IsTrue (not (is_admitted op))

  -- V3: a framed function's first word isn't `save %sp,-F,%sp`, F its frame, a multiple of 8 from 64 to 4,096, or a
  -- leaf's frame isn't 0; a SAVE elsewhere; a RESTORE elsewhere than in the slot of `ret`, or another word there; `ret`
  -- or a CALL in a leaf, `retl` in a framed function; a transfer or a trap in a slot; a slot that isn't in its
  -- transfer's block (told at the transfer); and a word of the same block after a slot, but a CALL's, or after `ta 0`
  -- (told at the slot, at the `ta 0`).
  abbrev pub has_bad_shape : Bool
  has_bad_shape =
      (is_entry b i && not (enters_well function op))
      || (is_save op && not (is_entry b i && is_framed function.kind))
      || not (same_test (is_framed_return before) (is_restore op))
      || not (suits function.kind op)
      || (is_transfer before && (is_transfer op || is_trap op))
      || (is_transfer op && is_last)
      || (is_transfer before && not (is_call before) && not is_last)
      || (ends_run op && not is_last)

  abbrev pub HasBadShape : Type 0
  HasBadShape = IsTrue has_bad_shape

  -- V4: a branch's target isn't a block of the function, or is its first block.
  abbrev pub branches_badly : Operation → Bool
  branches_badly (BranchOnCondition c) = not (is_inner_edge (branch_way parts f b i c.displacement))
  branches_badly _ = false

  abbrev pub BranchesBadly : Type 0
  BranchesBadly = IsTrue (branches_badly op)

  -- V5: a CALL's target isn't the entry of a function of larger number.
  abbrev pub is_later : Option ℕ → Bool
  is_later None = false
  is_later (Some g) = nat_lt f g

  abbrev pub CallsBadly : Type 0
  CallsBadly = IsTrue (is_call op && not (is_later (callee_at parts f b i)))

  -- V6: a location, the condition codes or Y are read while undefined.
  abbrev pub ReadsUndefined : Type 0
  ReadsUndefined = IsTrue (runs_with (reads_undefined function op) visits)

  -- V7: %sp, %fp, %o7 or %i7 is read or written but by its own forms; a leaf writes a local or an in; RESTORE writes
  -- another register than %g0 and %o0 to %o5.
  abbrev pub TouchesReserved : Type 0
  TouchesReserved = IsTrue (runs_with (λ d. touches_reserved function op) visits)

  -- V8: an address isn't shown to be a multiple of what its access asks for.
  abbrev pub MayBeMisaligned : Type 0
  MayBeMisaligned = IsTrue (runs_with (λ d. not (is_aligned_access (access_of function op d))) visits)

  -- V9: an access isn't shown to lie in one region of the image's data, of a store one that may be written, or, by %sp
  -- or %fp and an immediate, in the frame's words.
  abbrev pub MayBeOutside : Type 0
  MayBeOutside = IsTrue (runs_with (λ d. not (is_placed_access parts function.frame (access_of function op d))) visits)

  -- V10: a divisor's range holds 0.
  abbrev pub MayDivideByZero : Type 0
  MayDivideByZero = IsTrue (runs_with (may_divide_by_zero op) visits)

  -- V11: a trapping tagged operation, and an operand isn't shown to be a multiple of 4, or the result may overflow.
  abbrev pub MayOverflow : Type 0
  MayOverflow = IsTrue (runs_with (may_overflow op) visits)

  -- V12: `ta n` with n above 2, or of a service that isn't declared.
  abbrev pub AsksUndeclared : Type 0
  AsksUndeclared = IsTrue (not (is_declared parts.services (service_asked op)))

  -- V13: on an edge a cell of the target is undefined or outside its range; at a CALL, after its slot, a param is; a
  -- first block lists cells, or a cell names a location that the function can't write (told at the block's first word).
  abbrev pub misses_cells : Visit → ℕ → Bool
  misses_cells v t = not (has_cells (now v) (cells_at parts f t))

  abbrev pub leaves_to : (Visit → ℕ → Bool) → Visit → Bool
  leaves_to test v = leads_to (test v) v.way

  abbrev pub params_of : Option ℕ → List Cell
  params_of None = []
  params_of (Some g) = cells_at parts g 0

  -- what the callee finds is known after the slot, before the call has its effect
  abbrev pub misses_params : Visit → Bool
  misses_params v = not (has_cells (transferred function.frame op v.known) (params_of (callee_before parts f b i)))

  abbrev pub BreaksCells : Type 0
  BreaksCells = IsTrue (list_any (leaves_to misses_cells) visits)
      ⊎ (IsTrue (list_any misses_params visits) ⊎ IsTrue ((i == 0) && lists_badly function b (block_at parts f b)))

  -- V14: on an edge the block's fuel is less than the weight so far and the target's fuel; at `ta 0` or a return it is
  -- less than the weight so far; the budget is less than the first block's fuel (told at the entry); or a term names no
  -- cell of its block (told at its first word). Each for some numbers of the block's ranges.
  abbrev pub fuel : Form
  fuel = fuel_at parts f b

  abbrev pub first : Known
  first = state_at parts f b 0

  -- from the block's first word to the end of this one
  abbrev pub weight : ℕ
  weight = weight_to parts f b (suc i)

  -- one of the word's ways leads to a block
  pub record Leaves (v : Visit) (t : ℕ) : Type 0 where
    pub place : ℕ
    pub visit : slice_get visits place ≡ Some v
    pub to : v.way ≡ To t

  abbrev pub HasUnpaidEdge : Type 0
  HasUnpaidEdge = (v : Visit) × (t : ℕ) × Leaves v t × (IsPaid first fuel weight (now v) (fuel_at parts f t) → ⊥)

  abbrev pub ends_here : Bool
  ends_here = list_any (λ v. is_back v.way) visits || ends_run op

  abbrev pub names_strange : Bool
  names_strange = list_any (λ t. not (names_cell (cells_at parts f b) t.location)) (block_at parts f b).terms

  abbrev pub LacksFuel : Type 0
  LacksFuel =
      HasUnpaidEdge
      ⊎ (IsTrue ends_here × (IsEnough first fuel weight → ⊥))
      ⊎ (IsTrue (is_entry b i) × (IsWithinBudget first fuel function.budget → ⊥))
      ⊎ IsTrue ((i == 0) && names_strange)

  -- V15: the stack room is below the frame, or function 0's is above the stack's bytes less 64 (told at the entry); at
  -- a CALL it is below the frame and the callee's room.
  abbrev pub room_of_callee : Option ℕ → ℕ
  room_of_callee None = 0
  room_of_callee (Some g) = (function_at parts g).stack_room

  abbrev pub lacks_room : Bool
  lacks_room =
      (is_entry b i
      && (nat_lt function.stack_room function.frame
      || ((f == 0) && nat_lt (4096 * parts.stack_pages) (function.stack_room + 64))))
      || (is_call op && nat_lt function.stack_room (function.frame + room_of_callee (callee_at parts f b i)))

  abbrev pub LacksRoom : Type 0
  LacksRoom = IsTrue lacks_room

  -- V16: control can go past the function's last word.
  abbrev pub RunsPast : Type 0
  RunsPast = IsTrue (list_any (λ v. is_past v.way) visits)

  -- V17: at a return %o0, %o1, .. aren't within the results.
  abbrev pub BreaksResults : Type 0
  BreaksResults = IsTrue (list_any (λ v. is_back v.way && not (has_outs 8 function.results (now v))) visits)

  -- V18: function 0 has params (told at its entry) or returns.
  abbrev pub IsBadEntry : Type 0
  IsBadEntry = IsTrue ((f == 0) && ((is_entry b i && not (length function.params == 0)) || is_return op))

  -- V20: a framed function's depth is below 1 (told at its entry), or that of a caller below 1 plus its callee's, a
  -- leaf's too (told at the CALL). It is asked in version 3 alone.
  abbrev pub calls_deeper : Option ℕ → Bool
  calls_deeper None = false
  calls_deeper (Some g) = nat_lt function.depth ((function_at parts g).depth + 1)

  abbrev pub lacks_depth : Bool
  lacks_depth =
      parts.version == 3
      && ((is_entry b i && is_framed function.kind && nat_lt function.depth 1) || calls_deeper (callee_at parts f b i))

  abbrev pub LacksDepth : Type 0
  LacksDepth = IsTrue lacks_depth

  -- Word i of block b of function f breaks the rule. Want of memory is no fault of an image.
  abbrev pub Holds : Cause → Type 0
  Holds NotAnInstruction = IsNoInstruction
  Holds NotAdmitted = IsNotAdmitted
  Holds BadShape = HasBadShape
  Holds BadBranch = BranchesBadly
  Holds BadCall = CallsBadly
  Holds UndefinedRead = ReadsUndefined
  Holds ReservedRegister = TouchesReserved
  Holds Misaligned = MayBeMisaligned
  Holds OutOfBounds = MayBeOutside
  Holds ZeroDivisor = MayDivideByZero
  Holds TagOverflow = MayOverflow
  Holds UndeclaredService = AsksUndeclared
  Holds UnkeptCells = BreaksCells
  Holds OutOfFuel = LacksFuel
  Holds OutOfStack = LacksRoom
  Holds RunsPastEnd = RunsPast
  Holds UnkeptResults = BreaksResults
  Holds BadEntry = IsBadEntry
  Holds TooDeep = LacksDepth
  Holds (NoMemory want) = ⊥
