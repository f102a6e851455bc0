-- Images whose verdicts are known, worked out by hand.
use Rattle.std.specs.Prelude.{ℕ, ◌≡◌, Bool, true, false, List, [], ◌∷◌, replicate, Some, ℤ, pos, negsuc}
use Rattle.sbx_image.specs.Block.{Block}
use Rattle.sbx_image.specs.Cell.{Cell}
use Rattle.sbx_image.specs.Function.{Function}
use Rattle.sbx_image.specs.Kind.TheVariants.{Framed, Leaf}
use Rattle.sbx_image.specs.Parts.{Parts}
use Rattle.sbx_image.specs.Term.{Term}
use Rattle.sbx_form.specs.Ranges.{range}
use Rattle.sbx_rules.specs.declared.cause.Cause.{Cause}
use Rattle.sbx_rules.specs.declared.cause.Cause.TheVariants.{BadCall, UndefinedRead, ReservedRegister, UnkeptCells}
use Rattle.sbx_rules.specs.declared.cause.Cause.TheVariants.{OutOfFuel, OutOfStack, UnkeptResults, BadEntry, TooDeep}
use Rattle.sbx_rules.specs.declared.cause.Refusal.{Refusal}
use Rattle.sbx_rules.specs.Rules.{Holds, is_in_data}
use Rattle.sbx_rules.specs.Verdicts.{Checked, IsFirst}

-- all services, no data and one page of stack
abbrev pub image_of : List ℕ → List Function → Parts
image_of words functions =
    record {
      version = 1;
      services = record { 0 = 7 };
      words = words;
      regions = [];
      stack_pages = 1;
      functions =
          functions;
    }

-- a block without cells and terms
abbrev pub bare_block : ℕ → ℤ → Block
bare_block address fuel = record { address = address; fuel = fuel; cells = []; terms = [] }

-- a function of one block without params and results, whose fuel is its budget
abbrev pub framed : ℕ → ℕ → ℕ → Function
framed entry room budget =
    record {
      kind = Framed;
      params = [];
      results = [];
      entry = entry;
      frame = 96;
      stack_room = room;
      budget =
          budget;
      depth = 0;
      blocks = bare_block entry (pos budget) ∷ [];
    }

abbrev pub refusal : ℕ → ℕ → Cause → Refusal
refusal function address cause = record { function = function; address = address; cause = cause }

-- ---- a loop
--     save %sp,-96,%sp; mov 1000,%l0
--     loop: ta 1; cmp %o0,-1; be done; nop
--     body: ta 2; deccc %l0; bne loop; nop
--     done: mov 0,%o0; ta 0

abbrev pub cell : ℕ → ℤ → ℤ → Cell
cell l lo hi = record { location = l; range = range lo hi 0 }

abbrev pub sixteen_turns : List Term
sixteen_turns = record { location = 16; coefficient = pos 16 } ∷ []

abbrev pub echo : Parts
echo = image_of
    (0x9DE3BFA0 ∷ 0xA01023E8 ∷ 0x91D02001 ∷ 0x80A23FFF ∷ 0x02800006 ∷ 0x01000000 ∷ 0x91D02002 ∷ 0xA0A42001 ∷ 0x12BFFFFA
    ∷ 0x01000000 ∷ 0x90102000 ∷ 0x91D02000 ∷ [])
    (record {
      kind = Framed;
      params = [];
      results = [];
      entry = 0x40000;
      frame = 96;
      stack_room = 96;
      budget = 16030;
      depth = 0;
      blocks =
          bare_block 0x40000 (pos 16030)
          ∷ record { address = 0x40008; fuel = pos 4; cells = cell 16 (pos 1) (pos 1000) ∷ []; terms = sixteen_turns }
          ∷ record {
            address = 0x40018;
            fuel = negsuc 3;
            cells =
                cell 8 (pos 0) (pos 255) ∷ cell 16 (pos 1) (pos 1000) ∷ [];
            terms = sixteen_turns;
          }
          ∷ bare_block 0x40028 (pos 4)
          ∷ [];
    } ∷ [])

-- ---- a call
--     save %sp,-96,%sp; mov 32,%o0; call; nop; ta 2; mov 0,%o0; ta 0
--     and a leaf: retl; add %o0,1,%o0

abbrev pub adding : ℤ → ℤ → ℕ → Parts
adding param result budget = image_of
    (0x9DE3BFA0 ∷ 0x90102020 ∷ 0x40000005 ∷ 0x01000000 ∷ 0x91D02002 ∷ 0x90102000 ∷ 0x91D02000 ∷ 0x81C3E008 ∷ 0x90022001
    ∷ [])
    (framed 0x40000 96 budget
    ∷ record {
      kind = Leaf;
      params = range (pos 0) param 0 ∷ [];
      results = range (pos 1) result 0 ∷ [];
      entry =
          0x4001C;
      frame = 0;
      stack_room = 0;
      budget = 2;
      depth = 0;
      blocks = bare_block 0x4001C (pos 2) ∷ [];
    }
    ∷ [])

-- the functions with these depths declared
abbrev pub with_depths : List ℕ → List Function → List Function
with_depths (d ∷ ds) (f ∷ fs) = record f { depth = d } ∷ with_depths ds fs
with_depths _ _ = []

abbrev pub deepened : List ℕ → Parts → Parts
deepened depths parts = record parts { version = 3; functions = with_depths depths parts.functions }

-- the call, with depths of the caller and of the leaf
abbrev pub adding_of : ℕ → ℕ → Parts
adding_of caller leaf = deepened (caller ∷ leaf ∷ []) (adding (pos 254) (pos 255) 39)

-- ---- smaller ones

-- sethi 0x3C0040,%sp; ba .+0; save, as a leaf without fuel
abbrev pub stray_stack : Parts
stray_stack = image_of (0x1D3C0040 ∷ 0x10800000 ∷ 0x9DE3A000 ∷ [])
    (record {
      kind = Leaf;
      params = [];
      results = [];
      entry = 0x40000;
      frame = 0;
      stack_room = 0;
      budget = 0;
      depth =
          0;
      blocks = bare_block 0x40000 (pos 0) ∷ [];
    } ∷ [])

-- save %sp,-96,%sp and three words more
abbrev pub after_save : ℕ → ℕ → ℕ → List Function → Parts
after_save second third room others =
    image_of (0x9DE3BFA0 ∷ second ∷ third ∷ 0x01000000 ∷ []) (framed 0x40000 room 100 ∷ others)

abbrev pub no_others : List Function
no_others = []

-- its last word is a function of its own
abbrev pub one_other : List Function
one_other = framed 0x4000C 96 0 ∷ []

-- Worked examples: two images that are checked, and the refusals of some that break a rule.
pub record VerdictsAreThese : Type 0 where
  pub echo_is_checked : Checked echo
  pub adding_is_checked : Checked (adding (pos 254) (pos 255) 39)
  -- one turn less in the budget and in the fuel: at `ta 0`
  pub short_of_fuel : IsFirst (adding (pos 254) (pos 255) 38) (refusal 0 0x40018 OutOfFuel)
  -- 32 is passed where at most 31 is asked: at the slot of the call
  pub param_unkept : IsFirst (adding (pos 31) (pos 255) 39) (refusal 0 0x4000C UnkeptCells)
  -- 255 is left where at most 254 was promised: at the slot of the return
  pub result_unkept : IsFirst (adding (pos 254) (pos 254) 39) (refusal 1 0x40020 UnkeptResults)
  pub stack_pointer : IsFirst stray_stack (refusal 0 0x40000 ReservedRegister)
  -- ld [%sp+64],%o0 right after the SAVE
  pub fresh_word : IsFirst (after_save 0xD003A040 0x01000000 96 no_others) (refusal 0 0x40004 UndefinedRead)
  -- call .-4: the function itself
  pub call_of_itself : IsFirst (after_save 0x7FFFFFFF 0x01000000 96 no_others) (refusal 0 0x40004 BadCall)
  -- ret; restore
  pub entry_returns : IsFirst (after_save 0x81C7E008 0x81E80000 96 no_others) (refusal 0 0x40004 BadEntry)
  -- call .+8, with no room for the callee
  pub short_of_stack : IsFirst (after_save 0x40000002 0x01000000 188 one_other) (refusal 0 0x40004 OutOfStack)
  -- a frame without a depth: at the entry
  pub without_depth : IsFirst (adding_of 0 0) (refusal 0 0x40000 TooDeep)
  pub with_depth : Checked (adding_of 1 0)
  -- a leaf counts as any callee does: at the call
  pub leaf_too_deep : IsFirst (adding_of 1 1) (refusal 0 0x40008 TooDeep)
  -- in other versions no depth is asked for
  pub no_other_version : (parts : Parts) (f b i : ℕ) → (parts.version ≡ 3 → ⊥) → Holds parts f b i TooDeep → ⊥

-- ---- data of two regions: a page that is only read, and right behind it eight bytes that may be written

abbrev pub two_regions : Parts
two_regions =
    record (image_of [] []) {
      regions =
          record { bytes = replicate 4096 0; writable = false } ∷ record { bytes = replicate 8 0; writable = true }
          ∷ [];
    }

-- a load or a store of four bytes from each address of an interval on
abbrev pub is_admitted_from : ℕ → ℕ → Bool → Bool
is_admitted_from low high writes = is_in_data two_regions 4 writes (Some (range (pos low) (pos high) 0))

-- An access lies in one of the regions, and a store in the one that may be written.
pub record RegionsAreReachedAlone : Type 0 where
  pub loads : is_admitted_from 0x80000 0x80FFC false ≡ true
  pub no_stores : is_admitted_from 0x80000 0x80FFC true ≡ false
  pub stores : is_admitted_from 0x81000 0x81004 true ≡ true
  pub of_either : is_admitted_from 0x80FFC 0x81000 false ≡ false
  pub before : is_admitted_from 0x7FFFF 0x80000 false ≡ false
  pub past : is_admitted_from 0x81004 0x81005 false ≡ false
