-- What is known along a few words, worked out by hand.
use Rattle.std.specs.Prelude.{ℕ, ◌≡◌, ◌∷◌, [], ℤ, pos, negsuc, true, Option, Some, None}
use Rattle.v8_word.specs.declared.Cond.TheVariants.{Equal, Greater, Less, NotEqual}
use Rattle.sbx_flat.specs.Operand.TheVariants.{Register, Immediate}
use Rattle.v8_alu.specs.declared.Op.{Op}
use Rattle.v8_alu.specs.declared.Op.TheVariants.{Add, AddCc, OrCc, Sll, SubCc, Umul}
use Rattle.sbx_flat.specs.Loading.TheVariants.{Word as LoadedWord}
use Rattle.sbx_flat.specs.MemoryOperand.{MemoryOperand}
use Rattle.sbx_flat.specs.Operation.{Operation}
use Rattle.sbx_flat.specs.Operation.TheVariants.{Compute, Restore, Save, Transfer}
use Rattle.sbx_flat.specs.Space.TheVariants.{Normal}
use Rattle.sbx_flat.specs.Transfer.TheVariants.{Load, Store}
use Rattle.v8_word.specs.declared.Size.TheVariants.{Word as StoredWord}
use Rattle.sbx_range.specs.Range.{Range}
use Rattle.sbx_range.specs.Ranges.{all, range}
use Rattle.sbx_domain.specs.Forms.{Form, form_of_location}
use Rattle.sbx_domain.specs.declared.relation.Relation.TheVariants.{Compared, Signs}
use Rattle.sbx_domain.specs.declared.relation.Related.TheVariants.{Location}
use Rattle.sbx_domain.specs.Known.{Known, form_at, range_at, started, with_icc, with_range}
use Rattle.sbx_domain.specs.declared.relation.Related.TheVariants.{Word as Constant}
use Rattle.sbx_domain.specs.Refining.{refined}
use Rattle.sbx_domain.specs.Transfer.{called, transferred}

-- ---- a block whose cells are %o0, 0 to 10, and %l0, multiples of 4 from 0 to 400

abbrev pub start : Known
start = started
    (record { location = 8; range = range (pos 0) (pos 10) 0 }
    ∷ record { location = 16; range = range (pos 0) (pos 400) 2 } ∷ [])

abbrev pub with_immediate : Op → ℕ → ℕ → ℕ → Operation
with_immediate op rd rs1 w = Compute op (record { rd = rd; rs1 = rs1; operand2 = Immediate w })

abbrev pub with_register : Op → ℕ → ℕ → ℕ → Operation
with_register op rd rs1 rs2 = Compute op (record { rd = rd; rs1 = rs1; operand2 = Register rs2 })

-- after one word of a frame of 96 bytes
abbrev pub after_word : Operation → Known → Known
after_word op d = transferred 96 op d

-- an address of %sp or %fp and an offset
abbrev pub near_pointer : ℕ → ℕ → ℕ → MemoryOperand
near_pointer rd rs1 w = record { rd = rd; rs1 = rs1; operand2 = Immediate w; space = Normal }

-- the number that %o0 starts with, and a constant
abbrev pub shifted_form : ℤ → Form
shifted_form z = record (form_of_location 8) { constant = z }

-- cmp %o0,5
abbrev pub compare : Known → Known
compare d = after_word (with_immediate SubCc 0 8 5) d

abbrev pub outcome_range : Option Known → ℕ → Option Range
outcome_range None l = None
outcome_range (Some d) l = range_at d l

abbrev pub is_possible : Option Known → Option ℕ
is_possible None = None
is_possible (Some d) = Some 1

-- ---- starts, results and forms

-- Worked examples: where a block starts, and what operations leave.
pub record ResultsAreThese : Type 0 where
  -- a cell starts as itself, and what is no cell is undefined
  pub cell : start.entry 8 ≡ Some (record { range = range (pos 0) (pos 10) 0; form = Some (form_of_location 8) })
  pub no_cell : start.entry 9 ≡ None
  -- add %o0,5,%o1
  pub sum : (after_word (with_immediate Add 9 8 5) start).entry 9 ≡
      Some (record { range = range (pos 5) (pos 15) 0; form = Some (shifted_form (pos 5)) })
  -- subcc %o0,1,%o0
  pub difference : (after_word (with_immediate SubCc 8 8 1) start).entry 8 ≡
      Some (record { range = range (negsuc 0) (pos 9) 0; form = Some (shifted_form (negsuc 0)) })
  -- sll %o0,2,%o1: no form
  pub shift : (after_word (with_immediate Sll 9 8 2) start).entry 9 ≡
      Some (record { range = range (pos 0) (pos 40) 2; form = None })
  -- add %g0,7,%o1: a known word
  pub constant : (after_word (with_immediate Add 9 0 7) start).entry 9 ≡
      Some (record { range = range (pos 7) (pos 7) 0; form = Some (record { constant = pos 7; terms = [] }) })
  -- add %o0,%o5,%o0: an undefined operand
  pub undefined : (after_word (with_register Add 8 8 13) start).entry 8 ≡ None
  -- add %o0,5,%g0: %g0 stays 0
  pub nowhere : after_word (with_immediate Add 0 8 5) start ≡ start
  -- umul %o0,%l0,%o1: Y is any word
  pub product : (after_word (with_register Umul 9 8 16) start).y ≡ Some (all 0)

-- ---- relations

-- Worked examples: what the condition codes were set from.
pub record RelationsAreThese : Type 0 where
  pub of_cmp : (compare start).relation ≡ Some (Compared (Location 8) (Constant 5))
  -- orcc %g0,%o0,%g0: tst %o0
  pub of_tst : (after_word (with_register OrCc 0 0 8) start).relation ≡ Some (Compared (Location 8) (Constant 0))
  -- subcc %o0,1,%o0
  pub of_value : (after_word (with_immediate SubCc 8 8 1) start).relation ≡ Some (Signs 8)
  -- addcc %o0,1,%g0 relates nothing, and ends the older relation
  pub of_nothing : (after_word (with_immediate AddCc 0 8 1) (compare start)).relation ≡ None
  -- a write of %o0 ends it, and drops the form of %o0; a write of %o1 doesn't
  pub ended : (with_range 8 (Some (range (pos 0) (pos 10) 0)) (compare start)).relation ≡ None
  pub formless : form_at (with_range 8 (Some (range (pos 0) (pos 10) 0)) start) 8 ≡ None
  pub stays : (with_range 9 None (compare start)).relation ≡ Some (Compared (Location 8) (Constant 5))
  -- so does the setter of the codes, and SAVE
  pub set : (with_icc true (compare start)).relation ≡ None
  pub saved : (after_word (Save (record { rd = 14; rs1 = 14; operand2 = Immediate 0xFFFFFFA0 }))
      (compare start)).relation ≡
      None

-- ---- branches

-- Worked examples: what a branch lets know of a number from 0 to 10.
pub record BranchesKnow : Type 0 where
  -- cmp %o0,5 and bl, be, bg
  pub less : outcome_range (refined Less (compare start)) 8 ≡ Some (range (pos 0) (pos 4) 0)
  pub equal : outcome_range (refined Equal (compare start)) 8 ≡ Some (range (pos 5) (pos 5) 0)
  pub greater : outcome_range (refined Greater (compare start)) 8 ≡ Some (range (pos 6) (pos 10) 0)
  -- cmp %g0,5 and be: never
  pub never : is_possible (refined Equal (after_word (with_immediate SubCc 0 0 5) start)) ≡ None
  pub always : is_possible (refined NotEqual (after_word (with_immediate SubCc 0 0 5) start)) ≡ Some 1
  -- subcc %o0,10,%o0 and bne: an end of -10 to 0
  pub by_value : outcome_range (refined NotEqual (after_word (with_immediate SubCc 8 8 10) start)) 8 ≡
      Some (range (negsuc 9) (negsuc 0) 0)

-- ---- frames and calls

-- Worked examples: what stays known over SAVE, RESTORE and a call.
pub record FramesKeep : Type 0 where
  -- save %sp,-96,%sp: %i0 is known as %o0 was, and %l0 no longer
  pub in_zero : (after_word (Save (record { rd = 14; rs1 = 14; operand2 = Immediate 0xFFFFFFA0 })) start).entry 24 ≡
      start.entry 8
  pub locals : (after_word (Save (record { rd = 14; rs1 = 14; operand2 = Immediate 0xFFFFFFA0 })) start).entry 16 ≡ None
  -- and back: restore %g0,7,%o1
  pub out_zero :
      (after_word (Restore (record { rd = 9; rs1 = 0; operand2 = Immediate 7 }))
      (after_word (Save (record { rd = 14; rs1 = 14; operand2 = Immediate 0xFFFFFFA0 })) start)).entry 8 ≡ start.entry 8
  -- st %o0,[%fp-4] and ld [%sp+92],%o3: frame word 7
  pub word : (after_word (Transfer (Load LoadedWord) (near_pointer 11 14 92))
      (after_word (Transfer (Store StoredWord) (near_pointer 8 30 0xFFFFFFFC)) start)).entry 11 ≡ start.entry 8
  -- after a call with a result from 1 to 2
  pub result : (called (range (pos 1) (pos 2) 0 ∷ []) start).entry 8 ≡
      Some (record { range = range (pos 1) (pos 2) 0; form = None })
  pub other_outs : (called (range (pos 1) (pos 2) 0 ∷ []) start).entry 9 ≡ None
  pub kept : (called (range (pos 1) (pos 2) 0 ∷ []) start).entry 16 ≡ start.entry 16
