-- What is known before each word, what the words before it weigh, and the ways on which it runs.
-- The rules that speak of slots, edges and returns all speak of these ways.
use Rattle.std.specs.Prelude.{ℕ, zero, suc, ◌+◌, ◌&&◌, Bool, true, false, ◌==◌, nat_lt, if◌then◌else◌, List, [], ◌∷◌}
use Rattle.std.specs.Prelude.{◌++◌, length, Option, Some, None}
use Rattle.std.specs.List.{list_any}
use Rattle.v8_formats.specs.declared.instr.Branch.{Branch}
use Rattle.v8_meaning.specs.declared.operation.Operation.{Operation}
use Rattle.v8_meaning.specs.declared.operation.Operation.TheVariants.{BranchOnCondition, JumpAndLink}
use Rattle.v8_meaning.specs.Operands.{is_always, target}
use Rattle.sbx_image.specs.Block.{Block}
use Rattle.sbx_image.specs.Cell.{Cell}
use Rattle.sbx_image.specs.Function.{Function}
use Rattle.sbx_image.specs.Parts.{Parts}
use Rattle.sbx_image.specs.Range.{Range}
use Rattle.sbx_image.specs.Term.{Term}
use Rattle.sbx_domain.specs.Runs.{weight_of}
use Rattle.sbx_form.specs.declared.terms.FormTerm.{FormTerm}
use Rattle.sbx_form.specs.Refining.{opposite}
use Rattle.sbx_domain.specs.Forms.{Form}
use Rattle.sbx_domain.specs.Known.{Known, started}
use Rattle.sbx_domain.specs.Refining.{refined}
use Rattle.sbx_domain.specs.Transfer.{called, transferred}
use Rattle.sbx_image.specs.Order.{address_of, block_at, function_at, words_in}
use Rattle.sbx_rules.specs.Places.{callee_before, ends_run, find_block, op_at}

-- ---- what is known before a word

-- these ranges, from %o0 on
abbrev pub out_cells : ℕ → List Range → List Cell
out_cells l [] = []
out_cells l (r ∷ rs) = record { location = l; range = r } ∷ out_cells (suc l) rs

-- a first block's cells are the function's params in %o0, %o1, ..
abbrev pub cells_of : Function → ℕ → Block → List Cell
cells_of function zero block = out_cells 8 function.params
cells_of function (suc b) block = block.cells

abbrev pub cells_at : Parts → ℕ → ℕ → List Cell
cells_at parts f b = cells_of (function_at parts f) b (block_at parts f b)

abbrev pub after_call : Parts → Option ℕ → Known → Known
after_call parts None d = d
after_call parts (Some g) d = called (function_at parts g).results d

-- after a word; a call has its effect after its slot
abbrev pub after_word : Parts → ℕ → ℕ → ℕ → Known → Known
after_word parts f b i d =
    after_call parts (callee_before parts f b i) (transferred (function_at parts f).frame (op_at parts f b i) d)

-- What is known before word i of a block, where control comes to it by the words before: a function of the annotations
-- alone.
unfoldable pub state_at : Parts → ℕ → ℕ → ℕ → Known
state_at parts f b zero = started (cells_at parts f b)
state_at parts f b (suc i) = after_word parts f b i (state_at parts f b i)

-- ---- weights and fuel

abbrev pub budget_of_callee : Parts → Option ℕ → ℕ
budget_of_callee parts None = 0
budget_of_callee parts (Some g) = (function_at parts g).budget

-- what a word counts, with the budget of the call whose slot it is
abbrev pub weight_of_place : Parts → ℕ → ℕ → ℕ → ℕ
weight_of_place parts f b i = weight_of (op_at parts f b i) + budget_of_callee parts (callee_before parts f b i)

-- what the words before word i of a block count
unfoldable pub weight_to : Parts → ℕ → ℕ → ℕ → ℕ
weight_to parts f b zero = 0
weight_to parts f b (suc i) = weight_to parts f b i + weight_of_place parts f b i

abbrev pub names_cell : List Cell → ℕ → Bool
names_cell cells l = list_any (λ c. c.location == l) cells

abbrev pub form_term : Term → FormTerm
form_term t = record { location = t.location; coefficient = t.coefficient }

-- a term that names no cell counts 0
abbrev pub counted : List Cell → List Term → List FormTerm
counted cells [] = []
counted cells (t ∷ ts) = if names_cell cells t.location then form_term t ∷ counted cells ts else counted cells ts

-- the fuel with which a block begins, over the numbers of its cells
unfoldable pub fuel_at : Parts → ℕ → ℕ → Form
fuel_at parts f b =
    record { constant = (block_at parts f b).fuel; terms = counted (cells_at parts f b) (block_at parts f b).terms }

-- ---- where control goes

-- a way on from a word
pub data Way : Type 0 where
  -- to the next word of the block
  Next : Way
  -- to a block of the function, along an edge
  To : ℕ → Way
  -- back to the caller
  Back : Way
  -- nowhere: the run is over
  Over : Way
  -- past the function's last word
  Past : Way
  -- to a place that is no block of the function
  Astray : Way

-- on from word i of a block, where it ends the run or not
abbrev pub falls_to : Bool → ℕ → ℕ → ℕ → ℕ → Way
falls_to true words blocks b i = Over
falls_to false words blocks b i =
    if nat_lt (i + 1) words then Next else (if nat_lt (b + 1) blocks then To (b + 1) else Past)

unfoldable pub falls : Parts → ℕ → ℕ → ℕ → Way
falls parts f b i =
    falls_to (ends_run (op_at parts f b i)) (words_in parts f b) (length (function_at parts f).blocks) b i

abbrev pub way_to : Option ℕ → Way
way_to None = Astray
way_to (Some b) = To b

-- where a branch at word i of a block goes
unfoldable pub branch_way : Parts → ℕ → ℕ → ℕ → ℕ → Way
branch_way parts f b i displacement =
    way_to (find_block 0 (target (address_of parts f b i) displacement) (function_at parts f).blocks)

-- ---- the ways on which a word runs

-- One way on which a word runs: what is known before it, where control goes after it, and whether it is annulled.
pub record Visit : Type 0 where
  pub known : Known
  pub way : Way
  pub annulled : Bool

-- an edge whose state is empty is none
abbrev pub visit_if : Option Known → Way → Bool → List Visit
visit_if None way annulled = []
visit_if (Some d) way annulled = record { known = d; way = way; annulled = annulled } ∷ []

abbrev pub plain_visit : Known → Way → List Visit
plain_visit d way = record { known = d; way = way; annulled = false } ∷ []

-- A branch refines what is known before it for each of its two edges; its slot then runs on each. `ba` has the taken
-- edge alone, and its annul bit annuls the slot there; that of the others annuls the slot where the branch isn't taken.
abbrev pub taken_visit : Branch → Way → Known → List Visit
taken_visit c way d = visit_if (refined c.cond d) way (c.annul && is_always c.cond)

abbrev pub untaken_visit : Branch → Way → Known → List Visit
untaken_visit c way d = if is_always c.cond then [] else visit_if (refined (opposite c.cond) d) way c.annul

-- the ways of the word after a word: `here` is known before the one, `there` before the other
abbrev pub visits_after : Parts → ℕ → ℕ → ℕ → Operation → Known → Known → List Visit
visits_after parts f b i (BranchOnCondition c) here there =
    taken_visit c (branch_way parts f b i c.displacement) here ++ untaken_visit c (falls parts f b (suc i)) here
visits_after parts f b i (JumpAndLink j) here there = plain_visit there Back
visits_after parts f b i _ here there = plain_visit there (falls parts f b (suc i))

-- Each way on which word i of a block runs: one, but in a branch's slot one for each edge that isn't empty.
unfoldable pub visits_at : Parts → ℕ → ℕ → ℕ → List Visit
visits_at parts f b zero = plain_visit (state_at parts f b 0) (falls parts f b 0)
visits_at parts f b (suc i) =
    visits_after parts f b i (op_at parts f b i) (state_at parts f b i) (state_at parts f b (suc i))

-- what is known after a word on one of its ways
abbrev pub after_visit : Parts → ℕ → ℕ → ℕ → Visit → Known
after_visit parts f b i v = if v.annulled then v.known else after_word parts f b i v.known
