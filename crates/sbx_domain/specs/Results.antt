-- What is known of operands, and of the results that operations make of them.
use Rattle.std.specs.Prelude.{ℕ, ◌==◌, pos, negsuc, if◌then◌else◌, Option, Some, None}
use Rattle.sbx_flat.specs.Operand.{Operand}
use Rattle.sbx_flat.specs.Operand.TheVariants.{Register, Immediate}
use Rattle.v8_alu.specs.Results.{signed}
use Rattle.v8_alu.specs.declared.Op.{Op}
use Rattle.v8_alu.specs.declared.Op.TheVariants.{Add, AddCc, Sub, SubCc, Or, OrCc}
use Rattle.v8_alu.specs.declared.TaggedOp.{TaggedOp}
use Rattle.sbx_range.specs.Range.{Range}
use Rattle.sbx_range.specs.Ranges.{is_single, is_zero, known}
use Rattle.sbx_range.specs.Rows.{differences_fit, range_divide, sums_fit}
use Rattle.sbx_range.specs.Table.{range_of, range_of_address, range_of_tagged, range_of_written_y}
use Rattle.sbx_domain.specs.Forms.{Form, combined, constant_form}
use Rattle.sbx_domain.specs.declared.entry.Entry.{Entry}
use Rattle.sbx_domain.specs.Known.{Known}

-- ---- operands

abbrev pub constant_entry : ℕ → Entry
constant_entry w = record { range = known w; form = Some (constant_form (signed w)) }

-- what is known of a register; %g0 is the word 0
abbrev pub register_entry : Known → ℕ → Option Entry
register_entry d r = if r == 0 then Some (constant_entry 0) else d.entry r

abbrev pub operand_entry : Known → Operand → Option Entry
operand_entry d (Register r) = register_entry d r
operand_entry d (Immediate w) = Some (constant_entry w)

-- Of an undefined operand the result is undefined.
abbrev pub of_both : (Entry → Entry → Entry) → Option Entry → Option Entry → Option Entry
of_both f (Some a) (Some b) = Some (f a b)
of_both f (Some a) None = None
of_both f None b = None

-- ---- results

-- a result that is one number has a constant form; else it has this one
abbrev pub entry_of_result : Range → Option Form → Entry
entry_of_result r f = record { range = r; form = if is_single r then Some (constant_form r.lo) else f }

-- the sum, where all sums fit
abbrev pub sum_form : Entry → Entry → Option Form
sum_form a b = if sums_fit a.range b.range then combined (pos 1) a.form b.form else None

abbrev pub difference_form : Entry → Entry → Option Form
difference_form a b = if differences_fit a.range b.range then combined (negsuc 0) b.form a.form else None

-- an OR with 0 is a copy
abbrev pub copied_form : Entry → Entry → Option Form
copied_form a b = if is_zero a.range then b.form else (if is_zero b.range then a.form else None)

unfoldable pub form_of : Op → Entry → Entry → Option Form
form_of Add a b = sum_form a b
form_of AddCc a b = sum_form a b
form_of Sub a b = difference_form a b
form_of SubCc a b = difference_form a b
form_of Or a b = copied_form a b
form_of OrCc a b = copied_form a b
form_of _ a b = None

abbrev pub computed : Op → Entry → Entry → Entry
computed op a b = entry_of_result (range_of op a.range b.range) (form_of op a b)

abbrev pub tagged : TaggedOp → Entry → Entry → Entry
tagged op a b = entry_of_result (range_of_tagged op a.range b.range) None

abbrev pub result_of : Op → Option Entry → Option Entry → Option Entry
result_of op a b = of_both (computed op) a b

abbrev pub tagged_of : TaggedOp → Option Entry → Option Entry → Option Entry
tagged_of op a b = of_both (tagged op) a b

-- a quotient of the first operand's word below Y
abbrev pub quotient_of : Option Range → Option Entry → Option Entry → Option Entry
quotient_of (Some y) a b = of_both (λ a b. entry_of_result (range_divide y a.range b.range) None) a b
quotient_of None a b = None

-- RDY gives what is known of Y
abbrev pub entry_of_y : Option Range → Option Entry
entry_of_y None = None
entry_of_y (Some r) = Some (entry_of_result r None)

-- Y after WRY
abbrev pub written_y : Option Entry → Option Entry → Option Range
written_y (Some a) (Some b) = Some (range_of_written_y a.range b.range)
written_y (Some a) None = None
written_y None b = None

-- an address is the sum of its operands
abbrev pub address_of : Option Entry → Option Entry → Option Range
address_of (Some a) (Some b) = Some (range_of_address a.range b.range)
address_of (Some a) None = None
address_of None b = None
