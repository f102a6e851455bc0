-- The table of ranges, by the operations of the result table.
use Rattle.std.specs.Prelude.{Bool, true, false, ◌&&◌, nat_le, if◌then◌else◌}
use Rattle.v8_alu.specs.Icc.{Icc}
use Rattle.v8_alu.specs.Outcomes.{outcome}
use Rattle.v8_alu.specs.declared.Op.{Op}
use Rattle.v8_alu.specs.declared.Op.TheVariants.{Add, AddCc, Sub, SubCc, And, AndCc, Andn, AndnCc, Or, OrCc, Orn, OrnCc}
use Rattle.v8_alu.specs.declared.Op.TheVariants.{Xor, XorCc, Xnor, XnorCc, Sll, Srl, Sra, Umul, UmulCc, Smul, SmulCc}
use Rattle.v8_alu.specs.declared.Op.TheVariants.{TaddCc, TsubCc, MulsCc}
use Rattle.v8_alu.specs.declared.TaggedOp.{TaggedOp}
use Rattle.v8_alu.specs.declared.TaggedOp.TheVariants.{TaggedAdd, TaggedSub}
use Rattle.sbx_image.specs.Range.{Range}
use Rattle.sbx_range.specs.Ranges.{all, is_single, word_of, known}
use Rattle.sbx_range.specs.Rows.{least_alignment, sums_fit, differences_fit, range_add, range_sub, range_or, range_xor}
use Rattle.sbx_range.specs.Rows.{range_and, range_andn, range_sll, range_srl, range_sra, range_smul, range_umul}

-- the operations whose result is computed where both operands are known words
abbrev pub is_computed : Op → Bool
is_computed Add = true
is_computed AddCc = true
is_computed Sub = true
is_computed SubCc = true
is_computed And = true
is_computed AndCc = true
is_computed Andn = true
is_computed AndnCc = true
is_computed Or = true
is_computed OrCc = true
is_computed Orn = true
is_computed OrnCc = true
is_computed Xor = true
is_computed XorCc = true
is_computed Xnor = true
is_computed XnorCc = true
is_computed Sll = true
is_computed Srl = true
is_computed Sra = true
is_computed _ = false

-- the row of each operation; of those without one nothing is known
unfoldable pub row_of : Op → Range → Range → Range
row_of Add a b = range_add a b
row_of AddCc a b = range_add a b
row_of TaddCc a b = range_add a b
row_of Sub a b = range_sub a b
row_of SubCc a b = range_sub a b
row_of TsubCc a b = range_sub a b
row_of Or a b = range_or a b
row_of OrCc a b = range_or a b
row_of Xor a b = range_xor a b
row_of XorCc a b = range_xor a b
row_of And a b = range_and a b
row_of AndCc a b = range_and a b
row_of Andn a b = range_andn a b
row_of AndnCc a b = range_andn a b
row_of Sll a b = range_sll a b
row_of Srl a b = range_srl a b
row_of Sra a b = range_sra a b
row_of Smul a b = range_smul a b
row_of SmulCc a b = range_smul a b
row_of Umul a b = range_umul a b
row_of UmulCc a b = range_umul a b
row_of _ a b = all 0

abbrev pub no_codes : Icc
no_codes = record { n = false; z = false; v = false; c = false }

-- what an operation leaves in its destination: the known word that the result table gives, whatever codes and Y are,
-- else its row
unfoldable pub range_of : Op → Range → Range → Range
range_of op a b =
    if is_computed op && (is_single a && is_single b) then known (outcome op (word_of a) (word_of b) no_codes 0).value
    else row_of op a b

-- the trapping tagged operations, where they have a result
abbrev pub range_of_tagged : TaggedOp → Range → Range → Range
range_of_tagged TaggedAdd a b = range_add a b
range_of_tagged TaggedSub a b = range_sub a b

-- they have one: the low two bits of both operands are 0, and no sum or difference overflows
abbrev pub tagged_fits : TaggedOp → Range → Range → Bool
tagged_fits TaggedAdd a b = nat_le 2 (least_alignment a b) && sums_fit a b
tagged_fits TaggedSub a b = nat_le 2 (least_alignment a b) && differences_fit a b

-- an address is the sum of its operands
abbrev pub range_of_address : Range → Range → Range
range_of_address a b = range_of Add a b

-- the operations that write Y: its range is all words after them
abbrev pub writes_y : Op → Bool
writes_y Umul = true
writes_y UmulCc = true
writes_y Smul = true
writes_y SmulCc = true
writes_y MulsCc = true
writes_y _ = false

-- Y after an operation, y being its range before
abbrev pub range_of_y : Op → Range → Range
range_of_y op y = if writes_y op then all 0 else y

-- Y after WRY: the XOR of known words, else nothing is known
unfoldable pub range_of_written_y : Range → Range → Range
range_of_written_y a b =
    if is_single a && is_single b then known (outcome Xor (word_of a) (word_of b) no_codes 0).value
    else all 0
