-- What is known after a word, by its operation.
use Rattle.std.specs.Prelude.{ℕ, ◌+◌, ◌-◌, ◌/◌, ◌%◌, ◌&&◌, Bool, true, false, ◌==◌, nat_lt, nat_le, if◌then◌else◌, List}
use Rattle.std.specs.Prelude.{Option, Some, None, ℤ, pos, negsuc, ◌+ℤ◌, slice_get}
use Rattle.v8_word.specs.Registers.{frame_pointer, stack_pointer}
use Rattle.v8_word.specs.declared.Size.{Size}
use Rattle.v8_word.specs.declared.Size.TheVariants as sizes
use Rattle.sbx_flat.specs.Operand.{Operand}
use Rattle.sbx_flat.specs.Operand.TheVariants.{Register, Immediate}
use Rattle.sbx_flat.specs.Three.{Three}
use Rattle.v8_alu.specs.Results.{signed}
use Rattle.v8_alu.specs.declared.Division.{Division}
use Rattle.v8_alu.specs.declared.Division.TheVariants as divisions
use Rattle.v8_alu.specs.declared.Op.{Op}
use Rattle.v8_alu.specs.declared.Op.TheVariants as ops
use Rattle.sbx_flat.specs.Transfers.{odd_of}
use Rattle.sbx_flat.specs.Exchange.{Exchange as Exchanging}
use Rattle.sbx_flat.specs.Exchange.TheVariants as exchanges
use Rattle.sbx_flat.specs.Loading.{Loading}
use Rattle.sbx_flat.specs.Loading.TheVariants as loadings
use Rattle.sbx_flat.specs.MemoryOperand.{MemoryOperand}
use Rattle.sbx_flat.specs.Operation.{Operation}
use Rattle.sbx_flat.specs.Operation.TheVariants.{Compute, Divide, TaggedTrap, SetHigh, ReadY, WriteY, Transfer, Save}
use Rattle.sbx_flat.specs.Operation.TheVariants.{Restore, Call, TrapOnCondition}
use Rattle.sbx_flat.specs.Transfer.{Transfer as Moving}
use Rattle.sbx_flat.specs.Transfer.TheVariants.{Load, Store, Exchange}
use Rattle.sbx_range.specs.Range.{Range}
use Rattle.sbx_range.specs.Ranges.{all}
use Rattle.sbx_range.specs.Rows.{byte_or_end, signed_byte, signed_half, unsigned_byte, unsigned_half}
use Rattle.sbx_range.specs.Table.{writes_y}
use Rattle.sbx_flat.specs.Effects.{high_word, service_of}
use Rattle.sbx_domain.specs.declared.relation.Relation.TheVariants.{Compared, Signs}
use Rattle.sbx_domain.specs.declared.entry.Entry.{Entry}
use Rattle.sbx_domain.specs.declared.relation.Related.TheVariants.{Location, Word}
use Rattle.sbx_domain.specs.declared.relation.Related.{Related}
use Rattle.sbx_domain.specs.declared.relation.Relation.{Relation}
use Rattle.sbx_domain.specs.Known.{Known, plain_entry, plain_entry_of, with_entry, with_icc, with_y}
use Rattle.sbx_domain.specs.Results.{constant_entry, entry_of_y, operand_entry, quotient_of, register_entry, result_of}
use Rattle.sbx_domain.specs.Results.{tagged_of, written_y}

-- ---- condition codes and Y

abbrev pub sets_codes : Op → Bool
sets_codes ops.AddCc = true
sets_codes ops.AddxCc = true
sets_codes ops.SubCc = true
sets_codes ops.SubxCc = true
sets_codes ops.AndCc = true
sets_codes ops.AndnCc = true
sets_codes ops.OrCc = true
sets_codes ops.OrnCc = true
sets_codes ops.XorCc = true
sets_codes ops.XnorCc = true
sets_codes ops.UmulCc = true
sets_codes ops.SmulCc = true
sets_codes ops.TaddCc = true
sets_codes ops.TsubCc = true
sets_codes ops.MulsCc = true
sets_codes _ = false

abbrev pub division_sets_codes : Division → Bool
division_sets_codes divisions.Udiv = false
division_sets_codes divisions.Sdiv = false
division_sets_codes divisions.UdivCc = true
division_sets_codes divisions.SdivCc = true

-- ADDcc, SUBcc and the logical operations: their Z and N are the result's
abbrev pub tells_signs : Op → Bool
tells_signs ops.AddCc = true
tells_signs ops.SubCc = true
tells_signs ops.AndCc = true
tells_signs ops.AndnCc = true
tells_signs ops.OrCc = true
tells_signs ops.OrnCc = true
tells_signs ops.XorCc = true
tells_signs ops.XnorCc = true
tells_signs _ = false

abbrev pub related_register : ℕ → Related
related_register r = if r == 0 then Word 0 else Location r

abbrev pub related_operand : Operand → Related
related_operand (Register r) = related_register r
related_operand (Immediate w) = Word w

-- with rd %g0: `cmp` relates its operands, `tst` its operand and 0
abbrev pub compared : Op → Three → Option Relation
compared ops.SubCc f = Some (Compared (related_register f.rs1) (related_operand f.operand2))
compared ops.OrCc f = if f.rs1 == 0 then Some (Compared (related_operand f.operand2) (Word 0)) else None
compared _ f = None

-- what the codes say after an operation that sets them
abbrev pub relation_of : Op → Three → Option Relation
relation_of op f = if f.rd == 0 then compared op f else (if tells_signs op then Some (Signs f.rd) else None)

-- codes that were set, and what they were set from
abbrev pub with_codes : Bool → Option Relation → Known → Known
with_codes true r d = record d { icc = true; relation = r }
with_codes false r d = d

-- multiplications and the multiply step leave any word in Y
abbrev pub with_product_y : Op → Known → Known
with_product_y op d = if writes_y op then with_y (Some (all 0)) d else d

-- ---- loads and stores

-- the offset from %sp that %sp or %fp and an immediate give, in a frame of this many bytes: %fp is %sp plus the frame
abbrev pub offset_from_sp : ℕ → ℕ → Operand → Option ℤ
offset_from_sp frame rs1 (Register r) = None
offset_from_sp frame rs1 (Immediate w) =
    if rs1 == stack_pointer then Some (signed w)
    else (if rs1 == frame_pointer then Some (signed w +ℤ pos frame) else None)

-- a frame's words lie from 64 bytes above %sp to its end; there are at most 1,008
abbrev pub is_word_offset : ℕ → ℕ → Bool
is_word_offset frame n = (nat_le 64 n && nat_le (n + 4) frame) && (nat_le n 4092 && (n % 4 == 0))

-- the location of the word at an offset
abbrev pub word_at_offset : ℕ → Option ℤ → Option ℕ
word_at_offset frame None = None
word_at_offset frame (Some (negsuc n)) = None
word_at_offset frame (Some (pos n)) = if is_word_offset frame n then Some (32 + (n - 64) / 4) else None

-- the location of the frame word that an LD or ST names
abbrev pub frame_word_of : ℕ → MemoryOperand → Option ℕ
frame_word_of frame m = word_at_offset frame (offset_from_sp frame m.rs1 m.operand2)

-- data may hold any number
abbrev pub loaded_range : Loading → Range
loaded_range loadings.UnsignedByte = unsigned_byte
loaded_range loadings.SignedByte = signed_byte
loaded_range loadings.UnsignedHalf = unsigned_half
loaded_range loadings.SignedHalf = signed_half
loaded_range loadings.Word = all 0
loaded_range loadings.Double = all 0

-- LD of a frame word gives what is known of it; any other load a number of its size
abbrev pub loaded_entry : Option ℕ → Loading → Known → Option Entry
loaded_entry (Some l) loadings.Word d = d.entry l
loaded_entry _ loading d = Some (plain_entry (loaded_range loading))

-- LDD fills a pair
abbrev pub with_loaded : Option ℕ → Loading → ℕ → Known → Known
with_loaded word loadings.Double rd d =
    with_entry (odd_of rd) (Some (plain_entry (all 0))) (with_entry rd (Some (plain_entry (all 0))) d)
with_loaded word loading rd d = with_entry rd (loaded_entry word loading d) d

-- ST to a frame word gives it what is known of the register
abbrev pub with_stored : Option ℕ → Size → ℕ → Known → Known
with_stored (Some l) sizes.Word rd d = with_entry l (register_entry d rd) d
with_stored _ size rd d = d

abbrev pub exchanged_range : Exchanging → Range
exchanged_range exchanges.Ones = unsigned_byte
exchanged_range exchanges.Register = all 0

abbrev pub with_moved : Option ℕ → Moving → ℕ → Known → Known
with_moved word (Load l) rd d = with_loaded word l rd d
with_moved word (Store size) rd d = with_stored word size rd d
with_moved word (Exchange e) rd d = with_entry rd (Some (plain_entry (exchanged_range e))) d

-- ---- windows

abbrev pub is_global : ℕ → Bool
is_global l = nat_lt l 8

abbrev pub is_out : ℕ → Bool
is_out l = nat_le 8 l && nat_lt l 16

abbrev pub is_in : ℕ → Bool
is_in l = nat_le 24 l && nat_lt l 32

-- SAVE: outs become ins with their forms, and nothing else is known
unfoldable pub saved : Known → Known
saved d = record { entry = λ l. if is_in l then d.entry (l - 16) else None; y = None; icc = false; relation = None }

-- RESTORE before it writes rd: ins become outs with their forms, globals, Y and codes stay
unfoldable pub restored : Known → Known
restored d = record d {
  entry = λ l. if is_global l then d.entry l else (if is_out l then d.entry (l + 16) else None);
  relation = None;
}

-- ---- services

-- get leaves a byte or all ones in %o0
abbrev pub served : Option ℕ → Known → Known
served (Some n) d = if n == 1 then with_entry 8 (Some (plain_entry byte_or_end)) d else d
served None d = d

-- ---- transfer

-- What is known after an operation, in a frame of this many bytes (0 in a leaf). Transfers of control know what was
-- known; so do the operations that sandboxed code may not have.
unfoldable pub transferred : ℕ → Operation → Known → Known
transferred frame (Compute op f) d =
    with_product_y op (with_codes (sets_codes op) (relation_of op f)
    (with_entry f.rd (result_of op (register_entry d f.rs1) (operand_entry d f.operand2)) d))
transferred frame (Divide op f) d =
    with_codes (division_sets_codes op) None
    (with_entry f.rd (quotient_of d.y (register_entry d f.rs1) (operand_entry d f.operand2)) d)
transferred frame (TaggedTrap op f) d =
    with_icc true (with_entry f.rd (tagged_of op (register_entry d f.rs1) (operand_entry d f.operand2)) d)
transferred frame (SetHigh f) d = with_entry f.rd (Some (constant_entry (high_word f))) d
transferred frame (ReadY rd) d = with_entry rd (entry_of_y d.y) d
transferred frame (WriteY f) d = with_y (written_y (register_entry d f.rs1) (operand_entry d f.operand2)) d
transferred frame (Transfer t m) d = with_moved (frame_word_of frame m) t m.rd d
transferred frame (Save f) d = saved d
transferred frame (Restore f) d =
    with_entry f.rd (result_of ops.Add (register_entry d f.rs1) (operand_entry d f.operand2)) (restored d)
-- %o7 is never known
transferred frame (Call displacement) d = record (with_entry 15 None d) { relation = None }
transferred frame (TrapOnCondition t) d = served (service_of t) d
transferred frame _ d = d

-- ---- after a call

-- locals, ins and frame words are the caller's own
abbrev pub is_kept_by_calls : ℕ → Bool
is_kept_by_calls l = nat_le 16 l

-- the results in %o0 and on
abbrev pub result_entry : List Range → ℕ → Option Entry
result_entry results l = if is_out l then plain_entry_of (slice_get results (l - 8)) else None

-- What is known where a call's callee has returned: its results, and locals, ins and frame words as they were; other
-- outs, globals, codes and Y are undefined.
unfoldable pub called : List Range → Known → Known
called results d = record {
  entry = λ l. if is_kept_by_calls l then d.entry l else result_entry results l;
  y = None;
  icc = false;
  relation = None;
}
