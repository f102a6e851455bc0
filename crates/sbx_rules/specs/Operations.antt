-- What the rules ask of an operation: its kind, the registers that it reads and writes, and the bytes that it reaches.
use Rattle.std.specs.Prelude.{ℕ, ◌&&◌, ◌||◌, not, Bool, true, false, ◌==◌, nat_lt, nat_le, if◌then◌else◌, List, [], ◌∷◌}
use Rattle.std.specs.Prelude.{◌++◌, Option, Some, None, ℤ}
use Rattle.v8_word.specs.Registers.{call_address, caller_address, frame_pointer, stack_pointer}
use Rattle.v8_word.specs.declared.Size.{Size}
use Rattle.v8_word.specs.declared.Size.TheVariants as sizes
use Rattle.v8_formats.specs.declared.instr.Operand.{Operand}
use Rattle.v8_formats.specs.declared.instr.Operand.TheVariants.{Register, Immediate}
use Rattle.v8_alu.specs.declared.Op.TheVariants as ops
use Rattle.v8_meaning.specs.declared.operation.Exchange.TheVariants as exchanges
use Rattle.v8_meaning.specs.declared.operation.Loading.TheVariants as loadings
use Rattle.v8_meaning.specs.declared.operation.MemoryOperand.{MemoryOperand}
use Rattle.v8_meaning.specs.declared.operation.Operation.{Operation}
use Rattle.v8_meaning.specs.declared.operation.Operation.TheVariants.{Compute, Divide, TaggedTrap, SetHigh, ReadY}
use Rattle.v8_meaning.specs.declared.operation.Operation.TheVariants.{WriteY, Transfer, Save, Restore, Call}
use Rattle.v8_meaning.specs.declared.operation.Operation.TheVariants.{BranchOnCondition, JumpAndLink, TrapOnCondition}
use Rattle.v8_meaning.specs.declared.operation.Transfer.{Transfer as Moving}
use Rattle.v8_meaning.specs.declared.operation.Transfer.TheVariants.{Load, Store, Exchange}
use Rattle.v8_meaning.specs.Admitted.{is_ret}
use Rattle.v8_meaning.specs.Operands.{is_always}
use Rattle.v8_meaning.specs.Transfers.{bytes_in, odd_of, size_of, writes_memory}
use Rattle.sbx_image.specs.Function.{Function}
use Rattle.sbx_image.specs.Kind.{Kind}
use Rattle.sbx_image.specs.Kind.TheVariants.{Leaf, Framed}
use Rattle.sbx_image.specs.Range.{Range}
use Rattle.sbx_domain.specs.Effects.{service_of}
use Rattle.sbx_domain.specs.Known.{Known}
use Rattle.sbx_domain.specs.Results.{address_of, operand_entry, register_entry}
use Rattle.sbx_domain.specs.Transfer.{frame_word_of, offset_from_sp}

-- ---- kinds

abbrev pub is_framed : Kind → Bool
is_framed Framed = true
is_framed Leaf = false

abbrev pub is_call : Operation → Bool
is_call (Call d) = true
is_call _ = false

-- `ret` or `retl`, which are the only jumps that are admitted
abbrev pub is_return : Operation → Bool
is_return (JumpAndLink j) = true
is_return _ = false

-- `ret` alone
abbrev pub is_framed_return : Operation → Bool
is_framed_return (JumpAndLink j) = is_ret j
is_framed_return _ = false

abbrev pub is_transfer : Operation → Bool
is_transfer (Call d) = true
is_transfer (JumpAndLink j) = true
is_transfer (BranchOnCondition b) = true
is_transfer _ = false

abbrev pub is_save : Operation → Bool
is_save (Save f) = true
is_save _ = false

abbrev pub is_restore : Operation → Bool
is_restore (Restore f) = true
is_restore _ = false

abbrev pub is_trap : Operation → Bool
is_trap (TrapOnCondition t) = true
is_trap _ = false

-- ---- frame words

-- LD and ST
abbrev pub moves_word : Moving → Bool
moves_word (Load loadings.Word) = true
moves_word (Store sizes.Word) = true
moves_word _ = false

-- the offset from %sp of an LD or ST that names %sp or %fp and an immediate, in a framed function
abbrev pub frame_offset : Function → Moving → MemoryOperand → Option ℤ
frame_offset function t m =
    if is_framed function.kind && moves_word t then offset_from_sp function.frame m.rs1 m.operand2 else None

abbrev pub loads_word : Moving → Bool
loads_word (Load loadings.Word) = true
loads_word _ = false

-- the location of the frame word that an LD reads
abbrev pub frame_word_read : Function → Operation → Option ℕ
frame_word_read function (Transfer t m) =
    if is_framed function.kind && loads_word t then frame_word_of function.frame m else None
frame_word_read function _ = None

-- ---- registers read

abbrev pub second_reads : Operand → List ℕ
second_reads (Register r) = r ∷ []
second_reads (Immediate w) = []

-- an address of %sp or %fp by its offset has a form of its own
abbrev pub address_reads : Option ℤ → MemoryOperand → List ℕ
address_reads (Some offset) m = []
address_reads None m = m.rs1 ∷ second_reads m.operand2

abbrev pub stored_reads : Size → ℕ → List ℕ
stored_reads sizes.Double rd = rd ∷ odd_of rd ∷ []
stored_reads _ rd = rd ∷ []

-- the registers whose words go out
abbrev pub moved_reads : Moving → ℕ → List ℕ
moved_reads (Load l) rd = []
moved_reads (Store size) rd = stored_reads size rd
moved_reads (Exchange exchanges.Ones) rd = []
moved_reads (Exchange exchanges.Register) rd = rd ∷ []

-- exit and put read %o0, get writes it
abbrev pub service_reads : Option ℕ → List ℕ
service_reads None = []
service_reads (Some n) = if n == 0 || n == 2 then 8 ∷ [] else []

abbrev pub service_writes : Option ℕ → List ℕ
service_writes None = []
service_writes (Some n) = if n == 1 then 8 ∷ [] else []

-- SAVE, CALL, `ret` and `retl` have forms of their own, which read and write what they name.
unfoldable pub reads_of : Function → Operation → List ℕ
reads_of function (Compute op f) = f.rs1 ∷ second_reads f.operand2
reads_of function (Divide op f) = f.rs1 ∷ second_reads f.operand2
reads_of function (TaggedTrap op f) = f.rs1 ∷ second_reads f.operand2
reads_of function (WriteY f) = f.rs1 ∷ second_reads f.operand2
reads_of function (Transfer t m) = moved_reads t m.rd ++ address_reads (frame_offset function t m) m
reads_of function (Restore f) = f.rs1 ∷ second_reads f.operand2
reads_of function (TrapOnCondition t) = service_reads (service_of t)
reads_of function _ = []

-- ---- registers written

abbrev pub moved_writes : Moving → ℕ → List ℕ
moved_writes (Load loadings.Double) rd = rd ∷ odd_of rd ∷ []
moved_writes (Load l) rd = rd ∷ []
moved_writes (Store size) rd = []
moved_writes (Exchange e) rd = rd ∷ []

unfoldable pub writes_of : Operation → List ℕ
writes_of (Compute op f) = f.rd ∷ []
writes_of (Divide op f) = f.rd ∷ []
writes_of (TaggedTrap op f) = f.rd ∷ []
writes_of (SetHigh f) = f.rd ∷ []
writes_of (ReadY rd) = rd ∷ []
writes_of (Transfer t m) = moved_writes t m.rd
writes_of (Restore f) = f.rd ∷ []
writes_of (TrapOnCondition t) = service_writes (service_of t)
writes_of _ = []

-- a program's own code may not write these
abbrev pub is_reserved : ℕ → Bool
is_reserved r = (r == stack_pointer) || (r == call_address) || (r == frame_pointer) || (r == caller_address)

-- a leaf leaves locals and ins to its caller; RESTORE writes an out of the caller, %o0 to %o5, or nothing
abbrev pub may_write : Function → Operation → ℕ → Bool
may_write function (Restore f) r = (r == 0) || (nat_le 8 r && nat_le r 13)
may_write function op r = not (is_reserved r) && (is_framed function.kind || nat_lt r 16)

-- ---- condition codes and Y

-- ADDX, SUBX, MULScc and every branch but `ba`
abbrev pub reads_codes : Operation → Bool
reads_codes (BranchOnCondition b) = not (is_always b.cond)
reads_codes (Compute ops.Addx f) = true
reads_codes (Compute ops.AddxCc f) = true
reads_codes (Compute ops.Subx f) = true
reads_codes (Compute ops.SubxCc f) = true
reads_codes (Compute ops.MulsCc f) = true
reads_codes _ = false

-- divisions, RDY and MULScc
abbrev pub reads_y : Operation → Bool
reads_y (Divide op f) = true
reads_y (ReadY rd) = true
reads_y (Compute ops.MulsCc f) = true
reads_y _ = false

-- ---- bytes reached

-- so many bytes, at an offset from %sp where it is a frame word's form, else at an address of a range; and whether it
-- writes them
pub record Access : Type 0 where
  pub size : ℕ
  pub writes : Bool
  pub offset : Option ℤ
  pub range : Option Range

unfoldable pub access_of : Function → Operation → Known → Option Access
access_of function (Transfer t m) d = Some (record {
  size = bytes_in (size_of t);
  writes = writes_memory t;
  offset = frame_offset function t m;
  range = address_of (register_entry d m.rs1) (operand_entry d m.operand2);
})
access_of function _ d = None
