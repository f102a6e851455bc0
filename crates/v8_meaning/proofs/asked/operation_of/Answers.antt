use Rattle.std.proofs.Common.{◌≡◌, ap}
use Rattle.v8_formats.specs.declared.instr.Instr.{Instr}
use Rattle.v8_meaning.specs.declared.operation.Exchange.TheVariants as exchanges
use Rattle.v8_meaning.specs.declared.operation.Loading.TheVariants as loadings
use Rattle.v8_meaning.specs.declared.operation.Operation.{Operation}
use Rattle.v8_formats.specs.Size.TheVariants as sizes
use Rattle.v8_meaning.specs.Operations.{exchange, load, operation_of, store}
use Rattle.v8_meaning.proofs.asked.operation_of.Goals as goal

-- what is made is the operation of the row that the instruction is
by_row : (one row : Instr) (made : Operation) → one ≡ row → made ≡ operation_of row → made ≡ operation_of one
by_row one row made is same = rw is same

pub returns-in-Add : goal.returns-in-Add
unfolding operation_of
returns-in-Add c = rw c.in-Add.is

pub returns-in-And : goal.returns-in-And
unfolding operation_of
returns-in-And c = rw c.in-And.is

pub returns-in-Or : goal.returns-in-Or
unfolding operation_of
returns-in-Or c = rw c.in-Or.is

pub returns-in-Xor : goal.returns-in-Xor
unfolding operation_of
returns-in-Xor c = rw c.in-Xor.is

pub returns-in-Sub : goal.returns-in-Sub
unfolding operation_of
returns-in-Sub c = rw c.in-Sub.is

pub returns-in-Andn : goal.returns-in-Andn
unfolding operation_of
returns-in-Andn c = rw c.in-Andn.is

pub returns-in-Orn : goal.returns-in-Orn
unfolding operation_of
returns-in-Orn c = rw c.in-Orn.is

pub returns-in-Xnor : goal.returns-in-Xnor
unfolding operation_of
returns-in-Xnor c = rw c.in-Xnor.is

pub returns-in-Addx : goal.returns-in-Addx
unfolding operation_of
returns-in-Addx c = rw c.in-Addx.is

pub returns-in-Umul : goal.returns-in-Umul
unfolding operation_of
returns-in-Umul c = rw c.in-Umul.is

pub returns-in-Smul : goal.returns-in-Smul
unfolding operation_of
returns-in-Smul c = rw c.in-Smul.is

pub returns-in-Subx : goal.returns-in-Subx
unfolding operation_of
returns-in-Subx c = rw c.in-Subx.is

pub returns-in-Udiv : goal.returns-in-Udiv
unfolding operation_of
returns-in-Udiv c = rw c.in-Udiv.is

pub returns-in-Sdiv : goal.returns-in-Sdiv
unfolding operation_of
returns-in-Sdiv c = rw c.in-Sdiv.is

pub returns-in-AddCc : goal.returns-in-AddCc
unfolding operation_of
returns-in-AddCc c = rw c.in-AddCc.is

pub returns-in-AndCc : goal.returns-in-AndCc
unfolding operation_of
returns-in-AndCc c = rw c.in-AndCc.is

pub returns-in-OrCc : goal.returns-in-OrCc
unfolding operation_of
returns-in-OrCc c = rw c.in-OrCc.is

pub returns-in-XorCc : goal.returns-in-XorCc
unfolding operation_of
returns-in-XorCc c = rw c.in-XorCc.is

pub returns-in-SubCc : goal.returns-in-SubCc
unfolding operation_of
returns-in-SubCc c = rw c.in-SubCc.is

pub returns-in-AndnCc : goal.returns-in-AndnCc
unfolding operation_of
returns-in-AndnCc c = rw c.in-AndnCc.is

pub returns-in-OrnCc : goal.returns-in-OrnCc
unfolding operation_of
returns-in-OrnCc c = rw c.in-OrnCc.is

pub returns-in-XnorCc : goal.returns-in-XnorCc
unfolding operation_of
returns-in-XnorCc c = rw c.in-XnorCc.is

pub returns-in-AddxCc : goal.returns-in-AddxCc
unfolding operation_of
returns-in-AddxCc c = rw c.in-AddxCc.is

pub returns-in-UmulCc : goal.returns-in-UmulCc
unfolding operation_of
returns-in-UmulCc c = rw c.in-UmulCc.is

pub returns-in-SmulCc : goal.returns-in-SmulCc
unfolding operation_of
returns-in-SmulCc c = rw c.in-SmulCc.is

pub returns-in-SubxCc : goal.returns-in-SubxCc
unfolding operation_of
returns-in-SubxCc c = rw c.in-SubxCc.is

pub returns-in-UdivCc : goal.returns-in-UdivCc
unfolding operation_of
returns-in-UdivCc c = rw c.in-UdivCc.is

pub returns-in-SdivCc : goal.returns-in-SdivCc
unfolding operation_of
returns-in-SdivCc c = rw c.in-SdivCc.is

pub returns-in-TaddCc : goal.returns-in-TaddCc
unfolding operation_of
returns-in-TaddCc c = rw c.in-TaddCc.is

pub returns-in-TsubCc : goal.returns-in-TsubCc
unfolding operation_of
returns-in-TsubCc c = rw c.in-TsubCc.is

pub returns-in-TaddCcTv : goal.returns-in-TaddCcTv
unfolding operation_of
returns-in-TaddCcTv c = rw c.in-TaddCcTv.is

pub returns-in-TsubCcTv : goal.returns-in-TsubCcTv
unfolding operation_of
returns-in-TsubCcTv c = rw c.in-TsubCcTv.is

pub returns-in-MulsCc : goal.returns-in-MulsCc
unfolding operation_of
returns-in-MulsCc c = rw c.in-MulsCc.is

pub returns-in-Sll : goal.returns-in-Sll
unfolding operation_of
returns-in-Sll c = rw c.in-Sll.is

pub returns-in-Srl : goal.returns-in-Srl
unfolding operation_of
returns-in-Srl c = rw c.in-Srl.is

pub returns-in-Sra : goal.returns-in-Sra
unfolding operation_of
returns-in-Sra c = rw c.in-Sra.is

pub returns-in-ReadY : goal.returns-in-ReadY
unfolding operation_of
returns-in-ReadY c = rw c.in-ReadY.is

pub returns-in-Stbar : goal.returns-in-Stbar
unfolding operation_of
returns-in-Stbar c = rw c.in-Stbar.is

pub returns-in-ReadPsr : goal.returns-in-ReadPsr
unfolding operation_of
returns-in-ReadPsr c = rw c.in-ReadPsr.is

pub returns-in-ReadWim : goal.returns-in-ReadWim
unfolding operation_of
returns-in-ReadWim c = rw c.in-ReadWim.is

pub returns-in-ReadTbr : goal.returns-in-ReadTbr
unfolding operation_of
returns-in-ReadTbr c = rw c.in-ReadTbr.is

pub returns-in-WriteY : goal.returns-in-WriteY
unfolding operation_of
returns-in-WriteY c = rw c.in-WriteY.is

pub returns-in-WritePsr : goal.returns-in-WritePsr
unfolding operation_of
returns-in-WritePsr c = rw c.in-WritePsr.is

pub returns-in-WriteWim : goal.returns-in-WriteWim
unfolding operation_of
returns-in-WriteWim c = rw c.in-WriteWim.is

pub returns-in-WriteTbr : goal.returns-in-WriteTbr
unfolding operation_of
returns-in-WriteTbr c = rw c.in-WriteTbr.is

pub returns-in-Rett : goal.returns-in-Rett
unfolding operation_of
returns-in-Rett c = rw c.in-Rett.is

pub returns-in-Flush : goal.returns-in-Flush
unfolding operation_of
returns-in-Flush c = rw c.in-Flush.is

pub returns-in-FpOperate : goal.returns-in-FpOperate
unfolding operation_of
returns-in-FpOperate c = rw c.in-FpOperate.is

pub returns-in-CpOperate : goal.returns-in-CpOperate
unfolding operation_of
returns-in-CpOperate c = rw c.in-CpOperate.is

pub returns-in-Jmpl : goal.returns-in-Jmpl
unfolding operation_of
returns-in-Jmpl c = rw c.in-Jmpl.is

pub returns-in-Save : goal.returns-in-Save
unfolding operation_of
returns-in-Save c = rw c.in-Save.is

pub returns-in-Restore : goal.returns-in-Restore
unfolding operation_of
returns-in-Restore c = rw c.in-Restore.is

pub returns-in-Ticc : goal.returns-in-Ticc
unfolding operation_of
returns-in-Ticc c = rw c.in-Ticc.is

pub returns-in-Load : goal.returns-in-Load
unfolding operation_of
returns-in-Load c = by_row _ _ _ c.in-Load.is (ap (load loadings.Word) c.normal.ensures)

pub returns-in-LoadUnsignedByte : goal.returns-in-LoadUnsignedByte
unfolding operation_of
returns-in-LoadUnsignedByte c = by_row _ _ _ c.in-LoadUnsignedByte.is (ap (load loadings.UnsignedByte) c.normal-in-LoadUnsignedByte.ensures)

pub returns-in-LoadUnsignedHalf : goal.returns-in-LoadUnsignedHalf
unfolding operation_of
returns-in-LoadUnsignedHalf c = by_row _ _ _ c.in-LoadUnsignedHalf.is (ap (load loadings.UnsignedHalf) c.normal-in-LoadUnsignedHalf.ensures)

pub returns-in-LoadDouble : goal.returns-in-LoadDouble
unfolding operation_of
returns-in-LoadDouble c = by_row _ _ _ c.in-LoadDouble.is (ap (load loadings.Double) c.normal-in-LoadDouble.ensures)

pub returns-in-Store : goal.returns-in-Store
unfolding operation_of
returns-in-Store c = by_row _ _ _ c.in-Store.is (ap (store sizes.Word) c.normal-in-Store.ensures)

pub returns-in-StoreByte : goal.returns-in-StoreByte
unfolding operation_of
returns-in-StoreByte c = by_row _ _ _ c.in-StoreByte.is (ap (store sizes.Byte) c.normal-in-StoreByte.ensures)

pub returns-in-StoreHalf : goal.returns-in-StoreHalf
unfolding operation_of
returns-in-StoreHalf c = by_row _ _ _ c.in-StoreHalf.is (ap (store sizes.Half) c.normal-in-StoreHalf.ensures)

pub returns-in-StoreDouble : goal.returns-in-StoreDouble
unfolding operation_of
returns-in-StoreDouble c = by_row _ _ _ c.in-StoreDouble.is (ap (store sizes.Double) c.normal-in-StoreDouble.ensures)

pub returns-in-LoadSignedByte : goal.returns-in-LoadSignedByte
unfolding operation_of
returns-in-LoadSignedByte c = by_row _ _ _ c.in-LoadSignedByte.is (ap (load loadings.SignedByte) c.normal-in-LoadSignedByte.ensures)

pub returns-in-LoadSignedHalf : goal.returns-in-LoadSignedHalf
unfolding operation_of
returns-in-LoadSignedHalf c = by_row _ _ _ c.in-LoadSignedHalf.is (ap (load loadings.SignedHalf) c.normal-in-LoadSignedHalf.ensures)

pub returns-in-LoadStoreUnsignedByte : goal.returns-in-LoadStoreUnsignedByte
unfolding operation_of
returns-in-LoadStoreUnsignedByte c = by_row _ _ _ c.in-LoadStoreUnsignedByte.is (ap (exchange exchanges.Ones) c.normal-in-LoadStoreUnsignedByte.ensures)

pub returns-in-Swap : goal.returns-in-Swap
unfolding operation_of
returns-in-Swap c = by_row _ _ _ c.in-Swap.is (ap (exchange exchanges.Register) c.normal-in-Swap.ensures)

pub returns-in-LoadAlternate : goal.returns-in-LoadAlternate
unfolding operation_of
returns-in-LoadAlternate c = by_row _ _ _ c.in-LoadAlternate.is (ap (load loadings.Word) c.elsewhere.ensures)

pub returns-in-LoadUnsignedByteAlternate : goal.returns-in-LoadUnsignedByteAlternate
unfolding operation_of
returns-in-LoadUnsignedByteAlternate c = by_row _ _ _ c.in-LoadUnsignedByteAlternate.is (ap (load loadings.UnsignedByte) c.elsewhere-in-LoadUnsignedByteAlternate.ensures)

pub returns-in-LoadUnsignedHalfAlternate : goal.returns-in-LoadUnsignedHalfAlternate
unfolding operation_of
returns-in-LoadUnsignedHalfAlternate c = by_row _ _ _ c.in-LoadUnsignedHalfAlternate.is (ap (load loadings.UnsignedHalf) c.elsewhere-in-LoadUnsignedHalfAlternate.ensures)

pub returns-in-LoadDoubleAlternate : goal.returns-in-LoadDoubleAlternate
unfolding operation_of
returns-in-LoadDoubleAlternate c = by_row _ _ _ c.in-LoadDoubleAlternate.is (ap (load loadings.Double) c.elsewhere-in-LoadDoubleAlternate.ensures)

pub returns-in-StoreAlternate : goal.returns-in-StoreAlternate
unfolding operation_of
returns-in-StoreAlternate c = by_row _ _ _ c.in-StoreAlternate.is (ap (store sizes.Word) c.elsewhere-in-StoreAlternate.ensures)

pub returns-in-StoreByteAlternate : goal.returns-in-StoreByteAlternate
unfolding operation_of
returns-in-StoreByteAlternate c = by_row _ _ _ c.in-StoreByteAlternate.is (ap (store sizes.Byte) c.elsewhere-in-StoreByteAlternate.ensures)

pub returns-in-StoreHalfAlternate : goal.returns-in-StoreHalfAlternate
unfolding operation_of
returns-in-StoreHalfAlternate c = by_row _ _ _ c.in-StoreHalfAlternate.is (ap (store sizes.Half) c.elsewhere-in-StoreHalfAlternate.ensures)

pub returns-in-StoreDoubleAlternate : goal.returns-in-StoreDoubleAlternate
unfolding operation_of
returns-in-StoreDoubleAlternate c = by_row _ _ _ c.in-StoreDoubleAlternate.is (ap (store sizes.Double) c.elsewhere-in-StoreDoubleAlternate.ensures)

pub returns-in-LoadSignedByteAlternate : goal.returns-in-LoadSignedByteAlternate
unfolding operation_of
returns-in-LoadSignedByteAlternate c = by_row _ _ _ c.in-LoadSignedByteAlternate.is (ap (load loadings.SignedByte) c.elsewhere-in-LoadSignedByteAlternate.ensures)

pub returns-in-LoadSignedHalfAlternate : goal.returns-in-LoadSignedHalfAlternate
unfolding operation_of
returns-in-LoadSignedHalfAlternate c = by_row _ _ _ c.in-LoadSignedHalfAlternate.is (ap (load loadings.SignedHalf) c.elsewhere-in-LoadSignedHalfAlternate.ensures)

pub returns-in-LoadStoreUnsignedByteAlternate : goal.returns-in-LoadStoreUnsignedByteAlternate
unfolding operation_of
returns-in-LoadStoreUnsignedByteAlternate c = by_row _ _ _ c.in-LoadStoreUnsignedByteAlternate.is (ap (exchange exchanges.Ones) c.elsewhere-in-LoadStoreUnsignedByteAlternate.ensures)

pub returns-in-SwapAlternate : goal.returns-in-SwapAlternate
unfolding operation_of
returns-in-SwapAlternate c = by_row _ _ _ c.in-SwapAlternate.is (ap (exchange exchanges.Register) c.elsewhere-in-SwapAlternate.ensures)

pub returns-in-FpMemory : goal.returns-in-FpMemory
unfolding operation_of
returns-in-FpMemory c = rw c.in-FpMemory.is

pub returns-in-CpMemory : goal.returns-in-CpMemory
unfolding operation_of
returns-in-CpMemory c = rw c.in-CpMemory.is

pub returns-in-Call : goal.returns-in-Call
unfolding operation_of
returns-in-Call c = rw c.in-Call.is

pub returns-in-Unimp : goal.returns-in-Unimp
unfolding operation_of
returns-in-Unimp c = rw c.in-Unimp.is

pub returns-in-Bicc : goal.returns-in-Bicc
unfolding operation_of
returns-in-Bicc c = rw c.in-Bicc.is

pub returns-in-Sethi : goal.returns-in-Sethi
unfolding operation_of
returns-in-Sethi c = rw c.in-Sethi.is

pub returns-in-FpBranch : goal.returns-in-FpBranch
unfolding operation_of
returns-in-FpBranch c = rw c.in-FpBranch.is

pub returns-in-CpBranch : goal.returns-in-CpBranch
unfolding operation_of
returns-in-CpBranch c = rw c.in-CpBranch.is

pub returns-in-Undefined : goal.returns-in-Undefined
unfolding operation_of
returns-in-Undefined c = rw c.in-Undefined.is
