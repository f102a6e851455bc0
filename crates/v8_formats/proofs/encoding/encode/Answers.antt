use Rattle.std.proofs.lemmas.Grind.{common_steps}
use Rattle.std.proofs.Common.{rules, arith}
use Rattle.v8_formats.specs.Spelling.{spelling}
use Rattle.v8_formats.proofs.encoding.encode.Goals as goal

pub returns-in-Sub : goal.returns-in-Sub
unfolding spelling
returns-in-Sub c = search rules

pub overflow_add-result : goal.overflow_add-result
unfolding spelling
overflow_add-result c = grind (arith, common_steps)

pub returns-in-StoreDoubleAlternate : goal.returns-in-StoreDoubleAlternate
unfolding spelling
returns-in-StoreDoubleAlternate c = grind (arith, common_steps)

pub returns-in-OrCc : goal.returns-in-OrCc
unfolding spelling
returns-in-OrCc c = grind (arith, common_steps)

pub returns-in-WriteY : goal.returns-in-WriteY
unfolding spelling
returns-in-WriteY c = grind (arith, common_steps)

pub returns-in-Orn : goal.returns-in-Orn
unfolding spelling
returns-in-Orn c = grind (arith, common_steps)

pub returns-in-SmulCc : goal.returns-in-SmulCc
unfolding spelling
returns-in-SmulCc c = grind (arith, common_steps)

pub returns-in-UdivCc : goal.returns-in-UdivCc
unfolding spelling
returns-in-UdivCc c = grind (arith, common_steps)

pub returns-in-Srl : goal.returns-in-Srl
unfolding spelling
returns-in-Srl c = grind (arith, common_steps)

pub returns-in-TsubCcTv : goal.returns-in-TsubCcTv
unfolding spelling
returns-in-TsubCcTv c = grind (arith, common_steps)

pub returns-in-Sethi : goal.returns-in-Sethi
unfolding spelling
returns-in-Sethi c = grind (arith, common_steps)

pub returns-in-ReadTbr : goal.returns-in-ReadTbr
unfolding spelling
returns-in-ReadTbr c = grind (arith, common_steps)

pub returns-in-MulsCc : goal.returns-in-MulsCc
unfolding spelling
returns-in-MulsCc c = grind (arith, common_steps)

pub returns-in-StoreAlternate : goal.returns-in-StoreAlternate
unfolding spelling
returns-in-StoreAlternate c = grind (arith, common_steps)

pub returns-in-FpMemory : goal.returns-in-FpMemory
unfolding spelling
returns-in-FpMemory c = grind (arith, common_steps)

pub returns-in-ReadPsr : goal.returns-in-ReadPsr
unfolding spelling
returns-in-ReadPsr c = grind (arith, common_steps)

pub returns-in-Bicc : goal.returns-in-Bicc
unfolding spelling
returns-in-Bicc c = grind (arith, common_steps)

pub returns-in-Addx : goal.returns-in-Addx
unfolding spelling
returns-in-Addx c = grind (arith, common_steps)

pub returns-in-ReadWim : goal.returns-in-ReadWim
unfolding spelling
returns-in-ReadWim c = grind (arith, common_steps)

pub returns-in-TsubCc : goal.returns-in-TsubCc
unfolding spelling
returns-in-TsubCc c = grind (arith, common_steps)

pub returns-in-FpBranch : goal.returns-in-FpBranch
unfolding spelling
returns-in-FpBranch c = grind (arith, common_steps)

pub returns-in-SwapAlternate : goal.returns-in-SwapAlternate
unfolding spelling
returns-in-SwapAlternate c = grind (arith, common_steps)

pub returns-in-Jmpl : goal.returns-in-Jmpl
unfolding spelling
returns-in-Jmpl c = grind (arith, common_steps)

pub returns-in-LoadSignedByteAlternate : goal.returns-in-LoadSignedByteAlternate
unfolding spelling
returns-in-LoadSignedByteAlternate c = grind (arith, common_steps)

pub returns-in-AndnCc : goal.returns-in-AndnCc
unfolding spelling
returns-in-AndnCc c = grind (arith, common_steps)

pub returns-in-StoreHalf : goal.returns-in-StoreHalf
unfolding spelling
returns-in-StoreHalf c = grind (arith, common_steps)

pub returns-in-WriteTbr : goal.returns-in-WriteTbr
unfolding spelling
returns-in-WriteTbr c = grind (arith, common_steps)

pub returns-in-Unimp : goal.returns-in-Unimp
unfolding spelling
returns-in-Unimp c = grind (arith, common_steps)

pub returns-in-LoadDouble : goal.returns-in-LoadDouble
unfolding spelling
returns-in-LoadDouble c = grind (arith, common_steps)

pub returns-in-Restore : goal.returns-in-Restore
unfolding spelling
returns-in-Restore c = grind (arith, common_steps)

pub returns-in-FpOperate : goal.returns-in-FpOperate
unfolding spelling
returns-in-FpOperate c = grind (arith, common_steps)

pub returns-in-LoadStoreUnsignedByteAlternate : goal.returns-in-LoadStoreUnsignedByteAlternate
unfolding spelling
returns-in-LoadStoreUnsignedByteAlternate c = grind (arith, common_steps)

pub returns-in-StoreByteAlternate : goal.returns-in-StoreByteAlternate
unfolding spelling
returns-in-StoreByteAlternate c = grind (arith, common_steps)

pub returns-in-WriteWim : goal.returns-in-WriteWim
unfolding spelling
returns-in-WriteWim c = grind (arith, common_steps)

pub returns-in-LoadSignedHalfAlternate : goal.returns-in-LoadSignedHalfAlternate
unfolding spelling
returns-in-LoadSignedHalfAlternate c = grind (arith, common_steps)

pub returns-in-Xnor : goal.returns-in-Xnor
unfolding spelling
returns-in-Xnor c = grind (arith, common_steps)

pub returns-in-Subx : goal.returns-in-Subx
unfolding spelling
returns-in-Subx c = grind (arith, common_steps)

pub returns-in-SdivCc : goal.returns-in-SdivCc
unfolding spelling
returns-in-SdivCc c = grind (arith, common_steps)

pub returns-in-SubCc : goal.returns-in-SubCc
unfolding spelling
returns-in-SubCc c = grind (arith, common_steps)

pub returns-in-Smul : goal.returns-in-Smul
unfolding spelling
returns-in-Smul c = grind (arith, common_steps)

pub returns-in-UmulCc : goal.returns-in-UmulCc
unfolding spelling
returns-in-UmulCc c = grind (arith, common_steps)

pub returns-in-AddCc : goal.returns-in-AddCc
unfolding spelling
returns-in-AddCc c = grind (arith, common_steps)

pub returns-in-LoadDoubleAlternate : goal.returns-in-LoadDoubleAlternate
unfolding spelling
returns-in-LoadDoubleAlternate c = grind (arith, common_steps)

pub returns-in-CpMemory : goal.returns-in-CpMemory
unfolding spelling
returns-in-CpMemory c = grind (arith, common_steps)

pub returns-in-StoreByte : goal.returns-in-StoreByte
unfolding spelling
returns-in-StoreByte c = grind (arith, common_steps)

pub returns-in-WritePsr : goal.returns-in-WritePsr
unfolding spelling
returns-in-WritePsr c = grind (arith, common_steps)

pub returns-in-XorCc : goal.returns-in-XorCc
unfolding spelling
returns-in-XorCc c = grind (arith, common_steps)

pub returns-in-CpBranch : goal.returns-in-CpBranch
unfolding spelling
returns-in-CpBranch c = grind (arith, common_steps)

pub returns-in-Store : goal.returns-in-Store
unfolding spelling
returns-in-Store c = grind (arith, common_steps)

pub returns-in-LoadSignedByte : goal.returns-in-LoadSignedByte
unfolding spelling
returns-in-LoadSignedByte c = grind (arith, common_steps)

pub returns-in-ReadY : goal.returns-in-ReadY
unfolding spelling
returns-in-ReadY c = grind (arith, common_steps)

pub returns-in-Umul : goal.returns-in-Umul
unfolding spelling
returns-in-Umul c = grind (arith, common_steps)

pub returns-in-LoadAlternate : goal.returns-in-LoadAlternate
unfolding spelling
returns-in-LoadAlternate c = grind (arith, common_steps)

pub returns-in-LoadUnsignedByte : goal.returns-in-LoadUnsignedByte
unfolding spelling
returns-in-LoadUnsignedByte c = grind (arith, common_steps)

pub returns-in-LoadSignedHalf : goal.returns-in-LoadSignedHalf
unfolding spelling
returns-in-LoadSignedHalf c = grind (arith, common_steps)

pub returns-in-Rett : goal.returns-in-Rett
unfolding spelling
returns-in-Rett c = grind (arith, common_steps)

pub returns-in-OrnCc : goal.returns-in-OrnCc
unfolding spelling
returns-in-OrnCc c = grind (arith, common_steps)

pub returns-in-Save : goal.returns-in-Save
unfolding spelling
returns-in-Save c = grind (arith, common_steps)

pub returns-in-AndCc : goal.returns-in-AndCc
unfolding spelling
returns-in-AndCc c = grind (arith, common_steps)

pub returns-in-TaddCcTv : goal.returns-in-TaddCcTv
unfolding spelling
returns-in-TaddCcTv c = grind (arith, common_steps)

pub returns-in-Flush : goal.returns-in-Flush
unfolding spelling
returns-in-Flush c = grind (arith, common_steps)

pub returns-in-LoadUnsignedHalf : goal.returns-in-LoadUnsignedHalf
unfolding spelling
returns-in-LoadUnsignedHalf c = grind (arith, common_steps)

pub returns-in-StoreHalfAlternate : goal.returns-in-StoreHalfAlternate
unfolding spelling
returns-in-StoreHalfAlternate c = grind (arith, common_steps)

pub returns-in-Load : goal.returns-in-Load
unfolding spelling
returns-in-Load c = grind (arith, common_steps)

pub returns-in-SubxCc : goal.returns-in-SubxCc
unfolding spelling
returns-in-SubxCc c = grind (arith, common_steps)

pub returns-in-CpOperate : goal.returns-in-CpOperate
unfolding spelling
returns-in-CpOperate c = grind (arith, common_steps)

pub returns-in-LoadUnsignedHalfAlternate : goal.returns-in-LoadUnsignedHalfAlternate
unfolding spelling
returns-in-LoadUnsignedHalfAlternate c = grind (arith, common_steps)

pub returns-in-Udiv : goal.returns-in-Udiv
unfolding spelling
returns-in-Udiv c = grind (arith, common_steps)

pub returns-in-Swap : goal.returns-in-Swap
unfolding spelling
returns-in-Swap c = grind (arith, common_steps)

pub returns-in-Call : goal.returns-in-Call
unfolding spelling
returns-in-Call c = grind (arith, common_steps)

pub returns-in-LoadStoreUnsignedByte : goal.returns-in-LoadStoreUnsignedByte
unfolding spelling
returns-in-LoadStoreUnsignedByte c = grind (arith, common_steps)

pub returns-in-XnorCc : goal.returns-in-XnorCc
unfolding spelling
returns-in-XnorCc c = grind (arith, common_steps)

pub returns-in-Undefined : goal.returns-in-Undefined
unfolding spelling
returns-in-Undefined c = grind (arith, common_steps)

pub returns-in-Sra : goal.returns-in-Sra
unfolding spelling
returns-in-Sra c = grind (arith, common_steps)

pub returns-in-LoadUnsignedByteAlternate : goal.returns-in-LoadUnsignedByteAlternate
unfolding spelling
returns-in-LoadUnsignedByteAlternate c = grind (arith, common_steps)

pub returns-in-Sdiv : goal.returns-in-Sdiv
unfolding spelling
returns-in-Sdiv c = grind (arith, common_steps)

pub returns-in-AddxCc : goal.returns-in-AddxCc
unfolding spelling
returns-in-AddxCc c = grind (arith, common_steps)

pub returns-in-Sll : goal.returns-in-Sll
unfolding spelling
returns-in-Sll c = grind (arith, common_steps)

pub returns-in-StoreDouble : goal.returns-in-StoreDouble
unfolding spelling
returns-in-StoreDouble c = grind (arith, common_steps)

pub returns-in-Ticc : goal.returns-in-Ticc
unfolding spelling
returns-in-Ticc c = grind (arith, common_steps)

pub returns-in-TaddCc : goal.returns-in-TaddCc
unfolding spelling
returns-in-TaddCc c = grind (arith, common_steps)
