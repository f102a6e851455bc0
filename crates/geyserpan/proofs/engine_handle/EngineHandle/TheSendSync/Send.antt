-- A kept box may go to another thread, since its value may, and its block may be freed in any.
use mir.Raw.{raw}
use base.Fraction.{full_share}
use base.Shift.{Keyless}
use denote.Exit.{Exit, unchanged, leaves, hidden, under}
use denote.Memory.{lone}
use denote.RattleType.{RattleType}
use denote.Param.Send.{IsSend, Quiet, part_keyless, owning_send, struct_send, sendable}
use denote.RawPtr.{Ptr, block_ptr, null_ptr, lies_at}
use denote.Builtin.{RawPtr}
use denote.Struct.Struct.{exits_of}
use denote.Struct.Owning.{shape, fields, to}
use Rattle.std.proofs.alloc.Global.TheSendSync.{the_field_send as heap_send}
use Rattle.std.proofs.Crossing.{frees}
use Rattle.geyserpan.specs.contracts.engine_slot.EngineSlot.{the_row as R}
use Rattle.geyserpan.proofs.engine_slot.EngineSlot.TheSendSync.{the_send as value_send}
use Rattle.geyserpan.specs.contracts.engine_handle.EngineHandle.{the_row, the_type}

quiet : {D X : Type 0} (to : D → X) (e : Exit X) → Quiet e → Quiet (hidden (under to e))
quiet to unchanged q = λ x w. tt
quiet to (leaves L l S s r₀) q = λ d. q (to d)

lies : (R : RattleType) → IsSend R → (p : Ptr) (x : R.Denot) → Keyless (lies_at R full_share p x)
lies R s (block_ptr b o) x = part_keyless R s full_share x b o
lies R s null_ptr x = tt

pub send : IsSend the_row
send = let ps : IsSend RawPtr = search sendable in
    owning_send the_type (ps, (heap_send, tt)) (λ d. (lies R value_send d.at d.value, frees.frees d.alloc (raw (lone R.mir)) d.at))
    (λ k. quiet (to the_type) (exits_of k (fields the_type)) ((struct_send (shape the_type) (ps, (heap_send, tt))).leaving k))
