-- What runs of the flat machine take on a processor, in cycles, by worst cases of its instructions.
use Rattle.std.specs.Prelude.{ℕ, zero, suc, ◌+◌, ◌≤◌, if◌then◌else◌, List, [], ◌∷◌, Option, None, Some}
use Rattle.v8_alu.specs.declared.Op.{Op}
use Rattle.v8_alu.specs.declared.Op.TheVariants.{Umul, UmulCc, Smul, SmulCc}
use Rattle.v8_meaning.specs.declared.operation.Transfer.{Transfer}
use Rattle.v8_meaning.specs.declared.operation.Transfer.TheVariants as transfers
use Rattle.v8_meaning.specs.declared.operation.Operation.{Operation}
use Rattle.v8_meaning.specs.declared.operation.Operation.TheVariants.{Compute, Divide, Transfer as Moves, Save, Restore, Call, BranchOnCondition, JumpAndLink, TrapOnCondition}
use Rattle.sbx_image.specs.Parts.{Parts}
use Rattle.sbx_flat.specs.Effects.{service_of}
use Rattle.sbx_flat.specs.Runs.{AreBytes, FlatRun}
use Rattle.sbx_flat.specs.declared.path.Place.{Place}
use Rattle.sbx_flat.specs.States.{State}
use Rattle.sbx_flat.specs.Turns.{asked, word_at}
use Rattle.inspect_cycles.specs.declared.table.CycleTable.{CycleTable}

-- ---- what an operation takes beside its fetch, the walks of page tables, and the trap

abbrev pub cycles_of_result : CycleTable → Op → ℕ
cycles_of_result t Umul = t.multiply
cycles_of_result t UmulCc = t.multiply
cycles_of_result t Smul = t.multiply
cycles_of_result t SmulCc = t.multiply
cycles_of_result t _ = t.plain

abbrev pub cycles_of_transfer : CycleTable → Transfer → ℕ
cycles_of_transfer t (transfers.Load kind) = t.load
cycles_of_transfer t (transfers.Store size) = t.store
cycles_of_transfer t (transfers.Exchange kind) = t.exchange

-- 0 exits, 1 gets a byte, 2 puts one
abbrev pub cycles_of_service : CycleTable → Option ℕ → ℕ
cycles_of_service t None = t.plain
cycles_of_service t (Some zero) = t.exit
cycles_of_service t (Some (suc zero)) = t.get
cycles_of_service t (Some (suc (suc n))) = t.put

abbrev pub own_cycles : CycleTable → Operation → ℕ
own_cycles t (Compute op f) = cycles_of_result t op
own_cycles t (Divide d f) = t.divide
own_cycles t (Moves m f) = cycles_of_transfer t m
own_cycles t (Save f) = t.save
own_cycles t (Restore f) = t.restore
own_cycles t (Call d) = t.branch
own_cycles t (BranchOnCondition b) = t.branch
own_cycles t (JumpAndLink f) = t.jump
own_cycles t (TrapOnCondition trap) = cycles_of_service t (service_of trap)
own_cycles t _ = t.plain

-- ---- steps

-- the walk for an access to data
abbrev pub data_cycles : CycleTable → Operation → ℕ
data_cycles t (Moves m f) = t.walk
data_cycles t _ = 0

abbrev pub trap_cycles : CycleTable → Operation → ℕ
trap_cycles t (Save f) = t.trap
trap_cycles t (Restore f) = t.trap
trap_cycles t (TrapOnCondition trap) = t.trap
trap_cycles t _ = 0

-- what a step of an operation takes at most: its fetch with a walk, itself, its data's walk, its trap
unfoldable pub cycles_of : CycleTable → Operation → ℕ
cycles_of t o = t.fetch + t.walk + (own_cycles t o + data_cycles t o) + trap_cycles t o

-- what an instruction that is annulled takes
unfoldable pub slot_cycles : CycleTable → ℕ
slot_cycles t = t.fetch + t.walk + t.plain

-- the same of a word; no step is of none
abbrev pub cycles_of_word : CycleTable → Option ℕ → ℕ
cycles_of_word t None = 0
cycles_of_word t (Some word) = cycles_of t (asked word)

-- what the step at a place takes
abbrev pub cycles_at : CycleTable → Parts → Place → ℕ
cycles_at t parts place = if place.annulled then slot_cycles t else cycles_of_word t (word_at parts.words place.pc)

-- what a path takes
abbrev pub cycles : CycleTable → Parts → List Place → ℕ
cycles t parts [] = 0
cycles t parts (place ∷ path) = cycles_at t parts place + cycles t parts path

-- no run of the image takes more, whatever its input
abbrev pub AreMost : CycleTable → Parts → ℕ → Type 0
AreMost t parts most = (input : List ℕ) (path : List Place) (s : State) → AreBytes input → FlatRun parts input path s →
    cycles t parts path ≤ most

-- ---- beside the services

-- services that take nothing behind their traps
abbrev pub without_services : CycleTable → CycleTable
without_services t = record t { exit = 0; get = 0; put = 0 }

-- what follows the trap of a service
abbrev pub served_of : CycleTable → Option ℕ → ℕ
served_of t None = 0
served_of t (Some zero) = t.exit
served_of t (Some (suc zero)) = t.get
served_of t (Some (suc (suc n))) = t.put

abbrev pub served_by : CycleTable → Operation → ℕ
served_by t (TrapOnCondition trap) = served_of t (service_of trap)
served_by t _ = 0

abbrev pub served_of_word : CycleTable → Option ℕ → ℕ
served_of_word t None = 0
served_of_word t (Some word) = served_by t (asked word)

abbrev pub served_at : CycleTable → Parts → Place → ℕ
served_at t parts place = if place.annulled then 0 else served_of_word t (word_at parts.words place.pc)

-- what the services of a path take behind their traps
abbrev pub served : CycleTable → Parts → List Place → ℕ
served t parts [] = 0
served t parts (place ∷ path) = served_at t parts place + served t parts path

-- no run of the image takes more beside its services
abbrev pub AreMostBeside : CycleTable → Parts → ℕ → Type 0
AreMostBeside t parts most = (input : List ℕ) (path : List Place) (s : State) → AreBytes input →
    FlatRun parts input path s → cycles t parts path ≤ most + served t parts path
