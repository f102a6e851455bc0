-- What a bus is seen as, and what a call leaves of its port's counts.
use Rattle.std.specs.Prelude.{ℕ, ◌≡◌, List, Option, Some, None, Result, Ok, Err}
use Rattle.v8_mmu.specs.Answers.{Grows, one_more}
use Rattle.v8_mmu.specs.declared.bus.PortFault.{PortFault}
use Rattle.v8_mmu.specs.declared.bus.BusFault.{BusFault}
use Rattle.v8_mmu.specs.declared.bus.BusFault.TheVariants.{Unanswered, Port}

-- What lies at physical addresses: the bytes of RAM, and a device.
pub record Memory (D : Type 0) : Type 0 where
  pub ram : List ℕ
  pub device : D

-- How often a port has failed and was called, where a count of 2^64 - 1 stays, and the fault that it answered last.
pub record PortCounts : Type 0 where
  pub failed : ℕ
  pub calls : ℕ
  pub fault : PortFault

-- a state that is held, as a memory, and what is told of the port that it reaches
pub record Ported (S : Type 0) : Type 0 where
  pub held : S
  pub port : PortCounts

-- other RAM, and the rest as before
abbrev pub with_ram : {D : Type 0} → Ported (Memory D) → List ℕ → Ported (Memory D)
with_ram s ram = record s { held = record s.held { ram = ram } }

-- nothing failed, and the port was called at most so often
pub record Completed (most : ℕ) (old new : PortCounts) : Type 0 where
  pub failed : new.failed ≡ old.failed
  pub calls : Grows most old.calls new.calls

-- the port failed once, by this fault, and was called at most so often
pub record Failed (most : ℕ) (own : PortFault) (old new : PortCounts) : Type 0 where
  pub failed : new.failed ≡ one_more old.failed
  pub calls : Grows most old.calls new.calls
  pub fault : new.fault ≡ own

-- What the access leaves to which the bus's meaning has this answer (a value, RAM and device), and which may call the
-- port so often: where it completes, what the answer says; else RAM and device as before. Where nothing answers there
-- is none, and the port wasn't called.
abbrev pub Leaves : {D T : Type 0} → Option (T × List ℕ × D) → ℕ → Result T BusFault → Ported (Memory D) → Ported (Memory D) →
    Type 0
Leaves answer most (Ok x) old new = (answer ≡ Some (x, new.held.ram, new.held.device)) × Completed most old.port new.port
Leaves answer most (Err Unanswered) old new = (answer ≡ None) × ((new.held ≡ old.held) × Completed 0 old.port new.port)
Leaves answer most (Err (Port fault)) old new = (new.held ≡ old.held) × Failed most fault old.port new.port
