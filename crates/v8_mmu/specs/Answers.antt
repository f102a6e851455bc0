-- The counts of a port's calls and failures.
use Rattle.std.specs.Prelude.{ℕ, ◌+◌, ◌-◌, ◌^◌, ◌≤◌, ◌==◌, Bool, true, false, Result, Ok, Err, if◌then◌else◌}
use Rattle.v8_mmu.specs.declared.bus.PortFault.{PortFault}

-- one more, up to the greatest number of 64 bits, where a count stays
abbrev pub one_more : ℕ → ℕ
one_more k = if k == 2 ^ 64 - 1 then k else k + 1

-- a count rose by at most so much
abbrev pub Grows : ℕ → ℕ → ℕ → Type 0
Grows most old new = (old ≤ new) × (new ≤ old + most)

-- how many calls of the port this allows
abbrev pub call_if : Bool → ℕ
call_if true = 1
call_if false = 0

-- a count of failures after an answer: one more where the answer is a fault of the port, and what it was anywhere else
abbrev pub failed_after : {T : Type 0} → Result T PortFault → ℕ → ℕ
failed_after (Ok x) before = before
failed_after (Err fault) before = one_more before
