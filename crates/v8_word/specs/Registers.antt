-- Registers that have a use of their own, by their numbers in a window (appendix D, "Registers").
use Rattle.std.specs.Prelude.{ℕ}

-- %sp, which is %o6
abbrev pub stack_pointer : ℕ
stack_pointer = 14

-- %o7, into which CALL puts its own address
abbrev pub call_address : ℕ
call_address = 15

-- %fp, which is %i6
abbrev pub frame_pointer : ℕ
frame_pointer = 30

-- %i7, where a framed function finds the address of its CALL
abbrev pub caller_address : ℕ
caller_address = 31
