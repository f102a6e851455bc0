-- The trap types that this machine has, but those of trap instructions (chapter 7, table 7-1).
use Rattle.std.specs.Prelude.{ℕ}

abbrev pub instruction_access_exception : ℕ
instruction_access_exception = 0x01

abbrev pub illegal_instruction : ℕ
illegal_instruction = 0x02

abbrev pub privileged_instruction : ℕ
privileged_instruction = 0x03

abbrev pub fp_disabled : ℕ
fp_disabled = 0x04

abbrev pub window_overflow : ℕ
window_overflow = 0x05

abbrev pub window_underflow : ℕ
window_underflow = 0x06

abbrev pub mem_address_not_aligned : ℕ
mem_address_not_aligned = 0x07

abbrev pub data_access_exception : ℕ
data_access_exception = 0x09

abbrev pub tag_overflow : ℕ
tag_overflow = 0x0A

abbrev pub cp_disabled : ℕ
cp_disabled = 0x24

abbrev pub division_by_zero : ℕ
division_by_zero = 0x2A
