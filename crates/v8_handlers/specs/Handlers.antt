-- The trap table and the window handlers as words (chapter 7 for traps, appendix B for each word's meaning).
use Rattle.std.specs.Prelude.{ℕ, ◌+◌, ◌-◌, ◌/◌, ◌%◌, ◌==◌, nat_lt, if◌then◌else◌, List, [], ◌∷◌, slice_index}

-- sethi 0,%g0
abbrev pub nop : ℕ
nop = 0x01000000

-- ---- the four words of each trap type's vector; %l1 and %l2 hold the PC and nPC of the trapped instruction

-- rd %wim,%l3; ba overflow handler; or %g0,%g1,%l4; nop
abbrev pub overflow_vector : List ℕ
overflow_vector = 0xA7500000 ∷ 0x108003EB ∷ 0xA8100001 ∷ nop ∷ []

-- rd %wim,%l3; ba underflow handler; sll %l3,1,%l4; nop
abbrev pub underflow_vector : List ℕ
underflow_vector = 0xA7500000 ∷ 0x10800407 ∷ 0xA92CE001 ∷ nop ∷ []

-- the service `exit`, sethi %hi(device),%l3; st %i0,[%l3+8]; nop; nop
abbrev pub exit_vector : List ℕ
exit_vector = 0x273C0040 ∷ 0xF024E008 ∷ nop ∷ nop ∷ []

-- the service `get`, sethi %hi(device),%l3; ld [%l3],%i0; jmpl %l2,%g0; rett %l2+4
abbrev pub get_vector : List ℕ
get_vector = 0x273C0040 ∷ 0xF004E000 ∷ 0x81C48000 ∷ 0x81CCA004 ∷ []

-- the service `put`, sethi %hi(device),%l3; st %i0,[%l3+4]; jmpl %l2,%g0; rett %l2+4
abbrev pub put_vector : List ℕ
put_vector = 0x273C0040 ∷ 0xF024E004 ∷ 0x81C48000 ∷ 0x81CCA004 ∷ []

-- any other trap stops the machine, sethi %hi(device),%l3; st %g0,[%l3+12]; nop; nop
abbrev pub stop_vector : List ℕ
stop_vector = 0x273C0040 ∷ 0xC024E00C ∷ nop ∷ nop ∷ []

-- by trap type
abbrev pub vector : ℕ → List ℕ
vector t =
    if t == 0x05 then overflow_vector
    else (if t == 0x06 then underflow_vector
    else (if t == 0x80 then exit_vector
    else (if t == 0x81 then get_vector
    else (if t == 0x82 then put_vector
    else stop_vector))))

-- word k of the trap table
unfoldable pub trap_word : ℕ → ℕ
trap_word k = slice_index (vector (k / 4)) (k % 4)

-- ---- the handlers of n windows

-- The mask, in %l3, is turned one place to the right; the window below the one that the trap entered is stored from its
-- %sp on. srl %l3,1,%g1; sll %l3,n-1,%l5; or %l5,%g1,%g1; save; wr %g1,%g0,%wim; nop; nop; nop std %l0, %l2, %l4, %l6,
-- %i0, %i2, %i4, %i6 to [%sp], [%sp+8], .. [%sp+56] restore; or %g0,%l4,%g1; jmpl %l1,%g0; rett %l2
abbrev pub overflow_handler : ℕ → List ℕ
overflow_handler n =
    0x8334E001 ∷ (0xAB2CE000 + (n - 1)) ∷ 0x82154001 ∷ 0x81E00000 ∷ 0x81904000 ∷ nop ∷ nop ∷ nop
    ∷ 0xE03BA000 ∷ 0xE43BA008 ∷ 0xE83BA010 ∷ 0xEC3BA018 ∷ 0xF03BA020 ∷ 0xF43BA028 ∷ 0xF83BA030 ∷ 0xFC3BA038
    ∷ 0x81E80000 ∷ 0x82100014 ∷ 0x81C44000 ∷ 0x81CC8000 ∷ []

-- The mask, in %l3, is turned one place to the left; the window two above the one that the trap entered is loaded from
-- its %sp on. srl %l3,n-1,%l5; or %l5,%l4,%l4; wr %l4,%g0,%wim; nop; nop; nop; restore; restore ldd [%sp], [%sp+8], ..
-- [%sp+56] to %l0, %l2, %l4, %l6, %i0, %i2, %i4, %i6 save; save; jmpl %l1,%g0; rett %l2
abbrev pub underflow_handler : ℕ → List ℕ
underflow_handler n =
    (0xAB34E000 + (n - 1)) ∷ 0xA8154014 ∷ 0x81950000 ∷ nop ∷ nop ∷ nop ∷ 0x81E80000 ∷ 0x81E80000
    ∷ 0xE01BA000 ∷ 0xE41BA008 ∷ 0xE81BA010 ∷ 0xEC1BA018 ∷ 0xF01BA020 ∷ 0xF41BA028 ∷ 0xF81BA030 ∷ 0xFC1BA038
    ∷ 0x81E00000 ∷ 0x81E00000 ∷ 0x81C44000 ∷ 0x81CC8000 ∷ []

-- Word k of a page with one handler at its start and another from byte 0x80 on, else nop
unfoldable pub page_word : List ℕ → List ℕ → ℕ → ℕ
page_word overflow underflow k =
    if nat_lt k 20 then slice_index overflow k
    else (if nat_lt k 32 then nop
    else (if nat_lt k 52 then slice_index underflow (k - 32) else nop))

-- word k of the handlers' page
abbrev pub handler_word : ℕ → ℕ → ℕ
handler_word n k = page_word (overflow_handler n) (underflow_handler n) k
