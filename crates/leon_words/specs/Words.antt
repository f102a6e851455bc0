-- The words of a LEON3 that aren't the sandbox machine's, each list with its instructions before it (appendix B for each
-- word's meaning).
use Rattle.std.specs.Prelude.{ℕ, ◌+◌, ◌-◌, ◌/◌, ◌%◌, ◌^◌, List, [], ◌∷◌}
use Rattle.leon_words.specs.declared.services.LeonServices.{LeonServices}
use Rattle.leon_words.specs.declared.services.LeonServices.TheVariants.{Mailbox, Uart, Device}

-- ---- the boot stub

-- The boot stub for n windows, RAM from base on, and leave, the address of `jmpl %l2; rett %l2+4`. boot: wr
-- 0xf80,%psr; nop; nop; nop; wr 2,%wim; sethi %hi(0xf0000000),%g1; wr %g1,%tbr; nop; nop; nop; rd %asr17,%g1; sethi
-- %hi(0x2000),%g2; or %g2,0x11f,%g2; and %g1,%g2,%g1; cmp %g1,0x100+N-1; bne wrong; nop; wr 0xf80+N-1,%psr; nop; nop;
-- nop; sethi %hi(0x80000000),%g1; or %g1,0x200,%g1; clr [%g1+0x40]; sta %g0,[%g0] 0x11; sta %g0,[%g0] 0x10; mov
-- 0x100,%g2; sethi %hi(BOOT_TABLE>>4),%g1; or %g1,%lo(BOOT_TABLE>>4),%g1; sta %g1,[%g2] 0x19; mov 0x200,%g3; sta
-- %g0,[%g3] 0x19; mov 1,%g1; sta %g1,[%g0] 0x19; nop; nop; nop; nop; sta %g0,[%g0] 0x18; nop; nop; nop; nop; lda
-- [%g0] 0x2,%g1; sethi %hi(0x10000),%g4; or %g4,0xf,%g4; or %g1,%g4,%g1; sta %g1,[%g0] 0x2; nop; nop; nop; sethi
-- %hi(0x40000),%l2; sethi %hi(0xffc00),%fp; or %fp,0x3c0,%fp; sethi %hi(leave),%l0; or %l0,%lo(leave),%l0; sethi
-- %hi(CONTEXT_TABLE>>4),%l1; or %l1,%lo(CONTEXT_TABLE>>4),%l1; jmp %l0; sta %l1,[%g2] 0x19. wrong: ta 0; nop
abbrev pub stub : ℕ → ℕ → ℕ → List ℕ
stub n base leave =
    0x81882F80 ∷ 0x01000000 ∷ 0x01000000 ∷ 0x01000000 ∷ 0x81902002 ∷ 0x033C0000 ∷ 0x81984000 ∷ 0x01000000
    ∷ 0x01000000 ∷ 0x01000000 ∷ 0x83444000 ∷ 0x05000008 ∷ 0x8410A11F ∷ 0x82084002 ∷ (0x80A06100 + (n - 1))
    ∷ 0x1280002D ∷ 0x01000000 ∷ (0x81882F80 + (n - 1)) ∷ 0x01000000 ∷ 0x01000000 ∷ 0x01000000 ∷ 0x03200000
    ∷ 0x82106200 ∷ 0xC0206040 ∷ 0xC0A00220 ∷ 0xC0A00200 ∷ 0x84102100 ∷ (0x03000000 + base / 2 ^ 14) ∷ 0x82106300
    ∷ 0xC2A08320 ∷ 0x86102200 ∷ 0xC0A0C320 ∷ 0x82102001 ∷ 0xC2A00320 ∷ 0x01000000 ∷ 0x01000000 ∷ 0x01000000
    ∷ 0x01000000 ∷ 0xC0A00300 ∷ 0x01000000 ∷ 0x01000000 ∷ 0x01000000 ∷ 0x01000000 ∷ 0xC2800040 ∷ 0x09000040
    ∷ 0x8811200F ∷ 0x82104004 ∷ 0xC2A00040 ∷ 0x01000000 ∷ 0x01000000 ∷ 0x01000000 ∷ 0x25000100 ∷ 0x3D0003FF
    ∷ 0xBC17A3C0 ∷ (0x21000000 + leave / 2 ^ 10) ∷ (0xA0142000 + leave % 2 ^ 10) ∷ (0x23000000 + base / 2 ^ 14)
    ∷ 0xA2146200 ∷ 0x81C40000 ∷ 0xE2A08320 ∷ 0x91D02000 ∷ 0x01000000 ∷ []

-- ---- services whose input and output lie in RAM

-- the vectors of trap types 80, 81 and 82. exit_vector: sethi %hi(0xf0010000),%l3; b exit; mov 1,%l7; nop.
-- get_vector: sethi %hi(0xf0010000),%l3; b get; std %l4,[%l3+0x20]; nop. put_vector: sethi %hi(0xf0010000),%l3; b
-- put; std %l4,[%l3+0x20]; nop
abbrev pub mail_vectors : List ℕ
mail_vectors =
    0x273C0040 ∷ 0x1080025E ∷ 0xAE102001 ∷ 0x01000000 ∷ 0x273C0040 ∷ 0x1080023B ∷ 0xE83CE020 ∷ 0x01000000
    ∷ 0x273C0040 ∷ 0x10800249 ∷ 0xE83CE020 ∷ 0x01000000 ∷ []

-- the vector of every other trap type but those of the window traps. rd %tbr,%l0; sethi %hi(0xf0001000),%l4; jmp
-- %l4+0x174; sethi %hi(0xf0010000),%l3
abbrev pub mail_stop : List ℕ
mail_stop =
    0xA1580000 ∷ 0x293C0004 ∷ 0x81C52174 ∷ 0x273C0040 ∷ []

-- what the vectors branch to, from F0001100 on. get: std %l6,[%l3+0x28]; rd %psr,%l6; ld [%l3],%l4; ld [%l3+4],%l5;
-- cmp %l4,%l5; be back; mov -1,%i0; ldub [%l4],%i0; inc %l4; st %l4,[%l3]. back: wr %l6,%psr; nop; nop; nop; ldd
-- [%l3+0x20],%l4; ldd [%l3+0x28],%l6. leave: jmp %l2; rett %l2+4. put: std %l6,[%l3+0x28]; rd %psr,%l6; ld
-- [%l3+8],%l4; ld [%l3+0xc],%l5; cmp %l4,%l5; be exit; mov 3,%l7; stb %i0,[%l4]; inc %l4; b back; st %l4,[%l3+8].
-- stop: mov %l0,%i0; mov 2,%l7. exit: st %i0,[%l3+0x14]; st %l1,[%l3+0x18]; st %l2,[%l3+0x1c]; st %l7,[%l3+0x10]; ta
-- 0; nop
abbrev pub mail_routines : List ℕ
mail_routines =
    0xEC3CE028 ∷ 0xAD480000 ∷ 0xE804C000 ∷ 0xEA04E004 ∷ 0x80A50015 ∷ 0x02800005 ∷ 0xB0103FFF ∷ 0xF00D0000
    ∷ 0xA8052001 ∷ 0xE824C000 ∷ 0x81880016 ∷ 0x01000000 ∷ 0x01000000 ∷ 0x01000000 ∷ 0xE81CE020 ∷ 0xEC1CE028
    ∷ 0x81C48000 ∷ 0x81CCA004 ∷ 0xEC3CE028 ∷ 0xAD480000 ∷ 0xE804E008 ∷ 0xEA04E00C ∷ 0x80A50015 ∷ 0x02800008
    ∷ 0xAE102003 ∷ 0xF02D0000 ∷ 0xA8052001 ∷ 0x10BFFFEF ∷ 0xE824E008 ∷ 0xB0100010 ∷ 0xAE102002 ∷ 0xF024E014
    ∷ 0xE224E018 ∷ 0xE424E01C ∷ 0xEE24E010 ∷ 0x91D02000 ∷ 0x01000000 ∷ []

-- ---- services over the UART

-- the vectors of trap types 80, 81 and 82. exit_vector: sethi %hi(0xf0011000),%l4; b exit; clr %l5; nop. get_vector:
-- sethi %hi(0xf0010000),%l3; b get; std %l0,[%l3+0x30]; nop. put_vector: sethi %hi(0xf0010000),%l3; b put; std
-- %l0,[%l3+0x30]; nop
abbrev pub uart_vectors : List ℕ
uart_vectors =
    0x293C0044 ∷ 0x1080028C ∷ 0xAA102000 ∷ 0x01000000 ∷ 0x273C0040 ∷ 0x10800257 ∷ 0xE03CE030 ∷ 0x01000000
    ∷ 0x273C0040 ∷ 0x10800272 ∷ 0xE03CE030 ∷ 0x01000000 ∷ []

-- the vector of every other trap type but those of the window traps. rd %tbr,%l0; sethi %hi(0xf0001000),%l4; jmp
-- %l4+0x22c; sethi %hi(0xf0011000),%l4
abbrev pub uart_stop : List ℕ
uart_stop =
    0xA1580000 ∷ 0x293C0004 ∷ 0x81C5222C ∷ 0x293C0044 ∷ []

-- what the vectors branch to, from F0001100 on. send: ld [%l4+0x104],%l6; btst 4,%l6; be send; nop; jmp %l7+8; st
-- %l5,[%l4+0x100]. take: ld [%l4+0x104],%l6; btst 1,%l6; be take; nop; ld [%l4+0x100],%i0; jmp %l7+8; and
-- %i0,0xff,%i0. word: mov %l7,%l0; sethi %hi(0xf0001000),%l6; jmpl %l6+0x100,%l7; srl %i0,0x18,%l5; sethi
-- %hi(0xf0001000),%l6; jmpl %l6+0x100,%l7; srl %i0,0x10,%l5; sethi %hi(0xf0001000),%l6; jmpl %l6+0x100,%l7; srl
-- %i0,8,%l5; sethi %hi(0xf0001000),%l6; jmpl %l6+0x100,%l7; mov %i0,%l5; jmp %l0+8; nop. get: std %l4,[%l3+0x20]; std
-- %l6,[%l3+0x28]; rd %psr,%l0; sethi %hi(0xf0011000),%l4; sethi %hi(0xf0001000),%l6; jmpl %l6+0x100,%l7; mov
-- 0x10,%l5; sethi %hi(0xf0001000),%l6; jmpl %l6+0x100,%l7; mov 1,%l5; sethi %hi(0xf0001000),%l6; jmpl %l6+0x118,%l7;
-- nop; cmp %i0,0x10; bne back; nop; sethi %hi(0xf0001000),%l6; jmpl %l6+0x118,%l7; nop; cmp %i0,4; be,a back; mov
-- -1,%i0. back: wr %l0,%psr; nop; nop; nop; ldd [%l3+0x20],%l4; ldd [%l3+0x28],%l6; ldd [%l3+0x30],%l0. leave: jmp
-- %l2; rett %l2+4. put: std %l4,[%l3+0x20]; std %l6,[%l3+0x28]; rd %psr,%l0; sethi %hi(0xf0011000),%l4; and
-- %i0,0xff,%l5; cmp %l5,0x10; bne plain; nop; sethi %hi(0xf0001000),%l6; jmpl %l6+0x100,%l7; nop. plain: sethi
-- %hi(0xf0001000),%l6; jmpl %l6+0x100,%l7; nop; b back; nop. stop: mov %l0,%i0; mov 2,%l5. exit: mov %l5,%l3; sethi
-- %hi(0xf0001000),%l6; jmpl %l6+0x100,%l7; mov 0x10,%l5; sethi %hi(0xf0001000),%l6; jmpl %l6+0x100,%l7; mov %l3,%l5;
-- sethi %hi(0xf0001000),%l6; jmpl %l6+0x134,%l7; nop; cmp %l3,2; bne halt; nop; mov %l1,%i0; sethi
-- %hi(0xf0001000),%l6; jmpl %l6+0x134,%l7; nop; mov %l2,%i0; sethi %hi(0xf0001000),%l6; jmpl %l6+0x134,%l7; nop.
-- halt: ld [%l4+0x104],%l6; btst 2,%l6; be halt; nop; ta 0; nop
abbrev pub uart_routines : List ℕ
uart_routines =
    0xEC052104 ∷ 0x808DA004 ∷ 0x02BFFFFE ∷ 0x01000000 ∷ 0x81C5E008 ∷ 0xEA252100 ∷ 0xEC052104 ∷ 0x808DA001
    ∷ 0x02BFFFFE ∷ 0x01000000 ∷ 0xF0052100 ∷ 0x81C5E008 ∷ 0xB00E20FF ∷ 0xA0100017 ∷ 0x2D3C0004 ∷ 0xAFC5A100
    ∷ 0xAB362018 ∷ 0x2D3C0004 ∷ 0xAFC5A100 ∷ 0xAB362010 ∷ 0x2D3C0004 ∷ 0xAFC5A100 ∷ 0xAB362008 ∷ 0x2D3C0004
    ∷ 0xAFC5A100 ∷ 0xAA100018 ∷ 0x81C42008 ∷ 0x01000000 ∷ 0xE83CE020 ∷ 0xEC3CE028 ∷ 0xA1480000 ∷ 0x293C0044
    ∷ 0x2D3C0004 ∷ 0xAFC5A100 ∷ 0xAA102010 ∷ 0x2D3C0004 ∷ 0xAFC5A100 ∷ 0xAA102001 ∷ 0x2D3C0004 ∷ 0xAFC5A118
    ∷ 0x01000000 ∷ 0x80A62010 ∷ 0x12800008 ∷ 0x01000000 ∷ 0x2D3C0004 ∷ 0xAFC5A118 ∷ 0x01000000 ∷ 0x80A62004
    ∷ 0x22800002 ∷ 0xB0103FFF ∷ 0x81880010 ∷ 0x01000000 ∷ 0x01000000 ∷ 0x01000000 ∷ 0xE81CE020 ∷ 0xEC1CE028
    ∷ 0xE01CE030 ∷ 0x81C48000 ∷ 0x81CCA004 ∷ 0xE83CE020 ∷ 0xEC3CE028 ∷ 0xA1480000 ∷ 0x293C0044 ∷ 0xAA0E20FF
    ∷ 0x80A56010 ∷ 0x12800005 ∷ 0x01000000 ∷ 0x2D3C0004 ∷ 0xAFC5A100 ∷ 0x01000000 ∷ 0x2D3C0004 ∷ 0xAFC5A100
    ∷ 0x01000000 ∷ 0x10BFFFE9 ∷ 0x01000000 ∷ 0xB0100010 ∷ 0xAA102002 ∷ 0xA6100015 ∷ 0x2D3C0004 ∷ 0xAFC5A100
    ∷ 0xAA102010 ∷ 0x2D3C0004 ∷ 0xAFC5A100 ∷ 0xAA100013 ∷ 0x2D3C0004 ∷ 0xAFC5A134 ∷ 0x01000000 ∷ 0x80A4E002
    ∷ 0x1280000A ∷ 0x01000000 ∷ 0xB0100011 ∷ 0x2D3C0004 ∷ 0xAFC5A134 ∷ 0x01000000 ∷ 0xB0100012 ∷ 0x2D3C0004
    ∷ 0xAFC5A134 ∷ 0x01000000 ∷ 0xEC052104 ∷ 0x808DA002 ∷ 0x02BFFFFE ∷ 0x01000000 ∷ 0x91D02000 ∷ 0x01000000 ∷ []

-- ---- by the way that the services go; a device with the sandbox machine's registers needs no other words

unfoldable pub vectors_of : LeonServices → List ℕ
vectors_of Mailbox = mail_vectors
vectors_of Uart = uart_vectors
vectors_of (Device _) = []

unfoldable pub stop_of : LeonServices → List ℕ
stop_of Mailbox = mail_stop
stop_of Uart = uart_stop
stop_of (Device _) = []

unfoldable pub routines_of : LeonServices → List ℕ
routines_of Mailbox = mail_routines
routines_of Uart = uart_routines
routines_of (Device _) = []

-- the virtual address of `jmpl %l2; rett %l2+4` in the system's pages
unfoldable pub leave_of : LeonServices → ℕ
leave_of Mailbox = 0xF0001140
leave_of Uart = 0xF00011E4
leave_of (Device _) = 0xF0000818
