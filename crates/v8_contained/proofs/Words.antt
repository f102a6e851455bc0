-- The words of the vectors and of the handlers, by place.
use Rattle.std.proofs.Common.{◌≡◌, ℕ, zero, suc, ◌+◌, ◌-◌, ◌*◌, ◌/◌, ◌%◌, ◌<◌, ◌≤◌, ◌⊎◌, inl, inr, Bool, true, false, cond, List, refl, ap, ◌∙◌, arith}
use Rattle.std.specs.Prelude.{◌&&◌, ◌||◌, ◌==◌, slice_index}
use Rattle.std.proofs.lemmas.Bool.Decides.{nat_tests}
use Rattle.v8_core.specs.Cond.TheVariants.{Always}
use Rattle.v8_core.specs.Table.{meaning}
use Rattle.v8_formats.proofs.Keys.{by_opcodes}
use Rattle.v8_core.specs.Operand.TheVariants.{Register, Immediate}
use Rattle.v8_core.specs.Three.{Three}
use Rattle.v8_core.specs.Two.{Two}
use Rattle.v8_core.specs.Operations.{operation_of, load, store}
use Rattle.v8_core.specs.MemoryOperand.{MemoryOperand}
use Rattle.v8_core.specs.Loading.TheVariants as loadings
use Rattle.v8_core.specs.Size.TheVariants as sizes
use Rattle.v8_core.specs.Operation.{Operation}
use Rattle.v8_core.specs.Operation.TheVariants.{SetHigh, BranchOnCondition, JumpAndLink, ReturnFromTrap}
use Rattle.v8_loaded.specs.Handlers.{trap_word, vector, handler_word, page_word, exit_vector, get_vector, put_vector, stop_vector}
use Rattle.v8_loaded.proofs.Words.{Asks, fields, memory_at, source}
use Rattle.v8_contained.proofs.Supervisors.{tame}

-- ---- tests of all numbers below a bound

all_below : ℕ → (ℕ → Bool) → Bool
all_below zero p = true
all_below (suc k) p = p k && all_below k p

both : (a b : Bool) → (a && b) ≡ true → (a ≡ true) × (b ≡ true)
both true b e = (refl, e)
both false b e = absurd (let no : false ≡ true = e in cc)

all_at : (k : ℕ) (p : ℕ → Bool) → all_below k p ≡ true → (i : ℕ) → i < k → p i ≡ true
unfolding all_below
all_at zero p e i less = absurd (omega arith)
all_at (suc k) p e i less =
    let parts = both (p k) (all_below k p) e in
    let rest : i < k → p i ≡ true = all_at k p parts.1 i in
    let split : (i < k) ⊎ (i ≡ k) = search arith in
    elim split [ inl before ↦ rest before | inr last ↦ ap p last ∙ parts.0 ]

-- ---- the handlers

abbrev pub word_tame : ℕ → Bool
word_tame w = tame (operation_of (meaning w))

over_test : ℕ → ℕ → Bool
over_test n k = (k == 1) || word_tame (handler_word n k)

under_test : ℕ → ℕ → Bool
under_test n k = (k == 0) || word_tame (handler_word n (32 + k))

over_all : (n : ℕ) → all_below 18 (over_test n) ≡ true
unfolding all_below over_test meaning operation_of page_word tame
over_all n = refl

under_all : (n : ℕ) → all_below 18 (under_test n) ≡ true
unfolding all_below under_test meaning operation_of page_word tame
under_all n = refl

shift_left_tame : (n : ℕ) → 4 ≤ n → n ≤ 32 → word_tame (0xAB2CE000 + (n - 1)) ≡ true
unfolding operation_of tame
shift_left_tame n few many = ap (λ i. tame (operation_of i)) (by_opcodes (0xAB2CE000 + (n - 1)) 2 37 (omega arith) (omega arith) (omega arith))

shift_right_tame : (n : ℕ) → 4 ≤ n → n ≤ 32 → word_tame (0xAB34E000 + (n - 1)) ≡ true
unfolding operation_of tame
shift_right_tame n few many = ap (λ i. tame (operation_of i)) (by_opcodes (0xAB34E000 + (n - 1)) 2 38 (omega arith) (omega arith) (omega arith))

over_one : (n : ℕ) → handler_word n 1 ≡ 0xAB2CE000 + (n - 1)
unfolding page_word
over_one n = refl

under_one : (n : ℕ) → handler_word n 32 ≡ 0xAB34E000 + (n - 1)
unfolding page_word
under_one n = refl

pub over_tame : (n k : ℕ) → 4 ≤ n → n ≤ 32 → k < 18 → word_tame (handler_word n k) ≡ true
unfolding over_test
over_tame n k few many less = by_one (k == 1) refl (all_at 18 (over_test n) (over_all n) k less)
  where
    by_one : (b : Bool) → (k == 1) ≡ b → ((k == 1) || word_tame (handler_word n k)) ≡ true → word_tame (handler_word n k) ≡ true
    by_one true e t = let one : k ≡ 1 = grind (arith, nat_tests) in ap (λ j. word_tame (handler_word n j)) one ∙ ap word_tame (over_one n) ∙ shift_left_tame n few many
    by_one false e t = rw e at t

pub under_tame : (n k : ℕ) → 4 ≤ n → n ≤ 32 → k < 18 → word_tame (handler_word n (32 + k)) ≡ true
unfolding under_test
under_tame n k few many less = by_one (k == 0) refl (all_at 18 (under_test n) (under_all n) k less)
  where
    by_one : (b : Bool) → (k == 0) ≡ b → ((k == 0) || word_tame (handler_word n (32 + k))) ≡ true → word_tame (handler_word n (32 + k)) ≡ true
    by_one true e t = let none : k ≡ 0 = grind (arith, nat_tests) in ap (λ j. word_tame (handler_word n (32 + j))) none ∙ ap word_tame (under_one n) ∙ shift_right_tame n few many
    by_one false e t = rw e at t

-- jmpl %l1,%g0 and rett %l2
abbrev pub jump : ℕ → Three
jump s = fields 0 s (Register 0)

abbrev pub back : Two
back = source 18 (Register 0)

pub over_jumps : (n : ℕ) → Asks (handler_word n 18) (JumpAndLink (jump 17))
unfolding page_word meaning operation_of
over_jumps n = refl

pub over_returns : (n : ℕ) → Asks (handler_word n 19) (ReturnFromTrap back)
unfolding page_word meaning operation_of
over_returns n = refl

pub under_jumps : (n : ℕ) → Asks (handler_word n 50) (JumpAndLink (jump 17))
unfolding page_word meaning operation_of
under_jumps n = refl

pub under_returns : (n : ℕ) → Asks (handler_word n 51) (ReturnFromTrap back)
unfolding page_word meaning operation_of
under_returns n = refl

-- ---- the vectors

pub trap_word_is : (t j : ℕ) → j < 4 → trap_word (4 * t + j) ≡ slice_index (vector t) j
unfolding trap_word
trap_word_is t j less =
    let a : (4 * t + j) / 4 ≡ t = omega arith in
    let b : (4 * t + j) % 4 ≡ j = omega arith in
    ap (λ k. slice_index (vector k) ((4 * t + j) % 4)) a ∙ ap (slice_index (vector t)) b

others : Bool → Bool → Bool → List ℕ
others a b c = cond a exit_vector (cond b get_vector (cond c put_vector stop_vector))

vector_other : (t : ℕ) → (t ≡ 5 → ⊥) → (t ≡ 6 → ⊥) → vector t ≡ others (t == 0x80) (t == 0x81) (t == 0x82)
unfolding others
vector_other t over under =
    let five : (t == 5) ≡ false = grind (arith, nat_tests) in
    let six : (t == 6) ≡ false = grind (arith, nat_tests) in
    rw five (rw six refl)

first_same : (a b c : Bool) → slice_index (others a b c) 0 ≡ 0x273C0040
unfolding others
first_same true b c = refl
first_same false true c = refl
first_same false false true = refl
first_same false false false = refl

pub first_other : (t : ℕ) → (t ≡ 5 → ⊥) → (t ≡ 6 → ⊥) → trap_word (4 * t) ≡ 0x273C0040
first_other t over under =
    let e : 4 * t ≡ 4 * t + 0 = omega arith in
    ap trap_word e ∙ trap_word_is t 0 (omega arith) ∙ ap (λ v. slice_index v 0) (vector_other t over under) ∙ first_same (t == 0x80) (t == 0x81) (t == 0x82)

pub stop_second : (t : ℕ) → (t ≡ 5 → ⊥) → (t ≡ 6 → ⊥) → (t == 0x80) ≡ false → (t == 0x81) ≡ false → (t == 0x82) ≡ false → trap_word (4 * t + 1) ≡ 0xC024E00C
unfolding others
stop_second t over under a b c = trap_word_is t 1 (omega arith) ∙ ap (λ v. slice_index v 1) (vector_other t over under) ∙ rw a (rw b (rw c refl))

pub sets_device : Asks 0x273C0040 (SetHigh (record { rd = 19; imm22 = 0x3C0040 }))
unfolding meaning operation_of
sets_device = refl

abbrev pub at_device : ℕ → ℕ → MemoryOperand
at_device rd offset = memory_at rd 19 offset

pub exits : Asks 0xF024E008 (store sizes.Word (at_device 24 8))
unfolding meaning operation_of
exits = refl

pub gets_in : Asks 0xF004E000 (load loadings.Word (at_device 24 0))
unfolding meaning operation_of
gets_in = refl

pub puts_out : Asks 0xF024E004 (store sizes.Word (at_device 24 4))
unfolding meaning operation_of
puts_out = refl

pub stops : Asks 0xC024E00C (store sizes.Word (at_device 0 12))
unfolding meaning operation_of
stops = refl

pub jumps_back : Asks 0x81C48000 (JumpAndLink (jump 18))
unfolding meaning operation_of
jumps_back = refl

pub returns_back : Asks 0x81CCA004 (ReturnFromTrap (source 18 (Immediate 4)))
unfolding meaning operation_of
returns_back = refl

abbrev pub to_handler : ℕ → Operation
to_handler k = BranchOnCondition (record { annul = false; cond = Always; displacement = k })

pub slip_over : word_tame 0xA8100001 ≡ true
unfolding meaning operation_of tame
slip_over = refl

pub slip_under : word_tame 0xA92CE001 ≡ true
unfolding meaning operation_of tame
slip_under = refl

-- words of the known vectors
pub at_5_0 : trap_word 20 ≡ 0xA7500000
unfolding trap_word
at_5_0 = refl

pub at_5_1 : trap_word 21 ≡ 0x108003EB
unfolding trap_word
at_5_1 = refl

pub at_5_2 : trap_word 22 ≡ 0xA8100001
unfolding trap_word
at_5_2 = refl

pub at_6_0 : trap_word 24 ≡ 0xA7500000
unfolding trap_word
at_6_0 = refl

pub at_6_1 : trap_word 25 ≡ 0x10800407
unfolding trap_word
at_6_1 = refl

pub at_6_2 : trap_word 26 ≡ 0xA92CE001
unfolding trap_word
at_6_2 = refl

pub at_80_1 : trap_word 0x201 ≡ 0xF024E008
unfolding trap_word
at_80_1 = refl

pub at_81_1 : trap_word 0x205 ≡ 0xF004E000
unfolding trap_word
at_81_1 = refl

pub at_81_2 : trap_word 0x206 ≡ 0x81C48000
unfolding trap_word
at_81_2 = refl

pub at_81_3 : trap_word 0x207 ≡ 0x81CCA004
unfolding trap_word
at_81_3 = refl

pub at_82_1 : trap_word 0x209 ≡ 0xF024E004
unfolding trap_word
at_82_1 = refl

pub at_82_2 : trap_word 0x20A ≡ 0x81C48000
unfolding trap_word
at_82_2 = refl

pub at_82_3 : trap_word 0x20B ≡ 0x81CCA004
unfolding trap_word
at_82_3 = refl
