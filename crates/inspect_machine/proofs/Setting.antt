-- A machine that a start sets.
use Rattle.std.proofs.Common.{◌≡◌, ◌↔◌, ℕ, ◌+◌, ◌/◌, ◌%◌, ◌^◌, ◌<◌, ◌≤◌, Bool, true, false, cond, List, [], drop, fold, get_or, length, replicate, slice_index}
use Rattle.std.proofs.Common.{slice_set, IsTrue, refl, sym, ap, ◌∙◌, arith}
use Rattle.std.specs.Prelude.{if◌then◌else◌, nat_lt}
use Rattle.std.proofs.lemmas.Bool.Decides.{nat_tests}
use Rattle.std.proofs.lemmas.Grind.{common_steps}
use Rattle.std.proofs.lemmas.List.{at_drop_more, ext_get_or, get_or-replicate, get_or-set_same, length-replicate, set-get_or, set-set}
use Rattle.v8_map.specs.declared.TheConstants.{RAM, STACK_START}
use Rattle.v8_core.specs.Control.{Control}
use Rattle.v8_core.specs.Cpu.{Cpu}
use Rattle.v8_core.specs.Registers.{booted, cleared, psr_window, stack_pointer, started_with, trap_base, with_psr, with_wim}
use Rattle.v8_core.specs.Windows.{Windows, moved, with_reg}
use Rattle.v8_memory.specs.Placing.{HasBytesOf}
use Rattle.inspect_states.specs.Registers.{entered}
use Rattle.inspect_start.specs.declared.start.ControlValue.{ControlValue as Said}
use Rattle.inspect_states.specs.Told.{unbooted}
use Rattle.inspect_machine.specs.Bare.{SameRest, with_control}

-- RAM whose bytes were all placed
pub whole_placed : (bytes old new : List ℕ) → length bytes ≡ RAM → length new ≡ RAM → HasBytesOf 0 bytes RAM old new → new ≡ bytes
whole_placed bytes old new many size placed =
    ext_get_or 0 new bytes (size ∙ sym many)
    (λ i less. let sum : i ≡ 0 + i = omega arith in ap (λ (k : ℕ). slice_index new k) sum ∙ placed.bytes_are i (omega (arith, size)))

-- one element more of a list that is gone over
pub fold_more : {A B : Type 0} (f : B → A → B) (a : B) (xs : List A) (i : ℕ) (x : A) (new : B) → i < length xs → x ≡ get_or xs i x → new ≡ f a x
    → fold f new (drop (i + 1) xs) ≡ fold f a (drop i xs)
fold_more f a xs i x new less is made =
    ap (λ b. fold f b (drop (i + 1) xs)) (made ∙ ap (λ y. f a y) is) ∙ sym (at_drop_more (λ ys. fold f a ys) xs i x less)

-- a window that there is
there : (n w : ℕ) (v : Windows) → w < n → entered n v w ≡ moved v w
there n w v less = by_test (nat_lt w n) refl
  where
    by_test : (b : Bool) → nat_lt w n ≡ b → cond b (moved v w) v ≡ moved v w
    by_test true e = refl
    by_test false e = absurd (grind (arith, nat_tests))

not_there : (n w : ℕ) (v : Windows) → (w < n → ⊥) → entered n v w ≡ v
not_there n w v none = by_test (nat_lt w n) refl
  where
    by_test : (b : Bool) → nat_lt w n ≡ b → cond b (moved v w) v ≡ v
    by_test true e = absurd (none (grind (arith, nat_tests)))
    by_test false e = refl

-- PSR written for its window
pub window_set : (n : ℕ) (old new : Cpu n) (w : ℕ) (r : Bool) → (IsTrue r ↔ (psr_window w < n)) → new ≡ (if r then with_psr n old w else old)
    → (new.regs ≡ entered n old.regs (psr_window w)) × SameRest old.control new.control
unfolding with_psr
window_set n old new w true is made =
    let regs : new.regs ≡ moved old.regs (psr_window w) = ap (λ (c : Cpu n). c.regs) made in (
      regs ∙ sym (there n (psr_window w) old.regs (is.0 refl)),
      (ap (λ (c : Cpu n). c.control.annul) made, ap (λ (c : Cpu n). c.control.status) made, ap (λ (c : Cpu n). c.control.error) made),
    )
window_set n old new w false is made = (
  ap (λ (c : Cpu n). c.regs) made ∙ sym (not_there n (psr_window w) old.regs (λ less. let bad : false ≡ true = is.1 less in let worse : ⊥ = cc in worse)),
  (ap (λ (c : Cpu n). c.control.annul) made, ap (λ (c : Cpu n). c.control.status) made, ap (λ (c : Cpu n). c.control.error) made),
)

pub same_rest : (a b c : Control) → SameRest a b → SameRest b c → SameRest a c
same_rest a b c (annul, status, error) (annul', status', error') = (annul' ∙ annul, status' ∙ status, error' ∙ error)

-- PSR written with a window that there is
psr_set : (n : ℕ) (old new : Cpu n) (w : ℕ) (r : Bool) → (IsTrue r ↔ (psr_window w < n)) → psr_window w < n → new ≡ (if r then with_psr n old w else old) → new ≡ with_psr n old w
psr_set n old new w true is less made = made
psr_set n old new w false is less made = let bad : false ≡ true = is.1 less in absurd (let worse : ⊥ = cc in worse)

-- a processor whose other registers were written, and then PSR
said : (n : ℕ) (regs : Windows) (k : Control) (c : Said) → SameRest (started_with 0) k
    → with_psr n (record { regs = record regs { mask = c.wim % 2 ^ n }; control = record k { base = trap_base c.tbr; tt = c.tbr / 2 ^ 4 % 2 ^ 8; y = c.y; pc = c.pc; npc = c.npc } }) c.psr
    ≡ with_control n regs c
unfolding with_psr
said n regs k c (annul, status, error) = rw (annul, status, error) refl

pub controlled : (n : ℕ) (old a b d e f new : Cpu n) (c : Said) (r : Bool) → SameRest (started_with 0) old.control
    → a ≡ with_wim n old c.wim → b ≡ record a { control = record a.control { base = trap_base c.tbr; tt = c.tbr / 2 ^ 4 % 2 ^ 8 } }
    → d ≡ record b { control = record b.control { y = c.y } } → e ≡ record d { control = record d.control { pc = c.pc } }
    → f ≡ record e { control = record e.control { npc = c.npc } } → (IsTrue r ↔ (psr_window c.psr < n)) → psr_window c.psr < n
    → new ≡ (if r then with_psr n f c.psr else f) → new ≡ with_control n old.regs c
controlled n old a b d e f new c r rest ones twos threes fours fives is less made =
    psr_set n f new c.psr r is less made ∙ rw (fives, fours, threes, twos, ones) (said n old.regs old.control c rest)

-- a row of registers that are 0
abbrev row : List ℕ
row = replicate 16 0

-- such rows, one of them written twice, at last with 0
rows_cleared : (n x : ℕ) → 4 ≤ n → slice_set (slice_set (replicate n row) 0 (slice_set (get_or (replicate n row) 0 []) 6 x)) 0
    (slice_set (get_or (slice_set (replicate n row) 0 (slice_set (get_or (replicate n row) 0 []) 6 x)) 0 []) 6 0)
    ≡ replicate n row
rows_cleared n x many =
    let rows : List (List ℕ) = replicate n row in
    let first : get_or rows 0 [] ≡ row = get_or-replicate n 0 row [] (omega arith) in
    let once : List ℕ = slice_set (get_or rows 0 []) 6 x in
    let size : 0 < length rows = omega (arith, length-replicate n row) in
    let read : get_or (slice_set rows 0 once) 0 [] ≡ once = get_or-set_same rows 0 once [] size in
    let again : slice_set once 6 0 ≡ get_or rows 0 [] =
    set-set (get_or rows 0 []) 6 x 0 ∙ ap (λ (r : List ℕ). slice_set r 6 0) first ∙ sym first in
    ap (λ (r : List ℕ). slice_set (slice_set rows 0 once) 0 (slice_set r 6 0)) read ∙ ap (λ (r : List ℕ). slice_set (slice_set rows 0 once) 0 r) again
    ∙ set-set rows 0 once (get_or rows 0 []) ∙ set-get_or rows 0 []

-- a mask of no window
no_mask : (n : ℕ) → 0 % 2 ^ n ≡ 0
no_mask n = grind (arith, common_steps)

-- a processor that has booted, without what booting sets of its registers
pub unboots : (n : ℕ) (a b d : Cpu n) → 4 ≤ n → a ≡ booted n (unbooted n) → b ≡ record a { regs = with_reg n a.regs stack_pointer 0 } → d ≡ with_wim n b 0
    → (d.regs ≡ cleared n) × SameRest (started_with 0) d.control
unfolding booted with_reg
unboots n a b d many boots clears marks =
    let rows = rows_cleared n STACK_START many in
    let none = no_mask n in (
      ap (λ (c : Cpu n). c.regs) marks ∙ rw (clears, boots, rows, none) refl,
      rw (marks, clears, boots) (refl, refl, refl),
    )
