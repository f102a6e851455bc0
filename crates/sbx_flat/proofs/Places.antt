-- What a location holds after a register or a frame word was written.
use Rattle.std.proofs.Common.{◌≡◌, ◌≢◌, ℕ, ◌+◌, ◌-◌, ◌*◌, ◌<◌, Bool, true, false, List, [], ◌∷◌, Option, Some, refl, ap, ◌∙◌, arith}
use Rattle.std.specs.Prelude.{◌==◌, nat_lt, if◌then◌else◌}
use Rattle.std.proofs.lemmas.Bool.Decides.{nat_tests}
use Rattle.sbx_flat.specs.Locations.{frame_word, location_in}
use Rattle.sbx_flat.specs.Registers.{Frame, Registers, Words, with_in, with_slot, word_in, written}
use Rattle.sbx_flat.proofs.Kept.{by_class}
use Rattle.sbx_flat.proofs.Registers.{word_written}

in_slots : (n v : ℕ) (globals : Words) (newest : Frame) (older : List Frame) (oldest : Words) (a : ℕ) →
    (with_in n v (record { globals = globals; newest = newest; older = older; oldest_ins = oldest })).newest.slots a ≡ newest.slots a
in_slots n v globals newest [] oldest a = refl
in_slots n v globals newest (f ∷ fs) oldest a = refl

-- a register written leaves the newest frame's slots
slots_written : (n v : ℕ) (file : Registers) (a : ℕ) → (written n v file).newest.slots a ≡ file.newest.slots a
slots_written n v file a = by_class (λ x. x.newest.slots a ≡ file.newest.slots a) n v file refl refl (λ low high. refl) refl (λ low. in_slots n v file.globals file.newest file.older file.oldest_ins a)

chosen : (l n v x : ℕ) (y z : Option ℕ) (w : ℕ) → n < 32 → x ≡ (if l == n then v else w) → y ≡ z →
    (if nat_lt l 32 then Some x else y) ≡ (if l == n then Some v else (if nat_lt l 32 then Some w else z))
chosen l n v x y z w small e f = by_tests (nat_lt l 32) (l == n) refl refl
  where
    within : nat_lt l 32 ≡ false → l ≡ n → ⊥
    within h g = grind (arith, nat_tests)

    same : (l == n) ≡ true → l ≡ n
    same h = grind (arith, nat_tests)

    by_tests : (a b : Bool) → nat_lt l 32 ≡ a → (l == n) ≡ b → (if a then Some x else y) ≡ (if b then Some v else (if a then Some w else z))
    by_tests true true p q = ap Some (e ∙ ap (λ (t : Bool). if t then v else w) q)
    by_tests true false p q = ap Some (e ∙ ap (λ (t : Bool). if t then v else w) q)
    by_tests false true p q = absurd (within p (same q))
    by_tests false false p q = f

pub register_written : (base n v : ℕ) (file : Registers) (l : ℕ) → n ≢ 0 → n < 32 → location_in base (written n v file) l ≡ (if l == n then Some v else location_in base file l)
register_written base n v file l some small =
    chosen l n v (word_in (written n v file) l) (frame_word base (written n v file).newest (l - 32)) (frame_word base file.newest (l - 32))
    (word_in file l) small (word_written n v file l some) (slots_written n v file (base + 64 + 4 * (l - 32)))

slot_same : (file : Registers) (a v l : ℕ) → word_in (with_slot a v file) l ≡ word_in file l
slot_same file a v l = refl

slot_chosen : (base k v l : ℕ) (x : ℕ) (slots : ℕ → Option ℕ)
    → (if nat_lt l 32 then Some x else (if base + 64 + 4 * (l - 32) == base + 64 + 4 * k then Some v else slots (base + 64 + 4 * (l - 32)))) ≡
    (if l == 32 + k then Some v else (if nat_lt l 32 then Some x else slots (base + 64 + 4 * (l - 32))))
slot_chosen base k v l x slots = by_tests (nat_lt l 32) (base + 64 + 4 * (l - 32) == base + 64 + 4 * k) (l == 32 + k) refl refl refl
  where
    low : nat_lt l 32 ≡ true → (l == 32 + k) ≡ true → ⊥
    low p q = grind (arith, nat_tests)

    equal : nat_lt l 32 ≡ false → (base + 64 + 4 * (l - 32) == base + 64 + 4 * k) ≡ true → (l == 32 + k) ≡ false → ⊥
    equal p q r = grind (arith, nat_tests)

    other : nat_lt l 32 ≡ false → (base + 64 + 4 * (l - 32) == base + 64 + 4 * k) ≡ false → (l == 32 + k) ≡ true → ⊥
    other p q r = grind (arith, nat_tests)

    by_tests : (a b c : Bool) → nat_lt l 32 ≡ a → (base + 64 + 4 * (l - 32) == base + 64 + 4 * k) ≡ b → (l == 32 + k) ≡ c
        → (if a then Some x else (if b then Some v else slots (base + 64 + 4 * (l - 32)))) ≡ (if c then Some v else (if a then Some x else slots (base + 64 + 4 * (l - 32))))
    by_tests true b true p q r = absurd (low p r)
    by_tests true b false p q r = refl
    by_tests false true true p q r = refl
    by_tests false true false p q r = absurd (equal p q r)
    by_tests false false true p q r = absurd (other p q r)
    by_tests false false false p q r = refl

pub frame_word_written : (base k v : ℕ) (file : Registers) (l : ℕ) → location_in base (with_slot (base + 64 + 4 * k) v file) l ≡ (if l == 32 + k then Some v else location_in base file l)
frame_word_written base k v file l = slot_chosen base k v l (word_in file l) file.newest.slots
