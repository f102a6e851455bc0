-- The registers in a routine: those of the window that the trap entered, and what is read and written there.
--   spelled          sixteen words, spelled out
--   own_row          the words of the trap's window while a routine runs
--   reads_own, reads_zero, reads_answer      reads
--   pair_own, answer_written      writes of two locals, and of %i0
use Rattle.std.proofs.Common.{◌≡◌, ◌≢◌, ℕ, zero, suc, ◌+◌, ◌-◌, ◌%◌, ◌<◌, ◌≤◌, List, [], ◌∷◌, length, get_or, refl, ap, ◌∙◌, arith}
use Rattle.std.specs.Prelude.{slice_index, slice_set}
use Rattle.std.proofs.lemmas.List.{get_or-set_same, get_or-set_other, set-set}
use Rattle.v8_core.specs.Transfers.{odd_of}
use Rattle.v8_core.specs.Windows.{Windows, above, reg_of, with_reg, with_word}
use Rattle.v8_loaded.proofs.Stages.{Inside, inside, read_own, read_zero, registers, with_cell, write_other, write_other_ins, write_own}
use Rattle.v8_routines.specs.Services.{device_address}

-- ---- sixteen words

tabled : ℕ → (ℕ → ℕ) → List ℕ
tabled zero f = []
tabled (suc n) f = f 0 ∷ tabled n (λ k. f (suc k))

tabled_is : (xs : List ℕ) → xs ≡ tabled (length xs) (λ k. slice_index xs k)
unfolding tabled
tabled_is [] = refl
tabled_is (x ∷ xs) = ap (λ rest. x ∷ rest) (tabled_is xs)

-- the words of a window by their places: the outs and %l0, %l1 and %l2, and %l3 to %l7
abbrev pub row_of : (ℕ → ℕ) → ℕ → ℕ → ℕ → ℕ → ℕ → ℕ → ℕ → List ℕ
row_of f l1 l2 l3 l4 l5 l6 l7 =
    f 0 ∷ f 1 ∷ f 2 ∷ f 3 ∷ f 4 ∷ f 5 ∷ f 6 ∷ f 7 ∷ f 8 ∷ l1 ∷ l2 ∷ l3 ∷ l4 ∷ l5 ∷ l6 ∷ l7 ∷ []

pub spelled : (xs : List ℕ) → length xs ≡ 16 →
    xs ≡ row_of (slice_index xs) (slice_index xs 9) (slice_index xs 10) (slice_index xs 11) (slice_index xs 12) (slice_index xs 13) (slice_index xs 14) (slice_index xs 15)
unfolding tabled
spelled xs count = tabled_is xs ∙ ap (λ n. tabled n (λ k. slice_index xs k)) count

-- ---- reads and writes

pub reads_zero : (n w : ℕ) (x : Inside) → reg_of n (registers w w x) 0 ≡ 0
reads_zero n w x = read_zero n x.rows w x.globals x.row w x.mask

pub reads_own : (n w : ℕ) (x : Inside) (r : ℕ) → w < length x.rows → 8 ≤ r → r < 24 → reg_of n (registers w w x) r ≡ slice_index x.row (r - 8)
reads_own n w x r there low high = read_own n x.rows w x.globals x.row x.mask r there low high

pub reads_answer : (n w : ℕ) (x : Inside) → above n w ≢ w → reg_of n (registers w w x) 24 ≡ slice_index (get_or x.rows (above n w) []) 0
unfolding reg_of
reads_answer n w x other = ap (λ (xs : List ℕ). slice_index xs 0) (get_or-set_other x.rows w (above n w) x.row [] other)

pub pair_own : (n w : ℕ) (x : Inside) (rd p q : ℕ) → w < length x.rows → 8 ≤ rd → rd < 24 → rd % 2 ≡ 0 →
    with_reg n (with_reg n (registers w w x) rd p) (odd_of rd) q ≡ registers w w (record x { row = slice_set (slice_set x.row (rd - 8) p) (rd - 7) q })
pair_own n w x rd p q there low high even =
    let odd : odd_of rd ≡ rd + 1 = omega arith in
    let place : rd + 1 - 8 ≡ rd - 7 = omega arith in
    let first = slice_set x.row (rd - 8) p in
    ap (λ v. with_reg n v (odd_of rd) q) (write_own n x.rows w x.globals x.row x.mask rd p there low high)
    ∙ ap (λ r. with_reg n (inside x.rows w x.globals first w x.mask) r q) odd
    ∙ write_own n x.rows w x.globals first x.mask (rd + 1) q there (omega arith) (omega arith)
    ∙ ap (λ k. inside x.rows w x.globals (slice_set first k q) w x.mask) place

pub answer_written : (n w : ℕ) (x : Inside) (v : ℕ) → above n w ≢ w →
    with_reg n (registers w w x) 24 v ≡ registers w w (record x { rows = with_cell x.rows (above n w) 0 v })
answer_written n w x v other = write_other_ins n x.rows w x.globals x.row w x.mask 24 v other (omega arith) (omega arith)

-- %i0 written again
pub answered_twice : (rows : List (List ℕ)) (u p q : ℕ) → u < length rows → with_cell (with_cell rows u 0 p) u 0 q ≡ with_cell rows u 0 q
answered_twice rows u p q there =
    let row = get_or rows u [] in
    ap (λ (xs : List ℕ). slice_set (slice_set rows u (slice_set row 0 p)) u (slice_set xs 0 q)) (get_or-set_same rows u (slice_set row 0 p) [] there)
    ∙ set-set rows u (slice_set row 0 p) (slice_set (slice_set row 0 p) 0 q)
    ∙ ap (slice_set rows u) (set-set row 0 p q)

-- ---- back in the caller's window

-- the windows once %l1, %l2 and %l3 of window w are written
abbrev pub scratched_row : List ℕ → ℕ → ℕ → List ℕ
scratched_row row pc npc = slice_set (slice_set (slice_set row 9 pc) 10 npc) 11 device_address

twice : (v : Windows) (w k x : ℕ) (row : List ℕ) → w < length v.words →
    with_word (inside v.words w v.globals row v.current v.mask) w k x ≡ inside v.words w v.globals (slice_set row k x) v.current v.mask
twice v w k x row there =
    ap (λ (xs : List ℕ). record v { words = slice_set (slice_set v.words w row) w (slice_set xs k x) }) (get_or-set_same v.words w row [] there)
    ∙ ap (λ (ws : List (List ℕ)). record v { words = ws }) (set-set v.words w row (slice_set row k x))

pub scratched_is : (n : ℕ) (v : Windows) (w pc npc : ℕ) → w < length v.words →
    with_word (with_word (with_word v w 9 pc) w 10 npc) w 11 device_address ≡ inside v.words w v.globals (scratched_row (get_or v.words w []) pc npc) v.current v.mask
scratched_is n v w pc npc there =
    let row = get_or v.words w [] in
    ap (λ (u : Windows). with_word u w 11 device_address) (twice v w 10 npc (slice_set row 9 pc) there)
    ∙ twice v w 11 device_address (slice_set (slice_set row 9 pc) 10 npc) there

pub answer_back : (n : ℕ) (v : Windows) (w : ℕ) (row : List ℕ) (x : ℕ) → v.current ≢ w →
    with_reg n (inside v.words w v.globals row v.current v.mask) 8 x ≡ inside (with_cell v.words v.current 0 x) w v.globals row v.current v.mask
answer_back n v w row x other = write_other n v.words w v.globals row v.current v.mask 8 x other (omega arith) (omega arith)
