-- The registers in a vector: what the window below is given, and what is read back.
use Rattle.std.proofs.Common.{◌≡◌, ◌≢◌, ℕ, zero, suc, ◌-◌, ◌^◌, ◌<◌, ◌≤◌, ◌⊎◌, inl, inr, Bool, true, false, [], length, get_or, refl, sym, ap, ◌∙◌, arith}
use Rattle.std.specs.Prelude.{◌==◌, ◌&&◌, nat_lt, not, if◌then◌else◌}
use Rattle.std.proofs.lemmas.Bool.Decides.{nat_tests}
use Rattle.v8_core.specs.Windows.{Windows, IsFile, above, below, can_enter, is_masked, moved, reg_of, trapped, with_reg, with_word, word_at}
use Rattle.v8_windows.proofs.AfterWrites.{above_below, above_less, above_other, reads_place, word_with}
use Rattle.v8_windows.proofs.Neighbours.{below_first, below_next}
use Rattle.v8_windows.proofs.Shape.{rows_written}
use Rattle.v8_routines.specs.Services.{device_address, scratched, vector_registers}

pub below_less : (n c : ℕ) → 4 ≤ n → c < n → below n c < n
below_less n zero few here = omega (arith, below_first n few)
below_less n (suc w) few here = omega (arith, below_next n w few here)

pub below_other : (n c : ℕ) → 4 ≤ n → c < n → below n c ≢ c
below_other n c few here same =
    let up : above n (below n c) ≡ c = above_below n c few here in
    above_other n (below n c) few (below_less n c few here) (up ∙ sym same)

-- a register file with one word more
pub file_with : (n : ℕ) (v : Windows) (w k x : ℕ) → IsFile n v → w < n → k < 16 → x < 2 ^ 32 →
    IsFile n (with_word v w k x)
file_with n v w k x f less room small =
    record { few = f.few; many = f.many; current = f.current; mask = f.mask; globals = f.globals; rows = rows_written n v.words w k x f.rows less room small }

pub file_moved : (n : ℕ) (v : Windows) (w : ℕ) → IsFile n v → w < n → IsFile n (moved v w)
file_moved n v w f less = record { few = f.few; many = f.many; current = less; mask = f.mask; globals = f.globals; rows = f.rows }

-- a word of it
pub word_of : (n : ℕ) (v : Windows) (w k x u j : ℕ) → IsFile n v → w < n → k < 16 →
    word_at (with_word v w k x) u j ≡ (if (u == w) && (j == k) then x else word_at v u j)
word_of n v w k x u j f less room =
    let there : w < length v.words = omega (arith, f.rows.count) in
    let wide : k < length (get_or v.words w []) = omega (arith, f.rows.each w less) in
    word_with v w k x u j there wide

pub word_there : (n : ℕ) (v : Windows) (w k x : ℕ) → IsFile n v → w < n → k < 16 → word_at (with_word v w k x) w k ≡ x
word_there n v w k x f less room =
    let one : (w == w) ≡ true = grind (arith, nat_tests) in
    let two : (k == k) ≡ true = grind (arith, nat_tests) in
    word_of n v w k x w k f less room ∙ ap (λ b. if b && (k == k) then x else word_at v w k) one
    ∙ ap (λ b. if b then x else word_at v w k) two

pub word_beside : (n : ℕ) (v : Windows) (w k x u j : ℕ) → IsFile n v → w < n → k < 16 → j ≢ k →
    word_at (with_word v w k x) u j ≡ word_at v u j
word_beside n v w k x u j f less room other =
    let no : ((u == w) && (j == k)) ≡ false = grind (arith, nat_tests) in
    word_of n v w k x u j f less room ∙ ap (λ b. if b then x else word_at v u j) no

pub word_apart : (n : ℕ) (v : Windows) (w k x u j : ℕ) → IsFile n v → w < n → k < 16 → u ≢ w →
    word_at (with_word v w k x) u j ≡ word_at v u j
word_apart n v w k x u j f less room other =
    let no : ((u == w) && (j == k)) ≡ false = grind (arith, nat_tests) in
    word_of n v w k x u j f less room ∙ ap (λ b. if b then x else word_at v u j) no

-- ---- in the vector

-- its registers once %i0 is written
abbrev pub answered : ℕ → Windows → ℕ → ℕ → ℕ → Windows
answered n v pc npc x = with_word (vector_registers n v pc npc) (above n (below n v.current)) 0 x

pub answered_is : (n : ℕ) (v : Windows) (pc npc x : ℕ) →
    with_reg n (vector_registers n v pc npc) 24 x ≡ answered n v pc npc x
unfolding with_reg
answered_is n v pc npc x = refl

module _ (n : ℕ) (v : Windows) (pc npc : ℕ) (f : IsFile n v) (pc_word : pc < 2 ^ 32) (npc_word : npc < 2 ^ 32) where
  abbrev w : ℕ
  w = below n v.current

  inside : w < n
  inside = below_less n v.current f.few f.current

  first : IsFile n (moved v w)
  first = file_moved n v w f inside

  second : IsFile n (with_word (moved v w) w 9 pc)
  second = file_with n (moved v w) w 9 pc first inside (omega arith) pc_word

  pub trapped_file : IsFile n (trapped n v pc npc)
  trapped_file = file_with n (with_word (moved v w) w 9 pc) w 10 npc second inside (omega arith) npc_word

  pub vector_file : IsFile n (vector_registers n v pc npc)
  vector_file = file_with n (trapped n v pc npc) w 11 device_address trapped_file inside (omega arith) (omega arith)

  -- %l3 is the device's address
  pub reads_address : reg_of n (vector_registers n v pc npc) 19 ≡ device_address
  reads_address = reads_place n (vector_registers n v pc npc) 19 (omega arith)
      ∙ word_there n (trapped n v pc npc) w 11 device_address trapped_file inside (omega arith)

  -- %l2 is nPC
  npc_there : word_at (vector_registers n v pc npc) w 10 ≡ npc
  npc_there =
      word_beside n (trapped n v pc npc) w 11 device_address w 10 trapped_file inside (omega arith) (omega arith)
      ∙ word_there n (with_word (moved v w) w 9 pc) w 10 npc second inside (omega arith)

  pub reads_npc : reg_of n (vector_registers n v pc npc) 18 ≡ npc
  reads_npc = reads_place n (vector_registers n v pc npc) 18 (omega arith) ∙ npc_there

  -- %i0 is the %o0 of the window above
  up : above n w ≡ v.current
  up = above_below n v.current f.few f.current

  apart : v.current ≢ w
  apart same = below_other n v.current f.few f.current (sym same)

  pub word_kept : (u j : ℕ) → u ≢ w → word_at (vector_registers n v pc npc) u j ≡ word_at v u j
  word_kept u j other =
      word_apart n (trapped n v pc npc) w 11 device_address u j trapped_file inside (omega arith) other
      ∙ word_apart n (with_word (moved v w) w 9 pc) w 10 npc u j second inside (omega arith) other
      ∙ word_apart n (moved v w) w 9 pc u j first inside (omega arith) other

  pub reads_word : reg_of n (vector_registers n v pc npc) 24 ≡ reg_of n v 8
  reads_word =
      reads_place n (vector_registers n v pc npc) 24 (omega arith)
      ∙ ap (λ u. word_at (vector_registers n v pc npc) u 0) up
      ∙ word_kept v.current 0 apart
      ∙ sym (reads_place n v 8 (omega arith))

  -- %i0 written
  pub reads_npc_after : (x : ℕ) → reg_of n (answered n v pc npc x) 18 ≡ npc
  reads_npc_after x =
      reads_place n (answered n v pc npc x) 18 (omega arith)
      ∙ word_beside n (vector_registers n v pc npc) (above n w) 0 x w 10 vector_file (above_less n w f.few inside) (omega arith) (omega arith)
      ∙ npc_there

  -- back in the window above
  pub may_return : can_enter v v.current ≡ true → can_enter (vector_registers n v pc npc) (above n w) ≡ true
  unfolding can_enter
  may_return free = ap (λ u. not (is_masked v.mask u)) up ∙ free

  pub may_return_with : (x : ℕ) → can_enter v v.current ≡ true → can_enter (answered n v pc npc x) (above n w) ≡ true
  unfolding can_enter
  may_return_with x free = ap (λ u. not (is_masked v.mask u)) up ∙ free

  pub back : moved (vector_registers n v pc npc) (above n w) ≡ scratched n v pc npc
  back = ap (moved (vector_registers n v pc npc)) up

  pub back_with : (x : ℕ) → moved (answered n v pc npc x) (above n w) ≡ with_reg n (scratched n v pc npc) 8 x
  unfolding with_reg
  back_with x = ap (λ u. moved (with_word (vector_registers n v pc npc) u 0 x) u) up

  -- ---- what the caller finds

  pub scratched_file : IsFile n (scratched n v pc npc)
  scratched_file =
      file_with n (with_word (with_word v w 9 pc) w 10 npc) w 11 device_address
      (file_with n (with_word v w 9 pc) w 10 npc (file_with n v w 9 pc f inside (omega arith) pc_word) inside (omega arith) npc_word)
      inside (omega arith) (omega arith)

  globals_kept : (r : ℕ) → r < 8 → reg_of n (scratched n v pc npc) r ≡ reg_of n v r
  unfolding reg_of
  globals_kept r low = grind (arith, nat_tests)

  scratch_beside : (u j : ℕ) → j < 9 → word_at (scratched n v pc npc) u j ≡ word_at v u j
  scratch_beside u j low =
      let one : IsFile n (with_word v w 9 pc) = file_with n v w 9 pc f inside (omega arith) pc_word in
      let two : IsFile n (with_word (with_word v w 9 pc) w 10 npc) = file_with n (with_word v w 9 pc) w 10 npc one inside (omega arith) npc_word in
      word_beside n (with_word (with_word v w 9 pc) w 10 npc) w 11 device_address u j two inside (omega arith) (omega arith)
      ∙ word_beside n (with_word v w 9 pc) w 10 npc u j one inside (omega arith) (omega arith)
      ∙ word_beside n v w 9 pc u j f inside (omega arith) (omega arith)

  -- the words of other windows stay
  pub scratch_apart : (u j : ℕ) → u ≢ w → word_at (scratched n v pc npc) u j ≡ word_at v u j
  scratch_apart u j other =
      let one : IsFile n (with_word v w 9 pc) = file_with n v w 9 pc f inside (omega arith) pc_word in
      let two : IsFile n (with_word (with_word v w 9 pc) w 10 npc) = file_with n (with_word v w 9 pc) w 10 npc one inside (omega arith) npc_word in
      word_apart n (with_word (with_word v w 9 pc) w 10 npc) w 11 device_address u j two inside (omega arith) other
      ∙ word_apart n (with_word v w 9 pc) w 10 npc u j one inside (omega arith) other
      ∙ word_apart n v w 9 pc u j f inside (omega arith) other

  window_kept : (r : ℕ) → r < 32 → (b : Bool) →
      word_at (scratched n v pc npc) (if b then v.current else above n v.current) (if b then r - 8 else r - 24) ≡ word_at v (if b then v.current else above n v.current) (if b then r - 8 else r - 24)
  window_kept r small true = scratch_apart v.current (r - 8) apart
  window_kept r small false = scratch_beside (above n v.current) (r - 24) (omega arith)

  -- every register of the current window reads as before
  pub unseen : (r : ℕ) → r < 32 → reg_of n (scratched n v pc npc) r ≡ reg_of n v r
  unseen r small =
      let split : (r < 8) ⊎ (8 ≤ r) = search arith in
      elim split [
        | inl low ↦ globals_kept r low
        | inr high ↦ reads_place n (scratched n v pc npc) r high ∙ window_kept r small (nat_lt r 24)
            ∙ sym (reads_place n v r high)
      ]
