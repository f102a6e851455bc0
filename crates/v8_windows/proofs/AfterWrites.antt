-- Reading a register after a write.
use Rattle.std.proofs.Common.{◌≡◌, ◌≢◌, ℕ, zero, suc, ◌+◌, ◌-◌, ◌<◌, ◌≤◌, ◌⊎◌, inl, inr, Bool, true, false, [], length, get_or, refl, sym, ap, ◌∙◌, arith}
use Rattle.std.specs.Prelude.{slice_index, slice_set, ◌==◌, ◌&&◌, nat_lt, if◌then◌else◌}
use Rattle.std.proofs.lemmas.Bool.Decides.{nat_tests}
use Rattle.std.proofs.lemmas.List.{get_or-set_same, get_or-set_other}
use Rattle.v8_windows.specs.Windows.{Windows, IsFile, reg_of, with_reg, word_at, with_word, above, below, moved, window_of, place_of}
use Rattle.v8_windows.proofs.Neighbours.{above_last, above_next, below_first, below_next}

-- a write of one word of one window
pub word_with : (v : Windows) (w k x w' k' : ℕ) → w < length v.words → k < length (get_or v.words w []) → word_at (with_word v w k x) w' k' ≡ (if (w' == w) && (k' == k) then x else word_at v w' k')
word_with v w k x w' k' a b = by_window (w' == w) refl
  where
    by_window : (t : Bool) → (w' == w) ≡ t → word_at (with_word v w k x) w' k' ≡ (if (w' == w) && (k' == k) then x else word_at v w' k')
    by_window false e =
        let other : w' ≢ w = grind (arith, nat_tests) in
        ap (λ xs. get_or xs k' 0) (get_or-set_other v.words w w' (slice_set (get_or v.words w []) k x) [] other) ∙ rw e refl
    by_window true e =
        let same : w' ≡ w = grind (arith, nat_tests) in
        let row : get_or (slice_set v.words w (slice_set (get_or v.words w []) k x)) w' [] ≡ slice_set (get_or v.words w []) k x =
        rw same (get_or-set_same v.words w (slice_set (get_or v.words w []) k x) [] a) in
        ap (λ xs. get_or xs k' 0) row ∙ by_place (k' == k) refl
      where
        by_place : (t : Bool) → (k' == k) ≡ t → get_or (slice_set (get_or v.words w []) k x) k' 0 ≡ (if (w' == w) && (k' == k) then x else word_at v w' k')
        by_place true f = let g : k' ≡ k = grind (arith, nat_tests) in rw e (rw f (rw g (get_or-set_same (get_or v.words w []) k x 0 b)))
        by_place false f =
            let g : k' ≢ k = grind (arith, nat_tests) in
            let h : w' ≡ w = grind (arith, nat_tests) in
            get_or-set_other (get_or v.words w []) k k' x 0 g ∙ rw e (rw f (ap (λ i. get_or (get_or v.words i []) k' 0) (sym h)))

-- windows next to one another
above_is : (n c : ℕ) → 4 ≤ n → c < n → ((c + 1 ≡ n) × (above n c ≡ 0)) ⊎ ((c + 1 < n) × (above n c ≡ c + 1))
above_is n c few here =
    let split : (c + 1 ≡ n) ⊎ (c + 1 < n) = search arith in
    elim split [
      | inl last ↦ inl (last, above_last n c few last)
      | inr less ↦ let other : c + 1 ≢ n = omega arith in inr (less, above_next n c here other)
    ]

pub above_less : (n c : ℕ) → 4 ≤ n → c < n → above n c < n
above_less n c few here = elim (above_is n c few here) [ inl last ↦ omega (arith, last.1) | inr next ↦ omega (arith, next.0, next.1) ]

pub above_other : (n c : ℕ) → 4 ≤ n → c < n → above n c ≢ c
above_other n c few here = elim (above_is n c few here) [ inl last ↦ omega (arith, last.0, last.1) | inr next ↦ omega (arith, next.1) ]

pub above_below : (n c : ℕ) → 4 ≤ n → c < n → above n (below n c) ≡ c
above_below n zero few here =
    let last : n - 1 + 1 ≡ n = omega arith in
    ap (above n) (below_first n few) ∙ above_last n (n - 1) few last
above_below n (suc w) few here =
    let less : w < n = omega arith in
    let other : w + 1 ≢ n = omega arith in
    let e : w + 1 ≡ suc w = omega arith in
    ap (above n) (below_next n w few here) ∙ above_next n w less other ∙ e

pub reads_place : (n : ℕ) (v : Windows) (s : ℕ) → 8 ≤ s → reg_of n v s ≡ word_at v (window_of n v.current s) (place_of s)
unfolding reg_of
reads_place n v s low = grind (arith, nat_tests)

pub writes_place : (n : ℕ) (v : Windows) (r x : ℕ) → 8 ≤ r → with_reg n v r x ≡ with_word v (window_of n v.current r) (place_of r) x
unfolding with_reg
writes_place n v r x low = grind (arith, nat_tests)

pub written_current : (n : ℕ) (v : Windows) (r x : ℕ) → (with_reg n v r x).current ≡ v.current
unfolding with_reg
written_current n v r x = grind (arith, nat_tests)

window_less : (n c r : ℕ) → 4 ≤ n → c < n → window_of n c r < n
window_less n c r few here = by_side (nat_lt r 24) refl
  where
    by_side : (t : Bool) → nat_lt r 24 ≡ t → window_of n c r < n
    by_side true e = rw e here
    by_side false e = rw e (above_less n c few here)

place_less : (r : ℕ) → 8 ≤ r → r < 32 → place_of r < 16
place_less r low high = grind (arith, nat_tests)

-- a write changes one place
pub written_at : (n : ℕ) (v : Windows) (r x w k : ℕ) → IsFile n v → 8 ≤ r → r < 32 → word_at (with_reg n v r x) w k ≡ (if (w == window_of n v.current r) && (k == place_of r) then x else word_at v w k)
written_at n v r x w k f low high =
    let less = window_less n v.current r f.few f.current in
    let there : window_of n v.current r < length v.words = omega (arith, less, f.rows.count) in
    let room : place_of r < length (get_or v.words (window_of n v.current r) []) = omega (arith, place_less r low high, f.rows.each (window_of n v.current r) less) in
    ap (λ u. word_at u w k) (writes_place n v r x low) ∙ word_with v (window_of n v.current r) (place_of r) x w k there room

-- different registers lie at different places
apart : (n c r s : ℕ) → 4 ≤ n → c < n → 8 ≤ r → r < 32 → 8 ≤ s → s < 32 → s ≢ r → ((window_of n c s == window_of n c r) && (place_of s == place_of r)) ≡ false
apart n c r s few here low high low' high' other = by_side (nat_lt r 24) refl
  where
    next : above n c ≢ c
    next = above_other n c few here

    by_side : (t : Bool) → nat_lt r 24 ≡ t → ((window_of n c s == window_of n c r) && (place_of s == place_of r)) ≡ false
    by_side true e = by_other (nat_lt s 24) refl
      where
        by_other : (u : Bool) → nat_lt s 24 ≡ u → ((window_of n c s == window_of n c r) && (place_of s == place_of r)) ≡ false
        by_other true f = rw (e, f) (grind (arith, nat_tests))
        by_other false f = rw (e, f) (grind (arith, nat_tests, next))
    by_side false e = by_other (nat_lt s 24) refl
      where
        by_other : (u : Bool) → nat_lt s 24 ≡ u → ((window_of n c s == window_of n c r) && (place_of s == place_of r)) ≡ false
        by_other true f = rw (e, f) (grind (arith, nat_tests, next))
        by_other false f = rw (e, f) (grind (arith, nat_tests))

written_global : (n : ℕ) (v : Windows) (r x : ℕ) → 1 ≤ r → r < 8 → with_reg n v r x ≡ record v { globals = slice_set v.globals r x }
unfolding with_reg
written_global n v r x low high = grind (arith, nat_tests)

reads_global : (n : ℕ) (v : Windows) (r : ℕ) → 1 ≤ r → r < 8 → reg_of n v r ≡ slice_index v.globals r
unfolding reg_of
reads_global n v r low high = grind (arith, nat_tests)

reads_zero : (n : ℕ) (v : Windows) → reg_of n v 0 ≡ 0
unfolding reg_of
reads_zero n v = refl

written_zero : (n : ℕ) (v : Windows) (x : ℕ) → with_reg n v 0 x ≡ v
unfolding with_reg
written_zero n v x = refl

-- a register reads what was written to it
pub reads_written : (n : ℕ) (v : Windows) (r x : ℕ) → IsFile n v → 1 ≤ r → r < 32 → reg_of n (with_reg n v r x) r ≡ x
reads_written n v r x f low high =
    let split : (r < 8) ⊎ (8 ≤ r) = search arith in
    elim split [
      | inl small ↦
          let room : r < length v.globals = omega (arith, f.globals.count) in
          ap (λ u. reg_of n u r) (written_global n v r x low small) ∙ reads_global n (record v { globals = slice_set v.globals r x }) r low small ∙ get_or-set_same v.globals r x 0 room
      | inr large ↦
          let one : (window_of n v.current r == window_of n v.current r) ≡ true = grind (arith, nat_tests) in
          let two : (place_of r == place_of r) ≡ true = grind (arith, nat_tests) in
          reads_place n (with_reg n v r x) r large
          ∙ ap (λ c. word_at (with_reg n v r x) (window_of n c r) (place_of r)) (written_current n v r x)
          ∙ written_at n v r x (window_of n v.current r) (place_of r) f large high
          ∙ ap (λ t. if t && (place_of r == place_of r) then x else word_at v (window_of n v.current r) (place_of r)) one
          ∙ ap (λ t. if t then x else word_at v (window_of n v.current r) (place_of r)) two
    ]

-- a global stays where a window's word is written
global_stays : (n : ℕ) (v : Windows) (r s x : ℕ) → IsFile n v → r < 32 → 1 ≤ s → s < 8 → s ≢ r → slice_index (with_reg n v r x).globals s ≡ slice_index v.globals s
global_stays n v zero s x f high low small other = ap (λ (u : Windows). slice_index u.globals s) (written_zero n v x)
global_stays n v (suc r) s x f high low small other =
    let split : (suc r < 8) ⊎ (8 ≤ suc r) = search arith in
    elim split [
      | inl few ↦ ap (λ (u : Windows). slice_index u.globals s) (written_global n v (suc r) x (omega arith) few) ∙ get_or-set_other v.globals (suc r) s x 0 other
      | inr large ↦ ap (λ (u : Windows). slice_index u.globals s) (writes_place n v (suc r) x large)
    ]

-- a window's word stays where another register is written
word_stays : (n : ℕ) (v : Windows) (r s x : ℕ) → IsFile n v → r < 32 → 8 ≤ s → s < 32 → s ≢ r →
    word_at (with_reg n v r x) (window_of n v.current s) (place_of s) ≡ word_at v (window_of n v.current s) (place_of s)
word_stays n v zero s x f high low small other = ap (λ (u : Windows). word_at u (window_of n v.current s) (place_of s)) (written_zero n v x)
word_stays n v (suc r) s x f high low small other =
    let split : (suc r < 8) ⊎ (8 ≤ suc r) = search arith in
    elim split [
      | inl few ↦ ap (λ (u : Windows). word_at u (window_of n v.current s) (place_of s)) (written_global n v (suc r) x (omega arith) few)
      | inr large ↦
          written_at n v (suc r) x (window_of n v.current s) (place_of s) f large high
          ∙ ap (λ t. if t then x else word_at v (window_of n v.current s) (place_of s)) (apart n v.current (suc r) s f.few f.current large high low small other)
    ]

pub reads_others : (n : ℕ) (v : Windows) (r s x : ℕ) → IsFile n v → r < 32 → s < 32 → s ≢ r → reg_of n (with_reg n v r x) s ≡ reg_of n v s
reads_others n v r zero x f high small other = reads_zero n (with_reg n v r x) ∙ sym (reads_zero n v)
reads_others n v r (suc s) x f high small other =
    let split : (suc s < 8) ⊎ (8 ≤ suc s) = search arith in
    elim split [
      | inl few ↦ reads_global n (with_reg n v r x) (suc s) (omega arith) few ∙ global_stays n v r (suc s) x f high (omega arith) few other ∙ sym (reads_global n v (suc s) (omega arith) few)
      | inr large ↦
          reads_place n (with_reg n v r x) (suc s) large
          ∙ ap (λ c. word_at (with_reg n v r x) (window_of n c (suc s)) (place_of (suc s))) (written_current n v r x)
          ∙ word_stays n v r (suc s) x f high large small other
          ∙ sym (reads_place n v (suc s) large)
    ]

-- the outs of a window are the ins of the window below
pub outs_are_ins : (n : ℕ) (v : Windows) (r : ℕ) → IsFile n v → 8 ≤ r → r < 16 → reg_of n (moved v (below n v.current)) (r + 16) ≡ reg_of n v r
outs_are_ins n v r f low high =
    let big : nat_lt (r + 16) 24 ≡ false = grind (arith, nat_tests) in
    let small : nat_lt r 24 ≡ true = grind (arith, nat_tests) in
    let e : r + 16 - 24 ≡ r - 8 = omega arith in
    reads_place n (moved v (below n v.current)) (r + 16) (omega arith)
    ∙ ap (λ t. word_at v (if t then below n v.current else above n (below n v.current)) (if t then r + 16 - 8 else r + 16 - 24)) big
    ∙ ap (λ k. word_at v (above n (below n v.current)) k) e
    ∙ ap (λ w. word_at v w (r - 8)) (above_below n v.current f.few f.current)
    ∙ sym (reads_place n v r low ∙ ap (λ t. word_at v (if t then v.current else above n v.current) (if t then r - 8 else r - 24)) small)
