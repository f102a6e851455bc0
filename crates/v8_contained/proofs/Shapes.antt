-- Register files keep their lengths.
use Rattle.std.proofs.Common.{◌≡◌, ◌≢◌, ℕ, zero, suc, ◌-◌, ◌<◌, ◌≤◌, Bool, true, false, cond, List, [], ◌∷◌, length, get_or, refl, ap, ◌∙◌, arith}
use Rattle.std.specs.Prelude.{slice_set, ◌==◌, nat_lt}
use Rattle.std.proofs.lemmas.Bool.Decides.{nat_tests}
use Rattle.std.proofs.lemmas.List.{get_or-set_same, get_or-set_other, length-set}
use Rattle.v8_core.specs.Windows.{Windows, above, below, moved, trapped, with_reg, with_word, reg_of}
use Rattle.v8_windows.proofs.AfterWrites.{above_less, word_with}
use Rattle.v8_windows.proofs.Neighbours.{below_first, below_next}
use Rattle.v8_core.specs.Effects.{with_regs}
use Rattle.v8_contained.specs.Contained.{IsShaped}

pub below_less : (n c : ℕ) → 4 ≤ n → c < n → below n c < n
below_less n zero few here = omega (arith, below_first n few)
below_less n (suc w) few here = omega (arith, below_next n w few here)

row_by : (words : List (List ℕ)) (w v : ℕ) (row : List ℕ) → w < length words → length row ≡ 16 → length (get_or words v []) ≡ 16 → length (get_or (slice_set words w row) v []) ≡ 16
row_by words w v row there new old = by_window (v == w) refl
  where
    by_window : (t : Bool) → (v == w) ≡ t → length (get_or (slice_set words w row) v []) ≡ 16
    by_window true e =
        let same : v ≡ w = grind (arith, nat_tests) in
        let is : get_or (slice_set words w row) w [] ≡ row = get_or-set_same words w row [] there in
        ap (λ i. length (get_or (slice_set words w row) i [])) same ∙ ap length is ∙ new
    by_window false e =
        let other : v ≢ w = grind (arith, nat_tests) in
        ap length (get_or-set_other words w v row [] other) ∙ old

pub shaped_word : (n : ℕ) (v : Windows) (w k x : ℕ) → IsShaped n v → w < n → IsShaped n (with_word v w k x)
shaped_word n v w k x h less =
    let there : w < length v.words = omega (arith, h.count) in
    record {
      current = h.current;
      count = length-set v.words w (slice_set (get_or v.words w []) k x) ∙ h.count;
      each = λ u inside. row_by v.words w u (slice_set (get_or v.words w []) k x) there (length-set (get_or v.words w []) k x ∙ h.each w less) (h.each u inside);
    }

pub shaped_moved : (n : ℕ) (v : Windows) (w : ℕ) → IsShaped n v → w < n → IsShaped n (moved v w)
shaped_moved n v w h less = record { current = less; count = h.count; each = h.each }

pub shaped_globals : (n : ℕ) (v : Windows) (gs : List ℕ) → IsShaped n v → IsShaped n (record v { globals = gs })
shaped_globals n v gs h = record { current = h.current; count = h.count; each = h.each }

pub shaped_mask : (n : ℕ) (v : Windows) (m : ℕ) → IsShaped n v → IsShaped n (record v { mask = m })
shaped_mask n v m h = record { current = h.current; count = h.count; each = h.each }

either : {A : Type 0} (b : Bool) (x y : A) (P : A → Type 0) → P x → P y → P (cond b x y)
either true x y P p q = p
either false x y P p q = q

pub shaped_reg : (n : ℕ) (v : Windows) (r x : ℕ) → 4 ≤ n → IsShaped n v → IsShaped n (with_reg n v r x)
unfolding with_reg
shaped_reg n v r x few h =
    either (r == 0) v _ (IsShaped n) h
    (either (nat_lt r 8) (record v { globals = slice_set v.globals r x }) _ (IsShaped n) (shaped_globals n v (slice_set v.globals r x) h)
    (either (nat_lt r 24) (with_word v v.current (r - 8) x) (with_word v (above n v.current) (r - 24) x) (IsShaped n)
    (shaped_word n v v.current (r - 8) x h h.current)
    (shaped_word n v (above n v.current) (r - 24) x h (above_less n v.current few h.current))))

-- registers written one after another
pub shaped_regs : (n : ℕ) (v : Windows) (written : List (ℕ × ℕ)) → 4 ≤ n → IsShaped n v → IsShaped n (with_regs n v written)
shaped_regs n v [] few h = h
shaped_regs n v (w ∷ rest) few h = shaped_regs n (with_reg n v w.0 w.1) rest few (shaped_reg n v w.0 w.1 few h)

pub shaped_trapped : (n : ℕ) (v : Windows) (pc npc : ℕ) → 4 ≤ n → IsShaped n v → IsShaped n (trapped n v pc npc)
shaped_trapped n v pc npc few h =
    let w = below n v.current in
    let less = below_less n v.current few h.current in
    shaped_word n (with_word (moved v w) w 9 pc) w 10 npc (shaped_word n (moved v w) w 9 pc (shaped_moved n v w h less) less) less

-- %l3 reads what was written to it
pub reads_local : (n : ℕ) (v : Windows) (x : ℕ) → IsShaped n v → reg_of n (with_reg n v 19 x) 19 ≡ x
unfolding with_reg reg_of
reads_local n v x h =
    let there : v.current < length v.words = omega (arith, h.count, h.current) in
    let wide : 11 < length (get_or v.words v.current []) = omega (arith, h.each v.current h.current) in
    let one : (v.current == v.current) ≡ true = grind (arith, nat_tests) in
    word_with v v.current 11 x v.current 11 there wide ∙ (rw one refl)
