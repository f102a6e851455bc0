-- Entries by parts, and their marks.
use Rattle.std.proofs.Common.{◌≡◌, ℕ, ◌/◌, ◌<◌, Bool, true, false, List, length, Option, None, slice_index_or, slice_set, refl, sym, ap, arith, ◌∙◌}
use Rattle.std.specs.Prelude.{◌-◌, ◌≤◌, nat_le, nat_lt, replicate, if◌then◌else◌}
use Rattle.std.proofs.lemmas.Bool.Decides.{nat_tests}
use Rattle.std.proofs.lemmas.Grind.{get_or-set_at}
use Rattle.std.proofs.lemmas.List.{get_or-set_other, get_or_past, length-replicate}
use Rattle.sbx_domain.specs.Parts.{AreMarked}
use Rattle.sbx_domain.specs.Transfer.{is_in}
use Rattle.sbx_domain.proofs.Moves.{FilledTo, after_clear, after_clear_past, after_clear_within, after_restore, after_save, more_filled, restored_past}

-- a mark, by whether it is the one that was made
made_mark : (marks : List Bool) (p q : ℕ) → p < length marks → slice_index_or (slice_set marks p true) q false ≡ false → (q ≡ p → ⊥) × (slice_index_or marks q false ≡ false)
made_mark marks p q within unmarked = (other, sym (get_or-set_other marks p q true false other) ∙ unmarked)
  where
    other : q ≡ p → ⊥
    other same = let marked : slice_index_or (slice_set marks p true) q false ≡ true = get_or-set_at marks p q true false same within in let z = sym marked ∙ unmarked in cc

-- a location gets an entry, and its part a mark
pub marked_written : (A : Type 0) (marks : List Bool) (xs : List (Option A)) (l : ℕ) (e : Option A) → length marks ≡ 65 → l < 1040
    → AreMarked 0 1040 marks xs → AreMarked 0 1040 (slice_set marks (l / 16) true) (slice_set xs l e)
marked_written A marks xs l e size within rest k low high unmarked =
    let m = made_mark marks (l / 16) (k / 16) (omega (arith, size, within)) unmarked in
    get_or-set_other xs l k e None (λ same. m.0 (ap (λ (j : ℕ). j / 16) same)) ∙ rest k low high m.1

-- the first part is written
pub marked_called : (A : Type 0) (marks : List Bool) (xs ys : List (Option A)) (f : ℕ → Option A) → length marks ≡ 65
    → ((k : ℕ) → slice_index_or ys k None ≡ (if nat_le 16 k then slice_index_or xs k None else f k))
    → AreMarked 0 1040 marks xs → AreMarked 0 1040 (slice_set marks 0 true) ys
marked_called A marks xs ys f size written rest k low high unmarked =
    let m = made_mark marks 0 (k / 16) (omega (arith, size)) unmarked in
    let above : nat_le 16 k ≡ true = by_test (nat_le 16 k) refl m.0 in
    written k ∙ (ap (λ (t : Bool). if t then slice_index_or xs k None else f k) above ∙ rest k low high m.1)
  where
    by_test : (t : Bool) → nat_le 16 k ≡ t → (k / 16 ≡ 0 → ⊥) → nat_le 16 k ≡ true
    by_test true h other = h
    by_test false h other = absurd (other (let below : k < 16 = grind (arith, nat_tests) in omega (arith, below)))

-- nothing stays anywhere
pub all_cleared : (A : Type 0) (xs ys : List (Option A)) → length xs ≡ 1040 → ((k : ℕ) → slice_index_or ys k None ≡ after_clear A 0 1040 xs k) → (k : ℕ) → slice_index_or ys k None ≡ None
all_cleared A xs ys size cleared k = cleared k ∙ by_end (nat_lt k 1040) refl
  where
    by_end : (t : Bool) → nat_lt k 1040 ≡ t → after_clear A 0 1040 xs k ≡ None
    by_end true h = after_clear_within A 0 1040 xs k (omega arith) (grind (arith, nat_tests))
    by_end false h = (let past : 1040 ≤ k = grind (arith, nat_tests) in after_clear_past A 0 1040 xs k past ∙ get_or_past xs k None (omega (arith, past, size)))

-- nothing stands anywhere, or in one part alone
pub none_marked : (A : Type 0) (marks : List Bool) (xs : List (Option A)) → ((k : ℕ) → slice_index_or xs k None ≡ None) → AreMarked 0 1040 marks xs
none_marked A marks xs none k low high unmarked = none k

pub one_marked : (A : Type 0) (p : ℕ) (xs : List (Option A)) → p < 65 → ((k : ℕ) → (k / 16 ≡ p → ⊥) → slice_index_or xs k None ≡ None) → AreMarked 0 1040 (slice_set (replicate 65 false) p true) xs
one_marked A p xs within none k low high unmarked = none k (made_mark (replicate 65 false) p (k / 16) (omega (arith, within, length-replicate 65 false)) unmarked).0

-- after a SAVE the locals and ins, after a RESTORE the globals and outs
pub marked_saved : (A : Type 0) (xs ys : List (Option A)) → ((k : ℕ) → slice_index_or ys k None ≡ after_save A xs k) → AreMarked 0 1040 (slice_set (replicate 65 false) 1 true) ys
marked_saved A xs ys moved = one_marked A 1 ys (omega arith) (λ k other. moved k ∙ by_test k other (is_in k) refl)
  where
    by_test : (k : ℕ) → (k / 16 ≡ 1 → ⊥) → (t : Bool) → is_in k ≡ t → (if t then slice_index_or xs (k - 16) None else None) ≡ None
    by_test k other true h = absurd (other (let low : 24 ≤ k = grind (arith, nat_tests) in let high : k < 32 = grind (arith, nat_tests) in omega (arith, low, high)))
    by_test k other false h = refl

pub marked_restored : (A : Type 0) (xs ys : List (Option A)) → ((k : ℕ) → slice_index_or ys k None ≡ after_restore A xs k) → AreMarked 0 1040 (slice_set (replicate 65 false) 0 true) ys
marked_restored A xs ys moved = one_marked A 0 ys (omega arith) (λ k other. moved k ∙ restored_past A xs k (above k other))
  where
    above : (k : ℕ) → (k / 16 ≡ 0 → ⊥) → 16 ≤ k
    above k other = by_test (nat_le 16 k) refl
      where
        by_test : (t : Bool) → nat_le 16 k ≡ t → 16 ≤ k
        by_test true h = grind (arith, nat_tests)
        by_test false h = absurd (other (let below : k < 16 = grind (arith, nat_tests) in omega (arith, below)))

-- from where nothing stands on, nothing has to go
pub cleared_past : (A : Type 0) (from to n : ℕ) (xs : List (Option A)) → from ≤ n → ((k : ℕ) → n ≤ k → k < to → slice_index_or xs k None ≡ None)
    → (k : ℕ) → n ≤ k → after_clear A from to xs k ≡ slice_index_or xs k None
cleared_past A from to n xs low none k past = by_end (nat_lt k to) refl
  where
    by_end : (t : Bool) → nat_lt k to ≡ t → after_clear A from to xs k ≡ slice_index_or xs k None
    by_end true h =
        let below : k < to = grind (arith, nat_tests) in
        after_clear_within A from to xs k (omega (arith, low, past)) below ∙ sym (none k past below)
    by_end false h = after_clear_past A from to xs k (grind (arith, nat_tests))

-- a part without a mark is passed by
pub part_cleared : (A : Type 0) (from to n m : ℕ) (marks : List Bool) (xs ys : List (Option A)) → from ≤ n → n < m → ((k : ℕ) → n ≤ k → k < m → k / 16 ≡ n / 16)
    → slice_index_or marks (n / 16) false ≡ false → AreMarked from to marks xs → FilledTo A n (after_clear A from to xs) xs ys → FilledTo A m (after_clear A from to xs) xs ys
part_cleared A from to n m marks xs ys low next same unmarked rest filled = more_filled A n m (after_clear A from to xs) xs ys next (λ k above below. by_end k above below (nat_lt k to) refl) filled
  where
    by_end : (k : ℕ) → n ≤ k → k < m → (t : Bool) → nat_lt k to ≡ t → after_clear A from to xs k ≡ slice_index_or xs k None
    by_end k above below true h =
        let first : from ≤ k = omega (arith, low, above) in
        let last : k < to = grind (arith, nat_tests) in
        let mark : slice_index_or marks (k / 16) false ≡ false = ap (λ (q : ℕ). slice_index_or marks q false) (same k above below) ∙ unmarked in
        after_clear_within A from to xs k first last ∙ sym (rest k first last mark)
    by_end k above below false h = after_clear_past A from to xs k (grind (arith, nat_tests))
