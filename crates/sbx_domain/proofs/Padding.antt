-- Entries of all locations, of which the first stand in a list.
use Rattle.std.proofs.Common.{◌≡◌, ℕ, suc, ◌+◌, ◌-◌, ◌<◌, ◌≤◌, Bool, true, false, List, [], ◌∷◌, ◌++◌, length, Option, None, slice_index_or, slice_set, replicate, refl, sym, ap, arith, ◌∙◌}
use Rattle.std.specs.Prelude.{nat_lt}
use Rattle.std.proofs.lemmas.Bool.Decides.{nat_tests}
use Rattle.std.proofs.lemmas.List.{append_assoc, get_or-append_right, get_or-replicate, get_or_append_left, get_or_past, length-append, length-replicate, length-set, length_push, set-append_left, set-get_or}
use Rattle.sbx_domain.specs.Parts.{padded}

nothing : (A : Type 0) → Option A
nothing A = None

blanks : (A : Type 0) → ℕ → List (Option A)
blanks A n = replicate n None

blank : (A : Type 0) (n k : ℕ) → slice_index_or (blanks A n) k None ≡ nothing A
unfolding blanks nothing
blank A n k = by_less (nat_lt k n) refl
  where
    size : length (blanks A n) ≡ n
    size = length-replicate n (nothing A)

    by_less : (t : Bool) → nat_lt k n ≡ t → slice_index_or (blanks A n) k None ≡ nothing A
    by_less true h = get_or-replicate n k (nothing A) (nothing A) (grind (arith, nat_tests))
    by_less false h = get_or_past (blanks A n) k (nothing A) (grind (arith, nat_tests, size))

pub padded_size : (A : Type 0) (xs : List (Option A)) → length xs ≤ 1040 → length (padded xs) ≡ 1040
unfolding padded blanks nothing
padded_size A xs few =
    length-append xs (blanks A (1040 - length xs))
    ∙ (ap (λ (n : ℕ). length xs + n) (length-replicate (1040 - length xs) (nothing A)) ∙ omega (arith, few))

pub padded_at : (A : Type 0) (xs : List (Option A)) (k : ℕ) → slice_index_or (padded xs) k None ≡ slice_index_or xs k None
unfolding padded blanks nothing
padded_at A xs k = by_less (nat_lt k (length xs)) refl
  where
    rest : List (Option A)
    rest = blanks A (1040 - length xs)

    by_less : (t : Bool) → nat_lt k (length xs) ≡ t → slice_index_or (xs ++ rest) k None ≡ slice_index_or xs k None
    by_less true h = get_or_append_left xs rest None k (grind (arith, nat_tests))
    by_less false h =
        let past : length xs ≤ k = grind (arith, nat_tests) in
        get_or-append_right xs rest (length xs) k None refl past ∙ (blank A (1040 - length xs) (k - length xs) ∙ sym (get_or_past xs k None past))

-- past the end of the list nothing stands
pub padded_past : (A : Type 0) (xs : List (Option A)) (k : ℕ) → length xs ≤ k → slice_index_or (padded xs) k None ≡ None
padded_past A xs k past = padded_at A xs k ∙ get_or_past xs k None past

pub padded_set : (A : Type 0) (xs : List (Option A)) (k : ℕ) (e : Option A) → k < length xs → padded (slice_set xs k e) ≡ slice_set (padded xs) k e
unfolding padded
padded_set A xs k e within =
    ap (λ (n : ℕ). slice_set xs k e ++ replicate (1040 - n) None) (length-set xs k e)
    ∙ sym (set-append_left xs (replicate (1040 - length xs) None) k e within)

pub padded_unset : (A : Type 0) (xs : List (Option A)) (k : ℕ) → length xs ≤ k → padded xs ≡ slice_set (padded xs) k None
padded_unset A xs k past =
    sym (ap (λ (e : Option A). slice_set (padded xs) k e) (sym (padded_past A xs k past)) ∙ set-get_or (padded xs) k None)

pub padded_more : (A : Type 0) (xs : List (Option A)) → length xs < 1040 → padded (xs ++ None ∷ []) ≡ padded xs
unfolding padded blanks nothing
padded_more A xs room =
    ap (λ (n : ℕ). (xs ++ nothing A ∷ []) ++ blanks A (1040 - n)) (length_push xs (nothing A))
    ∙ (append_assoc xs (nothing A ∷ []) (blanks A (1040 - (length xs + 1))) ∙ ap (λ (n : ℕ). xs ++ blanks A n) next)
  where
    next : suc (1040 - (length xs + 1)) ≡ 1040 - length xs
    next = omega (arith, room)
