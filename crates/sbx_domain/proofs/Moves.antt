-- Lists that are written from one place on, up to another.
use Rattle.std.proofs.Common.{◌≡◌, ℕ, ◌+◌, ◌-◌, ◌<◌, Bool, true, false, List, length, Option, None, slice_index_or, slice_set, ap, refl, sym, arith, ◌∙◌}
use Rattle.std.specs.Prelude.{◌==◌, ◌≤◌, ◌&&◌, nat_le, nat_lt, if◌then◌else◌}
use Rattle.std.proofs.lemmas.Bool.Decides.{nat_tests}
use Rattle.std.proofs.lemmas.Grind.{get_or-set_at}
use Rattle.std.proofs.lemmas.List.{ext_get_or, get_or-set_other, get_or_past}
use Rattle.sbx_domain.specs.Transfer.{is_global, is_in, is_out}

abbrev pub FilledTo : (A : Type 0) → ℕ → (ℕ → Option A) → List (Option A) → List (Option A) → Type 0
FilledTo A n f xs ys = (k : ℕ) → slice_index_or ys k None ≡ (if nat_lt k n then f k else slice_index_or xs k None)

-- before the first write, where the function agrees with what stands below
pub filled_from : (A : Type 0) (n : ℕ) (f : ℕ → Option A) (xs : List (Option A)) → ((k : ℕ) → k < n → f k ≡ slice_index_or xs k None) → FilledTo A n f xs xs
filled_from A n f xs agree k = by_test (nat_lt k n) refl
  where
    by_test : (t : Bool) → nat_lt k n ≡ t → slice_index_or xs k None ≡ (if t then f k else slice_index_or xs k None)
    by_test true h = sym (agree k (grind (arith, nat_tests)))
    by_test false h = refl

pub nothing_filled : (A : Type 0) (f : ℕ → Option A) (xs : List (Option A)) → FilledTo A 0 f xs xs
nothing_filled A f xs = filled_from A 0 f xs (λ k below. absurd (omega (arith, below)))

pub one_more_filled : (A : Type 0) (n : ℕ) (f : ℕ → Option A) (xs ys : List (Option A)) (e : Option A) → n < length ys → e ≡ f n → FilledTo A n f xs ys → FilledTo A (n + 1) f xs (slice_set ys n e)
one_more_filled A n f xs ys e within is rest k = by_test (k == n) refl
  where
    by_test : (t : Bool) → (k == n) ≡ t → slice_index_or (slice_set ys n e) k None ≡ (if nat_lt k (n + 1) then f k else slice_index_or xs k None)
    by_test true h =
        let at : k ≡ n = grind (arith, nat_tests) in
        let below : nat_lt k (n + 1) ≡ true = grind (arith, nat_tests) in
        get_or-set_at ys n k e None at within ∙ (is ∙ (ap f (sym at) ∙ ap (λ (t : Bool). if t then f k else slice_index_or xs k None) (sym below)))
    by_test false h =
        let agree : nat_lt k n ≡ nat_lt k (n + 1) = grind (arith, nat_tests) in
        get_or-set_other ys n k e None (λ p. grind (arith, nat_tests)) ∙ (rest k ∙ ap (λ (t : Bool). if t then f k else slice_index_or xs k None) agree)

-- places that are passed by, since nothing has to change there
pub more_filled : (A : Type 0) (n m : ℕ) (f : ℕ → Option A) (xs ys : List (Option A)) → n < m → ((k : ℕ) → n ≤ k → k < m → f k ≡ slice_index_or xs k None) → FilledTo A n f xs ys → FilledTo A m f xs ys
more_filled A n m f xs ys next agree rest k = rest k ∙ by_test (nat_lt k n) (nat_lt k m) refl refl
  where
    by_test : (s t : Bool) → nat_lt k n ≡ s → nat_lt k m ≡ t → (if s then f k else slice_index_or xs k None) ≡ (if t then f k else slice_index_or xs k None)
    by_test true true p q = refl
    by_test true false p q = absurd (let low : k < n = grind (arith, nat_tests) in let high : m ≤ k = grind (arith, nat_tests) in omega (arith, low, high, next))
    by_test false true p q = sym (agree k (grind (arith, nat_tests)) (grind (arith, nat_tests)))
    by_test false false p q = refl

-- past what was written all is as it was
pub not_filled : (A : Type 0) (n k : ℕ) (f : ℕ → Option A) (xs ys : List (Option A)) → n ≤ k → FilledTo A n f xs ys → slice_index_or ys k None ≡ slice_index_or xs k None
not_filled A n k f xs ys past rest =
    let above : nat_lt k n ≡ false = grind (arith, nat_tests) in
    rest k ∙ ap (λ (t : Bool). if t then f k else slice_index_or xs k None) above

-- all is written, where the function agrees with what stands past the end
pub all_filled : (A : Type 0) (n : ℕ) (f : ℕ → Option A) (xs ys : List (Option A)) → ((k : ℕ) → n ≤ k → f k ≡ slice_index_or xs k None) → FilledTo A n f xs ys →
    (k : ℕ) → slice_index_or ys k None ≡ f k
all_filled A n f xs ys agree rest k = by_test (nat_lt k n) refl
  where
    by_test : (t : Bool) → nat_lt k n ≡ t → slice_index_or ys k None ≡ f k
    by_test true h = rest k ∙ ap (λ (t : Bool). if t then f k else slice_index_or xs k None) h
    by_test false h =
        let above : n ≤ k = grind (arith, nat_tests) in
        not_filled A n k f xs ys above rest ∙ sym (agree k above)

-- ---- entries that go

abbrev pub gone_if : (A : Type 0) → Bool → Option A → Option A
gone_if A t e = if t then None else e

-- those from one place on and below another
abbrev pub after_clear : (A : Type 0) → ℕ → ℕ → List (Option A) → ℕ → Option A
after_clear A from to xs k = if nat_le from k && nat_lt k to then None else slice_index_or xs k None

pub after_clear_within : (A : Type 0) (from to : ℕ) (xs : List (Option A)) (k : ℕ) → from ≤ k → k < to → after_clear A from to xs k ≡ None
after_clear_within A from to xs k low high =
    let t : (nat_le from k && nat_lt k to) ≡ true = grind (arith, nat_tests) in
    ap (λ (t : Bool). gone_if A t (slice_index_or xs k None)) t

pub after_clear_below : (A : Type 0) (from to : ℕ) (xs : List (Option A)) (k : ℕ) → k < from → after_clear A from to xs k ≡ slice_index_or xs k None
after_clear_below A from to xs k low =
    let t : (nat_le from k && nat_lt k to) ≡ false = grind (arith, nat_tests) in
    ap (λ (t : Bool). gone_if A t (slice_index_or xs k None)) t

pub after_clear_past : (A : Type 0) (from to : ℕ) (xs : List (Option A)) (k : ℕ) → to ≤ k → after_clear A from to xs k ≡ slice_index_or xs k None
after_clear_past A from to xs k high =
    let t : (nat_le from k && nat_lt k to) ≡ false = grind (arith, nat_tests) in
    ap (λ (t : Bool). gone_if A t (slice_index_or xs k None)) t

-- ---- entries that are copied

-- below an end nothing stands from a place on, so nothing stands there at all
pub none_from : (A : Type 0) (n : ℕ) (xs : List (Option A)) → length xs ≡ 1040 → ((k : ℕ) → n ≤ k → k < 1040 → slice_index_or xs k None ≡ None)
    → (k : ℕ) → n ≤ k → slice_index_or xs k None ≡ None
none_from A n xs size none k past = by_test (nat_lt k 1040) refl
  where
    by_test : (t : Bool) → nat_lt k 1040 ≡ t → slice_index_or xs k None ≡ None
    by_test true h = none k past (grind (arith, nat_tests))
    by_test false h = get_or_past xs k None (let end : 1040 ≤ k = grind (arith, nat_tests) in omega (arith, end, size))

pub all_copied : (A : Type 0) (n : ℕ) (from to old : List (Option A)) → length from ≡ 1040 → length to ≡ 1040
    → ((k : ℕ) → n ≤ k → slice_index_or from k None ≡ None) → ((k : ℕ) → n ≤ k → slice_index_or old k None ≡ None)
    → FilledTo A n (λ k. slice_index_or from k None) old to → to ≡ from
all_copied A n from to old size same none before rest =
    ext_get_or {A = Option A} None to from (omega (arith, size, same))
    (λ k within. all_filled A n (λ k. slice_index_or from k None) old to (λ k past. none k past ∙ sym (before k past)) rest k)

-- ---- after a SAVE

abbrev pub after_save : (A : Type 0) → List (Option A) → ℕ → Option A
after_save A xs k = if is_in k then slice_index_or xs (k - 16) None else None

-- ins are written
abbrev pub with_ins : (A : Type 0) → List (Option A) → ℕ → Option A
with_ins A xs k = if is_in k then slice_index_or xs (k - 16) None else slice_index_or xs k None

pub not_in : (A : Type 0) (xs : List (Option A)) (k : ℕ) → is_in k ≡ false → with_ins A xs k ≡ slice_index_or xs k None
not_in A xs k h = ap (λ (t : Bool). if t then slice_index_or xs (k - 16) None else slice_index_or xs k None) h

pub an_in : (A : Type 0) (xs : List (Option A)) (k : ℕ) → is_in k ≡ true → with_ins A xs k ≡ slice_index_or xs (k - 16) None
an_in A xs k h = ap (λ (t : Bool). if t then slice_index_or xs (k - 16) None else slice_index_or xs k None) h

none_saved : (A : Type 0) (xs : List (Option A)) (k : ℕ) → is_in k ≡ false → after_save A xs k ≡ None
none_saved A xs k h = ap (λ (t : Bool). if t then slice_index_or xs (k - 16) None else None) h

one_saved : (A : Type 0) (xs : List (Option A)) (k : ℕ) → is_in k ≡ true → after_save A xs k ≡ slice_index_or xs (k - 16) None
one_saved A xs k h = ap (λ (t : Bool). if t then slice_index_or xs (k - 16) None else None) h

-- before the first in is written, and where the next one is
pub no_in_yet : (A : Type 0) (xs : List (Option A)) → FilledTo A 24 (with_ins A xs) xs xs
no_in_yet A xs = filled_from A 24 (with_ins A xs) xs (λ k below. not_in A xs k (grind (arith, nat_tests)))

pub next_in : (A : Type 0) (n : ℕ) (xs ys : List (Option A)) → 24 ≤ n → n < 32 → FilledTo A n (with_ins A xs) xs ys → slice_index_or ys (n - 16) None ≡ with_ins A xs n
next_in A n xs ys low high rest =
    let below : nat_lt (n - 16) n ≡ true = grind (arith, nat_tests) in
    rest (n - 16) ∙ (ap (λ (t : Bool). if t then with_ins A xs (n - 16) else slice_index_or xs (n - 16) None) below
    ∙ (not_in A xs (n - 16) (grind (arith, nat_tests)) ∙ sym (an_in A xs n (grind (arith, nat_tests)))))

-- then what is no in goes: below, and above
pub all_saved : (A : Type 0) (n : ℕ) (xs ys zs ws : List (Option A)) → length xs ≡ 1040 → n ≡ 32 → FilledTo A n (with_ins A xs) xs ys
    → ((k : ℕ) → slice_index_or zs k None ≡ after_clear A 0 24 ys k) → ((k : ℕ) → slice_index_or ws k None ≡ after_clear A 32 1040 zs k)
    → (k : ℕ) → slice_index_or ws k None ≡ after_save A xs k
all_saved A n xs ys zs ws size end rest below above k = by_low (nat_lt k 24) refl
  where
    first : (j : ℕ) → slice_index_or ys j None ≡ with_ins A xs j
    first j = all_filled A n (with_ins A xs) xs ys (λ i past. not_in A xs i (grind (arith, nat_tests, end))) rest j

    by_end : (t : Bool) → nat_lt k 1040 ≡ t → 32 ≤ k → slice_index_or ws k None ≡ after_save A xs k
    by_end true h low = above k ∙ (after_clear_within A 32 1040 zs k low (grind (arith, nat_tests)) ∙ sym (none_saved A xs k (grind (arith, nat_tests))))
    by_end false h low =
        let past : 1040 ≤ k = grind (arith, nat_tests) in
        let no : is_in k ≡ false = grind (arith, nat_tests) in
        above k ∙ (after_clear_past A 32 1040 zs k past ∙ (below k ∙ (after_clear_past A 0 24 ys k (omega (arith, past))
        ∙ (first k ∙ (not_in A xs k no ∙ (get_or_past xs k None (omega (arith, past, size)) ∙ sym (none_saved A xs k no)))))))

    by_high : (t : Bool) → nat_lt k 32 ≡ t → 24 ≤ k → slice_index_or ws k None ≡ after_save A xs k
    by_high true h low =
        let within : is_in k ≡ true = grind (arith, nat_tests) in
        above k ∙ (after_clear_below A 32 1040 zs k (grind (arith, nat_tests)) ∙ (below k ∙ (after_clear_past A 0 24 ys k low
        ∙ (first k ∙ (an_in A xs k within ∙ sym (one_saved A xs k within))))))
    by_high false h low = by_end (nat_lt k 1040) refl (grind (arith, nat_tests))

    by_low : (t : Bool) → nat_lt k 24 ≡ t → slice_index_or ws k None ≡ after_save A xs k
    by_low true h =
        let high : k < 24 = grind (arith, nat_tests) in
        above k ∙ (after_clear_below A 32 1040 zs k (omega (arith, high)) ∙ (below k ∙ (after_clear_within A 0 24 ys k (omega arith) high ∙ sym (none_saved A xs k (grind (arith, nat_tests))))))
    by_low false h = by_high (nat_lt k 32) refl (grind (arith, nat_tests))

-- ---- after a RESTORE

abbrev pub after_restore : (A : Type 0) → List (Option A) → ℕ → Option A
after_restore A xs k = if is_global k then slice_index_or xs k None else (if is_out k then slice_index_or xs (k + 16) None else None)

restored_global : (A : Type 0) (xs : List (Option A)) (k : ℕ) → k < 8 → after_restore A xs k ≡ slice_index_or xs k None
restored_global A xs k below =
    let first : is_global k ≡ true = grind (arith, nat_tests) in
    ap (λ (t : Bool). if t then slice_index_or xs k None else (if is_out k then slice_index_or xs (k + 16) None else None)) first

restored_out : (A : Type 0) (xs : List (Option A)) (k : ℕ) → 8 ≤ k → k < 16 → after_restore A xs k ≡ slice_index_or xs (k + 16) None
restored_out A xs k low high =
    let first : is_global k ≡ false = grind (arith, nat_tests) in
    let then_yes : is_out k ≡ true = grind (arith, nat_tests) in
    ap (λ (t : Bool). if t then slice_index_or xs k None else (if is_out k then slice_index_or xs (k + 16) None else None)) first
    ∙ ap (λ (t : Bool). if t then slice_index_or xs (k + 16) None else None) then_yes

pub restored_past : (A : Type 0) (xs : List (Option A)) (k : ℕ) → 16 ≤ k → after_restore A xs k ≡ None
restored_past A xs k past =
    let first : is_global k ≡ false = grind (arith, nat_tests) in
    let then_no : is_out k ≡ false = grind (arith, nat_tests) in
    ap (λ (t : Bool). if t then slice_index_or xs k None else (if is_out k then slice_index_or xs (k + 16) None else None)) first
    ∙ ap (λ (t : Bool). if t then slice_index_or xs (k + 16) None else None) then_no

-- before the first out is written, and where the next one is
pub no_out_yet : (A : Type 0) (xs : List (Option A)) → FilledTo A 8 (after_restore A xs) xs xs
no_out_yet A xs = filled_from A 8 (after_restore A xs) xs (λ k below. restored_global A xs k below)

pub next_out : (A : Type 0) (n : ℕ) (xs ys : List (Option A)) → 8 ≤ n → n < 16 → FilledTo A n (after_restore A xs) xs ys → slice_index_or ys (n + 16) None ≡ after_restore A xs n
next_out A n xs ys low high rest = not_filled A n (n + 16) (after_restore A xs) xs ys (omega arith) rest ∙ sym (restored_out A xs n low high)

-- then what stands above goes
pub all_restored : (A : Type 0) (n : ℕ) (xs ys ws : List (Option A)) → length xs ≡ 1040 → n ≡ 16 → FilledTo A n (after_restore A xs) xs ys
    → ((k : ℕ) → slice_index_or ws k None ≡ after_clear A 16 1040 ys k) → (k : ℕ) → slice_index_or ws k None ≡ after_restore A xs k
all_restored A n xs ys ws size end rest above k = by_low (nat_lt k 16) refl
  where
    by_end : (t : Bool) → nat_lt k 1040 ≡ t → 16 ≤ k → slice_index_or ws k None ≡ after_restore A xs k
    by_end true h low = above k ∙ (after_clear_within A 16 1040 ys k low (grind (arith, nat_tests)) ∙ sym (restored_past A xs k low))
    by_end false h low =
        let past : 1040 ≤ k = grind (arith, nat_tests) in
        above k ∙ (after_clear_past A 16 1040 ys k past ∙ (not_filled A n k (after_restore A xs) xs ys (omega (arith, end, low)) rest
        ∙ (get_or_past xs k None (omega (arith, past, size)) ∙ sym (restored_past A xs k low))))

    by_low : (t : Bool) → nat_lt k 16 ≡ t → slice_index_or ws k None ≡ after_restore A xs k
    by_low true h =
        let written : nat_lt k n ≡ true = grind (arith, nat_tests, end) in
        above k ∙ (after_clear_below A 16 1040 ys k (grind (arith, nat_tests)) ∙ (rest k
        ∙ ap (λ (t : Bool). if t then after_restore A xs k else slice_index_or xs k None) written))
    by_low false h = by_end (nat_lt k 1040) refl (grind (arith, nat_tests))

-- ---- after a call, sixteen are written

pub called_entries : (A : Type 0) (f : ℕ → Option A) (xs ys : List (Option A)) → FilledTo A 16 f xs ys → (k : ℕ) → slice_index_or ys k None ≡ (if nat_le 16 k then slice_index_or xs k None else f k)
called_entries A f xs ys rest k = by_test (nat_le 16 k) refl
  where
    by_test : (t : Bool) → nat_le 16 k ≡ t → slice_index_or ys k None ≡ (if t then slice_index_or xs k None else f k)
    by_test true h = not_filled A 16 k f xs ys (grind (arith, nat_tests)) rest
    by_test false h =
        let below : nat_lt k 16 ≡ true = grind (arith, nat_tests) in
        rest k ∙ ap (λ (t : Bool). if t then f k else slice_index_or xs k None) below
