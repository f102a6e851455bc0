-- Eight words of a list, and eight words put.
use Rattle.std.proofs.Common.{◌≡◌, ◌≢◌, ℕ, zero, suc, ◌+◌, ◌-◌, ◌<◌, ◌≤◌, ◌⊎◌, inl, inr, List, length, slice_index, slice_set, refl, ap, ◌∙◌, arith}
use Rattle.std.proofs.lemmas.Grind.{get_or-set_at}
use Rattle.std.proofs.lemmas.List.{get_or-set_other, length-set}
use Rattle.native_lang.specs.World.{eight_of, put_words}

pub eight_at : (words : List ℕ) (from k : ℕ) → k < 8 → slice_index (eight_of words from) k ≡ slice_index words (from + k)
eight_at words from zero h = let e : from ≡ from + 0 = omega arith in ap (slice_index words) e
eight_at words from (suc zero) h = refl
eight_at words from (suc (suc zero)) h = refl
eight_at words from (suc (suc (suc zero))) h = refl
eight_at words from (suc (suc (suc (suc zero)))) h = refl
eight_at words from (suc (suc (suc (suc (suc zero))))) h = refl
eight_at words from (suc (suc (suc (suc (suc (suc zero)))))) h = refl
eight_at words from (suc (suc (suc (suc (suc (suc (suc zero))))))) h = refl
eight_at words from (suc (suc (suc (suc (suc (suc (suc (suc k)))))))) h = absurd (omega arith)

pub words_length : (v : List ℕ) (from : ℕ) (words : List ℕ) (k : ℕ) → length (put_words v from words k) ≡ length v
words_length v from words zero = refl
words_length v from words (suc k) = length-set (put_words v from words k) (from + k) (slice_index words k) ∙ words_length v from words k

pub words_else : (v : List ℕ) (from : ℕ) (words : List ℕ) (k r : ℕ) → (r < from) ⊎ (from + k ≤ r) → slice_index (put_words v from words k) r ≡ slice_index v r
words_else v from words zero r out = refl
words_else v from words (suc k) r out =
    get_or-set_other (put_words v from words k) (from + k) r (slice_index words k) 0 (apart out) ∙ words_else v from words k r (less out)
  where
    apart : (r < from) ⊎ (from + suc k ≤ r) → r ≢ from + k
    apart (inl low) = λ e. omega (arith, e, low)
    apart (inr high) = λ e. omega (arith, e, high)

    less : (r < from) ⊎ (from + suc k ≤ r) → (r < from) ⊎ (from + k ≤ r)
    less (inl low) = inl low
    less (inr high) = inr (omega arith)

pub words_at : (v : List ℕ) (from : ℕ) (words : List ℕ) (k r : ℕ) → from ≤ r → r < from + k → from + k ≤ length v →
    slice_index (put_words v from words k) r ≡ slice_index words (r - from)
words_at v from words zero r low high room = absurd (omega arith)
words_at v from words (suc k) r low high room = by (λ less. words_at v from words k r low less (omega arith)) (search arith)
  where
    size : length (put_words v from words k) ≡ length v
    size = words_length v from words k

    by : (r < from + k → slice_index (put_words v from words k) r ≡ slice_index words (r - from)) → (r < from + k) ⊎ (from + k ≤ r) →
        slice_index (slice_set (put_words v from words k) (from + k) (slice_index words k)) r ≡ slice_index words (r - from)
    by before (inl less) =
        get_or-set_other (put_words v from words k) (from + k) r (slice_index words k) 0 (λ e. omega (arith, e, less))
        ∙ before less
    by before (inr past) =
        let here : r ≡ from + k = omega (arith, high, past) in
        let place : k ≡ r - from = omega (arith, high, past) in
        get_or-set_at (put_words v from words k) (from + k) r (slice_index words k) 0 here (omega (arith, size, room)) ∙ ap (slice_index words) place
