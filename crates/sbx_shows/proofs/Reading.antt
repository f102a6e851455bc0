-- Both machines read the same.
use Rattle.std.proofs.Common.{◌≡◌, ◌≢◌, ℕ, zero, suc, ◌+◌, ◌-◌, ◌^◌, ◌<◌, ◌≤◌, ◌⊎◌, inl, inr, true, false, List, [], ◌∷◌, refl, sym, ap, ◌∙◌, subst, arith}
use Rattle.std.specs.Prelude.{nat_lt, not}
use Rattle.std.proofs.lemmas.Bool.Decides.{nat_tests}
use Rattle.v8_core.specs.Windows.{Windows, IsFile, above, can_enter, is_masked, reg_of, word_at}
use Rattle.v8_loaded.proofs.Windows.{not_masked}
use Rattle.sbx_flat.specs.Registers.{Frame, Registers, Words, ins_of, word_in}
use Rattle.sbx_flat.specs.Calls.{cell, cell_in}
use Rattle.sbx_shows.specs.Shows.{window, ShowsCalls}
use Rattle.sbx_shows.proofs.Distances.{same_distance, window_here, window_within}

reads_out : (n : ℕ) (v : Windows) (file : Registers) (r q : ℕ) → IsFile n v → ShowsCalls n v file r → 8 ≤ q → q < 16 → reg_of n v q ≡ word_in file q
unfolding reg_of cell
reads_out n v file r q f h low high =
    let e = h.outs 0 (q - 8) (omega arith) (omega arith) in
    let here = window_here n v.current f.current in
    let e' : word_at v v.current (q - 8) ≡ cell file 0 (q - 8) = subst (λ w. word_at v w (q - 8) ≡ cell file 0 (q - 8)) here e in
    let back : q - 8 + 8 ≡ q = omega arith in
    let out : cell file 0 (q - 8) ≡ file.newest.outs q = grind (arith, nat_tests, ap file.newest.outs back) in
    let both : word_at v v.current (q - 8) ≡ file.newest.outs q = e' ∙ out in
    grind (arith, nat_tests, both)

reads_local : (n : ℕ) (v : Windows) (file : Registers) (r q : ℕ) → IsFile n v → ShowsCalls n v file r → 16 ≤ q → q < 24 → reg_of n v q ≡ word_in file q
unfolding reg_of cell
reads_local n v file r q f h low high =
    let some = h.some in
    let e = h.locals 0 (q - 8) (omega arith) (omega arith) (omega arith) in
    let here = window_here n v.current f.current in
    let e' : word_at v v.current (q - 8) ≡ cell file 0 (q - 8) = subst (λ w. word_at v w (q - 8) ≡ cell file 0 (q - 8)) here e in
    let back : q - 8 + 8 ≡ q = omega arith in
    let out : cell file 0 (q - 8) ≡ file.newest.locals q = grind (arith, nat_tests, ap file.newest.locals back) in
    let both : word_at v v.current (q - 8) ≡ file.newest.locals q = e' ∙ out in
    grind (arith, nat_tests, both)

ins_are : (newest : Frame) (older : List Frame) (ins : Words) (q : ℕ) → 24 ≤ q → q < 32 → cell_in (newest ∷ older) ins 1 (q - 24) ≡ ins_of older ins q
ins_are newest [] ins q low high = let back : q - 24 + 24 ≡ q = omega arith in ap ins back
ins_are newest (call ∷ older) ins q low high =
    let back : q - 24 + 8 ≡ q - 16 = omega arith in
    let out : nat_lt (q - 24) 8 ≡ true = grind (arith, nat_tests) in
    rw out (ap call.outs back)

reads_in : (n : ℕ) (v : Windows) (file : Registers) (r q : ℕ) → IsFile n v → ShowsCalls n v file r → 24 ≤ q → q < 32 → reg_of n v q ≡ word_in file q
unfolding reg_of cell
reads_in n v file r q f h low high =
    let e : word_at v (above n v.current) (q - 24) ≡ cell file 1 (q - 24) = h.outs 1 (q - 24) h.some (omega arith) in
    let both : word_at v (above n v.current) (q - 24) ≡ ins_of file.older file.oldest_ins q = e ∙ ins_are file.newest file.older file.oldest_ins q low high in
    grind (arith, nat_tests, both)

reads_global : (n : ℕ) (v : Windows) (file : Registers) (r q : ℕ) → ShowsCalls n v file r → q < 8 → reg_of n v q ≡ word_in file q
unfolding reg_of
reads_global n v file r zero h small = refl
reads_global n v file r (suc q) h small =
    let e = h.globals (suc q) (omega arith) small in
    grind (arith, nat_tests, e)

-- each register reads the same
pub reads_same : (n : ℕ) (v : Windows) (file : Registers) (r q : ℕ) → IsFile n v → ShowsCalls n v file r → q < 32 → reg_of n v q ≡ word_in file q
reads_same n v file r q f h small =
    let first : (q < 8) ⊎ (8 ≤ q) = search arith in
    let second : (q < 16) ⊎ (16 ≤ q) = search arith in
    let third : (q < 24) ⊎ (24 ≤ q) = search arith in
    elim first [
      | inl a ↦ reads_global n v file r q h a
      | inr a ↦ elim second [
        | inl b ↦ reads_out n v file r q f h a b
        | inr b ↦ elim third [ inl d ↦ reads_local n v file r q f h b d | inr d ↦ reads_in n v file r q f h d small ]
      ]
    ]

-- a window but the marked one may be entered
pub may_enter : (n : ℕ) (v : Windows) (file : Registers) (r k : ℕ) → IsFile n v → ShowsCalls n v file r → k < n → k ≢ r → can_enter v (window n v.current k) ≡ true
unfolding can_enter
may_enter n v file r k f h less other =
    let most = h.most in
    let many = f.many in
    let a = window_within n v.current r f.current most in
    let b = window_within n v.current k f.current less in
    let apart : window n v.current r ≢ window n v.current k = λ e. other (sym (same_distance n v.current r k f.current most less e)) in
    let free : is_masked (2 ^ window n v.current r) (window n v.current k) ≡ false = not_masked (window n v.current r) (window n v.current k) (omega arith) (omega arith) apart in
    ap (λ m. not (is_masked m (window n v.current k))) h.mask ∙ ap not free

-- so may the current one
pub current_free : (n : ℕ) (v : Windows) (file : Registers) (r : ℕ) → IsFile n v → ShowsCalls n v file r → can_enter v v.current ≡ true
current_free n v file r f h =
    let some = h.some in
    let few = f.few in
    ap (can_enter v) (sym (window_here n v.current f.current)) ∙ may_enter n v file r 0 f h (omega arith) (omega arith)
