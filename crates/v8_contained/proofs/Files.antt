-- A register file stays one when words are written to it, whatever the register's number.
use Rattle.std.proofs.Common.{◌≡◌, ◌≢◌, ℕ, ◌-◌, ◌^◌, ◌<◌, ◌≤◌, ◌⊎◌, inl, inr, Bool, true, false, cond, List, [], ◌∷◌, length, get_or, refl, sym, ap, ◌∙◌, subst, arith, lit<}
use Rattle.std.specs.Prelude.{slice_index, slice_set, ◌==◌, nat_lt, if◌then◌else◌}
use Rattle.std.proofs.lemmas.Bool.Decides.{nat_tests}
use Rattle.std.proofs.lemmas.List.{get_or-set_same, get_or-set_other, get_or_past, length-set}
use Rattle.v8_core.specs.Windows.{IsFile, Windows, above, below, moved, reg_of, trapped, with_reg, with_word, word_at}
use Rattle.v8_windows.proofs.AfterWrites.{above_less}
use Rattle.v8_core.specs.Effects.{with_regs}
use Rattle.v8_contained.proofs.Shapes.{below_less}

fit_written : (xs : List ℕ) (k x i : ℕ) → ((j : ℕ) → slice_index xs j < 2 ^ 32) → x < 2 ^ 32 → slice_index (slice_set xs k x) i < 2 ^ 32
fit_written xs k x i fit small = by_place (i == k) refl
  where
    by_place : (t : Bool) → (i == k) ≡ t → slice_index (slice_set xs k x) i < 2 ^ 32
    by_place true e =
        let same : i ≡ k = grind (arith, nat_tests) in
        let split : (k < length xs) ⊎ (length xs ≤ k) = search arith in
        elim split [
          | inl there ↦ subst (λ v. v < 2 ^ 32) (sym (ap (slice_index (slice_set xs k x)) same ∙ get_or-set_same xs k x 0 there)) small
          | inr past ↦ subst (λ v. v < 2 ^ 32) (sym (get_or_past (slice_set xs k x) i 0 (omega (arith, length-set xs k x)))) (lit< tt)
        ]
    by_place false e =
        let other : i ≢ k = grind (arith, nat_tests) in
        subst (λ v. v < 2 ^ 32) (sym (get_or-set_other xs k i x 0 other)) (fit i)

-- what holds of a new row and of the old ones
row_by : (words : List (List ℕ)) (w v : ℕ) (row : List ℕ) (P : List ℕ → Type 0) → w < length words → P row → P (get_or words v []) → P (get_or (slice_set words w row) v [])
row_by words w v row P there new old = by_window (v == w) refl
  where
    by_window : (t : Bool) → (v == w) ≡ t → P (get_or (slice_set words w row) v [])
    by_window true e =
        let same : w ≡ v = grind (arith, nat_tests) in
        subst (λ i. P (get_or (slice_set words w row) i [])) same (subst P (sym (get_or-set_same words w row [] there)) new)
    by_window false e =
        let other : v ≢ w = grind (arith, nat_tests) in
        subst P (sym (get_or-set_other words w v row [] other)) old

pub file_word : (n : ℕ) (v : Windows) (w k x : ℕ) → IsFile n v → w < n → x < 2 ^ 32 → IsFile n (with_word v w k x)
file_word n v w k x f less small =
    let there : w < length v.words = omega (arith, f.rows.count) in
    let row = slice_set (get_or v.words w []) k x in
    record {
      few = f.few;
      many = f.many;
      current = f.current;
      mask = f.mask;
      globals = f.globals;
      rows = record {
        count = length-set v.words w row ∙ f.rows.count;
        each = λ u inside. row_by v.words w u row (λ r. length r ≡ 16) there (length-set (get_or v.words w []) k x ∙ f.rows.each w less) (f.rows.each u inside);
        fit = λ u i. row_by v.words w u row (λ r. slice_index r i < 2 ^ 32) there (fit_written (get_or v.words w []) k x i (f.rows.fit w) small) (f.rows.fit u i);
      };
    }

pub file_moved : (n : ℕ) (v : Windows) (w : ℕ) → IsFile n v → w < n → IsFile n (moved v w)
file_moved n v w f less = record { few = f.few; many = f.many; current = less; mask = f.mask; globals = f.globals; rows = f.rows }

pub file_mask : (n : ℕ) (v : Windows) (m : ℕ) → IsFile n v → m < 2 ^ n → IsFile n (record v { mask = m })
file_mask n v m f small = record { few = f.few; many = f.many; current = f.current; mask = small; globals = f.globals; rows = f.rows }

file_global : (n : ℕ) (v : Windows) (r x : ℕ) → IsFile n v → x < 2 ^ 32 → IsFile n (record v { globals = slice_set v.globals r x })
file_global n v r x f small = record {
  few = f.few;
  many = f.many;
  current = f.current;
  mask = f.mask;
  globals = record { count = length-set v.globals r x ∙ f.globals.count; fit = λ i. fit_written v.globals r x i f.globals.fit small };
  rows = f.rows;
}

either : {A : Type 0} (b : Bool) (x y : A) (P : A → Type 0) → P x → P y → P (cond b x y)
either true x y P p q = p
either false x y P p q = q

pub file_reg : (n : ℕ) (v : Windows) (r x : ℕ) → IsFile n v → x < 2 ^ 32 → IsFile n (with_reg n v r x)
unfolding with_reg
file_reg n v r x f small =
    either (r == 0) v _ (IsFile n) f
    (either (nat_lt r 8) (record v { globals = slice_set v.globals r x }) _ (IsFile n) (file_global n v r x f small)
    (either (nat_lt r 24) (with_word v v.current (r - 8) x) (with_word v (above n v.current) (r - 24) x) (IsFile n)
    (file_word n v v.current (r - 8) x f f.current small)
    (file_word n v (above n v.current) (r - 24) x f (above_less n v.current f.few f.current) small)))

-- registers written one after another
unfoldable pub AreWords : List (ℕ × ℕ) → Type 0
AreWords [] = Unit
AreWords (w ∷ rest) = (w.1 < 2 ^ 32) × AreWords rest

pub file_regs : (n : ℕ) (v : Windows) (written : List (ℕ × ℕ)) → IsFile n v → AreWords written → IsFile n (with_regs n v written)
unfolding AreWords
file_regs n v [] f small = f
file_regs n v (w ∷ rest) f small = file_regs n (with_reg n v w.0 w.1) rest (file_reg n v w.0 w.1 f small.0) small.1

pub file_trapped : (n : ℕ) (v : Windows) (pc npc : ℕ) → IsFile n v → pc < 2 ^ 32 → npc < 2 ^ 32 → IsFile n (trapped n v pc npc)
file_trapped n v pc npc f p q =
    let w = below n v.current in
    let less = below_less n v.current f.few f.current in
    file_word n (with_word (moved v w) w 9 pc) w 10 npc (file_word n (moved v w) w 9 pc (file_moved n v w f less) less p) less q

one_of_four : (a b c : Bool) (x y z : ℕ) → x < 2 ^ 32 → y < 2 ^ 32 → z < 2 ^ 32 → (if a then 0 else (if b then x else (if c then y else z))) < 2 ^ 32
one_of_four true b c x y z p q r = omega arith
one_of_four false true c x y z p q r = p
one_of_four false false true x y z p q r = q
one_of_four false false false x y z p q r = r

-- a register holds a word
pub reads_word : (n : ℕ) (v : Windows) (r : ℕ) → IsFile n v → reg_of n v r < 2 ^ 32
unfolding reg_of
reads_word n v r f =
    one_of_four (r == 0) (nat_lt r 8) (nat_lt r 24) (slice_index v.globals r) (word_at v v.current (r - 8)) (word_at v (above n v.current) (r - 24))
    (f.globals.fit r) (f.rows.fit v.current (r - 8)) (f.rows.fit (above n v.current) (r - 24))
