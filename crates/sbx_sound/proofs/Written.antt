-- Words with one location set, as what is known has them and as states show them; and which tests a write leaves.
use Rattle.std.proofs.Common.{◌≡◌, ◌≢◌, ℕ, ◌<◌, Bool, true, false, Option, Some, None, refl, sym, ap, ◌∙◌, subst, arith}
use Rattle.std.specs.Prelude.{◌==◌, ◌&&◌, ◌||◌, ◌^◌, not, if◌then◌else◌}
use Rattle.std.proofs.lemmas.Bool.Decides.{nat_tests}
use Rattle.v8_word.specs.declared.Icc.{Icc}
use Rattle.sbx_flat.specs.Registers.{Words}
use Rattle.sbx_form.specs.Forms.{Cells}
use Rattle.sbx_rules.specs.Entry.{Entry}
use Rattle.sbx_rules.specs.Related.{Related}
use Rattle.sbx_rules.specs.Related.TheVariants.{Location, Word}
use Rattle.sbx_rules.specs.Relation.{Relation}
use Rattle.sbx_rules.specs.Relation.TheVariants.{Compared, Signs}
use Rattle.sbx_rules.specs.Fits.{AreCodesOf, Fits, HasAlignment, HasForm, HasInterval, Near, Relates, with_word, word_of_related}
use Rattle.sbx_rules.specs.Known.{Known, form_of_entry, is_location, range_of_entry, with_entry, without_location}
use Rattle.sbx_range.specs.Laws.{HasSigns}
use Rattle.sbx_rules.specs.Rules.{is_defined, is_some}
use Rattle.sbx_sound.proofs.Shared.{with_location}
use Rattle.sbx_sound.proofs.Entries.{with_entry_other}

if_true : (t : Bool) (x y : ℕ) → t ≡ true → (if t then x else y) ≡ x
if_true true x y e = refl
if_true false x y e = absurd (cc)

if_false : (t : Bool) (x y : ℕ) → t ≡ false → (if t then x else y) ≡ y
if_false true x y e = absurd (cc)
if_false false x y e = refl

pub same_location : (n v : ℕ) (words : Words) → n < 1040 → (l : ℕ) → with_word n v words l ≡ with_location n v words l
same_location n v words low l = by_test (is_location n) refl
  where
    by_test : (t : Bool) → is_location n ≡ t → (if t then (λ k. if k == n then v else words k) else words) l ≡ with_location n v words l
    by_test true e = let z : (n == 0) ≡ false = grind (arith, nat_tests) in sym (if_false (n == 0) (words l) (if l == n then v else words l) z)
    by_test false e = let z : (n == 0) ≡ true = grind (arith, nat_tests) in sym (if_true (n == 0) (words l) (if l == n then v else words l) z)

-- ---- words that are equal one by one fit alike

same_related : (a b : Words) → ((l : ℕ) → a l ≡ b l) → (x : Related) → word_of_related a x ≡ word_of_related b x
same_related a b e (Location l) = e l
same_related a b e (Word w) = refl

relates_same : (a b : Words) (icc : Icc) → ((l : ℕ) → a l ≡ b l) → (r : Option Relation) → Relates a icc r → Relates b icc r
relates_same a b icc e None h = tt
relates_same a b icc e (Some (Compared x y)) h =
    subst (λ m. AreCodesOf icc m (word_of_related b y)) (same_related a b e x) (subst (λ n. AreCodesOf icc (word_of_related a x) n) (same_related a b e y) h)
relates_same a b icc e (Some (Signs l)) h = subst (HasSigns icc) (e l) h

pub near_same : (start : Cells) (d : Known) (a b : Words) (icc : Icc) (y : ℕ) → ((l : ℕ) → a l ≡ b l) → Near start d a icc y → Near start d b icc y
near_same start d a b icc y e near = record {
  are_words = λ l. subst (λ w. w < 2 ^ 32) (e l) (near.are_words l);
  zero = sym (e 0) ∙ near.zero;
  intervals = λ l. subst (HasInterval (range_of_entry (d.entry l))) (e l) (near.intervals l);
  forms = λ l. subst (HasForm start (form_of_entry (d.entry l))) (e l) (near.forms l);
  y_word = near.y_word;
  y_interval = near.y_interval;
  relates = relates_same a b icc e d.relation near.relates;
}

pub fits_same : (start : Cells) (d : Known) (a b : Words) (icc : Icc) (y : ℕ) → ((l : ℕ) → a l ≡ b l) → Fits start d a icc y → Fits start d b icc y
fits_same start d a b icc y e fits = record {
  near = near_same start d a b icc y e fits.near;
  multiples = λ l. subst (HasAlignment (range_of_entry (d.entry l))) (e l) (fits.multiples l);
  y_multiple = fits.y_multiple;
}

-- what fits after a write as it is known fits as it is shown
pub fits_shown : (start : Cells) (d : Known) (n v : ℕ) (words : Words) (icc : Icc) (y : ℕ) → n < 1040 → Fits start d (with_word n v words) icc y → Fits start d (with_location n v words) icc y
fits_shown start d n v words icc y low fits = fits_same start d (with_word n v words) (with_location n v words) icc y (same_location n v words low) fits

-- ---- what is known after a write, but for its location, was known before

pub other_defined : (l n : ℕ) (e : Option Entry) (d : Known) → l ≢ n → is_defined (with_entry n e d) l ≡ is_defined d l
other_defined l n e d apart = ap (λ (x : Option Entry). is_some x) (with_entry_other n e d l (let x : (l == n) ≡ false = grind (arith, nat_tests) in x))

pub entry_codes : (n : ℕ) (e : Option Entry) (d : Known) → (with_entry n e d).icc ≡ d.icc
unfolding with_entry
entry_codes n e d = by_test (is_location n)
  where
    by_test : (t : Bool) → (if t then record d { entry = λ k. if k == n then e else d.entry k; relation = without_location n d.relation } else d).icc ≡ d.icc
    by_test true = refl
    by_test false = refl

pub entry_y : (n : ℕ) (e : Option Entry) (d : Known) → (with_entry n e d).y ≡ d.y
unfolding with_entry
entry_y n e d = by_test (is_location n)
  where
    by_test : (t : Bool) → (if t then record d { entry = λ k. if k == n then e else d.entry k; relation = without_location n d.relation } else d).y ≡ d.y
    by_test true = refl
    by_test false = refl

pub more_tests : (l : ℕ) (a b linked : Bool) → a ≡ b → (not (l == 0) && (a || ((l == 15) && linked))) ≡ true → (not (l == 0) && (b || ((l == 15) && linked))) ≡ true
more_tests l a b linked e h = grind (arith, nat_tests)

pub other_word : (n v : ℕ) (words : Words) → 15 ≢ n → with_location n v words 15 ≡ words 15
other_word n v words apart = grind (arith, nat_tests)
