-- A write of a word that has what is then known of its location keeps words fitting.
use Rattle.std.proofs.Common.{◌≡◌, ℕ, ◌^◌, ◌<◌, Bool, true, false, Option, Some, None, refl, sym, ap, arith, subst}
use Rattle.std.specs.Prelude.{◌==◌, ◌||◌, if◌then◌else◌}
use Rattle.std.proofs.lemmas.Bool.Decides.{nat_tests}
use Rattle.v8_word.specs.declared.Icc.{Icc}
use Rattle.sbx_form.specs.Forms.{Cells}
use Rattle.sbx_range.specs.Laws.{HasSigns}
use Rattle.sbx_domain.specs.declared.entry.Entry.{Entry}
use Rattle.sbx_domain.specs.declared.relation.Related.{Related}
use Rattle.sbx_domain.specs.declared.relation.Related.TheVariants.{Location, Word}
use Rattle.sbx_domain.specs.declared.relation.Relation.{Relation}
use Rattle.sbx_domain.specs.declared.relation.Relation.TheVariants.{Compared, Signs}
use Rattle.sbx_domain.specs.Fits.{AreCodesOf, HasAlignment, HasForm, HasInterval, Near, Relates, Words, word_of_related}
use Rattle.sbx_domain.specs.Known.{Known, form_of_entry, is_at, is_location, names, range_of_entry, with_entry, without_location}
use Rattle.sbx_domain.specs.Laws.{WritesKeepFitting}

-- the same with the word at a place replaced
abbrev put : ℕ → ℕ → Words → Words
put l v words k = if k == l then v else words k

other_word : (l v : ℕ) (words : Words) (k : ℕ) → (k == l) ≡ false → put l v words k ≡ words k
other_word l v words k h = ap (λ (t : Bool). if t then v else words k) h

same_related : (l v : ℕ) (words : Words) (x : Related) → is_at l x ≡ false → word_of_related (put l v words) x ≡ word_of_related words x
same_related l v words (Location k) h = other_word l v words k h
same_related l v words (Word w) h = refl

first_of : (s t : Bool) → (s || t) ≡ false → s ≡ false
first_of true t h = h
first_of false t h = refl

second_of : (s t : Bool) → (s || t) ≡ false → t ≡ false
second_of true true h = h
second_of true false h = refl
second_of false t h = h

relates_on : (l v : ℕ) (words : Words) (icc : Icc) (r : Relation) → names l r ≡ false → Relates words icc (Some r) → Relates (put l v words) icc (Some r)
relates_on l v words icc (Compared x y) h is =
    subst (λ b. AreCodesOf icc (word_of_related (put l v words) x) b) (sym (same_related l v words y (second_of (is_at l x) (is_at l y) h)))
    (subst (λ a. AreCodesOf icc a (word_of_related words y)) (sym (same_related l v words x (first_of (is_at l x) (is_at l y) h))) is)
relates_on l v words icc (Signs k) h is = subst (HasSigns icc) (sym (other_word l v words k h)) is

relates_without : (l v : ℕ) (words : Words) (icc : Icc) (r : Option Relation) → Relates words icc r → Relates (put l v words) icc (without_location l r)
relates_without l v words icc None is = tt
relates_without l v words icc (Some r) is = by_test (names l r) refl
  where
    by_test : (t : Bool) → names l r ≡ t → Relates (put l v words) icc (if t then None else Some r)
    by_test true h = tt
    by_test false h = relates_on l v words icc r h is

two_if : (t : Bool) (P : Option Entry → ℕ → Type 0) (e old : Option Entry) (v w : ℕ) → P e v → P old w → P (if t then e else old) (if t then v else w)
two_if true P e old v w p q = p
two_if false P e old v w p q = q

small_if : (t : Bool) (v w n : ℕ) → v < n → w < n → (if t then v else w) < n
small_if true v w n p q = p
small_if false v w n p q = q

zero_stays : (l v : ℕ) (words : Words) → is_location l ≡ true → words 0 ≡ 0 → put l v words 0 ≡ 0
zero_stays l v words here zero = grind (arith, nat_tests)

abbrev placed : Bool → ℕ → Option Entry → Known → Known
placed t l e d = if t then record d { entry = λ k. if k == l then e else d.entry k; relation = without_location l d.relation } else d

near_placed : (t : Bool) (start : Cells) (d : Known) (words : Words) (icc : Icc) (y l v : ℕ) (e : Option Entry) → is_location l ≡ t → v < 2 ^ 32
    → HasInterval (range_of_entry e) v → HasForm start (form_of_entry e) v
    → Near start d words icc y → Near start (placed t l e d) (if t then put l v words else words) icc y
near_placed false start d words icc y l v e here small interval form near = near
near_placed true start d words icc y l v e here small interval form near = record {
  are_words = λ k. small_if (k == l) v (words k) (2 ^ 32) small (near.are_words k);
  zero = zero_stays l v words here near.zero;
  intervals = λ k. two_if (k == l) (λ x w. HasInterval (range_of_entry x) w) e (d.entry k) v (words k) interval (near.intervals k);
  forms = λ k. two_if (k == l) (λ x w. HasForm start (form_of_entry x) w) e (d.entry k) v (words k) form (near.forms k);
  y_word = near.y_word;
  y_interval = near.y_interval;
  relates = relates_without l v words icc d.relation near.relates;
}

multiples_placed : (t : Bool) (d : Known) (words : Words) (l v : ℕ) (e : Option Entry) → HasAlignment (range_of_entry e) v
    → ((k : ℕ) → HasAlignment (range_of_entry (d.entry k)) (words k))
    → (k : ℕ) → HasAlignment (range_of_entry ((placed t l e d).entry k)) ((if t then put l v words else words) k)
multiples_placed false d words l v e aligned all k = all k
multiples_placed true d words l v e aligned all k = two_if (k == l) (λ x w. HasAlignment (range_of_entry x) w) e (d.entry k) v (words k) aligned (all k)

y_placed : (t : Bool) (d : Known) (l y : ℕ) (e : Option Entry) → HasAlignment d.y y → HasAlignment (placed t l e d).y y
y_placed true d l y e h = h
y_placed false d l y e h = h

pub writes_keep_fitting : WritesKeepFitting
unfolding with_entry
writes_keep_fitting = record {
  near = λ start d words icc y l v e small interval form near. near_placed (is_location l) start d words icc y l v e refl small interval form near;
  fits = λ start d words icc y l v e small interval form aligned fits. record {
    near = near_placed (is_location l) start d words icc y l v e refl small interval form fits.near;
    multiples = multiples_placed (is_location l) d words l v e aligned fits.multiples;
    y_multiple = y_placed (is_location l) d l y e fits.y_multiple;
  };
}
