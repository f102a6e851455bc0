-- Where a branch goes on, where a block starts, and after services.
use Rattle.std.proofs.Common.{◌≡◌, ℕ, ◌-◌, ◌^◌, ◌<◌, Bool, true, false, List, [], ◌∷◌, Option, Some, None, refl, sym, ap, ◌∙◌, subst, arith}
use Rattle.std.specs.Prelude.{◌==◌, if◌then◌else◌}
use Rattle.std.proofs.lemmas.Bool.Decides.{Decides-eqb}
use Rattle.std.proofs.lemmas.Int.{ints}
use Rattle.v8_word.specs.Conditions.{holds}
use Rattle.v8_word.specs.declared.Cond.{Cond}
use Rattle.v8_word.specs.declared.Icc.{Icc}
use Rattle.v8_formats.specs.declared.instr.Branch.{Branch}
use Rattle.v8_formats.specs.declared.instr.Three.{Three}
use Rattle.v8_formats.specs.declared.instr.Trap.{Trap}
use Rattle.v8_alu.specs.Results.{difference_codes, signed}
use Rattle.v8_meaning.specs.declared.operation.Operation.TheVariants.{BranchOnCondition, JumpAndLink, TrapOnCondition}
use Rattle.sbx_flat.specs.Effects.{service_of}
use Rattle.sbx_image.specs.Cell.{Cell}
use Rattle.sbx_image.specs.Range.{Range}
use Rattle.sbx_form.specs.Forms.{Cells}
use Rattle.sbx_range.specs.declared.refining.Pair.{Pair}
use Rattle.sbx_range.specs.Laws.{AreIn, HasSigns, KeepsBoth}
use Rattle.sbx_range.specs.Ranges.{InInterval, IsAligned}
use Rattle.sbx_range.specs.Refining.{both_of, common, narrowed, narrowed_by_value, refine, some_range}
use Rattle.sbx_range.proofs.Alignments.{loads_stay_in}
use Rattle.sbx_range.proofs.Kept.{refinement_keeps_pairs, refinement_keeps_words, words_stay_in}
use Rattle.sbx_range.proofs.Multiples.{aligned-known}
use Rattle.sbx_range.proofs.Words.{in_known}
use Rattle.sbx_domain.specs.declared.entry.Entry.{Entry}
use Rattle.sbx_domain.specs.declared.relation.Related.{Related}
use Rattle.sbx_domain.specs.declared.relation.Related.TheVariants.{Location, Word}
use Rattle.sbx_domain.specs.declared.relation.Relation.{Relation}
use Rattle.sbx_domain.specs.declared.relation.Relation.TheVariants.{Compared, Signs}
use Rattle.sbx_domain.specs.Fits.{AreCodesOf, Fits, HasAlignment, HasForm, HasInterval, Near, Relates, Words, word_of_related}
use Rattle.sbx_domain.specs.Forms.{form_of_location, form_value}
use Rattle.sbx_domain.specs.Known.{Known, cell_entry, form_of_entry, is_location, range_at, range_of_entry, started}
use Rattle.sbx_domain.specs.Refining.{in_both, is_same, narrowed_at, narrowed_related, range_of_related, refined, refined_by, refined_pair, refined_signs, with_narrowed, with_pair, with_range_of}
use Rattle.sbx_domain.specs.Transfer.{served, transferred}
use Rattle.sbx_fits.specs.Held.{Held, Keeps, numbers, with_location}
use Rattle.sbx_fits.specs.Laws.{RefinementKeepsFitting, ServicesKeepFitting, StartsFit}
use Rattle.sbx_fits.proofs.Memory.{plain_keeps}

-- ---- services

served_keeps : (frame v : ℕ) (t : Trap) (d : Known) (h : Held) → service_of t ≡ Some 1 → ((e : Known) → Keeps d (served (Some 1) d) h (with_location 8 v h)) →
    Keeps d (transferred frame (TrapOnCondition t) d) h (with_location 8 v h)
unfolding transferred
served_keeps frame v t d h is keeps = subst (λ s. Keeps d (served s d) h (with_location 8 v h)) (sym is) (keeps d)

not_one : (n : ℕ) → (Some n ≡ Some 1 → ⊥) → (n == 1) ≡ false
not_one n other = by_test (n == 1) refl
  where
    by_test : (b : Bool) → (n == 1) ≡ b → b ≡ false
    by_test true h = absurd (other (ap Some ((Decides-eqb n 1).0 h)))
    by_test false h = refl

served_same : (s : Option ℕ) (d : Known) → (s ≡ Some 1 → ⊥) → served s d ≡ d
served_same None d other = refl
served_same (Some n) d other = ap (λ (t : Bool). if t then served (Some 1) d else d) (not_one n other)

others_stay : (frame : ℕ) (t : Trap) (d : Known) → (service_of t ≡ Some 1 → ⊥) → transferred frame (TrapOnCondition t) d ≡ d
unfolding transferred
others_stay frame t d other = served_same (service_of t) d other

branch_stays : (frame : ℕ) (b : Branch) (d : Known) → transferred frame (BranchOnCondition b) d ≡ d
unfolding transferred
branch_stays frame b d = refl

jump_stays : (frame : ℕ) (f : Three) (d : Known) → transferred frame (JumpAndLink f) d ≡ d
unfolding transferred
jump_stays frame f d = refl

pub services_keep_fitting : ServicesKeepFitting
services_keep_fitting = record {
  get_byte = λ frame n t d h is small. served_keeps frame n t d h is (λ e. plain_keeps 8 n _ d h (omega arith) (loads_stay_in.bytes_of_input n small));
  get_end = λ frame t d h is. served_keeps frame (2 ^ 32 - 1) t d h is (λ e. plain_keeps 8 (2 ^ 32 - 1) _ d h (omega arith) loads_stay_in.end_of_input);
  others = others_stay;
  branch = branch_stays;
  jump = jump_stays;
}

-- ---- where a block starts

itself : (words : Words) (l : ℕ) → form_value (numbers words) (form_of_location l) ≡ signed (words l)
unfolding form_value
itself words l = omega (arith, ints)

starts_as_itself : (cells : List Cell) (words : Words) (l : ℕ) → HasForm (numbers words) (form_of_entry (cell_entry cells l)) (words l)
unfolding cell_entry
starts_as_itself [] words l = tt
starts_as_itself (c ∷ cs) words l = by_test (c.location == l) refl (starts_as_itself cs words l)
  where
    by_test : (t : Bool) → (c.location == l) ≡ t → HasForm (numbers words) (form_of_entry (cell_entry cs l)) (words l)
        → HasForm (numbers words) (form_of_entry (if t then Some (record { range = c.range; form = Some (form_of_location c.location) }) else cell_entry cs l)) (words l)
    by_test true h rest = itself words c.location ∙ ap (λ k. signed (words k)) ((Decides-eqb c.location l).0 h)
    by_test false h rest = rest

form_or_none : (t : Bool) (start : Cells) (e : Option Entry) (w : ℕ) → HasForm start (form_of_entry e) w → HasForm start (form_of_entry (if t then e else None)) w
form_or_none true start e w h = h
form_or_none false start e w h = tt

near_start : (cells : List Cell) (words : Words) (icc : Icc) (y : ℕ) → ((l : ℕ) → words l < 2 ^ 32) → words 0 ≡ 0 → y < 2 ^ 32
    → ((l : ℕ) → HasInterval (range_at (started cells) l) (words l)) → Near (numbers words) (started cells) words icc y
unfolding started
near_start cells words icc y are zero small intervals = record {
  are_words = are;
  zero = zero;
  intervals = intervals;
  forms = λ l. form_or_none (is_location l) (numbers words) (cell_entry cells l) (words l) (starts_as_itself cells words l);
  y_word = small;
  y_interval = tt;
  relates = tt;
}

fits_start : (cells : List Cell) (words : Words) (icc : Icc) (y : ℕ) → ((l : ℕ) → words l < 2 ^ 32) → words 0 ≡ 0 → y < 2 ^ 32
    → ((l : ℕ) → HasInterval (range_at (started cells) l) (words l)) → ((l : ℕ) → HasAlignment (range_at (started cells) l) (words l)) → Fits (numbers words) (started cells) words icc y
unfolding started
fits_start cells words icc y are zero small intervals multiples = record {
  near = near_start cells words icc y are zero small intervals;
  multiples = multiples;
  y_multiple = tt;
}

pub starts_fit : StartsFit
starts_fit = record { near = near_start; fits = fits_start }

-- ---- refinement: a range in the place of a location's

near_narrowed : (start : Cells) (d : Known) (words : Words) (icc : Icc) (y l : ℕ) (r : Range) → InInterval r (words l) → Near start d words icc y → Near start (narrowed_at l r d) words icc y
unfolding narrowed_at
near_narrowed start d words icc y l r is near = record {
  are_words = near.are_words;
  zero = near.zero;
  intervals = λ k. narrow_interval k (k == l) refl (d.entry k) (near.intervals k);
  forms = λ k. narrow_form k (k == l) (d.entry k) (near.forms k);
  y_word = near.y_word;
  y_interval = near.y_interval;
  relates = near.relates;
}
  where
    narrow_interval : (k : ℕ) (t : Bool) → (k == l) ≡ t → (e : Option Entry) → HasInterval (range_of_entry e) (words k) → HasInterval (range_of_entry (if t then with_range_of r e else e)) (words k)
    narrow_interval k true h None has = tt
    narrow_interval k true h (Some e) has = subst (λ j. InInterval r (words j)) (sym ((Decides-eqb k l).0 h)) is
    narrow_interval k false h e has = has

    narrow_form : (k : ℕ) (t : Bool) (e : Option Entry) → HasForm start (form_of_entry e) (words k) → HasForm start (form_of_entry (if t then with_range_of r e else e)) (words k)
    narrow_form k true None has = tt
    narrow_form k true (Some e) has = has
    narrow_form k false e has = has

multiples_narrowed : (d : Known) (words : Words) (l : ℕ) (r : Range) → IsAligned r.alignment (words l) → ((k : ℕ) → HasAlignment (range_of_entry (d.entry k)) (words k))
    → (k : ℕ) → HasAlignment (range_of_entry ((narrowed_at l r d).entry k)) (words k)
unfolding narrowed_at
multiples_narrowed d words l r is all k = by_test (k == l) refl (d.entry k) (all k)
  where
    by_test : (t : Bool) → (k == l) ≡ t → (e : Option Entry) → HasAlignment (range_of_entry e) (words k) → HasAlignment (range_of_entry (if t then with_range_of r e else e)) (words k)
    by_test true h None has = tt
    by_test true h (Some e) has = subst (λ j. IsAligned r.alignment (words j)) (sym ((Decides-eqb k l).0 h)) is
    by_test false h e has = has

narrowed_y : (d : Known) (l : ℕ) (r : Range) (y : ℕ) → HasAlignment d.y y → HasAlignment (narrowed_at l r d).y y
unfolding narrowed_at
narrowed_y d l r y h = h

near_narrowed_related : (start : Cells) (d : Known) (words : Words) (icc : Icc) (y : ℕ) (x : Related) (r : Range) → InInterval r (word_of_related words x) →
    Near start d words icc y → Near start (narrowed_related x r d) words icc y
near_narrowed_related start d words icc y (Location l) r is near = near_narrowed start d words icc y l r is near
near_narrowed_related start d words icc y (Word w) r is near = near

fits_narrowed_related : (start : Cells) (d : Known) (words : Words) (icc : Icc) (y : ℕ) (x : Related) (r : Range) → InInterval r (word_of_related words x) →
    IsAligned r.alignment (word_of_related words x)
    → Fits start d words icc y → Fits start (narrowed_related x r d) words icc y
fits_narrowed_related start d words icc y (Location l) r is aligned fits = record {
  near = near_narrowed start d words icc y l r is fits.near;
  multiples = multiples_narrowed d words l r aligned fits.multiples;
  y_multiple = narrowed_y d l r y fits.y_multiple;
}
fits_narrowed_related start d words icc y (Word w) r is aligned fits = fits

-- ---- a location or word that is compared

related_interval : (start : Cells) (d : Known) (words : Words) (icc : Icc) (y : ℕ) (x : Related) → Near start d words icc y → HasInterval (range_of_related d x) (word_of_related words x)
related_interval start d words icc y (Location l) near = near.intervals l
related_interval start d words icc y (Word w) near = in_known w

related_multiple : (start : Cells) (d : Known) (words : Words) (icc : Icc) (y : ℕ) (x : Related) → Fits start d words icc y → HasAlignment (range_of_related d x) (word_of_related words x)
related_multiple start d words icc y (Location l) fits = fits.multiples l
related_multiple start d words icc y (Word w) fits = aligned-known w

same_related : (words : Words) (x y : Related) → is_same x y ≡ true → word_of_related words x ≡ word_of_related words y
same_related words (Location k) (Location l) h = ap words ((Decides-eqb k l).0 h)
same_related words (Location k) (Word w) h = absurd (cc)
same_related words (Word v) (Location l) h = absurd (cc)
same_related words (Word v) (Word w) h = absurd (cc)

-- what is left of the two ranges
pub record Leaves (p : Option Pair) (v w : ℕ) (aligned : Type 0) : Type 0 where
  pub pair : Pair
  pub is : p ≡ Some pair
  pub both : KeepsBoth pair v w
  pub multiples : aligned → IsAligned pair.left.alignment v × IsAligned pair.right.alignment w

both_of_one : (r : Option Range) (s : Range) → r ≡ Some s → both_of r r ≡ Some (record { left = s; right = s })
unfolding both_of
both_of_one r s e = ap (λ (x : Option Range). both_of x x) e

left_in_both : (t : Bool) (p : Option Pair) (v w : ℕ) (aligned : Type 0) → (t ≡ true → v ≡ w) → Leaves p v w aligned → Leaves (in_both t p) v w aligned
left_in_both false p v w aligned same leaves = leaves
left_in_both true p v w aligned same leaves =
    let q = leaves.pair in
    let r = common q.left q.right in
    let other : InInterval q.right v = subst (InInterval q.right) (sym (same refl)) leaves.both.right in
    let shared = words_stay_in.of_common q.left q.right v leaves.both.left other in
    record {
      pair = record { left = r; right = r };
      is = ap (in_both true) leaves.is ∙ both_of_one (some_range r) r shared.1;
      both = record { left = shared.0; right = subst (InInterval r) (same refl) shared.0 };
      multiples = λ a. (let m = words_stay_in.of_common_alignment q.left q.right v (leaves.multiples a).0 (subst (IsAligned q.right.alignment) (sym (same refl)) (leaves.multiples a).1) in
          (m, subst (IsAligned r.alignment) (same refl) m));
    }

left_of_refine : (cond : Cond) (a b : Range) (v w : ℕ) → AreIn a b v w → holds cond (difference_codes v w false) ≡ true →
    Leaves (refine cond a b) v w (IsAligned a.alignment v × IsAligned b.alignment w)
left_of_refine cond a b v w are h =
    let k = refinement_keeps_pairs cond a b v w are h in
    record { pair = narrowed cond a b; is = k.0; both = k.1; multiples = λ m. k.2 m.0 m.1 }

-- ---- where the condition holds

-- what is known is refined to something, which holds of these words wherever they fit
record Goes (start : Cells) (d : Known) (words : Words) (icc : Icc) (y : ℕ) (refined : Option Known) : Type 0 where
  pub known : Known
  pub is : refined ≡ Some known
  pub near : Near start known words icc y
  pub fits : Fits start d words icc y → Fits start known words icc y

stays : (start : Cells) (d : Known) (words : Words) (icc : Icc) (y : ℕ) → Near start d words icc y → Goes start d words icc y (Some d)
stays start d words icc y near = record { known = d; is = refl; near = near; fits = λ fits. fits }

goes_compared : (cond : Cond) (start : Cells) (d : Known) (words : Words) (icc : Icc) (y : ℕ) (x z : Related) (a b : Option Range) → holds cond icc ≡ true
    → AreCodesOf icc (word_of_related words x) (word_of_related words z) → HasInterval a (word_of_related words x) → HasInterval b (word_of_related words z)
    → (Fits start d words icc y → HasAlignment a (word_of_related words x) × HasAlignment b (word_of_related words z))
    → Near start d words icc y → Goes start d words icc y (refined_pair cond x z a b d)
goes_compared cond start d words icc y x z (Some a) (Some b) h codes p q m near =
    let v = word_of_related words x in
    let w = word_of_related words z in
    let are : AreIn a b v w = record { first_word = codes.first; second_word = codes.second; first = p; second = q } in
    let left = left_in_both (is_same x z) (refine cond a b) v w (IsAligned a.alignment v × IsAligned b.alignment w) (same_related words x z)
    (left_of_refine cond a b v w are (ap (holds cond) (sym codes.codes) ∙ h)) in
    let pair = left.pair in
    record {
      known = narrowed_related x pair.left (narrowed_related z pair.right d);
      is = ap (with_pair x z d) left.is;
      near = near_narrowed_related start (narrowed_related z pair.right d) words icc y x pair.left left.both.left (near_narrowed_related start d words icc y z pair.right left.both.right near);
      fits = λ fits. (let k = left.multiples (m fits) in
          fits_narrowed_related start (narrowed_related z pair.right d) words icc y x pair.left left.both.left k.0 (fits_narrowed_related start d words icc y z pair.right left.both.right k.1 fits));
    }
goes_compared cond start d words icc y x z (Some a) None h codes p q m near = stays start d words icc y near
goes_compared cond start d words icc y x z None b h codes p q m near = stays start d words icc y near

goes_signed : (cond : Cond) (start : Cells) (d : Known) (words : Words) (icc : Icc) (y l : ℕ) (a : Option Range) → holds cond icc ≡ true → HasSigns icc (words l) → HasInterval a (words l)
    → (Fits start d words icc y → HasAlignment a (words l)) → Near start d words icc y → Goes start d words icc y (refined_signs cond l a d)
goes_signed cond start d words icc y l None h signs p m near = stays start d words icc y near
goes_signed cond start d words icc y l (Some a) h signs p m near =
    let k = refinement_keeps_words cond a (words l) icc (near.are_words l) p signs h in
    let r = narrowed_by_value cond a in
    record {
      known = narrowed_at l r d;
      is = ap (with_narrowed l d) k.0;
      near = near_narrowed start d words icc y l r k.1 near;
      fits = λ fits. record {
        near = near_narrowed start d words icc y l r k.1 near;
        multiples = multiples_narrowed d words l r (k.2 (m fits)) fits.multiples;
        y_multiple = narrowed_y d l r y fits.y_multiple;
      };
    }

goes_by : (cond : Cond) (start : Cells) (d : Known) (words : Words) (icc : Icc) (y : ℕ) (r : Option Relation) → holds cond icc ≡ true → Relates words icc r →
    Near start d words icc y → Goes start d words icc y (refined_by cond r d)
goes_by cond start d words icc y None h relates near = stays start d words icc y near
goes_by cond start d words icc y (Some (Compared x z)) h relates near =
    goes_compared cond start d words icc y x z (range_of_related d x) (range_of_related d z) h relates (related_interval start d words icc y x near) (related_interval start d words icc y z near)
    (λ fits. (related_multiple start d words icc y x fits, related_multiple start d words icc y z fits)) near
goes_by cond start d words icc y (Some (Signs l)) h relates near =
    goes_signed cond start d words icc y l (range_at d l) h relates (near.intervals l) (λ fits. fits.multiples l) near

goes : (cond : Cond) (start : Cells) (d : Known) (words : Words) (icc : Icc) (y : ℕ) → holds cond icc ≡ true → Near start d words icc y → Goes start d words icc y (refined cond d)
unfolding refined
goes cond start d words icc y h near = goes_by cond start d words icc y d.relation h near.relates near

pub refinement_keeps_fitting : RefinementKeepsFitting
refinement_keeps_fitting = record {
  near = λ cond start d words icc y h near. (let g = goes cond start d words icc y h near in (g.known, g.is, g.near));
  fits = λ cond start d words icc y h fits. (let g = goes cond start d words icc y h fits.near in (g.known, g.is, g.fits fits));
}
