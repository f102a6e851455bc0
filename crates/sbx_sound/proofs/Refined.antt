-- Refinement takes nothing away of what is known, and adds no location; and which codes a branch looks at.
use Rattle.std.proofs.Common.{◌≡◌, ℕ, Bool, true, false, Option, Some, None, refl, sym, ap, ◌∙◌, subst}
use Rattle.std.specs.Prelude.{◌==◌, not, if◌then◌else◌}
use Rattle.v8_word.specs.Conditions.{holds}
use Rattle.v8_word.specs.declared.Cond.{Cond}
use Rattle.v8_word.specs.declared.Cond.TheVariants.{Always}
use Rattle.v8_word.specs.declared.Icc.{Icc}
use Rattle.v8_meaning.specs.Operands.{is_always}
use Rattle.sbx_image.specs.Range.{Range}
use Rattle.sbx_range.specs.declared.refining.Pair.{Pair}
use Rattle.sbx_range.specs.Refining.{refine, refine_by_value}
use Rattle.sbx_form.specs.Forms.{Cells}
use Rattle.sbx_flat.specs.Registers.{Words}
use Rattle.sbx_rules.specs.Entry.{Entry}
use Rattle.sbx_rules.specs.Related.{Related}
use Rattle.sbx_rules.specs.Related.TheVariants.{Location, Word}
use Rattle.sbx_rules.specs.Relation.{Relation}
use Rattle.sbx_rules.specs.Relation.TheVariants.{Compared, Signs}
use Rattle.sbx_rules.specs.Fits.{Fits}
use Rattle.sbx_rules.specs.Known.{Known, range_at}
use Rattle.sbx_rules.specs.Refining.{in_both, is_same, narrowed_at, narrowed_related, range_of_related, refined, refined_by, refined_pair, refined_signs, with_narrowed, with_pair, with_range_of}
use Rattle.sbx_fits.proofs.Branches.{refinement_keeps_fitting}
use Rattle.sbx_rules.specs.Rules.{is_defined, is_some}
use Rattle.sbx_sound.proofs.Branches.{Refines}

pub record IsNarrowed (e d : Known) : Type 0 where
  pub defined : (l : ℕ) → is_defined e l ≡ is_defined d l
  pub codes : e.icc ≡ d.icc
  pub y : e.y ≡ d.y

as_it_is : (d : Known) → IsNarrowed d d
as_it_is d = record { defined = λ l. refl; codes = refl; y = refl }

range_given : (r : Range) (o : Option Entry) → is_some (with_range_of r o) ≡ is_some o
range_given r None = refl
range_given r (Some e) = refl

either_way : (t : Bool) (r : Range) (o : Option Entry) → is_some (if t then with_range_of r o else o) ≡ is_some o
either_way true r o = range_given r o
either_way false r o = refl

at_location : (l : ℕ) (r : Range) (e d : Known) → IsNarrowed e d → IsNarrowed (narrowed_at l r e) d
unfolding narrowed_at
at_location l r e d n = record { defined = λ k. either_way (k == l) r (e.entry k) ∙ n.defined k; codes = n.codes; y = n.y }

at_related : (x : Related) (r : Range) (e d : Known) → IsNarrowed e d → IsNarrowed (narrowed_related x r e) d
at_related (Location l) r e d n = at_location l r e d n
at_related (Word w) r e d n = n

same_known : (a b : Known) → Some a ≡ Some b → a ≡ b
same_known a b e = cc

of_pair : (x y : Related) (d e : Known) (o : Option Pair) → with_pair x y d o ≡ Some e → IsNarrowed e d
of_pair x y d e None h = absurd (cc)
of_pair x y d e (Some p) h =
    subst (λ k. IsNarrowed k d) (same_known (narrowed_related x p.left (narrowed_related y p.right d)) e h)
    (at_related x p.left (narrowed_related y p.right d) d (at_related y p.right d d (as_it_is d)))

of_ranges : (c : Cond) (x y : Related) (a b : Option Range) (d e : Known) → refined_pair c x y a b d ≡ Some e → IsNarrowed e d
of_ranges c x y (Some a) (Some b) d e h = of_pair x y d e (in_both (is_same x y) (refine c a b)) h
of_ranges c x y (Some a) None d e h = subst (λ k. IsNarrowed k d) (same_known d e h) (as_it_is d)
of_ranges c x y None b d e h = subst (λ k. IsNarrowed k d) (same_known d e h) (as_it_is d)

of_narrowed : (l : ℕ) (d e : Known) (o : Option Range) → with_narrowed l d o ≡ Some e → IsNarrowed e d
of_narrowed l d e None h = absurd (cc)
of_narrowed l d e (Some r) h = subst (λ k. IsNarrowed k d) (same_known (narrowed_at l r d) e h) (at_location l r d d (as_it_is d))

of_signs : (c : Cond) (l : ℕ) (o : Option Range) (d e : Known) → refined_signs c l o d ≡ Some e → IsNarrowed e d
of_signs c l (Some a) d e h = of_narrowed l d e (refine_by_value c a) h
of_signs c l None d e h = subst (λ k. IsNarrowed k d) (same_known d e h) (as_it_is d)

of_relation : (c : Cond) (r : Option Relation) (d e : Known) → refined_by c r d ≡ Some e → IsNarrowed e d
of_relation c None d e h = subst (λ k. IsNarrowed k d) (same_known d e h) (as_it_is d)
of_relation c (Some (Compared x y)) d e h = of_ranges c x y (range_of_related d x) (range_of_related d y) d e h
of_relation c (Some (Signs l)) d e h = of_signs c l (range_at d l) d e h

pub refined_is : (c : Cond) (d e : Known) → refined c d ≡ Some e → IsNarrowed e d
unfolding refined
refined_is c d e h = of_relation c d.relation d e h

-- where the condition holds of the codes, its way is possible, and what is known there fits
pub refines : (c : Cond) (d : Known) (start : Cells) (words : Words) (icc : Icc) (y : ℕ) → holds c icc ≡ true → Fits start d words icc y → Refines c d start words icc y
refines c d start words icc y held fits =
    let r = refinement_keeps_fitting.fits c start d words icc y held fits in
    let n = refined_is c d r.0 r.1 in
    record {
      known = r.0;
      is = r.1;
      fits = r.2;
      defined = λ l h. sym (n.defined l) ∙ h;
      codes = λ h. sym n.codes ∙ h;
      y_defined = λ h. ap (λ (o : Option Range). is_some o) (sym n.y) ∙ h;
    }

-- a branch looks at the codes, but `ba`
always_holds : (c : Cond) (x y : Icc) → is_always c ≡ true → holds c x ≡ holds c y
always_holds Always x y h = refl
always_holds _ x y h = absurd (cc)

pub looks_at_codes : (c : Cond) (known : Bool) (x y : Icc) → (not (is_always c) ≡ true → known ≡ true) → (known ≡ true → x ≡ y) → holds c x ≡ holds c y
looks_at_codes c known x y asks same = by_test (is_always c) refl
  where
    by_test : (t : Bool) → is_always c ≡ t → holds c x ≡ holds c y
    by_test true e = always_holds c x y e
    by_test false e = ap (holds c) (same (asks (ap not e)))
