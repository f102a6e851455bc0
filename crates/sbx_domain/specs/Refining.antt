-- What a branch lets know on each of its ways.
use Rattle.std.specs.Prelude.{ℕ, Bool, true, false, ◌==◌, if◌then◌else◌, Option, Some, None}
use Rattle.v8_word.specs.declared.Cond.{Cond}
use Rattle.sbx_range.specs.Range.{Range}
use Rattle.sbx_range.specs.Ranges.{known}
use Rattle.sbx_range.specs.Refining.{both_of, common, refine, refine_by_value, some_range}
use Rattle.sbx_range.specs.declared.refining.Pair.{Pair}
use Rattle.sbx_domain.specs.declared.relation.Relation.TheVariants.{Compared, Signs}
use Rattle.sbx_domain.specs.declared.entry.Entry.{Entry}
use Rattle.sbx_domain.specs.declared.relation.Related.TheVariants.{Location, Word}
use Rattle.sbx_domain.specs.declared.relation.Related.{Related}
use Rattle.sbx_domain.specs.declared.relation.Relation.{Relation}
use Rattle.sbx_domain.specs.Known.{Known, range_at}

-- a range in the place of a location's; its form stays, and so does the relation
abbrev pub with_range_of : Range → Option Entry → Option Entry
with_range_of r None = None
with_range_of r (Some e) = Some (record e { range = r })

unfoldable pub narrowed_at : ℕ → Range → Known → Known
narrowed_at l r d = record d { entry = λ k. if k == l then with_range_of r (d.entry k) else d.entry k }

abbrev pub range_of_related : Known → Related → Option Range
range_of_related d (Location l) = range_at d l
range_of_related d (Word w) = Some (known w)

abbrev pub narrowed_related : Related → Range → Known → Known
narrowed_related (Location l) r d = narrowed_at l r d
narrowed_related (Word w) r d = d

abbrev pub is_same : Related → Related → Bool
is_same (Location k) (Location l) = k == l
is_same _ _ = false

-- a location that is related to itself gets what both parts share
abbrev pub in_both : Bool → Option Pair → Option Pair
in_both true (Some p) = both_of (some_range (common p.left p.right)) (some_range (common p.left p.right))
in_both true None = None
in_both false p = p

abbrev pub with_pair : Related → Related → Known → Option Pair → Option Known
with_pair x y d None = None
with_pair x y d (Some p) = Some (narrowed_related x p.left (narrowed_related y p.right d))

abbrev pub refined_pair : Cond → Related → Related → Option Range → Option Range → Known → Option Known
refined_pair c x y (Some a) (Some b) d = with_pair x y d (in_both (is_same x y) (refine c a b))
refined_pair c x y (Some a) None d = Some d
refined_pair c x y None b d = Some d

abbrev pub with_narrowed : ℕ → Known → Option Range → Option Known
with_narrowed l d None = None
with_narrowed l d (Some r) = Some (narrowed_at l r d)

abbrev pub refined_signs : Cond → ℕ → Option Range → Known → Option Known
refined_signs c l (Some a) d = with_narrowed l d (refine_by_value c a)
refined_signs c l None d = Some d

abbrev pub refined_by : Cond → Option Relation → Known → Option Known
refined_by c None d = Some d
refined_by c (Some (Compared x y)) d = refined_pair c x y (range_of_related d x) (range_of_related d y) d
refined_by c (Some (Signs l)) d = refined_signs c l (range_at d l) d

-- What is known where a condition holds of the codes; none where it can't hold. A location or word without a range
-- changes nothing, and neither do codes that are related to nothing.
unfoldable pub refined : Cond → Known → Option Known
refined c d = refined_by c d.relation d
