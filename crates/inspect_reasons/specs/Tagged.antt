-- What of a tagged operation that traps isn't shown, part by part: the conjuncts of `tagged_fits`, of operands that are
-- defined.
use Rattle.std.specs.Prelude.{◌≡◌, not, Bool, true, false, nat_le, Option, Some, None}
use Rattle.v8_alu.specs.declared.TaggedOp.{TaggedOp}
use Rattle.v8_alu.specs.declared.TaggedOp.TheVariants.{TaggedAdd, TaggedSub}
use Rattle.sbx_range.specs.Range.{Range}
use Rattle.sbx_range.specs.Rows.{differences_fit, sums_fit}
use Rattle.inspect_reasons.specs.declared.tagged.Unshown.{Unshown}

-- not known to be a multiple of 4
abbrev pub is_uneven : Option Range → Bool
is_uneven None = true
is_uneven (Some r) = not (nat_le 2 r.alignment)

-- each result is a signed word
abbrev pub results_fit : TaggedOp → Range → Range → Bool
results_fit TaggedAdd a b = sums_fit a b
results_fit TaggedSub a b = differences_fit a b

abbrev pub is_wide : TaggedOp → Option Range → Option Range → Bool
is_wide op (Some a) (Some b) = not (results_fit op a b)
is_wide op (Some a) None = false
is_wide op None b = false

-- what isn't shown of two operands
pub record IsUnshown (op : TaggedOp) (a b : Option Range) (unshown : Unshown) : Type 0 where
  pub first : unshown.first ≡ is_uneven a
  pub second : unshown.second ≡ is_uneven b
  pub wide : unshown.wide ≡ is_wide op a b
