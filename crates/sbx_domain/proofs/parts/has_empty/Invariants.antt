use Rattle.std.proofs.Common.{◌≡◌, ℕ, ◌-◌, ◌<◌, slice_index_or, None, false}
use Rattle.sbx_domain.specs.Known.{is_empty_range, range_of_entry}
use Rattle.sbx_domain.proofs.parts.has_empty.Given as goal

abbrev pub invariant-loop-location : goal.invariant-loop-location
invariant-loop-location l = (k : ℕ) → k < l.location → is_empty_range (range_of_entry (slice_index_or l.entries k None)) ≡ false

abbrev pub decreases-loop-location : goal.decreases-loop-location
decreases-loop-location l = 1040 - l.location
