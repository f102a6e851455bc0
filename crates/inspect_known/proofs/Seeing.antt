-- What a sight says of the address of its word.
use Rattle.std.proofs.Common.{◌≡◌, ℕ, subst, ap, ◌∙◌}
use Rattle.sbx_image.specs.Parts.{Parts}
use Rattle.sbx_image.specs.Order.{address_of}
use Rattle.sbx_rules.specs.Places.{IsPlace}
use Rattle.sbx_rules.specs.Verdicts.{KnownAt}
use Rattle.sbx_rules.specs.Ways.{visits_at}
use Rattle.inspect_known.specs.declared.known.Sight.{Sight}
use Rattle.inspect_known.specs.Sights.{IsSeen, ways_seen}

pub is_known : (parts : Parts) (f address : ℕ) (s : Sight) → IsSeen parts s → s.spot.function ≡ f → address ≡ address_of parts f s.spot.block s.spot.number → KnownAt parts f address (ways_seen s)
is_known parts f address s seen same lies = record {
  block = s.spot.block;
  word = s.spot.number;
  place = subst (λ g. IsPlace parts g s.spot.block s.spot.number) same seen.spot.place;
  lies = lies;
  ways = seen.ways ∙ ap (λ g. visits_at parts g s.spot.block s.spot.number) same;
}
