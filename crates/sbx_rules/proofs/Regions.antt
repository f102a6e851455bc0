-- What may be reached in two regions, by computing.
use Rattle.std.proofs.Common.{refl}
use Rattle.sbx_image.specs.Regions.{holds}
use Rattle.sbx_rules.specs.Examples.{RegionsAreReachedAlone}

pub regions_are_reached_alone : RegionsAreReachedAlone
unfolding holds
regions_are_reached_alone = record { loads = refl; no_stores = refl; stores = refl; of_either = refl; before = refl; past = refl }
