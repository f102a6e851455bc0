-- What is known on the ways that the pass keeps is of locations alone.
use Rattle.std.proofs.Common.{◌≡◌, ℕ, List, ◌++◌, Option, Some, None, ap, subst}
use Rattle.std.specs.Prelude.{IfSome, slice_get}
use Rattle.sbx_image.specs.Parts.{Parts}
use Rattle.sbx_rules.specs.Known.{Known}
use Rattle.sbx_rules.specs.Ways.{Visit, visits_at}
use Rattle.sbx_known.specs.declared.courses.Course.{Course}
use Rattle.sbx_known.specs.declared.courses.Courses.{Courses}
use Rattle.sbx_known.specs.Courses.{arrivals_at, arrived, listed, visit_of, visits_of}
use Rattle.sbx_fuel.specs.Least.{HasOnlyLocations}
use Rattle.sbx_fuel.proofs.Locations.{after_has_locations, visits_have_locations}
use Rattle.sbx_pass.proofs.Paid.{from_map}

module _ (parts : Parts) (f b i : ℕ) where
  arrived_located : (n : ℕ) (a : Visit) → slice_get (arrivals_at parts f b i) n ≡ Some a → HasOnlyLocations a.known
  arrived_located n a there =
      let h = from_map (arrived parts f b i) (visits_at parts f b i) n a there in
      subst (λ (v : Visit). HasOnlyLocations v.known) h.is (after_has_locations parts f b i h.from (visits_have_locations parts f b i h.from n h.there))

  first_located : (o p : Option Course) (d e : Known) → arrivals_at parts f b i ≡ visits_of o d ++ visits_of p e → IfSome o (λ _. HasOnlyLocations d)
  first_located None p d e is = tt
  first_located (Some c) p d e is = arrived_located 0 (visit_of c d) (ap (λ (xs : List Visit). slice_get xs 0) is)

  second_located : (o p : Option Course) (d e : Known) → arrivals_at parts f b i ≡ visits_of o d ++ visits_of p e → IfSome p (λ _. HasOnlyLocations e)
  second_located o None d e is = tt
  second_located None (Some c) d e is = arrived_located 0 (visit_of c e) (ap (λ (xs : List Visit). slice_get xs 0) is)
  second_located (Some k) (Some c) d e is = arrived_located 1 (visit_of c e) (ap (λ (xs : List Visit). slice_get xs 1) is)

  pub located : (cs : Courses) (d e : Known) → arrivals_at parts f b i ≡ listed cs d e → IfSome cs.first (λ _. HasOnlyLocations d) × IfSome cs.second (λ _. HasOnlyLocations e)
  located cs d e is = (first_located cs.first cs.second d e is, second_located cs.first cs.second d e is)
