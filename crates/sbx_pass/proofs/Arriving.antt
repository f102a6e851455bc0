-- Tests of a word's ways by what is known after it are tests of the ways with what is known then.
use Rattle.std.proofs.Common.{◌≡◌, Bool, List, [], ◌∷◌, map, refl, ap}
use Rattle.std.specs.Prelude.{◌||◌}
use Rattle.std.specs.List.{list_any}
use Rattle.sbx_rules.specs.Ways.{Visit}

pub any_mapped : (test : Visit → Bool) (g : Visit → Visit) (xs : List Visit) → list_any (λ v. test (g v)) xs ≡ list_any test (map g xs)
any_mapped test g [] = refl
any_mapped test g (x ∷ xs) = ap (λ b. test (g x) || b) (any_mapped test g xs)
