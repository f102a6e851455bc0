-- Steps that did not fail, taken apart.
use Rattle.std.proofs.Common.{◌≡◌, ℕ, ◌≤◌, Bool, true, false, ◌&&◌, Result, Ok, Err, refl}
use Rattle.std.proofs.lemmas.Bool.{leb-true}
use Rattle.sbx_parts.specs.declared.fault.ImageFault.{ImageFault}
use Rattle.sbx_parts.specs.Rules.{◌>>=◌, wants, between}

-- the value of a step that did not fail
pub bind_ok : {A B : Type 0} (r : Result A ImageFault) (f : A → Result B ImageFault) (y : B) → (r >>= f) ≡ Ok y → (x : A) × (r ≡ Ok x) × (f x ≡ Ok y)
bind_ok (Ok x) f y e = (x, refl, e)
bind_ok (Err d) f y e = absurd cc

-- a test that did not fail
pub wanted : {B : Type 0} (b : Bool) (d : ImageFault) (f : Unit {0} → Result B ImageFault) (y : B) → (wants b d >>= f) ≡ Ok y → (b ≡ true) × (f tt ≡ Ok y)
wanted true d f y e = (refl, e)
wanted false d f y e = absurd cc

pub wanted_last : (b : Bool) (d : ImageFault) → wants b d ≡ Ok tt → b ≡ true
wanted_last true d e = refl
wanted_last false d e = absurd cc

pub wants_true : (b : Bool) (d : ImageFault) → b ≡ true → wants b d ≡ Ok tt
wants_true true d e = refl
wants_true false d e = absurd cc

pub both_true : (a b : Bool) → (a && b) ≡ true → (a ≡ true) × (b ≡ true)
both_true true b e = (refl, e)
both_true false b e = absurd cc

pub is_between : (low high n : ℕ) → between low high n ≡ true → (low ≤ n) × (n ≤ high)
is_between low high n e = let h = both_true _ _ e in (leb-true _ _ h.0, leb-true _ _ h.1)

abbrev done : {A : Type 0} → A → Result A ImageFault
done x = Ok x

pub ok_is : {A : Type 0} (x y : A) → done x ≡ done y → x ≡ y
ok_is x y e = cc
