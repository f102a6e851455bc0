-- Lists that are empty.
use Rattle.std.proofs.Common.{◌≡◌, List, [], ◌∷◌, ◌++◌, map, refl}

pub cons_nil : {A B : Type 0} {x : A} {xs : List A} → x ∷ xs ≡ [] → B
cons_nil h = absurd (cc)

pub nil_left : {A : Type 0} (xs ys : List A) → xs ++ ys ≡ [] → xs ≡ []
nil_left [] ys h = refl
nil_left (x ∷ xs) ys h = cons_nil h

pub nil_right : {A : Type 0} (xs ys : List A) → xs ++ ys ≡ [] → ys ≡ []
nil_right [] ys h = h
nil_right (x ∷ xs) ys h = cons_nil h

pub nil_map : {A B : Type 0} (f : A → B) (xs : List A) → map f xs ≡ [] → xs ≡ []
nil_map f [] h = refl
nil_map f (x ∷ xs) h = cons_nil h
