-- What holds of each part of a list holds of the whole.
use Rattle.std.proofs.Common.{ℕ, zero, suc, List, [], ◌∷◌, ◌++◌, map, Option, None, Some, IfSome}
use Rattle.std.specs.Prelude.{replicate}
use Rattle.std.specs.List.{AllByRecursion, flat_map}

pub whatever : {A : Type 0} (o : Option A) → IfSome o (λ _. Unit {0})
whatever None = tt
whatever (Some x) = tt

pub append_all : {A : Type 0} (P : A → Type 0) (xs ys : List A) → AllByRecursion P xs → AllByRecursion P ys → AllByRecursion P (xs ++ ys)
append_all P [] ys h k = k
append_all P (x ∷ xs) ys h k = (h.0, append_all P xs ys h.1 k)

pub flat_all : {A B : Type 0} (P : B → Type 0) (f : A → List B) → ((x : A) → AllByRecursion P (f x)) → (xs : List A) → AllByRecursion P (flat_map f xs)
flat_all P f each [] = tt
flat_all P f each (x ∷ xs) = append_all P (f x) (flat_map f xs) (each x) (flat_all P f each xs)

pub copies_all : {A : Type 0} (P : A → Type 0) (x : A) → P x → (n : ℕ) → AllByRecursion P (replicate n x)
copies_all P x h zero = tt
copies_all P x h (suc n) = (h, copies_all P x h n)

pub map_all : {A B : Type 0} (P : B → Type 0) (f : A → B) → ((x : A) → P (f x)) → (xs : List A) → AllByRecursion P (map f xs)
map_all P f each [] = tt
map_all P f each (x ∷ xs) = (each x, map_all P f each xs)
