-- RAM that is 0, of how a vector of copies is made.
use Rattle.std.proofs.Common.{◌≡◌, ℕ, List, [], ◌∷◌, length, inl, inr}
use Rattle.std.specs.Prelude.{◌⊎◌}
use Rattle.std.specs.List.{AllByRecursion, AllClonesOf}
use Rattle.std.proofs.lemmas.List.Elements.{All-from_recursion}
use Rattle.v8_map.specs.declared.TheConstants.{RAM}
use Rattle.inspect_start.specs.Files.{IsBlank}

either : (clones : ℕ → ℕ → Type 0) → ((y : ℕ) → clones 0 y → y ≡ 0) → (y : ℕ) → ((y ≡ 0) ⊎ clones 0 y) → y ≡ 0
either clones same y (inl e) = e
either clones same y (inr e) = same y e

each_zero : (clones : ℕ → ℕ → Type 0) → ((y : ℕ) → clones 0 y → y ≡ 0) → (bytes : List ℕ) → AllClonesOf clones 0 bytes → AllByRecursion (λ b. b ≡ 0) bytes
each_zero clones same [] h = tt
each_zero clones same (b ∷ bytes) h = (either clones same b h.0, each_zero clones same bytes h.1)

pub blank_is : (clones : ℕ → ℕ → Type 0) → ((y : ℕ) → clones 0 y → y ≡ 0) → (bytes : List ℕ) → AllClonesOf clones 0 bytes → length bytes ≡ RAM → IsBlank bytes
blank_is clones same bytes h size =
    record { size = size; zeros = All-from_recursion (λ b. b ≡ 0) bytes (each_zero clones same bytes h) }
