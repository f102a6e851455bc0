-- What is told of lines by themselves are faults of the source.
use Rattle.std.specs.Prelude.{◌≡◌, ℕ, List, [], ◌∷◌, ◌++◌, reverse}
use Rattle.sbx_asm.specs.declared.fault.AsmFault.{AsmFault}
use Rattle.sbx_asm.specs.Items.{Item, each}
use Rattle.sbx_asm.specs.Addresses.{labels_at, values_of}
use Rattle.sbx_asm.specs.Rules.{duplicates, faults_of}
use Rattle.inspect_check.specs.Alone.{found_at}

-- one of some
abbrev pub IsAmong : {A : Type 0} → A → List A → Type 0
IsAmong {A = A} x xs = (front : List A) × (rest : List A) × (xs ≡ front ++ x ∷ rest)

-- What is told of a line by itself is one of the faults of the lines that the least one is told of.
abbrev pub FoundFaultsAreFaults : Type 0
FoundFaultsAreFaults = (line : ℕ) (front after : List Item) (i : Item) (f : AsmFault) →
    let items : List Item = front ++ i ∷ after in
    found_at (values_of items) (duplicates [] (each labels_at [] items)) line (reverse front) i after ≡ f ∷ [] →
    IsAmong f (faults_of items)
