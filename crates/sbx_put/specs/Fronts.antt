-- What a writer has of bytes that were put out.
use Rattle.std.specs.Prelude.{◌≡◌, ℕ, List, ◌++◌, Option}
use Rattle.std.specs.Io.KnownBytes.{Appends}

-- these bytes are the first of those
abbrev pub Begins : List ℕ → List ℕ → Type 0
Begins front all = (rest : List ℕ) × (all ≡ front ++ rest)

-- the known bytes of a writer grew by bytes of which this holds
abbrev pub Wrote : Option (List ℕ) → Option (List ℕ) → (List ℕ → Type 0) → Type 0
Wrote old new P = (bytes : List ℕ) × P bytes × Appends old new bytes

-- they grew by the first of these bytes
abbrev pub WroteSome : Option (List ℕ) → Option (List ℕ) → List ℕ → Type 0
WroteSome old new all = (front : List ℕ) × (rest : List ℕ) × (all ≡ front ++ rest) × Appends old new front
