-- Two regions, of which the first may be read alone.
use Rattle.std.specs.Prelude.{ℕ, List, [], ◌∷◌, true, false}
use Rattle.sbx_image.specs.Region.{Region}

abbrev pub pair : List ℕ → List ℕ → List Region
pair a b = record { bytes = a; writable = false } ∷ record { bytes = b; writable = true } ∷ []
