-- What a port gives.
use Rattle.std.specs.Prelude.{ℕ, List, [], ◌∷◌, Option, Some, None}

-- the next byte of an input, none at its end; and what is left
abbrev pub next_byte : List ℕ → Option ℕ × List ℕ
next_byte [] = (None, [])
next_byte (byte ∷ left) = (Some byte, left)
