-- Statements one after another.
use Rattle.std.specs.Prelude.{ℕ, List, [], ◌∷◌, Option, Some, None}
use Rattle.native_lang.specs.declared.stmt.Stmt.{Stmt}
use Rattle.native_lang.specs.World.{World, does}

abbrev pub then_on : Option World → (World → Option World) → Option World
then_on None next = None
then_on (Some w) next = next w

abbrev pub does_all : ℕ → List Stmt → World → Option World
does_all n [] w = Some w
does_all n (stmt ∷ rest) w = then_on (does n stmt w) (does_all n rest)
