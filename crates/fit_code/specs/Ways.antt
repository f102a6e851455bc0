use Rattle.std.specs.Prelude.{ℕ, List, Option, Some, None, [], ◌∷◌}
use Rattle.fit_code.specs.declared.code.End.{End}
use Rattle.fit_code.specs.declared.code.End.TheVariants.{Jump, Branch, Return, Exit}

-- where control may go behind a block's end: where a branch is taken, and where it isn't
abbrev pub ways_of : End → List (Option ℕ)
ways_of (Jump to) = Some to ∷ None ∷ []
ways_of (Branch cond taken next) = Some taken ∷ Some next ∷ []
ways_of (Return fields) = None ∷ None ∷ []
ways_of Exit = None ∷ None ∷ []
