-- The ways on which a word runs, as the pass keeps them: two at most, what is known on each standing in a state of its
-- own.
use Rattle.std.specs.Prelude.{◌≡◌, ℕ, ◌<◌, Bool, true, false, not, List, [], ◌∷◌, ◌++◌, length, map, Option, Some, None}
use Rattle.std.specs.Prelude.{IfSome}
use Rattle.v8_meaning.specs.declared.operation.Operation.{Operation}
use Rattle.v8_meaning.specs.declared.operation.Operation.TheVariants.{BranchOnCondition}
use Rattle.sbx_image.specs.Parts.{Parts}
use Rattle.sbx_rules.specs.Known.{Known}
use Rattle.sbx_image.specs.Order.{function_at}
use Rattle.sbx_rules.specs.Rules.{has_cells, leads_to}
use Rattle.sbx_rules.specs.Ways.{Visit, Way, after_visit, cells_at, visits_at}
use Rattle.sbx_rules.specs.Ways as ways
use Rattle.sbx_known.specs.declared.courses.Course.{Course}
use Rattle.sbx_known.specs.declared.courses.Courses.{Courses}
use Rattle.sbx_known.specs.declared.courses.Going.{Going}
use Rattle.sbx_known.specs.declared.courses.Going.TheVariants.{Next, To, Back, Over, Past, Astray}

abbrev pub way_of : Going → Way
way_of Next = ways.Next
way_of (To t) = ways.To t
way_of Back = ways.Back
way_of Over = ways.Over
way_of Past = ways.Past
way_of Astray = ways.Astray

abbrev pub visit_of : Course → Known → Visit
visit_of c d = record { known = d; way = way_of c.going; annulled = c.annulled }

abbrev pub visits_of : Option Course → Known → List Visit
visits_of None d = []
visits_of (Some c) d = visit_of c d ∷ []

-- the ways, where d is known on the first and e on the second
abbrev pub listed : Courses → Known → Known → List Visit
listed cs d e = visits_of cs.first d ++ visits_of cs.second e

-- the ways of a word with what is known after it on each
abbrev pub arrived : Parts → ℕ → ℕ → ℕ → Visit → Visit
arrived parts f b i v = record { known = after_visit parts f b i v; way = v.way; annulled = v.annulled }

abbrev pub arrivals_at : Parts → ℕ → ℕ → ℕ → List Visit
arrivals_at parts f b i = map (arrived parts f b i) (visits_at parts f b i)

-- a word runs on the way
abbrev pub runs : Option Course → Bool
runs None = false
runs (Some c) = not c.annulled

-- what is asked of a way, where d is known on it
abbrev pub is_any : (Visit → Bool) → Option Course → Known → Bool
is_any test None d = false
is_any test (Some c) d = test (visit_of c d)

-- an edge leads to a block of the function
abbrev pub IsWell : Parts → ℕ → Going → Type 0
IsWell parts f (To t) = t < length (function_at parts f).blocks
IsWell parts f _ = Unit {0}

abbrev pub AreWell : Parts → ℕ → Courses → Type 0
AreWell parts f cs = IfSome cs.first (λ c. IsWell parts f c.going) × IfSome cs.second (λ c. IsWell parts f c.going)

-- an edge to a block that begins with more than is known
abbrev pub misses_at : Parts → ℕ → Visit → Bool
misses_at parts f v = leads_to (λ t. not (has_cells v.known (cells_at parts f t))) v.way

abbrev pub is_branch : Operation → Bool
is_branch (BranchOnCondition c) = true
is_branch _ = false

-- one way, on which the word isn't annulled
pub record IsStraight (cs : Courses) : Type 0 where
  pub going : Going
  pub only : cs ≡ record { first = Some (record { going = going; annulled = false }); second = None }
