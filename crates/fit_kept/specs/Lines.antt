-- What of a source stays where annotations are put into it, and what a source is without them.
use Rattle.std.specs.Prelude.{◌≡◌, ◌⊎◌, ℕ, ◌-◌, ◌*◌, Bool, true, false, if◌then◌else◌, List, [], ◌∷◌, ◌++◌, drop}
use Rattle.std.specs.Prelude.{length, slice_get, Option, Some, Ok, Err}
use Rattle.sbx_text.specs.declared.Token.{Token}
use Rattle.sbx_text.specs.Tokens.{tokens_of}
use Rattle.v8_syntax.specs.Statements.{bytes_between}
use Rattle.sbx_directives.specs.declared.directive.Directive.TheVariants as directives
use Rattle.sbx_directives.specs.declared.directive.Statement.{Statement}
use Rattle.sbx_directives.specs.declared.directive.Statement.TheVariants as statements
use Rattle.sbx_directives.specs.Directives.{label_count, statement_of}

-- ---- lines

-- a `.param`, `.result`, `.depth`, `.cell`, `.fuel` or `.term`
abbrev pub annotates : Statement → Bool
annotates s = elim s [
  | statements.Directive (directives.Param r) ↦ true
  | statements.Directive (directives.Result r) ↦ true
  | statements.Directive (directives.Depth n) ↦ true
  | statements.Directive (directives.Cell c) ↦ true
  | statements.Directive (directives.Fuel z) ↦ true
  | statements.Directive (directives.Term t) ↦ true
  | _ ↦ false
]

-- An annotation alone on its line: with a label before it the line's tokens begin none.
unfoldable pub is_annotation : List ℕ → Bool
is_annotation line = elim (tokens_of line) [ Ok ts ↦ annotates (statement_of line ts) | Err f ↦ false ]

-- a `.function`
abbrev pub declares_function : Statement → Bool
declares_function s =
    elim s [ statements.Directive (directives.Function name kind frame room budget) ↦ true | _ ↦ false ]

-- a line with 0 in the place of two of its tokens
abbrev pub with_zeros : List ℕ → Option Token → Option Token → List ℕ
with_zeros line (Some a) (Some b) =
    bytes_between line 0 a.start ++ (48 ∷ []) ++ bytes_between line a.stop b.start ++ (48 ∷ [])
    ++ bytes_between line b.stop (length line)
with_zeros line _ _ = line

-- A line without what is found for a function: of a `.function` with 0 for its stack room and its budget, which is its
-- last token and has a comma before it; any other line as it is.
unfoldable pub bare : List ℕ → List ℕ
bare line = elim (tokens_of line) [
  | Ok ts ↦
      if declares_function (statement_of line (drop (2 * label_count line ts) ts))
      then with_zeros line (slice_get ts (length ts - 3)) (slice_get ts (length ts - 1))
      else line
  | Err f ↦ line
]

-- ---- sources

-- a line with other numbers for a function's stack room and budget
pub record Fills (old new : List ℕ) : Type 0 where
  pub old_stays : is_annotation old ≡ false
  pub new_stays : is_annotation new ≡ false
  pub same : bare old ≡ bare new

abbrev pub IsKept : List ℕ → List ℕ → Type 0
IsKept old new = (old ≡ new) ⊎ Fills old new

-- Lines, and what they are annotated: each of them stands there, in their order, and all else are annotations.
unfoldable pub IsAnnotated : List (List ℕ) → List (List ℕ) → Type 0
IsAnnotated [] [] = Unit {0}
IsAnnotated (l ∷ ls) [] = ⊥
IsAnnotated [] (m ∷ ms) = (is_annotation m ≡ true) × IsAnnotated [] ms
IsAnnotated (l ∷ ls) (m ∷ ms) = (IsKept l m × IsAnnotated ls ms) ⊎ ((is_annotation m ≡ true) × IsAnnotated (l ∷ ls) ms)

-- lines without annotations
unfoldable pub without : List (List ℕ) → List (List ℕ)
without [] = []
without (l ∷ ls) = if is_annotation l then without ls else bare l ∷ without ls

-- A line takes from some lines all but others: put before what the others are annotated, it is what all are annotated.
unfoldable pub Takes : List (List ℕ) → List ℕ → List (List ℕ) → Type 0
Takes ls m others = (ms : List (List ℕ)) → IsAnnotated others ms → IsAnnotated ls (m ∷ ms)
