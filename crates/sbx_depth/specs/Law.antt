-- How deep calls go: what a depth for each function says of an image, and what it promises of the image's runs.
use Rattle.std.specs.Prelude.{◌≡◌, ℕ, ◌+◌, ◌≤◌, true, List, length, Some}
use Rattle.sbx_image.specs.Parts.{Parts}
use Rattle.sbx_image.specs.Order.{function_at}
use Rattle.sbx_flat.specs.declared.path.Place.{Place}
use Rattle.sbx_flat.specs.Runs.{AreBytes, Behaves, FlatRun}
use Rattle.sbx_flat.specs.States.{State}
use Rattle.sbx_flat.specs.Traffic.{traffic}
use Rattle.sbx_rules.specs.Operations.{is_framed}
use Rattle.sbx_rules.specs.Places.{IsPlace, callee_at}
use Rattle.sbx_rules.specs.Verdicts.{Checked}
use Rattle.sbx_sound.specs.Law.{IsFormed}

-- A depth for each function, by its number: a framed function's is at least 1, which is said at its entry, and at each
-- CALL the caller's is at least 1 plus the callee's, a leaf's too.
pub record Deep (parts : Parts) (depth : ℕ → ℕ) : Type 0 where
  pub framed : (f : ℕ) → IsPlace parts f 0 0 → is_framed (function_at parts f).kind ≡ true → 1 ≤ depth f
  pub calls : (f b i g : ℕ) → IsPlace parts f b i → callee_at parts f b i ≡ Some g → depth g + 1 ≤ depth f

-- Whatever state a run of a checked image reaches, so many frames at most are pushed above the first one.
abbrev pub DepthBoundsFrames : Type 0
DepthBoundsFrames =
    (parts : Parts) (depth : ℕ → ℕ) → IsFormed parts → Checked parts → Deep parts depth
    → (input : List ℕ) (path : List Place) (s : State) → AreBytes input → FlatRun parts input path s
    → length s.registers.older ≤ depth 0

-- With a window for each of these frames, one for the first and one that is kept free, none overflows and none
-- underflows.
abbrev pub DepthBoundsTraffic : Type 0
DepthBoundsTraffic =
    (parts : Parts) (depth : ℕ → ℕ) → IsFormed parts → Checked parts → Deep parts depth
    → (n : ℕ) → depth 0 + 2 ≤ n → (input : List ℕ) (path : List Place) (s : State) → AreBytes input →
    FlatRun parts input path s
    → ((traffic parts n path).overflows ≡ 0) × ((traffic parts n path).underflows ≡ 0)

-- The same of the path that all finished runs on an input have in common.
abbrev pub DepthBoundsAnswers : Type 0
DepthBoundsAnswers =
    (parts : Parts) (depth : ℕ → ℕ) → IsFormed parts → Checked parts → Deep parts depth
    → (n : ℕ) → depth 0 + 2 ≤ n → (input output : List ℕ) (status : ℕ) (path : List Place) → AreBytes input → Behaves parts input output status path
    → ((traffic parts n path).overflows ≡ 0) × ((traffic parts n path).underflows ≡ 0)

-- ---- the depths that an image declares

abbrev pub declared : Parts → ℕ → ℕ
declared parts f = (function_at parts f).depth

-- In an image of version 3 that breaks no rule they hold of its calls.
abbrev pub DeclaredDepthsHold : Type 0
DeclaredDepthsHold = (parts : Parts) → Checked parts → parts.version ≡ 3 → Deep parts (declared parts)

-- An image of version 3 needs no more windows than two beyond the depth of its first function: no run that ends
-- overflows one or underflows one where there are so many, or more.
abbrev pub DepthIsEnough : Parts → Type 0
DepthIsEnough parts =
    parts.version ≡ 3 → (n : ℕ) → declared parts 0 + 2 ≤ n → (input output : List ℕ) (status : ℕ) (path : List Place) →
    AreBytes input → Behaves parts input output status path
    → ((traffic parts n path).overflows ≡ 0) × ((traffic parts n path).underflows ≡ 0)

abbrev pub DeclaredDepthIsEnough : Type 0
DeclaredDepthIsEnough = (parts : Parts) → IsFormed parts → Checked parts → DepthIsEnough parts
