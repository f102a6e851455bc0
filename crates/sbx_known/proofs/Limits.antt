-- What a function of an image keeps of the format's limits, where a sum or a table needs it.
use Rattle.std.proofs.Common.{◌≡◌, ℕ, ◌+◌, ◌-◌, ◌*◌, ◌<◌, ◌≤◌, List, [], ◌∷◌, length, zero, suc, Ok, arith}
use Rattle.std.specs.Prelude.{slice_get}
use Rattle.std.specs.List.{AllByRecursion}
use Rattle.sbx_image.specs.Next.TheVariants.{Exactly}
use Rattle.sbx_image.specs.Function.{Function}
use Rattle.sbx_image.specs.Parts.{Parts}
use Rattle.sbx_image.specs.Rules.{FunctionsSoFar, code_start, function_keeps, parts_keep}
use Rattle.sbx_image.proofs.Fields.{is_between}
use Rattle.sbx_image.proofs.Limits.{each_all, function_kept, parts_kept}
use Rattle.sbx_image.specs.Order.{function_at, or_function}

-- the limits of a function that keeps the format
pub record IsLimited (f : Function) : Type 0 where
  pub params : length f.params ≤ 6
  pub budget : f.budget ≤ 1099511627775
  pub blocks : length f.blocks ≤ 4096

limited : (version end : ℕ) (place : FunctionsSoFar) (f : Function) (state : FunctionsSoFar) → function_keeps version end place f ≡ Ok state → IsLimited f
limited version end place f state e =
    let k = function_kept version end place f state e in
    record {
      params = (is_between 0 6 (length f.params) k.param_count).1;
      budget = (is_between 0 1099511627775 f.budget k.budget).1;
      blocks = let most = (is_between 1 (4096 - place.1) (length f.blocks) k.block_count).1 in omega (arith, most);
    }

at : (fs : List Function) (n : ℕ) → AllByRecursion IsLimited fs → n < length fs → IsLimited (or_function (slice_get fs n))
at [] n all within = absurd (omega arith)
at (f ∷ fs) zero all within = all.0
at (f ∷ fs) (suc n) all within = at fs n all.1 (omega arith)

pub function_limited : (parts : Parts) → parts_keep parts ≡ Ok tt → (f : ℕ) → f < length parts.functions → IsLimited (function_at parts f)
function_limited parts keeps f within =
    let k = parts_kept parts keeps in
    let end = code_start + 4 * length parts.words in
    at parts.functions f (each_all (function_keeps parts.version end) IsLimited (limited parts.version end) parts.functions (Exactly code_start, 0) k.last k.functions) within
