-- What a vector has that was empty, once something was written to it.
use Rattle.std.proofs.Common.{ℕ, List, [], Some, subst, sym}
use Rattle.sbx_put.specs.Fronts.{Wrote}

-- it has bytes of which that holds
pub wrote_all : (P : List ℕ → Type 0) (items : List ℕ) → Wrote (Some []) (Some items) P → P items
wrote_all P items (bytes, is, same) = subst P (sym same) is
