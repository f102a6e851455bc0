-- What the statements of a load, a store or an exchange do.
use Rattle.std.specs.Prelude.{◌≡◌, ℕ, ◌<◌, ◌≤◌, ◌==◌, false, List, ◌++◌, Some, if◌then◌else◌, slice_index}
use Rattle.v8_word.specs.declared.Size.{Size}
use Rattle.v8_word.specs.declared.Size.TheVariants as sizes
use Rattle.v8_meaning.specs.declared.operation.Loading.{Loading}
use Rattle.v8_meaning.specs.declared.operation.Loading.TheVariants.{SignedByte, SignedHalf}
use Rattle.v8_meaning.specs.declared.operation.Transfer.{Transfer}
use Rattle.v8_meaning.specs.Transfers.{size_of, splits_pair}
use Rattle.sbx_image.specs.Parts.{Parts}
use Rattle.sbx_flat.specs.Effects.{slot_of, transfers_in}
use Rattle.sbx_flat.specs.States.{State, Goes}
use Rattle.sbx_flat.specs.WellFormed.{IsWellFormed}
use Rattle.native_lang.specs.declared.expr.Expr.{Expr}
use Rattle.native_lang.specs.declared.stmt.NumberWidth.{NumberWidth}
use Rattle.native_lang.specs.declared.stmt.NumberWidth.TheVariants.{Byte, Half, Word}
use Rattle.native_lang.specs.declared.stmt.Stmt.{Stmt}
use Rattle.native_lang.specs.Values.{value}
use Rattle.native_lang.specs.World.{World}
use Rattle.native_results.specs.DoesAll.{does_all}
use Rattle.native_results.specs.ShowsState.{ShowsState}

-- Where they come to: a world that shows the next state, with the counts as they were, and TAKEN and CALLED.
pub record GoesTo (windows : ℕ) (parts : Parts) (made : List Stmt) (w : World) (next : State) : Type 0 where
  pub new : World
  pub done : does_all windows made w ≡ Some new
  pub shows : ShowsState parts new next
  pub counts : new.counts ≡ w.counts
  pub kept : (x : ℕ) → 43 ≤ x → x < 45 → slice_index new.variables x ≡ slice_index w.variables x

-- Made from a world that shows a state, they come to one that shows what the access does to it at this address; two
-- words come in to an even register and the next.
pub record IsAccess (t : Transfer) (rd : ℕ) (address : Expr) (made : List Stmt) : Type 0 where
  pub comes : (windows : ℕ) (parts : Parts) (s next : State) (w : World) (a : ℕ) → IsWellFormed parts.stack_pages s →
      ShowsState parts w s → splits_pair (size_of t) rd ≡ false → value w.variables address ≡ a →
      transfers_in parts t rd a (slot_of t s a) s ≡ Goes next → GoesTo windows parts made w next

-- The statements of an access stand behind those that were there.
pub record AddsAccess (t : Transfer) (rd : ℕ) (address : Expr) (old new : List Stmt) : Type 0 where
  pub made : List Stmt
  pub behind : new ≡ old ++ made
  pub is : IsAccess t rd address made

-- the variable of a register that is loaded: what is loaded for %g0 has one of its own
abbrev pub variable_for : ℕ → ℕ
variable_for rd = if rd == 0 then 45 else rd

-- a number of this width has its sign in the highest bit, once so many are above it
abbrev pub HasSign : Loading → NumberWidth → ℕ → Type 0
HasSign SignedByte Byte above = above ≡ 24
HasSign SignedHalf Half above = above ≡ 16
HasSign _ width above = ⊥

-- a number of a register's low bytes has this width
abbrev pub HasWidth : Size → NumberWidth → Type 0
HasWidth sizes.Byte Byte = Unit
HasWidth sizes.Half Half = Unit
HasWidth sizes.Word Word = Unit
HasWidth _ width = ⊥
