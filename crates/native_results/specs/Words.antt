-- What the statements of one word do: the law of one word.
use Rattle.std.specs.Prelude.{◌≡◌, ℕ, ◌<◌, ◌≤◌, Bool, true, false, List, ◌++◌, Some, slice_index}
use Rattle.v8_meaning.specs.declared.operation.Operation.{Operation}
use Rattle.v8_meaning.specs.declared.operation.Operation.TheVariants.{BranchOnCondition, Call, JumpAndLink, Restore}
use Rattle.v8_meaning.specs.declared.operation.Operation.TheVariants.{Save, TrapOnCondition}
use Rattle.sbx_image.specs.Parts.{Parts}
use Rattle.sbx_flat.specs.Effects.{performs}
use Rattle.sbx_flat.specs.States.{State, Goes}
use Rattle.sbx_flat.specs.WellFormed.{IsWellFormed}
use Rattle.sbx_flat.specs.declared.path.Traffic.{Traffic}
use Rattle.native_lang.specs.declared.stmt.Stmt.{Stmt}
use Rattle.native_lang.specs.Counts.{enters, leaves}
use Rattle.native_lang.specs.World.{World}
use Rattle.native_results.specs.DoesAll.{does_all}
use Rattle.native_results.specs.ShowsState.{ShowsState, fresh_words}

-- no transfer of control and no service
abbrev pub is_straight : Operation → Bool
is_straight (Call displacement) = false
is_straight (BranchOnCondition b) = false
is_straight (JumpAndLink f) = false
is_straight (TrapOnCondition t) = false
is_straight _ = true

-- SAVE and RESTORE count themselves, on a machine with so many windows; other words are counted where a block counts them
abbrev pub counts_after : ℕ → Operation → Traffic → Traffic
counts_after windows (Save f) counts = enters windows counts
counts_after windows (Restore f) counts = leaves counts
counts_after windows _ counts = counts

-- Where they come to: a world that shows the next state.
pub record ComesTo (windows : ℕ) (parts : Parts) (op : Operation) (made : List Stmt) (w : World) (next : State) : Type 0 where
  pub new : World
  pub done : does_all windows made w ≡ Some new
  pub shows : ShowsState parts new next
  pub counts : new.counts ≡ counts_after windows op w.counts
  -- a delay slot is made between TAKEN or CALLED being set and being asked
  pub kept : (x : ℕ) → 43 ≤ x → x < 45 → slice_index new.variables x ≡ slice_index w.variables x

-- Made from a world that shows a state, they come to one that shows what the operation does to it; of a state that fails
-- nothing is said, since no run of an accepted image has one.
pub record IsWordOf (op : Operation) (made : List Stmt) : Type 0 where
  pub comes : (windows : ℕ) (parts : Parts) (s next : State) (w : World) → IsWellFormed parts.stack_pages s →
      ShowsState parts w s → performs parts (fresh_words w) op s ≡ Goes next → ComesTo windows parts op made w next

-- The statements of a word stand behind those that were there.
pub record Adds (op : Operation) (old new : List Stmt) : Type 0 where
  pub made : List Stmt
  pub behind : new ≡ old ++ made
  pub is : IsWordOf op made
