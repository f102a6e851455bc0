-- An access whose address is the sum of its operands is a word.
use Rattle.std.proofs.Common.{◌≡◌, ℕ, ◌%◌, ◌^◌, ◌<◌, Bool, true, false, List, slice_index, refl, sym, ap, ◌∙◌, subst, arith}
use Rattle.std.specs.Prelude.{◌==◌, ◌&&◌, not, if◌then◌else◌}
use Rattle.v8_formats.specs.declared.instr.Operand.{Operand}
use Rattle.v8_formats.specs.declared.instr.Operand.TheVariants.{Register, Immediate}
use Rattle.v8_meaning.specs.declared.operation.MemoryOperand.{MemoryOperand}
use Rattle.v8_meaning.specs.declared.operation.Operation.TheVariants as operation
use Rattle.v8_meaning.specs.declared.operation.Transfer.{Transfer}
use Rattle.v8_meaning.specs.Admitted.{is_admitted}
use Rattle.v8_meaning.specs.Operands.{address, second, sum_address}
use Rattle.v8_meaning.specs.Spaces.{is_normal}
use Rattle.v8_meaning.specs.Transfers.{bytes_in, size_of, splits_pair}
use Rattle.sbx_image.specs.Parts.{Parts}
use Rattle.sbx_flat.specs.Effects.{slot_of, transfers_in}
use Rattle.sbx_flat.specs.States.{State, Goes, Fails, Turn, reg}
use Rattle.sbx_flat.specs.declared.path.Wrong.TheVariants.{Misaligned}
use Rattle.sbx_flat.specs.WellFormed.{IsWellFormed}
use Rattle.native_lang.specs.declared.expr.Expr.{Expr}
use Rattle.native_lang.specs.declared.stmt.Stmt.{Stmt}
use Rattle.native_lang.specs.Values.{value}
use Rattle.native_lang.specs.World.{World}
use Rattle.native_results.specs.Operands.{IsOperand}
use Rattle.native_results.specs.ShowsState.{ShowsState, fresh_words}
use Rattle.native_results.specs.Words.{Adds}
use Rattle.native_words.specs.Accesses.{AddsAccess}
use Rattle.native_words.proofs.Storing.{word_below, word_of}
use Rattle.native_words.proofs.Framing.{performed}

-- ---- addresses

pub second_shown : (parts : Parts) (w : World) (s : State) (o : Operand) → IsOperand o → ShowsState parts w s → second (slice_index w.variables) o ≡ second (reg s) o
second_shown parts w s (Register r) is h = word_of parts w s r is h
second_shown parts w s (Immediate n) is h = refl

-- the value of a sum is the flat machine's address
pub sum_shown : (rs1 : ℕ) (o : Operand) (e : Expr) → rs1 < 32 → IsOperand o → ((v : List ℕ) → slice_index v rs1 < 2 ^ 32 → value v e ≡ address (slice_index v) rs1 o) →
    (parts : Parts) (w : World) (s : State) → IsWellFormed parts.stack_pages s → ShowsState parts w s → value w.variables e ≡ address (reg s) rs1 o
sum_shown rs1 o e low is holds parts w s well h =
    let same = word_of parts w s rs1 low h in
    let small = word_below parts.stack_pages s rs1 well in
    holds w.variables (omega (arith, same, small)) ∙ ap (λ n. sum_address n (second (slice_index w.variables) o)) same ∙ ap (sum_address (reg s rs1)) (second_shown parts w s o is h)

-- ---- words

pair_by : (a b : Bool) → (a && not b) ≡ true → b ≡ false
pair_by true true e = absurd cc
pair_by true false e = refl
pair_by false b e = absurd cc

pair_kept : (t : Transfer) (m : MemoryOperand) → is_admitted (operation.Transfer t m) ≡ true → splits_pair (size_of t) m.rd ≡ false
unfolding is_admitted
pair_kept t m e = pair_by (is_normal m.space) (splits_pair (size_of t) m.rd) e

whole_by : (b : Bool) (t : Turn) (next : State) → (if b then t else Fails Misaligned) ≡ Goes next → t ≡ Goes next
whole_by true t next e = e
whole_by false t next e = absurd cc

pub access_word : (t : Transfer) (m : MemoryOperand) (e : Expr) → m.rs1 < 32 → IsOperand m.operand2 →
    ((v : List ℕ) → slice_index v m.rs1 < 2 ^ 32 → value v e ≡ address (slice_index v) m.rs1 m.operand2) → (old new : List Stmt) → AddsAccess t m.rd e old new → Adds (operation.Transfer t m) old new
access_word t m e low is holds old new adds = record {
  made = adds.made;
  behind = adds.behind;
  is = record {
    comes = λ windows parts s next w well shows g.
        let p = performed parts (fresh_words w) (operation.Transfer t m) s next g in
        let a : ℕ = address (reg s) m.rs1 m.operand2 in
        let goes = whole_by (a % bytes_in (size_of t) == 0) (transfers_in parts t m.rd a (slot_of t s a) s) next p.1 in
        let came = adds.is.comes windows parts s next w a well shows (pair_kept t m p.0) (sum_shown m.rs1 m.operand2 e low is holds parts w s well shows) goes in
        record { new = came.new; done = came.done; shows = came.shows; counts = came.counts; kept = came.kept };
  };
}

pub access_as : (t one : Transfer) (m : MemoryOperand) (e : Expr) → t ≡ one → m.rs1 < 32 → IsOperand m.operand2 →
    ((v : List ℕ) → slice_index v m.rs1 < 2 ^ 32 → value v e ≡ address (slice_index v) m.rs1 m.operand2) → (old new : List Stmt) → AddsAccess one m.rd e old new → Adds (operation.Transfer t m) old new
access_as t one m e same low is holds old new adds = access_word t m e low is holds old new (subst (λ x. AddsAccess x m.rd e old new) (sym same) adds)
