-- SAVE and RESTORE of the statements that were added one after another.
use Rattle.std.proofs.Common.{◌≡◌, ℕ, ◌^◌, ◌<◌, List, [], ◌∷◌, ◌++◌, slice_index}
use Rattle.v8_formats.specs.declared.instr.Three.{Three}
use Rattle.v8_meaning.specs.Operands.{address}
use Rattle.v8_meaning.specs.declared.operation.Operation.TheVariants.{Restore, Save}
use Rattle.native_lang.specs.declared.expr.Expr.{Expr}
use Rattle.native_lang.specs.declared.expr.Expr.TheVariants.{Variable}
use Rattle.native_lang.specs.declared.stmt.Stmt.{Stmt}
use Rattle.native_lang.specs.declared.stmt.Stmt.TheVariants.{Set, Enter, Leave, Push, Pop}
use Rattle.native_lang.specs.Values.{value}
use Rattle.native_results.specs.Operands.{IsOperand}
use Rattle.native_results.specs.Words.{Adds}
use Rattle.native_words.proofs.Accessing.{sum_shown}
use Rattle.native_words.proofs.Framing.{restore_made, save_made}
use Rattle.native_words.proofs.Loading.{assigned, in_order, in_two}

module _ (f : Three) (sum : Expr) (first : f.rs1 < 32) (is : IsOperand f.operand2)
    (holds : (v : List ℕ) → slice_index v f.rs1 < 2 ^ 32 → value v sum ≡ address (slice_index v) f.rs1 f.operand2) (old one two three new : List Stmt) (a : one ≡ old ++ Set 42 sum ∷ []) where
  pub save_as : two ≡ one ++ Enter ∷ [] → three ≡ two ++ Push ∷ [] → new ≡ three ++ assigned f.rd (Variable 42) → Adds (Save f) old new
  save_as b c d =
      save_made f sum (sum_shown f.rs1 f.operand2 sum first is holds) old new
      (in_order old one two new (Set 42 sum) Enter (Push ∷ assigned f.rd (Variable 42)) a b (in_two two three new Push (assigned f.rd (Variable 42)) c d))

  pub restore_as : f.rd < 32 → two ≡ one ++ Leave ∷ [] → three ≡ two ++ Pop ∷ [] → new ≡ three ++ assigned f.rd (Variable 42) → Adds (Restore f) old new
  restore_as low b c d =
      restore_made f sum low (sum_shown f.rs1 f.operand2 sum first is holds) old new
      (in_order old one two new (Set 42 sum) Leave (Pop ∷ assigned f.rd (Variable 42)) a b (in_two two three new Pop (assigned f.rd (Variable 42)) c d))
