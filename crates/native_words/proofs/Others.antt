-- Words that no sandboxed code has.
use Rattle.std.proofs.Common.{◌≡◌, ℕ, true, false, List, [], refl, sym}
use Rattle.std.proofs.lemmas.List.{append-nil}
use Rattle.v8_alu.specs.declared.Division.{Division}
use Rattle.v8_alu.specs.declared.Op.{Op}
use Rattle.v8_alu.specs.declared.TaggedOp.{TaggedOp}
use Rattle.v8_formats.specs.declared.instr.Three.{Three}
use Rattle.v8_formats.specs.declared.instr.Two.{Two}
use Rattle.v8_formats.specs.declared.instr.Upper.{Upper}
use Rattle.v8_meaning.specs.Admitted.{is_admitted}
use Rattle.v8_meaning.specs.declared.operation.MemoryOperand.{MemoryOperand}
use Rattle.v8_meaning.specs.declared.operation.Operation.{Operation}
use Rattle.v8_meaning.specs.declared.operation.Operation.TheVariants.{Compute, Divide, TaggedTrap, SetHigh, ReadY, WriteY, ReadState, WriteState, Save, Restore}
use Rattle.v8_meaning.specs.declared.operation.Operation.TheVariants.{Call, BranchOnCondition, JumpAndLink, ReturnFromTrap, TrapOnCondition, Nothing, Illegal}
use Rattle.v8_meaning.specs.declared.operation.Operation.TheVariants.{FloatingPoint, Coprocessor}
use Rattle.v8_meaning.specs.declared.operation.Operation.TheVariants as operation
use Rattle.v8_meaning.specs.declared.operation.Transfer.{Transfer}
use Rattle.native_lang.specs.declared.stmt.Stmt.{Stmt}
use Rattle.native_results.specs.ShowsState.{fresh_words}
use Rattle.native_results.specs.Words.{Adds, is_straight}
use Rattle.native_words.proofs.Framing.{performed}

-- a word that isn't admitted goes nowhere, and so no statement has to be made
none_made : (op : Operation) (list : List Stmt) → is_admitted op ≡ false → Adds op list list
none_made op list never = record {
  made = [];
  behind = sym (append-nil list);
  is = record {
    comes = λ windows parts s next w well shows g.
        let yes = (performed parts (fresh_words w) op s next g).0 in
        absurd cc;
  };
}

-- whatever is none of these, and straight
pub others_made : (op : Operation) (list : List Stmt) → ((x : Op) (f : Three) → op ≡ Compute x f → ⊥) → ((x : Division) (f : Three) → op ≡ Divide x f → ⊥) →
    ((x : TaggedOp) (f : Three) → op ≡ TaggedTrap x f → ⊥) → ((f : Upper) → op ≡ SetHigh f → ⊥) → ((rd : ℕ) → op ≡ ReadY rd → ⊥) → ((f : Two) → op ≡ WriteY f → ⊥) →
    ((t : Transfer) (m : MemoryOperand) → op ≡ operation.Transfer t m → ⊥) → ((f : Three) → op ≡ Save f → ⊥) → ((f : Three) → op ≡ Restore f → ⊥) →
    is_straight op ≡ true → Adds op list list
unfolding is_admitted
others_made (Compute x f) list a b c d e g h i j straight = absurd (a x f refl)
others_made (Divide x f) list a b c d e g h i j straight = absurd (b x f refl)
others_made (TaggedTrap x f) list a b c d e g h i j straight = absurd (c x f refl)
others_made (SetHigh f) list a b c d e g h i j straight = absurd (d f refl)
others_made (ReadY rd) list a b c d e g h i j straight = absurd (e rd refl)
others_made (WriteY f) list a b c d e g h i j straight = absurd (g f refl)
others_made (operation.Transfer t m) list a b c d e g h i j straight = absurd (h t m refl)
others_made (Save f) list a b c d e g h i j straight = absurd (i f refl)
others_made (Restore f) list a b c d e g h i j straight = absurd (j f refl)
others_made (Call displacement) list a b c d e g h i j straight = absurd cc
others_made (BranchOnCondition x) list a b c d e g h i j straight = absurd cc
others_made (JumpAndLink f) list a b c d e g h i j straight = absurd cc
others_made (TrapOnCondition t) list a b c d e g h i j straight = absurd cc
others_made (ReadState r rd) list a b c d e g h i j straight = none_made (ReadState r rd) list refl
others_made (WriteState r f) list a b c d e g h i j straight = none_made (WriteState r f) list refl
others_made (ReturnFromTrap f) list a b c d e g h i j straight = none_made (ReturnFromTrap f) list refl
others_made Nothing list a b c d e g h i j straight = none_made Nothing list refl
others_made Illegal list a b c d e g h i j straight = none_made Illegal list refl
others_made FloatingPoint list a b c d e g h i j straight = none_made FloatingPoint list refl
others_made Coprocessor list a b c d e g h i j straight = none_made Coprocessor list refl
