-- The order of faults, by a number for each.
use Rattle.std.proofs.Common.{◌≡◌, ℕ, ◌+◌, ◌*◌, ◌≤◌, ◌<◌, Bool, true, false, ltb, refl, arith}
use Rattle.std.specs.Prelude.{◌&&◌, ◌||◌, ◌==◌}
use Rattle.std.proofs.lemmas.Bool.{ltb-true, ltb-false, eqb-true, eqb-false}
use Rattle.sbx_asm.specs.declared.fault.AsmFault.{AsmFault}
use Rattle.sbx_asm.specs.declared.fault.Cause.{Cause}
use Rattle.sbx_asm.specs.declared.fault.Cause.TheVariants as causes
use Rattle.sbx_asm.specs.Rules.{rank, is_earlier}

rank_small : (c : Cause) → rank c ≤ 6
rank_small (causes.Text f) = omega arith
rank_small (causes.Syntax f) = omega arith
rank_small causes.DuplicateLabel = omega arith
rank_small causes.Directive = omega arith
rank_small causes.Limit = omega arith
rank_small causes.Annotation = omega arith
rank_small (causes.Memory want) = omega arith

-- lines first, and on a line causes
abbrev pub key : AsmFault → ℕ
key a = 8 * a.line + rank a.cause

pub earlier_by_key : (a b : AsmFault) → is_earlier a b ≡ ltb (key a) (key b)
earlier_by_key a b = by (ltb a.line b.line) (a.line == b.line) (ltb (rank a.cause) (rank b.cause)) (ltb (key a) (key b)) refl refl refl refl
  where
    by : (s t u v : Bool) → ltb a.line b.line ≡ s → (a.line == b.line) ≡ t → ltb (rank a.cause) (rank b.cause) ≡ u → ltb (key a) (key b) ≡ v → (s || (t && u)) ≡ v
    by true t u true p q r e = refl
    by true t u false p q r e = let k = ltb-true a.line b.line p in let l = ltb-false (key a) (key b) e in let m = rank_small a.cause in absurd (omega arith)
    by false true true true p q r e = refl
    by false true true false p q r e =
        let k = eqb-true a.line b.line q in let l = ltb-false (key a) (key b) e in let m = ltb-true (rank a.cause) (rank b.cause) r in absurd (omega arith)
    by false true false true p q r e =
        let k = eqb-true a.line b.line q in let l = ltb-true (key a) (key b) e in let m = ltb-false (rank a.cause) (rank b.cause) r in absurd (omega arith)
    by false true false false p q r e = refl
    by false false u true p q r e =
        let k = ltb-false a.line b.line p in let l = ltb-true (key a) (key b) e in let m = rank_small a.cause in let n = rank_small b.cause in
        absurd (further a.line b.line (rank a.cause) (rank b.cause) k (λ z. eqb-false a.line b.line q z) l n)
      where
        further : (x y r s : ℕ) → y ≤ x → (x ≡ y → ⊥) → 8 * x + r < 8 * y + s → s ≤ 6 → ⊥
        further x y r s h k l m = omega arith
    by false false u false p q r e = refl
