-- Terms are read back.
use Rattle.std.proofs.Common.{◌≡◌, ℕ, zero, suc, ◌+◌, ◌≤◌, false, List, [], ◌∷◌, ◌++◌, Option, Some, None, refl, ap, ◌∙◌, append_assoc, arith}
use Rattle.std.specs.Prelude.{codes, ◌==◌}
use Rattle.std.specs.Char.{is_ascii_digit}
use Rattle.std.specs.Fmt.{decimal}
use Rattle.native_lang.specs.declared.operator.Operator.{Operator}
use Rattle.native_lang.specs.declared.operator.Operator.TheVariants.{Sum, Difference, Product, Both, Either, Differing}
use Rattle.native_lang.specs.declared.operator.Operator.TheVariants.{ShiftLeft, ShiftRight, ShiftRightSigned, HighProduct}
use Rattle.native_lang.specs.declared.operator.Operator.TheVariants.{HighSignedProduct, Equal, Less, LessSigned}
use Rattle.native_text.specs.Terms.{Term, Constant, Named, Applied}
use Rattle.native_text.specs.Spelling.{applied_text, term_text}
use Rattle.native_text.specs.Words.{IsWordTerm}
use Rattle.native_text.proofs.Letters.{bind, after, strip, strip-other, choose, or_else, none_chosen, read_number, number, Stops, strip-number}

-- ---- the three signs of an operator

abbrev before : Operator → List ℕ
before Sum = codes "("
before Difference = codes "("
before Product = codes "("
before Both = codes "("
before Either = codes "("
before Differing = codes "("
before ShiftLeft = codes "("
before ShiftRight = codes "("
before ShiftRightSigned = codes "SAR("
before HighProduct = codes "UMULH("
before HighSignedProduct = codes "SMULH("
before Equal = codes "(WORD)("
before Less = codes "(WORD)("
before LessSigned = codes "(WORD)(SIGNED("

abbrev between : Operator → List ℕ
between Sum = codes " + "
between Difference = codes " - "
between Product = codes " * "
between Both = codes " & "
between Either = codes " | "
between Differing = codes " ^ "
between ShiftLeft = codes " << ("
between ShiftRight = codes " >> ("
between ShiftRightSigned = codes ", "
between HighProduct = codes ", "
between HighSignedProduct = codes ", "
between Equal = codes " == "
between Less = codes " < "
between LessSigned = codes ") < SIGNED("

abbrev behind : Operator → List ℕ
behind ShiftLeft = codes " & 31u))"
behind ShiftRight = codes " & 31u))"
behind LessSigned = codes "))"
behind _ = codes ")"

abbrev Signs : Type 0
Signs = List (List ℕ × Operator)

abbrev plain_signs : Signs
plain_signs =
    (codes " + ", Sum) ∷ (codes " - ", Difference) ∷ (codes " * ", Product) ∷ (codes " & ", Both) ∷ (codes " | ", Either)
    ∷ (codes " ^ ", Differing) ∷ (codes " << (", ShiftLeft) ∷ (codes " >> (", ShiftRight) ∷ []

abbrev word_signs : Signs
word_signs = (codes " == ", Equal) ∷ (codes " < ", Less) ∷ []

abbrev signs : Operator → Signs
signs ShiftRightSigned = (codes ", ", ShiftRightSigned) ∷ []
signs HighProduct = (codes ", ", HighProduct) ∷ []
signs HighSignedProduct = (codes ", ", HighSignedProduct) ∷ []
signs Equal = word_signs
signs Less = word_signs
signs LessSigned = (codes ") < SIGNED(", LessSigned) ∷ []
signs _ = plain_signs

-- what a term begins with: a variable's name, or an operator, of which its signs tell
data Opening : Type 0 where
  Name : Opening
  Operand : Signs → Opening

abbrev openings : List (List ℕ × Opening)
openings =
    (codes "(WORD)(SIGNED(", Operand (signs LessSigned)) ∷ (codes "(WORD)(", Operand word_signs) ∷ (codes "(", Operand plain_signs)
    ∷ (codes "SAR(", Operand (signs ShiftRightSigned)) ∷ (codes "UMULH(", Operand (signs HighProduct))
    ∷ (codes "SMULH(", Operand (signs HighSignedProduct)) ∷ (codes "x", Name) ∷ []

-- ---- the reader

abbrev Reader : Type 0
Reader = List ℕ → Option (Term × List ℕ)

abbrev opened : Reader → List ℕ → Option (Opening × List ℕ) → Option (Term × List ℕ)
opened read t None = bind (read_number t) (λ r. bind (strip (codes "u") r.1) (λ u. Some (Constant r.0, u)))
opened read t (Some (Name, s)) = bind (read_number s) (λ r. Some (Named r.0, r.1))
opened read t (Some (Operand table, s)) =
    bind (read s) (λ a.
    bind (choose table a.1) (λ o.
    bind (read o.1) (λ b.
    bind (strip (behind o.0) b.1) (λ u. Some (Applied o.0 a.0 b.0, u)))))

pub read_term : ℕ → List ℕ → Option (Term × List ℕ)
read_term zero t = None
read_term (suc k) t = opened (read_term k) t (choose openings t)

abbrev pub depth : Term → ℕ
depth (Constant word) = 1
depth (Named x) = 1
depth (Applied operator a b) = 1 + depth a + depth b

-- ---- what a term begins with

-- no letter that no term begins with
abbrev pub IsForeign : ℕ → Type 0
IsForeign c = (is_ascii_digit c ≡ false) × ((c == 40) ≡ false) × ((c == 83) ≡ false) × ((c == 85) ≡ false) × ((c == 120) ≡ false)

pub foreign : (c : ℕ) (cs : List ℕ) (a : Term) (t : List ℕ) → IsForeign c → IsWordTerm a → strip (c ∷ cs) (term_text a ++ t) ≡ None
foreign c cs (Constant n) t f small = ap (λ (l : List ℕ). strip (c ∷ cs) l) (append_assoc (decimal n) (codes "u") t) ∙ strip-number c cs n (codes "u" ++ t) f.0 small
foreign c cs (Named x) t f small = strip-other c 120 cs _ f.4
foreign c cs (Applied Sum a b) t f small = strip-other c 40 cs _ f.1
foreign c cs (Applied Difference a b) t f small = strip-other c 40 cs _ f.1
foreign c cs (Applied Product a b) t f small = strip-other c 40 cs _ f.1
foreign c cs (Applied Both a b) t f small = strip-other c 40 cs _ f.1
foreign c cs (Applied Either a b) t f small = strip-other c 40 cs _ f.1
foreign c cs (Applied Differing a b) t f small = strip-other c 40 cs _ f.1
foreign c cs (Applied ShiftLeft a b) t f small = strip-other c 40 cs _ f.1
foreign c cs (Applied ShiftRight a b) t f small = strip-other c 40 cs _ f.1
foreign c cs (Applied ShiftRightSigned a b) t f small = strip-other c 83 cs _ f.2
foreign c cs (Applied HighProduct a b) t f small = strip-other c 85 cs _ f.3
foreign c cs (Applied HighSignedProduct a b) t f small = strip-other c 83 cs _ f.2
foreign c cs (Applied Equal a b) t f small = strip-other c 40 cs _ f.1
foreign c cs (Applied Less a b) t f small = strip-other c 40 cs _ f.1
foreign c cs (Applied LessSigned a b) t f small = strip-other c 40 cs _ f.1

no_sign : (a : Term) (t : List ℕ) → IsWordTerm a → strip (codes "SIGNED(") (term_text a ++ t) ≡ None
no_sign (Constant n) t small = ap (λ (l : List ℕ). strip (codes "SIGNED(") l) (append_assoc (decimal n) (codes "u") t) ∙ strip-number 83 (codes "IGNED(") n (codes "u" ++ t) refl small
no_sign (Named x) t small = refl
no_sign (Applied Sum a b) t small = refl
no_sign (Applied Difference a b) t small = refl
no_sign (Applied Product a b) t small = refl
no_sign (Applied Both a b) t small = refl
no_sign (Applied Either a b) t small = refl
no_sign (Applied Differing a b) t small = refl
no_sign (Applied ShiftLeft a b) t small = refl
no_sign (Applied ShiftRight a b) t small = refl
no_sign (Applied ShiftRightSigned a b) t small = refl
no_sign (Applied HighProduct a b) t small = refl
no_sign (Applied HighSignedProduct a b) t small = refl
no_sign (Applied Equal a b) t small = refl
no_sign (Applied Less a b) t small = refl
no_sign (Applied LessSigned a b) t small = refl

-- a bracket alone, and a bracket behind a type
plain : (a : Term) (t : List ℕ) → IsWordTerm a → choose openings (codes "(" ++ (term_text a ++ t)) ≡ Some (Operand plain_signs, term_text a ++ t)
plain a t small =
    let w : IsForeign 87 = (refl, refl, refl, refl, refl) in
    let e1 : strip (codes "WORD)(SIGNED(") (term_text a ++ t) ≡ None = foreign 87 (codes "ORD)(SIGNED(") a t w small in
    let e2 : strip (codes "WORD)(") (term_text a ++ t) ≡ None = foreign 87 (codes "ORD)(") a t w small in
    let rest : Option (Opening × List ℕ) = Some (Operand plain_signs, term_text a ++ t) in
    ap (λ s. or_else (Operand (signs LessSigned)) s (or_else (Operand word_signs) (strip (codes "WORD)(") (term_text a ++ t)) rest)) e1
    ∙ ap (λ s. or_else (Operand word_signs) s rest) e2

worded : (a : Term) (t : List ℕ) → IsWordTerm a → choose openings (codes "(WORD)(" ++ (term_text a ++ t)) ≡ Some (Operand word_signs, term_text a ++ t)
worded a t small =
    let rest : Option (Opening × List ℕ) = Some (Operand word_signs, term_text a ++ t) in
    ap (λ s. or_else (Operand (signs LessSigned)) s rest) (no_sign a t small)

opens : (o : Operator) (a : Term) (t : List ℕ) → IsWordTerm a → choose openings (before o ++ (term_text a ++ t)) ≡ Some (Operand (signs o), term_text a ++ t)
opens Sum a t small = plain a t small
opens Difference a t small = plain a t small
opens Product a t small = plain a t small
opens Both a t small = plain a t small
opens Either a t small = plain a t small
opens Differing a t small = plain a t small
opens ShiftLeft a t small = plain a t small
opens ShiftRight a t small = plain a t small
opens ShiftRightSigned a t small = refl
opens HighProduct a t small = refl
opens HighSignedProduct a t small = refl
opens Equal a t small = worded a t small
opens Less a t small = worded a t small
opens LessSigned a t small = refl

-- a number is no name, and opens no bracket
unopened : (t : List ℕ) → ((c : ℕ) (cs : List ℕ) → is_ascii_digit c ≡ false → strip (c ∷ cs) t ≡ None) → choose openings t ≡ None
unopened t fails =
    none_chosen openings t (
      fails 40 (codes "WORD)(SIGNED(") refl,
      (
        fails 40 (codes "WORD)(") refl,
        (
          fails 40 [] refl,
          (fails 83 (codes "AR(") refl, (fails 85 (codes "MULH(") refl, (fails 83 (codes "MULH(") refl, (fails 120 [] refl, tt)))),
        ),
      ),
    )

-- ---- and what comes between its operands, and behind them

signed : (o : Operator) (t : List ℕ) → choose (signs o) (between o ++ t) ≡ Some (o, t)
signed Sum t = refl
signed Difference t = refl
signed Product t = refl
signed Both t = refl
signed Either t = refl
signed Differing t = refl
signed ShiftLeft t = refl
signed ShiftRight t = refl
signed ShiftRightSigned t = refl
signed HighProduct t = refl
signed HighSignedProduct t = refl
signed Equal t = refl
signed Less t = refl
signed LessSigned t = refl

closed : (o : Operator) (t : List ℕ) → strip (behind o) (behind o ++ t) ≡ Some t
closed Sum t = refl
closed Difference t = refl
closed Product t = refl
closed Both t = refl
closed Either t = refl
closed Differing t = refl
closed ShiftLeft t = refl
closed ShiftRight t = refl
closed ShiftRightSigned t = refl
closed HighProduct t = refl
closed HighSignedProduct t = refl
closed Equal t = refl
closed Less t = refl
closed LessSigned t = refl

between-stops : (o : Operator) (t : List ℕ) → Stops (between o ++ t)
between-stops Sum t = refl
between-stops Difference t = refl
between-stops Product t = refl
between-stops Both t = refl
between-stops Either t = refl
between-stops Differing t = refl
between-stops ShiftLeft t = refl
between-stops ShiftRight t = refl
between-stops ShiftRightSigned t = refl
between-stops HighProduct t = refl
between-stops HighSignedProduct t = refl
between-stops Equal t = refl
between-stops Less t = refl
between-stops LessSigned t = refl

behind-stops : (o : Operator) (t : List ℕ) → Stops (behind o ++ t)
behind-stops Sum t = refl
behind-stops Difference t = refl
behind-stops Product t = refl
behind-stops Both t = refl
behind-stops Either t = refl
behind-stops Differing t = refl
behind-stops ShiftLeft t = refl
behind-stops ShiftRight t = refl
behind-stops ShiftRightSigned t = refl
behind-stops HighProduct t = refl
behind-stops HighSignedProduct t = refl
behind-stops Equal t = refl
behind-stops Less t = refl
behind-stops LessSigned t = refl

five : (p a q b s t : List ℕ) → ((((p ++ a) ++ q) ++ b) ++ s) ++ t ≡ p ++ (a ++ (q ++ (b ++ (s ++ t))))
five p a q b s t = simp append_assoc

parted : (o : Operator) (a b t : List ℕ) → applied_text o a b ++ t ≡ before o ++ (a ++ (between o ++ (b ++ (behind o ++ t))))
parted Sum a b t = five (codes "(") a (codes " + ") b (codes ")") t
parted Difference a b t = five (codes "(") a (codes " - ") b (codes ")") t
parted Product a b t = five (codes "(") a (codes " * ") b (codes ")") t
parted Both a b t = five (codes "(") a (codes " & ") b (codes ")") t
parted Either a b t = five (codes "(") a (codes " | ") b (codes ")") t
parted Differing a b t = five (codes "(") a (codes " ^ ") b (codes ")") t
parted ShiftLeft a b t = five (codes "(") a (codes " << (") b (codes " & 31u))") t
parted ShiftRight a b t = five (codes "(") a (codes " >> (") b (codes " & 31u))") t
parted ShiftRightSigned a b t = five (codes "SAR(") a (codes ", ") b (codes ")") t
parted HighProduct a b t = five (codes "UMULH(") a (codes ", ") b (codes ")") t
parted HighSignedProduct a b t = five (codes "SMULH(") a (codes ", ") b (codes ")") t
parted Equal a b t = five (codes "(WORD)(") a (codes " == ") b (codes ")") t
parted Less a b t = five (codes "(WORD)(") a (codes " < ") b (codes ")") t
parted LessSigned a b t = five (codes "(WORD)(SIGNED(") a (codes ") < SIGNED(") b (codes "))") t

-- ---- a term is read back

pub term_read : (k : ℕ) (a : Term) (t : List ℕ) → depth a ≤ k → IsWordTerm a → Stops t → read_term k (term_text a ++ t) ≡ Some (a, t)
unfolding read_term
term_read zero (Constant n) t deep small s = absurd (omega arith)
term_read zero (Named x) t deep small s = absurd (omega arith)
term_read zero (Applied o a b) t deep small s = absurd (omega arith)
term_read (suc k) (Constant n) t deep small s =
    let text : term_text (Constant n) ++ t ≡ decimal n ++ (codes "u" ++ t) = append_assoc (decimal n) (codes "u") t in
    let none : choose openings (decimal n ++ (codes "u" ++ t)) ≡ None =
    unopened (decimal n ++ (codes "u" ++ t)) (λ c cs e. strip-number c cs n (codes "u" ++ t) e small) in
    ap (read_term (suc k)) text
    ∙ ap (opened (read_term k) (decimal n ++ (codes "u" ++ t))) none
    ∙ after _ (number n (codes "u" ++ t) small refl) (after _ refl refl)
term_read (suc k) (Named x) t deep small s = after _ (number x t small s) refl
term_read (suc k) (Applied o a b) t deep small s =
    let ta : List ℕ = term_text a in
    let tb : List ℕ = term_text b in
    let last : List ℕ = behind o ++ t in
    ap (read_term (suc k)) (parted o ta tb t)
    ∙ ap (opened (read_term k) (before o ++ (ta ++ (between o ++ (tb ++ last))))) (opens o a (between o ++ (tb ++ last)) small.0)
    ∙ after _ (term_read k a (between o ++ (tb ++ last)) (omega arith) small.0 (between-stops o (tb ++ last)))
    (after _ (signed o (tb ++ last)) (after _ (term_read k b last (omega arith) small.1 (behind-stops o t)) (after _ (closed o t) refl)))
