-- Lines are read back.
use Rattle.std.proofs.Common.{◌≡◌, ℕ, zero, suc, ◌+◌, ◌≤◌, Bool, true, false, List, [], ◌∷◌, ◌++◌, Option, Some, None, refl, ap, ◌∙◌, append_assoc, arith}
use Rattle.std.specs.Prelude.{codes}
use Rattle.std.specs.Fmt.{decimal}
use Rattle.native_lang.specs.declared.stmt.NumberWidth.{NumberWidth}
use Rattle.native_lang.specs.declared.stmt.NumberWidth.TheVariants.{Byte, Half, Word}
use Rattle.native_lang.specs.declared.program.Arm.{Arm}
use Rattle.native_text.specs.Terms.{Term, Action, Sets, Loads, Stores, Divides, Gets, Puts, Counts, Enters, Leaves, Pushes, Pops}
use Rattle.native_text.specs.Lines.{CodeLine, Label, Head, Does, Jump, Branch, Leave, Switch, next_number}
use Rattle.native_text.specs.Spelling.{action_text, arms_text, bits_text, division_text, keeping_text, line_text, term_text, variable_text}
use Rattle.native_text.specs.Words.{AreWordArms, IsWord, IsWordAction, IsWordLine, IsWordTerm}
use Rattle.native_text.proofs.Letters.{bind, after, strip, choose, none_chosen, read_number, number}
use Rattle.native_text.proofs.Phrases.{IsForeign, depth, foreign, read_term, term_read}

-- what a line begins with
data Kind : Type 0 where
  Labels : Kind
  Targets : Kind
  Storing : NumberWidth → Kind
  Dividing : Bool → Kind
  Getting : Kind
  Putting : Kind
  Turning : Kind
  Plain : CodeLine → Kind
  Heading : Kind
  Jumping : Kind
  Branching : Kind
  Leaving : Kind
  Switching : Kind

abbrev kinds : List (List ℕ × Kind)
kinds =
    (codes "L", Labels) ∷ (codes "    x", Targets) ∷ (codes "    STORE8(", Storing Byte) ∷ (codes "    STORE16(", Storing Half)
    ∷ (codes "    STORE32(", Storing Word) ∷ (codes "    SDIV(x", Dividing true) ∷ (codes "    UDIV(x", Dividing false)
    ∷ (codes "    GET(", Getting) ∷ (codes "    PUT(", Putting) ∷ (codes "    TURNS(", Turning)
    ∷ (codes "    ENTER;\n", Plain (Does Enters)) ∷ (codes "    LEAVE;\n", Plain (Does Leaves))
    ∷ (codes "    PUSH;\n", Plain (Does Pushes)) ∷ (codes "    POP;\n", Plain (Does Pops))
    ∷ (codes "    HEAD(", Heading) ∷ (codes "    goto L", Jumping) ∷ (codes "    if (", Branching) ∷ (codes "    EXIT(", Leaving)
    ∷ (codes "    switch (x", Switching) ∷ []

abbrev loads : List (List ℕ × NumberWidth)
loads = (codes "LOAD8(", Byte) ∷ (codes "LOAD16(", Half) ∷ (codes "LOAD32(", Word) ∷ []

abbrev keepings : List (List ℕ × Bool)
keepings = (codes "CODES, ", true) ∷ (codes "NO_CODES, ", false) ∷ []

abbrev ends : List (List ℕ × Bool)
ends = (codes "    case ", true) ∷ (codes "    default: LOST;\n    }\n", false) ∷ []

-- ---- the reader

abbrev Reader : Type 0
Reader = List ℕ → Option (CodeLine × List ℕ)

-- a number and what stands behind it
abbrev numbered : (end : List ℕ) → (ℕ → CodeLine) → Reader
numbered end line t = bind (read_number t) (λ n. bind (strip end n.1) (λ u. Some (line n.0, u)))

abbrev phrased : ℕ → (end : List ℕ) → (Term → CodeLine) → Reader
phrased k end line t = bind (read_term k t) (λ e. bind (strip end e.1) (λ u. Some (line e.0, u)))

abbrev targeted : ℕ → ℕ → List ℕ → Option (NumberWidth × List ℕ) → Option (CodeLine × List ℕ)
targeted k x t None = phrased k (codes ";\n") (λ e. Does (Sets x e)) t
targeted k x t (Some (width, s)) = phrased k (codes ");\n") (λ a. Does (Loads x width a)) s

-- so many arms, or fewer
abbrev armed : (List ℕ → Option (List Arm × List ℕ)) → Option (Bool × List ℕ) → Option (List Arm × List ℕ)
armed read None = None
armed read (Some (false, t)) = Some ([], t)
armed read (Some (true, t)) =
    bind (read_number t) (λ w.
    bind (strip (codes "u: goto L") w.1) (λ s.
    bind (read_number s) (λ l.
    bind (strip (codes ";\n") l.1) (λ u.
    bind (read u) (λ arms. Some (record { word = w.0; label = l.0 } ∷ arms.0, arms.1))))))

pub read_arms : ℕ → List ℕ → Option (List Arm × List ℕ)
read_arms zero t = None
read_arms (suc k) t = armed (read_arms k) (choose ends t)

abbrev lined : ℕ → Option (Kind × List ℕ) → Option (CodeLine × List ℕ)
lined k None = None
lined k (Some (Labels, t)) = numbered (codes ":;\n") Label t
lined k (Some (Targets, t)) = bind (read_number t) (λ x. bind (strip (codes " = ") x.1) (λ s. targeted k x.0 s (choose loads s)))
lined k (Some (Storing width, t)) =
    bind (read_term k t) (λ a. bind (strip (codes ", ") a.1) (λ s. phrased k (codes ");\n") (λ e. Does (Stores width a.0 e)) s))
lined k (Some (Dividing sign, t)) =
    bind (read_number t) (λ x. bind (strip (codes ", x") x.1) (λ s1.
    bind (read_number s1) (λ o. bind (strip (codes ", ") o.1) (λ s2.
    bind (read_term k s2) (λ y. bind (strip (codes ", ") y.1) (λ s3.
    bind (read_term k s3) (λ a. bind (strip (codes ", ") a.1) (λ s4.
    phrased k (codes ");\n") (λ b. Does (Divides x.0 o.0 sign y.0 a.0 b)) s4))))))))
lined k (Some (Getting, t)) =
    bind (read_number t) (λ n. bind (strip (codes ", ") n.1) (λ s. bind (choose keepings s) (λ c. bind (strip (codes "x") c.1) (λ u.
    numbered (codes ");\n") (λ x. Does (Gets x)) u))))
lined k (Some (Putting, t)) =
    bind (read_number t) (λ n. bind (strip (codes ", ") n.1) (λ s. bind (choose keepings s) (λ c.
    phrased k (codes ");\n") (λ e. Does (Puts e)) c.1)))
lined k (Some (Turning, t)) = numbered (codes "u);\n") (λ n. Does (Counts n)) t
lined k (Some (Plain line, t)) = Some (line, t)
lined k (Some (Heading, t)) = numbered (codes ", NO_CODES);\n") (λ n. Head) t
lined k (Some (Jumping, t)) = numbered (codes ";\n") Jump t
lined k (Some (Branching, t)) = bind (read_term k t) (λ e. bind (strip (codes ") goto L") e.1) (λ s. numbered (codes ";\n") (λ l. Branch e.0 l) s))
lined k (Some (Leaving, t)) = phrased k (codes ");\n") Leave t
lined k (Some (Switching, t)) =
    bind (read_number t) (λ x. bind (strip (codes ") {\n") x.1) (λ s. bind (read_arms k s) (λ arms. Some (Switch x.0 arms.0, arms.1))))

pub read_code : ℕ → List ℕ → Option (CodeLine × List ℕ)
read_code k t = lined k (choose kinds t)

-- ---- how deep it has to look

abbrev pub arms_depth : List Arm → ℕ
arms_depth [] = 1
arms_depth (arm ∷ arms) = 1 + arms_depth arms

abbrev action_depth : Action → ℕ
action_depth (Sets x e) = depth e
action_depth (Loads x width a) = depth a
action_depth (Stores width a e) = depth a + depth e
action_depth (Divides x over sign y a b) = depth y + depth a + depth b
action_depth (Puts e) = depth e
action_depth _ = 0

abbrev pub line_depth : CodeLine → ℕ
line_depth (Does action) = action_depth action
line_depth (Branch e label) = depth e
line_depth (Leave e) = depth e
line_depth (Switch x arms) = arms_depth arms
line_depth _ = 0

-- ---- arms

arm_parts : (w l more t : List ℕ)
    → (((((codes "    case " ++ (w ++ codes "u")) ++ codes ": goto ") ++ (codes "L" ++ l)) ++ codes ";\n") ++ more) ++ t
    ≡ codes "    case " ++ (w ++ (codes "u: goto L" ++ (l ++ (codes ";\n" ++ (more ++ t)))))
arm_parts w l more t = simp append_assoc

pub arms_read : (k : ℕ) (arms : List Arm) (t : List ℕ) → arms_depth arms ≤ k → AreWordArms arms
    → read_arms k (arms_text arms ++ (codes "    default: LOST;\n    }\n" ++ t)) ≡ Some (arms, t)
unfolding read_arms
arms_read zero [] t deep small = absurd (omega arith)
arms_read zero (arm ∷ arms) t deep small = absurd (omega arith)
arms_read (suc k) [] t deep small = refl
arms_read (suc k) (arm ∷ arms) t deep small =
    let more : List ℕ = arms_text arms in
    let u : List ℕ = codes "    default: LOST;\n    }\n" ++ t in
    ap (read_arms (suc k)) (arm_parts (decimal arm.word) (decimal arm.label) more u)
    ∙ after _ (number arm.word (codes "u: goto L" ++ (decimal arm.label ++ (codes ";\n" ++ (more ++ u)))) small.0 refl)
    (after _ refl (after _ (number arm.label (codes ";\n" ++ (more ++ u)) small.1 refl) (after _ refl (after _ (arms_read k arms t (omega arith) small.2) refl))))

-- ---- the parts of lines

three : (p d e t : List ℕ) → ((p ++ d) ++ e) ++ t ≡ p ++ (d ++ (e ++ t))
three p d e t = simp append_assoc

five : (p a q b s t : List ℕ) → ((((p ++ a) ++ q) ++ b) ++ s) ++ t ≡ p ++ (a ++ (q ++ (b ++ (s ++ t))))
five p a q b s t = simp append_assoc

turn_parts : (p d u e t : List ℕ) → ((p ++ (d ++ u)) ++ e) ++ t ≡ p ++ (d ++ (u ++ (e ++ t)))
turn_parts p d u e t = simp append_assoc

point_parts : (p n q c b e t : List ℕ) → (((((p ++ n) ++ q) ++ c) ++ b) ++ e) ++ t ≡ p ++ (n ++ (q ++ (c ++ (b ++ (e ++ t)))))
point_parts p n q c b e t = simp append_assoc

get_parts : (p n q c v x e t : List ℕ)
    → (((((p ++ n) ++ q) ++ c) ++ (v ++ x)) ++ e) ++ t ≡ p ++ (n ++ (q ++ (c ++ (v ++ (x ++ (e ++ t))))))
get_parts p n q c v x e t = simp append_assoc

branch_parts : (p e q l n s t : List ℕ) → ((((p ++ e) ++ q) ++ (l ++ n)) ++ s) ++ t ≡ p ++ (e ++ (q ++ (l ++ (n ++ (s ++ t)))))
branch_parts p e q l n s t = simp append_assoc

load_parts : (p x q b o a e t : List ℕ)
    → ((((((p ++ x) ++ q) ++ b) ++ o) ++ a) ++ e) ++ t ≡ p ++ (x ++ (q ++ (b ++ (o ++ (a ++ (e ++ t))))))
load_parts p x q b o a e t = simp append_assoc

division_parts : (p x q v o r y s a u b e t : List ℕ)
    → ((((((((((p ++ x) ++ q) ++ (v ++ o)) ++ r) ++ y) ++ s) ++ a) ++ u) ++ b) ++ e) ++ t
    ≡ p ++ (x ++ (q ++ (v ++ (o ++ (r ++ (y ++ (s ++ (a ++ (u ++ (b ++ (e ++ t)))))))))))
division_parts p x q v o r y s a u b e t = simp append_assoc

-- ---- each line

no_load : (e : Term) (t : List ℕ) → IsWordTerm e → choose loads (term_text e ++ t) ≡ None
no_load e t small =
    let w : IsForeign 76 = (refl, refl, refl, refl, refl) in
    none_chosen loads (term_text e ++ t)
    (foreign 76 (codes "OAD8(") e t w small, (foreign 76 (codes "OAD16(") e t w small, (foreign 76 (codes "OAD32(") e t w small, tt)))

abbrev IsReadBack : ℕ → List ℕ → CodeLine → List ℕ → Type 0
IsReadBack k text line t = read_code k (text ++ t) ≡ Some (line, t)

set_read : (k x : ℕ) (e : Term) (t : List ℕ) → depth e ≤ k → IsWord x → IsWordTerm e
    → IsReadBack k (codes "    " ++ variable_text x ++ codes " = " ++ term_text e ++ codes ";\n") (Does (Sets x e)) t
unfolding read_code
set_read k x e t deep small wide =
    let end : List ℕ = codes ";\n" ++ t in
    ap (read_code k) (five (codes "    x") (decimal x) (codes " = ") (term_text e) (codes ";\n") t)
    ∙ after _ (number x (codes " = " ++ (term_text e ++ end)) small refl)
    (after _ refl (ap (targeted k x (term_text e ++ end)) (no_load e end wide) ∙ after _ (term_read k e end deep wide refl) (after _ refl refl)))

loaded : (k x : ℕ) (width : NumberWidth) (a : Term) (t : List ℕ) → depth a ≤ k → IsWordTerm a
    → targeted k x (codes "LOAD" ++ (bits_text width ++ (codes "(" ++ (term_text a ++ (codes ");\n" ++ t)))))
    (choose loads (codes "LOAD" ++ (bits_text width ++ (codes "(" ++ (term_text a ++ (codes ");\n" ++ t))))))
    ≡ Some (Does (Loads x width a), t)
loaded k x Byte a t deep wide = after _ (term_read k a (codes ");\n" ++ t) deep wide refl) (after _ refl refl)
loaded k x Half a t deep wide = after _ (term_read k a (codes ");\n" ++ t) deep wide refl) (after _ refl refl)
loaded k x Word a t deep wide = after _ (term_read k a (codes ");\n" ++ t) deep wide refl) (after _ refl refl)

load_read : (k x : ℕ) (width : NumberWidth) (a : Term) (t : List ℕ) → depth a ≤ k → IsWord x → IsWordTerm a
    → IsReadBack k (codes "    " ++ variable_text x ++ codes " = LOAD" ++ bits_text width ++ codes "(" ++ term_text a ++ codes ");\n") (Does (Loads x width a)) t
unfolding read_code
load_read k x width a t deep small wide =
    ap (read_code k) (load_parts (codes "    x") (decimal x) (codes " = LOAD") (bits_text width) (codes "(") (term_text a) (codes ");\n") t)
    ∙ after _ (number x (codes " = LOAD" ++ (bits_text width ++ (codes "(" ++ (term_text a ++ (codes ");\n" ++ t))))) small refl)
    (after _ refl (loaded k x width a t deep wide))

stored : (k : ℕ) (width : NumberWidth) (a e : Term) (t : List ℕ) → depth a + depth e ≤ k → IsWordTerm a → IsWordTerm e
    → lined k (Some (Storing width, term_text a ++ (codes ", " ++ (term_text e ++ (codes ");\n" ++ t))))) ≡ Some (Does (Stores width a e), t)
stored k width a e t deep w v =
    after _ (term_read k a (codes ", " ++ (term_text e ++ (codes ");\n" ++ t))) (omega arith) w refl)
    (after _ refl (after _ (term_read k e (codes ");\n" ++ t) (omega arith) v refl) (after _ refl refl)))

store_read : (k : ℕ) (width : NumberWidth) (a e : Term) (t : List ℕ) → depth a + depth e ≤ k → IsWordTerm a → IsWordTerm e
    → IsReadBack k (codes "    STORE" ++ bits_text width ++ codes "(" ++ term_text a ++ codes ", " ++ term_text e ++ codes ");\n") (Does (Stores width a e)) t
unfolding read_code
store_read k Byte a e t deep w v =
    ap (read_code k) (five (codes "    STORE8(") (term_text a) (codes ", ") (term_text e) (codes ");\n") t) ∙ stored k Byte a e t deep w v
store_read k Half a e t deep w v =
    ap (read_code k) (five (codes "    STORE16(") (term_text a) (codes ", ") (term_text e) (codes ");\n") t) ∙ stored k Half a e t deep w v
store_read k Word a e t deep w v =
    ap (read_code k) (five (codes "    STORE32(") (term_text a) (codes ", ") (term_text e) (codes ");\n") t) ∙ stored k Word a e t deep w v

abbrev operands_text : ℕ → ℕ → Term → Term → Term → List ℕ → List ℕ
operands_text x over y a b t =
    decimal x ++ (codes ", x" ++ (decimal over ++ (codes ", " ++ (term_text y ++ (codes ", " ++ (term_text a ++ (codes ", " ++ (term_text b ++ (codes ");\n" ++ t)))))))))

divided : (k x over : ℕ) (sign : Bool) (y a b : Term) (t : List ℕ) → depth y + depth a + depth b ≤ k → IsWord x → IsWord over
    → IsWordTerm y → IsWordTerm a → IsWordTerm b
    → lined k (Some (Dividing sign, operands_text x over y a b t)) ≡ Some (Does (Divides x over sign y a b), t)
divided k x over sign y a b t deep small less u v w =
    let t4 : List ℕ = codes ");\n" ++ t in
    let t3 : List ℕ = codes ", " ++ (term_text b ++ t4) in
    let t2 : List ℕ = codes ", " ++ (term_text a ++ t3) in
    let t1 : List ℕ = codes ", " ++ (term_text y ++ t2) in
    after _ (number x (codes ", x" ++ (decimal over ++ t1)) small refl) (after _ refl
    (after _ (number over t1 less refl) (after _ refl
    (after _ (term_read k y t2 (omega arith) u refl) (after _ refl
    (after _ (term_read k a t3 (omega arith) v refl) (after _ refl
    (after _ (term_read k b t4 (omega arith) w refl) (after _ refl refl)))))))))

divide_read : (k x over : ℕ) (sign : Bool) (y a b : Term) (t : List ℕ) → depth y + depth a + depth b ≤ k → IsWord x → IsWord over
    → IsWordTerm y → IsWordTerm a → IsWordTerm b
    → IsReadBack k (division_text sign ++ variable_text x ++ codes ", " ++ variable_text over ++ codes ", " ++ term_text y
    ++ codes ", " ++ term_text a ++ codes ", " ++ term_text b ++ codes ");\n") (Does (Divides x over sign y a b)) t
unfolding read_code
divide_read k x over true y a b t deep small less u v w =
    ap (read_code k) (division_parts (codes "    SDIV(x") (decimal x) (codes ", ") (codes "x") (decimal over) (codes ", ") (term_text y) (codes ", ") (term_text a) (codes ", ") (term_text b) (codes ");\n") t)
    ∙ divided k x over true y a b t deep small less u v w
divide_read k x over false y a b t deep small less u v w =
    ap (read_code k) (division_parts (codes "    UDIV(x") (decimal x) (codes ", ") (codes "x") (decimal over) (codes ", ") (term_text y) (codes ", ") (term_text a) (codes ", ") (term_text b) (codes ");\n") t)
    ∙ divided k x over false y a b t deep small less u v w

kept : (has : Bool) (t : List ℕ) → choose keepings (keeping_text has ++ t) ≡ Some (has, t)
kept true t = refl
kept false t = refl

get_read : (k n : ℕ) (has : Bool) (x : ℕ) (t : List ℕ) → IsWord n → IsWord x
    → IsReadBack k (codes "    GET(" ++ decimal n ++ codes ", " ++ keeping_text has ++ variable_text x ++ codes ");\n") (Does (Gets x)) t
unfolding read_code
get_read k n has x t few small =
    let end : List ℕ = codes ");\n" ++ t in
    ap (read_code k) (get_parts (codes "    GET(") (decimal n) (codes ", ") (keeping_text has) (codes "x") (decimal x) (codes ");\n") t)
    ∙ after _ (number n (codes ", " ++ (keeping_text has ++ (codes "x" ++ (decimal x ++ end)))) few refl) (after _ refl
    (after _ (kept has (codes "x" ++ (decimal x ++ end))) (after _ refl (after _ (number x end small refl) (after _ refl refl)))))

put_read : (k n : ℕ) (has : Bool) (e : Term) (t : List ℕ) → depth e ≤ k → IsWord n → IsWordTerm e
    → IsReadBack k (codes "    PUT(" ++ decimal n ++ codes ", " ++ keeping_text has ++ term_text e ++ codes ");\n") (Does (Puts e)) t
unfolding read_code
put_read k n has e t deep few wide =
    let end : List ℕ = codes ");\n" ++ t in
    ap (read_code k) (point_parts (codes "    PUT(") (decimal n) (codes ", ") (keeping_text has) (term_text e) (codes ");\n") t)
    ∙ after _ (number n (codes ", " ++ (keeping_text has ++ (term_text e ++ end))) few refl) (after _ refl
    (after _ (kept has (term_text e ++ end)) (after _ (term_read k e end deep wide refl) (after _ refl refl))))

point_small : (n : ℕ) → IsWord (next_number n)
point_small n = omega arith

action_read : (k n : ℕ) (has : Bool) (action : Action) (t : List ℕ) → action_depth action ≤ k → IsWordAction action
    → IsReadBack k (action_text n has action) (Does action) t
unfolding read_code
action_read k n has (Sets x e) t deep w = set_read k x e t deep w.0 w.1
action_read k n has (Loads x width a) t deep w = load_read k x width a t deep w.0 w.1
action_read k n has (Stores width a e) t deep w = store_read k width a e t deep w.0 w.1
action_read k n has (Divides x over sign y a b) t deep w = divide_read k x over sign y a b t deep w.0 w.1 w.2 w.3 w.4
action_read k n has (Gets x) t deep w = get_read k (next_number n) has x t (point_small n) w
action_read k n has (Puts e) t deep w = put_read k (next_number n) has e t deep (point_small n) w
action_read k n has (Counts c) t deep w =
    ap (read_code k) (turn_parts (codes "    TURNS(") (decimal c) (codes "u") (codes ");\n") t)
    ∙ after _ (number c (codes "u);\n" ++ t) w refl) (after _ refl refl)
action_read k n has Enters t deep w = refl
action_read k n has Leaves t deep w = refl
action_read k n has Pushes t deep w = refl
action_read k n has Pops t deep w = refl

-- ---- a line is read back

pub line_read : (k n : ℕ) (has : Bool) (line : CodeLine) (t : List ℕ) → line_depth line ≤ k → IsWordLine line
    → read_code k (line_text n has line ++ t) ≡ Some (line, t)
unfolding read_code
line_read k n has (Label label) t deep w =
    ap (read_code k) (three (codes "L") (decimal label) (codes ":;\n") t) ∙ after _ (number label (codes ":;\n" ++ t) w refl) (after _ refl refl)
line_read k n has Head t deep w =
    ap (read_code k) (three (codes "    HEAD(") (decimal (next_number n)) (codes ", NO_CODES);\n") t)
    ∙ after _ (number (next_number n) (codes ", NO_CODES);\n" ++ t) (point_small n) refl) (after _ refl refl)
line_read k n has (Does action) t deep w = action_read k n has action t deep w
line_read k n has (Jump label) t deep w =
    ap (read_code k) (three (codes "    goto L") (decimal label) (codes ";\n") t) ∙ after _ (number label (codes ";\n" ++ t) w refl) (after _ refl refl)
line_read k n has (Branch e label) t deep w =
    ap (read_code k) (branch_parts (codes "    if (") (term_text e) (codes ") goto ") (codes "L") (decimal label) (codes ";\n") t)
    ∙ after _ (term_read k e (codes ") goto L" ++ (decimal label ++ (codes ";\n" ++ t))) deep w.0 refl)
    (after _ refl (after _ (number label (codes ";\n" ++ t) w.1 refl) (after _ refl refl)))
line_read k n has (Leave e) t deep w =
    ap (read_code k) (three (codes "    EXIT(") (term_text e) (codes ");\n") t) ∙ after _ (term_read k e (codes ");\n" ++ t) deep w refl) (after _ refl refl)
line_read k n has (Switch x arms) t deep w =
    let end : List ℕ = codes "    default: LOST;\n    }\n" ++ t in
    ap (read_code k) (five (codes "    switch (x") (decimal x) (codes ") {\n") (arms_text arms) (codes "    default: LOST;\n    }\n") t)
    ∙ after _ (number x (codes ") {\n" ++ (arms_text arms ++ end)) w.0 refl) (after _ refl (after _ (arms_read k arms t deep w.1) refl))

-- the line behind a body is none of it
pub no_code : (k : ℕ) (t : List ℕ) → read_code k (codes "RUN_ENDS" ++ t) ≡ None
unfolding read_code
no_code k t = refl
