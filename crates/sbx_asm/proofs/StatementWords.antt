-- The instructions of a statement are spelled as words below 2 ^ 32.
use Rattle.std.proofs.Common.{ℕ, ◌+◌, ◌%◌, ◌^◌, ◌<◌, ◌≤◌, Bool, cond, not, eqb, ltb, leb, List, [], ◌∷◌, map, Option, None, Some, IfSome, Result, Ok, Err, IfOk, arith}
use Rattle.std.specs.Prelude.{◌&&◌, ◌||◌, codes, take, drop}
use Rattle.std.specs.Option.{option_map, option_and_then, option_map_or, option_or, unwrap_or}
use Rattle.std.specs.Str.{bytes_eq}
use Rattle.std.specs.List.{AllByRecursion}
use Rattle.std.proofs.lemmas.Bool.{cond_both, ltb-true}
use Rattle.sbx_text.specs.declared.Token.{Token}
use Rattle.sbx_text.specs.declared.Kind.{Kind}
use Rattle.sbx_text.specs.declared.Kind.TheVariants as kinds
use Rattle.v8_formats.specs.declared.instr.Instr.{Instr}
use Rattle.v8_formats.specs.Spelling.{spelling}
use Rattle.v8_formats.specs.Table.{meaning}
use Rattle.v8_formats.proofs.TableOk.{spelling-meaning}
use Rattle.v8_forms.specs.declared.part.Special.{Special}
use Rattle.v8_forms.specs.declared.part.Range.TheVariants as ranges
use Rattle.v8_forms.specs.Forms.{Form, forms}
use Rattle.v8_forms.specs.Text.{filled}
use Rattle.v8_syntax.specs.declared.fault.SyntaxFault.{SyntaxFault}
use Rattle.v8_syntax.specs.declared.fault.SyntaxFault.TheVariants.{Shape, UnknownMnemonic}
use Rattle.v8_syntax.specs.declared.word.StatementToken.{StatementToken}
use Rattle.v8_syntax.specs.declared.word.StatementToken.TheVariants as words
use Rattle.v8_syntax.specs.declared.word.NameKind.{NameKind}
use Rattle.v8_syntax.specs.declared.expression.Base.TheVariants as bases
use Rattle.v8_syntax.specs.declared.expression.Expression.{Expression}
use Rattle.v8_syntax.specs.Statements.{beside, groups, small_number, register_named, specials, token_at, statement_token, statement_tokens, bytes_between, ◌>>=◌, Reading}
use Rattle.v8_syntax.specs.Statements.{after_sign, read_behind, number_first, register_first, end, plain, less, moved, named_expression, expression, word_in}
use Rattle.v8_syntax.specs.Statements.{operands_of, sethi, or, set_instructions, is_symbolic, set_operands, set, named, of_condition, first_of, named_meaning}
use Rattle.v8_syntax.specs.Statements.{name_first, source_meaning}
use Rattle.sbx_asm.proofs.Wholes.{whatever}

abbrev IsWord : ℕ → Type 0
IsWord w = w < 2 ^ 32

-- one reading, else another
either_all : {A B : Type 0} (P : A → Type 0) (Q : B → Type 0) (o : Option A) (f : A → B) (other : B) → IfSome o P → ((x : A) → P x → Q (f x)) → Q other → Q (option_map_or f o other)
either_all P Q (Some x) f other h go or = go x h
either_all P Q None f other h go or = or

then_all : {A B : Type 0} (P : A → Type 0) (Q : B → Type 0) (o : Option A) (f : A → Option B) → IfSome o P → ((x : A) → P x → IfSome (f x) Q) → IfSome (option_and_then f o) Q
then_all P Q (Some x) f h go = go x h
then_all P Q None f h go = tt

or_all : {A : Type 0} (P : A → Type 0) (o p : Option A) → IfSome o P → IfSome p P → IfSome (option_or o p) P
or_all P (Some x) p h k = h
or_all P None p h k = k

map_all : {A B : Type 0} (P : A → Type 0) (Q : B → Type 0) (f : A → B) (o : Option A) → IfSome o P → ((x : A) → P x → Q (f x)) → IfSome (option_map f o) Q
map_all P Q f (Some x) h go = go x h
map_all P Q f None h go = tt

-- one step after another
step_all : {A B : Type 0} (P : A → Type 0) (Q : B → Type 0) (r : Result A SyntaxFault) (f : A → Result B SyntaxFault) → IfOk r P → ((x : A) → P x → IfOk (f x) Q) → IfOk (r >>= f) Q
step_all P Q (Ok x) f h go = go x h
step_all P Q (Err e) f h go = tt

-- ---- registers

abbrev Reads : Result ℕ SyntaxFault → Type 0
Reads r = IfOk r IsWord

abbrev pub IsRegister : ℕ → Type 0
IsRegister r = r < 32

abbrev Named : Option ℕ → Type 0
Named o = IfSome o IsRegister

beside_all : {A : Type 0} (P : A → Type 0) (name : List ℕ) (rows : List (List ℕ × A)) → AllByRecursion (λ row. P row.1) rows → IfSome (beside name rows) P
beside_all P name [] h = tt
beside_all P name (row ∷ rows) h = cond_both (bytes_eq name row.0) (Some row) _ (λ o. IfSome (option_map (λ x. x.1) o) P) (λ _. h.0) (λ _. beside_all P name rows h.1)

-- a group ends below 32
abbrev IsGroup : ℕ × ℕ → Type 0
IsGroup group = group.0 + group.1 ≤ 32

grouped_small : (group : ℕ × ℕ) (n : ℕ) → IsGroup group → Named (cond (ltb n group.1) (Some (group.0 + n)) None)
grouped_small group n h = cond_both (ltb n group.1) (Some (group.0 + n)) None Named (λ e. let lt = ltb-true n group.1 e in omega arith) (λ _. tt)

abbrev pointers : List (List ℕ × ℕ)
pointers = (codes "sp", 14) ∷ (codes "fp", 30) ∷ []

named_small : (name : List ℕ) → Named (register_named name)
named_small name =
    or_all IsRegister (beside name pointers) _ (beside_all IsRegister name pointers (omega arith, (omega arith, tt)))
    (then_all IsGroup IsRegister (beside (take 1 name) groups) _
    (beside_all IsGroup (take 1 name) groups (omega arith, (omega arith, (omega arith, (omega arith, (omega arith, tt))))))
    (λ group h. then_all (λ _. Unit {0}) IsRegister (small_number (drop 1 name)) _ (whatever _) (λ n _. grouped_small group n h)))

-- ---- words of a line

abbrev pub IsSmall : StatementToken → Type 0
IsSmall (words.Register r) = IsRegister r
IsSmall _ = Unit {0}

abbrev pub AreSmall : List StatementToken → Type 0
AreSmall ws = AllByRecursion IsSmall ws

percent_is_small : (r : Option ℕ) (s : Option Special) → Named r → IsSmall (unwrap_or (option_or (option_map words.Register r) (option_map words.Special s)) words.Unknown)
percent_is_small (Some r) s h = h
percent_is_small None (Some s) h = tt
percent_is_small None None h = tt

word_is_small : (line : List ℕ) (start stop : ℕ) (kind : Kind) → IsSmall (token_at line start stop kind)
word_is_small line start stop kinds.Name = tt
word_is_small line start stop kinds.Percent =
    let name : List ℕ = drop 1 (bytes_between line start stop) in
    percent_is_small (register_named name) (beside name specials) (named_small name)
word_is_small line start stop (kinds.Number n) = tt
word_is_small line start stop kinds.Sign = tt

pub words_are_small : (line : List ℕ) (ts : List Token) → AreSmall (statement_tokens line ts)
unfolding statement_token
words_are_small line [] = tt
words_are_small line (t ∷ ts) = (word_is_small line t.start t.stop t.kind, words_are_small line ts)

-- ---- what is read of them, and the words after it

abbrev Left : {A : Type 0} → Option (A × List StatementToken) → Type 0
Left o = IfSome o (λ x. AreSmall x.1)

sign_small : (b : ℕ) (ws : List StatementToken) → AreSmall ws → IfSome (after_sign b ws) AreSmall
sign_small b [] h = tt
sign_small b (words.Sign c ∷ rest) h = cond_both (eqb c b) (Some rest) None (λ o. IfSome o AreSmall) (λ _. h.1) (λ _. tt)
sign_small b (w ∷ rest) h = tt

after_all : {A : Type 0} (Q : A × List StatementToken → Type 0) (b : ℕ) (p : Reading A) (ws : List StatementToken) → AreSmall ws →
    ((rest : List StatementToken) → AreSmall rest → IfSome (p rest) Q) → IfSome (read_behind b p ws) Q
after_all Q b p ws h go = then_all AreSmall Q (after_sign b ws) p (sign_small b ws h) go

number_small : (ws : List StatementToken) → AreSmall ws → Left (number_first ws)
number_small [] h = tt
number_small (words.Number n ∷ rest) h = h.1
number_small (w ∷ rest) h = tt

register_small : (ws : List StatementToken) → AreSmall ws → IfSome (register_first ws) (λ x. IsRegister x.0)
register_small [] h = tt
register_small (words.Register r ∷ rest) h = h.0
register_small (w ∷ rest) h = tt

signed_small : (b : ℕ) (f : ℕ → Expression) (ws : List StatementToken) → AreSmall ws → Left (option_map (λ x. (f x.0, x.1)) (read_behind b number_first ws))
signed_small b f ws h = map_all (λ x. AreSmall x.1) (λ x. AreSmall x.1) _ (read_behind b number_first ws) (after_all (λ x. AreSmall x.1) b number_first ws h number_small) (λ x k. k)

named_expression_small : (kind : NameKind) (value : Option ℕ) (ws : List StatementToken) → AreSmall ws → Left (named_expression kind value ws)
named_expression_small kind value ws h =
    or_all {A = Expression × List StatementToken} (λ x. AreSmall x.1) _ _
    (or_all {A = Expression × List StatementToken} (λ x. AreSmall x.1) _ _ (signed_small 43 (plain (moved kind value)) ws h) (signed_small 45 (less (moved kind value)) ws h)) h

abbrev InRegister : Option ((Expression × ℕ) × List StatementToken) → Type 0
InRegister o = IfSome o (λ x. IsRegister x.0.1)

module _ (values : List ℕ → Option ℕ) (line : List ℕ) where
  expression_small : (ws : List StatementToken) → AreSmall ws → Left (expression values line ws)
  unfolding expression
  expression_small (words.Number n ∷ ws) h = h.1
  expression_small (words.Name kind i j ∷ ws) h = named_expression_small kind (values (bytes_between line i j)) ws h.1
  expression_small (words.Sign c ∷ ws) h = signed_small 45 (less bases.Number) (words.Sign c ∷ ws) h
  expression_small _ h = tt

  set_operands_small : (ws : List StatementToken) → AreSmall ws → InRegister (set_operands values line ws)
  unfolding set_operands
  set_operands_small ws h =
      then_all {B = (Expression × ℕ) × List StatementToken} (λ x. AreSmall x.1) (λ z. IsRegister z.0.1) (expression values line ws) _ (expression_small ws h)
      (λ x k. then_all {B = (Expression × ℕ) × List StatementToken} (λ y. IsRegister y.0) (λ z. IsRegister z.0.1) (read_behind 44 register_first x.1) _
      (after_all (λ y. IsRegister y.0) 44 register_first x.1 k register_small)
      (λ y r. map_all {B = (Expression × ℕ) × List StatementToken} (λ _. Unit {0}) (λ z. IsRegister z.0.1) _ (end y.1) (whatever _) (λ _ _. r)))

-- ---- instructions

abbrev pub AreSpelled : List Instr → Type 0
AreSpelled is = AllByRecursion (λ w. w < 2 ^ 32) (map spelling is)

abbrev Means : Result (List Instr) SyntaxFault → Type 0
Means r = IfOk r AreSpelled

unknown : {A : Type 0} (r : Result A SyntaxFault) → IfOk r (λ _. Unit {0})
unknown (Ok x) = tt
unknown (Err f) = tt

sethi_spelled : (w rd : ℕ) → IsRegister rd → IsWord (spelling (sethi w rd))
unfolding spelling
sethi_spelled w rd r = omega arith

or_spelled : (rs1 n rd : ℕ) → IsRegister rs1 → IsRegister rd → IsWord (spelling (or rs1 n rd))
unfolding spelling
or_spelled rs1 n rd s r = omega arith

set_spelled : (symbolic : Bool) (w rd : ℕ) → IsRegister rd → AreSpelled (set_instructions symbolic w rd)
set_spelled symbolic w rd r =
    cond_both (not symbolic && (ltb w 4096 || leb 4294963200 w)) (or 0 w rd ∷ []) _ AreSpelled (λ _. (or_spelled 0 w rd (omega arith) r, tt))
    (λ _. cond_both (not symbolic && eqb (w % 2 ^ 10) 0) (sethi w rd ∷ []) _ AreSpelled (λ _. (sethi_spelled w rd r, tt))
    (λ _. (sethi_spelled w rd r, (or_spelled rd (w % 2 ^ 10) rd r r, tt))))

-- what a word means is spelled with no bit more than the word's
meaning_spelled : (w : ℕ) → IsWord w → AreSpelled (meaning w ∷ [])
meaning_spelled w h = (let e = spelling-meaning w h in omega arith, tt)

filled_word : (f : Form) (condition n : ℕ) → IsWord (filled f condition n)
filled_word f condition n = omega arith

-- ---- statements

module _ (values : List ℕ → Option ℕ) (line : List ℕ) where
  set_means : (ws : List StatementToken) → AreSmall ws → Means (set values line ws)
  unfolding set
  set_means ws h =
      either_all (λ x. IsRegister x.0.1) Means (set_operands values line ws) _ _ (set_operands_small values line ws h)
      (λ x r. step_all (λ _. Unit {0}) AreSpelled (word_in ranges.Whole x.0.0) _ (unknown _) (λ w _. set_spelled (is_symbolic x.0.0.base) w x.0.1 r)) tt

  module _ (here : ℕ) where
    condition_word : (others : SyntaxFault → Result ℕ SyntaxFault) → ((g : SyntaxFault) → IfOk (others g) IsWord) → (fault : SyntaxFault) (f : Form) (ws : List StatementToken) (o : Option ℕ)
        → IfOk (of_condition values here line others fault f ws o) IsWord
    condition_word others each fault f ws (Some condition) =
        either_all (λ _. Unit {0}) Reads (operands_of values here line f.parts ws) _ _ (whatever _)
        (λ r _. step_all (λ _. Unit {0}) IsWord r.0 _ (unknown r.0) (λ n _. filled_word f condition n)) (each Shape)
    condition_word others each fault f ws None = each fault

    first_word : (fault : SyntaxFault) (fs : List Form) (name : List ℕ) (ws : List StatementToken) → IfOk (first_of values here line fault fs name ws) IsWord
    first_word fault [] name ws = tt
    first_word fault (f ∷ fs) name ws = condition_word _ (λ g. first_word g fs name ws) fault f ws (named f name)

    named_means : (name : List ℕ) (ws : List StatementToken) → AreSmall ws → Means (named_meaning values here line name ws)
    unfolding named_meaning
    named_means name ws h =
        cond_both (bytes_eq name (codes "set")) (set values line ws) _ Means (λ _. set_means ws h)
        (λ _. step_all IsWord AreSpelled (first_of values here line UnknownMnemonic forms name ws) _ (first_word UnknownMnemonic forms name ws) (λ w k. meaning_spelled w k))

    statement_means : (ws : List StatementToken) → AreSmall ws → Means (option_map_or (λ x. named_meaning values here line x.0 x.1) (name_first line ws) (Err UnknownMnemonic))
    statement_means (words.Name kind i j ∷ ws) h = named_means (bytes_between line i j) ws h.1
    statement_means _ h = tt

pub source_spelled : (values : List ℕ → Option ℕ) (here : ℕ) (line : List ℕ) (ts : List Token) → IfOk (source_meaning values here line ts) AreSpelled
source_spelled values here line ts = statement_means values line here (statement_tokens line ts) (words_are_small line ts)
