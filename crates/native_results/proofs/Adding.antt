-- The law of words that write a register.
use Rattle.std.proofs.Common.{◌≡◌, ℕ, ◌^◌, ◌<◌, ◌≤◌, ◌++◌, Bool, true, false, List, [], ◌∷◌, Some, length, slice_index, slice_set, refl, sym, ap, ◌∙◌, subst, append_assoc, arith}
use Rattle.std.specs.Prelude.{◌==◌, ◌||◌, if◌then◌else◌}
use Rattle.v8_word.specs.declared.Icc.{Icc}
use Rattle.v8_alu.specs.Outcomes.{out, outcome}
use Rattle.v8_alu.specs.declared.AluOut.{AluOut}
use Rattle.v8_alu.specs.declared.Op.{Op}
use Rattle.v8_formats.specs.declared.instr.Operand.{Operand}
use Rattle.v8_formats.specs.declared.instr.Operand.TheVariants.{Immediate, Register}
use Rattle.v8_formats.specs.declared.instr.Three.{Three}
use Rattle.v8_meaning.specs.Admitted.{is_admitted}
use Rattle.v8_meaning.specs.Operands.{second}
use Rattle.v8_meaning.specs.declared.operation.Operation.{Operation}
use Rattle.v8_meaning.specs.declared.operation.Operation.TheVariants.{Compute}
use Rattle.sbx_image.specs.Parts.{Parts}
use Rattle.sbx_flat.specs.Effects.{operand_value, performs, writes, writes_result}
use Rattle.sbx_flat.specs.States.{State, Goes, Fails, advanced, reg, with_reg}
use Rattle.sbx_flat.specs.WellFormed.{IsWellFormed}
use Rattle.sbx_flat.specs.declared.path.Traffic.{Traffic}
use Rattle.sbx_flat.specs.declared.path.Wrong.{Wrong}
use Rattle.sbx_flat.proofs.Kept.{word_small}
use Rattle.native_lang.specs.declared.expr.Expr.{Expr}
use Rattle.native_lang.specs.declared.expr.Expr.TheVariants.{Variable}
use Rattle.native_lang.specs.declared.operator.Operator.{Operator}
use Rattle.native_lang.specs.declared.stmt.Stmt.{Stmt}
use Rattle.native_lang.specs.declared.stmt.Stmt.TheVariants.{Set}
use Rattle.native_lang.specs.Values.{applied, value}
use Rattle.native_lang.specs.World.{World}
use Rattle.native_results.specs.Bench.{Bench, Has, Makes, WorksTo, bench_of, laid_out}
use Rattle.native_results.specs.DoesAll.{does_all, then_on}
use Rattle.native_results.specs.Operands.{IsOperand}
use Rattle.native_results.specs.Recipes.{IsRecipe, followed}
use Rattle.native_results.specs.declared.recipes.Recipe.{Recipe}
use Rattle.native_results.specs.ShowsState.{ShowsState, fresh_words}
use Rattle.native_results.specs.Words.{Adds, counts_after}
use Rattle.native_results.proofs.Making.{bench_put, does_append, long, other, put}
use Rattle.native_results.proofs.Shown.{assigned, assigned_shown, turned_over}

-- ---- statements that end with a register

abbrev pub to_register : ℕ → Expr → List Stmt
to_register rd e = if rd == 0 then [] else Set rd e ∷ []

last_by : (windows : ℕ) (b : Bool) (rd : ℕ) (e : Expr) (w : World) →
    does_all windows (if b then [] else Set rd e ∷ []) w ≡ Some (record w { variables = if b then w.variables else slice_set w.variables rd (value w.variables e) })
last_by windows true rd e w = refl
last_by windows false rd e w = refl

pub last_does : (windows : ℕ) (rd : ℕ) (e : Expr) (w : World) →
    does_all windows (to_register rd e) w ≡ Some (record w { variables = assigned rd (value w.variables e) w.variables })
last_does windows rd e w = last_by windows (rd == 0) rd e w

assigned_kept : (b : Bool) (rd word : ℕ) (v : List ℕ) (x : ℕ) → rd < 32 → 43 ≤ x → slice_index (if b then v else slice_set v rd word) x ≡ slice_index v x
assigned_kept true rd word v x low above = refl
assigned_kept false rd word v x low above = other v rd word x (λ e. omega (arith, e, low, above))

-- ---- what comes where a state goes on

goes_by : (b : Bool) (why : Wrong) (t next : State) → (if b then Fails why else Goes t) ≡ Goes next → next ≡ t
goes_by true why t next e = absurd (cc)
goes_by false why t next e = cc

pub wrote_next : (rd word : ℕ) (s next : State) → writes rd word s ≡ Goes next → next ≡ advanced (with_reg rd word s)
wrote_next rd word s next e = goes_by ((rd == 14) || (rd == 30)) _ (advanced (with_reg rd word s)) next e

abbrev pub CountsNone : Operation → Type 0
CountsNone op = (windows : ℕ) (t : Traffic) → counts_after windows op t ≡ t

-- ---- an expression's value goes to a register

abbrev pub WritesValue : Operation → ℕ → Expr → Type 0
WritesValue op rd e = (parts : Parts) (s next : State) (w : World) → IsWellFormed parts.stack_pages s → ShowsState parts w s →
    performs parts (fresh_words w) op s ≡ Goes next → next ≡ advanced (with_reg rd (value w.variables e) s)

pub adds_value : (op : Operation) (rd : ℕ) (e : Expr) (old new : List Stmt) → rd < 32 → CountsNone op → WritesValue op rd e →
    new ≡ old ++ to_register rd e → Adds op old new
adds_value op rd e old new low counts means at = record {
  made = to_register rd e;
  behind = at;
  is = record {
    comes = λ windows parts s next w formed shows goes. record {
      new = record w { variables = assigned rd (value w.variables e) w.variables };
      done = last_does windows rd e w;
      shows = subst (ShowsState parts (record w { variables = assigned rd (value w.variables e) w.variables })) (sym (means parts s next w formed shows goes))
          (assigned_shown parts w s rd (value w.variables e) low shows);
      counts = sym (counts windows w.counts);
      kept = λ x above below. assigned_kept (rd == 0) rd (value w.variables e) w.variables x low above;
    };
  };
}

-- ---- a result with its codes and Y

abbrev pub result_of : AluOut → State → State
result_of o s = record s { icc = o.icc; y = o.y }

-- what a bench shows of a state that goes on
pub record HasNext (rd : ℕ) (s next : State) (k : Bench) : Type 0 where
  pub out : AluOut
  pub has : Has out k
  pub is : next ≡ advanced (with_reg rd out.value (result_of out s))

-- Statements come to such a bench.
pub record Lands (windows rd : ℕ) (made : List Stmt) (w : World) (s next : State) : Type 0 where
  pub bench : Bench
  pub works : WorksTo windows made w bench
  pub has : HasNext rd s next bench

abbrev pub LandsAll : Operation → ℕ → List Stmt → Type 0
LandsAll op rd made = (windows : ℕ) (parts : Parts) (s next : State) (w : World) → IsWellFormed parts.stack_pages s → ShowsState parts w s →
    performs parts (fresh_words w) op s ≡ Goes next → Lands windows rd made w s next

abbrev pub WritesBench : Operation → ℕ → (List ℕ → Bench) → Type 0
WritesBench op rd f = (parts : Parts) (s next : State) (w : World) → IsWellFormed parts.stack_pages s → ShowsState parts w s →
    performs parts (fresh_words w) op s ≡ Goes next → HasNext rd s next (f w.variables)

bench_shown : (parts : Parts) (w : World) (s : State) (v : List ℕ) (k : Bench) (o : AluOut) → ShowsState parts w s → length v ≡ 256 →
    ((r : ℕ) → r < 32 → slice_index v r ≡ slice_index w.variables r) → bench_of v ≡ k → Has o k → ShowsState parts (record w { variables = v }) (result_of o s)
bench_shown parts w s v k o h size registers is has = turned_over parts w s v o.icc o.y h size registers
    (record { n = ap (λ (b : Bench). b.n) is ∙ has.n; z = ap (λ (b : Bench). b.z) is ∙ has.z; v = ap (λ (b : Bench). b.v) is ∙ has.v; c = ap (λ (b : Bench). b.c) is ∙ has.c })
    (ap (λ (b : Bench). b.y) is ∙ has.y)

pub adds_landing : (op : Operation) (rd : ℕ) (made old mid new : List Stmt) → rd < 32 → CountsNone op → LandsAll op rd made → mid ≡ old ++ made →
    new ≡ mid ++ to_register rd (Variable 42) → Adds op old new
adds_landing op rd made old mid new low counts lands first at = record {
  made = made ++ to_register rd (Variable 42);
  behind = at ∙ ap (λ l. l ++ to_register rd (Variable 42)) first ∙ append_assoc old made (to_register rd (Variable 42));
  is = record {
    comes = λ windows parts s next w formed shows goes.
        let l = lands windows parts s next w formed shows goes in
        let a = l.works in
        let m = l.has in
        let v = a.variables in
        let mid_shown = bench_shown parts w s v l.bench m.out shows a.size a.registers a.is m.has in
        let word : slice_index v 42 ≡ m.out.value = ap (λ (b : Bench). b.result) a.is ∙ m.has.result in
        record {
          new = record w { variables = assigned rd (slice_index v 42) v };
          done = does_append windows made (to_register rd (Variable 42)) w ∙ ap (λ o. then_on o (does_all windows (to_register rd (Variable 42)))) a.done
              ∙ last_does windows rd (Variable 42) (record w { variables = v });
          shows = subst (ShowsState parts (record w { variables = assigned rd (slice_index v 42) v }))
              (ap (λ n. advanced (with_reg rd n (result_of m.out s))) word ∙ sym m.is)
              (assigned_shown parts (record w { variables = v }) (result_of m.out s) rd (slice_index v 42) low mid_shown);
          counts = sym (counts windows w.counts);
          kept = λ x above below. assigned_kept (rd == 0) rd (slice_index v 42) v x low above ∙ a.kept x above below;
        };
  };
}

pub adds_bench : (op : Operation) (rd : ℕ) (f : List ℕ → Bench) (old mid new : List Stmt) → rd < 32 → CountsNone op → WritesBench op rd f → Makes f old mid →
    new ≡ mid ++ to_register rd (Variable 42) → Adds op old new
adds_bench op rd f old mid new low counts means first at = adds_landing op rd first.made old mid new low counts
    (λ windows parts s next w formed shows goes. record {
      bench = f w.variables;
      works = first.works windows w shows.variables;
      has = means parts s next w formed shows goes;
    }) first.behind at

-- ---- operands

pub register_shown : (parts : Parts) (w : World) (s : State) (r : ℕ) → r < 32 → ShowsState parts w s → slice_index w.variables r ≡ reg s r
unfolding reg
register_shown parts w s r low h = sym (h.registers r low)

pub operand_shown : (parts : Parts) (w : World) (s : State) (o : Operand) → IsOperand o → ShowsState parts w s → second (slice_index w.variables) o ≡ operand_value s o
operand_shown parts w s (Register r) is h = register_shown parts w s r is h
operand_shown parts w s (Immediate n) is h = refl

pub register_word : (pages : ℕ) (s : State) (r : ℕ) → IsWellFormed pages s → reg s r < 2 ^ 32
unfolding reg
register_word pages s r formed = word_small s.registers r formed.calls.words

pub operand_word : (pages : ℕ) (s : State) (o : Operand) → IsOperand o → IsWellFormed pages s → operand_value s o < 2 ^ 32
operand_word pages s (Register r) is formed = register_word pages s r formed
operand_word pages s (Immediate n) is formed = is

-- the operands of a word on the bench
abbrev pub with_operands : Three → List ℕ → Bench
with_operands f v = record (bench_of v) { first = slice_index v f.rs1; second = second (slice_index v) f.operand2 }

-- another variable than a register's is set
same_second : (v : List ℕ) (word : ℕ) (o : Operand) → IsOperand o → second (slice_index (slice_set v 40 word)) o ≡ second (slice_index v) o
same_second v word (Register r) low = other v 40 word r (λ e. omega (arith, e, low))
same_second v word (Immediate n) small = refl

pub lays_out : (f : Three) (a b : Expr) (old mid new : List Stmt) → IsOperand f.operand2 → mid ≡ old ++ Set 40 a ∷ [] → new ≡ mid ++ Set 41 b ∷ [] →
    ((v : List ℕ) → value v a ≡ slice_index v f.rs1) → ((v : List ℕ) → value v b ≡ second (slice_index v) f.operand2) → Makes (with_operands f) old new
lays_out f a b old mid new is first next ea eb = record {
  made = Set 40 a ∷ Set 41 b ∷ [];
  behind = next ∙ ap (λ l. l ++ Set 41 b ∷ []) first ∙ append_assoc old (Set 40 a ∷ []) (Set 41 b ∷ []);
  works = λ windows w size.
      let v = w.variables in
      let v1 = slice_set v 40 (value v a) in
      let size1 : length v1 ≡ 256 = long v 40 (value v a) size in
      record {
        variables = slice_set v1 41 (value v1 b);
        done = refl;
        size = long v1 41 (value v1 b) size1;
        registers = λ r less. other v1 41 (value v1 b) r (λ e. omega (arith, e, less)) ∙ other v 40 (value v a) r (λ e. omega (arith, e, less));
        kept = λ x above below. other v1 41 (value v1 b) x (λ e. omega (arith, e, above)) ∙ other v 40 (value v a) x (λ e. omega (arith, e, above));
        is = bench_put v1 41 (value v1 b) size1 (omega arith) ∙ ap (put 41 (value v1 b)) (bench_put v 40 (value v a) size (omega arith))
            ∙ ap (λ x. put 41 (value v1 b) (put 40 x (bench_of v))) (ea v)
            ∙ ap (λ x. put 41 x (put 40 (slice_index v f.rs1) (bench_of v))) (eb v1 ∙ same_second v (value v a) f.operand2 is);
      };
}

pub operands_laid_out : (parts : Parts) (w : World) (s : State) (f : Three) → f.rs1 < 32 → IsOperand f.operand2 → ShowsState parts w s →
    with_operands f w.variables ≡ laid_out (bench_of w.variables) (reg s f.rs1) (operand_value s f.operand2) s.icc s.y
operands_laid_out parts w s f low is h = λ i. record (bench_of w.variables) {
  first = register_shown parts w s f.rs1 low h i;
  second = operand_shown parts w s f.operand2 is h i;
  n = h.icc.n i;
  z = h.icc.z i;
  v = h.icc.v i;
  c = h.icc.c i;
  y = h.y i;
}

-- ---- operations with a result for all operands

pub computes : (op : Op) (f : Three) (recipe : Recipe) (old mid new : List Stmt) → f.rd < 32 → f.rs1 < 32 → IsOperand f.operand2 → IsRecipe op recipe →
    Makes (λ v. followed recipe (with_operands f v)) old mid → new ≡ mid ++ to_register f.rd (Variable 42) → Adds (Compute op f) old new
unfolding is_admitted
computes op f recipe old mid new low first is gives made at = adds_bench (Compute op f) f.rd (λ v. followed recipe (with_operands f v)) old mid new low (λ windows t. refl)
    (λ parts s next w formed shows goes.
    let a = reg s f.rs1 in
    let b = operand_value s f.operand2 in
    record {
      out = outcome op a b s.icc s.y;
      has = subst (Has (outcome op a b s.icc s.y)) (sym (ap (followed recipe) (operands_laid_out parts w s f first is shows)))
          (gives.gives a b s.y s.icc (bench_of w.variables) (register_word parts.stack_pages s f.rs1 formed) (operand_word parts.stack_pages s f.operand2 is formed) formed.y);
      is = wrote_next f.rd (outcome op a b s.icc s.y).value (result_of (outcome op a b s.icc s.y) s) next goes;
    }) made at

pub computes_alone : (op : Op) (f : Three) (operator : Operator) (e : Expr) (old new : List Stmt) → f.rd < 32 → f.rs1 < 32 → IsOperand f.operand2 →
    ((a b y : ℕ) (icc : Icc) → outcome op a b icc y ≡ out (applied operator a b) icc y) →
    ((v : List ℕ) → value v e ≡ applied operator (slice_index v f.rs1) (second (slice_index v) f.operand2)) →
    new ≡ old ++ to_register f.rd e → Adds (Compute op f) old new
unfolding is_admitted
computes_alone op f operator e old new low first is alone same at = adds_value (Compute op f) f.rd e old new low (λ windows t. refl)
    (λ parts s next w formed shows goes.
    let a = reg s f.rs1 in
    let b = operand_value s f.operand2 in
    let word : value w.variables e ≡ applied operator a b = same w.variables ∙ ap (λ x. applied operator x (second (slice_index w.variables) f.operand2)) (register_shown parts w s f.rs1 first shows)
    ∙ ap (applied operator a) (operand_shown parts w s f.operand2 is shows) in
    wrote_next f.rd (applied operator a b) s next (sym (ap (λ o. writes_result f.rd o s) (alone a b s.y s.icc)) ∙ goes)
    ∙ ap (λ n. advanced (with_reg f.rd n s)) (sym word)) at
