-- SETHI, RDY and WRY.
use Rattle.std.proofs.Common.{◌≡◌, ℕ, ◌<◌, List, [], ◌∷◌, ◌++◌, slice_index, slice_set}
use Rattle.std.proofs.Common.{Some, refl, sym, ap, ◌∙◌, subst, arith}
use Rattle.std.specs.Prelude.{◌==◌, ◌||◌, bit_xor}
use Rattle.std.proofs.lemmas.Grind.{get_or-set_at}
use Rattle.std.proofs.lemmas.List.{get_or-set_other, length-set}
use Rattle.v8_formats.specs.declared.instr.Two.{Two}
use Rattle.v8_formats.specs.declared.instr.Upper.{Upper}
use Rattle.v8_meaning.specs.Operands.{second}
use Rattle.v8_meaning.specs.declared.operation.Operation.TheVariants.{ReadY, SetHigh, WriteY}
use Rattle.sbx_image.specs.Parts.{Parts}
use Rattle.sbx_flat.specs.Effects.{high_word, operand_value, writes}
use Rattle.sbx_flat.specs.States.{State, Goes, advanced, reg, with_reg}
use Rattle.native_lang.specs.declared.expr.Expr.{Expr}
use Rattle.native_lang.specs.declared.expr.Expr.TheVariants.{Number, Variable}
use Rattle.native_lang.specs.declared.operator.Operator.TheVariants as operators
use Rattle.native_lang.specs.declared.stmt.Stmt.{Stmt}
use Rattle.native_lang.specs.declared.stmt.Stmt.TheVariants.{Set}
use Rattle.native_lang.specs.Values.{applied, value}
use Rattle.native_lang.specs.World.{World, sets}
use Rattle.native_results.specs.Operands.{IsOperand}
use Rattle.native_results.specs.ShowsState.{ShowsState, fresh_words}
use Rattle.native_results.specs.Words.{Adds, ComesTo}
use Rattle.native_words.specs.Accesses.{GoesTo}
use Rattle.native_words.proofs.Accessing.{second_shown}
use Rattle.native_words.proofs.Framing.{performed, written_by}
use Rattle.native_words.proofs.Loading.{assigned, assigned_shows, set_kept}
use Rattle.native_words.proofs.Shown.{moved_shows}
use Rattle.native_words.proofs.Storing.{word_of}

-- ---- a word that goes to its register

assigned_comes : (windows : ℕ) (parts : Parts) (w : World) (s next : State) (rd v : ℕ) (e : Expr) → rd < 32 → ShowsState parts w s → value w.variables e ≡ v →
    writes rd v s ≡ Goes next → GoesTo windows parts (assigned rd e) w next
assigned_comes windows parts w s next rd v e low shows is g =
    let last = assigned_shows windows parts w s rd e low shows in
    let goes : advanced (with_reg rd v s) ≡ next = written_by ((rd == 14) || (rd == 30)) (advanced (with_reg rd v s)) next g in
    record {
      new = last.new;
      done = last.done;
      shows = subst (λ t. ShowsState parts last.new t) goes (subst (λ n. ShowsState parts last.new (advanced (with_reg rd n s))) is last.shows);
      counts = last.counts;
      kept = last.kept;
    }

pub high_made : (f : Upper) (word : ℕ) → f.rd < 32 → word ≡ high_word f → (old new : List Stmt) → new ≡ old ++ assigned f.rd (Number word) → Adds (SetHigh f) old new
high_made f word low is old new stands = record {
  made = assigned f.rd (Number word);
  behind = stands;
  is = record {
    comes = λ windows parts s next w well shows g.
        let came = assigned_comes windows parts w s next f.rd (high_word f) (Number word) low shows is (performed parts (fresh_words w) (SetHigh f) s next g).1 in
        record { new = came.new; done = came.done; shows = came.shows; counts = came.counts; kept = came.kept };
  };
}

pub y_read : (rd : ℕ) → rd < 32 → (old new : List Stmt) → new ≡ old ++ assigned rd (Variable 36) → Adds (ReadY rd) old new
y_read rd low old new stands = record {
  made = assigned rd (Variable 36);
  behind = stands;
  is = record {
    comes = λ windows parts s next w well shows g.
        let came = assigned_comes windows parts w s next rd s.y (Variable 36) low shows shows.y (performed parts (fresh_words w) (ReadY rd) s next g).1 in
        record { new = came.new; done = came.done; shows = came.shows; counts = came.counts; kept = came.kept };
  };
}

-- ---- Y

y_shows : (parts : Parts) (w : World) (s : State) (v : ℕ) → ShowsState parts w s → ShowsState parts (sets 36 v w) (record s { y = v })
y_shows parts w s v h =
    let size = h.variables in
    let kept : (r : ℕ) → r < 36 → slice_index (slice_set w.variables 36 v) r ≡ slice_index w.variables r = λ r less. get_or-set_other w.variables 36 r v 0 (λ e. omega (arith, e, less)) in
    record {
      variables = length-set w.variables 36 v ∙ h.variables;
      registers = λ r less. h.registers r less ∙ sym (kept r (omega arith));
      icc = record { n = kept 32 (omega arith) ∙ h.icc.n; z = kept 33 (omega arith) ∙ h.icc.z; v = kept 34 (omega arith) ∙ h.icc.v; c = kept 35 (omega arith) ∙ h.icc.c };
      y = get_or-set_at w.variables 36 36 v 0 refl (omega (arith, size));
      windows = h.windows;
      block = h.block;
      block_bytes = h.block_bytes;
      slots = h.slots;
      memory = h.memory;
      input = h.input;
      output = h.output;
      pages = h.pages;
    }

module _ (f : Two) (first other e : Expr) (low : f.rs1 < 32) (is : IsOperand f.operand2) (holds_first : (v : List ℕ) → value v first ≡ slice_index v f.rs1)
    (holds_other : (v : List ℕ) → value v other ≡ second (slice_index v) f.operand2)
    (holds : (v : List ℕ) → value v e ≡ applied operators.Differing (value v first) (value v other)) where
  abbrev word_to : State → ℕ
  word_to s = bit_xor (reg s f.rs1) (operand_value s f.operand2)

  written_comes : (windows : ℕ) (parts : Parts) (s next : State) (w : World) → ShowsState parts w s → Goes (advanced (record s { y = word_to s })) ≡ Goes next →
      ComesTo windows parts (WriteY f) (Set 36 e ∷ []) w next
  written_comes windows parts s next w shows g =
      let same : value w.variables e ≡ word_to s =
      holds w.variables ∙ ap (λ n. bit_xor n (value w.variables other)) (holds_first w.variables ∙ word_of parts w s f.rs1 low shows)
      ∙ ap (bit_xor (reg s f.rs1)) (holds_other w.variables ∙ second_shown parts w s f.operand2 is shows) in
      let goes : advanced (record s { y = word_to s }) ≡ next = cc in
      record {
        new = sets 36 (word_to s) w;
        done = ap (λ n. Some (sets 36 n w)) same;
        shows = subst (λ t. ShowsState parts (sets 36 (word_to s) w) t) goes (moved_shows parts (sets 36 (word_to s) w) (record s { y = word_to s }) (y_shows parts w s (word_to s) shows));
        counts = refl;
        kept = λ x above below. set_kept w 36 (word_to s) x (λ t. omega (arith, t, above));
      }

  pub y_written : (old new : List Stmt) → new ≡ old ++ Set 36 e ∷ [] → Adds (WriteY f) old new
  y_written old new stands = record {
    made = Set 36 e ∷ [];
    behind = stands;
    is = record { comes = λ windows parts s next w well shows g. written_comes windows parts s next w shows (performed parts (fresh_words w) (WriteY f) s next g).1 };
  }
