-- Blocks that a transfer of control ends.
use Rattle.std.proofs.Common.{◌≡◌, ℕ, ◌+◌, ◌≤◌, ◌++◌, Bool, true, false, List, [], ◌∷◌, Option, Some, None, refl, sym, ap, ◌∙◌, subst, append_assoc, arith}
use Rattle.std.specs.Prelude.{◌==◌, not}
use Rattle.std.proofs.lemmas.List.{append-nil}
use Rattle.v8_word.specs.Conditions.{holds}
use Rattle.v8_word.specs.declared.Cond.{Cond}
use Rattle.v8_word.specs.declared.Cond.TheVariants.{Always, Never}
use Rattle.v8_word.specs.declared.Icc.{Icc}
use Rattle.v8_alu.specs.Results.{from_flag}
use Rattle.v8_formats.specs.declared.instr.Branch.{Branch}
use Rattle.v8_formats.specs.declared.instr.Three.{Three}
use Rattle.v8_meaning.specs.Operands.{is_always, is_never, target}
use Rattle.v8_meaning.specs.declared.operation.Operation.{Operation}
use Rattle.v8_meaning.specs.declared.operation.Operation.TheVariants.{BranchOnCondition, Call, JumpAndLink}
use Rattle.sbx_image.specs.Parts.{Parts}
use Rattle.native_lang.specs.declared.expr.Expr.{Expr}
use Rattle.native_lang.specs.declared.expr.Expr.TheVariants.{Number, Variable}
use Rattle.native_lang.specs.declared.program.BlockEnd.{BlockEnd}
use Rattle.native_lang.specs.declared.program.BlockEnd.TheVariants.{Goto, If}
use Rattle.native_lang.specs.declared.program.ProgramBlock.{ProgramBlock}
use Rattle.native_lang.specs.declared.stmt.Stmt.{Stmt}
use Rattle.native_lang.specs.declared.stmt.Stmt.TheVariants.{Set, Turns}
use Rattle.native_lang.specs.Values.{value}
use Rattle.native_results.specs.ShowsState.{ShowsCodes}
use Rattle.native_results.specs.Words.{Adds, is_straight}
use Rattle.native_ends.specs.Translations.{AsksFor, DetachedSlot, HasSlot, IsCondition, IsMadeSlot, IsMadeUnless, Labelled, LiesIn, Makes, behind, is_decided, turns_of}
use Rattle.native_ends.specs.Translations as makes
use Rattle.native_flow.specs.Making.{HasEdge, IsMade, Stands, counted, due, left}
use Rattle.native_flow.specs.Transfers.{AddsSlot, IsAsking, IsBranched, IsDecided, IsDetaching, SlotThen}
use Rattle.native_flow.specs.declared.blocks.BlockMaking.{BlockMaking}
use Rattle.native_flow.specs.declared.transfers.Branched.{Branched}
use Rattle.native_flow.proofs.Making.{counted_more, due_makes, ends_so}

-- ---- slots

pub no_slot : (op : Operation) (list : List Stmt) → is_straight op ≡ false → AddsSlot op list list
no_slot op list not_straight = record { made = []; behind = sym (append-nil list); is = λ straight. absurd (cc) }

pub slot_added : (op : Operation) (old new : List Stmt) → Adds op old new → AddsSlot op old new
slot_added op old new h = record { made = h.made; behind = h.behind; is = λ straight. h.is }

pub annulled_then : (op : Operation) (annul : Bool) (m : BlockMaking) (statements : List Stmt) → annul ≡ true → statements ≡ m.statements.list.items ++ counted m.turns → SlotThen annul op m statements
annulled_then op annul m statements e at = subst (λ b. SlotThen b op m statements) (sym e) (record { made = []; is = refl; behind = at })

pub slot_then : (op : Operation) (annul : Bool) (m mid : BlockMaking) (statements : List Stmt) → annul ≡ false → AddsSlot op m.statements.list.items mid.statements.list.items → mid.turns ≡ m.turns →
    statements ≡ mid.statements.list.items ++ counted mid.turns → SlotThen annul op m statements
slot_then op annul m mid statements e h same at = subst (λ b. SlotThen b op m statements) (sym e) (record {
  made = h.made;
  is = h.is;
  behind = at ∙ ap (λ t. mid.statements.list.items ++ counted t) same ∙ ap (λ l. l ++ counted m.turns) h.behind ∙ append_assoc m.statements.list.items h.made (counted m.turns);
})

pub edge_made : (op : Operation) (start list statements : List Stmt) (turns : ℕ) → start ≡ [] → turns ≡ 0 → AddsSlot op start list → statements ≡ list ++ counted turns → IsMadeSlot op statements
edge_made op start list statements turns none zero h at =
    let e : statements ≡ h.made = at ∙ ap (λ t. list ++ counted t) zero ∙ append-nil list ∙ h.behind ∙ ap (λ l. l ++ h.made) none in
    subst (IsMadeSlot op) (sym e) h.is

-- ---- conditions

pub undecided : (cond : Cond) → (cond ≡ Never → ⊥) → (cond ≡ Always → ⊥) → is_decided cond ≡ false
undecided Never never always = absurd (never refl)
undecided Always never always = absurd (always refl)
undecided _ never always = refl

flag_zero : (b : Bool) → (from_flag b == 0) ≡ not b
flag_zero true = refl
flag_zero false = refl

pub is_condition : (cond : Cond) (e : Expr) → ((v : List ℕ) (icc : Icc) → ShowsCodes v icc → value v e ≡ from_flag (holds cond icc)) → IsCondition cond e
is_condition cond e same v icc shows = ap (λ n. n == 0) (same v icc shows) ∙ flag_zero (holds cond icc)

-- ---- a transfer, from the place where its turns were noted

-- behind what was due
pub record Noted (old mid : BlockMaking) (more : ℕ) : Type 0 where
  pub at : mid.statements.list.items ≡ old.statements.list.items ++ due old.turns
  pub turns : mid.turns ≡ left old.turns + more

module _ (parts : Parts) (labels : Labelled) (f start : ℕ) (some : Bool) (a : ℕ) (old mid : BlockMaking) (block : ProgramBlock) where
  -- what stands behind what was due is the rest of the block
  pub closes : (more : ℕ) (rest : List Stmt) (end : BlockEnd) (d : Option DetachedSlot) → Noted old mid more → block.statements.items ≡ mid.statements.list.items ++ rest → block.end ≡ end →
      Stands parts labels f start some a old → Makes parts labels f some a (left old.turns) rest end d → IsMade parts labels f start block d
  closes more rest end d noted at is stands h =
      ends_so parts labels f start some a old (due old.turns ++ rest) end d block (at ∙ ap (λ l. l ++ rest) noted.at ∙ append_assoc old.statements.list.items (due old.turns) rest) is stands
      (due_makes parts labels f some a rest end d old.turns h)

  more_counted : (more : ℕ) → 1 ≤ more → Noted old mid more → counted mid.turns ≡ Turns (left old.turns + more) ∷ []
  more_counted more one noted = counted_more mid.turns (left old.turns) more noted.turns one

pub jumps_so : (parts : Parts) (labels : Labelled) (f start label : ℕ) (some : Bool) (a : ℕ) (b : Branch) (slot : Operation) (old mid : BlockMaking) (branched : Branched) → Noted old mid 2 →
    AsksFor parts a (BranchOnCondition b) → HasSlot parts a slot → is_always b.cond ≡ true → Stands parts labels f start some a old →
    IsDecided b.annul slot (labels.at (target a b.displacement)) mid branched → IsBranched parts labels f start label branched
jumps_so parts labels f start label some a b slot old mid branched noted asks has always stands h = record {
  detached = None;
  is = closes parts labels f start some a old mid branched.block 2 (h.block.made ++ Turns (left old.turns + 2) ∷ []) (Goto (labels.at (target a b.displacement))) None noted
      (h.block.behind ∙ ap (λ l. mid.statements.list.items ++ (h.block.made ++ l)) (more_counted parts labels f start some a old mid branched.block 2 (omega arith) noted)) h.ends stands
      (makes.jumps some a (left old.turns) b slot h.block.made asks always has h.block.is);
  edge = subst (HasEdge label None) (sym h.edge) tt;
}

pub passes_so : (parts : Parts) (labels : Labelled) (f start label : ℕ) (some : Bool) (a : ℕ) (b : Branch) (slot : Operation) (old mid : BlockMaking) (branched : Branched) → Noted old mid 2 →
    AsksFor parts a (BranchOnCondition b) → HasSlot parts a slot → is_never b.cond ≡ true → Stands parts labels f start some a old →
    IsDecided b.annul slot (labels.at (behind a)) mid branched → IsBranched parts labels f start label branched
passes_so parts labels f start label some a b slot old mid branched noted asks has never stands h = record {
  detached = None;
  is = closes parts labels f start some a old mid branched.block 2 (h.block.made ++ Turns (left old.turns + 2) ∷ []) (Goto (labels.at (behind a))) None noted
      (h.block.behind ∙ ap (λ l. mid.statements.list.items ++ (h.block.made ++ l)) (more_counted parts labels f start some a old mid branched.block 2 (omega arith) noted)) h.ends stands
      (makes.passes some a (left old.turns) b slot h.block.made asks never has h.block.is);
  edge = subst (HasEdge label None) (sym h.edge) tt;
}

pub asks_so : (parts : Parts) (labels : Labelled) (f start label : ℕ) (some : Bool) (a : ℕ) (b : Branch) (slot : Operation) (old mid : BlockMaking) (branched : Branched) → Noted old mid 2 →
    AsksFor parts a (BranchOnCondition b) → HasSlot parts a slot → is_decided b.cond ≡ false → b.annul ≡ false → Stands parts labels f start some a old →
    IsAsking b a slot labels mid branched → IsBranched parts labels f start label branched
asks_so parts labels f start label some a b slot old mid branched noted asks has both annul stands h = record {
  detached = None;
  is = closes parts labels f start some a old mid branched.block 2 (Set 43 h.asked ∷ h.made ++ Turns (left old.turns + 2) ∷ [])
      (If (Variable 43) (labels.at (target a b.displacement)) (labels.at (behind a))) None noted
      (h.block ∙ ap (λ l. mid.statements.list.items ++ (Set 43 h.asked ∷ (h.made ++ l))) (more_counted parts labels f start some a old mid branched.block 2 (omega arith) noted)) h.ends stands
      (makes.asks some a (left old.turns) b slot h.made h.asked asks both annul h.is has h.slot_made);
  edge = subst (HasEdge label None) (sym h.edge) tt;
}

pub detaches_so : (parts : Parts) (labels : Labelled) (f start label : ℕ) (some : Bool) (a : ℕ) (b : Branch) (slot : Operation) (old mid : BlockMaking) (branched : Branched) → Noted old mid 2 →
    AsksFor parts a (BranchOnCondition b) → HasSlot parts a slot → is_decided b.cond ≡ false → b.annul ≡ true → Stands parts labels f start some a old →
    IsDetaching b a slot labels label mid branched → IsBranched parts labels f start label branched
detaches_so parts labels f start label some a b slot old mid branched noted asks has both annul stands h =
    let d : DetachedSlot = record { label = label; made = h.made.statements.items; goes = labels.at (target a b.displacement) } in
    record {
      detached = Some d;
      is = closes parts labels f start some a old mid branched.block 2 (Turns (left old.turns + 2) ∷ []) (If h.asked label (labels.at (behind a))) (Some d) noted
          (h.block ∙ ap (λ l. mid.statements.list.items ++ l) (more_counted parts labels f start some a old mid branched.block 2 (omega arith) noted)) h.ends stands
          (makes.detaches some a (left old.turns) label b slot h.made.statements.items h.asked asks both annul h.is has h.slot_made);
      edge = subst (HasEdge label (Some d)) (sym h.edge) (record { at = refl; made = refl; goes = h.goes });
    }

pub calls_so : (parts : Parts) (labels : Labelled) (f start : ℕ) (some : Bool) (a displacement : ℕ) (slot : Operation) (old mid with_call : BlockMaking) (block : ProgramBlock) → Noted old mid 2 →
    AsksFor parts a (Call displacement) → HasSlot parts a slot → with_call.statements.list.items ≡ mid.statements.list.items ++ Set 15 (Number a) ∷ [] → with_call.turns ≡ mid.turns →
    Stands parts labels f start some a old → SlotThen false slot with_call block.statements.items → block.end ≡ Goto (labels.at (target a displacement)) → IsMade parts labels f start block None
calls_so parts labels f start some a displacement slot old mid with_call block noted asks has set same stands h ends =
    closes parts labels f start some a old mid block 2 (Set 15 (Number a) ∷ h.made ++ Turns (left old.turns + 2) ∷ []) (Goto (labels.at (target a displacement))) None noted
    (h.behind ∙ ap (λ l. l ++ (h.made ++ counted with_call.turns)) set ∙ append_assoc mid.statements.list.items (Set 15 (Number a) ∷ []) (h.made ++ counted with_call.turns)
    ∙ ap (λ t. mid.statements.list.items ++ (Set 15 (Number a) ∷ (h.made ++ counted t))) same
    ∙ ap (λ l. mid.statements.list.items ++ (Set 15 (Number a) ∷ (h.made ++ l))) (more_counted parts labels f start some a old mid block 2 (omega arith) noted)) ends stands
    (makes.calls some a (left old.turns) displacement slot h.made asks has h.is)

plus_one : (n more t : ℕ) → more ≡ 1 + t → n + more ≡ n + 1 + t
plus_one n more t e = omega (arith, e)

pub returns_so : (parts : Parts) (labels : Labelled) (f start : ℕ) (some : Bool) (a more : ℕ) (jump : Three) (slot : Operation) (old mid with_return : BlockMaking) (block : ProgramBlock) (r : ℕ) →
    Noted old mid more → more ≡ 1 + turns_of slot → r ≡ jump.rs1 → AsksFor parts a (JumpAndLink jump) → LiesIn parts f a → HasSlot parts a slot →
    with_return.statements.list.items ≡ mid.statements.list.items ++ Set 44 (Variable r) ∷ [] → with_return.turns ≡ mid.turns → Stands parts labels f start some a old →
    SlotThen false slot with_return block.statements.items → block.end ≡ Goto (labels.returns f) → IsMade parts labels f start block None
returns_so parts labels f start some a more jump slot old mid with_return block r noted count is asks lies has set same stands h ends =
    closes parts labels f start some a old mid block more (Set 44 (Variable jump.rs1) ∷ h.made ++ Turns (left old.turns + 1 + turns_of slot) ∷ []) (Goto (labels.returns f)) None noted
    (h.behind ∙ ap (λ l. l ++ (h.made ++ counted with_return.turns)) set ∙ append_assoc mid.statements.list.items (Set 44 (Variable r) ∷ []) (h.made ++ counted with_return.turns)
    ∙ ap (λ x. mid.statements.list.items ++ (Set 44 (Variable x) ∷ (h.made ++ counted with_return.turns))) is
    ∙ ap (λ t. mid.statements.list.items ++ (Set 44 (Variable jump.rs1) ∷ (h.made ++ counted t))) same
    ∙ ap (λ l. mid.statements.list.items ++ (Set 44 (Variable jump.rs1) ∷ (h.made ++ l))) (more_counted parts labels f start some a old mid block more (omega (arith, count)) noted)
    ∙ ap (λ t. mid.statements.list.items ++ (Set 44 (Variable jump.rs1) ∷ (h.made ++ Turns t ∷ []))) (plus_one (left old.turns) more (turns_of slot) count)) ends stands
    (makes.returns some a (left old.turns) jump slot h.made asks lies has h.is)
