-- How a block that is being made goes on.
use Rattle.std.proofs.Common.{◌≡◌, ℕ, ◌+◌, ◌≤◌, ◌⊎◌, ◌++◌, Bool, true, false, List, [], ◌∷◌, Option, Some, None, Result, Ok, Err, refl, sym, ap, ◌∙◌, subst, append_assoc, arith}
use Rattle.std.specs.Prelude.{◌==◌, IfOk, if◌then◌else◌}
use Rattle.std.proofs.lemmas.Bool.Decides.{nat_tests}
use Rattle.std.proofs.lemmas.List.{append-nil}
use Rattle.v8_formats.specs.declared.instr.Trap.{Trap}
use Rattle.v8_meaning.specs.Operands.{following}
use Rattle.v8_meaning.specs.declared.operation.Operation.{Operation}
use Rattle.v8_meaning.specs.declared.operation.Operation.TheVariants.{TrapOnCondition}
use Rattle.sbx_image.specs.Order.{code_end}
use Rattle.sbx_image.specs.Parts.{Parts}
use Rattle.sbx_flat.specs.Effects.{service_of}
use Rattle.native_lang.specs.declared.expr.Expr.TheVariants.{Variable}
use Rattle.native_lang.specs.declared.program.BlockEnd.{BlockEnd}
use Rattle.native_lang.specs.declared.program.BlockEnd.TheVariants.{Exit, Goto}
use Rattle.native_lang.specs.declared.program.ProgramBlock.{ProgramBlock}
use Rattle.native_lang.specs.declared.stmt.Stmt.{Stmt}
use Rattle.native_lang.specs.declared.stmt.Stmt.TheVariants.{Get, Put, Turns}
use Rattle.native_results.specs.Words.{Adds, is_straight}
use Rattle.native_ends.specs.Translations.{AsksFor, Begins, DetachedSlot, Labelled, Makes, is_put, turns_of}
use Rattle.native_ends.specs.Translations as makes
use Rattle.native_flow.specs.Making.{IsMade, Passes, Stands, counted, due, is_due, left}
use Rattle.native_flow.specs.declared.blocks.BlockMaking.{BlockMaking}

pub on_ok : {A E : Type 0} {P Q : A → Type 0} (r : Result A E) → ((a : A) → P a → Q a) → IfOk r P → IfOk r Q
on_ok (Ok a) f h = f a h
on_ok (Err e) f h = tt

pub both : {A E : Type 0} {P Q R : A → Type 0} (r : Result A E) → ((a : A) → P a → Q a → R a) → IfOk r P → IfOk r Q → IfOk r R
both (Ok a) f p q = f a p q
both (Err e) f p q = tt

-- ---- turns

is_zero : (n : ℕ) → (n == 0) ≡ true → n ≡ 0
is_zero n e = grind (arith, nat_tests)

module _ (parts : Parts) (labels : Labelled) (f : ℕ) (some : Bool) (a : ℕ) (rest : List Stmt) (end : BlockEnd) (d : Option DetachedSlot) where
  counted_by : (t : ℕ) (b : Bool) → (t == 0) ≡ b → Makes parts labels f some a 0 rest end d → Makes parts labels f some a t ((if b then [] else Turns t ∷ []) ++ rest) end d
  counted_by t true e h = subst (λ n. Makes parts labels f some a n rest end d) (sym (is_zero t e)) h
  counted_by t false e h = makes.counts some a t rest end d h

  pub counted_makes : (t : ℕ) → Makes parts labels f some a 0 rest end d → Makes parts labels f some a t (counted t ++ rest) end d
  counted_makes t h = counted_by t (t == 0) refl h

  due_by : (t : ℕ) (b : Bool) → Makes parts labels f some a (if b then 0 else t) rest end d → Makes parts labels f some a t ((if b then counted t else []) ++ rest) end d
  due_by t true h = counted_makes t h
  due_by t false h = h

  pub due_makes : (t : ℕ) → Makes parts labels f some a (left t) rest end d → Makes parts labels f some a t (due t ++ rest) end d
  due_makes t h = due_by t (is_due t) h

-- ---- on

-- statements behind those that were there
pub stands_on : (parts : Parts) (labels : Labelled) (f start : ℕ) (some later : Bool) (a next : ℕ) (old new : BlockMaking) (made : List Stmt) →
    new.statements.list.items ≡ old.statements.list.items ++ made →
    ((rest : List Stmt) (end : BlockEnd) (d : Option DetachedSlot) → Makes parts labels f later next new.turns rest end d → Makes parts labels f some a old.turns (made ++ rest) end d) →
    Stands parts labels f start some a old → Stands parts labels f start later next new
stands_on parts labels f start some later a next old new made at makes_so stands = record {
  goes_on = λ rest end d h.
      subst (λ l. Makes parts labels f false start 0 l end d) (sym (ap (λ l. l ++ rest) at ∙ append_assoc old.statements.list.items made rest))
      (stands.goes_on (made ++ rest) end d (makes_so rest end d h));
}

-- a word that counts a turn, behind those that were due
pub passes_counted : (op : Operation) (old mid new : BlockMaking) → turns_of op ≡ 1 → is_straight op ≡ true →
    mid.statements.list.items ≡ old.statements.list.items ++ due old.turns → mid.turns ≡ left old.turns + 1 →
    Adds op mid.statements.list.items new.statements.list.items → new.turns ≡ mid.turns → Passes op old new
passes_counted op old mid new one straight at turns adds same = λ parts labels f start some a asks stands.
    stands_on parts labels f start some true a (following a) old new (due old.turns ++ adds.made)
    (adds.behind ∙ ap (λ l. l ++ adds.made) at ∙ append_assoc old.statements.list.items (due old.turns) adds.made)
    (λ rest end d h.
    let t : new.turns ≡ left old.turns + turns_of op = same ∙ turns ∙ ap (λ n. left old.turns + n) (sym one) in
    subst (λ l. Makes parts labels f some a old.turns l end d) (sym (append_assoc (due old.turns) adds.made rest))
    (due_makes parts labels f some a (adds.made ++ rest) end d old.turns
    (makes.word some a (left old.turns) op adds.made rest end d asks straight adds.is
    (subst (λ n. Makes parts labels f true (following a) n rest end d) t h)))) stands

-- one that counts its own
pub passes_apart : (op : Operation) (old new : BlockMaking) → turns_of op ≡ 0 → is_straight op ≡ true →
    Adds op old.statements.list.items new.statements.list.items → new.turns ≡ old.turns → Passes op old new
passes_apart op old new none straight adds same = λ parts labels f start some a asks stands.
    stands_on parts labels f start some true a (following a) old new adds.made adds.behind
    (λ rest end d h.
    let t : new.turns ≡ old.turns + turns_of op = same ∙ sym (plus_none old.turns) ∙ ap (λ n. old.turns + n) (sym none) in
    makes.word some a old.turns op adds.made rest end d asks straight adds.is
    (subst (λ n. Makes parts labels f true (following a) n rest end d) t h)) stands
  where
    plus_none : (n : ℕ) → n + 0 ≡ n
    plus_none n = omega arith

-- a service whose turns are counted apart from those before it
pub passes_service : (op : Operation) (old mid new : BlockMaking) (stmt : Stmt) →
    ((parts : Parts) (labels : Labelled) (f : ℕ) (some : Bool) (a : ℕ) (rest : List Stmt) (end : BlockEnd) (d : Option DetachedSlot) → AsksFor parts a op →
    Makes parts labels f true (following a) 5 rest end d → Makes parts labels f some a 0 (stmt ∷ rest) end d) →
    mid.statements.list.items ≡ (old.statements.list.items ++ counted old.turns) ++ stmt ∷ [] → mid.turns ≡ 0 →
    new.statements.list.items ≡ mid.statements.list.items ++ due mid.turns → new.turns ≡ left mid.turns + 5 → Passes op old new
passes_service op old mid new stmt serves at none on turns = λ parts labels f start some a asks stands.
    stands_on parts labels f start some true a (following a) old new (counted old.turns ++ stmt ∷ [])
    (on ∙ ap (λ n. mid.statements.list.items ++ due n) none ∙ append-nil mid.statements.list.items ∙ at ∙ append_assoc old.statements.list.items (counted old.turns) (stmt ∷ []))
    (λ rest end d h.
    let t : new.turns ≡ 5 = turns ∙ ap (λ n. left n + 5) none in
    subst (λ l. Makes parts labels f some a old.turns l end d) (sym (append_assoc (counted old.turns) (stmt ∷ []) rest))
    (counted_makes parts labels f some a (stmt ∷ rest) end d old.turns
    (serves parts labels f some a rest end d asks (subst (λ n. Makes parts labels f true (following a) n rest end d) t h)))) stands

pub gets_byte : (t : Trap) → service_of t ≡ Some 1 → (parts : Parts) (labels : Labelled) (f : ℕ) (some : Bool) (a : ℕ) (rest : List Stmt) (end : BlockEnd) (d : Option DetachedSlot) →
    AsksFor parts a (TrapOnCondition t) → Makes parts labels f true (following a) 5 rest end d → Makes parts labels f some a 0 (Get 8 ∷ rest) end d
gets_byte t is parts labels f some a rest end d asks h = makes.gets some a t rest end d asks is h

pub puts_byte : (t : Trap) → is_put (service_of t) ≡ true → (parts : Parts) (labels : Labelled) (f : ℕ) (some : Bool) (a : ℕ) (rest : List Stmt) (end : BlockEnd) (d : Option DetachedSlot) →
    AsksFor parts a (TrapOnCondition t) → Makes parts labels f true (following a) 5 rest end d → Makes parts labels f some a 0 (Put (Variable 8) ∷ rest) end d
puts_byte t is parts labels f some a rest end d asks h = makes.puts some a t rest end d asks is h

-- ---- ends

-- the rest of a block, of which no more comes
pub ends_so : (parts : Parts) (labels : Labelled) (f start : ℕ) (some : Bool) (a : ℕ) (m : BlockMaking) (rest : List Stmt) (end : BlockEnd) (d : Option DetachedSlot) (block : ProgramBlock) →
    block.statements.items ≡ m.statements.list.items ++ rest → block.end ≡ end → Stands parts labels f start some a m → Makes parts labels f some a m.turns rest end d →
    IsMade parts labels f start block d
ends_so parts labels f start some a m rest end d block at is stands h =
    subst (λ l. Makes parts labels f false start 0 l block.end d) (sym at) (subst (λ e. Makes parts labels f false start 0 (m.statements.list.items ++ rest) e d) (sym is) (stands.goes_on rest end d h))

-- on into the block that begins there
pub falls_on : (parts : Parts) (labels : Labelled) (f start a : ℕ) (m : BlockMaking) (end : BlockEnd) (block : ProgramBlock) →
    block.statements.items ≡ m.statements.list.items ++ counted m.turns → block.end ≡ end → Begins parts a ⊎ (code_end parts ≤ a) → end ≡ Goto (labels.at a) →
    Stands parts labels f start true a m → IsMade parts labels f start block None
falls_on parts labels f start a m end block at is there goes stands =
    ends_so parts labels f start true a m (counted m.turns) (Goto (labels.at a)) None block at (is ∙ goes) stands
    (subst (λ l. Makes parts labels f true a m.turns l (Goto (labels.at a)) None) (append-nil (counted m.turns))
    (counted_makes parts labels f true a [] (Goto (labels.at a)) None m.turns (makes.falls a there)))

counted_some : (n : ℕ) → (n == 0) ≡ false → counted n ≡ Turns n ∷ []
counted_some n e = ap (λ (b : Bool). if b then [] else Turns n ∷ []) e

positive : (n k more : ℕ) → n ≡ k + more → 1 ≤ more → (n == 0) ≡ false
positive n k more e some = grind (arith, nat_tests)

-- turns that were added just now are there to be counted
pub counted_more : (n k more : ℕ) → n ≡ k + more → 1 ≤ more → counted n ≡ Turns (k + more) ∷ []
counted_more n k more e some = counted_some n (positive n k more e some) ∙ ap (λ t. Turns t ∷ []) e

-- the run is over
pub exits_so : (parts : Parts) (labels : Labelled) (f start : ℕ) (some : Bool) (a : ℕ) (t : Trap) (old mid : BlockMaking) (block : ProgramBlock) →
    mid.statements.list.items ≡ old.statements.list.items ++ due old.turns → mid.turns ≡ left old.turns + 3 →
    block.statements.items ≡ mid.statements.list.items ++ counted mid.turns → block.end ≡ Exit (Variable 8) → AsksFor parts a (TrapOnCondition t) → service_of t ≡ Some 0 →
    Stands parts labels f start some a old → IsMade parts labels f start block None
exits_so parts labels f start some a t old mid block on turns at is asks exits stands =
    ends_so parts labels f start some a old (due old.turns ++ Turns (left old.turns + 3) ∷ []) (Exit (Variable 8)) None block
    (at ∙ ap (λ l. mid.statements.list.items ++ l) (counted_more mid.turns (left old.turns) 3 turns (omega arith)) ∙ ap (λ l. l ++ Turns (left old.turns + 3) ∷ []) on
    ∙ append_assoc old.statements.list.items (due old.turns) (Turns (left old.turns + 3) ∷ [])) is stands
    (due_makes parts labels f some a (Turns (left old.turns + 3) ∷ []) (Exit (Variable 8)) None old.turns (makes.exits some a (left old.turns) t asks exits))
