-- SAVE and RESTORE.
use Rattle.std.proofs.Common.{◌≡◌, ℕ, ◌<◌, ◌≤◌, inr, Bool, true, false}
use Rattle.std.proofs.Common.{List, [], ◌∷◌, ◌++◌, Some, slice_index, slice_set, refl, sym, ap, ◌∙◌, subst, arith}
use Rattle.std.specs.Prelude.{◌==◌, ◌&&◌, ◌||◌, nat_lt, if◌then◌else◌}
use Rattle.std.proofs.lemmas.Bool.Decides.{nat_tests}
use Rattle.std.proofs.lemmas.List.{get_or-set_other}
use Rattle.v8_formats.specs.declared.instr.Three.{Three}
use Rattle.v8_meaning.specs.Admitted.{is_admitted}
use Rattle.v8_meaning.specs.Operands.{address}
use Rattle.v8_meaning.specs.declared.operation.Operation.{Operation}
use Rattle.v8_meaning.specs.declared.operation.Operation.TheVariants.{Restore, Save}
use Rattle.sbx_image.specs.Parts.{Parts}
use Rattle.sbx_flat.specs.Effects.{does, is_base, performs, restores, saves}
use Rattle.sbx_flat.specs.Registers.{Frame, Fresh, Registers, Words, popped as frames_popped, pushed as frames_pushed}
use Rattle.sbx_flat.specs.States.{State, Goes, Fails, advanced, reg, with_reg}
use Rattle.sbx_flat.specs.declared.path.Wrong.TheVariants.{BadFrame, NotAdmitted, StackPointer}
use Rattle.sbx_flat.specs.WellFormed.{IsWellFormed}
use Rattle.native_lang.specs.declared.expr.Expr.{Expr}
use Rattle.native_lang.specs.declared.expr.Expr.TheVariants.{Variable}
use Rattle.native_lang.specs.declared.state.SavedWindow.{SavedWindow}
use Rattle.native_lang.specs.declared.stmt.Stmt.{Stmt}
use Rattle.native_lang.specs.declared.stmt.Stmt.TheVariants.{Set, Enter, Leave, Push, Pop}
use Rattle.native_lang.specs.Counts.{enters, leaves}
use Rattle.native_lang.specs.Values.{value}
use Rattle.native_lang.specs.World.{World, eight_of, pushed, put_words, restored, sets}
use Rattle.sbx_flat.specs.declared.path.Traffic.{Traffic}
use Rattle.native_results.specs.DoesAll.{does_all}
use Rattle.native_results.specs.ShowsState.{ShowsState, fresh_words}
use Rattle.native_results.specs.Words.{Adds, ComesTo}
use Rattle.native_words.proofs.Eights.{words_else}
use Rattle.native_words.proofs.Loading.{assigned, assigned_shows, set_kept, set_there}
use Rattle.native_words.proofs.Shown.{moved_shows, scratch_shows}
use Rattle.native_words.proofs.Turned.{IsLeft, pop_shows, push_shows}

-- what is performed is done
pub performed : (parts : Parts) (fresh : Fresh) (op : Operation) (s next : State) → performs parts fresh op s ≡ Goes next → (is_admitted op ≡ true) × (does parts fresh op s ≡ Goes next)
performed parts fresh op s next e = by (is_admitted op) refl e
  where
    by : (b : Bool) → is_admitted op ≡ b → (if b then does parts fresh op s else Fails NotAdmitted) ≡ Goes next → (is_admitted op ≡ true) × (does parts fresh op s ≡ Goes next)
    by true a g = (a, g)
    by false a g = absurd cc

counted_shows : (parts : Parts) (w : World) (s : State) (counts : Traffic) → ShowsState parts w s → ShowsState parts (record w { counts = counts }) s
counted_shows parts w s counts h = record {
  variables = h.variables;
  registers = h.registers;
  icc = h.icc;
  y = h.y;
  windows = h.windows;
  block = h.block;
  block_bytes = h.block_bytes;
  slots = h.slots;
  memory = h.memory;
  input = h.input;
  output = h.output;
  pages = h.pages;
}

-- ---- SAVE

record IsSaved (fresh : Fresh) (rd b : ℕ) (s next : State) : Type 0 where
  base : rd ≡ 14
  goes : advanced (record s { registers = frames_pushed fresh b s.registers }) ≡ next

saved_by : (parts : Parts) (fresh : Fresh) (rd b : ℕ) (s next : State) (x y : Bool) → (rd == 14) ≡ x →
    (if x && y then Goes (advanced (record s { registers = frames_pushed fresh b s.registers })) else Fails BadFrame) ≡ Goes next → IsSaved fresh rd b s next
saved_by parts fresh rd b s next true true e g = record { base = grind (arith, nat_tests); goes = cc }
saved_by parts fresh rd b s next true false e g = absurd cc
saved_by parts fresh rd b s next false y e g = absurd cc

left_words : (w : World) (b : ℕ) (counts : Traffic) → IsLeft (record (sets 42 b w) { counts = counts }) (fresh_words w)
left_words w b counts = record { locals = each; outs = each; slots = λ a. refl }
  where
    each : (n : ℕ) → n < 32 → (if nat_lt n 32 then slice_index w.variables n else 0) ≡ slice_index (slice_set w.variables 42 b) n
    each n low =
        let test : nat_lt n 32 ≡ true = grind (arith, nat_tests) in
        ap (λ (t : Bool). if t then slice_index w.variables n else 0) test ∙ sym (get_or-set_other w.variables 42 n b 0 (λ e. omega (arith, e, low)))

module _ (f : Three) (sum : Expr) (is : (parts : Parts) (w : World) (s : State) → IsWellFormed parts.stack_pages s → ShowsState parts w s → value w.variables sum ≡ address (reg s) f.rs1 f.operand2) where
  save_comes : (windows : ℕ) (parts : Parts) (s next : State) (w : World) → IsWellFormed parts.stack_pages s → ShowsState parts w s →
      saves parts (fresh_words w) f.rd (address (reg s) f.rs1 f.operand2) s ≡ Goes next →
      ComesTo windows parts (Save f) (Set 42 sum ∷ Enter ∷ Push ∷ assigned f.rd (Variable 42)) w next
  save_comes windows parts s next w well shows g =
      let b : ℕ = value w.variables sum in
      let same : b ≡ address (reg s) f.rs1 f.operand2 = is parts w s well shows in
      let at : saves parts (fresh_words w) f.rd b s ≡ Goes next = ap (λ x. saves parts (fresh_words w) f.rd x s) same ∙ g in
      let saved : IsSaved (fresh_words w) f.rd b s next =
      saved_by parts (fresh_words w) f.rd b s next (f.rd == 14) (is_base parts (reg s 14) b) refl at in
      let first : World = sets 42 b w in
      let second : World = record first { counts = enters windows first.counts } in
      let second_shows : ShowsState parts second s = counted_shows parts first s (enters windows first.counts) (scratch_shows parts w s 42 b (omega arith) shows) in
      let third : World = pushed second in
      let kept : slice_index third.variables 42 ≡ b =
      words_else second.variables 24 (eight_of second.variables 8) 8 42 (inr (omega arith)) ∙ set_there parts w s 42 b (omega arith) shows in
      let done : does_all windows (assigned 14 (Variable 42)) third ≡ Some (sets 14 b third) = ap (λ v. Some (sets 14 v third)) kept in
      let h = push_shows parts second s (fresh_words w) b second_shows (left_words w b (enters windows first.counts)) in
      record {
        new = sets 14 b third;
        done = ap (λ r. does_all windows (assigned r (Variable 42)) third) saved.base ∙ done;
        shows = subst (λ t. ShowsState parts (sets 14 b third) t) saved.goes
            (moved_shows parts (sets 14 b third) (record s { registers = frames_pushed (fresh_words w) b s.registers }) h);
        counts = refl;
        kept = λ x above below. set_kept third 14 b x (λ e. omega (arith, e, above)) ∙ words_else second.variables 24 (eight_of second.variables 8) 8 x (inr (omega (arith, above)))
            ∙ set_kept w 42 b x (λ e. omega (arith, e, above));
      }

  pub save_made : (old new : List Stmt) → new ≡ old ++ Set 42 sum ∷ Enter ∷ Push ∷ assigned f.rd (Variable 42) → Adds (Save f) old new
  save_made old new stands = record {
    made = Set 42 sum ∷ Enter ∷ Push ∷ assigned f.rd (Variable 42);
    behind = stands;
    is = record { comes = λ windows parts s next w well shows g. save_comes windows parts s next w well shows (performed parts (fresh_words w) (Save f) s next g).1 };
  }

-- ---- RESTORE

pub written_by : (b : Bool) (t next : State) → (if b then Fails StackPointer else Goes t) ≡ Goes next → t ≡ next
written_by true t next e = absurd cc
written_by false t next e = cc

module _ (f : Three) (sum : Expr) (low : f.rd < 32) (windows : ℕ) (parts : Parts) (globals oldest : Words) (newest : Frame) where
  abbrev file_of : List Frame → Registers
  file_of older = record { globals = globals; newest = newest; older = older; oldest_ins = oldest }

  restore_by : (older : List Frame) (saved : List SavedWindow) (w : World) (s next : State) (v : ℕ) → value w.variables sum ≡ v →
      ShowsState parts (record w { saved = saved }) (record s { registers = file_of older }) →
      restores f.rd v (frames_popped (file_of older)) (record s { registers = file_of older }) ≡ Goes next →
      ComesTo windows parts (Restore f) (Set 42 sum ∷ Leave ∷ Pop ∷ assigned f.rd (Variable 42)) (record w { saved = saved }) next
  restore_by [] saved w s next v is shows g = absurd cc
  restore_by (caller ∷ rest) [] w s next v is shows g = absurd shows.windows
  restore_by (caller ∷ rest) (m ∷ ms) w s next v is shows g =
      let before : World = record w { saved = m ∷ ms } in
      let first : World = sets 42 (value w.variables sum) before in
      let second : World = record first { counts = leaves first.counts } in
      let s_before : State = record s { registers = file_of (caller ∷ rest) } in
      let s_after : State = record s { registers = record { globals = globals; newest = caller; older = rest; oldest_ins = oldest } } in
      let second_shows : ShowsState parts second s_before =
      counted_shows parts first s_before (leaves first.counts) (scratch_shows parts before s_before 42 (value w.variables sum) (omega arith) shows) in
      let third : World = record second { variables = restored second.variables m; saved = ms } in
      let third_shows : ShowsState parts third s_after =
      pop_shows parts second s m ms globals oldest newest caller rest second_shows shows.windows.0 shows.windows.1 in
      let kept : slice_index third.variables 42 ≡ v = kept_word second.variables m 42 (omega arith) ∙ set_there parts before s_before 42 (value w.variables sum) (omega arith) shows ∙ is in
      let last = assigned_shows windows parts third s_after f.rd (Variable 42) low third_shows in
      let goes : advanced (with_reg f.rd v s_after) ≡ next = written_by ((f.rd == 14) || (f.rd == 30)) (advanced (with_reg f.rd v s_after)) next g in
      record {
        new = last.new;
        done = last.done;
        shows = subst (λ t. ShowsState parts last.new t) goes (subst (λ n. ShowsState parts last.new (advanced (with_reg f.rd n s_after))) kept last.shows);
        counts = last.counts;
        kept = λ x above below. last.kept x above below ∙ kept_word second.variables m x (omega (arith, above)) ∙ set_kept before 42 (value w.variables sum) x (λ e. omega (arith, e, above));
      }
    where
      kept_word : (v : List ℕ) (m : SavedWindow) (x : ℕ) → 32 ≤ x → slice_index (restored v m) x ≡ slice_index v x
      kept_word v m x above = words_else (put_words (put_words v 8 (eight_of v 24) 8) 16 m.locals 8) 24 m.ins 8 x (inr (omega (arith, above)))
          ∙ words_else (put_words v 8 (eight_of v 24) 8) 16 m.locals 8 x (inr (omega (arith, above))) ∙ words_else v 8 (eight_of v 24) 8 x (inr (omega (arith, above)))

module _ (f : Three) (sum : Expr) (low : f.rd < 32) (is : (parts : Parts) (w : World) (s : State) → IsWellFormed parts.stack_pages s → ShowsState parts w s →
    value w.variables sum ≡ address (reg s) f.rs1 f.operand2) where
  pub restore_made : (old new : List Stmt) → new ≡ old ++ Set 42 sum ∷ Leave ∷ Pop ∷ assigned f.rd (Variable 42) → Adds (Restore f) old new
  restore_made old new stands = record {
    made = Set 42 sum ∷ Leave ∷ Pop ∷ assigned f.rd (Variable 42);
    behind = stands;
    is = record {
      comes = λ windows parts s next w well shows g.
          restore_by f sum low windows parts s.registers.globals s.registers.oldest_ins s.registers.newest s.registers.older w.saved w s next
          (address (reg s) f.rs1 f.operand2) (is parts w s well shows) shows (performed parts (fresh_words w) (Restore f) s next g).1;
    };
  }
