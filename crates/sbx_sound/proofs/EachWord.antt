-- The step of every word that comes straight, from the rules.
use Rattle.std.proofs.Common.{◌≡◌, ℕ, zero, suc, ◌≤◌, Bool, true, false, length, Option, Some, None, refl, ap, ◌∙◌, subst, arith}
use Rattle.std.specs.Prelude.{◌==◌, ◌&&◌, not}
use Rattle.std.proofs.lemmas.Bool.Decides.{nat_tests}
use Rattle.v8_formats.specs.declared.instr.Trap.{Trap}
use Rattle.v8_meaning.specs.declared.operation.Operation.{Operation}
use Rattle.v8_meaning.specs.declared.operation.Operation.TheVariants.{BranchOnCondition, Call, JumpAndLink, Restore, Save, TrapOnCondition}
use Rattle.sbx_image.specs.Parts.{Parts}
use Rattle.sbx_image.specs.Regions.{page_rights}
use Rattle.sbx_flat.specs.Effects.{service_of}
use Rattle.sbx_form.specs.Forms.{Cells}
use Rattle.sbx_rules.specs.Operations.{is_call, is_framed, is_framed_return, is_restore, is_return, is_save, is_transfer}
use Rattle.sbx_image.specs.Order.{function_at}
use Rattle.sbx_rules.specs.Places.{ends_run, is_exit, op_at, op_before}
use Rattle.sbx_rules.specs.Rules.{is_entry, same_test}
use Rattle.sbx_rules.specs.Verdicts.{Checked}
use Rattle.sbx_sound.proofs.Order.{IsOrdered}
use Rattle.sbx_sound.proofs.Running.{At, straight_visit}
use Rattle.sbx_sound.proofs.Shared.{Shared}
use Rattle.sbx_sound.proofs.Arrivals.{goes_straight}
use Rattle.sbx_sound.proofs.Asked.{has_shape, restores_in_slot}
use Rattle.sbx_sound.proofs.Dispatch.{spot}
use Rattle.sbx_sound.proofs.Obeys.{does_at}
use Rattle.sbx_sound.proofs.Returning.{PlainWordsDo, return_steps}
use Rattle.sbx_sound.proofs.Safe.{Steps}
use Rattle.sbx_sound.proofs.Straight.{branch_steps, call_steps, exit_steps, save_steps, straight_steps}
use Rattle.sbx_sound.proofs.Tests.{and_left, and_right, asked_of}

-- ---- operations

no_framed_return : (o : Operation) → is_return o ≡ false → is_framed_return o ≡ false
no_framed_return (JumpAndLink t) h = absurd (cc)
no_framed_return _ h = refl

exit_is : (o : Option ℕ) → is_exit o ≡ true → o ≡ Some 0
exit_is None h = absurd (cc)
exit_is (Some n) h = let e : n ≡ 0 = grind (arith, nat_tests) in ap (λ (x : ℕ). Some x) e

-- ---- tests

at_zero : (n : ℕ) → (n == 0) ≡ true → n ≡ 0
at_zero n h = grind (arith, nat_tests)

module _ (parts : Parts) (checked : Checked parts) (ordered : IsOrdered parts) (pages : parts.stack_pages ≤ 16)
    (small : length (page_rights parts.regions) ≤ 64) (few : (g : ℕ) → length (function_at parts g).results ≤ 6) where
  pub plain_words_do : PlainWordsDo parts
  plain_words_do w p runs plain no_save no_restore =
      does_at parts checked ordered pages small w p runs plain.no_transfer no_save no_restore plain.runs_on

  -- ---- words that come straight

  save_at : (w : ℕ) (k : Shared) (f b i : ℕ) (start : Cells) (at : At parts w k f b i (straight_visit parts f b i) start) → b ≡ 0 → i ≡ 0 → is_framed (function_at parts f).kind ≡ true
      → Steps parts w (spot parts w k f b i (straight_visit parts f b i) start at)
  save_at w k f zero zero start at p q framed = save_steps parts checked ordered pages f at.place w k start at framed
  save_at w k f zero (suc i) start at p q framed = absurd (omega (arith, q))
  save_at w k f (suc b) i start at p q framed = absurd (omega (arith, p))

  module _ (w : ℕ) (k : Shared) (f b i : ℕ) (start : Cells) (at : At parts w k f b i (straight_visit parts f b i) start)
      (before : goes_straight (op_before parts f b i) ≡ true) (no_link : is_call (op_before parts f b i) ≡ false) (no_return : is_return (op_before parts f b i) ≡ false) where
    plain : goes_straight (op_at parts f b i) ≡ true → is_transfer (op_at parts f b i) ≡ false → is_call (op_at parts f b i) ≡ false →
        is_save (op_at parts f b i) ≡ false → is_restore (op_at parts f b i) ≡ false → ends_run (op_at parts f b i) ≡ false
        → Steps parts w (spot parts w k f b i (straight_visit parts f b i) start at)
    plain straight no_transfer no_call no_save no_restore runs_on =
        straight_steps parts checked ordered pages f b i at.place w k start at before no_link no_return straight no_call runs_on no_save
        (does_at parts checked ordered pages small w (spot parts w k f b i (straight_visit parts f b i) start at) refl no_transfer no_save no_restore runs_on)

    saves : is_save (op_at parts f b i) ≡ true → Steps parts w (spot parts w k f b i (straight_visit parts f b i) start at)
    saves h =
        let framed = is_framed (function_at parts f).kind in
        let entry = asked_of (is_save (op_at parts f b i)) (is_entry b i && framed) (has_shape parts checked f b i at.place).save h in
        let first = and_left (is_entry b i) framed entry in
        save_at w k f b i start at (at_zero b (and_left (b == 0) (i == 0) first)) (at_zero i (and_right (b == 0) (i == 0) first)) (and_right (is_entry b i) framed entry)

    restores_nowhere : is_restore (op_at parts f b i) ≡ true → ⊥
    restores_nowhere h =
        let shape = subst (λ x. same_test x (is_restore (op_at parts f b i)) ≡ true) (no_framed_return (op_before parts f b i) no_return) (restores_in_slot parts checked f b i at.place) in
        no_both (is_restore (op_at parts f b i)) h shape
      where
        no_both : (x : Bool) → x ≡ true → not x ≡ true → ⊥
        no_both true p q = cc
        no_both false p q = cc

    traps : (t : Trap) → op_at parts f b i ≡ TrapOnCondition t → (x : Bool) → is_exit (service_of t) ≡ x → Steps parts w (spot parts w k f b i (straight_visit parts f b i) start at)
    traps t e true exits = exit_steps parts checked ordered pages f b i at.place w k start at t before no_link e (exit_is (service_of t) exits)
    traps t e false exits = plain (ap goes_straight e) (ap is_transfer e) (ap is_call e) (ap is_save e) (ap is_restore e) (ap ends_run e ∙ exits)

    by_op : (o : Operation) → op_at parts f b i ≡ o → Steps parts w (spot parts w k f b i (straight_visit parts f b i) start at)
    by_op (Call n) e = call_steps parts checked ordered pages f b i at.place w k start at n no_link no_return e
    by_op (BranchOnCondition c) e = branch_steps parts checked ordered pages f b i at.place w k start at c before no_link no_return e
    by_op (JumpAndLink t) e = return_steps parts checked ordered pages few w k f b i start at t no_link no_return e
    by_op (Save t) e = saves (ap is_save e)
    by_op (Restore t) e = absurd (restores_nowhere (ap is_restore e))
    by_op (TrapOnCondition t) e = traps t e (is_exit (service_of t)) refl
    by_op _ e = plain (ap goes_straight e) (ap is_transfer e) (ap is_call e) (ap is_save e) (ap is_restore e) (ap ends_run e)

    -- any word that comes straight
    pub each_straight : Steps parts w (spot parts w k f b i (straight_visit parts f b i) start at)
    each_straight = by_op (op_at parts f b i) refl
