-- Every operation without a window trap, and what a state that does not fail asks for.
use Rattle.std.proofs.Common.{◌≡◌, ℕ, zero, suc, ◌+◌, ◌-◌, Bool, true, false, refl, sym, ap, ◌∙◌, subst, arith}
use Rattle.std.specs.Prelude.{◌==◌, ◌&&◌, if◌then◌else◌}
use Rattle.std.proofs.lemmas.Bool.Decides.{nat_tests}
use Rattle.v8_core.specs.Cond.{Cond}
use Rattle.v8_core.specs.Cond.TheVariants.{Always}
use Rattle.v8_core.specs.Operand.{Operand}
use Rattle.v8_core.specs.Operand.TheVariants.{Register, Immediate}
use Rattle.v8_core.specs.Trap.{Trap}
use Rattle.v8_core.specs.Admitted.{is_admitted, is_immediate}
use Rattle.v8_core.specs.Operands.{is_always}
use Rattle.v8_core.specs.Operation.{Operation}
use Rattle.v8_core.specs.Operation.TheVariants.{BranchOnCondition, Call, Compute, Coprocessor, Divide, FloatingPoint, Illegal, JumpAndLink, Nothing, ReadState}
use Rattle.v8_core.specs.Operation.TheVariants.{ReadY, Restore, ReturnFromTrap, Save, SetHigh, TaggedTrap, TrapOnCondition, WriteState, WriteY}
use Rattle.v8_core.specs.Operation.TheVariants as operation
use Rattle.v8_core.specs.MmuRegs.{MmuRegs}
use Rattle.v8_core.specs.Accesses.{World}
use Rattle.v8_loaded.specs.Board.{Device}
use Rattle.v8_loaded.specs.Users.{AsksFor}
use Rattle.v8_routines.specs.Services.{calls}
use Rattle.sbx_flat.specs.Parts.{Parts}
use Rattle.sbx_flat.specs.Effects.{declares, does}
use Rattle.sbx_flat.specs.Registers.{still}
use Rattle.sbx_flat.specs.States.{Fails, State}
use Rattle.sbx_flat.specs.Traffic.{after_operation}
use Rattle.sbx_flat.specs.Turns.{IsWrong}
use Rattle.sbx_flat.specs.declared.path.Wrong.TheVariants.{NoService, NotAdmitted}
use Rattle.sbx_flat.proofs.Law.{still_is_fresh}
use Rattle.sbx_flat.proofs.Turns.{turn_at}
use Rattle.sbx_shows.specs.Advances.{Advances, so_many}
use Rattle.sbx_shows.specs.Laws.{AnnulledTurnsKeep, HasWindow, UserTurnsKeep, turns_of, windows_after}
use Rattle.sbx_shows.specs.Steps.{OneTurn, Stands}
use Rattle.sbx_shows.proofs.Advancing.{annulled_advances, one_advances}
use Rattle.sbx_shows.proofs.Callers.{restore_turn, save_turn}
use Rattle.sbx_shows.proofs.Jumps.{branch_turn, call_turn, jump_turn}
use Rattle.sbx_shows.proofs.Places.{fails_not, here, word}
use Rattle.sbx_shows.proofs.Results.{compute_turn, divide_turn, high_turn, read_turn, tagged_turn, write_turn}
use Rattle.sbx_shows.proofs.Services.{exit_advances, get_advances, put_advances}
use Rattle.sbx_shows.proofs.Traffics.{restore_counts, save_counts}
use Rattle.sbx_shows.proofs.Transfers.{transfer_turn}

-- a call of a service has a number alone
always_is : (c : Cond) → is_always c ≡ true → c ≡ Always
always_is Always h = refl
always_is _ h = absurd (cc)

pub record AsCall (t : Trap) : Type 0 where
  pub number : ℕ
  pub is : t ≡ record { cond = Always; rs1 = 0; operand2 = Immediate number }

pub called : (c : Cond) (r : ℕ) (o : Operand) → (is_always c && (r == 0) && is_immediate o) ≡ true → AsCall (record { cond = c; rs1 = r; operand2 = o })
called c r (Immediate k) h =
    let low : (r == 0) ≡ true = and_two (is_always c) (r == 0) h in
    let none : r ≡ 0 = grind (arith, nat_tests) in
    record {
      number = k;
      is = ap (λ (d : Cond). record { cond = d; rs1 = r; operand2 = Immediate k }) (always_is c (and_one (is_always c) (r == 0) h))
          ∙ ap (λ q. record { cond = Always; rs1 = q; operand2 = Immediate k }) none;
    }
  where
    and_one : (a b : Bool) → (a && b && true) ≡ true → a ≡ true
    and_one true b e = refl
    and_one false b e = absurd (cc)

    and_two : (a b : Bool) → (a && b && true) ≡ true → b ≡ true
    and_two true true e = refl
    and_two true false e = absurd (cc)
    and_two false b e = absurd (cc)
called c r (Register q) h = absurd (never (is_always c) (r == 0) h)
  where
    never : (a b : Bool) → (a && b && false) ≡ true → ⊥
    never true true e = cc
    never true false e = cc
    never false b e = cc

module _ (n : ℕ) (parts : Parts) (mmu : MmuRegs) (x : World n Device) (s : State) (r i : ℕ) (h : Stands n parts mmu x s r i) (good : IsWrong parts s → ⊥) where
  -- what is asked for is admitted
  pub admitted : (op : Operation) → AsksFor parts.words i op → is_admitted op ≡ true
  admitted op is = by_test (is_admitted op) refl
    where
      by_test : (t : Bool) → is_admitted op ≡ t → is_admitted op ≡ true
      by_test true e = e
      by_test false e =
          let w = word n parts mmu x s r i h in
          absurd (good (
            still,
            still_is_fresh,
            NotAdmitted,
            turn_at parts still s w h.shows.going h.straight (here n parts mmu x s r i h)
                ∙ ap (λ (o : Operation). if is_admitted o then does parts still o s else Fails NotAdmitted) is
                ∙ ap (λ (b : Bool). if b then does parts still op s else Fails NotAdmitted) e,
          ))

  one : (op : Operation) → AsksFor parts.words i op → OneTurn n parts mmu x s op r → ((o u k : ℕ) → after_operation n op (so_many r o u k) ≡ so_many r o u (k + 1)) → Advances n parts mmu x s r 1 0 0 r
  one op is turn traffic = one_advances n parts mmu x s r i h op is (admitted op is) r turn traffic

  undeclared : (k : ℕ) → AsksFor parts.words i (calls k) → declares parts.services k ≡ false → ⊥
  unfolding is_admitted
  undeclared k is e = fails_not n parts mmu x s r i h (calls k) is refl good NoService (rw e refl)

  by_service : (k : ℕ) → AsksFor parts.words i (calls k) → Advances n parts mmu x s r (turns_of (calls k)) 0 0 r
  by_service zero is = exit_advances n parts mmu x s r i h is good
  by_service (suc zero) is = get_advances n parts mmu x s r i h is good
  by_service (suc (suc zero)) is = put_advances n parts mmu x s r i h is good
  by_service (suc (suc (suc k))) is = absurd (undeclared (suc (suc (suc k))) is refl)

  by_trap : (t : Trap) → AsksFor parts.words i (TrapOnCondition t) → is_admitted (TrapOnCondition t) ≡ true → Advances n parts mmu x s r (turns_of (TrapOnCondition t)) 0 0 r
  unfolding is_admitted
  by_trap t is may =
      let c = called t.cond t.rs1 t.operand2 may in
      subst (λ (q : Trap). Advances n parts mmu x s r (turns_of (TrapOnCondition q)) 0 0 r) (sym c.is) (by_service c.number (subst (λ (q : Trap). AsksFor parts.words i (TrapOnCondition q)) c.is is))

  -- an operation that sandboxed code may not have
  abbrev IsRefused : Operation → Type 0
  IsRefused (ReadState q rd) = Unit {0}
  IsRefused (WriteState q f) = Unit {0}
  IsRefused (ReturnFromTrap f) = Unit {0}
  IsRefused Nothing = Unit {0}
  IsRefused Illegal = Unit {0}
  IsRefused FloatingPoint = Unit {0}
  IsRefused Coprocessor = Unit {0}
  IsRefused _ = ⊥

  refused : (op : Operation) → IsRefused op → is_admitted op ≡ true → ⊥
  unfolding is_admitted
  refused (ReadState q rd) u e = cc
  refused (WriteState q f) u e = cc
  refused (ReturnFromTrap f) u e = cc
  refused Nothing u e = cc
  refused Illegal u e = cc
  refused FloatingPoint u e = cc
  refused Coprocessor u e = cc
  refused _ u e = u

  by_operation : (op : Operation) → AsksFor parts.words i op → is_admitted op ≡ true → HasWindow n r op → Advances n parts mmu x s r (turns_of op) 0 0 (windows_after op r)
  by_operation (Compute op f) is may has = one (Compute op f) is (compute_turn n parts mmu x s r i h good op f is) (λ o u k. refl)
  by_operation (Divide op f) is may has = one (Divide op f) is (divide_turn n parts mmu x s r i h good op f is) (λ o u k. refl)
  by_operation (TaggedTrap op f) is may has = one (TaggedTrap op f) is (tagged_turn n parts mmu x s r i h good op f is) (λ o u k. refl)
  by_operation (SetHigh f) is may has = one (SetHigh f) is (high_turn n parts mmu x s r i h good f is) (λ o u k. refl)
  by_operation (ReadY rd) is may has = one (ReadY rd) is (read_turn n parts mmu x s r i h good rd is) (λ o u k. refl)
  by_operation (WriteY f) is may has = one (WriteY f) is (write_turn n parts mmu x s r i h good f is) (λ o u k. refl)
  by_operation (operation.Transfer t m) is may has = one (operation.Transfer t m) is (transfer_turn n parts mmu x s r i h good t m is may) (λ o u k. refl)
  by_operation (Save f) is may has =
      let next_one : suc r ≡ r + 1 = omega arith in
      one_advances n parts mmu x s r i h (Save f) is may (r + 1)
      (subst (λ q. OneTurn n parts mmu x s (Save f) q) next_one (save_turn n parts mmu x s r i h f is good has)) (λ o u k. save_counts n r o u k f has)
  by_operation (Restore f) is may has =
      one_advances n parts mmu x s r i h (Restore f) is may (r - 1) (restore_turn n parts mmu x s r i h f is good (omega arith))
      (λ o u k. restore_counts n r o u k f (omega arith))
  by_operation (Call d) is may has = one (Call d) is (call_turn n parts mmu x s r i h good d is) (λ o u k. refl)
  by_operation (BranchOnCondition b) is may has = one (BranchOnCondition b) is (branch_turn n parts mmu x s r i h good b is) (λ o u k. refl)
  by_operation (JumpAndLink f) is may has = one (JumpAndLink f) is (jump_turn n parts mmu x s r i h good f is may) (λ o u k. refl)
  by_operation (TrapOnCondition t) is may has = by_trap t is may
  by_operation (ReadState q rd) is may has = absurd (refused (ReadState q rd) tt may)
  by_operation (WriteState q f) is may has = absurd (refused (WriteState q f) tt may)
  by_operation (ReturnFromTrap f) is may has = absurd (refused (ReturnFromTrap f) tt may)
  by_operation Nothing is may has = absurd (refused Nothing tt may)
  by_operation Illegal is may has = absurd (refused Illegal tt may)
  by_operation FloatingPoint is may has = absurd (refused FloatingPoint tt may)
  by_operation Coprocessor is may has = absurd (refused Coprocessor tt may)

pub user_turns_keep : UserTurnsKeep
user_turns_keep n parts mmu x s r i op h is good has = by_operation n parts mmu x s r i h good op is (admitted n parts mmu x s r i h good op is) has

pub annulled_turns_keep : AnnulledTurnsKeep
annulled_turns_keep n parts mmu x s r h annul = annulled_advances n parts mmu x s r h annul
