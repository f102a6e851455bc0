-- What a board's state is once it is made or loaded, and what its turns keep.
use Rattle.std.proofs.Common.{◌≡◌, ℕ, zero, suc, ◌%◌, ◌^◌, ◌<◌, ◌≤◌, inl, inr, List, length, None, refl, sym, ap, ◌∙◌, subst, lit<, Result, Ok, Err}
use Rattle.std.specs.Prelude.{IfOk, OnErr}
use Rattle.sbx_image.specs.Parts.{Parts}
use Rattle.v8_core.specs.Ram.{AreBytes}
use Rattle.v8_core.specs.Walked.{root_of}
use Rattle.v8_core.specs.MmuRegs.{MmuRegs}
use Rattle.v8_core.specs.Windows.{IsFile, Windows}
use Rattle.v8_core.specs.Control.{Control}
use Rattle.v8_core.specs.Cpu.{Cpu}
use Rattle.v8_core.specs.Registers.{booted, started_with}
use Rattle.v8_core.specs.Accesses.{world}
use Rattle.v8_core.specs.declared.turn.Turn.{Turn}
use Rattle.v8_contained.specs.Board.{Device, IsBlank}
use Rattle.v8_contained.specs.States.{IsState}
use Rattle.v8_contained.specs.Contained.{IsShaped, IsUser, IsContained, IsKept, TurnIs}
use Rattle.v8_contained.proofs.Law.{turns_contained}
use Rattle.v8_board.specs.Contains.{Contains, Keeps, KeepsBy, StaysContained}
use Rattle.v8_board.specs.Runs.{Turns, IsRun, IsCutShort, state_after}
use Rattle.v8_board.specs.Seen.{State, turned}
use Rattle.v8_board.specs.Start.{contents_of, pages_of}
use Rattle.v8_board.proofs.Placed.{pages_few}

-- ---- where a program starts

file_shape : (n : ℕ) (v : Windows) → IsFile n v → IsShaped n v
file_shape n v f = record { current = f.current; count = f.rows.count; each = f.rows.each }

boot_control : (n : ℕ) (old : Cpu n) → (booted n old).control ≡ started_with old.control.y
unfolding booted
boot_control n old = refl

pub control_is : (n : ℕ) (old new : Cpu n) → new ≡ booted n old → new.control ≡ started_with old.control.y
control_is n old new boot = ap (λ (c : Cpu n). c.control) boot ∙ boot_control n old

boots : (n : ℕ) (old new : Cpu n) → new ≡ booted n old → IsFile n new.regs → IsUser n new
boots n old new boot file =
    let is = control_is n old new boot in
    record {
      shape = file_shape n new.regs file;
      user = ap (λ (c : Control). c.s) is;
      traps = ap (λ (c : Control). c.et) is;
      table = ap (λ (c : Control). c.base) is;
      sane = ap (λ (c : Control). c.error) is;
      pc_word = subst (λ (c : Control). c.pc < 2 ^ 32) (sym is) (lit< tt);
      npc_word = subst (λ (c : Control). c.npc < 2 ^ 32) (sym is) (lit< tt);
    }

pub boots_state : (n : ℕ) (old new : Cpu n) (ram : List ℕ) (mmu : MmuRegs) (d : Device) → new ≡ booted n old → old.control.y < 2 ^ 32 → IsFile n new.regs →
    length ram ≡ 0x100000 → AreBytes ram → root_of mmu ≡ 0x2000 → IsState n mmu (world n new ram d)
boots_state n old new ram mmu d boot y file size bytes root =
    let is = control_is n old new boot in
    record {
      cpu = record {
        file = file;
        y_word = subst (λ (c : Control). c.y < 2 ^ 32) (sym is) y;
        pil = subst (λ (c : Control). c.pil < 16) (sym is) (lit< tt);
        table = ap (λ (c : Control). c.base % 4096) is;
        pc_word = subst (λ (c : Control). c.pc < 2 ^ 32) (sym is) (lit< tt);
        pc_whole = ap (λ (c : Control). c.pc % 4) is;
        npc_word = subst (λ (c : Control). c.npc < 2 ^ 32) (sym is) (lit< tt);
        npc_whole = ap (λ (c : Control). c.npc % 4) is;
      };
      size = size;
      bytes = bytes;
      root = root;
    }

pub blank_bytes : (ram : List ℕ) → IsBlank ram → AreBytes ram
blank_bytes ram blank i = subst (λ b. b < 256) (sym (blank.zeros i)) (lit< tt)

pub loads_contained : (n : ℕ) (p : Parts) (old new : Cpu n) (ram : List ℕ) (mmu : MmuRegs) (d : Device) → 4 ≤ n → n ≤ 32 → new ≡ booted n old →
    IsFile n new.regs → IsKept n (pages_of p) (contents_of p) ram → root_of mmu ≡ 0x2000 → d.stopped ≡ None →
    IsContained n (pages_of p) (contents_of p) mmu (world n new ram d)
loads_contained n p old new ram mmu d few many boot file kept root running = record {
  few = few;
  many = many;
  pages = pages_few p;
  root = root;
  kept = kept;
  mode = inr (record { running = running; mode = inl (boots n old new boot file) });
}

-- ---- what turns keep

pub turn_kept : (n : ℕ) (s : State n) → Keeps n s (turned n s).1
unfolding turned
turn_kept n s p c = (turns_contained n (pages_of p) (contents_of p) s.mmu s.world c).keeps

turned_by : (n : ℕ) (s : State n) → KeepsBy n s (turned n s).0 (turned n s).1
unfolding turned
turned_by n s p c = turns_contained n (pages_of p) (contents_of p) s.mmu s.world c

after_kept : (n : ℕ) (s : State n) (k : ℕ) → Keeps n s (state_after n k s)
after_kept n s zero p c = c
after_kept n s (suc k) p c = turn_kept n (state_after n k s) p (after_kept n s k p c)

pub turns_kept : (n : ℕ) (old new : State n) → Turns n old new → Keeps n old new
turns_kept n old new t p c = subst (Contains n p) (sym t.is) (after_kept n old t.count p c)

pub run_kept : (n limit : ℕ) (old new : State n) → IsRun n limit old new → Keeps n old new
run_kept n limit old new r = turns_kept n old new r.turns

pub cut_kept : (n limit : ℕ) (old new : State n) → IsCutShort n limit old new → Keeps n old new
cut_kept n limit old new r = turns_kept n old new r.turns

pub step_kept_by : (n : ℕ) (old new : State n) (t : Turn) → turned n old ≡ (t, new) → KeepsBy n old t new
step_kept_by n old new t e p c =
    subst (λ (r : Turn × State n). TurnIs n (pages_of p) (contents_of p) old.mmu old.world (r.0, r.1.world)) e (turned_by n old p c)

pub ok_kept_by : {E : Type 0} (n : ℕ) (old new : State n) (r : Result Turn E) → IfOk r (λ t. turned n old ≡ (t, new)) → IfOk r (λ t. KeepsBy n old t new)
ok_kept_by n old new (Ok t) e = step_kept_by n old new t e
ok_kept_by n old new (Err f) e = tt

pub result_kept : {E : Type 0} (n : ℕ) (old new : State n) (r : Result Turn E) → IfOk r (λ t. turned n old ≡ (t, new)) → OnErr r (new ≡ old) → Keeps n old new
result_kept n old new (Ok t) e same = subst (Keeps n old) (ap (λ (r : Turn × State n). r.1) e) (turn_kept n old)
result_kept n old new (Err f) e same = subst (Keeps n old) (sym same) (λ p c. c)

pub stays_contained : (n : ℕ) (p : Parts) (s : State n) → Contains n p s → StaysContained n p s
stays_contained n p s c k = turned_by n (state_after n k s) p (after_kept n s k p c)
