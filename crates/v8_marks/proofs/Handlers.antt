-- The turns of a window trap's handler, and the entries after them.
use Rattle.std.proofs.Common.{◌≡◌, ◌≢◌, ℕ, zero, suc, ◌+◌, ◌*◌, ◌/◌, ◌%◌, ◌^◌, ◌<◌, ◌≤◌, ◌⊎◌, inl, inr, Bool, true, false, List, drop, Option, Some, None, refl, sym, ap, ◌∙◌, subst, arith}
use Rattle.std.specs.Prelude.{◌||◌, if◌then◌else◌, not}
use Rattle.std.proofs.lemmas.Bool.Decides.{nat_tests}
use Rattle.std.proofs.lemmas.List.{get_or-drop}
use Rattle.v8_core.specs.Operation.{Operation}
use Rattle.v8_core.specs.Operations.{store}
use Rattle.v8_core.specs.AccessKind.TheVariants.{Fetch}
use Rattle.v8_core.specs.Memory.{fetches}
use Rattle.v8_core.specs.Paths.{marked}
use Rattle.v8_mmu.proofs.RamMore.{marked_high, marked_low, marked_modified, marked_referenced}
use Rattle.v8_core.specs.MmuRegs.{MmuRegs}
use Rattle.v8_core.specs.Cpu.{Cpu}
use Rattle.v8_core.specs.Windows.{IsFile}
use Rattle.v8_core.specs.declared.turn.DataAccess.{DataAccess}
use Rattle.v8_core.specs.declared.turn.Event.TheVariants.{Ran}
use Rattle.v8_core.specs.declared.turn.Turn.{Turn}
use Rattle.v8_core.specs.Accesses.{World, world}
use Rattle.v8_core.specs.Steps.{next}
use Rattle.v8_loaded.specs.Handlers.{handler_word}
use Rattle.v8_loaded.specs.Layout.{Pages}
use Rattle.v8_loaded.specs.Board.{Device, board}
use Rattle.v8_loaded.specs.Places.{handlers_marked}
use Rattle.v8_loaded.specs.Turns.{IsHandlers, ReachesArea, world_after, turn_at}
use Rattle.v8_loaded.specs.Users.{IsHandled, RunsUser}
use Rattle.v8_loaded.proofs.Fetches.{fetches_handlers}
use Rattle.v8_loaded.proofs.Leading.{shifted, turn_later}
use Rattle.v8_loaded.proofs.Turns.{Area, Comes}
use Rattle.v8_loaded.proofs.Users.{pc_word}
use Rattle.v8_loaded.proofs.Words.{Asks}
use Rattle.v8_contained.specs.Contained.{Contents, IsContained, IsShaped}
use Rattle.v8_contained.proofs.Law.{turns_contained}
use Rattle.v8_marks.specs.Marks.{after_access, after_fetch, after_turn, entry_at, is_in, reached, with_mark}
use Rattle.v8_marks.specs.Handlers.{after_handler, holds_some}
use Rattle.v8_marks.specs.Users.{reach_of}
use Rattle.v8_marks.proofs.Reaching.{Reaches, ran_reaches, reaches_are}
use Rattle.v8_marks.proofs.Turning.{turns_mark}

-- ---- entries in a row

same_number : (a b : ℕ) → a / 2 ^ 7 ≡ b / 2 ^ 7 → a % 2 ^ 5 ≡ b % 2 ^ 5 → a / 2 ^ 5 % 2 ≡ b / 2 ^ 5 % 2 → a / 2 ^ 6 % 2 ≡ b / 2 ^ 6 % 2 → a ≡ b
same_number a b high low fifth sixth = omega arith

same_sixth : (w : ℕ) (store : Bool) → marked (marked w store) store / 2 ^ 6 % 2 ≡ marked w store / 2 ^ 6 % 2
same_sixth w true = marked_modified (marked w true) true ∙ sym (marked_modified w true)
same_sixth w false = marked_modified (marked w false) false

marked_again : (w : ℕ) (store : Bool) → marked (marked w store) store ≡ marked w store
marked_again w store =
    same_number (marked (marked w store) store) (marked w store) (marked_high (marked w store) store) (marked_low (marked w store) store)
    (marked_referenced (marked w store) store ∙ sym (marked_referenced w store)) (same_sixth w store)

mark_again : (store : Bool) (o : Option ℕ) → with_mark store (with_mark store o) ≡ with_mark store o
mark_again store None = refl
mark_again store (Some w) = ap Some (marked_again w store)

-- each is the one before, or that with a mark
abbrev AreMarked : Bool → ℕ → (ℕ → Option ℕ) → Type 0
AreMarked store count o = (k : ℕ) → k < count → (o (suc k) ≡ o k) ⊎ (o (suc k) ≡ with_mark store (o k))

module _ (store : Bool) (count : ℕ) (o : ℕ → Option ℕ) (each : AreMarked store count o) where
  at_any : (k : ℕ) → k ≤ count → (o k ≡ o 0) ⊎ (o k ≡ with_mark store (o 0))
  at_any zero most = inl refl
  at_any (suc k) most = by_last (each k (omega arith)) (at_any k (omega arith))
    where
      by_last : (o (suc k) ≡ o k) ⊎ (o (suc k) ≡ with_mark store (o k)) → (o k ≡ o 0) ⊎ (o k ≡ with_mark store (o 0)) → (o (suc k) ≡ o 0) ⊎ (o (suc k) ≡ with_mark store (o 0))
      by_last (inl same) (inl none) = inl (same ∙ none)
      by_last (inl same) (inr once) = inr (same ∙ once)
      by_last (inr more) (inl none) = inr (more ∙ ap (with_mark store) none)
      by_last (inr more) (inr once) = inr (more ∙ ap (with_mark store) once ∙ mark_again store (o 0))

  hit_at : (j : ℕ) → j < count → o (suc j) ≡ with_mark store (o j) → o (suc j) ≡ with_mark store (o 0)
  hit_at j less hit = by_before (at_any j (omega arith))
    where
      by_before : (o j ≡ o 0) ⊎ (o j ≡ with_mark store (o 0)) → o (suc j) ≡ with_mark store (o 0)
      by_before (inl none) = hit ∙ ap (with_mark store) none
      by_before (inr once) = hit ∙ ap (with_mark store) once ∙ mark_again store (o 0)

  stays_hit : (j k : ℕ) → j < count → o (suc j) ≡ with_mark store (o j) → suc j + k ≤ count → o (suc j + k) ≡ with_mark store (o 0)
  stays_hit j zero less hit most = let e : suc j + 0 ≡ suc j = omega arith in ap o e ∙ hit_at j less hit
  stays_hit j (suc k) less hit most = let e : suc j + suc k ≡ suc (suc j + k) = omega arith in ap o e ∙ by_last (each (suc j + k) (omega arith)) (stays_hit j k less hit (omega arith))
    where
      by_last : (o (suc (suc j + k)) ≡ o (suc j + k)) ⊎ (o (suc (suc j + k)) ≡ with_mark store (o (suc j + k))) → o (suc j + k) ≡ with_mark store (o 0) → o (suc (suc j + k)) ≡ with_mark store (o 0)
      by_last (inl same) once = same ∙ once
      by_last (inr more) once = more ∙ ap (with_mark store) once ∙ mark_again store (o 0)

never_marked : (count : ℕ) (o : ℕ → Option ℕ) → ((k : ℕ) → k < count → o (suc k) ≡ o k) → (k : ℕ) → k ≤ count → o k ≡ o 0
never_marked count o each zero most = refl
never_marked count o each (suc k) most = each k (omega arith) ∙ never_marked count o each k (omega arith)

-- ---- user code on a loaded board is contained

shaped : (n : ℕ) (cpu : Cpu n) → IsFile n cpu.regs → IsShaped n cpu.regs
shaped n cpu file = record { current = file.current; count = file.rows.count; each = file.rows.each }

abbrev pub held_of : List ℕ → List ℕ → Contents
held_of words ram = record { words = words; bytes = drop 0x50000 ram }

pub user_contained : (n : ℕ) (g : Pages) (words : List ℕ) (mmu : MmuRegs) (x : World n Device) (k : ℕ) → RunsUser n g words mmu x k → IsContained n g (held_of words x.memory.ram) mmu x
user_contained n g words mmu x k u = record {
  few = u.file.few;
  many = u.file.many;
  pages = u.few;
  root = u.root;
  kept = record { loaded = u.loaded; fixed = λ j less fixed. sym (get_or-drop 0x50000 x.memory.ram j 0) };
  mode = inr (record {
    running = u.running;
    mode = inl (record { shape = shaped n x.cpu u.file; user = u.user; traps = u.traps; table = u.table; sane = u.sane; pc_word = pc_word n g words mmu x k u; npc_word = u.npc_word });
  });
}

pub after_contained : (n : ℕ) (g : Pages) (held : Contents) (mmu : MmuRegs) (x : World n Device) (k : ℕ) → IsContained n g held mmu x → IsContained n g held mmu (world_after board n mmu k x)
after_contained n g held mmu x zero c = c
after_contained n g held mmu x (suc k) c = (turns_contained n g held mmu (world_after board n mmu k x) (after_contained n g held mmu x k c)).keeps

-- ---- a handler's turn

pub system_fetch : (i pc : ℕ) (word : Option ℕ) (entry : Option ℕ) → i < 192 → (pc / 4096 ≡ 0xF0000) ⊎ (pc / 4096 ≡ 0xF0001) → after_fetch i pc word entry ≡ entry
system_fetch i pc None entry less page = refl
system_fetch i pc (Some w) entry less page = ap (λ (b : Bool). if b then with_mark false entry else entry) (elsewhere page)
  where
    elsewhere : (pc / 4096 ≡ 0xF0000) ⊎ (pc / 4096 ≡ 0xF0001) → is_in i pc ≡ false
    elsewhere (inl e) = grind (arith, nat_tests)
    elsewhere (inr e) = grind (arith, nat_tests)

in_it : (i va : ℕ) (store : Bool) (entry : Option ℕ) → is_in i va ≡ true → reached i va store entry ≡ with_mark store entry
in_it i va store entry e = ap (λ (b : Bool). if b then with_mark store entry else entry) e

beside_it : (i va : ℕ) (store : Bool) (entry : Option ℕ) → is_in i va ≡ false → reached i va store entry ≡ entry
beside_it i va store entry e = ap (λ (b : Bool). if b then with_mark store entry else entry) e

marks_or_not : (i va : ℕ) (store : Bool) (entry : Option ℕ) → (reached i va store entry ≡ entry) ⊎ (reached i va store entry ≡ with_mark store entry)
marks_or_not i va store entry = by_page (is_in i va) refl
  where
    by_page : (b : Bool) → is_in i va ≡ b → (reached i va store entry ≡ entry) ⊎ (reached i va store entry ≡ with_mark store entry)
    by_page true e = inr (in_it i va store entry e)
    by_page false e = inl (beside_it i va store entry e)

area_marks : (i sp : ℕ) (store : Bool) (access : Option DataAccess) (entry : Option ℕ) → ReachesArea sp 64 store access →
    (after_access i access entry ≡ entry) ⊎ (after_access i access entry ≡ with_mark store entry)
area_marks i sp store None entry area = inl refl
area_marks i sp store (Some a) entry (low, high, eight, double, kind) =
    subst (λ s. (reached i a.va s entry ≡ entry) ⊎ (reached i a.va s entry ≡ with_mark store entry)) (sym kind) (marks_or_not i a.va store entry)

apart : (i sp va : ℕ) → i < 192 → sp % 8 ≡ 0 → sp ≤ va → va < sp + 64 → va % 8 ≡ 0 → is_in i sp ≡ false → is_in i (sp + 63) ≡ false → is_in i va ≡ false
apart i sp va less aligned low high eight first last =
    let a : sp / 4096 ≢ 0x40 + i = grind (arith, nat_tests) in
    let b : (sp + 63) / 4096 ≢ 0x40 + i = grind (arith, nat_tests) in
    let c : va / 4096 ≢ 0x40 + i = omega arith in
    grind (arith, nat_tests)

area_beside : (i sp : ℕ) (store : Bool) (access : Option DataAccess) (entry : Option ℕ) → i < 192 → sp % 8 ≡ 0 → is_in i sp ≡ false →
    is_in i (sp + 63) ≡ false → ReachesArea sp 64 store access → after_access i access entry ≡ entry
area_beside i sp store None entry less aligned first last area = refl
area_beside i sp store (Some a) entry less aligned first last (low, high, eight, double, kind) = beside_it i a.va a.store entry (apart i sp a.va less aligned low high eight first last)

reach_marks : (i va : ℕ) (store : Bool) (access : Option DataAccess) (entry : Option ℕ) → is_in i va ≡ true → Reaches (Some (va, store)) access → after_access i access entry ≡ with_mark store entry
reach_marks i va store access entry here r = reaches_are i (Some (va, store)) access entry r ∙ in_it i va store entry here

last_page : (i sp : ℕ) → sp % 8 ≡ 0 → is_in i (sp + 63) ≡ true → is_in i (sp + 56) ≡ true
last_page i sp aligned e =
    let a : (sp + 63) / 4096 ≡ 0x40 + i = grind (arith, nat_tests) in
    let b : (sp + 56) / 4096 ≡ 0x40 + i = omega arith in
    grind (arith, nat_tests)

-- ---- all turns

module _ (n : ℕ) (g : Pages) (words : List ℕ) (mmu : MmuRegs) (x : World n Device) (k : ℕ) (u : RunsUser n g words mmu x k) (i : ℕ) (less : i < 192)
    (t sp : ℕ) (store : Bool) (aligned : sp % 8 ≡ 0) (handled : IsHandled n words mmu x k t sp store)
    (first : Reaches (Some (sp, store)) (turn_at board n mmu 11 (next board n mmu x).1).access) (last : Reaches (Some (sp + 56, store)) (turn_at board n mmu 18 (next board n mmu x).1).access) where
  abbrev start : World n Device
  start = (next board n mmu x).1

  abbrev entry : ℕ → Option ℕ
  entry j = entry_at (world_after board n mmu j start).memory.ram i

  contained : IsContained n g (held_of words x.memory.ram) mmu x
  contained = user_contained n g words mmu x k u

  -- after the trap
  trap_marks : entry 0 ≡ reached i x.cpu.control.pc false (entry_at x.memory.ram i)
  trap_marks = turns_mark n g (held_of words x.memory.ram) mmu x i contained less ∙ ap (λ (q : Turn). after_turn i q (entry_at x.memory.ram i)) handled.trap

  turns : (j : ℕ) → j < 23 → IsHandlers sp 64 store (turn_at board n mmu j start)
  turns j small = subst (IsHandlers sp 64 store) (turn_later board n mmu j x) (handled.turns j small)

  turn_marks : (j : ℕ) → j < 23 → entry (suc j) ≡ after_access i (turn_at board n mmu j start).access (entry j)
  turn_marks j small =
      let turn = turn_at board n mmu j start in
      turns_mark n g (held_of words x.memory.ram) mmu (world_after board n mmu j start) i
      (after_contained n g (held_of words x.memory.ram) mmu start j (turns_contained n g (held_of words x.memory.ram) mmu x contained).keeps) less
      ∙ ap (after_access i turn.access) (system_fetch i turn.pc turn.word (entry j) less (turns j small).page)

  each : AreMarked store 23 entry
  each j small = marked_by (area_marks i sp store (turn_at board n mmu j start).access (entry j) (turns j small).access)
    where
      marked_by : (after_access i (turn_at board n mmu j start).access (entry j) ≡ entry j)
          ⊎ (after_access i (turn_at board n mmu j start).access (entry j) ≡ with_mark store (entry j)) →
          (entry (suc j) ≡ entry j) ⊎ (entry (suc j) ≡ with_mark store (entry j))
      marked_by (inl same) = inl (turn_marks j small ∙ same)
      marked_by (inr more) = inr (turn_marks j small ∙ more)

  all_marks : (a b : Bool) → is_in i sp ≡ a → is_in i (sp + 63) ≡ b → entry 23 ≡ (if a || b then with_mark store (entry 0) else entry 0)
  all_marks true b here there =
      stays_hit store 23 entry each 11 11 (omega arith)
      (turn_marks 11 (omega arith) ∙ reach_marks i sp store (turn_at board n mmu 11 start).access (entry 11) here first) (omega arith)
  all_marks false true here there =
      stays_hit store 23 entry each 18 4 (omega arith)
      (turn_marks 18 (omega arith) ∙ reach_marks i (sp + 56) store (turn_at board n mmu 18 start).access (entry 18) (last_page i sp aligned there) last)
      (omega arith)
  all_marks false false here there =
      never_marked 23 entry (λ j small. turn_marks j small ∙ area_beside i sp store (turn_at board n mmu j start).access (entry j) less aligned here there (turns j small).access) 23 (omega arith)

  pub handler_marks : entry_at (world_after board n mmu 24 x).memory.ram i ≡ after_handler i x.cpu.control.pc sp store (entry_at x.memory.ram i)
  handler_marks =
      ap (λ (w : World n Device). entry_at w.memory.ram i) (shifted board n mmu 23 x) ∙ all_marks (is_in i sp) (is_in i (sp + 63)) refl refl
      ∙ ap (λ o. if holds_some i sp then with_mark store o else o) trap_marks

-- ---- the first double word and the last

-- A handler's word that moves a double word at %sp, from a processor in the handlers.
module _ (n : ℕ) (g : Pages) (words : List ℕ) (mmu : MmuRegs) (x : World n Device) (k : ℕ) (u : RunsUser n g words mmu x k) (j w : ℕ) (a : Area) (old : World n Device) (cpu : Cpu n) (op : Operation)
    (before : Comes n g words mmu x.memory.device a j old cpu) (small : w < 1024) (at : cpu.control.pc ≡ 0xF0001000 + 4 * w) (system : cpu.control.s ≡ true)
    (sane : cpu.control.error ≡ None) (straight : cpu.control.annul ≡ false)
    (asks : Asks (handler_word n w) op) (ran : (turn_at board n mmu j old).event ≡ Ran) where
  pub moves_there : Reaches (reach_of n cpu op) (turn_at board n mmu j old).access
  moves_there =
      let y = world n cpu before.ram x.memory.device in
      let fetch = ap (λ b. fetches mmu cpu.control.pc (record { user = not b; kind = Fetch }) before.ram) system
      ∙ ap (λ p. fetches mmu p (record { user = false; kind = Fetch }) before.ram) at
      ∙ fetches_handlers n g words before.ram mmu u.few before.loaded u.root w small in
      let here : turn_at board n mmu j old ≡ (next board n mmu y).0 = ap (λ (z : World n Device). (next board n mmu z).0) before.is in
      subst (λ (q : Turn). Reaches (reach_of n cpu op) q.access) (sym here)
      (ran_reaches n mmu y (handler_word n w) (handlers_marked before.ram) op (record { running = u.running; sane = sane; straight = straight }) fetch asks
      (sym (ap (λ (q : Turn). q.event) here) ∙ ran))

module _ (n : ℕ) (g : Pages) (words : List ℕ) (mmu : MmuRegs) (x : World n Device) (k : ℕ) (u : RunsUser n g words mmu x k) (t sp : ℕ) (store : Bool)
    (handled : IsHandled n words mmu x k t sp store) (old : World n Device) (begun_so : (next board n mmu x).1 ≡ old) where
  pub ran_at : (j : ℕ) → j < 23 → (turn_at board n mmu j old).event ≡ Ran
  ran_at j small =
      sym (ap (λ (q : World n Device). (turn_at board n mmu j q).event) begun_so) ∙ sym (ap (λ (q : Turn). q.event) (turn_later board n mmu j x)) ∙ (handled.turns j small).event

  pub from_old : (j va to : ℕ) → va ≡ to → Reaches (Some (va, store)) (turn_at board n mmu j old).access → Reaches (Some (to, store)) (turn_at board n mmu j (next board n mmu x).1).access
  from_old j va to same r =
      subst (λ (q : World n Device). Reaches (Some (to, store)) (turn_at board n mmu j q).access) (sym begun_so)
      (subst (λ p. Reaches (Some (p, store)) (turn_at board n mmu j old).access) same r)
