-- A branch: each way that the codes allow is a visit of its slot.
use Rattle.std.proofs.Common.{◌≡◌, ℕ, suc, ◌+◌, ◌-◌, ◌≤◌, Bool, true, false, List, [], ◌∷◌, ◌++◌, Option, Some, None, refl, sym, ap, ◌∙◌, subst, arith}
use Rattle.std.specs.Prelude.{◌==◌, ◌&&◌, ◌||◌, not, if◌then◌else◌, slice_get}
use Rattle.std.proofs.lemmas.Bool.Decides.{nat_tests}
use Rattle.v8_word.specs.Conditions.{holds}
use Rattle.v8_word.specs.declared.Cond.{Cond}
use Rattle.v8_word.specs.declared.Icc.{Icc}
use Rattle.v8_formats.specs.declared.instr.Branch.{Branch}
use Rattle.v8_meaning.specs.declared.operation.Operation.TheVariants.{BranchOnCondition}
use Rattle.v8_meaning.specs.Operands.{following, is_always, target}
use Rattle.sbx_image.specs.Block.{Block}
use Rattle.sbx_image.specs.Parts.{Parts}
use Rattle.sbx_flat.specs.Registers.{Words}
use Rattle.sbx_flat.specs.Runs.{weight_of}
use Rattle.sbx_rules.specs.Operations.{is_call, is_return}
use Rattle.sbx_rules.specs.Fits.{Fits}
use Rattle.sbx_rules.specs.Known.{Known}
use Rattle.sbx_rules.specs.Rules.{is_defined, is_some}
use Rattle.sbx_rules.specs.Ways.{Visit, Way, branch_way, falls, state_at, taken_visit, untaken_visit, visit_if, visits_after, visits_at, way_to}
use Rattle.sbx_image.specs.Order.{address_of, function_at, or_block}
use Rattle.sbx_rules.specs.Places.{find_block, op_at}
use Rattle.sbx_range.specs.Refining.{opposite}
use Rattle.sbx_sound.proofs.Running.{At, Follows, IsVisit, straight_visit}
use Rattle.sbx_form.specs.Forms.{Cells}
use Rattle.sbx_sound.proofs.Shared.{Shared}
use Rattle.sbx_rules.specs.Refining.{refined}
use Rattle.sbx_sound.proofs.Arrivals.{goes_plainly, next_there}
use Rattle.sbx_sound.proofs.Effects.{branched_shared}
use Rattle.sbx_sound.proofs.Transfers.{ComesStraight, light_ledger, slot_at}
use Rattle.v8_word.specs.declared.Cond.TheVariants as conds

pub record FoundBlock (n address m : ℕ) (bs : List Block) : Type 0 where
  pub from : n ≤ m
  pub is : (or_block (slice_get bs (m - n))).address ≡ address

found_here : (n m : ℕ) → Some n ≡ Some m → n ≡ m
found_here n m e = cc

find_block_is : (n address : ℕ) (bs : List Block) (m : ℕ) → find_block n address bs ≡ Some m → FoundBlock n address m bs
find_block_is n address [] m e = absurd (cc)
find_block_is n address (b ∷ bs) m e = by_test (find_block_is (suc n) address bs m) (b.address == address) refl e
  where
    by_test : (find_block (suc n) address bs ≡ Some m → FoundBlock (suc n) address m bs) → (t : Bool) → (b.address == address) ≡ t →
        (if t then Some n else find_block (suc n) address bs) ≡ Some m → FoundBlock n address m (b ∷ bs)
    by_test later true p q =
        let same = found_here n m q in
        let none : m - n ≡ 0 = omega arith in
        record { from = omega arith; is = ap (λ k. (or_block (slice_get (b ∷ bs) k)).address) none ∙ (let x : b.address ≡ address = grind (arith, nat_tests) in x) }
    by_test later false p q =
        let rest = later q in
        let from = rest.from in
        let one : m - n ≡ suc (m - suc n) = omega arith in
        record { from = omega arith; is = ap (λ k. (or_block (slice_get (b ∷ bs) k)).address) one ∙ rest.is }

-- ---- the visits of a slot

visit_first : (o : Option Known) (d : Known) (way : Way) (a : Bool) (rest : List Visit) → o ≡ Some d → slice_get (visit_if o way a ++ rest) 0 ≡ Some (record { known = d; way = way; annulled = a })
visit_first o d way a rest e = ap (λ x. slice_get (visit_if x way a ++ rest) 0) e

visit_last : (o p : Option Known) (d : Known) (way other : Way) (a b : Bool) → p ≡ Some d →
    (n : ℕ) × (slice_get (visit_if o other b ++ visit_if p way a) n ≡ Some (record { known = d; way = way; annulled = a }))
visit_last None p d way other a b e = (0, ap (λ x. slice_get (visit_if x way a) 0) e)
visit_last (Some c) p d way other a b e = (1, ap (λ x. slice_get (visit_if (Some c) other b ++ visit_if x way a) 1) e)

-- what is left of a state on a way that the codes allow
pub record Refines (c : Cond) (d : Known) (start : Cells) (words : Words) (icc : Icc) (y : ℕ) : Type 0 where
  pub known : Known
  pub is : refined c d ≡ Some known
  pub fits : Fits start known words icc y
  -- a refinement defines nothing anew
  pub defined : (l : ℕ) → is_defined known l ≡ true → is_defined d l ≡ true
  pub codes : known.icc ≡ true → d.icc ≡ true
  pub y_defined : is_some known.y ≡ true → is_some d.y ≡ true

pub not_always : (c : Cond) (icc : Icc) → holds c icc ≡ false → is_always c ≡ false
not_always conds.Always icc h = absurd (cc)
not_always _ icc h = refl

taken_annuls : (a always held : Bool) → held ≡ true → (a && (always || not held)) ≡ (a && always)
taken_annuls true true held h = refl
taken_annuls true false held h = ap not h
taken_annuls false always held h = refl

untaken_annuls : (a always held : Bool) → held ≡ false → (a && (always || not held)) ≡ a
untaken_annuls true true held h = refl
untaken_annuls true false held h = ap not h
untaken_annuls false always held h = refl

module _ (parts : Parts) where
  way_follows : (f b i address : ℕ) (o : Option ℕ) → o ≡ find_block 0 address (function_at parts f).blocks → Follows parts f b i (way_to o) address
  unfolding address_of
  way_follows f b i address None e = tt
  way_follows f b i address (Some t) e =
      let found = find_block_is 0 address (function_at parts f).blocks t (sym e) in
      let same : t - 0 ≡ t = omega arith in
      let at : (or_block (slice_get (function_at parts f).blocks t)).address ≡ address = sym (ap (λ m. (or_block (slice_get (function_at parts f).blocks m)).address) same) ∙ found.is in
      omega (arith, at)

  taken_follows : (f b i displacement : ℕ) → Follows parts f b (suc i) (branch_way parts f b i displacement) (target (address_of parts f b i) displacement)
  unfolding branch_way
  taken_follows f b i displacement =
      way_follows f b (suc i) (target (address_of parts f b i) displacement)
      (find_block 0 (target (address_of parts f b i) displacement) (function_at parts f).blocks) refl

  abbrev pub taken : Branch → ℕ → ℕ → ℕ → Known → Visit
  taken c f b i d = record { known = d; way = branch_way parts f b i c.displacement; annulled = c.annul && is_always c.cond }

  abbrev pub untaken : Branch → ℕ → ℕ → ℕ → Known → Visit
  untaken c f b i d = record { known = d; way = falls parts f b (suc i); annulled = c.annul }

  pub taken_is : (c : Branch) (f b i : ℕ) (d : Known) → op_at parts f b i ≡ BranchOnCondition c → refined c.cond (state_at parts f b i) ≡ Some d → IsVisit parts f b (suc i) (taken c f b i d)
  unfolding visits_at
  taken_is c f b i d op e = (
    0,
    ap (λ o. slice_get (visits_after parts f b i o (state_at parts f b i) (state_at parts f b (suc i))) 0) op
        ∙ visit_first (refined c.cond (state_at parts f b i)) d (branch_way parts f b i c.displacement) (c.annul && is_always c.cond)
        (untaken_visit c (falls parts f b (suc i)) (state_at parts f b i)) e,
  )

  pub untaken_is : (c : Branch) (f b i : ℕ) (d : Known) → op_at parts f b i ≡ BranchOnCondition c → is_always c.cond ≡ false →
      refined (opposite c.cond) (state_at parts f b i) ≡ Some d → IsVisit parts f b (suc i) (untaken c f b i d)
  unfolding visits_at
  untaken_is c f b i d op some e =
      let xs = taken_visit c (branch_way parts f b i c.displacement) (state_at parts f b i) in
      let last = visit_last (refined c.cond (state_at parts f b i)) (refined (opposite c.cond) (state_at parts f b i)) d (falls parts f b (suc i))
      (branch_way parts f b i c.displacement) c.annul (c.annul && is_always c.cond) e in (
        last.0,
        ap (λ o. slice_get (visits_after parts f b i o (state_at parts f b i) (state_at parts f b (suc i))) last.0) op
            ∙ ap (λ (t : Bool). slice_get (xs ++ (if t then [] else visit_if (refined (opposite c.cond) (state_at parts f b i)) (falls parts f b (suc i)) c.annul)) last.0) some ∙ last.1,
      )

  -- a branch that is taken
  pub branch_taken : (w : ℕ) (k : Shared) (f b i : ℕ) (c : Branch) (start : Cells) → op_at parts f b i ≡ BranchOnCondition c → ComesStraight parts f b i → holds c.cond k.icc ≡ true
      → (r : Refines c.cond (state_at parts f b i) start k.words k.icc k.y)
      → At parts w k f b i (straight_visit parts f b i) start → At parts (w + 1) (branched_shared c k) f b (suc i) (taken c f b i r.known) start
  branch_taken w k f b i c start op comes held r a = record {
    place = next_there parts f b i comes.next a.place;
    is_visit = taken_is c f b i r.known op r.is;
    pc = slot_at parts f b i w k start comes a;
    npc = goes_plainly parts (is_call (op_at parts f b i)) (is_return (op_at parts f b i)) f b (suc i) (branch_way parts f b i c.displacement) k.calls
        (branched_shared c k).npc (ap is_call op) (ap is_return op)
        (subst (Follows parts f b (suc i) (branch_way parts f b i c.displacement))
        (sym (ap (λ (t : Bool). if t then target k.pc c.displacement else following k.npc) held ∙ ap (λ x. target x c.displacement) a.pc))
        (taken_follows f b i c.displacement));
    annulled = taken_annuls c.annul (is_always c.cond) (holds c.cond k.icc) held;
    exit = a.exit;
    begun = a.begun;
    fits = r.fits;
    link = λ h. absurd (let e = ap is_call op in cc);
    calls = a.calls;
    base = ap (λ x. k.base + x) (sym comes.same) ∙ a.base;
    eight = a.eight;
    room = a.room;
    stored = a.stored;
    ledger = light_ledger parts f b i w k (straight_visit parts f b i) start comes.no_call (ap weight_of op) a;
  }

  -- a branch that isn't
  pub branch_untaken : (w : ℕ) (k : Shared) (f b i : ℕ) (c : Branch) (start : Cells) → op_at parts f b i ≡ BranchOnCondition c → ComesStraight parts f b i → holds c.cond k.icc ≡ false
      → (r : Refines (opposite c.cond) (state_at parts f b i) start k.words k.icc k.y)
      → Follows parts f b (suc i) (falls parts f b (suc i)) (following (address_of parts f b (suc i)))
      → At parts w k f b i (straight_visit parts f b i) start → At parts (w + 1) (branched_shared c k) f b (suc i) (untaken c f b i r.known) start
  branch_untaken w k f b i c start op comes held r follows a = record {
    place = next_there parts f b i comes.next a.place;
    is_visit = untaken_is c f b i r.known op (not_always c.cond k.icc held) r.is;
    pc = slot_at parts f b i w k start comes a;
    npc = goes_plainly parts (is_call (op_at parts f b i)) (is_return (op_at parts f b i)) f b (suc i) (falls parts f b (suc i)) k.calls (branched_shared c k).npc (ap is_call op) (ap is_return op)
        (subst (Follows parts f b (suc i) (falls parts f b (suc i)))
        (sym (ap (λ (t : Bool). if t then target k.pc c.displacement else following k.npc) held
        ∙ ap following (slot_at parts f b i w k start comes a))) follows);
    annulled = untaken_annuls c.annul (is_always c.cond) (holds c.cond k.icc) held;
    exit = a.exit;
    begun = a.begun;
    fits = r.fits;
    link = λ h. absurd (let e = ap is_call op in cc);
    calls = a.calls;
    base = ap (λ x. k.base + x) (sym comes.same) ∙ a.base;
    eight = a.eight;
    room = a.room;
    stored = a.stored;
    ledger = light_ledger parts f b i w k (straight_visit parts f b i) start comes.no_call (ap weight_of op) a;
  }
