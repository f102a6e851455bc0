-- The SAVE of a function, branches, annulled slots and the exit.
use Rattle.std.proofs.Common.{◌≡◌, ◌≢◌, ℕ, suc, ◌+◌, ◌-◌, ◌%◌, ◌^◌, ◌<◌, ◌≤◌, ℤ, Bool, true, false, List, [], ◌∷◌, Option, Some, None, refl, sym, ap, ◌∙◌, subst, inl, inr, arith}
use Rattle.std.specs.Prelude.{pos, ◌+ℤ◌, ◌-ℤ◌, ◌≤ℤ◌, ◌==◌, ◌&&◌, ◌||◌, not, if◌then◌else◌}
use Rattle.std.proofs.lemmas.Bool.Decides.{nat_tests}
use Rattle.v8_word.specs.Conditions.{holds}
use Rattle.v8_word.specs.declared.Cond.{Cond}
use Rattle.v8_word.specs.declared.Icc.{Icc}
use Rattle.v8_formats.specs.declared.instr.Branch.{Branch}
use Rattle.v8_formats.specs.declared.instr.Operand.TheVariants.{Immediate}
use Rattle.v8_formats.specs.declared.instr.Three.{Three}
use Rattle.v8_meaning.specs.declared.operation.Operation.TheVariants.{BranchOnCondition, Save, TrapOnCondition}
use Rattle.v8_meaning.specs.Operands.{address, following}
use Rattle.sbx_image.specs.Parts.{Parts}
use Rattle.sbx_flat.specs.Effects.{declares, does, exits, serves, service_of}
use Rattle.sbx_flat.specs.Registers.{Words}
use Rattle.sbx_flat.specs.Runs.{budget, place_of, reached_at, reached_by, weight_at, weight_of}
use Rattle.sbx_flat.specs.Turns.{goes_on, turn, word_at}
use Rattle.std.proofs.lemmas.Int.{ints}
use Rattle.v8_formats.specs.declared.instr.Trap.{Trap}
use Rattle.sbx_sound.proofs.Ledger.{all_left, numbers, one_word, within_budget}
use Rattle.sbx_flat.specs.declared.path.Wrong.TheVariants.{NoService}
use Rattle.sbx_flat.specs.States.{State, Goes, Fails, advanced, reg}
use Rattle.sbx_rules.specs.Fuel.{IsEnough, IsPaid}
use Rattle.sbx_rules.specs.Rules.{has_cells, is_defined, is_some}
use Rattle.sbx_rules.specs.Operations.{is_call, is_framed, is_return}
use Rattle.sbx_rules.specs.Known.{Known}
use Rattle.sbx_rules.specs.Forms.{form_value}
use Rattle.sbx_rules.specs.Ways.{To, Visit, cells_at, falls, fuel_at, weight_to, state_at}
use Rattle.sbx_image.specs.Order.{address_of, function_at}
use Rattle.sbx_rules.specs.Places.{op_at, op_before}
use Rattle.sbx_range.specs.Refining.{opposite}
use Rattle.sbx_sound.proofs.Running.{After, AreOpen, At, Follows, IsThere, bytes_of, left_to_all, stack_bottom, straight_visit, tests, window_of}
use Rattle.sbx_form.specs.Forms.{Cells}
use Rattle.sbx_sound.proofs.Shared.{Open, Shared, Shows, base_below, stack_start}
use Rattle.sbx_rules.specs.Transfer.{is_in, saved, transferred}
use Rattle.sbx_sound.proofs.Arrivals.{after_annulled, after_edge, weight_next, after_save, entry_bytes}
use Rattle.sbx_sound.proofs.Branches.{Refines, branch_taken, branch_untaken, taken, untaken}
use Rattle.sbx_sound.proofs.CallSteps.{entry_window}
use Rattle.sbx_sound.proofs.Effects.{branch_reaches, branched_shared, read_shown, read_sp, reaches_by, save_reaches}
use Rattle.sbx_sound.proofs.Frames.{moved_in}
use Rattle.sbx_sound.proofs.ReturnSteps.{GoesOn, arrives}
use Rattle.sbx_sound.proofs.Safe.{Exit, ShowsSpot, Spot, Steps}
use Rattle.sbx_sound.proofs.Steps.{IsLess, IsWord, less_shows, reaches_on, starts_with_less, steps_by}
use Rattle.sbx_sound.proofs.Transfers.{ComesStraight}

-- the bases of the open calls lie at or below the start of the stack
pub base_small : (parts : Parts) (f : ℕ) (calls : List Open) → AreOpen parts f calls → base_below calls ≤ stack_start
base_small parts f [] h = omega arith
base_small parts f (c ∷ cs) h = let rest = base_small parts c.function cs h.1 in let e = h.0.base in omega (arith, rest, e)

-- the sum of the old base and minus the frame
new_base : (x base frame : ℕ) → x ≡ base → frame ≤ base → base < 2 ^ 32 → 1 ≤ frame → (x + (2 ^ 32 - frame)) % 2 ^ 32 ≡ base - frame
new_base x base frame e below small some = omega (arith, e)

saved_test : (l : ℕ) (d : Known) → (not (l == 0) && (is_some (if is_in l then d.entry (l - 16) else None) || ((l == 15) && false))) ≡ true →
    (24 ≤ l) × (l < 32) × ((not (l - 16 == 0) && (is_defined d (l - 16) || ((l - 16 == 15) && false))) ≡ true)
saved_test l d h = by_test (is_in l) refl h
  where
    by_test : (t : Bool) → is_in l ≡ t → (not (l == 0) && (is_some (if t then d.entry (l - 16) else None) || ((l == 15) && false))) ≡ true →
        (24 ≤ l) × (l < 32) × ((not (l - 16 == 0) && (is_defined d (l - 16) || ((l - 16 == 15) && false))) ≡ true)
    by_test true e q = (grind (arith, nat_tests), grind (arith, nat_tests), grind (arith, nat_tests))
    by_test false e q = absurd (let p : (not (l == 0) && (false || ((l == 15) && false))) ≡ true = q in grind (arith, nat_tests))

module _ (parts : Parts) where
  -- ---- SAVE

  -- What the rules say of a framed function's first word.
  pub record SavesWell (f : ℕ) : Type 0 where
    pub framed : is_framed (function_at parts f).kind ≡ true
    pub op : op_at parts f 0 0 ≡ Save (record { rd = 14; rs1 = 14; operand2 = Immediate (2 ^ 32 - (function_at parts f).frame) })
    pub big : 64 ≤ (function_at parts f).frame
    pub eight : (function_at parts f).frame % 8 ≡ 0
    pub room : (function_at parts f).frame ≤ (function_at parts f).stack_room
    pub pages : parts.stack_pages ≤ 16
    pub follows : GoesOn parts f 0 0 (saved (state_at parts f 0 0)) (falls parts f 0 0)

  pub save_word : (w : ℕ) (k : Shared) (f : ℕ) (start : Cells) (at : At parts w k f 0 0 (straight_visit parts f 0 0) start) → IsWord parts f 0 0 → SavesWell f
      → let p : Spot parts w = record { k = k; f = f; b = 0; i = 0; v = straight_visit parts f 0 0; start = start; at = at } in
      Steps parts w p
  unfolding transferred saved
  save_word w k f start at word rules =
      let p : Spot parts w = record { k = k; f = f; b = 0; i = 0; v = straight_visit parts f 0 0; start = start; at = at } in
      let d = state_at parts f 0 0 in
      let frame = (function_at parts f).frame in
      let t : Three = record { rd = 14; rs1 = 14; operand2 = Immediate (2 ^ 32 - frame) } in
      let n = w + weight_of (op_at parts f 0 0) in
      let small = base_small parts f k.calls at.calls in
      let at_base : k.base ≡ base_below k.calls = (let z = entry_bytes parts (function_at parts f) in let e = at.base in omega (arith, z, e)) in
      let deep = at.room in let room = rules.room in let big = rules.big in let k8 = at.eight in let f8 = rules.eight in
      let base = k.base - frame in
      let below : k.base ≡ base + frame = omega (arith, at_base, deep, room) in
      let eight : base % 8 ≡ 0 = omega (arith, below) in
      let bottom : stack_bottom parts ≤ base = omega (arith, at_base, below) in
      let saves : transferred frame (op_at parts f 0 0) d ≡ saved d = ap (λ o. transferred frame o d) rules.op in
      let next_k = record k { pc = k.npc; npc = following k.npc; base = base; words = moved_in k.words } in
      let after = after_save parts w k f (straight_visit parts f 0 0) start base rules.framed refl (sym below) eight saves at in
      let there = subst (λ x. After parts n next_k f 0 0 x (falls parts f 0 0) start) saves after in
      let arrived = arrives parts n next_k f 0 0 (saved d) (falls parts f 0 0) start rules.framed rules.follows there in
      let sum : (s : State) → ShowsSpot parts w p s → address (reg s) 14 (Immediate (2 ^ 32 - frame)) ≡ base =
      λ s h. new_base (reg s 14) k.base frame (read_sp s k.base h.file.base_is) (omega (arith, below)) (omega (arith, small, at_base))
      (omega (arith, big)) in
      steps_by parts w p word refl None (λ s h. ap (λ x. reached_by x s) rules.op) (inl arrived.spot)
      (λ fresh is_fresh s h. reaches_on _ _ _ arrived.shows (reaches_by _ (does parts fresh (Save t) s) _ (ap (λ x. does parts fresh x s) rules.op)
      (save_reaches parts fresh frame frame (tests parts d false) (tests parts (saved d) false) t k s refl base (sum s h) below big eight bottom rules.pages (λ l e. saved_test l d e) refl refl
      (subst (λ x. Shows x (tests parts d false) k s) (entry_window (function_at parts f)) h))))

  -- ---- branches

  refined_less : (c : Cond) (d : Known) (start : Cells) (words : Words) (icc : Icc) (y : ℕ) → (r : Refines c d start words icc y) → IsLess (tests parts d false) (tests parts r.known false)
  refined_less c d start words icc y r = record {
    location = λ l h. fewer l (is_defined r.known l) (is_defined d l) (r.defined l) h;
    codes = r.codes;
    y = r.y_defined;
  }
    where
      fewer : (l : ℕ) (a b : Bool) → (a ≡ true → b ≡ true) → (not (l == 0) && (a || ((l == 15) && false))) ≡ true → (not (l == 0) && (b || ((l == 15) && false))) ≡ true
      fewer l a b f h = grind (arith, nat_tests)

  pub branch_word : (w : ℕ) (k : Shared) (f b i : ℕ) (c : Branch) (start : Cells) (at : At parts w k f b i (straight_visit parts f b i) start)
      → IsWord parts f b i → op_at parts f b i ≡ BranchOnCondition c → ComesStraight parts f b i → window_of (function_at parts f) b i ≡ window_of (function_at parts f) b (suc i)
      → ((x y : Icc) → ((state_at parts f b i).icc ≡ true → x ≡ y) → holds c.cond x ≡ holds c.cond y)
      → (holds c.cond k.icc ≡ true → Refines c.cond (state_at parts f b i) start k.words k.icc k.y)
      → (holds c.cond k.icc ≡ false → Refines (opposite c.cond) (state_at parts f b i) start k.words k.icc k.y)
      → Follows parts f b (suc i) (falls parts f b (suc i)) (following (address_of parts f b (suc i)))
      → let p : Spot parts w = record { k = k; f = f; b = b; i = i; v = straight_visit parts f b i; start = start; at = at } in
      Steps parts w p
  branch_word w k f b i c start at word op comes same_window reads on_true on_false follows = by_held (holds c.cond k.icc) refl
    where
      p : Spot parts w
      p = record { k = k; f = f; b = b; i = i; v = straight_visit parts f b i; start = start; at = at }

      d : Known
      d = state_at parts f b i

      n : ℕ
      n = w + weight_of (op_at parts f b i)

      light : w + 1 ≡ n
      light = ap (λ x. w + weight_of x) (sym op)

      goes : (o : Cond) (r : Refines o d start k.words k.icc k.y) (v : Visit) → v.known ≡ r.known → At parts (w + 1) (branched_shared c k) f b (suc i) v start → Steps parts w p
      goes o r v same next_at =
          let next : Spot parts n =
          record {
            k = branched_shared c k;
            f = f;
            b = b;
            i = suc i;
            v = v;
            start = start;
            at =
                subst (λ m. At parts m (branched_shared c k) f b (suc i) v start) light next_at;
          } in
          let shown : (s : State) → Shows (window_of (function_at parts f) b i) (tests parts d false) (branched_shared c k) s → ShowsSpot parts n next s =
          λ s h. (let h1 = subst (λ x. Shows x (tests parts d false) (branched_shared c k) s) same_window h in
          let h2 = less_shows (window_of (function_at parts f) b (suc i)) (tests parts d false) (tests parts r.known false) (branched_shared c k) s (refined_less o d start k.words k.icc k.y r) h1 in
          let h3 = subst (λ x. Shows (window_of (function_at parts f) b (suc i)) (tests parts x false) (branched_shared c k) s) (sym same) h2 in
          subst (λ x. Shows (window_of (function_at parts f) b (suc i)) (tests parts v.known x) (branched_shared c k) s) (sym (ap is_call op)) h3) in
          steps_by parts w p word refl None (λ s h. ap (λ x. reached_by x s) op) (inl next)
          (λ fresh is_fresh s h. reaches_on _ _ _ shown (reaches_by _ (does parts fresh (BranchOnCondition c) s) _ (ap (λ x. does parts fresh x s) op)
          (branch_reaches parts fresh c (window_of (function_at parts f) b i) (tests parts d false) k s reads
          (subst (λ x. Shows (window_of (function_at parts f) b i) (tests parts d x) k s) comes.no_call h))))

      by_held : (t : Bool) → holds c.cond k.icc ≡ t → Steps parts w p
      by_held true e = (let r = on_true e in goes c.cond r (taken parts c f b i r.known) refl (branch_taken parts w k f b i c start op comes e r at))
      by_held false e = (let r = on_false e in goes (opposite c.cond) r (untaken parts c f b i r.known) refl (branch_untaken parts w k f b i c start op comes e r follows at))

  -- ---- a slot that is annulled

  pub annulled_slot : (w : ℕ) (k : Shared) (f b i t : ℕ) (v : Visit) (start : Cells) (at : At parts w k f b i v start) → v.annulled ≡ true → v.way ≡ To t → t ≢ 0
      → is_call (op_before parts f b i) ≡ false → is_return (op_before parts f b i) ≡ false → weight_of (op_at parts f b i) ≡ 1
      → bytes_of (function_at parts f) b i ≡ bytes_of (function_at parts f) b (suc i) → window_of (function_at parts f) b i ≡ window_of (function_at parts f) t 0
      → has_cells v.known (cells_at parts f t) ≡ true
      → IsPaid (state_at parts f b 0) (fuel_at parts f b) (weight_to parts f b (suc i)) v.known (fuel_at parts f t)
      → IsThere parts f t 0
      → let p : Spot parts w = record { k = k; f = f; b = b; i = i; v = v; start = start; at = at } in
      Steps parts w p
  unfolding state_at turn place_of weight_at
  annulled_slot w k f b i t v start at annuls way some no_call no_return light same_bytes same_window cells paid follows =
      let p : Spot parts w = record { k = k; f = f; b = b; i = i; v = v; start = start; at = at } in
      let next_k = record k { pc = k.npc; npc = following k.npc; annulled = false } in
      let after = after_annulled parts w k f b i v start no_call no_return light same_bytes at in
      let there = subst (λ y. After parts (w + 1) next_k f b i v.known y start) way after in
      let next : Spot parts (w + 1) =
      record {
        k = next_k;
        f = f;
        b = t;
        i = 0;
        v = straight_visit parts f t 0;
        start = numbers k.words;
        at =
            after_edge parts (w + 1) next_k f b i t v.known start some cells paid follows there;
      } in
      let linked = is_call (op_before parts f b i) in
      record {
        place = record { pc = k.pc; annulled = true; address = None };
        place_is = λ s h. (let e : s.annulled ≡ true = h.rest.annulled ∙ at.annulled ∙ annuls in
            ap (λ (x : ℕ). record { pc = x; annulled = s.annulled; address = if s.annulled then None else reached_at (word_at parts.words s.pc) s }) h.rest.pc
            ∙ ap (λ (x : Bool). record { pc = k.pc; annulled = x; address = if x then None else reached_at (word_at parts.words s.pc) s }) e);
        comes = inl next;
        goes = λ fresh is_fresh s h. record {
          next = advanced (record s { annulled = false });
          goes = ap (λ x. goes_on parts fresh s x s.annulled) (h.rest.exit ∙ at.exit) ∙ ap (goes_on parts fresh s None) (h.rest.annulled ∙ at.annulled ∙ annuls);
          is = (let rest = h.rest in let file = h.file in
              let moved : Shows (window_of (function_at parts f) b i) (tests parts v.known linked) next_k (advanced (record s { annulled = false })) = record {
                rest = record { pc = rest.npc; npc = ap following rest.npc; annulled = refl; memory = rest.memory; input = rest.input; output = rest.output; exit = rest.exit };
                file = record { base_is = file.base_is; words_are = file.words_are; calls_are = file.calls_are; slots = file.slots; below = file.below };
                codes = h.codes;
                y = h.y;
              } in
              let h1 = subst (λ x. Shows x (tests parts v.known linked) next_k (advanced (record s { annulled = false }))) same_window moved in
              less_shows (window_of (function_at parts f) t 0) (tests parts v.known linked) (tests parts (state_at parts f t 0) false) next_k
              (advanced (record s { annulled = false })) (starts_with_less parts v.known (cells_at parts f t) linked cells) h1);
        };
      }

  -- ---- the exit

  declared_exits : (s : State) (o : Option ℕ) → o ≡ Some 0 → declares parts.services 0 ≡ true → serves parts.services o s ≡ Goes (advanced (exits s))
  declared_exits s o e h = ap (λ x. serves parts.services x s) e ∙ ap (λ (t : Bool). if t then Goes (advanced (exits s)) else Fails NoService) h

  pub exit_word : (w : ℕ) (k : Shared) (f b i : ℕ) (t : Trap) (v : Visit) (start : Cells) (at : At parts w k f b i v start) → IsWord parts f b i → v.annulled ≡ false
      → op_at parts f b i ≡ TrapOnCondition t → service_of t ≡ Some 0 → declares parts.services 0 ≡ true → is_defined v.known 8 ≡ true → is_call (op_before parts f b i) ≡ false
      → IsEnough (state_at parts f b 0) (fuel_at parts f b) (weight_to parts f b (suc i))
      → let p : Spot parts w = record { k = k; f = f; b = b; i = i; v = v; start = start; at = at } in
      Steps parts w p
  exit_word w k f b i t v start at word runs op service declared defined no_call enough =
      let p : Spot parts w = record { k = k; f = f; b = b; i = i; v = v; start = start; at = at } in
      let weight = weight_of (op_at parts f b i) in
      let n = w + weight in
      let before = one_word w weight (weight_to parts f b i) (budget parts) (form_value start (fuel_at parts f b)) (left_to_all parts k.calls) at.ledger in
      let after = subst (λ m. (pos n +ℤ ((form_value start (fuel_at parts f b) -ℤ pos m) +ℤ left_to_all parts k.calls)) ≤ℤ pos (budget parts)) (sym (weight_next parts f b i no_call)) before in
      let fuel = enough start at.begun in
      let end : Exit parts n =
      record {
        status = k.words 8;
        output = k.output;
        bound =
            within_budget n (budget parts) (form_value start (fuel_at parts f b) -ℤ pos (weight_to parts f b (suc i))) (left_to_all parts k.calls) after
            (is_left (form_value start (fuel_at parts f b)) (weight_to parts f b (suc i)) fuel) (all_left parts f k.calls at.calls);
      } in
      steps_by parts w p word runs None (λ s h. ap (λ x. reached_by x s) op) (inr end)
      (λ fresh is_fresh s h. record {
        next = advanced (exits s);
        goes = ap (λ x. does parts fresh x s) op ∙ declared_exits s (service_of t) service declared;
        is = record {
          status =
              ap Some (read_shown (window_of (function_at parts f) b i) (tests parts v.known (is_call (op_before parts f b i))) k s 8
              (omega arith) at.fits.near.zero (λ some. known_8 (is_defined v.known 8) (is_call (op_before parts f b i)) defined) h);
          output = h.rest.output;
        };
      })
    where
      known_8 : (x linked : Bool) → x ≡ true → (not (8 == 0) && (x || ((8 == 15) && linked))) ≡ true
      known_8 x linked h = ap (λ (y : Bool). y || false) h

      is_left : (fuel : ℤ) (t : ℕ) → pos t ≤ℤ fuel → pos 0 ≤ℤ (fuel -ℤ pos t)
      is_left fuel t h = omega (arith, ints)
