-- A call: the CALL, its slot, and the SAVE of the callee.
use Rattle.sbx_rules.specs.Entry.{Entry}
use Rattle.std.proofs.Common.{◌≡◌, ◌≢◌, ℕ, suc, ◌+◌, Bool, true, false, ◌∷◌, Option, Some, None, refl, sym, ap, ◌∙◌, subst, inl, arith}
use Rattle.std.specs.Prelude.{pos, ◌≤ℤ◌, ◌==◌, ◌&&◌, ◌||◌, not, nat_le, if◌then◌else◌}
use Rattle.std.proofs.lemmas.Bool.Decides.{nat_tests}
use Rattle.v8_meaning.specs.declared.operation.Operation.TheVariants.{Call}
use Rattle.v8_meaning.specs.Operands.{target}
use Rattle.sbx_image.specs.Parts.{Parts}
use Rattle.sbx_image.specs.Function.{Function}
use Rattle.sbx_flat.specs.Effects.{does}
use Rattle.sbx_flat.specs.Runs.{reached_by, weight_of}
use Rattle.sbx_flat.specs.States.{State}
use Rattle.sbx_rules.specs.Operations.{is_call, is_framed}
use Rattle.sbx_rules.specs.Known.{Known, started, with_entry}
use Rattle.sbx_rules.specs.Rules.{is_defined, is_some}
use Rattle.sbx_rules.specs.Ways.{Visit, cells_at, state_at}
use Rattle.sbx_image.specs.Order.{address_of, function_at}
use Rattle.sbx_rules.specs.Places.{callee_at, op_at, op_before}
use Rattle.sbx_sound.specs.Positive.{left_at}
use Rattle.sbx_sound.proofs.Running.{At, straight_visit, tests, window_of}
use Rattle.sbx_form.specs.Forms.{Cells}
use Rattle.sbx_sound.proofs.Shared.{Lent, Own, Shared, Shows, Window}
use Rattle.sbx_rules.specs.Transfer.{transferred}
use Rattle.sbx_sound.proofs.Arrivals.{Left, after_no_call, left_by}
use Rattle.sbx_sound.proofs.Calls.{CallsWell, enters, in_slot, kept_entry, opened}
use Rattle.sbx_sound.proofs.Effects.{IsFewer, call_reaches, linked, moved_to, reaches_by}
use Rattle.sbx_sound.proofs.Frames.{call_shows, read_out}
use Rattle.sbx_sound.proofs.Ledger.{numbers}
use Rattle.sbx_sound.proofs.Safe.{ShowsSpot, Spot, Steps}
use Rattle.sbx_sound.proofs.Steps.{Does, IsWord, reaches_on, starts_with_less, steps_by}
use Rattle.sbx_sound.proofs.Transfers.{ComesStraight, call_at, next_place, linked_known}
use Rattle.sbx_sound.proofs.Tests.{if_false, if_true}

framed_inside : (t : Bool) (b i : ℕ) → t ≡ true → (t && not ((b == 0) && (suc i == 0))) ≡ true
framed_inside t b i h = grind (arith, nat_tests)

pub own_window : (function : Function) (b i : ℕ) → is_framed function.kind ≡ true → window_of function b (suc i) ≡ Own function.frame
own_window function b i h = if_true (is_framed function.kind && not ((b == 0) && (suc i == 0))) Window (Own function.frame) Lent (framed_inside (is_framed function.kind) b i h)

at_entry : (t : Bool) → (t && false) ≡ false
at_entry true = refl
at_entry false = refl

pub entry_window : (function : Function) → window_of function 0 0 ≡ Lent
entry_window function = if_false (is_framed function.kind && false) Window (Own function.frame) Lent (at_entry (is_framed function.kind))

linked_test : (x : Bool) → (not (15 == 0) && (x || ((15 == 15) && true))) ≡ true
linked_test true = refl
linked_test false = refl

high_test : (l : ℕ) (x : Bool) → nat_le 16 l ≡ true → x ≡ true → (not (l == 0) && (x || ((l == 15) && true))) ≡ true
high_test l x h e = grind (arith, nat_tests)

module _ (parts : Parts) (f b j g : ℕ) where
  abbrev callee : Function
  callee = function_at parts g

  abbrev caller : Function
  caller = function_at parts f

  -- what the states show when the callee begins
  call_shown : (rules : CallsWell parts f b j g) (k : Shared) (start : Cells) (left : Left) (s : State) → left.words 15 ≡ address_of parts f b j
      → Shows (Own caller.frame) (tests parts (in_slot parts f b j g) true) (left_by left k) s
      → Shows Lent (tests parts (started (cells_at parts g 0)) false) (record (left_by left k) { calls = opened parts f b j g k start left.words ∷ k.calls }) s
  call_shown rules k start left s link shows =
      let d = in_slot parts f b j g in
      let file = shows.file in
      let less = starts_with_less parts d (cells_at parts g 0) true rules.params in
      let back : s.registers.newest.outs 15 ≡ address_of parts f b j = sym (read_out k.base s.registers 15 (omega arith) (omega arith)) ∙ file.words_are 15 (linked_test (is_defined d 15)) ∙ link in
      let pushed = call_shows (tests parts d true).location (tests parts (started (cells_at parts g 0)) false).location left.words
      (opened parts f b j g k start left.words) k.calls s.registers less.location
      (λ l h e. (high_test l (is_defined d l) h (ap (λ (o : Option Entry). is_some o) (sym (kept_entry parts f b j g rules l h)) ∙ e), refl)) back file in
      let rest = shows.rest in
      record {
        rest = record { pc = rest.pc; npc = rest.npc; annulled = rest.annulled; memory = rest.memory; input = rest.input; output = rest.output; exit = rest.exit };
        file = pushed;
        codes = λ h. shows.codes (less.codes h);
        y = λ h. shows.y (less.y h);
      }

  linked_back : (w : ℕ) (k : Shared) (v : Visit) (start : Cells) (x : ℕ) → is_call (op_at parts f b j) ≡ true → x ≡ k.words 15 → At parts w k f b (suc j) v start → x ≡ address_of parts f b j
  linked_back w k v start x calls same a =
      let link = a.link calls in
      let pc = a.pc in
      let next = next_place parts f b j in
      omega (arith, link, pc, next, same)

  -- the slot of a call
  pub call_slot : (w : ℕ) (k : Shared) (start : Cells) (at : At parts w k f b (suc j) (straight_visit parts f b (suc j)) start) → IsWord parts f b (suc j) → (rules : CallsWell parts f b j g)
      → pos 0 ≤ℤ left_at parts f b (suc (suc j)) start
      → let p : Spot parts w = record { k = k; f = f; b = b; i = suc j; v = straight_visit parts f b (suc j); start = start; at = at } in
      Does parts w p → Steps parts w p
  unfolding state_at
  call_slot w k start at word rules stays d =
      let p : Spot parts w = record { k = k; f = f; b = b; i = suc j; v = straight_visit parts f b (suc j); start = start; at = at } in
      let n = w + weight_of (op_at parts f b (suc j)) in
      let next_k = record (left_by d.left k) { calls = opened parts f b j g k start d.left.words ∷ k.calls } in
      let next : Spot parts n =
      record {
        k = next_k;
        f = g;
        b = 0;
        i = 0;
        v = straight_visit parts g 0 0;
        start = numbers d.left.words;
        at =
            enters parts f b j g w k start d.left rules d.fits d.stored stays at;
      } in
      let link = linked_back w k (straight_visit parts f b (suc j)) start (d.left.words 15) rules.calls d.link at in
      let shown : (s : State) → Shows (window_of caller b (suc j)) (tests parts (in_slot parts f b j g) (is_call (op_at parts f b j))) (left_by d.left k) s → ShowsSpot parts n next s =
      λ s h. (let h1 = subst (λ x. Shows x (tests parts (in_slot parts f b j g) (is_call (op_at parts f b j))) (left_by d.left k) s) (own_window caller b j rules.framed) h in
      let h2 = subst (λ x. Shows (Own caller.frame) (tests parts (in_slot parts f b j g) x) (left_by d.left k) s) rules.calls h1 in
      subst (λ x. Shows x (tests parts (started (cells_at parts g 0)) false) next_k s) (sym (entry_window callee)) (call_shown rules k start d.left s link h2)) in
      steps_by parts w p word refl d.reached d.reaches (inl next) (λ fresh is_fresh s h. reaches_on _ _ _ shown (d.goes fresh s h))

-- ---- the CALL itself

defined_but : (d : Known) (l : ℕ) → l ≢ 15 → is_defined (linked_known d) l ≡ is_defined d l
unfolding with_entry
defined_but d l apart = ap (λ (o : Option Entry). is_some o) (if_false (l == 15) (Option Entry) None (d.entry l) (let e : (l == 15) ≡ false = grind (arith, nat_tests) in e))

linked_fewer : (l : ℕ) (a b linked : Bool) → a ≡ b → l ≢ 15 → (not (l == 0) && (a || ((l == 15) && true))) ≡ true → (not (l == 0) && (b || ((l == 15) && linked))) ≡ true
linked_fewer l a b linked e apart h = grind (arith, nat_tests)

module _ (parts : Parts) where
  linked_is_fewer : (d : Known) (linked : Bool) → IsFewer (tests parts d linked) (tests parts (linked_known d) true) 15
  unfolding with_entry
  linked_is_fewer d linked = record {
    none = refl;
    location = λ l h apart. linked_fewer l (is_defined (linked_known d) l) (is_defined d l) linked (defined_but d l apart) apart h;
    codes = λ h. h;
    y = λ h. h;
  }

  called_known : (f b i displacement : ℕ) → op_at parts f b i ≡ Call displacement → is_call (op_before parts f b i) ≡ false → state_at parts f b (suc i) ≡ linked_known (state_at parts f b i)
  unfolding state_at transferred
  called_known f b i displacement op no_call = after_no_call parts f b i (state_at parts f b i) no_call ∙ ap (λ o. transferred (function_at parts f).frame o (state_at parts f b i)) op

  pub call_word : (w : ℕ) (k : Shared) (f b i displacement g : ℕ) (start : Cells) (at : At parts w k f b i (straight_visit parts f b i) start)
      → IsWord parts f b i → op_at parts f b i ≡ Call displacement → callee_at parts f b i ≡ Some g → ComesStraight parts f b i → window_of (function_at parts f) b i ≡ Own (function_at parts f).frame
      → let p : Spot parts w = record { k = k; f = f; b = b; i = i; v = straight_visit parts f b i; start = start; at = at } in
      Steps parts w p
  call_word w k f b i displacement g start at word op callee comes own =
      let p : Spot parts w = record { k = k; f = f; b = b; i = i; v = straight_visit parts f b i; start = start; at = at } in
      let o = op_at parts f b i in
      let next_k = moved_to (target k.pc displacement) (linked k) in
      let n = w + weight_of o in
      let light : w + 1 ≡ n = ap (λ x. w + weight_of x) (sym op) in
      let next : Spot parts n =
      record {
        k = next_k;
        f = f;
        b = b;
        i = suc i;
        v = straight_visit parts f b (suc i);
        start = start;
        at =
            subst (λ m. At parts m next_k f b (suc i) (straight_visit parts f b (suc i)) start) light
            (call_at parts w k f b i displacement g start op callee comes at);
      } in
      let d = state_at parts f b i in
      let size = (function_at parts f).frame in
      let now : Known = linked_known d in
      let after_own : Own size ≡ window_of (function_at parts f) b (suc i) = sym own ∙ same_window (function_at parts f) b i comes own in
      let shown : (s : State) → Shows (Own size) (tests parts now true) next_k s → ShowsSpot parts n next s =
      λ s h. (let h1 = subst (λ x. Shows x (tests parts now true) next_k s) after_own h in
      let h2 = subst (λ x. Shows (window_of (function_at parts f) b (suc i)) (tests parts x true) next_k s) (sym (called_known f b i displacement op comes.no_call)) h1 in
      subst (λ x. Shows (window_of (function_at parts f) b (suc i)) (tests parts (state_at parts f b (suc i)) x) next_k s) (sym (ap is_call op)) h2) in
      steps_by parts w p word refl None (λ s h. ap (λ x. reached_by x s) op) (inl next)
      (λ fresh is_fresh s h. reaches_on _ _ _ shown
      (reaches_by _ (does parts fresh (Call displacement) s) _ (ap (λ x. does parts fresh x s) op)
      (call_reaches parts fresh size displacement (tests parts d (is_call (op_before parts f b i))) (tests parts now true) k s
      (linked_is_fewer d (is_call (op_before parts f b i))) (subst (λ x. Shows x (tests parts d (is_call (op_before parts f b i))) k s) own h))))
    where
      same_window : (function : Function) (b i : ℕ) → ComesStraight parts f b i → window_of function b i ≡ Own function.frame → window_of function b i ≡ window_of function b (suc i)
      same_window function b i comes own = own ∙ sym (own_window function b i (framed_of (is_framed function.kind) own))
        where
          framed_of : (t : Bool) → (if t && not ((b == 0) && (i == 0)) then Own function.frame else Lent) ≡ Own function.frame → t ≡ true
          framed_of true e = refl
          framed_of false e = absurd (cc)
