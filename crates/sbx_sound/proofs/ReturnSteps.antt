-- A return: `ret` or `retl`, its slot, and where the caller goes on.
use Rattle.sbx_rules.specs.Results.{operand_entry, register_entry, result_of}
use Rattle.sbx_sound.proofs.Entries.{called_low, restored_out, result_at, some_of_result, with_entry_other}
use Rattle.sbx_rules.specs.Entry.{Entry}
use Rattle.std.proofs.Common.{◌≡◌, ◌≢◌, ℕ, zero, suc, ◌+◌, ◌-◌, ◌%◌, ◌^◌, ◌<◌, ◌≤◌, Bool, true, false, List, [], ◌∷◌, Option, None, refl, sym, ap, ◌∙◌, subst, inl, inr, arith}
use Rattle.v8_alu.specs.declared.Op.TheVariants as ops
use Rattle.std.specs.Prelude.{◌⊎◌, ◌==◌, ◌&&◌, ◌||◌, not, nat_lt, nat_le, if◌then◌else◌, slice_get}
use Rattle.std.proofs.lemmas.Bool.Decides.{nat_tests}
use Rattle.v8_formats.specs.declared.instr.Operand.TheVariants.{Immediate}
use Rattle.v8_formats.specs.declared.instr.Three.{Three}
use Rattle.v8_meaning.specs.declared.operation.Operation.TheVariants.{JumpAndLink, Restore}
use Rattle.v8_meaning.specs.Operands.{address, following}
use Rattle.sbx_image.specs.Parts.{Parts}
use Rattle.sbx_image.specs.Function.{Function}
use Rattle.sbx_image.specs.Range.{Range}
use Rattle.sbx_flat.specs.Effects.{does}
use Rattle.sbx_flat.specs.Registers.{Fresh, Words}
use Rattle.sbx_flat.specs.Runs.{reached_by, weight_of}
use Rattle.sbx_flat.specs.States.{State, reg}
use Rattle.sbx_rules.specs.Fuel.{IsPaid}
use Rattle.sbx_rules.specs.Rules.{has_cells, has_outs, has_range, is_defined, is_some}
use Rattle.sbx_rules.specs.Operations.{is_call, is_framed}
use Rattle.sbx_rules.specs.Fits.{Fits, HasAlignment, HasInterval}
use Rattle.sbx_rules.specs.Known.{Known, range_at}
use Rattle.sbx_rules.specs.Ways.{Next, To, Way, cells_at, falls, fuel_at, state_at, weight_to}
use Rattle.sbx_image.specs.Order.{address_of, function_at}
use Rattle.sbx_rules.specs.Places.{op_at, op_before}
use Rattle.sbx_sound.proofs.Running.{After, AreOpen, At, Follows, IsOpen, IsThere, known_after, straight_visit, tests, window_of}
use Rattle.sbx_form.specs.Forms.{Cells}
use Rattle.sbx_sound.proofs.Shared.{KnownParts, Lent, Open, Own, Shared, Shows, ShowsFile, Window, with_location}
use Rattle.sbx_rules.specs.Transfer.{is_out, transferred, called, restored}
use Rattle.sbx_sound.proofs.Arrivals.{Left, after_edge, after_next, after_no_call, goes_straight, left_by}
use Rattle.sbx_sound.proofs.CallSteps.{own_window}
use Rattle.sbx_sound.proofs.Effects.{IsFewer, Reaches, moved_to, reaches_by, restore_reaches, ret_reaches, retl_reaches}
use Rattle.sbx_sound.proofs.Frames.{IsFree, IsGivenBack, given_back, leaf_shows, left_by_leaf}
use Rattle.sbx_sound.proofs.Ledger.{numbers}
use Rattle.sbx_sound.proofs.Returns.{Brings, ReturnsWell, comes, in_slot_of, known_is}
use Rattle.sbx_sound.proofs.Safe.{ShowsSpot, Spot, Steps}
use Rattle.sbx_sound.proofs.Steps.{Does, IsWord, known_then, less_shows, reaches_on, some_within, starts_with_less, steps_by}
use Rattle.sbx_sound.proofs.Transfers.{ComesStraight, return_at, return_visit}
use Rattle.sbx_sound.proofs.Tests.{and_left, and_right, if_false, if_true}

-- a location for which there is a result is known
outs_known : (first : ℕ) (results : List Range) (d : Known) → has_outs first results d ≡ true → (n l : ℕ) → l ≡ first + n → is_some (slice_get results n) ≡ true → is_defined d l ≡ true
outs_known first [] d h n l e some = absurd (cc)
outs_known first (r ∷ rs) d h zero l e some =
    let same : first ≡ l = omega arith in
    subst (λ m. is_defined d m ≡ true) same (some_within (d.entry first) r (and_left (has_range (range_at d first) r) (has_outs (suc first) rs d) h))
outs_known first (r ∷ rs) d h (suc n) l e some = outs_known (suc first) rs d (and_right (has_range (range_at d first) r) (has_outs (suc first) rs d) h) n l (omega arith) some

result_known : (results : List Range) (d : Known) (l : ℕ) → has_outs 8 results d ≡ true → is_some (result_at results l) ≡ true → (8 ≤ l) × (is_defined d l ≡ true)
result_known results d l h some = by_test (is_out l) refl some
  where
    by_test : (t : Bool) → is_out l ≡ t → is_some (if t then slice_get results (l - 8) else None) ≡ true → (8 ≤ l) × (is_defined d l ≡ true)
    by_test true e q =
        let low : 8 ≤ l = grind (arith, nat_tests) in
        (low, outs_known 8 results d h (l - 8) l (omega arith) q)
    by_test false e q = absurd (cc)

module _ (parts : Parts) where
  -- ---- on from a place right after a word, in a function with a frame

  -- the next word is in the block
  pub record GoesNext (f b i : ℕ) (d : Known) (way : Way) : Type 0 where
    pub way_is : way ≡ Next
    pub known : d ≡ state_at parts f b (suc i)
    pub straight : goes_straight (op_at parts f b i) ≡ true
    pub no_call : is_call (op_at parts f b i) ≡ false
    pub there : IsThere parts f b (suc i)

  -- control goes to a block
  pub record GoesToBlock (f b i : ℕ) (d : Known) (way : Way) : Type 0 where
    pub t : ℕ
    pub way_is : way ≡ To t
    pub some : t ≢ 0
    pub cells : has_cells d (cells_at parts f t) ≡ true
    pub paid : IsPaid (state_at parts f b 0) (fuel_at parts f b) (weight_to parts f b (suc i)) d (fuel_at parts f t)
    pub there : IsThere parts f t 0

  -- where it arrives, and that a state which shows what is known shows that
  pub record Arrives (n : ℕ) (k : Shared) (d : Known) (window : Window) : Type 0 where
    pub spot : Spot parts n
    pub shows : (s : State) → Shows window (tests parts d false) k s → ShowsSpot parts n spot s

  pub arrives_next : (n : ℕ) (k : Shared) (f b i : ℕ) (d : Known) (way : Way) (start : Cells) → is_framed (function_at parts f).kind ≡ true →
      GoesNext f b i d way → After parts n k f b i d way start → Arrives n k d (Own (function_at parts f).frame)
  arrives_next n k f b i d way start framed g a =
      let there = subst (λ x. After parts n k f b i (state_at parts f b (suc i)) x start) g.way_is (subst (λ x. After parts n k f b i x way start) g.known a) in
      let spot : Spot parts n =
      record {
        k = k;
        f = f;
        b = b;
        i = suc i;
        v = straight_visit parts f b (suc i);
        start = start;
        at =
            after_next parts n k f b i start g.straight g.no_call g.there there;
      } in
      record {
        spot = spot;
        shows = λ s h. (let h1 = subst (λ x. Shows x (tests parts d false) k s) (sym (own_window (function_at parts f) b i framed)) h in
            let h2 = subst (λ x. Shows (window_of (function_at parts f) b (suc i)) (tests parts x false) k s) g.known h1 in
            subst (λ x. Shows (window_of (function_at parts f) b (suc i)) (tests parts (state_at parts f b (suc i)) x) k s) (sym g.no_call) h2);
      }

  block_window : (function : Function) (t : ℕ) → is_framed function.kind ≡ true → t ≢ 0 → window_of function t 0 ≡ Own function.frame
  block_window function zero framed some = absurd (some refl)
  block_window function (suc t) framed some = ap (λ (x : Bool). if x then Own function.frame else Lent) (inside (is_framed function.kind) t framed)
    where
      inside : (x : Bool) (t : ℕ) → x ≡ true → (x && not ((suc t == 0) && (0 == 0))) ≡ true
      inside x t h = grind (arith, nat_tests)

  pub arrives_block : (n : ℕ) (k : Shared) (f b i : ℕ) (d : Known) (way : Way) (start : Cells) → is_framed (function_at parts f).kind ≡ true →
      GoesToBlock f b i d way → After parts n k f b i d way start → Arrives n k d (Own (function_at parts f).frame)
  unfolding state_at
  arrives_block n k f b i d way start framed g a =
      let there = subst (λ x. After parts n k f b i d x start) g.way_is a in
      let spot : Spot parts n =
      record {
        k = k;
        f = f;
        b = g.t;
        i = 0;
        v = straight_visit parts f g.t 0;
        start = numbers k.words;
        at =
            after_edge parts n k f b i g.t d start g.some g.cells g.paid g.there there;
      } in
      record {
        spot = spot;
        shows = λ s h. (let h1 = subst (λ x. Shows x (tests parts d false) k s) (sym (block_window (function_at parts f) g.t framed g.some)) h in
            less_shows (window_of (function_at parts f) g.t 0) (tests parts d false) (tests parts (state_at parts f g.t 0) false) k s
            (starts_with_less parts d (cells_at parts f g.t) false g.cells) h1);
      }

  -- either of them
  abbrev pub GoesOn : ℕ → ℕ → ℕ → Known → Way → Type 0
  GoesOn f b i d way = GoesNext f b i d way ⊎ GoesToBlock f b i d way

  pub arrives : (n : ℕ) (k : Shared) (f b i : ℕ) (d : Known) (way : Way) (start : Cells) → is_framed (function_at parts f).kind ≡ true → GoesOn f b i d way →
      After parts n k f b i d way start → Arrives n k d (Own (function_at parts f).frame)
  arrives n k f b i d way start framed (inl g) a = arrives_next n k f b i d way start framed g a
  arrives n k f b i d way start framed (inr g) a = arrives_block n k f b i d way start framed g a

  -- ---- `ret` and `retl`

  return_known : (f b i : ℕ) (t : Three) → op_at parts f b i ≡ JumpAndLink t → is_call (op_before parts f b i) ≡ false → state_at parts f b (suc i) ≡ state_at parts f b i
  unfolding state_at transferred
  return_known f b i t op no_call = after_no_call parts f b i (state_at parts f b i) no_call ∙ ap (λ o. transferred (function_at parts f).frame o (state_at parts f b i)) op

  -- a return, where the word's effect is to go to the caller
  return_word : (w : ℕ) (k : Shared) (f b i : ℕ) (t : Three) (c : Open) (cs : List Open) (start : Cells) (at : At parts w k f b i (straight_visit parts f b i) start)
      → IsWord parts f b i → op_at parts f b i ≡ JumpAndLink t → k.calls ≡ c ∷ cs → ComesStraight parts f b i → window_of (function_at parts f) b i ≡ window_of (function_at parts f) b (suc i)
      → ((fresh : Fresh) (s : State) → Shows (window_of (function_at parts f) b i) (tests parts (state_at parts f b i) false) k s →
      Reaches (does parts fresh (JumpAndLink t) s)
      (Shows (window_of (function_at parts f) b i) (tests parts (state_at parts f b i) false) (moved_to ((c.back + 8) % 2 ^ 32) k)))
      → let p : Spot parts w = record { k = k; f = f; b = b; i = i; v = straight_visit parts f b i; start = start; at = at } in
      Steps parts w p
  return_word w k f b i t c cs start at word op is comes_straight same_window does_it =
      let p : Spot parts w = record { k = k; f = f; b = b; i = i; v = straight_visit parts f b i; start = start; at = at } in
      let next_k = moved_to ((c.back + 8) % 2 ^ 32) k in
      let n = w + weight_of (op_at parts f b i) in
      let light : w + 1 ≡ n = ap (λ x. w + weight_of x) (sym op) in
      let d = state_at parts f b i in
      let next : Spot parts n =
      record {
        k = next_k;
        f = f;
        b = b;
        i = suc i;
        v = return_visit parts f b (suc i);
        start = start;
        at =
            subst (λ m. At parts m next_k f b (suc i) (return_visit parts f b (suc i)) start) light
            (return_at parts w k f b i t c cs start op is comes_straight at);
      } in
      let shown : (s : State) → Shows (window_of (function_at parts f) b i) (tests parts d false) next_k s → ShowsSpot parts n next s =
      λ s h. (let h1 = subst (λ x. Shows x (tests parts d false) next_k s) same_window h in
      let h2 = subst (λ x. Shows (window_of (function_at parts f) b (suc i)) (tests parts x false) next_k s) (sym (return_known f b i t op comes_straight.no_call)) h1 in
      subst (λ x. Shows (window_of (function_at parts f) b (suc i)) (tests parts (state_at parts f b (suc i)) x) next_k s) (sym (ap is_call op)) h2) in
      steps_by parts w p word refl None (λ s h. ap (λ x. reached_by x s) op) (inl next)
      (λ fresh is_fresh s h. reaches_on _ _ _ shown
      (reaches_by _ (does parts fresh (JumpAndLink t) s) _ (ap (λ x. does parts fresh x s) op)
      (does_it fresh s (subst (λ x. Shows (window_of (function_at parts f) b i) (tests parts d x) k s) comes_straight.no_call h))))

  pub ret_word : (w : ℕ) (k : Shared) (f b i : ℕ) (c : Open) (cs : List Open) (start : Cells) (at : At parts w k f b i (straight_visit parts f b i) start)
      → IsWord parts f b i → op_at parts f b i ≡ JumpAndLink (record { rd = 0; rs1 = 31; operand2 = Immediate 8 }) → k.calls ≡ c ∷ cs →
      ComesStraight parts f b i → window_of (function_at parts f) b i ≡ Own (function_at parts f).frame → is_framed (function_at parts f).kind ≡ true →
      (c.back + 8) % 2 ^ 32 % 4 ≡ 0
      → let p : Spot parts w = record { k = k; f = f; b = b; i = i; v = straight_visit parts f b i; start = start; at = at } in
      Steps parts w p
  ret_word w k f b i c cs start at word op is comes_straight own framed four =
      let d = state_at parts f b i in
      return_word w k f b i (record { rd = 0; rs1 = 31; operand2 = Immediate 8 }) c cs start at word op is comes_straight (own ∙ sym (own_window (function_at parts f) b i framed))
      (λ fresh s h. subst
      (λ x. Reaches (does parts fresh (JumpAndLink (record { rd = 0; rs1 = 31; operand2 = Immediate 8 })) s)
      (Shows x (tests parts d false) (moved_to ((c.back + 8) % 2 ^ 32) k))) (sym own)
      (ret_reaches parts fresh (function_at parts f).frame (tests parts d false) c cs k s is four (subst (λ x. Shows x (tests parts d false) k s) own h)))

  -- ---- the slot of a return

  -- what is known of the caller's location after the call
  pub after_high : (f : ℕ) (c : Open) (cs : List Open) (l : ℕ) → IsOpen parts f c cs → nat_le 16 l ≡ true → is_defined (known_after parts c) l ≡ true → c.known l ≡ true
  after_high f c cs l open_call h e = open_call.is_known l h ∙ e

  pub after_low : (f : ℕ) (c : Open) (cs : List Open) (l : ℕ) → IsOpen parts f c cs → nat_le 16 l ≡ false → is_defined (known_after parts c) l ≡ true →
      is_some (result_at (function_at parts f).results l) ≡ true
  after_low f c cs l open_call h e =
      let rs = (function_at parts f).results in
      sym (ap (λ (k : Known). is_some (k.entry l)) (known_is parts f c open_call.calls)
      ∙ ap (λ (x : Option Entry). is_some x) (called_low rs (in_slot_of parts c) l h) ∙ some_of_result (is_out l) (slice_get rs (l - 8))) ∙ e

  after_codes : (f : ℕ) (c : Open) (cs : List Open) → IsOpen parts f c cs → (known_after parts c).icc ≡ false
  unfolding called
  after_codes f c cs open_call = ap (λ (k : Known). k.icc) (known_is parts f c open_call.calls)

  after_y : (f : ℕ) (c : Open) (cs : List Open) → IsOpen parts f c cs → is_some (known_after parts c).y ≡ false
  unfolding called
  after_y f c cs open_call = ap (λ (k : Known). is_some k.y) (known_is parts f c open_call.calls)

  -- a result that is known is an out that the callee knows
  pub result_out : (f : ℕ) (c : Open) (cs : List Open) (d : Known) (l : ℕ) → IsOpen parts f c cs → has_outs 8 (function_at parts f).results d ≡ true →
      nat_le 16 l ≡ false → is_defined (known_after parts c) l ≡ true → (8 ≤ l) × (is_defined d l ≡ true)
  result_out f c cs d l open_call results low e =
      result_known (function_at parts f).results d l results (after_low f c cs l open_call low e)

  test_parts : (l : ℕ) (a : Bool) → (not (l == 0) && (a || ((l == 15) && false))) ≡ true → a ≡ true
  test_parts l a h = grind (arith, nat_tests)

  test_whole : (l : ℕ) (a linked : Bool) → 0 < l → a ≡ true → (not (l == 0) && (a || ((l == 15) && linked))) ≡ true
  test_whole l a linked some h = grind (arith, nat_tests)

  low_false : (l : ℕ) → l < 16 → nat_le 16 l ≡ false
  low_false l h = grind (arith, nat_tests)

  high_true : (l : ℕ) → 16 ≤ l → nat_le 16 l ≡ true
  high_true l h = grind (arith, nat_tests)

  -- the slot of `retl`: the word's effect, and the caller's window again
  pub leaf_slot : (w : ℕ) (k : Shared) (f b j : ℕ) (c : Open) (cs : List Open) (start : Cells) (at : At parts w k f b (suc j) (return_visit parts f b (suc j)) start)
      → let p : Spot parts w = record { k = k; f = f; b = b; i = suc j; v = return_visit parts f b (suc j); start = start; at = at } in
      (d : Does parts w p) → IsWord parts f b (suc j) → k.calls ≡ c ∷ cs → window_of (function_at parts f) b (suc j) ≡ Lent → ReturnsWell parts f b j (known_then parts w p)
      → GoesOn c.function c.block (suc c.place) (known_after parts c) (falls parts c.function c.block (suc c.place))
      → Follows parts c.function c.block (suc c.place) (falls parts c.function c.block (suc c.place)) (following (address_of parts c.function c.block (suc c.place)))
      → Steps parts w p
  leaf_slot w k f b j c cs start at d word is lent rules goes follows =
      let p : Spot parts w = record { k = k; f = f; b = b; i = suc j; v = return_visit parts f b (suc j); start = start; at = at } in
      let opened : AreOpen parts f (c ∷ cs) = subst (AreOpen parts f) is at.calls in
      let call = opened.0 in
      let now = known_then parts w p in
      let n = w + weight_of (op_at parts f b (suc j)) in
      let brought : Left = record { words = left_by_leaf c d.left.words; icc = d.left.icc; y = d.left.y; memory = d.left.memory; input = d.left.input; output = d.left.output } in
      let brings : Brings parts c now brought.words = leaf_brings f c cs now d.left.words call d.fits.near.are_words d.fits.near.zero (λ l. (d.fits.near.intervals l, d.fits.multiples l)) in
      let next_k = record (left_by brought k) { base = c.base; calls = cs } in
      let after = comes parts w k f b j (return_visit parts f b (suc j)) start c cs brought now is rules refl d.fits.near.y_word brings d.stored follows at in
      let arrived = arrives n next_k c.function c.block (suc c.place) (known_after parts c) (falls parts c.function c.block (suc c.place)) c.start call.framed goes after in
      let shown : (s : State) → Shows (window_of (function_at parts f) b (suc j)) (tests parts now (is_call (op_at parts f b j))) (left_by d.left k) s →
      Shows (Own (function_at parts c.function).frame) (tests parts (known_after parts c) false) next_k s =
      λ s h. (let h1 = subst (λ x. Shows x (tests parts now (is_call (op_at parts f b j))) (left_by d.left k) s) lent h in
      let h2 = subst (λ x. Shows Lent (tests parts now x) (left_by d.left k) s) rules.no_call h1 in
      subst (λ x. Shows (Own x) (tests parts (known_after parts c) false) next_k s) call.is_frame (leaf_shown f c cs now d.left k s is call rules.results h2)) in
      steps_by parts w p word refl d.reached d.reaches (inl arrived.spot) (λ fresh is_fresh s h. reaches_on _ _ _ (λ s h. arrived.shows s (shown s h)) (d.goes fresh s h))
    where
      leaf_brings : (f : ℕ) (c : Open) (cs : List Open) (now : Known) (words : Words) → IsOpen parts f c cs → ((l : ℕ) → words l < 2 ^ 32) → words 0 ≡ 0 →
          ((l : ℕ) → HasInterval (range_at now l) (words l) × HasAlignment (range_at now l) (words l)) → Brings parts c now (left_by_leaf c words)
      leaf_brings f c cs now words call small none fits = record {
        are_words = λ l. word_either (nat_lt l 16) (words l) (c.words l) (2 ^ 32) (small l) (call.are_words l);
        zero = none;
        outs = λ l g h. (let e : left_by_leaf c words l ≡ words l = if_true (nat_lt l 16) ℕ (words l) (c.words l) (below l h) in
            record { range = subst (HasInterval (range_at now l)) (sym e) (fits l).0; multiple = subst (HasAlignment (range_at now l)) (sym e) (fits l).1 });
        kept = λ l h. if_false (nat_lt l 16) ℕ (words l) (c.words l) (above l h);
      }
        where
          word_either : (t : Bool) (x y n : ℕ) → x < n → y < n → (if t then x else y) < n
          word_either true x y n p q = p
          word_either false x y n p q = q

          below : (l : ℕ) → l < 16 → nat_lt l 16 ≡ true
          below l h = grind (arith, nat_tests)

          above : (l : ℕ) → nat_le 16 l ≡ true → nat_lt l 16 ≡ false
          above l h = grind (arith, nat_tests)

      leaf_shown : (f : ℕ) (c : Open) (cs : List Open) (now : Known) (left : Left) (k : Shared) (s : State) → k.calls ≡ c ∷ cs → IsOpen parts f c cs →
          has_outs 8 (function_at parts f).results now ≡ true → Shows Lent (tests parts now false) (left_by left k) s
          → Shows (Own c.frame) (tests parts (known_after parts c) false)
          (record k {
            pc = k.npc;
            npc = following k.npc;
            words = left_by_leaf c left.words;
            icc = left.icc;
            y = left.y;
            memory = left.memory;
            input =
                left.input;
            output = left.output;
            base = c.base;
            calls = cs;
          }) s
      leaf_shown f c cs now left k s is call results shows =
          let file = subst (λ x. ShowsFile Lent (tests parts now false).location k.base left.words x s.registers) is shows.file in
          let rest = shows.rest in
          let after = known_after parts c in
          record {
            rest = record { pc = rest.pc; npc = rest.npc; annulled = rest.annulled; memory = rest.memory; input = rest.input; output = rest.output; exit = rest.exit };
            file = leaf_shows (tests parts now false).location (tests parts after false).location k.base left.words c cs s.registers
                (λ l h low. (let r = result_out f c cs now l call results (low_false l low) (test_parts l (is_defined after l) h) in let some = r.0 in
                test_whole l (is_defined now l) false (omega arith) r.1))
                (λ l h high. after_high f c cs l call (high_true l high) (test_parts l (is_defined after l) h)) file;
            codes = λ h. absurd (let e = after_codes f c cs call in cc);
            y = λ h. absurd (let e = after_y f c cs call in cc);
          }

  -- ---- RESTORE in the slot of `ret`

  -- what is known of the caller's window between the return of its frame and the write of rd
  abbrev popped_tests : ℕ → KnownParts → KnownParts
  popped_tests rd now = record { location = λ l. now.location l && not (l == rd); codes = now.codes; y = now.y }

  popped_fewer : (rd : ℕ) (now : KnownParts) → now.location 0 ≡ false → IsFewer (popped_tests rd now) now rd
  popped_fewer rd now none = record {
    none = none;
    location = λ l h apart. both (now.location l) (l == rd) h (let e : (l == rd) ≡ false = grind (arith, nat_tests) in e);
    codes = λ h. h;
    y = λ h. h;
  }
    where
      both : (a b : Bool) → a ≡ true → b ≡ false → (a && not b) ≡ true
      both true false p q = refl
      both a true p q = absurd (cc)
      both false b p q = absurd (cc)

  not_rd : (a b : Bool) → (a && not b) ≡ true → b ≡ false
  not_rd true false h = refl
  not_rd true true h = absurd (cc)
  not_rd false b h = absurd (cc)

  -- outs of the caller that the callee knew as ins
  in_of_out : (frame rd : ℕ) (t : Three) (d : Known) (l : ℕ) → t.rd ≡ rd → (l == rd) ≡ false → 8 ≤ l → l < 16 → is_defined (transferred frame (Restore t) d) l ≡ true → is_defined d (l + 16) ≡ true
  unfolding transferred
  in_of_out frame rd t d l same apart low high h =
      let e : (l == t.rd) ≡ false = ap (λ x. l == x) same ∙ apart in
      sym (ap (λ (x : Option Entry). is_some x) (with_entry_other t.rd (result_of ops.Add (register_entry d t.rs1) (operand_entry d t.operand2)) (restored d) l e ∙ restored_out d l low high)) ∙ h

  given_tests : (f : ℕ) (frame : ℕ) (t : Three) (c : Open) (cs : List Open) (d : Known) (linked : Bool) → IsOpen parts f c cs →
      has_outs 8 (function_at parts f).results (transferred frame (Restore t) d) ≡ true
      → IsGivenBack c (tests parts d linked).location (popped_tests t.rd (tests parts (known_after parts c) false)).location
  given_tests f frame t c cs d linked call results =
      let after = known_after parts c in
      let now = tests parts after false in
      let mid = popped_tests t.rd now in
      let known : (l : ℕ) → mid.location l ≡ true → is_defined after l ≡ true = λ l h. test_parts l (is_defined after l) (and_left (now.location l) (not (l == t.rd)) h) in
      let out : (l : ℕ) → mid.location l ≡ true → l < 16 → (8 ≤ l) × (is_defined (transferred frame (Restore t) d) l ≡ true) =
      λ l h low. result_out f c cs (transferred frame (Restore t) d) l call results (low_false l low) (known l h) in
      record {
        globals = λ l h low. absurd (let r = (out l h (omega arith)).0 in omega arith);
        outs = λ l h low high. (let r = out l h high in
            test_whole (l + 16) (is_defined d (l + 16)) linked (omega arith)
            (in_of_out frame t.rd t d l refl (not_rd (now.location l) (l == t.rd) h) low high r.1));
        kept = λ l h high. after_high f c cs l call (high_true l high) (known l h);
      }

  pub restore_slot : (w : ℕ) (k : Shared) (f b j : ℕ) (t : Three) (c : Open) (cs : List Open) (start : Cells) (v : ℕ) (at : At parts w k f b (suc j) (return_visit parts f b (suc j)) start)
      → let p : Spot parts w = record { k = k; f = f; b = b; i = suc j; v = return_visit parts f b (suc j); start = start; at = at } in
      let d = state_at parts f b (suc j) in
      let after_op = transferred (function_at parts f).frame (Restore t) d in
      IsWord parts f b (suc j) → op_at parts f b (suc j) ≡ Restore t → k.calls ≡ c ∷ cs → is_framed (function_at parts f).kind ≡ true → IsFree (Own c.frame) t.rd → t.rd < 16
      → ((s : State) → ShowsSpot parts w p s → address (reg s) t.rs1 t.operand2 ≡ v)
      → Fits start after_op (with_location t.rd v (given_back c k.words)) k.icc k.y
      → ReturnsWell parts f b j after_op
      → GoesOn c.function c.block (suc c.place) (known_after parts c) (falls parts c.function c.block (suc c.place))
      → Follows parts c.function c.block (suc c.place) (falls parts c.function c.block (suc c.place)) (following (address_of parts c.function c.block (suc c.place)))
      → Steps parts w p
  restore_slot w k f b j t c cs start v at word op is framed free low sum fits rules goes follows =
      let p : Spot parts w = record { k = k; f = f; b = b; i = suc j; v = return_visit parts f b (suc j); start = start; at = at } in
      let opened : AreOpen parts f (c ∷ cs) = subst (AreOpen parts f) is at.calls in
      let call = opened.0 in
      let d = state_at parts f b (suc j) in
      let frame = (function_at parts f).frame in
      let after_op = transferred frame (Restore t) d in
      let linked = is_call (op_at parts f b j) in
      let n = w + weight_of (op_at parts f b (suc j)) in
      let words = with_location t.rd v (given_back c k.words) in
      let brought : Left = record { words = words; icc = k.icc; y = k.y; memory = k.memory; input = k.input; output = k.output } in
      let brings : Brings parts c after_op words = record {
        are_words = fits.near.are_words;
        zero = fits.near.zero;
        outs = λ l g h. record { range = fits.near.intervals l; multiple = fits.multiples l };
        kept = λ l h. high_kept t.rd v c k.words l low h;
      } in
      let next_k = record (left_by brought k) { base = c.base; calls = cs } in
      let after = comes parts w k f b j (return_visit parts f b (suc j)) start c cs brought after_op is rules refl fits.near.y_word brings at.stored follows at in
      let arrived = arrives n next_k c.function c.block (suc c.place) (known_after parts c) (falls parts c.function c.block (suc c.place)) c.start call.framed goes after in
      let now = tests parts (known_after parts c) false in
      let shown : (s : State) → Shows (Own c.frame) now next_k s → ShowsSpot parts n arrived.spot s = λ s h. arrived.shows s (subst (λ x. Shows (Own x) now next_k s) call.is_frame h) in
      steps_by parts w p word refl None (λ s h. ap (λ x. reached_by x s) op) (inl arrived.spot)
      (λ fresh is_fresh s h. reaches_on _ _ _ shown (reaches_by _ (does parts fresh (Restore t) s) _ (ap (λ x. does parts fresh x s) op)
      (restore_reaches parts fresh frame (tests parts d linked) (popped_tests t.rd now) now t c cs k s is v (sum s h) free (given_tests f frame t c cs d linked call rules.results)
      (λ e. absurd (let g = after_codes f c cs call in cc)) (λ e. absurd (let g = after_y f c cs call in cc)) (popped_fewer t.rd now refl)
      (subst (λ x. Shows x (tests parts d linked) k s) (own_window (function_at parts f) b j framed) h))))
    where
      high_kept : (rd v : ℕ) (c : Open) (words : Words) (l : ℕ) → rd < 16 → nat_le 16 l ≡ true → with_location rd v (given_back c words) l ≡ c.words l
      high_kept rd v c words l low h = grind (arith, nat_tests)

  pub retl_word : (w : ℕ) (k : Shared) (f b i : ℕ) (c : Open) (cs : List Open) (start : Cells) (at : At parts w k f b i (straight_visit parts f b i) start)
      → IsWord parts f b i → op_at parts f b i ≡ JumpAndLink (record { rd = 0; rs1 = 15; operand2 = Immediate 8 }) → k.calls ≡ c ∷ cs →
      ComesStraight parts f b i → window_of (function_at parts f) b i ≡ Lent → window_of (function_at parts f) b (suc i) ≡ Lent →
      (c.back + 8) % 2 ^ 32 % 4 ≡ 0
      → let p : Spot parts w = record { k = k; f = f; b = b; i = i; v = straight_visit parts f b i; start = start; at = at } in
      Steps parts w p
  retl_word w k f b i c cs start at word op is comes_straight lent lent_after four =
      let d = state_at parts f b i in
      return_word w k f b i (record { rd = 0; rs1 = 15; operand2 = Immediate 8 }) c cs start at word op is comes_straight (lent ∙ sym lent_after)
      (λ fresh s h. subst
      (λ x. Reaches (does parts fresh (JumpAndLink (record { rd = 0; rs1 = 15; operand2 = Immediate 8 })) s)
      (Shows x (tests parts d false) (moved_to ((c.back + 8) % 2 ^ 32) k))) (sym lent)
      (retl_reaches parts fresh (tests parts d false) c cs k s is four (subst (λ x. Shows x (tests parts d false) k s) lent h)))
