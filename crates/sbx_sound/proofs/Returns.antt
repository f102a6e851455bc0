-- The return of a callee: its caller goes on, with the results, and with what it kept.
use Rattle.sbx_sound.proofs.Entries.{called_form, called_range, result_at}
use Rattle.std.proofs.Common.{◌≡◌, ℕ, zero, suc, ◌+◌, ◌-◌, ◌^◌, ◌<◌, ◌≤◌, Bool, true, false, List, [], ◌∷◌, length, Option, Some, None, refl, sym, ap, ◌∙◌, subst, arith}
use Rattle.std.specs.Prelude.{pos, ◌+ℤ◌, ◌-ℤ◌, ◌≤ℤ◌, nat_le, if◌then◌else◌, slice_get}
use Rattle.std.proofs.lemmas.Bool.Decides.{nat_tests}
use Rattle.v8_word.specs.declared.Icc.{Icc}
use Rattle.v8_meaning.specs.Operands.{following}
use Rattle.sbx_image.specs.Parts.{Parts}
use Rattle.sbx_image.specs.Range.{Range}
use Rattle.sbx_flat.specs.Registers.{Words}
use Rattle.sbx_flat.specs.Runs.{budget, weight_of}
use Rattle.sbx_rules.specs.Fuel.{IsEnough}
use Rattle.sbx_rules.specs.Rules.{has_outs, has_range}
use Rattle.sbx_rules.specs.Operations.{is_call, is_return}
use Rattle.sbx_rules.specs.Fits.{Fits, HasAlignment, HasForm, HasInterval, Relates}
use Rattle.sbx_rules.specs.Known.{Known, range_at, form_at}
use Rattle.sbx_rules.specs.Forms.{form_value}
use Rattle.sbx_rules.specs.Ways.{Visit, Way, after_call, falls, fuel_at, state_at, weight_to}
use Rattle.sbx_image.specs.Order.{address_of, function_at}
use Rattle.sbx_rules.specs.Places.{callee_at, op_at}
use Rattle.sbx_sound.proofs.Running.{After, AreOpen, At, Follows, GoesTo, IsOpen, back_of, known_after, left_to, left_to_all}
use Rattle.sbx_form.specs.Forms.{Cells}
use Rattle.sbx_sound.proofs.Shared.{AreStored, Open, Shared}
use Rattle.sbx_rules.specs.Transfer.{called, transferred, is_out}
use Rattle.sbx_sound.proofs.Arrivals.{Left, framed_bytes, left_by, weight_next}
use Rattle.sbx_sound.proofs.Ledger.{interval_within, multiple_within, one_return, one_word}
use Rattle.sbx_sound.proofs.Tests.{and_left, and_right}

-- a word fits in a range, where there is one
pub record IsIn (o : Option Range) (w : ℕ) : Type 0 where
  pub range : HasInterval o w
  pub multiple : HasAlignment o w

abbrev OutsFit : Known → Words → Type 0
OutsFit d words = (l : ℕ) → 8 ≤ l → l < 16 → IsIn (range_at d l) (words l)

-- what a function promises of its results holds of the words in the outs
results_fit : (first : ℕ) (results : List Range) (d : Known) (words : Words) → 8 ≤ first → first + length results ≤ 16 → has_outs first results d ≡ true →
    OutsFit d words → (n l : ℕ) → l ≡ first + n → IsIn (slice_get results n) (words l)
results_fit first [] d words low high h outs n l e = record { range = tt; multiple = tt }
results_fit first (r ∷ rs) d words low high h outs zero l e =
    let here = outs first low (omega arith) in
    let within = and_left (has_range (range_at d first) r) (has_outs (suc first) rs d) h in
    let same : first ≡ l = omega arith in
    subst (λ m. IsIn (Some r) (words m)) same
    (record {
      range = interval_within (range_at d first) r (words first) within here.range;
      multiple =
          multiple_within (range_at d first) r (words first) within here.multiple;
    })
results_fit first (r ∷ rs) d words low high h outs (suc n) l e =
    results_fit (suc first) rs d words (omega arith) (omega arith) (and_right (has_range (range_at d first) r) (has_outs (suc first) rs d) h) outs n l (omega arith)

nothing_in : (w : ℕ) → IsIn None w
nothing_in w = record { range = tt; multiple = tt }

result_in : (results : List Range) (d : Known) (words : Words) → length results ≤ 6 → has_outs 8 results d ≡ true → OutsFit d words → (l : ℕ) → IsIn (result_at results l) (words l)
result_in results d words few h outs l = by_test (is_out l) (λ e. results_fit 8 results d words (omega arith) (omega arith) h outs (l - 8) l (below e)) (nothing_in (words l))
  where
    by_test : (t : Bool) → (t ≡ true → IsIn (slice_get results (l - 8)) (words l)) → IsIn None (words l) → IsIn (if t then slice_get results (l - 8) else None) (words l)
    by_test true p n = p refl
    by_test false p n = n

    below : is_out l ≡ true → l ≡ 8 + (l - 8)
    below e = grind (arith, nat_tests)

either : (t : Bool) (P : Type 0) → (t ≡ true → P) → (t ≡ false → P) → P
either true P p q = p refl
either false P p q = q refl

module _ (parts : Parts) where
  pub in_slot_of : Open → Known
  in_slot_of c = transferred (function_at parts c.function).frame (op_at parts c.function c.block (suc c.place)) (state_at parts c.function c.block (suc c.place))

  pub known_is : (f : ℕ) (c : Open) → callee_at parts c.function c.block c.place ≡ Some f → known_after parts c ≡ called (function_at parts f).results (in_slot_of c)
  unfolding state_at in_slot_of
  known_is f c e = ap (λ o. after_call parts o (in_slot_of c)) e

  -- What the rules say of a return at word j and its slot.
  pub record ReturnsWell (f b j : ℕ) (d : Known) : Type 0 where
    pub returns : is_return (op_at parts f b j) ≡ true
    pub no_call : is_call (op_at parts f b j) ≡ false
    pub enough : IsEnough (state_at parts f b 0) (fuel_at parts f b) (weight_to parts f b (suc (suc j)))
    pub results : has_outs 8 (function_at parts f).results d ≡ true
    pub few : length (function_at parts f).results ≤ 6

  -- What a caller finds in its window.
  pub record Brings (c : Open) (d : Known) (words : Words) : Type 0 where
    pub are_words : (l : ℕ) → words l < 2 ^ 32
    pub zero : words 0 ≡ 0
    pub outs : OutsFit d words
    pub kept : (l : ℕ) → nat_le 16 l ≡ true → words l ≡ c.words l

  -- it fits what is known after the call
  pub fits_back : (f : ℕ) (c : Open) (cs : List Open) (d : Known) (words : Words) (icc : Icc) (y : ℕ) → IsOpen parts f c cs →
      has_outs 8 (function_at parts f).results d ≡ true → length (function_at parts f).results ≤ 6 → y < 2 ^ 32 → Brings c d words →
      Fits c.start (known_after parts c) words icc y
  unfolding called
  fits_back f c cs d words icc y open_call results few y_word brings =
      let same = known_is f c open_call.calls in
      let rs = (function_at parts f).results in
      let slot = in_slot_of c in
      let found = result_in rs d words few results brings.outs in
      let range : (l : ℕ) → nat_le 16 l ≡ false → range_at (known_after parts c) l ≡ result_at rs l = λ l h. ap (λ (k : Known). range_at k l) same ∙ called_range rs slot l h in
      let form : (l : ℕ) → nat_le 16 l ≡ false → form_at (known_after parts c) l ≡ None = λ l h. ap (λ (k : Known). form_at k l) same ∙ called_form rs slot l h in
      record {
        near = record {
          are_words = brings.are_words;
          zero = brings.zero;
          intervals = λ l. either (nat_le 16 l) (HasInterval (range_at (known_after parts c) l) (words l))
              (λ h. subst (λ w. HasInterval (range_at (known_after parts c) l) w) (sym (brings.kept l h)) (open_call.ranges l h))
              (λ h. subst (λ o. HasInterval o (words l)) (sym (range l h)) (found l).range);
          forms = λ l. either (nat_le 16 l) (HasForm c.start (form_at (known_after parts c) l) (words l))
              (λ h. subst (λ w. HasForm c.start (form_at (known_after parts c) l) w) (sym (brings.kept l h)) (open_call.forms l h))
              (λ h. subst (λ o. HasForm c.start o (words l)) (sym (form l h)) tt);
          y_word = y_word;
          y_interval = subst (λ (k : Known). HasInterval k.y y) (sym same) tt;
          relates = subst (λ (k : Known). Relates words icc k.relation) (sym same) tt;
        };
        multiples = λ l. either (nat_le 16 l) (HasAlignment (range_at (known_after parts c) l) (words l))
            (λ h. subst (λ w. HasAlignment (range_at (known_after parts c) l) w) (sym (brings.kept l h)) (open_call.multiples l h))
            (λ h. subst (λ o. HasAlignment o (words l)) (sym (range l h)) (found l).multiple);
        y_multiple = subst (λ (k : Known). HasAlignment k.y y) (sym same) tt;
      }

  comes_back : (t r : Bool) (f b j : ℕ) (way : Way) (calls : List Open) (address : ℕ) → t ≡ false → r ≡ true → GoesTo parts t r f b j way calls address → address ≡ back_of parts calls
  comes_back false true f b j way calls address p q h = h
  comes_back true r f b j way calls address p q h = absurd (cc)
  comes_back false false f b j way calls address p q h = absurd (cc)

  -- the caller's slot is followed by the address that the return goes to
  back_follows : (c : Open) (cs : List Open) (f : ℕ) → IsOpen parts f c cs → back_of parts (c ∷ cs) ≡ following (address_of parts c.function c.block (suc c.place))
  unfolding address_of
  back_follows c cs f open_call = let e = open_call.back in omega (arith, e)

  -- `ret` with RESTORE, or `retl` with its slot: the caller goes on
  pub comes : (w : ℕ) (k : Shared) (f b j : ℕ) (v : Visit) (start : Cells) (c : Open) (cs : List Open) (left : Left) (d : Known)
      → k.calls ≡ c ∷ cs → ReturnsWell f b j d → v.annulled ≡ false → left.y < 2 ^ 32 → Brings c d left.words → AreStored parts.regions left.memory left.input
      → Follows parts c.function c.block (suc c.place) (falls parts c.function c.block (suc c.place)) (following (address_of parts c.function c.block (suc c.place)))
      → At parts w k f b (suc j) v start
      → After parts (w + weight_of (op_at parts f b (suc j))) (record (left_by left k) { base = c.base; calls = cs }) c.function c.block (suc c.place)
      (known_after parts c) (falls parts c.function c.block (suc c.place)) c.start
  comes w k f b j v start c cs left d is rules runs y_word brings stored follows a =
      let opened : AreOpen parts f (c ∷ cs) = subst (AreOpen parts f) is a.calls in
      let call = opened.0 in
      let pc : k.npc ≡ following (address_of parts c.function c.block (suc c.place)) =
      comes_back _ _ f b (suc j) v.way k.calls k.npc rules.no_call rules.returns a.npc ∙ ap (back_of parts) is ∙ back_follows c cs f call in
      let weight = weight_of (op_at parts f b (suc j)) in
      record {
        pc = subst (Follows parts c.function c.block (suc c.place) (falls parts c.function c.block (suc c.place))) (sym pc) follows;
        npc = refl;
        annulled = a.annulled ∙ runs;
        exit = a.exit;
        begun = call.begun;
        fits = fits_back f c cs d left.words left.icc left.y call rules.results rules.few y_word brings;
        calls = opened.1;
        base = ap (λ x. c.base + x) (framed_bytes parts (function_at parts c.function) c.block (suc c.place) call.framed ∙ sym call.is_frame) ∙ call.base;
        eight = call.eight;
        room = call.room;
        stored = stored;
        ledger =
            let before = one_word w weight (weight_to parts f b (suc j)) (budget parts) (form_value start (fuel_at parts f b)) (left_to_all parts k.calls) a.ledger in
            let same : weight_to parts f b (suc j) + weight ≡ weight_to parts f b (suc (suc j)) = sym (weight_next parts f b (suc j) rules.no_call) in
            let one = subst (λ t. (pos (w + weight) +ℤ ((form_value start (fuel_at parts f b) -ℤ pos t) +ℤ left_to_all parts k.calls)) ≤ℤ pos (budget parts)) same before in
            let two = subst (λ cs. (pos (w + weight) +ℤ ((form_value start (fuel_at parts f b) -ℤ pos (weight_to parts f b (suc (suc j)))) +ℤ left_to_all parts cs)) ≤ℤ pos (budget parts)) is one in
            one_return (w + weight) (weight_to parts f b (suc (suc j))) (budget parts) (form_value start (fuel_at parts f b)) (left_to parts c) (left_to_all parts cs) two (rules.enough start a.begun);
      }
