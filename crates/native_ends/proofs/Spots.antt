-- Where a run of a checked image stands: in code, in a delay slot, and behind one where a block begins.
use Rattle.std.proofs.Common.{◌≡◌, ℕ, zero, suc, ◌+◌, ◌-◌, ◌%◌, ◌^◌, ◌<◌, ◌≤◌, Bool, true, false, List, [], ◌∷◌, length, Option, Some, None, refl, sym, ap, ◌∙◌, subst, inl, inr, arith}
use Rattle.std.specs.Prelude.{◌==◌, ◌&&◌, ◌||◌, not, nat_le, nat_lt, if◌then◌else◌, slice_get}
use Rattle.std.proofs.lemmas.Bool.Decides.{nat_tests}
use Rattle.v8_formats.specs.declared.instr.Three.{Three}
use Rattle.v8_meaning.specs.Operands.{following, target}
use Rattle.v8_meaning.specs.declared.operation.Operation.{Operation}
use Rattle.v8_meaning.specs.declared.operation.Operation.TheVariants.{BranchOnCondition, Call, JumpAndLink, Restore, Save, TrapOnCondition}
use Rattle.sbx_image.specs.Order.{AreInOrder, IsFunction, address_of, block_end, code_end, entry_or_end, function_at, function_end, or_function, words_in}
use Rattle.sbx_image.specs.Function.{Function}
use Rattle.sbx_image.specs.Parts.{Parts}
use Rattle.sbx_image.proofs.Ordered.{in_order}
use Rattle.sbx_flat.specs.States.{State}
use Rattle.sbx_flat.specs.Turns.{asked, word_at}
use Rattle.sbx_rules.specs.Operations.{is_call, is_framed_return, is_restore, is_return, is_save, is_transfer, is_trap}
use Rattle.sbx_rules.specs.Places.{IsPlace, callee_at, callee_of, ends_run, find_entry, op_at, op_before, word_of_place}
use Rattle.sbx_rules.specs.Rules.{is_last, same_test}
use Rattle.sbx_rules.specs.Verdicts.{Checked}
use Rattle.sbx_sound.specs.Law.{IsFormed}
use Rattle.sbx_sound.proofs.Asked.{has_shape, no_return, restores_in_slot, slot_follows}
use Rattle.sbx_sound.proofs.Order.{IsOrdered}
use Rattle.sbx_sound.proofs.Ordered.{code_word, lies_low, next_address}
use Rattle.sbx_sound.proofs.Returning.{slot_is_no_save, slot_is_plain, slot_keeps_on}
use Rattle.sbx_sound.proofs.Running.{AreOpen, GoesTo, back_of}
use Rattle.sbx_sound.proofs.Safe.{ShowsSpot, ShowsStand, Spot, Stand}
use Rattle.sbx_sound.proofs.Shared.{Open}
use Rattle.sbx_sound.proofs.Whole.{order}
use Rattle.sbx_rules.specs.Ways.{Way}
use Rattle.sbx_depth.proofs.Steps.{Stands}
use Rattle.native_results.specs.Words.{is_straight}
use Rattle.native_ends.specs.Translations.{AsksFor, Begins, LiesIn, turns_of}
use Rattle.sbx_depth.proofs.Where.{Goes, IsFirst, Leaves, either_of, goes_on, same_place, turns_at}

one_word : (a b : ℕ) → Some a ≡ Some b → a ≡ b
one_word a b e = cc

no_exit : (o : Option ℕ) (status : ℕ) → o ≡ None → o ≡ Some status → ⊥
no_exit o status e f = cc

-- ---- operations

plain_is_straight : (op : Operation) → is_transfer op ≡ false → is_trap op ≡ false → is_straight op ≡ true
plain_is_straight (Call d) h g = absurd (cc)
plain_is_straight (JumpAndLink t) h g = absurd (cc)
plain_is_straight (BranchOnCondition b) h g = absurd (cc)
plain_is_straight (TrapOnCondition t) h g = absurd (cc)
plain_is_straight _ h g = refl

one_turn : (op : Operation) → is_save op ≡ false → is_restore op ≡ false → turns_of op ≡ 1
one_turn (Save f) h g = absurd (cc)
one_turn (Restore f) h g = absurd (cc)
one_turn _ h g = refl

call_is : (op : Operation) → is_call op ≡ true → (d : ℕ) × (op ≡ Call d)
call_is (Call d) h = (d, refl)
call_is _ h = absurd (cc)

no_framed_return : (op : Operation) → is_return op ≡ false → is_framed_return op ≡ false
no_framed_return (JumpAndLink j) h = absurd (cc)
no_framed_return _ h = refl

slice_get_none : {A : Type 0} (xs : List A) (k : ℕ) → slice_get xs k ≡ None → length xs ≤ k
slice_get_none [] k e = omega arith
slice_get_none (x ∷ xs) zero e = absurd (cc)
slice_get_none (x ∷ xs) (suc k) e = let h = slice_get_none xs k e in omega (arith, h)

-- ---- a function by its entry

record Found (n address m : ℕ) (fs : List Function) : Type 0 where
  from : n ≤ m
  is : (or_function (slice_get fs (m - n))).entry ≡ address
  within : m - n < length fs

find_is : (n address : ℕ) (fs : List Function) (m : ℕ) → find_entry n address fs ≡ Some m → Found n address m fs
find_is n address [] m e = absurd (cc)
find_is n address (f ∷ fs) m e = by_test (find_is (suc n) address fs m) (f.entry == address) refl e
  where
    by_test : (find_entry (suc n) address fs ≡ Some m → Found (suc n) address m fs) → (t : Bool) → (f.entry == address) ≡ t →
        (if t then Some n else find_entry (suc n) address fs) ≡ Some m → Found n address m (f ∷ fs)
    by_test later true p q =
        let same = one_word n m q in
        let none : m - n ≡ 0 = omega arith in
        record {
          from = omega arith;
          is = ap (λ k. (or_function (slice_get (f ∷ fs) k)).entry) none ∙ (let x : f.entry ≡ address = grind (arith, nat_tests) in x);
          within = omega (arith, none);
        }
    by_test later false p q =
        let rest = later q in
        let from = rest.from in
        let less = rest.within in
        let one : m - n ≡ suc (m - suc n) = omega arith in
        record { from = omega arith; is = ap (λ k. (or_function (slice_get (f ∷ fs) k)).entry) one ∙ rest.is; within = omega (arith, less, one) }

module _ (parts : Parts) (formed : IsFormed parts) (checked : Checked parts) where
  ordered : IsOrdered parts
  ordered = order parts formed checked

  in_turn : AreInOrder parts
  in_turn = in_order parts formed.kept

  -- ---- spots

  -- A spot that a state shows.
  pub record Shown (s : State) : Type 0 where
    pub weight : ℕ
    pub spot : Spot parts weight
    pub shows : ShowsSpot parts weight spot s

  pub shown : (s : State) → Stands parts s → s.exit ≡ None → Shown s
  shown s h open_now = by_stand h.weight h.stand h.shows
    where
      by_stand : (w : ℕ) (stand : Stand parts w) → ShowsStand parts w stand s → Shown s
      by_stand w (inl p) shows = record { weight = w; spot = p; shows = shows }
      by_stand w (inr e) shows = absurd (no_exit s.exit e.status open_now shows.status)

  lies_at : (s : State) (h : Shown s) → address_of parts h.spot.f h.spot.b h.spot.i ≡ s.pc
  lies_at s h = sym h.spot.at.pc ∙ sym h.shows.rest.pc

  word_there : (f b i : ℕ) → IsPlace parts f b i → AsksFor parts (address_of parts f b i) (op_at parts f b i)
  word_there f b i place = (word_of_place parts f b i, code_word parts ordered f b i place, refl)

  asks_there : (a f b i : ℕ) (op : Operation) → IsPlace parts f b i → address_of parts f b i ≡ a → AsksFor parts a op → op_at parts f b i ≡ op
  asks_there a f b i op place at asks =
      let same : word_of_place parts f b i ≡ asks.0 = one_word (word_of_place parts f b i) asks.0 (sym (code_word parts ordered f b i place) ∙ ap (word_at parts.words) at ∙ asks.1) in
      ap asked same ∙ asks.2

  pub asks_is : (s : State) (h : Shown s) (op : Operation) → AsksFor parts s.pc op → op_at parts h.spot.f h.spot.b h.spot.i ≡ op
  asks_is s h op asks = asks_there s.pc h.spot.f h.spot.b h.spot.i op h.spot.at.place (lies_at s h) asks

  pub asks_at : (s : State) (h : Shown s) → AsksFor parts s.pc (op_at parts h.spot.f h.spot.b h.spot.i)
  asks_at s h = subst (λ a. AsksFor parts a (op_at parts h.spot.f h.spot.b h.spot.i)) (lies_at s h) (word_there h.spot.f h.spot.b h.spot.i h.spot.at.place)

  pub within_code : (s : State) → Shown s → code_end parts ≤ s.pc → ⊥
  within_code s h past =
      let at = (ordered.blocks h.spot.f h.spot.b h.spot.at.place.function h.spot.at.place.block).each h.spot.i h.spot.at.place.word in
      let low = at.1 in
      let is = at.2 in
      let here = lies_at s h in
      absurd (omega (arith, low, is, here, past))

  -- ---- a delay slot

  -- A spot behind a transfer of the same block.
  pub record InSlot (s : State) (op : Operation) : Type 0 where
    pub spot : Shown s
    pub before : op_before parts spot.spot.f spot.spot.b spot.spot.i ≡ op

  pub slot_of : (s next : State) (op : Operation) → Shown s → Shown next → AsksFor parts s.pc op → is_transfer op ≡ true → next.pc ≡ following s.pc → InSlot next op
  slot_of s next op h t asks transfers on =
      let f = h.spot.f in
      let b = h.spot.b in
      let i = h.spot.i in
      let place = h.spot.at.place in
      let is = asks_is s h op asks in
      let less = slot_follows parts checked f b i place (ap is_transfer is ∙ transfers) in
      let there : IsPlace parts f b (suc i) = record { function = place.function; block = place.block; word = less } in
      let same = same_place parts formed checked f b (suc i) t.spot.f t.spot.b t.spot.i there t.spot.at.place
      (lies_at next t ∙ on ∙ ap following (sym (lies_at s h)) ∙ next_address parts ordered f b i place) in
      record {
        spot = t;
        before =
            ap (λ k. op_before parts k t.spot.b t.spot.i) same.0 ∙ ap (λ k. op_before parts f k t.spot.i) same.1 ∙ ap (op_before parts f b) same.2 ∙ is;
      }

  -- it is of the same function
  pub slot_function : (s next : State) (op : Operation) → (h : Shown s) → (t : Shown next) → AsksFor parts s.pc op → is_transfer op ≡ true → next.pc ≡ following s.pc → t.spot.f ≡ h.spot.f
  slot_function s next op h t asks transfers on =
      let f = h.spot.f in
      let b = h.spot.b in
      let i = h.spot.i in
      let place = h.spot.at.place in
      let less = slot_follows parts checked f b i place (ap is_transfer (asks_is s h op asks) ∙ transfers) in
      let there : IsPlace parts f b (suc i) = record { function = place.function; block = place.block; word = less } in
      (same_place parts formed checked f b (suc i) t.spot.f t.spot.b t.spot.i there t.spot.at.place
      (lies_at next t ∙ on ∙ ap following (sym (lies_at s h)) ∙ next_address parts ordered f b i place)).0

  -- what stands in a slot
  plain_slot : (f b i : ℕ) → IsPlace parts f b i → is_transfer (op_before parts f b i) ≡ true →
      (is_transfer (op_at parts f b i) ≡ false) × (is_trap (op_at parts f b i) ≡ false) × (is_save (op_at parts f b i) ≡ false) × (ends_run (op_at parts f b i) ≡ false)
  plain_slot f b zero place transfers = absurd (cc)
  plain_slot f b (suc j) place transfers =
      let e = slot_keeps_on parts checked f b j place transfers in
      (e.0, e.1, slot_is_no_save parts checked f b j place, (slot_is_plain parts checked f b j place transfers).runs_on)

  same_false : (b : Bool) → same_test false b ≡ true → b ≡ false
  same_false false h = refl
  same_false true h = absurd (cc)

  slot_test : (s : State) (op : Operation) (h : InSlot s op) → is_transfer op ≡ true → is_transfer (op_before parts h.spot.spot.f h.spot.spot.b h.spot.spot.i) ≡ true
  slot_test s op h transfers = ap is_transfer h.before ∙ transfers

  pub slot_straight : (s : State) (op slot : Operation) → InSlot s op → is_transfer op ≡ true → AsksFor parts s.pc slot → is_straight slot ≡ true
  slot_straight s op slot h transfers asks =
      let p = h.spot.spot in
      let plain = plain_slot p.f p.b p.i p.at.place (slot_test s op h transfers) in
      subst (λ o. is_straight o ≡ true) (asks_is s h.spot slot asks) (plain_is_straight (op_at parts p.f p.b p.i) plain.0 plain.1)

  pub slot_one_turn : (s : State) (op slot : Operation) → InSlot s op → is_transfer op ≡ true → is_return op ≡ false → AsksFor parts s.pc slot → turns_of slot ≡ 1
  slot_one_turn s op slot h transfers no_return asks =
      let p = h.spot.spot in
      let plain = plain_slot p.f p.b p.i p.at.place (slot_test s op h transfers) in
      let test = restores_in_slot parts checked p.f p.b p.i p.at.place in
      let none : is_framed_return (op_before parts p.f p.b p.i) ≡ false = no_framed_return (op_before parts p.f p.b p.i) (ap is_return h.before ∙ no_return) in
      let no_restore : is_restore (op_at parts p.f p.b p.i) ≡ false = same_false (is_restore (op_at parts p.f p.b p.i)) (sym (ap (λ x. same_test x (is_restore (op_at parts p.f p.b p.i))) none) ∙ test) in
      subst (λ o. turns_of o ≡ 1) (asks_is s h.spot slot asks) (one_turn (op_at parts p.f p.b p.i) plain.2 no_restore)

  -- ---- behind a slot a block begins

  before_it : (f b i : ℕ) → IsPlace parts f b (suc i) → IsPlace parts f b i
  before_it f b i place = record { function = place.function; block = place.block; word = (let h = place.word in omega (arith, h)) }

  or_other : (a b : Bool) → (a || b) ≡ true → b ≡ false → a ≡ true
  or_other true b h g = refl
  or_other false b h g = absurd (cc)

  three : (a b c : Bool) → (a && not b && not c) ≡ false → a ≡ true → c ≡ false → b ≡ true
  three true true c h g e = refl
  three true false false h g e = absurd (cc)
  three true false true h g e = absurd (cc)
  three false b c h g e = absurd (cc)

  and_first : (a b : Bool) → (a && not b) ≡ false → b ≡ false → a ≡ false
  and_first false b h g = refl
  and_first true false h g = absurd (cc)
  and_first true true h g = absurd (cc)

  not_last : (n i : ℕ) → suc i < n → nat_le n (i + 1) ≡ false
  not_last n i less = grind (arith, nat_tests)

  first_begins : (a f b i : ℕ) → IsPlace parts f b i → address_of parts f b i ≡ a → IsFirst parts f b i → Begins parts a
  first_begins a f b zero place at first = inl (record { function = f; block = b; is = (place.function, place.block); there = at })
  first_begins a f b (suc m) place at first = by_before m place at (shape_says m place first)
    where
      shape_says : (m : ℕ) → IsPlace parts f b (suc m) → turns_at parts f b m ≡ true → is_call (op_before parts f b m) ≡ true
      shape_says m place turns =
          (let here = before_it f b m place in
          let shape = has_shape parts checked f b m here in
          let more : is_last parts f b m ≡ false = not_last (words_in parts f b) m place.word in
          let no_end : ends_run (op_at parts f b m) ≡ false = and_first (ends_run (op_at parts f b m)) (is_last parts f b m) shape.after_exit more in
          three (is_transfer (op_before parts f b m)) (is_call (op_before parts f b m)) (is_last parts f b m) shape.after_slot
          (or_other (is_transfer (op_before parts f b m)) (ends_run (op_at parts f b m)) turns no_end) more)

      by_before : (m : ℕ) → IsPlace parts f b (suc m) → address_of parts f b (suc m) ≡ a → is_call (op_before parts f b m) ≡ true → Begins parts a
      by_before zero place at called = absurd (cc)
      by_before (suc k) place at called =
          (let call = call_is (op_at parts f b k) called in
          let two : suc (suc k) ≡ k + 2 = omega arith in
          inr (record {
            function = f;
            block = b;
            word = k;
            displacement = call.0;
            calls = subst (λ o. AsksFor parts (address_of parts f b k) o) call.1 (word_there f b k (before_it f b k (before_it f b (suc k) place)));
            there = record { block = (place.function, place.block); word = subst (λ n. n < words_in parts f b) two place.word; there = ap (address_of parts f b) (sym two) ∙ at };
          }))

  pub begins_behind : (s next : State) (op : Operation) → InSlot s op → is_transfer op ≡ true → Shown next → next.pc ≡ s.npc → Begins parts next.pc
  begins_behind s next op h transfers t on = by_way (goes_on parts formed checked p.f p.b p.i p.v p.k.calls p.k.npc leaves q.f q.b q.i q.at.place (lies_at next t ∙ on ∙ h.spot.shows.rest.npc))
    where
      p : Spot parts h.spot.weight
      p = h.spot.spot

      q : Spot parts t.weight
      q = t.spot

      test : is_transfer (op_before parts p.f p.b p.i) ≡ true
      test = slot_test s op h transfers

      leaves : Leaves parts formed checked p.f p.b p.i p.v p.k.calls p.k.npc
      leaves = record {
        place = p.at.place;
        visit = p.at.is_visit;
        goes = p.at.npc;
        open_calls = p.at.calls;
        runs_on = λ e. (plain_slot p.f p.b p.i p.at.place test).3;
      }

      by_way : Goes parts formed checked p.f p.b p.i q.f q.b q.i → Begins parts next.pc
      by_way (inl within) = absurd (let turns = either_of (is_transfer (op_before parts p.f p.b p.i)) (ends_run (op_at parts p.f p.b p.i)) test in let on = within.on in cc)
      by_way (inr turns) = first_begins next.pc q.f q.b q.i q.at.place (lies_at next t) turns.first

  -- ---- returns

  -- A return goes behind a call of the function that it stands in.
  pub record ReturnsTo (f npc : ℕ) : Type 0 where
    pub function : IsFunction parts f
    pub call : ℕ
    pub displacement : ℕ
    pub low : call < 2 ^ 32 - 8
    pub asks : AsksFor parts call (Call displacement)
    pub callee : target call displacement ≡ (function_at parts f).entry
    pub npc_is : npc ≡ (call + 8) % 2 ^ 32

  found_of : (pc d f : ℕ) → callee_of parts pc (Call d) ≡ Some f → (target pc d ≡ (function_at parts f).entry) × IsFunction parts f
  found_of pc d f e =
      let found = find_is 0 (target pc d) parts.functions f e in
      let within = found.within in
      (sym (ap (λ k. (or_function (slice_get parts.functions k)).entry) (let none : f ≡ f - 0 = omega arith in none) ∙ found.is), omega (arith, within))

  callee_calls : (pc : ℕ) (o : Operation) (f : ℕ) → callee_of parts pc o ≡ Some f → (d : ℕ) × (o ≡ Call d)
  callee_calls pc (Call d) f e = (d, refl)
  callee_calls pc _ f e = absurd (cc)

  call_of : (f : ℕ) (c : Open) → c.back ≡ address_of parts c.function c.block c.place → IsPlace parts c.function c.block (suc c.place)
      → callee_at parts c.function c.block c.place ≡ Some f → (npc : ℕ) → npc ≡ (c.back + 8) % 2 ^ 32 → ReturnsTo f npc
  unfolding callee_at
  call_of f c at slot calls npc on =
      let place = before_it c.function c.block c.place slot in
      let is = callee_calls (address_of parts c.function c.block c.place) (op_at parts c.function c.block c.place) f calls in
      let found = found_of (address_of parts c.function c.block c.place) is.0 f (sym (ap (callee_of parts (address_of parts c.function c.block c.place)) is.1) ∙ calls) in
      record {
        function = found.1;
        call = address_of parts c.function c.block c.place;
        displacement = is.0;
        low = lies_low parts ordered c.function c.block c.place place;
        asks = subst (λ o. AsksFor parts (address_of parts c.function c.block c.place) o) is.1 (word_there c.function c.block c.place place);
        callee = found.0;
        npc_is = on ∙ ap (λ x. (x + 8) % 2 ^ 32) at;
      }

  comes_back : (c r : Bool) (f b i : ℕ) (way : Way) (calls : List Open) (npc : ℕ) → c ≡ false → r ≡ true → GoesTo parts c r f b i way calls npc → npc ≡ back_of parts calls
  comes_back false true f b i way calls npc p q h = h
  comes_back true r f b i way calls npc p q h = absurd (cc)
  comes_back false false f b i way calls npc p q h = absurd (cc)

  first_function : (f : ℕ) → f ≡ 0 → (f == 0) ≡ true
  first_function f e = grind (arith, nat_tests)

  by_calls : (f b j npc : ℕ) (calls : List Open) → IsPlace parts f b j → is_return (op_at parts f b j) ≡ true → AreOpen parts f calls → npc ≡ back_of parts calls → ReturnsTo f npc
  by_calls f b j npc [] place returns open_calls on = absurd (let x : is_return (op_at parts f b j) ≡ false = no_return parts checked f b j place (first_function f open_calls) in cc)
  by_calls f b j npc (c ∷ cs) place returns open_calls on = let this = open_calls.0 in call_of f c this.back this.slot this.calls npc on

  by_word : (f b i npc : ℕ) (calls : List Open) → IsPlace parts f b i → is_return (op_before parts f b i) ≡ true → AreOpen parts f calls → npc ≡ back_of parts calls → ReturnsTo f npc
  by_word f b zero npc calls place returns open_calls on = absurd (cc)
  by_word f b (suc j) npc calls place returns open_calls on = by_calls f b j npc calls (before_it f b j place) returns open_calls on

  pub returns_to : (s : State) (t : Three) → (h : InSlot s (JumpAndLink t)) → ReturnsTo h.spot.spot.f s.npc
  returns_to s t h =
      let p = h.spot.spot in
      by_word p.f p.b p.i s.npc p.k.calls p.at.place (ap is_return h.before) p.at.calls
      (h.spot.shows.rest.npc ∙ comes_back _ _ p.f p.b p.i p.v.way p.k.calls p.k.npc (ap is_call h.before) (ap is_return h.before) p.at.npc)

  -- ---- in which function

  starts_before : (f g b : ℕ) → IsFunction parts f → g < length parts.functions → b < length (function_at parts g).blocks → f ≤ g → (function_at parts f).entry ≤ address_of parts g b 0
  unfolding address_of
  starts_before f g b in_f in_g in_b less = by_order (nat_lt f g) refl
    where
      e : (function_at parts f).entry ≡ address_of parts f 0 0
      e = (in_turn.entries f in_f).1

      first : 0 < length (function_at parts f).blocks
      first = (in_turn.entries f in_f).0.1

      up : address_of parts f 0 0 ≤ block_end parts f 0
      up = let h = (in_turn.blocks f 0 (in_f, first)).ends in omega (arith, h)

      inside : (c : ℕ) → c < length (function_at parts f).blocks → address_of parts f 0 0 ≤ address_of parts f c 0
      inside zero h = omega arith
      inside (suc c) h = let a = in_turn.ascending f 0 (suc c) (omega arith) (in_f, h) in let u = up in omega (arith, a, u)

      by_order : (t : Bool) → nat_lt f g ≡ t → (function_at parts f).entry ≤ address_of parts g b 0
      by_order true h =
          (let below : f < g = grind (arith, nat_tests) in
          let a = in_turn.functions f g 0 b below (in_f, first) (in_g, in_b) in
          let u = up in
          omega (arith, a, u, e))
      by_order false h =
          (let above : g ≤ f = grind (arith, nat_tests) in
          let same : g ≡ f = omega (arith, less, above) in
          let a = inside b (subst (λ n. b < length (function_at parts n).blocks) same in_b) in
          subst (λ n. (function_at parts f).entry ≤ address_of parts n b 0) (sym same) (omega (arith, a, e)))

  in_block : (f b i : ℕ) → IsPlace parts f b i → (address_of parts f b 0 ≤ address_of parts f b i) × (address_of parts f b i < block_end parts f b)
  unfolding address_of
  in_block f b i place =
      let ends = (in_turn.blocks f b (place.function, place.block)).ends in
      let less = place.word in
      (omega arith, omega (arith, ends, less))

  next_entry : (f : ℕ) → suc f < length parts.functions → function_end parts f ≡ (function_at parts (suc f)).entry
  next_entry f within = by_entry (slice_get parts.functions (suc f)) refl
    where
      one : f + 1 ≡ suc f
      one = omega arith

      by_entry : (o : Option Function) → slice_get parts.functions (suc f) ≡ o → function_end parts f ≡ (function_at parts (suc f)).entry
      by_entry (Some g) e = ap (λ k. entry_or_end (code_end parts) (slice_get parts.functions k)) one ∙ ap (entry_or_end (code_end parts)) e ∙ sym (ap (λ o. (or_function o).entry) e)
      by_entry None e = absurd (let past = slice_get_none parts.functions (suc f) e in omega (arith, past, within))

  pub function_is : (f a g b i : ℕ) → LiesIn parts f a → IsPlace parts g b i → address_of parts g b i ≡ a → f ≡ g
  function_is f a g b i lies place at = by_order (nat_lt f g) (nat_lt g f) refl refl
    where
      within : (address_of parts g b 0 ≤ address_of parts g b i) × (address_of parts g b i < block_end parts g b)
      within = in_block g b i place

      by_order : (t u : Bool) → nat_lt f g ≡ t → nat_lt g f ≡ u → f ≡ g
      by_order true u h k =
          (let below : suc f ≤ g = grind (arith, nat_tests) in
          let in_g = place.function in
          let next : suc f < length parts.functions = omega (arith, below, in_g) in
          let low = starts_before (suc f) g b next place.function place.block below in
          let end = next_entry f next in
          let to = lies.to in
          let w = within.0 in
          absurd (omega (arith, low, end, to, w, at)))
      by_order false true h k =
          (let above : g < f = grind (arith, nat_tests) in
          let entry = in_turn.entries f lies.function in
          let up = in_turn.functions g f b 0 above (place.function, place.block) entry.0 in
          let is = entry.1 in
          let from = lies.from in
          let w = within.1 in
          absurd (omega (arith, up, is, from, w, at)))
      by_order false false h k =
          (let x : g ≤ f = grind (arith, nat_tests) in
          let y : f ≤ g = grind (arith, nat_tests) in
          omega (arith, x, y))

  pub function_at_spot : (f : ℕ) (s : State) → (h : Shown s) → LiesIn parts f s.pc → f ≡ h.spot.f
  function_at_spot f s h lies = function_is f s.pc h.spot.f h.spot.b h.spot.i lies h.spot.at.place (lies_at s h)
