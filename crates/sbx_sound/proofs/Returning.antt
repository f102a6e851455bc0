-- Returns, from the rules: `ret` and `retl` where an open call waits, and their slots, after which the caller goes on.
use Rattle.std.proofs.Common.{◌≡◌, ◌≢◌, ℕ, suc, ◌+◌, ◌-◌, ◌%◌, ◌^◌, ◌<◌, ◌≤◌, Bool, true, false, List, [], ◌∷◌, length, Some, refl, sym, ap, ◌∙◌, subst, arith}
use Rattle.std.specs.Prelude.{◌==◌, ◌&&◌, ◌||◌, not, nat_lt, nat_le, slice_get, if◌then◌else◌}
use Rattle.std.proofs.lemmas.Bool.Decides.{nat_tests}
use Rattle.v8_formats.specs.declared.instr.Operand.{Operand}
use Rattle.v8_formats.specs.declared.instr.Operand.TheVariants.{Register, Immediate}
use Rattle.v8_formats.specs.declared.instr.Three.{Three}
use Rattle.v8_meaning.specs.Admitted.{is_admitted, is_immediate_of, is_ret, is_retl}
use Rattle.v8_meaning.specs.Operands.{address, following, second, sum_address}
use Rattle.v8_meaning.specs.declared.operation.Operation.{Operation}
use Rattle.v8_meaning.specs.declared.operation.Operation.TheVariants.{BranchOnCondition, Call, JumpAndLink, Restore, TrapOnCondition}
use Rattle.sbx_image.specs.Function.{Function}
use Rattle.sbx_image.specs.Kind.{Kind}
use Rattle.sbx_image.specs.Kind.TheVariants.{Framed, Leaf}
use Rattle.sbx_image.specs.Parts.{Parts}
use Rattle.sbx_flat.specs.States.{State, reg}
use Rattle.sbx_form.specs.Forms.{Cells}
use Rattle.sbx_rules.specs.Fits.{Words}
use Rattle.sbx_rules.specs.Transfer.{is_out, transferred}
use Rattle.sbx_fits.proofs.Frames.{frames_keep_fitting}
use Rattle.sbx_fits.specs.Held.{AreRestored, Held}
use Rattle.sbx_rules.specs.Operations.{is_call, is_framed, is_framed_return, is_restore, is_return, is_save, is_transfer, is_trap, may_write, reads_of, second_reads, writes_of}
use Rattle.sbx_image.specs.Order.{address_of, function_at, words_in}
use Rattle.sbx_rules.specs.Places.{IsPlace, callee_at, callee_of, ends_run, op_at, op_before, word_of_place}
use Rattle.sbx_rules.specs.Rules.{has_outs, is_defined, is_entry, reads_undefined, same_test, suits, touches_reserved}
use Rattle.sbx_rules.specs.Verdicts.{Checked}
use Rattle.sbx_rules.specs.Ways.{Next, Past, To, falls, falls_to, state_at}
use Rattle.sbx_sound.proofs.LowFields.{LowFields, LowThree, low_fields}
use Rattle.sbx_sound.proofs.Order.{IsOrdered}
use Rattle.sbx_sound.proofs.Running.{AreOpen, At, Follows, IsOpen, known_after, straight_visit, tests, window_of}
use Rattle.sbx_sound.proofs.Shared.{Lent, Open, Own, Shared, Window}
use Rattle.sbx_sound.proofs.Arrivals.{after_no_call, goes_straight}
use Rattle.sbx_sound.proofs.Asked.{admitted, has_results, has_shape, keeps_reserved, no_return, reads_known, restores_in_slot, slot_follows, suits_kind}
use Rattle.sbx_sound.proofs.Effects.{read_shown}
use Rattle.sbx_sound.proofs.Frames.{IsFree, given_back}
use Rattle.sbx_sound.proofs.FromChecked.{return_is_paid}
use Rattle.sbx_sound.proofs.Goes.{goes_on}
use Rattle.sbx_sound.proofs.Ordered.{follows, lies_at_four, lies_low}
use Rattle.sbx_sound.proofs.Moves.{operand_of, second_read}
use Rattle.sbx_sound.proofs.Read.{read_known, second_shown, write_allowed}
use Rattle.sbx_sound.proofs.ReturnSteps.{GoesOn, leaf_slot, restore_slot, ret_word, retl_word}
use Rattle.sbx_sound.proofs.Returns.{ReturnsWell}
use Rattle.sbx_sound.proofs.Safe.{ShowsSpot, Spot, Steps}
use Rattle.sbx_sound.proofs.Steps.{Does}
use Rattle.sbx_sound.proofs.Straight.{inside, own_inside, same_bytes, word_is}
use Rattle.sbx_sound.proofs.Transfers.{ComesStraight, return_visit}
use Rattle.sbx_sound.proofs.Visits.{is_return_visit}
use Rattle.sbx_sound.proofs.Written.{fits_shown}
use Rattle.sbx_sound.proofs.Tests.{and_denied, equal_numbers}

-- ---- tests

or_parts : (a b : Bool) → (a || b) ≡ false → (a ≡ false) × (b ≡ false)
or_parts false false h = (refl, refl)
or_parts true b h = absurd (cc)
or_parts false true h = absurd (cc)

and_parts : (a b : Bool) → (a && b) ≡ true → (a ≡ true) × (b ≡ true)
and_parts true true h = (refl, refl)
and_parts false b h = absurd (cc)
and_parts true false h = absurd (cc)

-- ---- operations

-- what is no transfer and no trap goes straight on, is no CALL, and doesn't end the run
pub record IsPlainWord (op : Operation) : Type 0 where
  pub no_transfer : is_transfer op ≡ false
  pub straight : goes_straight op ≡ true
  pub no_call : is_call op ≡ false
  pub no_return : is_return op ≡ false
  pub runs_on : ends_run op ≡ false

plain_word : (op : Operation) → is_transfer op ≡ false → is_trap op ≡ false → IsPlainWord op
plain_word (Call d) h g = absurd (cc)
plain_word (JumpAndLink t) h g = absurd (cc)
plain_word (BranchOnCondition b) h g = absurd (cc)
plain_word (TrapOnCondition t) h g = absurd (cc)
plain_word _ h g = record { no_transfer = refl; straight = refl; no_call = refl; no_return = refl; runs_on = refl }

-- the slot of a transfer, by the rule of shape
pub slot_keeps_on : (parts : Parts) (checked : Checked parts) (f b j : ℕ) → IsPlace parts f b (suc j) → is_transfer (op_at parts f b j) ≡ true →
    (is_transfer (op_at parts f b (suc j)) ≡ false) × (is_trap (op_at parts f b (suc j)) ≡ false)
slot_keeps_on parts checked f b j place transfers =
    let op = op_at parts f b (suc j) in
    or_parts (is_transfer op) (is_trap op) (and_denied (is_transfer (op_at parts f b j)) (is_transfer op || is_trap op) (has_shape parts checked f b (suc j) place).slot transfers)

pub slot_is_plain : (parts : Parts) (checked : Checked parts) (f b j : ℕ) → IsPlace parts f b (suc j) → is_transfer (op_at parts f b j) ≡ true → IsPlainWord (op_at parts f b (suc j))
slot_is_plain parts checked f b j place transfers =
    let e = slot_keeps_on parts checked f b j place transfers in
    plain_word (op_at parts f b (suc j)) e.0 e.1

pub slot_is_no_save : (parts : Parts) (checked : Checked parts) (f b j : ℕ) → IsPlace parts f b (suc j) → is_save (op_at parts f b (suc j)) ≡ false
slot_is_no_save parts checked f b j place =
    no_save (is_save (op_at parts f b (suc j))) (is_entry b (suc j)) (is_framed (function_at parts f).kind) (later b j) (has_shape parts checked f b (suc j) place).save
  where
    later : (b j : ℕ) → is_entry b (suc j) ≡ false
    later b j = grind (arith, nat_tests)

    no_save : (s e k : Bool) → e ≡ false → (s && not (e && k)) ≡ false → s ≡ false
    no_save false e k h g = refl
    no_save true false k h g = absurd (cc)
    no_save true true k h g = absurd (cc)

immediate_is : (n : ℕ) (o : Operand) → is_immediate_of n o ≡ true → o ≡ Immediate n
immediate_is n (Immediate m) h = ap Immediate (equal_numbers m n h)
immediate_is n (Register r) h = absurd (cc)

abbrev jump_by : ℕ → Three
jump_by rs1 = record { rd = 0; rs1 = rs1; operand2 = Immediate 8 }

same_three : (rd rs1 n : ℕ) (o : Operand) → rd ≡ 0 → rs1 ≡ n → o ≡ Immediate 8 → JumpAndLink (record { rd = rd; rs1 = rs1; operand2 = o }) ≡ JumpAndLink (jump_by n)
same_three rd rs1 n o a b c =
    ap (λ (x : ℕ). JumpAndLink (record { rd = x; rs1 = rs1; operand2 = o })) a ∙ ap (λ (x : ℕ). JumpAndLink (record { rd = 0; rs1 = x; operand2 = o })) b
    ∙ ap (λ (x : Operand). JumpAndLink (record { rd = 0; rs1 = n; operand2 = x })) c

jump_is : (n : ℕ) (t : Three) → (t.rd == 0 && t.rs1 == n && is_immediate_of 8 t.operand2) ≡ true → JumpAndLink t ≡ JumpAndLink (jump_by n)
jump_is n t h =
    let outer = and_parts (t.rd == 0 && t.rs1 == n) (is_immediate_of 8 t.operand2) h in
    let both = and_parts (t.rd == 0) (t.rs1 == n) outer.0 in
    same_three t.rd t.rs1 n t.operand2 (equal_numbers t.rd 0 both.0) (equal_numbers t.rs1 n both.1) (immediate_is 8 t.operand2 outer.1)

jump_admitted : (t : Three) → is_admitted (JumpAndLink t) ≡ true → is_ret t ≡ false → is_retl t ≡ true
unfolding is_admitted
jump_admitted t h long = other (is_ret t) (is_retl t) h long
  where
    other : (a b : Bool) → (a || b) ≡ true → a ≡ false → b ≡ true
    other false b h e = h
    other true b h e = absurd (cc)

-- which return a function has
ret_of : (kind : Kind) (t : Three) → is_framed kind ≡ true → suits kind (JumpAndLink t) ≡ true → is_ret t ≡ true
ret_of Framed t k h = h
ret_of Leaf t k h = absurd (cc)

retl_of : (kind : Kind) (t : Three) → is_framed kind ≡ false → suits kind (JumpAndLink t) ≡ true → is_ret t ≡ false
retl_of Leaf t k h = undone (is_ret t) h
  where
    undone : (a : Bool) → not a ≡ true → a ≡ false
    undone false h = refl
    undone true h = absurd (cc)
retl_of Framed t k h = absurd (cc)

restore_is : (op : Operation) → is_restore op ≡ true → (t : Three) × (op ≡ Restore t)
restore_is (Restore t) h = (t, refl)
restore_is _ h = absurd (cc)

calls_of : (parts : Parts) (pc : ℕ) (op : Operation) (g : ℕ) → callee_of parts pc op ≡ Some g → is_call op ≡ true
calls_of parts pc (Call d) g e = refl
calls_of parts pc _ g e = absurd (cc)

call_transfers : (op : Operation) → is_call op ≡ true → (is_transfer op ≡ true) × (goes_straight op ≡ true)
call_transfers (Call d) h = (refl, refl)
call_transfers _ h = absurd (cc)

-- ---- windows

lent_window : (function : Function) (b i : ℕ) → is_framed function.kind ≡ false → window_of function b i ≡ Lent
lent_window function b i h = by_kind (is_framed function.kind) (not ((b == 0) && (i == 0))) h
  where
    by_kind : (t e : Bool) → t ≡ false → (if t && e then Own function.frame else Lent) ≡ Lent
    by_kind false e h = refl
    by_kind true e h = absurd (cc)

falls_inside : (end : Bool) (words blocks b i : ℕ) → end ≡ false → suc i < words → falls_to end words blocks b i ≡ Next
falls_inside end words blocks b i runs_on less =
    let e : nat_lt (i + 1) words ≡ true = grind (arith, nat_tests) in
    ap (λ (t : Bool). falls_to t words blocks b i) runs_on ∙ ap (λ (t : Bool). if t then Next else (if nat_lt (b + 1) blocks then To (b + 1) else Past)) e

back_address : (a back : ℕ) → back ≡ a → a % 4 ≡ 0 → a < 2 ^ 32 - 8 → (back + 8) % 2 ^ 32 % 4 ≡ 0
back_address a back e four low = omega (arith, e, four, low)

-- ---- RESTORE's register

restore_low : (r : ℕ) → ((r == 0) || (nat_le 8 r && nat_le r 13)) ≡ true → r < 16
restore_low r h = grind (arith, nat_tests)

restore_free : (window : Window) (r : ℕ) → (window ≡ Lent → ⊥) → ((r == 0) || (nat_le 8 r && nat_le r 13)) ≡ true → IsFree window r
restore_free window r own h = record {
  register = (let low = restore_low r h in omega (arith, low));
  sp = λ e. (let x : r ≡ 14 = sym e in grind (arith, nat_tests));
  fp = λ e. (let x : r ≡ 30 = sym e in grind (arith, nat_tests));
  i7 = λ e. (let x : r ≡ 31 = sym e in grind (arith, nat_tests));
  lent = λ e. absurd (own e);
}

-- what is given back is what RESTORE leaves, before it writes
back_restored : (c : Open) (words : Words) → ((l : ℕ) → words l < 2 ^ 32) → ((l : ℕ) → c.words l < 2 ^ 32) → words 0 ≡ 0 → AreRestored words (given_back c words)
back_restored c words are own none = record {
  are_words = λ l. by_thirds (nat_lt l 8) (nat_lt l 16) (words l) (words (l + 16)) (c.words l) (are l) (are (l + 16)) (own l);
  zero = none;
  globals = λ l h. first (nat_lt l 8) (words l) (if nat_lt l 16 then words (l + 16) else c.words l) h;
  outs = λ l h. later (nat_lt l 8) (words l) (if nat_lt l 16 then words (l + 16) else c.words l) (out_high l h) ∙ first (nat_lt l 16) (words (l + 16)) (c.words l) (out_low l h);
}
  where
    by_thirds : (s t : Bool) (x y z : ℕ) → x < 2 ^ 32 → y < 2 ^ 32 → z < 2 ^ 32 → (if s then x else (if t then y else z)) < 2 ^ 32
    by_thirds true t x y z a b c = a
    by_thirds false true x y z a b c = b
    by_thirds false false x y z a b c = c

    first : (t : Bool) (x y : ℕ) → t ≡ true → (if t then x else y) ≡ x
    first true x y e = refl
    first false x y e = absurd (cc)

    later : (t : Bool) (x y : ℕ) → t ≡ false → (if t then x else y) ≡ y
    later false x y e = refl
    later true x y e = absurd (cc)

    out_high : (l : ℕ) → is_out l ≡ true → nat_lt l 8 ≡ false
    out_high l h = grind (arith, nat_tests)

    out_low : (l : ℕ) → is_out l ≡ true → nat_lt l 16 ≡ true
    out_low l h = grind (arith, nat_tests)

-- What a word that neither transfers control nor changes frames owes.
abbrev pub PlainWordsDo : Parts → Type 0
PlainWordsDo parts =
    (w : ℕ) (p : Spot parts w) → p.v.annulled ≡ false → IsPlainWord (op_at parts p.f p.b p.i) → is_save (op_at parts p.f p.b p.i) ≡ false →
    is_restore (op_at parts p.f p.b p.i) ≡ false → Does parts w p

module _ (parts : Parts) (checked : Checked parts) (ordered : IsOrdered parts) (pages : parts.stack_pages ≤ 16) (few : (g : ℕ) → length (function_at parts g).results ≤ 6) where
  -- ---- who called

  pub record HasCaller (f : ℕ) (calls : List Open) : Type 0 where
    pub caller : Open
    pub others : List Open
    pub is : calls ≡ caller ∷ others
    pub open_call : IsOpen parts f caller others

  -- the entry function doesn't return
  pub has_caller : (f b i : ℕ) (calls : List Open) → IsPlace parts f b i → is_return (op_at parts f b i) ≡ true → AreOpen parts f calls → HasCaller f calls
  has_caller f b i [] place returns open_calls = absurd (let x : is_return (op_at parts f b i) ≡ false = no_return parts checked f b i place (first f open_calls) in cc)
    where
      first : (n : ℕ) → n ≡ 0 → (n == 0) ≡ true
      first n e = grind (arith, nat_tests)
  has_caller f b i (c ∷ cs) place returns open_calls = record { caller = c; others = cs; is = refl; open_call = open_calls.0 }

  called_before : (f : ℕ) (c : Open) (cs : List Open) → IsOpen parts f c cs → is_call (op_at parts c.function c.block c.place) ≡ true
  unfolding callee_at
  called_before f c cs open_call = calls_of parts (address_of parts c.function c.block c.place) (op_at parts c.function c.block c.place) f open_call.calls

  -- where it goes on
  pub caller_goes_on : (f : ℕ) (c : Open) (cs : List Open) → IsOpen parts f c cs → GoesOn parts c.function c.block (suc c.place) (known_after parts c) (falls parts c.function c.block (suc c.place))
  caller_goes_on f c cs open_call =
      let calls = call_transfers (op_at parts c.function c.block c.place) (called_before f c cs open_call) in
      let plain = slot_is_plain parts checked c.function c.block c.place open_call.slot calls.0 in
      goes_on parts checked ordered c.function c.block (suc c.place) open_call.slot calls.1 plain.straight plain.no_call plain.runs_on

  back_at_four : (f : ℕ) (c : Open) (cs : List Open) → IsOpen parts f c cs → (c.back + 8) % 2 ^ 32 % 4 ≡ 0
  back_at_four f c cs open_call =
      let slot = open_call.slot in
      let place : IsPlace parts c.function c.block c.place = record { function = slot.function; block = slot.block; word = (let s = slot.word in omega (arith, s)) } in
      back_address (address_of parts c.function c.block c.place) c.back open_call.back (lies_at_four parts ordered c.function c.block c.place place)
      (lies_low parts ordered c.function c.block c.place place)

  -- ---- `ret` and `retl`

  pub return_steps : (w : ℕ) (k : Shared) (f b i : ℕ) (start : Cells) (at : At parts w k f b i (straight_visit parts f b i) start) (t : Three)
      → is_call (op_before parts f b i) ≡ false → is_return (op_before parts f b i) ≡ false → op_at parts f b i ≡ JumpAndLink t
      → let p : Spot parts w = record { k = k; f = f; b = b; i = i; v = straight_visit parts f b i; start = start; at = at } in
      Steps parts w p
  unfolding falls
  return_steps w k f b i start at t no_link no_return_before is = by_kind (is_framed function.kind) refl
    where
      function : Function
      function = function_at parts f

      place : IsPlace parts f b i
      place = at.place

      caller : HasCaller f k.calls
      caller = has_caller f b i k.calls at.place (ap is_return is) at.calls

      suited : suits (function_at parts f).kind (JumpAndLink t) ≡ true
      suited = subst (λ o. suits (function_at parts f).kind o ≡ true) is (suits_kind parts checked f b i at.place)

      may : is_admitted (JumpAndLink t) ≡ true
      may = subst (λ o. is_admitted o ≡ true) is (admitted parts checked f b i at.place)

      within : (is_framed (function_at parts f).kind && is_entry b i) ≡ false
      within = inside parts checked ordered pages f b i at.place (ap is_save is)

      comes : ComesStraight parts f b i
      comes = record {
        no_call = no_link;
        no_return = no_return_before;
        next = falls_inside (ends_run (op_at parts f b i)) (words_in parts f b) (length (function_at parts f).blocks) b i (ap ends_run is)
            (slot_follows parts checked f b i at.place (ap is_transfer is));
        same = same_bytes (function_at parts f) b i within;
        small = lies_low parts ordered f b i at.place;
      }

      by_kind : (t : Bool) → is_framed (function_at parts f).kind ≡ t → Steps parts w (record { k = k; f = f; b = b; i = i; v = straight_visit parts f b i; start = start; at = at })
      by_kind true framed =
          ret_word parts w k f b i caller.caller caller.others start at (word_is parts checked ordered pages f b i at.place)
          (is ∙ jump_is 31 t (ret_of (function_at parts f).kind t framed suited)) caller.is comes
          (own_inside (function_at parts f) b i within framed) framed (back_at_four f caller.caller caller.others caller.open_call)
      by_kind false leaf =
          retl_word parts w k f b i caller.caller caller.others start at (word_is parts checked ordered pages f b i at.place)
          (is ∙ jump_is 15 t (jump_admitted t may (retl_of (function_at parts f).kind t leaf suited))) caller.is comes
          (lent_window (function_at parts f) b i leaf) (lent_window (function_at parts f) b (suc i) leaf) (back_at_four f caller.caller caller.others caller.open_call)

  -- ---- the slot

  pub returns_well : (f b j : ℕ) (t : Three) → IsPlace parts f b (suc j) → op_at parts f b j ≡ JumpAndLink t →
      ReturnsWell parts f b j (transferred (function_at parts f).frame (op_at parts f b (suc j)) (state_at parts f b (suc j)))
  returns_well f b j t place is =
      let v = return_visit parts f b (suc j) in
      let visit = is_return_visit parts f b j t is in
      let same = after_no_call parts f b (suc j) (state_at parts f b (suc j)) (ap is_call is) in
      record {
        returns = ap is_return is;
        no_call = ap is_call is;
        enough = return_is_paid parts checked f b (suc j) place.function place.block place.word v visit refl;
        results = subst (λ d. has_outs 8 (function_at parts f).results d ≡ true) same (has_results parts checked f b (suc j) place v visit refl);
        few = few f;
      }

  caller_follows : (f : ℕ) (c : Open) (cs : List Open) → IsOpen parts f c cs →
      Follows parts c.function c.block (suc c.place) (falls parts c.function c.block (suc c.place))
      (following (address_of parts c.function c.block (suc c.place)))
  caller_follows f c cs open_call = follows parts ordered c.function c.block (suc c.place) open_call.slot

  -- ---- RESTORE in the slot

  is_test : (l : ℕ) (a linked : Bool) → l ≢ 0 → a ≡ true → (not (l == 0) && (a || ((l == 15) && linked))) ≡ true
  is_test l a linked some h = grind (arith, nat_tests)

  module _ (w : ℕ) (p : Spot parts w) (t : Three) (low : LowThree t.rd t.rs1 t.operand2)
      (known : reads_undefined (function_at parts p.f) (Restore t) p.v.known ≡ false)
      (kept : touches_reserved (function_at parts p.f) (Restore t) ≡ false) where
    sum_shown : (s : State) → ShowsSpot parts w p s → address (reg s) t.rs1 t.operand2 ≡ address p.k.words t.rs1 t.operand2
    unfolding reads_of
    sum_shown s h =
        let reads : (n r : ℕ) → slice_get (t.rs1 ∷ second_reads t.operand2) n ≡ Some r → r ≢ 0 → is_defined p.v.known r ≡ true = read_known (function_at parts p.f) (Restore t) p.v.known known kept in
        let linked = is_call (op_before parts p.f p.b p.i) in
        let first : reg s t.rs1 ≡ p.k.words t.rs1 =
        read_shown (window_of (function_at parts p.f) p.b p.i) (tests parts p.v.known linked) p.k s t.rs1 low.rs1_low p.at.fits.near.zero
        (λ some. is_test t.rs1 (is_defined p.v.known t.rs1) linked some (reads 0 t.rs1 refl some)) h in
        let other : second (reg s) t.operand2 ≡ second p.k.words t.operand2 = second_shown parts w p t.operand2 low.operand_low (λ r e some. reads 1 r (second_read t.rs1 t.operand2 r e) some) s h in
        ap (λ x. sum_address x (second (reg s) t.operand2)) first ∙ ap (λ x. sum_address (p.k.words t.rs1) x) other

    may_restore : may_write (function_at parts p.f) (Restore t) t.rd ≡ true
    unfolding writes_of
    may_restore = write_allowed (function_at parts p.f) (Restore t) p.v.known known kept 0 t.rd refl

  own_not_lent : (n : ℕ) → Own n ≡ Lent → ⊥
  own_not_lent n e = cc

  restore_steps : (w : ℕ) (k : Shared) (f b j : ℕ) (start : Cells) (at : At parts w k f b (suc j) (return_visit parts f b (suc j)) start) (t o : Three) (caller : HasCaller f k.calls)
      → op_at parts f b j ≡ JumpAndLink t → op_at parts f b (suc j) ≡ Restore o → is_framed (function_at parts f).kind ≡ true
      → let p : Spot parts w = record { k = k; f = f; b = b; i = suc j; v = return_visit parts f b (suc j); start = start; at = at } in
      Steps parts w p
  restore_steps w k f b j start at t o caller jumps is framed =
      let p : Spot parts w = record { k = k; f = f; b = b; i = suc j; v = return_visit parts f b (suc j); start = start; at = at } in
      let c = caller.caller in let cs = caller.others in
      let function = function_at parts f in
      let d = state_at parts f b (suc j) in
      let visit = is_return_visit parts f b j t jumps in
      let low : LowThree o.rd o.rs1 o.operand2 = subst LowFields is (low_fields (word_of_place parts f b (suc j))) in
      let known = subst (λ x. reads_undefined function x d ≡ false) is (reads_known parts checked f b (suc j) at.place (return_visit parts f b (suc j)) visit refl) in
      let kept = subst (λ x. touches_reserved function x ≡ false) is (keeps_reserved parts checked f b (suc j) at.place (return_visit parts f b (suc j)) visit refl) in
      let may = may_restore w p o low known kept in
      let near = at.fits.near in
      let back = given_back c k.words in
      let v = address k.words o.rs1 o.operand2 in
      let held : Held = record { words = k.words; icc = k.icc; y = k.y } in
      let fits = (frames_keep_fitting.restore function.frame o d held back (operand_of o.operand2 low.operand_low)
      (back_restored c k.words near.are_words caller.open_call.are_words near.zero)).fits start at.fits in
      let rd_low = restore_low o.rd may in
      let shown = fits_shown start (transferred function.frame (Restore o) d) o.rd v back k.icc k.y (omega (arith, rd_low)) fits in
      let rules = subst (λ x. ReturnsWell parts f b j (transferred function.frame x d)) is (returns_well f b j t at.place jumps) in
      restore_slot parts w k f b j o c cs start v at (word_is parts checked ordered pages f b (suc j) at.place) is caller.is framed (restore_free (Own c.frame) o.rd (own_not_lent c.frame) may) rd_low
      (sum_shown w p o low known kept) shown rules (caller_goes_on f c cs caller.open_call) (caller_follows f c cs caller.open_call)

  -- ---- both slots

  pub return_slots : PlainWordsDo parts →
      (w : ℕ) (k : Shared) (f b j : ℕ) (t : Three) (start : Cells) (at : At parts w k f b (suc j) (return_visit parts f b (suc j)) start) →
      op_at parts f b j ≡ JumpAndLink t
      → let p : Spot parts w = record { k = k; f = f; b = b; i = suc j; v = return_visit parts f b (suc j); start = start; at = at } in
      Steps parts w p
  return_slots does w k f b j t start at jumps = by_kind (is_framed (function_at parts f).kind) refl
    where
      p : Spot parts w
      p = record { k = k; f = f; b = b; i = suc j; v = return_visit parts f b (suc j); start = start; at = at }

      before : IsPlace parts f b j
      before = record { function = at.place.function; block = at.place.block; word = (let h = at.place.word in omega (arith, h)) }

      caller : HasCaller f k.calls
      caller = has_caller f b j k.calls before (ap is_return jumps) at.calls

      suited : suits (function_at parts f).kind (JumpAndLink t) ≡ true
      suited = subst (λ o. suits (function_at parts f).kind o ≡ true) jumps (suits_kind parts checked f b j before)

      in_slot : same_test (is_ret t) (is_restore (op_at parts f b (suc j))) ≡ true
      in_slot = subst (λ o. same_test (is_framed_return o) (is_restore (op_at parts f b (suc j))) ≡ true) jumps (restores_in_slot parts checked f b (suc j) at.place)

      is_so : (a b : Bool) → a ≡ true → same_test a b ≡ true → b ≡ true
      is_so true b e h = h
      is_so false b e h = absurd (cc)

      is_not_so : (a b : Bool) → a ≡ false → same_test a b ≡ true → b ≡ false
      is_not_so false false e h = refl
      is_not_so false true e h = absurd (cc)
      is_not_so true b e h = absurd (cc)

      by_kind : (x : Bool) → is_framed (function_at parts f).kind ≡ x → Steps parts w (record { k = k; f = f; b = b; i = suc j; v = return_visit parts f b (suc j); start = start; at = at })
      by_kind true framed =
          (let r = restore_is (op_at parts f b (suc j)) (is_so (is_ret t) (is_restore (op_at parts f b (suc j))) (ret_of (function_at parts f).kind t framed suited) in_slot) in
          restore_steps w k f b j start at t r.0 caller jumps r.1 framed)
      by_kind false leaf =
          (let no_restore = is_not_so (is_ret t) (is_restore (op_at parts f b (suc j))) (retl_of (function_at parts f).kind t leaf suited) in_slot in
          let c = caller.caller in let cs = caller.others in
          leaf_slot parts w k f b j c cs start at
          (does w p refl (slot_is_plain parts checked f b j at.place (ap is_transfer jumps)) (slot_is_no_save parts checked f b j at.place) no_restore)
          (word_is parts checked ordered pages f b (suc j) at.place) caller.is (lent_window (function_at parts f) b (suc j) leaf) (returns_well f b j t at.place jumps)
          (caller_goes_on f c cs caller.open_call) (caller_follows f c cs caller.open_call))
