-- Branches, calls and returns: from the word to its slot.
use Rattle.sbx_rules.specs.Entry.{Entry}
use Rattle.std.proofs.Common.{◌≡◌, ℕ, suc, ◌+◌, ◌-◌, ◌%◌, ◌^◌, ◌<◌, ◌≤◌, Bool, true, false, List, [], ◌∷◌, Option, Some, None, refl, sym, ap, ◌∙◌, subst, arith}
use Rattle.std.specs.Prelude.{pos, ◌+ℤ◌, ◌-ℤ◌, ◌≤ℤ◌, ◌==◌, if◌then◌else◌, slice_get}
use Rattle.std.proofs.lemmas.Bool.Decides.{nat_tests}
use Rattle.v8_word.specs.declared.Icc.{Icc}
use Rattle.v8_formats.specs.declared.instr.Three.{Three}
use Rattle.v8_meaning.specs.declared.operation.Operation.TheVariants.{Call, JumpAndLink}
use Rattle.v8_meaning.specs.Operands.{target}
use Rattle.sbx_image.specs.Parts.{Parts}
use Rattle.sbx_image.specs.Function.{Function}
use Rattle.sbx_flat.specs.Registers.{Words}
use Rattle.sbx_flat.specs.Runs.{budget, weight_of}
use Rattle.sbx_rules.specs.Operations.{is_call, is_return}
use Rattle.sbx_rules.specs.Fits.{Fits, HasAlignment, HasForm, HasInterval}
use Rattle.sbx_rules.specs.Known.{Known, with_entry, range_of_entry, form_of_entry}
use Rattle.sbx_rules.specs.Forms.{form_value}
use Rattle.sbx_rules.specs.Ways.{Back, Next, Visit, Way, falls, fuel_at, state_at, visits_after, visits_at, weight_to}
use Rattle.sbx_image.specs.Order.{address_of, function_at, or_function}
use Rattle.sbx_rules.specs.Places.{callee_at, callee_before, callee_of, find_entry, op_at, op_before}
use Rattle.sbx_sound.specs.Positive.{left_at}
use Rattle.sbx_sound.proofs.Running.{At, Follows, GoesTo, back_of, bytes_of, entry_of, left_to_all, straight_visit}
use Rattle.sbx_form.specs.Forms.{Cells}
use Rattle.sbx_sound.proofs.Shared.{Open, Shared, with_location}
use Rattle.sbx_rules.specs.Transfer.{transferred}
use Rattle.sbx_sound.proofs.Arrivals.{after_no_call, follows_plainly, goes_straight, is_straight_visit, next_there, weight_next}
use Rattle.sbx_sound.proofs.Effects.{linked, moved_to}
use Rattle.sbx_sound.proofs.Ledger.{one_word}

-- ---- found by address

pub record Found (n address m : ℕ) (fs : List Function) : Type 0 where
  pub from : n ≤ m
  pub is : (or_function (slice_get fs (m - n))).entry ≡ address

found_here : (n m : ℕ) → Some n ≡ Some m → n ≡ m
found_here n m e = cc

find_is : (n address : ℕ) (fs : List Function) (m : ℕ) → find_entry n address fs ≡ Some m → Found n address m fs
find_is n address [] m e = absurd (cc)
find_is n address (f ∷ fs) m e = by_test (find_is (suc n) address fs m) (f.entry == address) refl e
  where
    by_test : (find_entry (suc n) address fs ≡ Some m → Found (suc n) address m fs) → (t : Bool) → (f.entry == address) ≡ t →
        (if t then Some n else find_entry (suc n) address fs) ≡ Some m → Found n address m (f ∷ fs)
    by_test later true p q =
        let same = found_here n m q in
        let none : m - n ≡ 0 = omega arith in
        record { from = omega arith; is = ap (λ k. (or_function (slice_get (f ∷ fs) k)).entry) none ∙ (let x : f.entry ≡ address = grind (arith, nat_tests) in x) }
    by_test later false p q =
        let rest = later q in
        let from = rest.from in
        let one : m - n ≡ suc (m - suc n) = omega arith in
        record { from = omega arith; is = ap (λ k. (or_function (slice_get (f ∷ fs) k)).entry) one ∙ rest.is }

-- ---- CALL

both_if : (t : Bool) (A : Type 0) (P : A → ℕ → Type 0) (n x : A) (w v : ℕ) → P n w → P x v → P (if t then n else x) (if t then w else v)
both_if true A P n x w v p q = p
both_if false A P n x w v p q = q

pub word_if : (t : Bool) (w v n : ℕ) → w < n → v < n → (if t then w else v) < n
word_if true w v n p q = p
word_if false w v n p q = q

-- what is known after a CALL: all but %o7, and no relation
abbrev pub linked_known : Known → Known
linked_known d = record (with_entry 15 None d) { relation = None }

-- a word in %o7, of which nothing is known
pub fits_linked : (start : Cells) (d : Known) (words : Words) (w : ℕ) (icc : Icc) (y : ℕ) → w < 2 ^ 32 → Fits start d words icc y → Fits start (linked_known d) (with_location 15 w words) icc y
unfolding with_entry
fits_linked start d words w icc y small fits =
    let near = fits.near in
    record {
      near = record {
        are_words = λ l. word_if (l == 15) w (words l) (2 ^ 32) small (near.are_words l);
        zero = near.zero;
        intervals = λ l. both_if (l == 15) (Option Entry) (λ e. HasInterval (range_of_entry e)) None (d.entry l) w (words l) tt (near.intervals l);
        forms = λ l. both_if (l == 15) (Option Entry) (λ e. HasForm start (form_of_entry e)) None (d.entry l) w (words l) tt (near.forms l);
        y_word = near.y_word;
        y_interval = near.y_interval;
        relates = tt;
      };
      multiples = λ l. both_if (l == 15) (Option Entry) (λ e. HasAlignment (range_of_entry e)) None (d.entry l) w (words l) tt (fits.multiples l);
      y_multiple = fits.y_multiple;
    }

module _ (parts : Parts) where
  -- the slot of a transfer is the next word
  pub next_place : (f b i : ℕ) → address_of parts f b (suc i) ≡ address_of parts f b i + 4
  unfolding address_of
  next_place f b i = omega arith

  target_is : (f b i displacement g : ℕ) → op_at parts f b i ≡ Call displacement → callee_at parts f b i ≡ Some g →
      target (address_of parts f b i) displacement ≡ entry_of parts (callee_before parts f b (suc i))
  unfolding callee_at
  target_is f b i displacement g op is =
      let found = find_is 0 (target (address_of parts f b i) displacement) parts.functions g (sym (ap (callee_of parts (address_of parts f b i)) op) ∙ is) in
      sym (ap (entry_of parts) is ∙ ap (λ m. (or_function (slice_get parts.functions m)).entry) (let e : g ≡ g - 0 = omega arith in e) ∙ found.is)

  goes_in : (c r : Bool) (f b i : ℕ) (way : Way) (calls : List Open) (address : ℕ) → c ≡ true → address ≡ entry_of parts (callee_before parts f b i) → GoesTo parts c r f b i way calls address
  goes_in true r f b i way calls address p h = h
  goes_in false r f b i way calls address p h = absurd (cc)

  goes_back : (c r : Bool) (f b i : ℕ) (way : Way) (calls : List Open) (address : ℕ) → c ≡ false → r ≡ true → address ≡ back_of parts calls → GoesTo parts c r f b i way calls address
  goes_back false true f b i way calls address p q h = h
  goes_back true r f b i way calls address p q h = absurd (cc)
  goes_back false false f b i way calls address p q h = absurd (cc)

  -- What the rules and the image's order say of a word that comes straight, and whose next word is in the block.
  pub record ComesStraight (f b i : ℕ) : Type 0 where
    pub no_call : is_call (op_before parts f b i) ≡ false
    pub no_return : is_return (op_before parts f b i) ≡ false
    pub next : falls parts f b i ≡ Next
    pub same : bytes_of (function_at parts f) b i ≡ bytes_of (function_at parts f) b (suc i)
    pub small : address_of parts f b i < 2 ^ 32 - 8

  pub slot_at : (f b i w : ℕ) (k : Shared) (start : Cells) → ComesStraight f b i → At parts w k f b i (straight_visit parts f b i) start → k.npc ≡ address_of parts f b (suc i)
  slot_at f b i w k start comes a = subst (λ way. Follows parts f b i way k.npc) comes.next (follows_plainly parts _ _ f b i (falls parts f b i) k.calls k.npc comes.no_call comes.no_return a.npc)

  pub light_ledger : (f b i w : ℕ) (k : Shared) (v : Visit) (start : Cells) → is_call (op_before parts f b i) ≡ false → weight_of (op_at parts f b i) ≡ 1 →
      At parts w k f b i v start → (pos (w + 1) +ℤ (left_at parts f b (suc i) start +ℤ left_to_all parts k.calls)) ≤ℤ pos (budget parts)
  light_ledger f b i w k v start no_call light a =
      subst (λ t. (pos (w + 1) +ℤ ((form_value start (fuel_at parts f b) -ℤ pos t) +ℤ left_to_all parts k.calls)) ≤ℤ pos (budget parts))
      (sym (weight_next parts f b i no_call ∙ ap (λ x. weight_to parts f b i + x) light))
      (one_word w 1 (weight_to parts f b i) (budget parts) (form_value start (fuel_at parts f b)) (left_to_all parts k.calls) a.ledger)

  -- CALL
  pub call_at : (w : ℕ) (k : Shared) (f b i displacement g : ℕ) (start : Cells) → op_at parts f b i ≡ Call displacement → callee_at parts f b i ≡ Some g → ComesStraight f b i
      → At parts w k f b i (straight_visit parts f b i) start → At parts (w + 1) (moved_to (target k.pc displacement) (linked k)) f b (suc i) (straight_visit parts f b (suc i)) start
  unfolding state_at transferred
  call_at w k f b i displacement g start op callee comes a =
      let npc = slot_at f b i w k start comes a in
      let next = next_place f b i in
      let pc = a.pc in
      let small = comes.small in
      record {
        place = next_there parts f b i comes.next a.place;
        is_visit = is_straight_visit parts f b (suc i) (ap goes_straight op);
        pc = npc;
        npc = goes_in (is_call (op_at parts f b i)) (is_return (op_at parts f b i)) f b (suc i) (falls parts f b (suc i)) k.calls (target k.pc displacement)
            (ap is_call op) (ap (λ x. target x displacement) a.pc ∙ target_is f b i displacement g op callee);
        annulled = a.annulled;
        exit = a.exit;
        begun = a.begun;
        fits = subst (λ d. Fits start d (with_location 15 k.pc k.words) k.icc k.y)
            (sym (after_no_call parts f b i (state_at parts f b i) comes.no_call ∙ ap (λ o. transferred (function_at parts f).frame o (state_at parts f b i)) op))
            (fits_linked start (state_at parts f b i) k.words k.pc k.icc k.y (omega (arith, pc, small)) a.fits);
        link = λ h. omega (arith, pc, next, npc);
        calls = a.calls;
        base = ap (λ x. k.base + x) (sym comes.same) ∙ a.base;
        eight = a.eight;
        room = a.room;
        stored = a.stored;
        ledger = light_ledger f b i w k (straight_visit parts f b i) start comes.no_call (ap weight_of op) a;
      }

  -- `ret` and `retl`
  abbrev pub return_visit : ℕ → ℕ → ℕ → Visit
  return_visit f b i = record { known = state_at parts f b i; way = Back; annulled = false }

  pub return_at : (w : ℕ) (k : Shared) (f b i : ℕ) (t : Three) (c : Open) (cs : List Open) (start : Cells) → op_at parts f b i ≡ JumpAndLink t → k.calls ≡ c ∷ cs → ComesStraight f b i
      → At parts w k f b i (straight_visit parts f b i) start → At parts (w + 1) (moved_to ((c.back + 8) % 2 ^ 32) k) f b (suc i) (return_visit f b (suc i)) start
  unfolding state_at transferred visits_at
  return_at w k f b i t c cs start op is comes a = record {
    place = next_there parts f b i comes.next a.place;
    is_visit = (0, ap (λ o. slice_get (visits_after parts f b i o (state_at parts f b i) (state_at parts f b (suc i))) 0) op);
    pc = slot_at f b i w k start comes a;
    npc = goes_back (is_call (op_at parts f b i)) (is_return (op_at parts f b i)) f b (suc i) Back k.calls ((c.back + 8) % 2 ^ 32) (ap is_call op) (ap is_return op) (sym (ap (back_of parts) is));
    annulled = a.annulled;
    exit = a.exit;
    begun = a.begun;
    fits = subst (λ d. Fits start d k.words k.icc k.y)
        (sym (after_no_call parts f b i (state_at parts f b i) comes.no_call ∙ ap (λ o. transferred (function_at parts f).frame o (state_at parts f b i)) op)) a.fits;
    link = λ h. absurd (let e = ap is_call op in cc);
    calls = a.calls;
    base = ap (λ x. k.base + x) (sym comes.same) ∙ a.base;
    eight = a.eight;
    room = a.room;
    stored = a.stored;
    ledger = light_ledger f b i w k (straight_visit parts f b i) start comes.no_call (ap weight_of op) a;
  }
