-- Where a run comes to after a word: the next word, another block, a callee, or back to a caller.
use Rattle.sbx_rules.specs.Entry.{Entry}
use Rattle.std.proofs.Common.{◌≡◌, ◌≢◌, ℕ, zero, suc, ◌+◌, ◌-◌, ◌%◌, ◌<◌, Bool, true, false, List, length, Option, Some, None, refl, sym, ap, ◌∙◌, subst, arith}
use Rattle.std.specs.Prelude.{pos, ◌+ℤ◌, ◌-ℤ◌, ◌≤ℤ◌, ◌&&◌, nat_lt, if◌then◌else◌, slice_get}
use Rattle.std.proofs.lemmas.Bool.Decides.{nat_tests}
use Rattle.v8_word.specs.declared.Icc.{Icc}
use Rattle.v8_meaning.specs.declared.operation.Operation.{Operation}
use Rattle.v8_meaning.specs.declared.operation.Operation.TheVariants.{Call, BranchOnCondition, JumpAndLink}
use Rattle.v8_meaning.specs.Operands.{following}
use Rattle.sbx_image.specs.Parts.{Parts}
use Rattle.sbx_flat.specs.Memory.{Bytes}
use Rattle.sbx_image.specs.Function.{Function}
use Rattle.sbx_flat.specs.Registers.{Words}
use Rattle.sbx_flat.specs.Runs.{budget, weight_of}
use Rattle.sbx_rules.specs.Fuel.{IsPaid}
use Rattle.sbx_rules.specs.Rules.{has_cells}
use Rattle.sbx_rules.specs.Operations.{is_call, is_framed, is_return}
use Rattle.sbx_rules.specs.Fits.{Fits, HasAlignment, HasForm, HasInterval}
use Rattle.sbx_rules.specs.Known.{Known, range_of_entry, form_of_entry}
use Rattle.sbx_rules.specs.Forms.{form_value}
use Rattle.sbx_rules.specs.Ways.{Next, Past, To, Visit, Way, after_call, after_word, budget_of_callee, cells_at, falls, falls_to, fuel_at, state_at}
use Rattle.sbx_rules.specs.Ways.{visits_after, visits_at, weight_of_place, weight_to}
use Rattle.sbx_image.specs.Order.{address_of, function_at, words_in}
use Rattle.sbx_rules.specs.Places.{IsPlace, callee_at, callee_before, callee_of, ends_run, op_at, op_before}
use Rattle.sbx_sound.proofs.Running.{After, At, Follows, GoesTo, IsThere, IsVisit, bytes_of, left_to_all, straight_visit}
use Rattle.sbx_form.specs.Forms.{Cells}
use Rattle.sbx_sound.proofs.Shared.{AreStored, Open, Shared}
use Rattle.sbx_rules.specs.Transfer.{is_in, saved, transferred}
use Rattle.sbx_sound.proofs.Frames.{moved_in}
use Rattle.sbx_sound.proofs.Ledger.{edge_pays, fits_begin, near_in_cells, numbers, one_edge, one_word}

-- neither a branch nor a return: control goes straight on after the word, after a call when it has come back
abbrev pub goes_straight : Operation → Bool
goes_straight (BranchOnCondition c) = false
goes_straight (JumpAndLink j) = false
goes_straight _ = true

-- the next word of a block is there, where control goes on to it
falls_within : (end : Bool) (words blocks b i : ℕ) → falls_to end words blocks b i ≡ Next → suc i < words
falls_within true words blocks b i e = absurd (cc)
falls_within false words blocks b i e = by_words (nat_lt (i + 1) words) refl e
  where
    by_blocks : (t : Bool) → (if t then To (b + 1) else Past) ≡ Next → suc i < words
    by_blocks true e = absurd (cc)
    by_blocks false e = absurd (cc)

    by_words : (t : Bool) → nat_lt (i + 1) words ≡ t → (if t then Next else (if nat_lt (b + 1) blocks then To (b + 1) else Past)) ≡ Next → suc i < words
    by_words true h e = grind (arith, nat_tests)
    by_words false h e = by_blocks (nat_lt (b + 1) blocks) e

pub next_there : (parts : Parts) (f b i : ℕ) → falls parts f b i ≡ Next → IsPlace parts f b i → IsPlace parts f b (suc i)
unfolding falls
next_there parts f b i e place =
    record {
      function = place.function;
      block = place.block;
      word =
          falls_within (ends_run (op_at parts f b i)) (words_in parts f b) (length (function_at parts f).blocks) b i e;
    }

-- The words of the newest frame, codes, Y, memory, input and output as a word leaves them.
pub record Left : Type 0 where
  pub words : Words
  pub icc : Icc
  pub y : ℕ
  pub memory : Bytes
  pub input : List ℕ
  pub output : List ℕ

abbrev pub left_by : Left → Shared → Shared
left_by l k = record k { pc = k.npc; npc = following k.npc; words = l.words; icc = l.icc; y = l.y; memory = l.memory; input = l.input; output = l.output }

not_return : (op : Operation) → goes_straight op ≡ true → is_return op ≡ false
not_return (JumpAndLink j) h = absurd (cc)
not_return _ h = refl

module _ (parts : Parts) where
  straight_after : (f b i : ℕ) (op : Operation) (here there : Known) → goes_straight op ≡ true →
      slice_get (visits_after parts f b i op here there) 0 ≡ Some (record { known = there; way = falls parts f b (suc i); annulled = false })
  straight_after f b i (BranchOnCondition c) here there h = absurd (cc)
  straight_after f b i (JumpAndLink j) here there h = absurd (cc)
  straight_after f b i _ here there h = refl

  pub is_straight_visit : (f b i : ℕ) → goes_straight (op_before parts f b i) ≡ true → IsVisit parts f b i (straight_visit parts f b i)
  unfolding visits_at
  is_straight_visit f b zero h = (0, refl)
  is_straight_visit f b (suc i) h = (0, straight_after f b i (op_at parts f b i) (state_at parts f b i) (state_at parts f b (suc i)) h)

  calls_none : (pc : ℕ) (op : Operation) → is_call op ≡ false → callee_of parts pc op ≡ None
  calls_none pc (Call d) h = absurd (cc)
  calls_none pc _ h = refl

  pub no_callee : (f b i : ℕ) → is_call (op_before parts f b i) ≡ false → callee_before parts f b i ≡ None
  unfolding callee_at
  no_callee f b zero h = refl
  no_callee f b (suc i) h = calls_none (address_of parts f b i) (op_at parts f b i) h

  -- what is known after a word that is no slot of a call
  pub after_no_call : (f b i : ℕ) (d : Known) → is_call (op_before parts f b i) ≡ false → after_word parts f b i d ≡ transferred (function_at parts f).frame (op_at parts f b i) d
  after_no_call f b i d h = ap (λ o. after_call parts o (transferred (function_at parts f).frame (op_at parts f b i) d)) (no_callee f b i h)

  -- by the tests of what stood before, where control goes
  pub goes_plainly : (c r : Bool) (f b i : ℕ) (way : Way) (calls : List Open) (address : ℕ) → c ≡ false → r ≡ false → Follows parts f b i way address → GoesTo parts c r f b i way calls address
  goes_plainly false false f b i way calls address p q h = h
  goes_plainly true r f b i way calls address p q h = absurd (cc)
  goes_plainly false true f b i way calls address p q h = absurd (cc)

  -- ---- to the next word of the block

  pub after_next : (w : ℕ) (k : Shared) (f b i : ℕ) (start : Cells)
      → goes_straight (op_at parts f b i) ≡ true → is_call (op_at parts f b i) ≡ false
      → IsThere parts f b (suc i)
      → After parts w k f b i (state_at parts f b (suc i)) Next start → At parts w k f b (suc i) (straight_visit parts f b (suc i)) start
  after_next w k f b i start straight no_call there a = record {
    place = there.place;
    is_visit = is_straight_visit f b (suc i) straight;
    pc = a.pc;
    npc = goes_plainly (is_call (op_at parts f b i)) (is_return (op_at parts f b i)) f b (suc i) (falls parts f b (suc i)) k.calls k.npc no_call (not_return (op_at parts f b i) straight)
        (subst (Follows parts f b (suc i) (falls parts f b (suc i))) (sym (a.npc ∙ ap following a.pc)) there.follows);
    annulled = a.annulled;
    exit = a.exit;
    begun = a.begun;
    fits = a.fits;
    link = λ h. absurd (cc);
    calls = a.calls;
    base = a.base;
    eight = a.eight;
    room = a.room;
    stored = a.stored;
    ledger = a.ledger;
  }

  -- ---- to a block

  same_bytes : (function : Function) (b i t : ℕ) → t ≢ 0 → bytes_of function b (suc i) ≡ bytes_of function t 0
  same_bytes function b i t some = grind (arith, nat_tests)

  pub after_edge : (w : ℕ) (k : Shared) (f b i t : ℕ) (d : Known) (start : Cells) → t ≢ 0
      → has_cells d (cells_at parts f t) ≡ true
      → IsPaid (state_at parts f b 0) (fuel_at parts f b) (weight_to parts f b (suc i)) d (fuel_at parts f t)
      → IsThere parts f t 0
      → After parts w k f b i d (To t) start → At parts w k f t 0 (straight_visit parts f t 0) (numbers k.words)
  unfolding state_at weight_to
  after_edge w k f b i t d start some cells paid there a =
      let near = a.fits.near in
      let fits = fits_begin start d (cells_at parts f t) k.words k.icc k.y cells a.fits in
      record {
        place = there.place;
        is_visit = is_straight_visit f t 0 refl;
        pc = a.pc;
        npc = subst (Follows parts f t 0 (falls parts f t 0)) (sym (a.npc ∙ ap following a.pc)) there.follows;
        annulled = a.annulled;
        exit = a.exit;
        begun = near_in_cells (numbers k.words) (state_at parts f t 0) k.words k.icc k.y fits.near;
        fits = fits;
        link = λ h. absurd (cc);
        calls = a.calls;
        base = ap (λ x. k.base + x) (sym (same_bytes (function_at parts f) b i t some)) ∙ a.base;
        eight = a.eight;
        room = a.room;
        stored = a.stored;
        ledger = one_edge w (weight_to parts f b (suc i)) (budget parts) (form_value start (fuel_at parts f b)) (form_value (numbers k.words) (fuel_at parts f t)) (left_to_all parts k.calls) a.ledger
            (edge_pays (state_at parts f b 0) d (fuel_at parts f b) (fuel_at parts f t) (weight_to parts f b (suc i)) start k.words k.icc k.y paid a.begun near);
      }

  -- ---- one word

  no_budget : (f b i : ℕ) → is_call (op_before parts f b i) ≡ false → weight_of_place parts f b i ≡ weight_of (op_at parts f b i) + 0
  no_budget f b i h = ap (λ o. weight_of (op_at parts f b i) + budget_of_callee parts o) (no_callee f b i h)

  pub weight_next : (f b i : ℕ) → is_call (op_before parts f b i) ≡ false → weight_to parts f b (suc i) ≡ weight_to parts f b i + weight_of (op_at parts f b i)
  unfolding weight_to
  weight_next f b i h = let e = no_budget f b i h in omega (arith, e)

  pub follows_plainly : (c r : Bool) (f b i : ℕ) (way : Way) (calls : List Open) (address : ℕ) → c ≡ false → r ≡ false → GoesTo parts c r f b i way calls address → Follows parts f b i way address
  follows_plainly false false f b i way calls address p q h = h
  follows_plainly true r f b i way calls address p q h = absurd (cc)
  follows_plainly false true f b i way calls address p q h = absurd (cc)

  -- a word that neither transfers control nor changes frames
  pub after_plain : (w : ℕ) (k : Shared) (f b i : ℕ) (v : Visit) (start : Cells) (l : Left)
      → is_call (op_before parts f b i) ≡ false → is_return (op_before parts f b i) ≡ false → v.annulled ≡ false
      → bytes_of (function_at parts f) b i ≡ bytes_of (function_at parts f) b (suc i)
      → Fits start (transferred (function_at parts f).frame (op_at parts f b i) v.known) l.words l.icc l.y → AreStored parts.regions l.memory l.input
      → At parts w k f b i v start → After parts (w + weight_of (op_at parts f b i)) (left_by l k) f b i (transferred (function_at parts f).frame (op_at parts f b i) v.known) v.way start
  after_plain w k f b i v start l no_call no_return runs same fits stored a = record {
    pc = follows_plainly _ _ f b i v.way k.calls k.npc no_call no_return a.npc;
    npc = refl;
    annulled = a.annulled ∙ runs;
    exit = a.exit;
    begun = a.begun;
    fits = fits;
    calls = a.calls;
    base = ap (λ x. k.base + x) (sym same) ∙ a.base;
    eight = a.eight;
    room = a.room;
    stored = stored;
    ledger = subst
        (λ t. (pos (w + weight_of (op_at parts f b i)) +ℤ ((form_value start (fuel_at parts f b) -ℤ pos t) +ℤ left_to_all parts k.calls)) ≤ℤ pos (budget parts))
        (sym (weight_next f b i no_call))
        (one_word w (weight_of (op_at parts f b i)) (weight_to parts f b i) (budget parts) (form_value start (fuel_at parts f b)) (left_to_all parts k.calls) a.ledger);
  }

  -- a slot that is annulled
  pub after_annulled : (w : ℕ) (k : Shared) (f b i : ℕ) (v : Visit) (start : Cells)
      → is_call (op_before parts f b i) ≡ false → is_return (op_before parts f b i) ≡ false → weight_of (op_at parts f b i) ≡ 1
      → bytes_of (function_at parts f) b i ≡ bytes_of (function_at parts f) b (suc i)
      → At parts w k f b i v start → After parts (w + 1) (record k { pc = k.npc; npc = following k.npc; annulled = false }) f b i v.known v.way start
  after_annulled w k f b i v start no_call no_return light same a = record {
    pc = follows_plainly _ _ f b i v.way k.calls k.npc no_call no_return a.npc;
    npc = refl;
    annulled = refl;
    exit = a.exit;
    begun = a.begun;
    fits = a.fits;
    calls = a.calls;
    base = ap (λ x. k.base + x) (sym same) ∙ a.base;
    eight = a.eight;
    room = a.room;
    stored = a.stored;
    ledger = subst (λ t. (pos (w + 1) +ℤ ((form_value start (fuel_at parts f b) -ℤ pos t) +ℤ left_to_all parts k.calls)) ≤ℤ pos (budget parts))
        (sym (weight_next f b i no_call ∙ ap (λ x. weight_to parts f b i + x) light))
        (one_word w 1 (weight_to parts f b i) (budget parts) (form_value start (fuel_at parts f b)) (left_to_all parts k.calls) a.ledger);
  }

  -- ---- SAVE, a function's first word

  if_or_none : (t : Bool) (A : Type 0) (P : Option A → Type 0) (x : Option A) → P x → P None → P (if t then x else None)
  if_or_none true A P x p n = p
  if_or_none false A P x p n = n

  pub fits_saved : (start : Cells) (d : Known) (words : Words) (icc : Icc) (y : ℕ) → Fits start d words icc y → Fits start (saved d) (moved_in words) icc y
  unfolding saved
  fits_saved start d words icc y fits =
      let near = fits.near in
      record {
        near = record {
          are_words = λ l. near.are_words (l - 16);
          zero = near.zero;
          intervals = λ l. if_or_none (is_in l) Entry (λ o. HasInterval (range_of_entry o) (words (l - 16))) (d.entry (l - 16)) (near.intervals (l - 16)) tt;
          forms = λ l. if_or_none (is_in l) Entry (λ o. HasForm start (form_of_entry o) (words (l - 16))) (d.entry (l - 16)) (near.forms (l - 16)) tt;
          y_word = near.y_word;
          y_interval = tt;
          relates = tt;
        };
        multiples = λ l. if_or_none (is_in l) Entry (λ o. HasAlignment (range_of_entry o) (words (l - 16))) (d.entry (l - 16)) (fits.multiples (l - 16)) tt;
        y_multiple = tt;
      }

  pub entry_bytes : (function : Function) → bytes_of function 0 0 ≡ 0
  entry_bytes function = no_bytes (is_framed function.kind) function.frame
    where
      no_bytes : (t : Bool) (n : ℕ) → (if t && false then n else 0) ≡ 0
      no_bytes true n = refl
      no_bytes false n = refl

  pub framed_bytes : (function : Function) (b i : ℕ) → is_framed function.kind ≡ true → bytes_of function b (suc i) ≡ function.frame
  framed_bytes function b i h = grind (arith, nat_tests)

  -- the base goes down by the frame
  pub after_save : (w : ℕ) (k : Shared) (f : ℕ) (v : Visit) (start : Cells) (base : ℕ)
      → is_framed (function_at parts f).kind ≡ true → v.annulled ≡ false → base + (function_at parts f).frame ≡ k.base → base % 8 ≡ 0
      → transferred (function_at parts f).frame (op_at parts f 0 0) v.known ≡ saved v.known
      → At parts w k f 0 0 v start
      → After parts (w + weight_of (op_at parts f 0 0)) (record k { pc = k.npc; npc = following k.npc; base = base; words = moved_in k.words }) f 0 0
      (transferred (function_at parts f).frame (op_at parts f 0 0) v.known) v.way start
  after_save w k f v start base framed runs below eight saves a = record {
    pc = a.npc;
    npc = refl;
    annulled = a.annulled ∙ runs;
    exit = a.exit;
    begun = a.begun;
    fits = subst (λ d. Fits start d (moved_in k.words) k.icc k.y) (sym saves) (fits_saved start v.known k.words k.icc k.y a.fits);
    calls = a.calls;
    base =
        let e = framed_bytes (function_at parts f) 0 0 framed in
        let z = entry_bytes (function_at parts f) in
        let h = a.base in
        omega (arith, e, z, h, below);
    eight = eight;
    room = a.room;
    stored = a.stored;
    ledger = subst
        (λ t. (pos (w + weight_of (op_at parts f 0 0)) +ℤ ((form_value start (fuel_at parts f 0) -ℤ pos t) +ℤ left_to_all parts k.calls)) ≤ℤ pos (budget parts))
        (sym (weight_next f 0 0 refl))
        (one_word w (weight_of (op_at parts f 0 0)) (weight_to parts f 0 0) (budget parts) (form_value start (fuel_at parts f 0)) (left_to_all parts k.calls) a.ledger);
  }
