-- Where a run starts; and the whole: an image whose places step on is safe.
use Rattle.std.proofs.Common.{◌≡◌, ℕ, ◌+◌, ◌*◌, ◌^◌, ◌<◌, ◌≤◌, ℤ, Bool, true, false, List, [], ◌∷◌, Option, Some, None, refl, sym, ap, ◌∙◌, subst, inl, arith}
use Rattle.std.specs.Prelude.{pos, ◌+ℤ◌, ◌-ℤ◌, ◌≤ℤ◌, ◌==◌, ◌&&◌, ◌||◌, not, if◌then◌else◌}
use Rattle.std.specs.List.{AllByRecursion}
use Rattle.std.proofs.lemmas.Bool.Decides.{nat_tests}
use Rattle.std.proofs.lemmas.Int.{ints}
use Rattle.v8_word.specs.declared.Icc.{Icc}
use Rattle.sbx_image.specs.Rules.{code_start}
use Rattle.sbx_image.specs.Parts.{Parts}
use Rattle.sbx_image.specs.Regions.{data_at}
use Rattle.sbx_image.specs.Spelling.{IsTypedRegion}
use Rattle.sbx_flat.specs.Registers.{Frame, Words}
use Rattle.sbx_flat.specs.Runs.{AreBytes, FlatSafe, IsStart, budget}
use Rattle.sbx_flat.specs.States.{State}
use Rattle.sbx_rules.specs.Fuel.{InCells, IsWithinBudget}
use Rattle.sbx_rules.specs.Fits.{Fits, HasAlignment, HasForm, HasInterval}
use Rattle.sbx_rules.specs.Known.{Known, cell_entry, form_of_entry, is_location, range_of_entry, started}
use Rattle.sbx_rules.specs.Entry.{Entry}
use Rattle.sbx_rules.specs.Rules.{is_defined, is_some}
use Rattle.sbx_rules.specs.Forms.{form_value}
use Rattle.sbx_image.specs.Order.{address_of, function_at}
use Rattle.sbx_rules.specs.Places.{IsPlace}
use Rattle.sbx_rules.specs.Ways.{cells_at, falls, fuel_at, state_at, weight_to}
use Rattle.sbx_sound.specs.Positive.{IsPositive, left_at}
use Rattle.sbx_sound.proofs.Running.{At, Follows, straight_visit, tests}
use Rattle.sbx_form.specs.Forms.{Cells}
use Rattle.sbx_sound.proofs.Shared.{Lent, Shared, Shows, ShowsCalls, stack_start}
use Rattle.sbx_sound.proofs.Arrivals.{entry_bytes, is_straight_visit}
use Rattle.sbx_sound.proofs.CallSteps.{entry_window}
use Rattle.sbx_sound.proofs.Stored.{stored_at_start}
use Rattle.sbx_sound.proofs.Safe.{Pair, ShowsSpot, Spot, Steps, flat_safe}

abbrev clear : Icc
clear = record { n = false; z = false; v = false; c = false }

abbrev zeros : Words
zeros = λ _. 0

abbrev no_numbers : Cells
no_numbers = λ _. pos 0

-- What the rules and the image's order say of the entry function's first word.
pub record StartsWell (parts : Parts) : Type 0 where
  pub place : IsPlace parts 0 0 0
  pub entry : address_of parts 0 0 0 ≡ code_start
  pub no_params : cells_at parts 0 0 ≡ []
  pub follows : Follows parts 0 0 0 (falls parts 0 0 0) (code_start + 4)
  pub room : (function_at parts 0).stack_room + 64 ≤ 4096 * parts.stack_pages
  pub pages : parts.stack_pages ≤ 16
  pub within_budget : IsWithinBudget (state_at parts 0 0 0) (fuel_at parts 0 0) (budget parts)
  pub bytes : AllByRecursion IsTypedRegion parts.regions

module _ (parts : Parts) where
  -- what all starts on an input share
  abbrev shared_start : List ℕ → Shared
  shared_start input =
      record {
        pc = code_start;
        npc = code_start + 4;
        annulled = false;
        icc = clear;
        y = 0;
        base = stack_start;
        words = zeros;
        calls = [];
        memory =
            data_at parts.regions;
        input = input;
        output = [];
        exit = None;
      }

  nowhere : (P : Option Entry → Type 0) → P None → (l : ℕ) → P ((started []).entry l)
  unfolding started cell_entry
  nowhere P h l = by_test (is_location l)
    where
      by_test : (t : Bool) → P (if t then None else None)
      by_test true = h
      by_test false = h

  nothing_fits : Fits no_numbers (started []) zeros clear 0
  unfolding started
  nothing_fits = record {
    near = record {
      are_words = λ l. omega arith;
      zero = refl;
      intervals = nowhere (λ e. HasInterval (range_of_entry e) 0) tt;
      forms = nowhere (λ e. HasForm no_numbers (form_of_entry e) 0) tt;
      y_word = omega arith;
      y_interval = tt;
      relates = tt;
    };
    multiples = nowhere (λ e. HasAlignment (range_of_entry e) 0) tt;
    y_multiple = tt;
  }

  nothing_begun : InCells (started []) no_numbers
  nothing_begun l r e = absurd (nowhere (λ x. range_of_entry x ≡ Some r → ⊥) (λ x. cc) l e)

  first_ledger : (fuel : ℤ) (budget : ℕ) → fuel ≤ℤ pos budget → (pos 0 +ℤ ((fuel -ℤ pos 0) +ℤ pos 0)) ≤ℤ pos budget
  first_ledger fuel budget h = omega (arith, ints)

  at_start : (input : List ℕ) → AreBytes input → StartsWell parts → At parts 0 (shared_start input) 0 0 0 (straight_visit parts 0 0 0) no_numbers
  unfolding state_at weight_to
  at_start input are rules =
      let same : started (cells_at parts 0 0) ≡ started [] = ap started rules.no_params in
      let begun = subst (λ d. InCells d no_numbers) (sym same) nothing_begun in
      record {
        place = rules.place;
        is_visit = is_straight_visit parts 0 0 0 refl;
        pc = sym rules.entry;
        npc = rules.follows;
        annulled = refl;
        exit = refl;
        begun = begun;
        fits = subst (λ d. Fits no_numbers d zeros clear 0) (sym same) nothing_fits;
        link = λ h. absurd (cc);
        calls = refl;
        base = ap (λ x. stack_start + x) (entry_bytes parts (function_at parts 0));
        eight = refl;
        room = let h = rules.room in let p = rules.pages in omega (arith, h, p);
        stored = stored_at_start parts.regions input rules.bytes are;
        ledger = first_ledger (form_value no_numbers (fuel_at parts 0 0)) (budget parts) (rules.within_budget no_numbers begun);
      }

  first_spot : (input : List ℕ) → AreBytes input → StartsWell parts → Spot parts 0
  first_spot input are rules = record { k = shared_start input; f = 0; b = 0; i = 0; v = straight_visit parts 0 0 0; start = no_numbers; at = at_start input are rules }

  -- a start shows it
  one_frame : (older : List Frame) (newest : Frame) (oldest : Words) → older ≡ [] → newest.outs 14 ≡ stack_start → ShowsCalls [] (newest ∷ older) oldest
  one_frame [] newest oldest e h = h
  one_frame (f ∷ fs) newest oldest e h = absurd (cc)

  nothing_tested : (l : ℕ) (d : Known) → d ≡ started [] → (not (l == 0) && (is_defined d l || ((l == 15) && false))) ≡ true → ⊥
  nothing_tested l d e h =
      let x : is_defined d l ≡ false = ap (λ (y : Known). is_defined y l) e ∙ nowhere (λ x. is_some x ≡ false) refl l in
      grind (arith, nat_tests)

  shows_start : (input : List ℕ) (are : AreBytes input) (s : State) → (rules : StartsWell parts) → IsStart parts input s → ShowsSpot parts 0 (first_spot input are rules) s
  unfolding state_at first_spot started
  shows_start input are s rules start =
      let same : started (cells_at parts 0 0) ≡ started [] = ap started rules.no_params in
      let shown : Shows Lent (tests parts (started (cells_at parts 0 0)) false) (shared_start input) s = record {
        rest = record { pc = start.pc; npc = start.npc; annulled = start.annulled; memory = start.memory; input = start.input; output = start.output; exit = start.exit };
        file = record {
          base_is = start.base;
          words_are = λ l h. absurd (nothing_tested l (started (cells_at parts 0 0)) same h);
          calls_are = one_frame s.registers.older s.registers.newest s.registers.oldest_ins start.one_frame start.base;
          slots = λ j h. absurd (omega arith);
          below = λ a h. start.slots a;
        };
        codes = λ h. start.icc;
        y = λ h. absurd (let e = ap (λ (d : Known). is_some d.y) same in cc);
      } in
      subst (λ x. Shows x (tests parts (started (cells_at parts 0 0)) false) (shared_start input) s) (sym (entry_window (function_at parts 0))) shown

  -- the calm start
  abbrev pub calm_start : List ℕ → State
  calm_start input = record {
    pc = code_start;
    npc = code_start + 4;
    annulled = false;
    icc = clear;
    y = 0;
    registers = record { globals = zeros; newest = record { locals = zeros; outs = λ n. if n == 14 then stack_start else 0; slots = λ a. None }; older = []; oldest_ins = zeros };
    memory = data_at parts.regions;
    input = input;
    output = [];
    exit = None;
  }

  out_word : (n : ℕ) → (if n == 14 then stack_start else 0) < 2 ^ 32
  out_word n = grind (arith, nat_tests)

  calm_is_start : (input : List ℕ) → IsStart parts input (calm_start input)
  calm_is_start input =
      record {
        pc = refl;
        npc = refl;
        annulled = refl;
        icc = refl;
        y = omega arith;
        one_frame = refl;
        base = refl;
        slots = λ a. refl;
        globals =
            λ n. omega arith;
        locals = λ n. omega arith;
        outs = out_word;
        ins = λ n. omega arith;
        memory = λ a. refl;
        input = refl;
        output = refl;
        exit = refl;
      }

  pub begins : (input : List ℕ) (s : State) → AreBytes input → StartsWell parts → IsStart parts input s → Pair parts 0 s (calm_start input)
  begins input s are rules start = (inl (first_spot input are rules), shows_start input are s rules start, shows_start input are (calm_start input) rules (calm_is_start input))

  -- ---- the whole

  some_left : (z : ℤ) → pos 1 ≤ℤ z → pos 0 ≤ℤ z
  some_left z h = omega (arith, ints)

  stays : IsPositive parts → (w : ℕ) (p : Spot parts w) → pos 0 ≤ℤ left_at parts p.f p.b p.i p.start
  stays positive w p = some_left (left_at parts p.f p.b p.i p.start) (positive p.f p.b p.i p.start p.at.place p.at.begun)

  -- From each place a step, fuel that is positive, and a good start: then the image is safe.
  pub is_safe : ((w : ℕ) (p : Spot parts w) → Steps parts w p) → IsPositive parts → StartsWell parts → FlatSafe parts
  is_safe steps positive rules = flat_safe parts steps (stays positive) calm_start (λ input s are start. begins input s are rules start)
