-- Each number of a block's ranges is that of a word, so that a block has words to begin with; and from there control comes to each
-- of its words. Then fuel is positive.
use Rattle.std.proofs.Common.{◌≡◌, ℕ, zero, suc, ◌+◌, ◌^◌, ◌<◌, ℤ, Bool, true, false, List, Option, Some, None, Ok, refl, sym, ◌∙◌, subst, arith}
use Rattle.std.specs.Prelude.{pos, ◌+ℤ◌, ◌≤ℤ◌, nat_lt, if◌then◌else◌}
use Rattle.std.specs.Int.{cast_unsigned, w32}
use Rattle.std.specs.List.{AllByRecursion}
use Rattle.std.proofs.lemmas.Bool.Decides.{nat_tests}
use Rattle.v8_word.specs.declared.Icc.{Icc}
use Rattle.v8_alu.specs.Results.{signed}
use Rattle.sbx_image.specs.Rules.{parts_keep}
use Rattle.sbx_image.specs.Spelling.{IsTyped}
use Rattle.sbx_image.specs.Cell.{Cell}
use Rattle.sbx_image.specs.Parts.{Parts}
use Rattle.sbx_image.specs.Range.{Range}
use Rattle.sbx_form.specs.Forms.{Cells}
use Rattle.sbx_rules.specs.Entry.{Entry}
use Rattle.sbx_rules.specs.Fits.{HasForm, HasInterval}
use Rattle.sbx_rules.specs.Forms.{Form, form_of_location}
use Rattle.sbx_rules.specs.Known.{cell_entry, form_of_entry, is_location, range_of_entry, started}
use Rattle.sbx_rules.specs.Fuel.{InCells}
use Rattle.sbx_image.specs.Order.{words_in}
use Rattle.sbx_rules.specs.Places.{IsPlace}
use Rattle.sbx_rules.specs.Verdicts.{Checked}
use Rattle.sbx_rules.specs.Ways.{Visit, cells_at, state_at}
use Rattle.sbx_sound.specs.Positive.{FuelStaysPositive, IsPositive}
use Rattle.sbx_sound.proofs.Running.{straight_visit}
use Rattle.sbx_sound.proofs.Arrivals.{is_straight_visit}
use Rattle.sbx_sound.proofs.Bounded.{IsGoodEntry, entry_good, left_is_bounded, lowest}
use Rattle.sbx_sound.proofs.Limits.{IsGoodCell, cells_good, have_results, in_written, ordered, words_few, written_in}
use Rattle.sbx_sound.proofs.NearWords.{HasNear}
use Rattle.sbx_sound.proofs.Onward.{HasVisit, before_straight, on, visit_then}
use Rattle.sbx_sound.proofs.Positive.{Point, left_of, positive}
use Rattle.sbx_sound.proofs.Visits.{visit_is_straight}
use Rattle.sbx_sound.proofs.Ledger.{own_number}

-- ---- words for numbers

-- a number's word, where there is a range
abbrev word_for : Option Entry → ℤ → ℕ
word_for None z = 0
word_for (Some e) z = cast_unsigned w32 z

record IsFor (start : Cells) (l : ℕ) (o : Option Entry) (w : ℕ) : Type 0 where
  small : w < 2 ^ 32
  interval : HasInterval (range_of_entry o) w
  form : HasForm start (form_of_entry o) w

has_form : (start : Cells) (l w : ℕ) (f : Option Form) → f ≡ Some (form_of_location l) → signed w ≡ start l → HasForm start f w
has_form start l w f e same = subst (λ x. HasForm start x w) (sym e) (own_number start l ∙ sym same)

is_for : (start : Cells) (l : ℕ) (o : Option Entry) → IsGoodEntry l o → ((r : Range) → range_of_entry o ≡ Some r → (r.lo ≤ℤ start l) × (start l ≤ℤ r.hi)) → IsFor start l o (word_for o (start l))
is_for start l None good within = record { small = omega arith; interval = tt; form = tt }
is_for start l (Some e) good within =
    let ends = within e.range refl in
    let w = written_in e.range (start l) good.1 ends.0 ends.1 in
    record { small = w.small; interval = in_written e.range (start l) w ends.0 ends.1; form = has_form start l (cast_unsigned w32 (start l)) e.form good.2 w.reads }

good_or_none : (t : Bool) (l : ℕ) (o : Option Entry) → IsGoodEntry l o → IsGoodEntry l (if t then o else None)
good_or_none true l o h = h
good_or_none false l o h = tt

abbrev clear : Icc
clear = record { n = false; z = false; v = false; c = false }

near_start : (cells : List Cell) (start : Cells) → AllByRecursion IsGoodCell cells → InCells (started cells) start → HasNear start (started cells)
unfolding started
near_start cells start good begun =
    let entry = (started cells).entry in
    let each : (l : ℕ) → IsFor start l (entry l) (word_for (entry l) (start l)) = λ l.
    is_for start l (entry l) (good_or_none (is_location l) l (cell_entry cells l) (entry_good cells l good)) (begun l) in
    record {
      held = record { words = λ l. word_for (entry l) (start l); icc = clear; y = 0 };
      near = record {
        are_words = λ l. (each l).small;
        zero = refl;
        intervals = λ l. (each l).interval;
        forms = λ l. (each l).form;
        y_word = omega arith;
        y_interval = tt;
        relates = tt;
      };
    }

-- ---- from a block's first word to each of its words

more_words : (n i : ℕ) → suc i < n → nat_lt (i + 1) n ≡ true
more_words n i h = grind (arith, nat_tests)

module _ (parts : Parts) (kept : parts_keep parts ≡ Ok tt) (typed : IsTyped parts) (checked : Checked parts) where
  earlier : (f b i : ℕ) → IsPlace parts f b (suc i) → IsPlace parts f b i
  earlier f b i place = record { function = place.function; block = place.block; word = (let w = place.word in omega (arith, w)) }

  comes_to : (f b i : ℕ) (start : Cells) → IsPlace parts f b i → InCells (state_at parts f b 0) start → HasVisit parts checked (ordered parts kept typed) (have_results parts kept typed) start f b i
  unfolding state_at
  comes_to f b zero start place begun =
      record {
        visit = straight_visit parts f b 0;
        is_visit = is_straight_visit parts f b 0 refl;
        near =
            near_start (cells_at parts f b) start (cells_good parts kept typed f b) begun;
      }
  comes_to f b (suc i) start place begun =
      let here = comes_to f b i start (earlier f b i place) begun in
      let straight = before_straight parts checked (ordered parts kept typed) (have_results parts kept typed) f b i (earlier f b i place) (more_words (words_in parts f b) i place.word) in
      let same = visit_is_straight parts f b i here.visit straight here.is_visit in
      visit_then parts checked (ordered parts kept typed) (have_results parts kept typed) start f b i (subst (λ (v : Visit). HasNear start v.known) same here.near)

  some_point : (f b i : ℕ) (start : Cells) → IsPlace parts f b i → InCells (state_at parts f b 0) start →
      HasVisit parts checked (ordered parts kept typed) (have_results parts kept typed) start f b i → Point parts
  some_point f b i start place begun v = record {
    f = f;
    b = b;
    i = i;
    v = v.visit;
    start = start;
    words = v.near.held.words;
    icc = v.near.held.icc;
    y = v.near.held.y;
    there = place;
    is_visit = v.is_visit;
    begun = begun;
    near = v.near.near;
  }

  bounded : (p : Point parts) → pos 0 ≤ℤ (left_of parts p +ℤ pos (lowest parts kept typed))
  bounded p =
      let few = words_few parts kept typed p.f p.b p.i p.there.function p.there.block p.there.word in
      left_is_bounded parts kept typed p.f p.b p.i p.start (omega (arith, few)) p.begun

  pub is_positive : IsPositive parts
  unfolding some_point
  is_positive f b i start place begun =
      positive parts (lowest parts kept typed) bounded (on parts checked (ordered parts kept typed) (have_results parts kept typed))
      (some_point f b i start place begun (comes_to f b i start place begun))

pub fuel_stays_positive : FuelStaysPositive
fuel_stays_positive parts formed checked = is_positive parts formed.kept formed.typed checked
