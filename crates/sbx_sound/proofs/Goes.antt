-- Where control goes on from a word that comes straight: the next word of the block, or the next block, along an edge that is paid.
use Rattle.std.proofs.Common.{◌≡◌, ℕ, suc, ◌+◌, ◌<◌, Bool, true, false, length, refl, ap, inl, inr, arith}
use Rattle.std.specs.Prelude.{◌⊎◌, nat_lt, if◌then◌else◌}
use Rattle.sbx_image.specs.Parts.{Parts}
use Rattle.sbx_rules.specs.Operations.{is_call}
use Rattle.sbx_image.specs.Order.{function_at, words_in}
use Rattle.sbx_rules.specs.Places.{IsPlace, ends_run, op_at, op_before}
use Rattle.sbx_rules.specs.Rules.{is_past}
use Rattle.sbx_rules.specs.Verdicts.{Checked}
use Rattle.sbx_rules.specs.Ways.{Next, Past, To, Way, falls, falls_to, state_at}
use Rattle.sbx_sound.proofs.Order.{IsOrdered}
use Rattle.sbx_sound.proofs.Running.{IsThere, IsVisit, straight_visit}
use Rattle.sbx_sound.proofs.Arrivals.{goes_straight, is_straight_visit}
use Rattle.sbx_sound.proofs.FromChecked.{edge_has_cells, edge_is_paid, goes_somewhere}
use Rattle.sbx_sound.proofs.Ordered.{follows}
use Rattle.sbx_sound.proofs.ReturnSteps.{GoesNext, GoesOn, GoesToBlock}
use Rattle.sbx_sound.proofs.Tests.{less_of}

-- on from word i of a block of so many words, in a function of so many blocks
pub record FallsNext (words i : ℕ) (way : Way) : Type 0 where
  pub way_is : way ≡ Next
  pub within : suc i < words

pub record FallsTo (blocks b : ℕ) (way : Way) : Type 0 where
  pub way_is : way ≡ To (b + 1)
  pub within : b + 1 < blocks

pub falls_by : (end : Bool) (words blocks b i : ℕ) → end ≡ false →
    FallsNext words i (falls_to end words blocks b i) ⊎ (FallsTo blocks b (falls_to end words blocks b i) ⊎ (falls_to end words blocks b i ≡ Past))
falls_by true words blocks b i e = absurd (cc)
falls_by false words blocks b i e = by_words (nat_lt (i + 1) words) refl
  where
    by_blocks : (t : Bool) → nat_lt (b + 1) blocks ≡ t →
        FallsNext words i (if t then To (b + 1) else Past) ⊎ (FallsTo blocks b (if t then To (b + 1) else Past) ⊎ ((if t then To (b + 1) else Past) ≡ Past))
    by_blocks true h = inr (inl (record { way_is = refl; within = less_of (b + 1) blocks h }))
    by_blocks false h = inr (inr refl)

    by_words : (t : Bool) → nat_lt (i + 1) words ≡ t
        → let way = if t then Next else (if nat_lt (b + 1) blocks then To (b + 1) else Past) in FallsNext words i way ⊎ (FallsTo blocks b way ⊎ (way ≡ Past))
    by_words true h = inl (record { way_is = refl; within = let less = less_of (i + 1) words h in omega arith })
    by_words false h = by_blocks (nat_lt (b + 1) blocks) refl

module _ (parts : Parts) (checked : Checked parts) (ordered : IsOrdered parts) where
  -- the first word of a block is there
  pub begin_place : (f b : ℕ) → f < length parts.functions → b < length (function_at parts f).blocks → IsPlace parts f b 0
  begin_place f b in_f in_b = let some = (ordered.blocks f b in_f in_b).some in record { function = in_f; block = in_b; word = omega (arith, some) }

  pub there : (f b i : ℕ) → IsPlace parts f b i → IsThere parts f b i
  there f b i place = record { place = place; follows = follows parts ordered f b i place }

  module _ (f b i : ℕ) (place : IsPlace parts f b i) (straight : goes_straight (op_before parts f b i) ≡ true) where
    visit : IsVisit parts f b i (straight_visit parts f b i)
    visit = is_straight_visit parts f b i straight

    not_past : falls parts f b i ≡ Past → ⊥
    not_past e = let h = goes_somewhere parts checked f b i place.function place.block place.word (straight_visit parts f b i) visit in past (falls parts f b i) e h
      where
        past : (way : Way) → way ≡ Past → is_past way ≡ false → ⊥
        past way e h = let g : is_past way ≡ true = ap is_past e in cc

    to_next : goes_straight (op_at parts f b i) ≡ true → is_call (op_at parts f b i) ≡ false → FallsNext (words_in parts f b) i (falls parts f b i) →
        GoesNext parts f b i (state_at parts f b (suc i)) (falls parts f b i)
    to_next on no_call n = record {
      way_is = n.way_is;
      known = refl;
      straight = on;
      no_call = no_call;
      there = there f b (suc i) (record { function = place.function; block = place.block; word = n.within });
    }

    to_block : FallsTo (length (function_at parts f).blocks) b (falls parts f b i) → GoesToBlock parts f b i (state_at parts f b (suc i)) (falls parts f b i)
    unfolding state_at
    to_block n = record {
      t = b + 1;
      way_is = n.way_is;
      some = λ e. (let x : b + 1 ≡ 0 = e in omega arith);
      cells = edge_has_cells parts checked f b i place.function place.block place.word (straight_visit parts f b i) (b + 1) visit n.way_is;
      paid = edge_is_paid parts checked f b i place.function place.block place.word (straight_visit parts f b i) (b + 1) visit n.way_is;
      there = there f (b + 1) 0 (begin_place f (b + 1) place.function n.within);
    }

    -- a word that neither transfers control nor ends the run goes on
    pub goes_on : goes_straight (op_at parts f b i) ≡ true → is_call (op_at parts f b i) ≡ false → ends_run (op_at parts f b i) ≡ false →
        GoesOn parts f b i (state_at parts f b (suc i)) (falls parts f b i)
    unfolding falls
    goes_on on no_call runs_on = by_way (falls_by (ends_run (op_at parts f b i)) (words_in parts f b) (length (function_at parts f).blocks) b i runs_on)
      where
        by_way : FallsNext (words_in parts f b) i (falls parts f b i)
            ⊎ (FallsTo (length (function_at parts f).blocks) b (falls parts f b i) ⊎ (falls parts f b i ≡ Past)) →
            GoesOn parts f b i (state_at parts f b (suc i)) (falls parts f b i)
        by_way (inl n) = inl (to_next on no_call n)
        by_way (inr (inl n)) = inr (to_block n)
        by_way (inr (inr e)) = absurd (not_past e)
