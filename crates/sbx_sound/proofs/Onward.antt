-- From words in the intervals at a place of a checked image the run ends there, goes on to the next word, or to another block.
use Rattle.std.proofs.Common.{◌≡◌, ℕ, zero, suc, ◌+◌, ◌<◌, Bool, true, false, List, [], ◌∷◌, length, Option, Some, None, refl, ap, ◌∙◌, subst, inl, inr, ⊎_elim, arith}
use Rattle.std.specs.Prelude.{◌⊎◌, ◌==◌, ◌&&◌, not, nat_lt, nat_le, if◌then◌else◌, slice_get}
use Rattle.std.proofs.lemmas.Bool.Decides.{nat_tests}
use Rattle.v8_word.specs.Conditions.{holds}
use Rattle.v8_formats.specs.declared.instr.Branch.{Branch}
use Rattle.v8_meaning.specs.declared.operation.Operation.{Operation}
use Rattle.v8_meaning.specs.declared.operation.Operation.TheVariants.{BranchOnCondition, JumpAndLink}
use Rattle.v8_meaning.specs.Operands.{target}
use Rattle.sbx_image.specs.Block.{Block}
use Rattle.sbx_image.specs.Parts.{Parts}
use Rattle.sbx_image.specs.Range.{Range}
use Rattle.sbx_range.proofs.Kept.{one_edge_is_left}
use Rattle.sbx_range.specs.Refining.{opposite}
use Rattle.sbx_form.specs.Forms.{Cells}
use Rattle.sbx_rules.specs.Fits.{HasInterval, Near}
use Rattle.sbx_rules.specs.Known.{Known, range_at, range_of_entry, started}
use Rattle.sbx_fits.proofs.Branches.{refinement_keeps_fitting, starts_fit}
use Rattle.sbx_rules.specs.Operations.{is_call, is_transfer}
use Rattle.sbx_image.specs.Order.{address_of, function_at, words_in}
use Rattle.sbx_rules.specs.Places.{IsPlace, callee_before, ends_run, find_block, op_at, op_before, word_of_place}
use Rattle.sbx_rules.specs.Rules.{has_cells, is_back, is_inner_edge, is_past, now}
use Rattle.sbx_rules.specs.Verdicts.{Checked}
use Rattle.sbx_rules.specs.Ways.{Past, To, Visit, Way, after_call, after_word, branch_way, cells_at, falls, state_at, way_to}
use Rattle.sbx_sound.proofs.Order.{IsOrdered}
use Rattle.sbx_sound.proofs.Running.{IsVisit, straight_visit}
use Rattle.sbx_sound.proofs.Arrivals.{goes_straight, is_straight_visit}
use Rattle.sbx_sound.proofs.Asked.{branches_well, has_shape}
use Rattle.sbx_sound.proofs.Branches.{not_always, taken, taken_is, untaken, untaken_is}
use Rattle.sbx_sound.proofs.FromChecked.{edge_has_cells, edge_is_paid, exit_is_paid, goes_somewhere, return_is_paid}
use Rattle.sbx_sound.proofs.Goes.{FallsNext, FallsTo, begin_place, falls_by}
use Rattle.sbx_sound.proofs.Ledger.{interval_within, near_in_cells, numbers, starts_have}
use Rattle.sbx_sound.proofs.LowFields.{low_fields}
use Rattle.sbx_sound.proofs.NearWords.{HasNear, near_after}
use Rattle.sbx_sound.proofs.Positive.{EndsHere, HasWord, NextBlock, NextWord, Point, near_after_call}
use Rattle.sbx_sound.proofs.Transfers.{return_visit}
use Rattle.sbx_sound.proofs.Visits.{is_return_visit, visit_is_return, visit_is_straight, visit_is_way}

-- ---- blocks by address

found_block : (n address : ℕ) (bs : List Block) (m : ℕ) → find_block n address bs ≡ Some m → m < n + length bs
found_block n address [] m e = absurd (cc)
found_block n address (b ∷ bs) m e = by_test (b.address == address) (found_block (suc n) address bs m) e
  where
    same : (a : ℕ) → Some a ≡ Some m → a ≡ m
    same a h = cc

    by_test : (t : Bool) → (find_block (suc n) address bs ≡ Some m → m < suc n + length bs) → (if t then Some n else find_block (suc n) address bs) ≡ Some m → m < n + length (b ∷ bs)
    by_test true rest h = let s = same n h in let l : length (b ∷ bs) ≡ suc (length bs) = refl in omega (arith, s, l)
    by_test false rest h = let r = rest h in let l : length (b ∷ bs) ≡ suc (length bs) = refl in omega (arith, r, l)

-- an edge to a block of the function
pub record LeadsTo (blocks : ℕ) (way : Way) : Type 0 where
  pub block : ℕ
  pub way_is : way ≡ To block
  pub within : block < blocks

inner_leads : (address : ℕ) (bs : List Block) (o : Option ℕ) → find_block 0 address bs ≡ o → is_inner_edge (way_to o) ≡ true → LeadsTo (length bs) (way_to o)
inner_leads address bs None e h = absurd (cc)
inner_leads address bs (Some t) e h = record { block = t; way_is = refl; within = (let w = found_block 0 address bs t e in omega (arith, w)) }

-- what isn't a transfer, or is a CALL, goes straight on
straight_of : (op : Operation) → (is_transfer op && not (is_call op)) ≡ false → goes_straight op ≡ true
straight_of (BranchOnCondition c) h = absurd (cc)
straight_of (JumpAndLink j) h = absurd (cc)
straight_of _ h = refl

inside : (n i : ℕ) → nat_lt (i + 1) n ≡ true → suc i < n
inside n i h = grind (arith, nat_tests)

not_last : (n i : ℕ) → nat_lt (i + 1) n ≡ true → nat_le n (i + 1) ≡ false
not_last n i h = grind (arith, nat_tests)

pub no_more : (n i : ℕ) → nat_lt (i + 1) n ≡ false → suc i < n → ⊥
no_more n i h less = let e : nat_lt (i + 1) n ≡ true = grind (arith, nat_tests) in cc

left_false : (a b : Bool) → (a && not b) ≡ false → b ≡ false → a ≡ false
left_false false b h e = refl
left_false true false h e = absurd (cc)
left_false true true h e = absurd (cc)

pub past_no : (way : Way) → way ≡ Past → is_past way ≡ false → ⊥
past_no way e h = let g : is_past way ≡ true = ap is_past e in cc

-- the results that functions promise are ranges with words
abbrev pub HaveResults : Parts → Type 0
HaveResults parts = (g n : ℕ) (r : Range) → slice_get (function_at parts g).results n ≡ Some r → HasWord parts r

module _ (parts : Parts) (checked : Checked parts) (ordered : IsOrdered parts) (results : HaveResults parts) where
  -- ---- words

  near_call : (start : Cells) (o : Option ℕ) (d : Known) → HasNear start d → HasNear start (after_call parts o d)
  near_call start None d n = n
  near_call start (Some g) d n =
      let made = near_after_call parts start d n.held.words n.held.icc n.held.y (function_at parts g).results (results g) n.near in
      record { held = record { words = made.0; icc = n.held.icc; y = n.held.y }; near = made.1 }

  near_word : (start : Cells) (f b i : ℕ) (d : Known) → HasNear start d → HasNear start (after_word parts f b i d)
  near_word start f b i d n = near_call start (callee_before parts f b i) _ (near_after start (function_at parts f).frame d n (op_at parts f b i) (low_fields (word_of_place parts f b i)))

  pub near_state : (start : Cells) (f b i : ℕ) → HasNear start (state_at parts f b i) → HasNear start (state_at parts f b (suc i))
  unfolding state_at
  near_state start f b i n = near_word start f b i (state_at parts f b i) n

  -- ---- to the next word

  pub record HasVisit (start : Cells) (f b i : ℕ) : Type 0 where
    pub visit : Visit
    pub is_visit : IsVisit parts f b i visit
    pub near : HasNear start visit.known

  pub visit_then : (start : Cells) (f b i : ℕ) → HasNear start (state_at parts f b i) → HasVisit start f b (suc i)
  visit_then start f b i n = by_op (op_at parts f b i) refl
    where
      by_codes : (c : Branch) → op_at parts f b i ≡ BranchOnCondition c → (t : Bool) → holds c.cond n.held.icc ≡ t → HasVisit start f b (suc i)
      by_codes c e true held =
          let r = refinement_keeps_fitting.near c.cond start (state_at parts f b i) n.held.words n.held.icc n.held.y held n.near in
          record { visit = taken parts c f b i r.0; is_visit = taken_is parts c f b i r.0 e r.1; near = record { held = n.held; near = r.2 } }
      by_codes c e false held =
          let r = refinement_keeps_fitting.near (opposite c.cond) start (state_at parts f b i) n.held.words n.held.icc n.held.y (one_edge_is_left.denies c.cond n.held.icc ∙ ap not held) n.near in
          record { visit = untaken parts c f b i r.0; is_visit = untaken_is parts c f b i r.0 e (not_always c.cond n.held.icc held) r.1; near = record { held = n.held; near = r.2 } }

      by_op : (o : Operation) → op_at parts f b i ≡ o → HasVisit start f b (suc i)
      by_op (BranchOnCondition c) e = by_codes c e (holds c.cond n.held.icc) refl
      by_op (JumpAndLink t) e = record { visit = return_visit parts f b (suc i); is_visit = is_return_visit parts f b i t e; near = near_state start f b i n }
      by_op _ e = record { visit = straight_visit parts f b (suc i); is_visit = is_straight_visit parts f b (suc i) (ap goes_straight e); near = near_state start f b i n }

  -- a word with another one behind it in its block isn't a slot, but a CALL's
  pub before_straight : (f b i : ℕ) → IsPlace parts f b i → nat_lt (i + 1) (words_in parts f b) ≡ true → goes_straight (op_before parts f b i) ≡ true
  before_straight f b i place more =
      let before = op_before parts f b i in
      straight_of before
      (left_false (is_transfer before && not (is_call before)) (nat_le (words_in parts f b) (i + 1)) (has_shape parts checked f b i place).after_slot
      (not_last (words_in parts f b) i more))

  pub next_word : (p : Point parts) → nat_lt (p.i + 1) (words_in parts p.f p.b) ≡ true → NextWord parts p
  next_word p more =
      let straight = visit_is_straight parts p.f p.b p.i p.v (before_straight p.f p.b p.i p.there more) p.is_visit in
      let near : HasNear p.start (state_at parts p.f p.b p.i) =
      subst (λ (v : Visit). HasNear p.start v.known) straight (record { held = record { words = p.words; icc = p.icc; y = p.y }; near = p.near }) in
      let onward = visit_then p.start p.f p.b p.i near in
      record {
        next = record {
          f = p.f;
          b = p.b;
          i = suc p.i;
          v = onward.visit;
          start = p.start;
          words = onward.near.held.words;
          icc = onward.near.held.icc;
          y = onward.near.held.y;
          there = record { function = p.there.function; block = p.there.block; word = inside (words_in parts p.f p.b) p.i more };
          is_visit = onward.is_visit;
          begun = p.begun;
          near = onward.near.near;
        };
        function = refl;
        block = refl;
        place = refl;
        start_is = refl;
      }

  -- ---- to another block

  near_now : (start : Cells) (f b i : ℕ) (v : Visit) → HasNear start v.known → HasNear start (now parts f b i v)
  near_now start f b i v n = by_test v.annulled
    where
      by_test : (t : Bool) → HasNear start (if t then v.known else after_word parts f b i v.known)
      by_test true = n
      by_test false = near_word start f b i v.known n

  pub begins : (start : Cells) (d : Known) (f t : ℕ) (n : HasNear start d) → has_cells d (cells_at parts f t) ≡ true →
      Near (numbers n.held.words) (state_at parts f t 0) n.held.words n.held.icc n.held.y
  unfolding state_at
  begins start d f t n h =
      let words = n.held.words in
      let cells = cells_at parts f t in
      let ranges : (l : ℕ) → HasInterval (range_at (started cells) l) (words l) = λ l.
      starts_have d (λ k e. HasInterval (range_of_entry e) (words k)) cells l h tt (λ c here. interval_within (range_at d c.location) c.range (words c.location) here (n.near.intervals c.location)) in
      starts_fit.near cells words n.held.icc n.held.y n.near.are_words n.near.zero n.near.y_word ranges

  next_block : (p : Point parts) → LeadsTo (length (function_at parts p.f).blocks) p.v.way → NextBlock parts p
  next_block p to =
      let d = now parts p.f p.b p.i p.v in
      let n = near_now p.start p.f p.b p.i p.v (record { held = record { words = p.words; icc = p.icc; y = p.y }; near = p.near }) in
      let t = to.block in
      let cells = edge_has_cells parts checked p.f p.b p.i p.there.function p.there.block p.there.word p.v t p.is_visit to.way_is in
      let begun = begins p.start d p.f t n cells in
      record {
        next = record {
          f = p.f;
          b = t;
          i = 0;
          v = straight_visit parts p.f t 0;
          start = numbers n.held.words;
          words = n.held.words;
          icc = n.held.icc;
          y = n.held.y;
          there = begin_place parts checked ordered p.f t p.there.function to.within;
          is_visit = is_straight_visit parts p.f t 0 refl;
          begun = near_in_cells (numbers n.held.words) (state_at parts p.f t 0) n.held.words n.held.icc n.held.y begun;
          near = begun;
        };
        now = d;
        words = n.held.words;
        icc = n.held.icc;
        y = n.held.y;
        near = n.near;
        function = refl;
        place = refl;
        start_is = refl;
        paid = edge_is_paid parts checked p.f p.b p.i p.there.function p.there.block p.there.word p.v t p.is_visit to.way_is;
      }

  -- ---- where the last word of a block goes

  -- on, back, or to a block
  abbrev WayOn : (f b i : ℕ) → Visit → Type 0
  WayOn f b i v = (v.way ≡ falls parts f b i) ⊎ ((is_back v.way ≡ true) ⊎ LeadsTo (length (function_at parts f).blocks) v.way)

  pub branch_leads : (f b j : ℕ) (c : Branch) → IsPlace parts f b j → op_at parts f b j ≡ BranchOnCondition c → LeadsTo (length (function_at parts f).blocks) (branch_way parts f b j c.displacement)
  unfolding branch_way
  branch_leads f b j c place e =
      let at = target (address_of parts f b j) c.displacement in
      inner_leads at (function_at parts f).blocks (find_block 0 at (function_at parts f).blocks) refl (branches_well parts checked f b j place c e)

  way_on : (f b i : ℕ) (v : Visit) → IsPlace parts f b i → IsVisit parts f b i v → WayOn f b i v
  way_on f b zero v place is = inl (ap (λ (x : Visit). x.way) (visit_is_straight parts f b 0 v refl is))
  way_on f b (suc j) v place is = by_op (op_at parts f b j) refl
    where
      earlier : IsPlace parts f b j
      earlier = record { function = place.function; block = place.block; word = (let w = place.word in omega (arith, w)) }

      by_op : (o : Operation) → op_at parts f b j ≡ o → WayOn f b (suc j) v
      by_op (BranchOnCondition c) e = ⊎_elim
          (λ w. let to = branch_leads f b j c earlier e in inr (inr (record { block = to.block; way_is = w.way_is ∙ to.way_is; within = to.within })))
          (λ w. inl w.way_is) (visit_is_way parts f b j c v e is)
      by_op (JumpAndLink t) e = inr (inl (ap (λ (x : Visit). is_back x.way) (visit_is_return parts f b j t v e is)))
      by_op _ e = inl (ap (λ (x : Visit). x.way) (visit_is_straight parts f b (suc j) v (ap goes_straight e) is))

  on_from_last : (p : Point parts) → nat_lt (p.i + 1) (words_in parts p.f p.b) ≡ false → EndsHere parts p ⊎ (NextWord parts p ⊎ NextBlock parts p)
  unfolding falls
  on_from_last p last = by_end (ends_run (op_at parts p.f p.b p.i)) refl
    where
      blocks : ℕ
      blocks = length (function_at parts p.f).blocks

      falls_on : p.v.way ≡ falls parts p.f p.b p.i →
          FallsNext (words_in parts p.f p.b) p.i (falls parts p.f p.b p.i)
          ⊎ (FallsTo (length (function_at parts p.f).blocks) p.b (falls parts p.f p.b p.i) ⊎ (falls parts p.f p.b p.i ≡ Past)) → NextBlock parts p
      falls_on e (inl n) = absurd (no_more (words_in parts p.f p.b) p.i last n.within)
      falls_on e (inr (inl n)) = next_block p (record { block = p.b + 1; way_is = e ∙ n.way_is; within = n.within })
      falls_on e (inr (inr n)) = absurd (past_no p.v.way (e ∙ n) (goes_somewhere parts checked p.f p.b p.i p.there.function p.there.block p.there.word p.v p.is_visit))

      by_way : ends_run (op_at parts p.f p.b p.i) ≡ false → WayOn p.f p.b p.i p.v → EndsHere parts p ⊎ (NextWord parts p ⊎ NextBlock parts p)
      by_way runs_on (inl e) = inr (inr (falls_on e (falls_by (ends_run (op_at parts p.f p.b p.i)) (words_in parts p.f p.b) (length (function_at parts p.f).blocks) p.b p.i runs_on)))
      by_way runs_on (inr (inl e)) = inl (record { enough = return_is_paid parts checked p.f p.b p.i p.there.function p.there.block p.there.word p.v p.is_visit e })
      by_way runs_on (inr (inr to)) = inr (inr (next_block p to))

      by_end : (t : Bool) → ends_run (op_at parts p.f p.b p.i) ≡ t → EndsHere parts p ⊎ (NextWord parts p ⊎ NextBlock parts p)
      by_end true e = inl (record { enough = exit_is_paid parts checked p.f p.b p.i p.there.function p.there.block p.there.word e })
      by_end false e = by_way e (way_on p.f p.b p.i p.v p.there p.is_visit)

  -- from each point the run ends, or goes on
  pub on : (p : Point parts) → EndsHere parts p ⊎ (NextWord parts p ⊎ NextBlock parts p)
  on p = by_test (nat_lt (p.i + 1) (words_in parts p.f p.b)) refl
    where
      by_test : (t : Bool) → nat_lt (p.i + 1) (words_in parts p.f p.b) ≡ t → EndsHere parts p ⊎ (NextWord parts p ⊎ NextBlock parts p)
      by_test true e = inr (inl (next_word p e))
      by_test false e = on_from_last p e
