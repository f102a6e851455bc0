-- From a place where a run stands to the next one: plain words, edges, calls and returns, with what the states show there.
use Rattle.sbx_rules.specs.Entry.{Entry}
use Rattle.std.proofs.Common.{◌≡◌, ◌≢◌, ℕ, suc, ◌+◌, Bool, true, false, List, Option, Some, None, refl, sym, ap, ◌∙◌, subst, inl, arith}
use Rattle.std.specs.Prelude.{◌==◌, ◌&&◌, ◌||◌, not, if◌then◌else◌}
use Rattle.std.proofs.lemmas.Bool.Decides.{nat_tests}
use Rattle.v8_meaning.specs.declared.operation.Operation.{Operation}
use Rattle.v8_meaning.specs.Admitted.{is_admitted}
use Rattle.sbx_image.specs.Cell.{Cell}
use Rattle.sbx_image.specs.Parts.{Parts}
use Rattle.sbx_image.specs.Range.{Range}
use Rattle.sbx_flat.specs.Effects.{does}
use Rattle.sbx_flat.specs.Registers.{Fresh, IsFresh}
use Rattle.sbx_flat.specs.declared.path.Place.{Place}
use Rattle.sbx_flat.specs.Runs.{reached_by, weight_at, weight_of, weight_of_word}
use Rattle.sbx_flat.specs.States.{State, Turn}
use Rattle.sbx_flat.specs.Turns.{asked, turn, word_at}
use Rattle.sbx_flat.proofs.Turns.{performs_admitted, place_at_word, turn_at}
use Rattle.sbx_rules.specs.Fuel.{IsPaid}
use Rattle.sbx_rules.specs.Rules.{has_cells, has_range, is_defined, is_some}
use Rattle.sbx_rules.specs.Operations.{is_call, is_return}
use Rattle.sbx_rules.specs.Fits.{Fits}
use Rattle.sbx_rules.specs.Known.{Known, started, range_of_entry}
use Rattle.sbx_rules.specs.Ways.{Next, To, cells_at, fuel_at, state_at, weight_to}
use Rattle.sbx_image.specs.Order.{address_of, function_at}
use Rattle.sbx_rules.specs.Places.{op_at, op_before, word_of_place}
use Rattle.sbx_sound.proofs.Running.{After, IsThere, straight_visit, tests, window_of, bytes_of}
use Rattle.sbx_sound.proofs.Shared.{AreStored, KnownParts, Shared, Shows, Window}
use Rattle.sbx_rules.specs.Transfer.{transferred}
use Rattle.sbx_sound.proofs.Arrivals.{Left, after_edge, after_next, after_no_call, after_plain, goes_straight, left_by}
use Rattle.sbx_sound.proofs.Effects.{Reaches}
use Rattle.sbx_sound.proofs.Ledger.{numbers, starts_have}
use Rattle.sbx_sound.proofs.Safe.{ShowsSpot, ShowsStand, Spot, Stand, Steps}

-- ---- less is known

pub record IsLess (known now : KnownParts) : Type 0 where
  pub location : (l : ℕ) → now.location l ≡ true → known.location l ≡ true
  pub codes : now.codes ≡ true → known.codes ≡ true
  pub y : now.y ≡ true → known.y ≡ true

pub less_shows : (window : Window) (known now : KnownParts) (k : Shared) (s : State) → IsLess known now → Shows window known k s → Shows window now k s
less_shows window known now k s less shows =
    let file = shows.file in
    record {
      rest = shows.rest;
      file = record { base_is = file.base_is; words_are = λ l h. file.words_are l (less.location l h); calls_are = file.calls_are; slots = file.slots; below = file.below };
      codes = λ h. shows.codes (less.codes h);
      y = λ h. shows.y (less.y h);
    }

pub reaches_on : (t : Turn) (P Q : State → Type 0) → ((s : State) → P s → Q s) → Reaches t P → Reaches t Q
reaches_on t P Q f r = record { next = r.next; goes = r.goes; is = f r.next r.is }

-- ---- what a block's start knows is known on the edge

pub some_within : (o : Option Entry) (r : Range) → has_range (range_of_entry o) r ≡ true → is_some o ≡ true
some_within None r h = absurd (cc)
some_within (Some s) r h = refl

pub cells_defined : (d : Known) (cells : List Cell) (l : ℕ) → has_cells d cells ≡ true → is_defined (started cells) l ≡ true → is_defined d l ≡ true
cells_defined d cells l h = starts_have d (λ k e. is_some e ≡ true → is_defined d k ≡ true) cells l h (λ e. absurd (cc)) (λ c here e. some_within (d.entry c.location) c.range here)

pub started_rest : (cells : List Cell) → ((started cells).icc ≡ false) × (is_some (started cells).y ≡ false)
unfolding started
started_rest cells = (refl, refl)

fewer_tests : (l : ℕ) (a b c : Bool) → (a ≡ true → b ≡ true) → (not (l == 0) && (a || ((l == 15) && false))) ≡ true → (not (l == 0) && (b || ((l == 15) && c))) ≡ true
fewer_tests l a b c f h = grind (arith, nat_tests)

module _ (parts : Parts) where
  pub starts_with_less : (d : Known) (cells : List Cell) (linked : Bool) → has_cells d cells ≡ true → IsLess (tests parts d linked) (tests parts (started cells) false)
  starts_with_less d cells linked h = record {
    location = λ l e. fewer_tests l (is_defined (started cells) l) (is_defined d l) linked (cells_defined d cells l h) e;
    codes = λ e. absurd (let f = (started_rest cells).0 in cc);
    y = λ e. absurd (let f = (started_rest cells).1 in cc);
  }

  -- ---- a step from a word that runs

  place_weight : (place : Place) (op : Operation) (word : ℕ) → place.annulled ≡ false → word_at parts.words place.pc ≡ Some word → asked word ≡ op → weight_at parts place ≡ weight_of op
  unfolding weight_at
  place_weight place op word straight here same = ap (λ (b : Bool). if b then 1 else weight_of_word (word_at parts.words place.pc)) straight ∙ ap weight_of_word here ∙ ap weight_of same

  -- the code word of a place, which sandboxed code may have
  pub record IsWord (f b i : ℕ) : Type 0 where
    pub code : word_at parts.words (address_of parts f b i) ≡ Some (word_of_place parts f b i)
    pub admitted : is_admitted (op_at parts f b i) ≡ true

  pub steps_by : (w : ℕ) (p : Spot parts w) → IsWord p.f p.b p.i → p.v.annulled ≡ false → (reached : Option ℕ)
      → ((s : State) → ShowsSpot parts w p s → reached_by (op_at parts p.f p.b p.i) s ≡ reached)
      → (next : Stand parts (w + weight_of (op_at parts p.f p.b p.i)))
      → ((fresh : Fresh) → IsFresh fresh → (s : State) → ShowsSpot parts w p s →
      Reaches (does parts fresh (op_at parts p.f p.b p.i) s) (ShowsStand parts (w + weight_of (op_at parts p.f p.b p.i)) next))
      → Steps parts w p
  steps_by w p word runs reached reaches next goes =
      let op = op_at parts p.f p.b p.i in
      let place : Place = record { pc = p.k.pc; annulled = false; address = reached } in
      let at_word : word_at parts.words p.k.pc ≡ Some (word_of_place parts p.f p.b p.i) = ap (word_at parts.words) p.at.pc ∙ word.code in
      let weighs : w + weight_of op ≡ w + weight_at parts place = ap (λ x. w + x) (sym (place_weight place op (word_of_place parts p.f p.b p.i) refl at_word refl)) in
      let there : (s : State) → ShowsSpot parts w p s → word_at parts.words s.pc ≡ Some (word_of_place parts p.f p.b p.i) = λ s h. ap (word_at parts.words) h.rest.pc ∙ at_word in
      let straight : (s : State) → ShowsSpot parts w p s → s.annulled ≡ false = λ s h. h.rest.annulled ∙ p.at.annulled ∙ runs in
      let turns : (fresh : Fresh) (s : State) → ShowsSpot parts w p s → turn parts fresh s ≡ does parts fresh op s =
      λ fresh s h. turn_at parts fresh s (word_of_place parts p.f p.b p.i) (h.rest.exit ∙ p.at.exit) (straight s h) (there s h) ∙ performs_admitted parts fresh op s word.admitted in
      let Next : ℕ → Type 0 = λ n. (st : Stand parts n) × ((fresh : Fresh) → IsFresh fresh → (s : State) → ShowsSpot parts w p s → Reaches (turn parts fresh s) (ShowsStand parts n st)) in
      let here : Next (w + weight_of op) = (next, λ fresh is_fresh s h. (let r = goes fresh is_fresh s h in record { next = r.next; goes = turns fresh s h ∙ r.goes; is = r.is })) in
      let moved = subst Next weighs here in
      record {
        place = place;
        place_is = λ s h. place_at_word parts s (word_of_place parts p.f p.b p.i) (straight s h) (there s h)
            ∙ ap (λ (x : ℕ). record { pc = x; annulled = false; address = reached_by op s }) h.rest.pc
            ∙ ap (λ (x : Option ℕ). record { pc = p.k.pc; annulled = false; address = x }) (reaches s h);
        comes = moved.0;
        goes = moved.1;
      }

  -- ---- plain words

  abbrev pub op_of : (w : ℕ) → Spot parts w → Operation
  op_of w p = op_at parts p.f p.b p.i

  abbrev pub linked_at : (w : ℕ) → Spot parts w → Bool
  linked_at w p = is_call (op_before parts p.f p.b p.i)

  abbrev pub known_then : (w : ℕ) → Spot parts w → Known
  known_then w p = transferred (function_at parts p.f).frame (op_of w p) p.v.known

  -- What a word does that neither transfers control nor changes frames: in what is shared, and in every state that shows it.
  pub record Does (w : ℕ) (p : Spot parts w) : Type 0 where
    pub left : Left
    pub fits : Fits p.start (known_then w p) left.words left.icc left.y
    pub link : left.words 15 ≡ p.k.words 15
    pub stored : AreStored parts.regions left.memory left.input
    pub reached : Option ℕ
    pub reaches : (s : State) → ShowsSpot parts w p s → reached_by (op_of w p) s ≡ reached
    pub goes : (fresh : Fresh) (s : State) → ShowsSpot parts w p s →
        Reaches (does parts fresh (op_of w p) s)
        (Shows (window_of (function_at parts p.f) p.b p.i) (tests parts (known_then w p) (linked_at w p)) (left_by left p.k))

  next_known : (f b i : ℕ) (d : Known) → is_call (op_before parts f b i) ≡ false → d ≡ state_at parts f b i → transferred (function_at parts f).frame (op_at parts f b i) d ≡ state_at parts f b (suc i)
  unfolding state_at
  next_known f b i d no_call same = ap (transferred (function_at parts f).frame (op_at parts f b i)) same ∙ sym (after_no_call parts f b i (state_at parts f b i) no_call)

  -- to the next word of the block
  pub plain_next : (w : ℕ) (p : Spot parts w) → IsWord p.f p.b p.i → p.v.annulled ≡ false → p.v.way ≡ Next → p.v.known ≡ state_at parts p.f p.b p.i
      → linked_at w p ≡ false → is_return (op_before parts p.f p.b p.i) ≡ false → goes_straight (op_of w p) ≡ true → is_call (op_of w p) ≡ false
      → bytes_of (function_at parts p.f) p.b p.i ≡ bytes_of (function_at parts p.f) p.b (suc p.i)
      → window_of (function_at parts p.f) p.b p.i ≡ window_of (function_at parts p.f) p.b (suc p.i)
      → IsThere parts p.f p.b (suc p.i)
      → Does w p → Steps parts w p
  plain_next w p word runs way known no_link no_return straight no_call same_bytes same_window follows d =
      let n = w + weight_of (op_of w p) in
      let k = left_by d.left p.k in
      let e = next_known p.f p.b p.i p.v.known no_link known in
      let after = after_plain parts w p.k p.f p.b p.i p.v p.start d.left no_link no_return runs same_bytes d.fits d.stored p.at in
      let after_there : After parts n k p.f p.b p.i (state_at parts p.f p.b (suc p.i)) Next p.start =
      subst (λ y. After parts n k p.f p.b p.i (state_at parts p.f p.b (suc p.i)) y p.start) way (subst (λ x. After parts n k p.f p.b p.i x p.v.way p.start) e after) in
      let at = after_next parts n k p.f p.b p.i p.start straight no_call follows after_there in
      let next : Spot parts n = record { k = k; f = p.f; b = p.b; i = suc p.i; v = straight_visit parts p.f p.b (suc p.i); start = p.start; at = at } in
      let shown : (s : State) → Shows (window_of (function_at parts p.f) p.b p.i) (tests parts (known_then w p) (linked_at w p)) k s → ShowsSpot parts n next s =
      λ s h. (let h1 = subst (λ x. Shows x (tests parts (known_then w p) (linked_at w p)) k s) same_window h in
      let h2 = subst (λ x. Shows (window_of (function_at parts p.f) p.b (suc p.i)) (tests parts x (linked_at w p)) k s) e h1 in
      subst (λ x. Shows (window_of (function_at parts p.f) p.b (suc p.i)) (tests parts (state_at parts p.f p.b (suc p.i)) x) k s) (no_link ∙ sym no_call) h2) in
      steps_by w p word runs d.reached d.reaches (inl next) (λ fresh is_fresh s h. reaches_on _ _ _ shown (d.goes fresh s h))

  -- to a block of the function
  pub plain_edge : (w : ℕ) (p : Spot parts w) (t : ℕ) → IsWord p.f p.b p.i → p.v.annulled ≡ false → p.v.way ≡ To t → t ≢ 0
      → linked_at w p ≡ false → is_return (op_before parts p.f p.b p.i) ≡ false
      → bytes_of (function_at parts p.f) p.b p.i ≡ bytes_of (function_at parts p.f) p.b (suc p.i)
      → window_of (function_at parts p.f) p.b p.i ≡ window_of (function_at parts p.f) t 0
      → has_cells (known_then w p) (cells_at parts p.f t) ≡ true
      → IsPaid (state_at parts p.f p.b 0) (fuel_at parts p.f p.b) (weight_to parts p.f p.b (suc p.i)) (known_then w p) (fuel_at parts p.f t)
      → IsThere parts p.f t 0
      → Does w p → Steps parts w p
  unfolding state_at
  plain_edge w p t word runs way some no_link no_return same_bytes same_window cells paid follows d =
      let n = w + weight_of (op_of w p) in
      let k = left_by d.left p.k in
      let after = after_plain parts w p.k p.f p.b p.i p.v p.start d.left no_link no_return runs same_bytes d.fits d.stored p.at in
      let after_there : After parts n k p.f p.b p.i (known_then w p) (To t) p.start = subst (λ y. After parts n k p.f p.b p.i (known_then w p) y p.start) way after in
      let at = after_edge parts n k p.f p.b p.i t (known_then w p) p.start some cells paid follows after_there in
      let next : Spot parts n = record { k = k; f = p.f; b = t; i = 0; v = straight_visit parts p.f t 0; start = numbers k.words; at = at } in
      let shown : (s : State) → Shows (window_of (function_at parts p.f) p.b p.i) (tests parts (known_then w p) (linked_at w p)) k s → ShowsSpot parts n next s =
      λ s h. (let h1 = subst (λ x. Shows x (tests parts (known_then w p) (linked_at w p)) k s) same_window h in
      less_shows (window_of (function_at parts p.f) t 0) (tests parts (known_then w p) (linked_at w p)) (tests parts (state_at parts p.f t 0) false) k s
      (starts_with_less (known_then w p) (cells_at parts p.f t) (linked_at w p) cells) h1) in
      steps_by w p word runs d.reached d.reaches (inl next) (λ fresh is_fresh s h. reaches_on _ _ _ shown (d.goes fresh s h))
