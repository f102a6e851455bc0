-- Where a run of a checked image goes from a word: to the next word of the piece, or from a piece's last word to a
-- piece's first one.
use Rattle.std.proofs.Common.{◌≡◌, ℕ, zero, suc, ◌+◌, ◌*◌, ◌<◌, ◌≤◌, Bool, true, false, List, [], ◌∷◌, length, Some, refl, sym, ap, ◌∙◌, subst, inl, inr, arith}
use Rattle.std.specs.Prelude.{◌⊎◌, ◌&&◌, ◌||◌, nat_lt, if◌then◌else◌}
use Rattle.std.proofs.lemmas.Bool.Decides.{nat_tests}
use Rattle.std.proofs.lemmas.Option.{slice_get_past}
use Rattle.v8_formats.specs.declared.instr.Branch.{Branch}
use Rattle.v8_meaning.specs.Operands.{following, is_always}
use Rattle.v8_meaning.specs.declared.operation.Operation.{Operation}
use Rattle.v8_meaning.specs.declared.operation.Operation.TheVariants.{BranchOnCondition, Call, JumpAndLink}
use Rattle.sbx_image.specs.Rules.{code_start}
use Rattle.sbx_image.specs.Parts.{Parts}
use Rattle.sbx_image.specs.Order.{address_of, function_at, or_block, words_in}
use Rattle.sbx_image.proofs.Ordered.{have_places}
use Rattle.sbx_rules.specs.Operations.{is_call, is_return, is_transfer}
use Rattle.sbx_rules.specs.Places.{IsPlace, callee_at, callee_before, callee_of, ends_run, op_at, op_before}
use Rattle.sbx_rules.specs.Rules.{is_inner_edge, is_past}
use Rattle.sbx_rules.specs.Verdicts.{Checked}
use Rattle.sbx_rules.specs.Ways.{Astray, Back, Next, Over, Past, To, Visit, Way, branch_way, falls, falls_to, state_at}
use Rattle.sbx_sound.specs.Law.{IsFormed}
use Rattle.sbx_sound.proofs.Arrivals.{follows_plainly, goes_straight}
use Rattle.sbx_sound.proofs.Asked.{branches_well, calls_later}
use Rattle.sbx_sound.proofs.FromChecked.{goes_somewhere}
use Rattle.sbx_sound.proofs.Order.{IsOrdered}
use Rattle.sbx_sound.proofs.Ordered.{next_address}
use Rattle.sbx_sound.proofs.Returning.{slot_is_plain}
use Rattle.sbx_sound.proofs.Running.{AreOpen, Follows, GoesTo, IsVisit, back_of, entry_of, straight_visit}
use Rattle.sbx_sound.proofs.Shared.{Open}
use Rattle.sbx_sound.proofs.Straight.{some_callee}
use Rattle.sbx_range.specs.Refining.{opposite}
use Rattle.sbx_rules.specs.Refining.{refined}
use Rattle.sbx_sound.proofs.Visits.{IsWay, visit_is_return, visit_is_straight, visit_is_way}
use Rattle.sbx_sound.proofs.Wells.{call_transfers, callee_place}
use Rattle.sbx_sound.proofs.Whole.{order}

-- a word that is a transfer's slot, or ends the run
abbrev pub turns_off : Operation → Operation → Bool
turns_off before op = is_transfer before || ends_run op

-- a branch on a condition
abbrev pub branches : Operation → Bool
branches (BranchOnCondition c) = true
branches _ = false

-- ---- ways

-- on to a word
abbrev IsOn : Way → Type 0
IsOn Next = Unit {0}
IsOn (To t) = Unit {0}
IsOn _ = ⊥

falls_on : (ends : Bool) (words blocks b i : ℕ) → ends ≡ false → is_past (falls_to ends words blocks b i) ≡ false → IsOn (falls_to ends words blocks b i)
falls_on true words blocks b i e past = absurd (cc)
falls_on false words blocks b i e past = by_words (nat_lt (i + 1) words) past
  where
    by_blocks : (t : Bool) → is_past (if t then To (b + 1) else Past) ≡ false → IsOn (if t then To (b + 1) else Past)
    by_blocks true h = tt
    by_blocks false h = absurd (cc)

    by_words : (t : Bool) → is_past (if t then Next else (if nat_lt (b + 1) blocks then To (b + 1) else Past)) ≡ false →
        IsOn (if t then Next else (if nat_lt (b + 1) blocks then To (b + 1) else Past))
    by_words true h = tt
    by_words false h = by_blocks (nat_lt (b + 1) blocks) h

inner_on : (way : Way) → is_inner_edge way ≡ true → IsOn way
inner_on (To t) h = tt
inner_on Next h = absurd (cc)
inner_on Back h = absurd (cc)
inner_on Over h = absurd (cc)
inner_on Past h = absurd (cc)
inner_on Astray h = absurd (cc)

inner_word : (words blocks b i : ℕ) → suc i < words → falls_to false words blocks b i ≡ Next
inner_word words blocks b i less =
    let e : nat_lt (i + 1) words ≡ true = grind (arith, nat_tests) in
    ap (λ (t : Bool). if t then Next else (if nat_lt (b + 1) blocks then To (b + 1) else Past)) e

-- ---- operations

plain_before : (op : Operation) → is_transfer op ≡ false → (goes_straight op ≡ true) × (is_call op ≡ false) × (is_return op ≡ false)
plain_before (Call d) h = absurd (cc)
plain_before (JumpAndLink j) h = absurd (cc)
plain_before (BranchOnCondition c) h = absurd (cc)
plain_before _ h = (refl, refl, refl)

calls_some : (parts : Parts) (pc : ℕ) (op : Operation) (g : ℕ) → callee_of parts pc op ≡ Some g → is_call op ≡ true
calls_some parts pc (Call d) g e = refl
calls_some parts pc _ g e = absurd (cc)

neither : (a b : Bool) → (a || b) ≡ false → (a ≡ false) × (b ≡ false)
neither false false h = (refl, refl)
neither true b h = absurd (cc)
neither false true h = absurd (cc)

pub either_of : (a b : Bool) → a ≡ true → (a || b) ≡ true
either_of true b h = refl
either_of false b h = absurd (cc)

pub other_of : (a b : Bool) → b ≡ true → (a || b) ≡ true
other_of true b h = refl
other_of false b h = h

-- ---- pieces

module _ (parts : Parts) where
  -- whether a piece ends with word i of a block, by the words
  abbrev pub turns_at : ℕ → ℕ → ℕ → Bool
  turns_at f b i = turns_off (op_before parts f b i) (op_at parts f b i)

  -- no word of its piece stands before it
  abbrev pub IsFirst : ℕ → ℕ → ℕ → Type 0
  IsFirst f b zero = Unit {0}
  IsFirst f b (suc i) = turns_at f b i ≡ true

  -- none stands behind it
  abbrev pub IsLast : ℕ → ℕ → ℕ → Type 0
  IsLast f b i = (turns_at f b i ≡ true) ⊎ (suc i ≡ words_in parts f b)

  -- the next word of the same piece
  pub record IsNext (f b i g c j : ℕ) : Type 0 where
    pub function : g ≡ f
    pub block : c ≡ b
    pub word : j ≡ suc i
    pub on : turns_at f b i ≡ false

  pub record Turns (f b i g c j : ℕ) : Type 0 where
    pub last : IsLast f b i
    pub first : IsFirst g c j

  first_of_block : (g c j : ℕ) → j ≡ 0 → IsFirst g c j
  first_of_block g c zero e = tt
  first_of_block g c (suc j) e = absurd (omega (arith, e))

  before_it : (f b i : ℕ) → IsPlace parts f b (suc i) → IsPlace parts f b i
  before_it f b i place = record { function = place.function; block = place.block; word = (let h = place.word in omega (arith, h)) }

  four_back : (f b i g c j : ℕ) → address_of parts g c (suc j) ≡ address_of parts f b (suc i) → address_of parts g c j ≡ address_of parts f b i
  unfolding address_of
  four_back f b i g c j e = omega (arith, e)

  no_such_block : (f t : ℕ) → length (function_at parts f).blocks ≤ t → address_of parts f t 0 ≡ 0
  unfolding address_of
  no_such_block f t past = ap (λ o. (or_block o).address + 0) (slice_get_past (function_at parts f).blocks t past)

module _ (parts : Parts) (formed : IsFormed parts) (checked : Checked parts) where
  ordered : IsOrdered parts
  ordered = order parts formed checked

  code_word_at : (f b i : ℕ) → IsPlace parts f b i → (k : ℕ) × (k < length parts.words) × (address_of parts f b i ≡ code_start + 4 * k)
  code_word_at f b i place = (ordered.blocks f b place.function place.block).each i place.word

  in_code : (f b i : ℕ) → IsPlace parts f b i → address_of parts f b i ≡ 0 → ⊥
  in_code f b i place e = let w = (code_word_at f b i place).2 in absurd (omega (arith, w, e))

  -- one word stands at an address
  pub same_place : (f b i g c j : ℕ) → IsPlace parts f b i → IsPlace parts g c j → address_of parts g c j ≡ address_of parts f b i → (g ≡ f) × (c ≡ b) × (j ≡ i)
  same_place f b i g c j one other same =
      let w = code_word_at f b i one in
      let has = have_places parts formed.kept w.0 w.1 in
      let this = has.only f b i (record { block = (one.function, one.block); word = one.word; there = w.2 }) in
      let that = has.only g c j (record { block = (other.function, other.block); word = other.word; there = same ∙ w.2 }) in
      (that.0 ∙ sym this.0, that.1 ∙ sym this.1, that.2 ∙ sym this.2)

  -- behind a piece's last word
  after_last : (f b i g c j : ℕ) → IsPlace parts f b i → IsLast parts f b i → IsPlace parts g c j → address_of parts g c j ≡ address_of parts f b (suc i) → IsFirst parts g c j
  after_last f b i g c zero place last other e = tt
  after_last f b i g c (suc j) place last other e =
      let same = same_place f b i g c j place (before_it parts g c j other) (four_back parts f b i g c j e) in
      by_last last same.0 same.1 same.2
    where
      by_last : IsLast parts f b i → g ≡ f → c ≡ b → j ≡ i → IsFirst parts g c (suc j)
      by_last (inl turns) p q r =
          subst (λ n. turns_at parts n c j ≡ true) (sym p) (subst (λ n. turns_at parts f n j ≡ true) (sym q) (subst (λ n. turns_at parts f b n ≡ true) (sym r) turns))
      by_last (inr ends) p q r =
          let less = other.word in
          let count : words_in parts g c ≡ words_in parts f b = ap (λ n. words_in parts n c) p ∙ ap (words_in parts f) q in
          absurd (omega (arith, less, count, ends, r))

  -- where a block begins
  block_first : (f t g c j : ℕ) → f < length parts.functions → IsPlace parts g c j → address_of parts g c j ≡ address_of parts f t 0 → IsFirst parts g c j
  block_first f t g c j in_f other e = by_test (nat_lt t (length (function_at parts f).blocks)) refl
    where
      by_test : (x : Bool) → nat_lt t (length (function_at parts f).blocks) ≡ x → IsFirst parts g c j
      by_test true h =
          (let in_b : t < length (function_at parts f).blocks = grind (arith, nat_tests) in
          let some = (ordered.blocks f t in_f in_b).some in
          let there : IsPlace parts f t 0 = record { function = in_f; block = in_b; word = omega (arith, some) } in
          first_of_block parts g c j (same_place f t 0 g c j there other e).2)
      by_test false h =
          (let past : length (function_at parts f).blocks ≤ t = grind (arith, nat_tests) in
          absurd (in_code g c j other (e ∙ no_such_block parts f t past)))

  pub start_first : (g c j : ℕ) → 0 < length parts.functions → IsPlace parts g c j → address_of parts g c j ≡ code_start → IsFirst parts g c j
  start_first g c j some other e = block_first 0 0 g c j some other (e ∙ sym ordered.first)

  -- ---- from a word whose slot comes before

  called : (f b j g c n : ℕ) → IsPlace parts f b (suc j) → is_call (op_at parts f b j) ≡ true → IsPlace parts g c n → address_of parts g c n ≡ entry_of parts (callee_before parts f b (suc j)) → IsFirst parts g c n
  called f b j g c n place calls other e =
      let callee = some_callee parts f b j (callee_at parts f b j) (calls_later parts checked f b j (before_it parts f b j place) calls) in
      let within = callee_place parts f b j callee.0 callee.1 in
      block_first callee.0 0 g c n within other (e ∙ ap (entry_of parts) callee.1 ∙ (ordered.entries callee.0 within).1)

  back_follows : (call : Open) (calls : List Open) → call.back ≡ address_of parts call.function call.block call.place →
      back_of parts (call ∷ calls) ≡ following (address_of parts call.function call.block (suc call.place))
  unfolding address_of
  back_follows call calls back = omega (arith, back)

  returned : (f : ℕ) (calls : List Open) (g c n : ℕ) → AreOpen parts f calls → IsPlace parts g c n → address_of parts g c n ≡ back_of parts calls → IsFirst parts g c n
  unfolding callee_at
  returned f [] g c n open_calls other e = absurd (in_code g c n other e)
  returned f (call ∷ calls) g c n open_calls other e =
      let this = open_calls.0 in
      let is = calls_some parts (address_of parts call.function call.block call.place) (op_at parts call.function call.block call.place) f this.calls in
      let turns = either_of (is_transfer (op_at parts call.function call.block call.place)) (ends_run (op_at parts call.function call.block (suc call.place)))
      (call_transfers (op_at parts call.function call.block call.place) is) in
      after_last call.function call.block (suc call.place) g c n this.slot (inl turns) other
      (e ∙ back_follows call calls this.back ∙ next_address parts ordered call.function call.block (suc call.place) this.slot)

  -- ---- from any word

  -- A word of a block on one of its ways, and the address that control goes to after it.
  pub record Leaves (f b i : ℕ) (v : Visit) (calls : List Open) (npc : ℕ) : Type 0 where
    pub place : IsPlace parts f b i
    pub visit : IsVisit parts f b i v
    pub goes : GoesTo parts (is_call (op_before parts f b i)) (is_return (op_before parts f b i)) f b i v.way calls npc
    pub open_calls : AreOpen parts f calls
    pub runs_on : v.annulled ≡ false → ends_run (op_at parts f b i) ≡ false

  module _ (f b i : ℕ) (v : Visit) (calls : List Open) (npc : ℕ) (leaves : Leaves f b i v calls npc) where
    falling : (runs : ends_run (op_at parts f b i) ≡ false) → v.way ≡ falls parts f b i → IsOn v.way
    unfolding falls
    falling runs way =
        let place = leaves.place in
        let past : is_past (falls parts f b i) ≡ false =
        subst (λ y. is_past y ≡ false) way (goes_somewhere parts checked f b i place.function place.block place.word v leaves.visit) in
        subst IsOn (sym way) (falls_on (ends_run (op_at parts f b i)) (words_in parts f b) (length (function_at parts f).blocks) b i runs past)

    straight_on : v ≡ straight_visit parts f b i → IsOn v.way
    straight_on e = falling (leaves.runs_on (ap (λ (x : Visit). x.annulled) e)) (ap (λ (x : Visit). x.way) e)

    -- neither a call nor a return stands before it
    follows_on : (way : Way) (g c n : ℕ) → IsOn way → Follows parts f b i way npc → IsLast parts f b i → IsPlace parts g c n → address_of parts g c n ≡ npc → IsFirst parts g c n
    follows_on Next g c n on h last other e = after_last f b i g c n leaves.place last other (e ∙ h)
    follows_on (To t) g c n on h last other e = block_first f t g c n leaves.place.function other (e ∙ h)
    follows_on Back g c n on h last other e = absurd on
    follows_on Over g c n on h last other e = absurd on
    follows_on Past g c n on h last other e = absurd on
    follows_on Astray g c n on h last other e = absurd on

    plainly : (is_call (op_before parts f b i) ≡ false) → (is_return (op_before parts f b i) ≡ false) → IsOn v.way
        → IsLast parts f b i → (g c n : ℕ) → IsPlace parts g c n → address_of parts g c n ≡ npc → IsFirst parts g c n
    plainly no_call no_return on last g c n other e =
        follows_on v.way g c n on (follows_plainly parts _ _ f b i v.way calls npc no_call no_return leaves.goes) last other e

    -- within a piece
    next_in : turns_at parts f b i ≡ false → suc i < words_in parts f b → (g c n : ℕ) → IsPlace parts g c n → address_of parts g c n ≡ npc → IsNext parts f b i g c n
    unfolding falls
    next_in on less g c n other e =
        let place = leaves.place in
        let both = neither (is_transfer (op_before parts f b i)) (ends_run (op_at parts f b i)) on in
        let plain = plain_before (op_before parts f b i) both.0 in
        let straight = visit_is_straight parts f b i v plain.0 leaves.visit in
        let falls_next : falls parts f b i ≡ Next =
        ap (λ (t : Bool). falls_to t (words_in parts f b) (length (function_at parts f).blocks) b i) both.1
        ∙ inner_word (words_in parts f b) (length (function_at parts f).blocks) b i less in
        let way : v.way ≡ Next = ap (λ (x : Visit). x.way) straight ∙ falls_next in
        let follows = follows_plainly parts _ _ f b i v.way calls npc plain.1 plain.2 leaves.goes in
        let at : npc ≡ address_of parts f b (suc i) = subst (λ y. Follows parts f b i y npc) way follows in
        let there : IsPlace parts f b (suc i) = record { function = place.function; block = place.block; word = less } in
        let same = same_place f b (suc i) g c n there other (e ∙ at) in
        record { function = same.0; block = same.1; word = same.2; on = on }

  branch_on : (f b j : ℕ) (c : Branch) (v : Visit) (calls : List Open) (npc : ℕ) → Leaves f b (suc j) v calls npc → op_at parts f b j ≡ BranchOnCondition c → IsOn v.way
  branch_on f b j c v calls npc leaves is = by_way (visit_is_way parts f b j c v is leaves.visit)
    where
      by_way : IsWay (refined c.cond (state_at parts f b j)) (branch_way parts f b j c.displacement) (c.annul && is_always c.cond) v
          ⊎ IsWay (refined (opposite c.cond) (state_at parts f b j)) (falls parts f b (suc j)) c.annul v
          → IsOn v.way
      by_way (inl way) = subst IsOn (sym way.way_is) (inner_on (branch_way parts f b j c.displacement) (branches_well parts checked f b j (before_it parts f b j leaves.place) c is))
      by_way (inr way) = falling f b (suc j) v calls npc leaves (slot_is_plain parts checked f b j leaves.place (ap is_transfer is)).runs_on way.way_is

  comes_back : (c r : Bool) (f b i : ℕ) (way : Way) (calls : List Open) (npc : ℕ) → c ≡ false → r ≡ true → GoesTo parts c r f b i way calls npc → npc ≡ back_of parts calls
  comes_back false true f b i way calls npc p q h = h
  comes_back true r f b i way calls npc p q h = absurd (cc)
  comes_back false false f b i way calls npc p q h = absurd (cc)

  comes_to : (c r : Bool) (f b i : ℕ) (way : Way) (calls : List Open) (npc : ℕ) → c ≡ true → GoesTo parts c r f b i way calls npc → npc ≡ entry_of parts (callee_before parts f b i)
  comes_to true r f b i way calls npc p h = h
  comes_to false r f b i way calls npc p h = absurd (cc)

  -- behind a piece's last word a piece begins
  first_in : (f b i : ℕ) (v : Visit) (calls : List Open) (npc : ℕ) → Leaves f b i v calls npc → IsLast parts f b i → (g c n : ℕ) → IsPlace parts g c n → address_of parts g c n ≡ npc → IsFirst parts g c n
  first_in f b zero v calls npc leaves last g c n other e =
      plainly f b 0 v calls npc leaves refl refl (straight_on f b 0 v calls npc leaves (visit_is_straight parts f b 0 v refl leaves.visit)) last g c n other e
  first_in f b (suc j) v calls npc leaves last g c n other e = by_before (op_at parts f b j) refl
    where
      straight : goes_straight (op_at parts f b j) ≡ true → is_call (op_at parts f b j) ≡ false → is_return (op_at parts f b j) ≡ false → IsFirst parts g c n
      straight on no_call no_return =
          plainly f b (suc j) v calls npc leaves no_call no_return
          (straight_on f b (suc j) v calls npc leaves (visit_is_straight parts f b (suc j) v on leaves.visit)) last g c n other e

      by_before : (o : Operation) → op_at parts f b j ≡ o → IsFirst parts g c n
      by_before (Call d) is =
          called f b j g c n leaves.place (ap is_call is) other
          (e ∙ comes_to _ _ f b (suc j) v.way calls npc (ap is_call is) leaves.goes)
      by_before (JumpAndLink t) is =
          returned f calls g c n leaves.open_calls other
          (e ∙ comes_back _ _ f b (suc j) v.way calls npc (ap is_call is) (ap is_return is) leaves.goes)
      by_before (BranchOnCondition x) is =
          plainly f b (suc j) v calls npc leaves (ap is_call is) (ap is_return is) (branch_on f b j x v calls npc leaves is) last g c n other e
      by_before _ is = straight (ap goes_straight is) (ap is_call is) (ap is_return is)

  -- where control goes on from a word
  abbrev pub Goes : ℕ → ℕ → ℕ → ℕ → ℕ → ℕ → Type 0
  Goes f b i g c n = IsNext parts f b i g c n ⊎ Turns parts f b i g c n

  pub goes_on : (f b i : ℕ) (v : Visit) (calls : List Open) (npc : ℕ) → Leaves f b i v calls npc → (g c n : ℕ) → IsPlace parts g c n → address_of parts g c n ≡ npc → Goes f b i g c n
  goes_on f b i v calls npc leaves g c n other e = by_turns (turns_at parts f b i) refl
    where
      turns : IsLast parts f b i → Goes f b i g c n
      turns last = inr (record { last = last; first = first_in f b i v calls npc leaves last g c n other e })

      by_count : turns_at parts f b i ≡ false → (x : Bool) → nat_lt (suc i) (words_in parts f b) ≡ x → Goes f b i g c n
      by_count on true h = inl (next_in f b i v calls npc leaves on (let less : suc i < words_in parts f b = grind (arith, nat_tests) in less) g c n other e)
      by_count on false h = turns (inr (let within = leaves.place.word in let past : words_in parts f b ≤ suc i = grind (arith, nat_tests) in omega (arith, within, past)))

      by_turns : (x : Bool) → turns_at parts f b i ≡ x → Goes f b i g c n
      by_turns true h = turns (inl h)
      by_turns false h = by_count h (nat_lt (suc i) (words_in parts f b)) refl

  -- in an annulled slot: a branch stands before it
  pub annulled_slot : (f b i : ℕ) (v : Visit) → IsVisit parts f b i v → v.annulled ≡ true → branches (op_before parts f b i) ≡ true
  annulled_slot f b zero v visit annulled = absurd (let e = visit_is_straight parts f b 0 v refl visit in let runs = ap (λ (x : Visit). x.annulled) e in cc)
  annulled_slot f b (suc j) v visit annulled = by_before (op_at parts f b j) refl
    where
      runs_not : v ≡ straight_visit parts f b (suc j) → ⊥
      runs_not e = let runs = ap (λ (x : Visit). x.annulled) e in cc

      by_before : (o : Operation) → op_at parts f b j ≡ o → branches (op_at parts f b j) ≡ true
      by_before (BranchOnCondition c) is = ap branches is
      by_before (JumpAndLink t) is = absurd (let e = visit_is_return parts f b j t v is visit in let runs = ap (λ (x : Visit). x.annulled) e in cc)
      by_before _ is = absurd (runs_not (visit_is_straight parts f b (suc j) v (ap goes_straight is) visit))

  pub branch_transfers : (op : Operation) → branches op ≡ true → is_transfer op ≡ true
  branch_transfers (BranchOnCondition c) h = refl
  branch_transfers _ h = absurd (cc)
