-- A program beside a flat run: from a word to the next one, and over a delay slot.
use Rattle.std.proofs.Common.{◌≡◌, ℕ, ◌+◌, ◌<◌, ◌≤◌, true, false, List, [], ◌∷◌, ◌++◌, Some, None, refl, sym, ap, ◌∙◌, subst}
use Rattle.std.specs.Prelude.{slice_index}
use Rattle.v8_meaning.specs.Operands.{following}
use Rattle.v8_meaning.specs.declared.operation.Operation.{Operation}
use Rattle.sbx_image.specs.Parts.{Parts}
use Rattle.sbx_flat.specs.Effects.{performs}
use Rattle.sbx_flat.specs.Registers.{Fresh}
use Rattle.sbx_flat.specs.declared.path.Place.{Place}
use Rattle.sbx_flat.specs.Runs.{AreBytes, Behaves, FlatRun, place_of, weight}
use Rattle.sbx_flat.specs.States.{State, Goes, advanced}
use Rattle.sbx_flat.specs.Traffic.{after_operation, no_traffic, traffic}
use Rattle.sbx_flat.specs.declared.path.Traffic.{Traffic}
use Rattle.sbx_flat.specs.Turns.{goes_on, turn, word_at}
use Rattle.sbx_rules.specs.Operations.{is_transfer}
use Rattle.sbx_rules.specs.Verdicts.{Checked}
use Rattle.sbx_sound.specs.Law.{IsFormed}
use Rattle.native_lang.specs.Counts.{makes}
use Rattle.native_lang.specs.World.{World}
use Rattle.native_lang.specs.declared.stmt.Stmt.{Stmt}
use Rattle.native_results.specs.DoesAll.{does_all}
use Rattle.native_results.specs.ShowsState.{ShowsState, fresh_words}
use Rattle.native_results.specs.Words.{IsWordOf, counts_after, is_straight}
use Rattle.native_ends.specs.Translations.{AsksFor, Begins, HasSlot, IsMadeSlot, turns_of}
use Rattle.native_ends.proofs.Counts.{annulled_counted, makes_more, straight_counts, word_counted}
use Rattle.native_ends.proofs.Flat.{Onto, counts_more, performed, stands, steps, well}
use Rattle.native_ends.proofs.Onwards.{GoesOnFrom, goes_on_from}
use Rattle.native_ends.proofs.Spots.{InSlot, Shown, asks_at, begins_behind, shown, slot_straight}
use Rattle.native_ends.proofs.Worlds.{elsewhere_shows, fresh_are_words}

module _ (parts : Parts) (formed : IsFormed parts) (checked : Checked parts) (input output : List ℕ) (bytes : AreBytes input) (status : ℕ) (path : List Place)
    (behaves : Behaves parts input output status path) (n : ℕ) where
  abbrev pub Runs : List Place → State → Type 0
  Runs way s = FlatRun parts input way s

  abbrev pub longer : List Place → State → List Place
  longer way s = way ++ place_of parts s ∷ []

  -- A flat run up to a state without an exit word, the world that shows it, and the run's counts, of which so many turns are pending.
  pub record Beside (way : List Place) (s : State) (w : World) (counts : Traffic) (turns : ℕ) : Type 0 where
    pub run : Runs way s
    pub open_now : s.exit ≡ None
    pub shows : ShowsState parts w s
    pub counted : traffic parts n way ≡ makes turns counts

  -- Before a word that is in no slot.
  pub record Before (way : List Place) (s : State) (w : World) (counts : Traffic) (turns : ℕ) : Type 0 where
    pub beside : Beside way s w counts turns
    pub runs : s.annulled ≡ false
    pub npc : s.npc ≡ following s.pc

  shown_at : (way : List Place) (s : State) → Runs way s → s.exit ≡ None → Shown parts formed checked s
  shown_at way s run open_now = shown parts formed checked s (stands parts formed checked input output bytes status path behaves way s run) open_now

  pub spot_at : (way : List Place) (s : State) (w : World) (counts : Traffic) (turns : ℕ) → Beside way s w counts turns → Shown parts formed checked s
  spot_at way s w counts turns h = shown_at way s h.run h.open_now

  -- A flat step with the words of the world, which comes to this state.
  pub record Moved (way : List Place) (s to : State) : Type 0 where
    pub run : Runs (longer way s) to
    pub weighs : weight parts way + 1 ≤ weight parts (longer way s)

  onto : (way : List Place) (s : State) (w : World) (counts : Traffic) (turns : ℕ) → Beside way s w counts turns → Onto parts formed checked input output bytes status path behaves way s (fresh_words w)
  onto way s w counts turns h =
      steps parts formed checked input output bytes status path behaves way s (fresh_words w)
      (fresh_are_words parts w s (well parts formed checked input output bytes status path behaves way s h.run) h.shows) h.run h.open_now

  -- by what the word comes to
  pub moves : (way : List Place) (s : State) (w : World) (counts : Traffic) (turns : ℕ) (op : Operation) (to : State) → Beside way s w counts turns → s.annulled ≡ false → AsksFor parts s.pc op →
      ((next : State) → performs parts (fresh_words w) op s ≡ Goes next → next ≡ to) → Moved way s to
  moves way s w counts turns op to h runs asks is =
      let on = onto way s w counts turns h in
      let same = is on.next (performed parts formed checked input output bytes status path behaves way s (fresh_words w) op on h.open_now runs asks) in
      record { run = subst (λ x. Runs (longer way s) x) same on.run; weighs = on.weighs }

  -- there is one
  pub a_step : (way : List Place) (s : State) (w : World) (counts : Traffic) (turns : ℕ) (op : Operation) → Beside way s w counts turns → s.annulled ≡ false → AsksFor parts s.pc op →
      (next : State) × (performs parts (fresh_words w) op s ≡ Goes next)
  a_step way s w counts turns op h runs asks =
      let on = onto way s w counts turns h in
      (on.next, performed parts formed checked input output bytes status path behaves way s (fresh_words w) op on h.open_now runs asks)

  pub counts_word : (way : List Place) (s : State) (w : World) (counts : Traffic) (turns : ℕ) (op : Operation) → Beside way s w counts turns → s.annulled ≡ false → AsksFor parts s.pc op →
      traffic parts n (longer way s) ≡ after_operation n op (makes turns counts)
  counts_word way s w counts turns op h runs asks =
      counts_more parts n way (place_of parts s) no_traffic ∙ word_counted parts n s op (traffic parts n way) runs asks ∙ ap (after_operation n op) h.counted

  -- ---- a straight word

  pub record Worded (way : List Place) (s : State) (w : World) (counts : Traffic) (turns : ℕ) (op : Operation) (made : List Stmt) : Type 0 where
    pub next : State
    pub new : World
    pub done : does_all n made w ≡ Some new
    pub counts_are : new.counts ≡ counts_after n op w.counts
    pub beside : Beside (longer way s) next new (counts_after n op counts) (turns + turns_of op)
    pub on : GoesOnFrom s next
    pub kept : (x : ℕ) → 43 ≤ x → x < 45 → slice_index new.variables x ≡ slice_index w.variables x
    pub weighs : weight parts way + 1 ≤ weight parts (longer way s)

  pub worded : (way : List Place) (s : State) (w : World) (counts : Traffic) (turns : ℕ) (op : Operation) (made : List Stmt) → Beside way s w counts turns → s.annulled ≡ false →
      AsksFor parts s.pc op → is_straight op ≡ true → IsWordOf op made → Worded way s w counts turns op made
  worded way s w counts turns op made h runs asks straight is =
      let on = onto way s w counts turns h in
      let performs_it = performed parts formed checked input output bytes status path behaves way s (fresh_words w) op on h.open_now runs asks in
      let further = goes_on_from parts (fresh_words w) op s on.next straight performs_it in
      let comes = is.comes n parts s on.next w (well parts formed checked input output bytes status path behaves way s h.run) h.shows performs_it in
      record {
        next = on.next;
        new = comes.new;
        done = comes.done;
        beside = record {
          run = on.run;
          open_now = further.exit ∙ h.open_now;
          shows = comes.shows;
          counted = counts_word way s w counts turns op h runs asks ∙ straight_counts n op turns counts straight;
        };
        counts_are = comes.counts;
        on = further;
        kept = comes.kept;
        weighs = on.weighs;
      }

  -- ---- a delay slot

  -- Behind it, where a block begins.
  pub record Behind (way : List Place) (s : State) (w : World) (counts : Traffic) (turns : ℕ) (made : List Stmt) (slot : Traffic → Traffic) : Type 0 where
    pub last : List Place
    pub next : State
    pub new : World
    pub done : does_all n made w ≡ Some new
    pub counts_are : new.counts ≡ slot w.counts
    pub before : Before last next new (slot counts) turns
    pub begins : Begins parts next.pc
    pub pc : next.pc ≡ s.npc
    pub kept : (x : ℕ) → 43 ≤ x → x < 45 → slice_index new.variables x ≡ slice_index w.variables x
    pub weighs : weight parts way + 1 ≤ weight parts last

  pub made_slot : (way : List Place) (s : State) (w : World) (counts : Traffic) (turns : ℕ) (op slot : Operation) (made : List Stmt) → Beside way s w counts turns → s.annulled ≡ false →
      InSlot parts formed checked s op → is_transfer op ≡ true → AsksFor parts s.pc slot → IsMadeSlot slot made → Behind way s w counts (turns + turns_of slot) made (counts_after n slot)
  made_slot way s w counts turns op slot made h runs here transfers asks is =
      let straight = slot_straight parts formed checked s op slot here transfers asks in
      let there = worded way s w counts turns slot made h runs asks straight (is straight) in
      record {
        last = longer way s;
        next = there.next;
        new = there.new;
        done = there.done;
        counts_are = there.counts_are;
        before = record { beside = there.beside; runs = there.on.annulled ∙ runs; npc = there.on.npc ∙ ap following (sym there.on.pc) };
        begins = begins_behind parts formed checked s there.next op here transfers (spot_at (longer way s) there.next there.new (counts_after n slot counts) (turns + turns_of slot) there.beside) there.on.pc;
        pc = there.on.pc;
        kept = there.kept;
        weighs = there.weighs;
      }

  passed_turn : (fresh : Fresh) (s : State) → s.exit ≡ None → s.annulled ≡ true → turn parts fresh s ≡ Goes (advanced (record s { annulled = false }))
  unfolding turn
  passed_turn fresh s open_now annulled = ap (λ x. goes_on parts fresh s x s.annulled) open_now ∙ ap (goes_on parts fresh s None) annulled

  one_state : (a b : State) → Goes a ≡ Goes b → a ≡ b
  one_state a b e = cc

  pub annulled_slot : (way : List Place) (s : State) (w : World) (counts : Traffic) (turns : ℕ) (op : Operation) → Beside way s w counts turns → s.annulled ≡ true →
      InSlot parts formed checked s op → is_transfer op ≡ true → Behind way s w counts (turns + 1) [] (λ t. t)
  annulled_slot way s w counts turns op h annulled here transfers =
      let on = onto way s w counts turns h in
      let to : State = advanced (record s { annulled = false }) in
      let same = one_state on.next to (sym on.is ∙ passed_turn (fresh_words w) s h.open_now annulled) in
      let run : Runs (longer way s) to = subst (λ x. Runs (longer way s) x) same on.run in
      let beside : Beside (longer way s) to w counts (turns + 1) = record {
        run = run;
        open_now = h.open_now;
        shows = elsewhere_shows parts w s s.npc (following s.npc) false s.exit h.shows;
        counted = counts_more parts n way (place_of parts s) no_traffic ∙ annulled_counted parts n s (traffic parts n way) annulled ∙ ap (makes 1) h.counted ∙ makes_more turns 1 counts;
      } in
      record {
        last = longer way s;
        next = to;
        new = w;
        done = refl;
        counts_are = refl;
        before = record { beside = beside; runs = refl; npc = refl };
        begins = begins_behind parts formed checked s to op here transfers (spot_at (longer way s) to w counts (turns + 1) beside) refl;
        pc = refl;
        kept = λ x low high. refl;
        weighs = on.weighs;
      }

  -- what the slot asks for
  pub slot_asks : (s : State) (a : ℕ) (slot : Operation) → Shown parts formed checked s → s.pc ≡ following a → HasSlot parts a slot → AsksFor parts s.pc slot
  slot_asks s a slot spot at has =
      let there = asks_at parts formed checked s spot in
      (there.0, there.1, has there.0 (ap (word_at parts.words) (sym at) ∙ there.1))
