-- Two boards that a checked image runs on with the same input: step by step the entries of their pages stay the same, up to their ends.
use Rattle.std.proofs.Common.{◌≡◌, ℕ, zero, suc, ◌+◌, ◌-◌, ◌<◌, ◌≤◌, ◌⊎◌, inl, inr, Bool, true, false, List, Option, Some, None, refl, sym, ap, ◌∙◌, subst, arith}
use Rattle.std.specs.Prelude.{slice_index}
use Rattle.v8_map.specs.declared.TheConstants.{CONTEXT_TABLE}
use Rattle.v8_core.specs.Operation.{Operation}
use Rattle.v8_core.specs.Operation.TheVariants.{Restore, Save, Transfer}
use Rattle.v8_core.specs.Transfers.{writes_memory}
use Rattle.v8_core.specs.Stop.{Stop}
use Rattle.v8_core.specs.Stop.TheVariants as stops
use Rattle.v8_core.specs.Walked.{root_of}
use Rattle.v8_core.specs.MmuRegs.{MmuRegs}
use Rattle.v8_core.specs.Accesses.{World}
use Rattle.v8_loaded.specs.Board.{Device, board}
use Rattle.v8_loaded.specs.Turns.{world_after}
use Rattle.v8_loaded.specs.Users.{AsksFor}
use Rattle.v8_marks.specs.Marks.{entry_at, reached}
use Rattle.v8_marks.specs.Handlers.{after_handler}
use Rattle.v8_marks.specs.Users.{after_reach}
use Rattle.sbx_flat.specs.Parts.{Parts}
use Rattle.sbx_flat.specs.Calls.{base}
use Rattle.sbx_flat.specs.Effects.{address_in}
use Rattle.sbx_flat.specs.Registers.{still}
use Rattle.sbx_flat.specs.Runs.{budget, place_of, reached_by, weight_at, weight_of}
use Rattle.sbx_flat.specs.States.{State}
use Rattle.sbx_flat.specs.Turns.{IsWrong, asked, fetches, goes_on, turn, word_at}
use Rattle.sbx_flat.specs.declared.path.Place.{Place}
use Rattle.sbx_flat.specs.declared.path.Wrong.TheVariants.{OutsideCode}
use Rattle.sbx_flat.proofs.Law.{still_is_fresh}
use Rattle.sbx_flat.proofs.Turns.{place_at_word, weighs_some, weight_at_word}
use Rattle.sbx_sound.specs.Law.{IsFormed}
use Rattle.sbx_sound.specs.Verdicts.{Checked}
use Rattle.sbx_shows.specs.Seen.{ending_by, ending_of}
use Rattle.sbx_shows.specs.Ending.{Ending}
use Rattle.sbx_shows.specs.Advances.{Advances}
use Rattle.sbx_shows.specs.Laws.{HasWindow, turns_of, windows_after}
use Rattle.sbx_shows.specs.Shows.{Fits, Shows}
use Rattle.sbx_shows.specs.Steps.{Over, Stands}
use Rattle.sbx_shows.proofs.Places.{here}
use Rattle.sbx_shows.proofs.Retries.{restores_underflow, saves_overflow}
use Rattle.sbx_shows.proofs.Whole.{annulled_turns_keep, user_turns_keep}
use Rattle.sbx_shows.specs.WholeRuns.{with_earlier}
use Rattle.sbx_shows.proofs.Earlier.{earlier_place, earlier_step, earlier_wrong}
use Rattle.sbx_shows.proofs.Ending.{located}
use Rattle.sbx_batch.proofs.Flats.{Beside, bound, never_wrong, same_bases, same_exit, same_place, step_beside}
use Rattle.sbx_batch.proofs.Turns.{annulled_marks, caller_there, calm_marks, fill_marks, flat_reach, spill_marks}
use Rattle.sbx_batch.proofs.Uses.{SameEntries}

-- ---- the same place

pc_of : (parts : Parts) (s t : State) → place_of parts s ≡ place_of parts t → s.pc ≡ t.pc
unfolding place_of
pc_of parts s t e = ap (λ (p : Place). p.pc) e

annul_of : (parts : Parts) (s t : State) → place_of parts s ≡ place_of parts t → s.annulled ≡ t.annulled
unfolding place_of
annul_of parts s t e = ap (λ (p : Place). p.annulled) e

same_number : (a b : ℕ) → Some a ≡ Some b → a ≡ b
same_number a b e = cc

reach_same : (op : Operation) (s t : State) → reached_by op s ≡ reached_by op t → flat_reach s op ≡ flat_reach t op
reach_same (Transfer k m) s t e = ap (λ a. Some (a, writes_memory k)) (same_number (address_in s m) (address_in t m) e)
reach_same _ s t e = refl

turns_few : (op : Operation) → turns_of op ≤ weight_of op
turns_few (Save f) = omega arith
turns_few (Restore f) = omega arith
turns_few _ = omega arith

-- ---- turns after turns

after_more : (n : ℕ) (mmu : MmuRegs) (a b : ℕ) (x : World n Device) → world_after board n mmu (a + b) x ≡ world_after board n mmu b (world_after board n mmu a x)
after_more n mmu a zero x = let e : a + 0 ≡ a = omega arith in ap (λ k. world_after board n mmu k x) e
after_more n mmu a (suc b) x =
    let e : a + suc b ≡ suc (a + b) = omega arith in
    ap (λ k. world_after board n mmu k x) e ∙ ap (λ (w : World n Device). world_after board n mmu 1 w) (after_more n mmu a b x)

going_more : (n : ℕ) (mmu : MmuRegs) (a b : ℕ) (x : World n Device) → ((j : ℕ) → j < a → ending_of n (world_after board n mmu j x) ≡ None) →
    ((j : ℕ) → j < b → ending_of n (world_after board n mmu j (world_after board n mmu a x)) ≡ None) →
    (j : ℕ) → j < a + b → ending_of n (world_after board n mmu j x) ≡ None
going_more n mmu a b x first second j less =
    let split : (j < a) ⊎ (a ≤ j) = search arith in
    elim split [
      | inl before ↦ first j before
      | inr from ↦
          let sum : a + (j - a) ≡ j = omega arith in
          ap (λ k. ending_of n (world_after board n mmu k x)) (sym sum) ∙ ap (ending_of n) (after_more n mmu a (j - a) x) ∙ second (j - a) (omega arith)
    ]

not_over : (e : Ending) (o : Option Ending) → o ≡ Some e → o ≡ None → ⊥
not_over e o a b = cc

over_ends : (n : ℕ) (w : World n Device) (status : ℕ) → w.memory.device.stopped ≡ Some (stops.Exit status) → ending_of n w ≡ None → ⊥
unfolding ending_of
over_ends n w status stopped none =
    not_over _ (ending_by w.memory.device.stopped w.cpu.control.tt w.cpu.control.error)
    (ap (λ (k : Option Stop). ending_by k w.cpu.control.tt w.cpu.control.error) stopped) none

no_exit : (o : Option ℕ) (status : ℕ) → o ≡ None → o ≡ Some status → ⊥
no_exit o status a b = cc

module _ (n : ℕ) (parts : Parts) (formed : IsFormed parts) (checked : Checked parts) (fits : Fits parts) (mmu two : MmuRegs)
    (root : root_of mmu ≡ CONTEXT_TABLE) (root_two : root_of two ≡ CONTEXT_TABLE) (a b : List ℕ) where
  -- what the two boards show: flat states with what each had put out before
  abbrev First : World n Device → State → ℕ → Type 0
  First x s r = Shows n parts x (with_earlier a s) r

  abbrev Second : World n Device → State → ℕ → Type 0
  Second y t r = Shows n parts y (with_earlier b t) r

  -- a step of both, in as many turns
  record Stepped (x y : World n Device) (s t : State) (r : ℕ) : Type 0 where
    count : ℕ
    overflows : ℕ
    underflows : ℕ
    windows : ℕ
    few : count ≤ weight_at parts (place_of parts s)
    first : Advances n parts mmu x (with_earlier a s) r count overflows underflows windows
    second : Advances n parts two y (with_earlier b t) r count overflows underflows windows
    same : SameEntries (world_after board n mmu count x).memory.ram (world_after board n two count y).memory.ram

  -- two boards side by side
  record Paired (w : ℕ) (x y : World n Device) (s t : State) (r : ℕ) : Type 0 where
    beside : Beside parts w s t
    first : First x s r
    second : Second y t r
    same : SameEntries x.memory.ram y.memory.ram

  module _ (w : ℕ) (x y : World n Device) (s t : State) (r : ℕ) (p : Paired w x y s t r) where
    going : s.exit ≡ None
    going = p.first.going

    going_too : t.exit ≡ None
    going_too = p.second.going

    places : place_of parts (with_earlier a s) ≡ place_of parts (with_earlier b t)
    places = earlier_place a parts s ∙ same_place parts formed checked w s t p.beside going ∙ sym (earlier_place b parts t)

    pcs : s.pc ≡ t.pc
    pcs = pc_of parts (with_earlier a s) (with_earlier b t) places

    good : IsWrong parts (with_earlier a s) → ⊥
    good wrong = never_wrong parts formed checked w s t p.beside going (earlier_wrong a parts s wrong)

    swapped : Beside parts w t s
    swapped = record { calm = p.beside.calm; first = p.beside.second; second = p.beside.first }

    good_too : IsWrong parts (with_earlier b t) → ⊥
    good_too wrong = never_wrong parts formed checked w t s swapped going_too (earlier_wrong b parts t wrong)

    annulled : s.annulled ≡ true → Stepped x y s t r
    annulled e =
        let e_too = sym (annul_of parts (with_earlier a s) (with_earlier b t) places) ∙ e in
        record {
          count = 1;
          overflows = 0;
          underflows = 0;
          windows = r;
          few = weighs_some parts (place_of parts s);
          first = annulled_turns_keep n parts mmu x (with_earlier a s) r p.first e;
          second = annulled_turns_keep n parts two y (with_earlier b t) r p.second e_too;
          same = λ k less. annulled_marks n parts mmu x (with_earlier a s) r k p.first e ∙ p.same k less ∙ sym (annulled_marks n parts two y (with_earlier b t) r k p.second e_too);
        }

    module _ (i : ℕ) (h : Stands n parts mmu x (with_earlier a s) r i) (k : Stands n parts two y (with_earlier b t) r i) where
      heavy : (op : Operation) → AsksFor parts.words i op → weight_at parts (place_of parts s) ≡ weight_of op
      heavy op is =
          ap (weight_at parts) (sym (earlier_place a parts s))
          ∙ weight_at_word parts (with_earlier a s) (slice_index parts.words i) h.straight (here n parts mmu x (with_earlier a s) r i h) ∙ ap weight_of is

      reaches_same : (op : Operation) → AsksFor parts.words i op → flat_reach (with_earlier a s) op ≡ flat_reach (with_earlier b t) op
      reaches_same op is =
          let word = slice_index parts.words i in
          let one = place_at_word parts (with_earlier a s) word h.straight (here n parts mmu x (with_earlier a s) r i h) in
          let other = place_at_word parts (with_earlier b t) word k.straight (here n parts two y (with_earlier b t) r i k) in
          let same : reached_by (asked word) (with_earlier a s) ≡ reached_by (asked word) (with_earlier b t) = ap (λ (q : Place). q.address) (sym one ∙ places ∙ other) in
          reach_same op (with_earlier a s) (with_earlier b t) (subst (λ o. reached_by o (with_earlier a s) ≡ reached_by o (with_earlier b t)) is same)

      calm : (op : Operation) → AsksFor parts.words i op → HasWindow n r op → Stepped x y s t r
      calm op is has = record {
        count = turns_of op;
        overflows = 0;
        underflows = 0;
        windows = windows_after op r;
        few = let e = heavy op is in let f = turns_few op in omega (arith, e, f);
        first = user_turns_keep n parts mmu x (with_earlier a s) r i op h is good has;
        second = user_turns_keep n parts two y (with_earlier b t) r i op k is good_too has;
        same = λ e less.
            calm_marks n parts mmu x (with_earlier a s) r i h good e less op is
            ∙ ap (λ q. after_reach e q (reached e s.pc false (entry_at x.memory.ram e))) (reaches_same op is)
            ∙ ap (λ q. after_reach e (flat_reach (with_earlier b t) op) (reached e q false (entry_at x.memory.ram e))) pcs
            ∙ ap (λ o. after_reach e (flat_reach (with_earlier b t) op) (reached e t.pc false o)) (p.same e less)
            ∙ sym (calm_marks n parts two y (with_earlier b t) r i k good_too e less op is);
      }

      by_operation : (op : Operation) → AsksFor parts.words i op → Stepped x y s t r
      by_operation (Save f) is =
          let most = p.first.calls.most in
          let some = p.first.calls.some in
          let open_calls = p.first.calls.open_calls in
          let split : (r + 1 < n) ⊎ (r + 1 ≡ n) = search arith in
          elim split [
            | inl free ↦ calm (Save f) is free
            | inr full ↦ record {
              count = 25;
              overflows = 1;
              underflows = 0;
              windows = r;
              few = let e = heavy (Save f) is in omega (arith, e);
              first = (saves_overflow n parts mmu x (with_earlier a s) r i f h is good full).2;
              second = (saves_overflow n parts two y (with_earlier b t) r i f k is good_too full).2;
              same = λ e less.
                  spill_marks n parts mmu x (with_earlier a s) r i h good e less f is full
                  ∙ ap (λ q. reached e q false (after_handler e q (base s.registers (r - 1)) true (entry_at x.memory.ram e))) pcs
                  ∙ ap (λ q. reached e t.pc false (after_handler e t.pc q true (entry_at x.memory.ram e))) (same_bases parts formed checked w s t p.beside going (r - 1) (omega arith))
                  ∙ ap (λ o. reached e t.pc false (after_handler e t.pc (base t.registers (r - 1)) true o)) (p.same e less)
                  ∙ sym (spill_marks n parts two y (with_earlier b t) r i k good_too e less f is full);
            }
          ]
      by_operation (Restore f) is =
          let some = p.first.calls.some in
          let split : (1 < r) ⊎ (1 ≡ r) = search arith in
          elim split [
            | inl more ↦ calm (Restore f) is more
            | inr last ↦
                let one = subst (λ q. Stands n parts mmu x (with_earlier a s) q i) (sym last) h in
                let other = subst (λ q. Stands n parts two y (with_earlier b t) q i) (sym last) k in
                subst (Stepped x y s t) last (record {
                  count = 25;
                  overflows = 0;
                  underflows = 1;
                  windows = 1;
                  few = let e = heavy (Restore f) is in omega (arith, e);
                  first = (restores_underflow n parts mmu x (with_earlier a s) i f one is good).2;
                  second = (restores_underflow n parts two y (with_earlier b t) i f other is good_too).2;
                  same = λ e less.
                      fill_marks n parts mmu x (with_earlier a s) i one good e less f is
                      ∙ ap (λ q. reached e q false (after_handler e q (base s.registers 1) false (entry_at x.memory.ram e))) pcs
                      ∙ ap (λ q. reached e t.pc false (after_handler e t.pc q false (entry_at x.memory.ram e)))
                      (same_bases parts formed checked w s t p.beside going 1 (caller_there n parts mmu x (with_earlier a s) i one good f is))
                      ∙ ap (λ o. reached e t.pc false (after_handler e t.pc (base t.registers 1) false o)) (p.same e less)
                      ∙ sym (fill_marks n parts two y (with_earlier b t) i other good_too e less f is);
                })
          ]
      by_operation op is = calm op is tt

    by_word : s.annulled ≡ false → (o : Option ℕ) → word_at parts.words s.pc ≡ o → Stepped x y s t r
    unfolding turn
    by_word straight None e =
        absurd (good (
          still,
          still_is_fresh,
          OutsideCode,
          ap (λ o. goes_on parts still (with_earlier a s) o s.annulled) going
              ∙ ap (goes_on parts still (with_earlier a s) None) straight ∙ ap (λ o. fetches parts still o (with_earlier a s)) e,
        ))
    by_word straight (Some word) e =
        let l = located parts.words s.pc word e in
        let h : Stands n parts mmu x (with_earlier a s) r l.index = record { fits = fits; root = root; shows = p.first; straight = straight; place = l.place; within = l.within } in
        let k : Stands n parts two y (with_earlier b t) r l.index =
        record {
          fits = fits;
          root = root_two;
          shows = p.second;
          straight = sym (annul_of parts (with_earlier a s) (with_earlier b t) places) ∙ straight;
          place = sym pcs ∙ l.place;
          within = l.within;
        } in
        by_operation l.index h k (asked (slice_index parts.words l.index)) refl

    stepped : Stepped x y s t r
    stepped = by_annul s.annulled refl
      where
        by_annul : (q : Bool) → s.annulled ≡ q → Stepped x y s t r
        by_annul true e = annulled e
        by_annul false e = by_word e (word_at parts.words s.pc) refl

  -- ---- up to the ends

  -- Both have ended after as many turns, within what is left of the budget, with the same entries.
  pub record Both (w : ℕ) (x y : World n Device) : Type 0 where
    pub count : ℕ
    pub within : w + count ≤ budget parts
    pub first_going : (j : ℕ) → j < count → ending_of n (world_after board n mmu j x) ≡ None
    pub second_going : (j : ℕ) → j < count → ending_of n (world_after board n two j y) ≡ None
    pub first_over : ending_of n (world_after board n mmu count x) ≡ None → ⊥
    pub second_over : ending_of n (world_after board n two count y) ≡ None → ⊥
    pub same : SameEntries (world_after board n mmu count x).memory.ram (world_after board n two count y).memory.ram

  join : (w : ℕ) (x y : World n Device) (s t : State) (r : ℕ) (k : Stepped x y s t r) →
      Both (w + weight_at parts (place_of parts s)) (world_after board n mmu k.count x) (world_after board n two k.count y) → Both w x y
  join w x y s t r k rest =
      let one = after_more n mmu k.count rest.count x in
      let other = after_more n two k.count rest.count y in
      let few = k.few in
      let within = rest.within in
      record {
        count = k.count + rest.count;
        within = omega arith;
        first_going = going_more n mmu k.count rest.count x k.first.going rest.first_going;
        second_going = going_more n two k.count rest.count y k.second.going rest.second_going;
        first_over = λ none. rest.first_over (ap (ending_of n) (sym one) ∙ none);
        second_over = λ none. rest.second_over (ap (ending_of n) (sym other) ∙ none);
        same = λ e less. ap (λ (q : World n Device). entry_at q.memory.ram e) one ∙ rest.same e less ∙ sym (ap (λ (q : World n Device). entry_at q.memory.ram e) other);
      }

  -- after the step: both go on, or both are over
  finish : (w : ℕ) (x y : World n Device) (s t : State) (r : ℕ) (k : Stepped x y s t r) (u v : State) → Beside parts (w + weight_at parts (place_of parts s)) u v →
      k.first.next_state ≡ with_earlier a u → k.second.next_state ≡ with_earlier b v →
      (Paired (w + weight_at parts (place_of parts s)) (world_after board n mmu k.count x) (world_after board n two k.count y) u v k.windows →
      Both (w + weight_at parts (place_of parts s)) (world_after board n mmu k.count x) (world_after board n two k.count y)) →
      Shows n parts (world_after board n mmu k.count x) k.first.next_state k.windows ⊎ ((status : ℕ) × Over n parts (world_after board n mmu k.count x) k.first.next_state status) →
      Shows n parts (world_after board n two k.count y) k.second.next_state k.windows ⊎ ((status : ℕ) × Over n parts (world_after board n two k.count y) k.second.next_state status) → Both w x y
  finish w x y s t r k u v beside one other goes_on (inl on) (inl on_too) =
      join w x y s t r k (goes_on (record {
        beside = beside;
        first = subst (λ (q : State). Shows n parts (world_after board n mmu k.count x) q k.windows) one on;
        second = subst (λ (q : State). Shows n parts (world_after board n two k.count y) q k.windows) other on_too;
        same = k.same;
      }))
  finish w x y s t r k u v beside one other goes_on (inl on) (inr end) =
      absurd (no_exit u.exit end.0 (sym (ap (λ (q : State). q.exit) one) ∙ on.going) (same_exit parts formed checked _ u v beside ∙ sym (ap (λ (q : State). q.exit) other) ∙ end.1.exit))
  finish w x y s t r k u v beside one other goes_on (inr end) (inl on) =
      absurd (no_exit u.exit end.0 (same_exit parts formed checked _ u v beside ∙ sym (ap (λ (q : State). q.exit) other) ∙ on.going) (sym (ap (λ (q : State). q.exit) one) ∙ end.1.exit))
  finish w x y s t r k u v beside one other goes_on (inr end) (inr end_too) =
      let few = k.few in
      let top = bound parts formed checked _ u v beside in
      record {
        count = k.count;
        within = omega arith;
        first_going = k.first.going;
        second_going = k.second.going;
        first_over = over_ends n (world_after board n mmu k.count x) end.0 end.1.stopped;
        second_over = over_ends n (world_after board n two k.count y) end_too.0 end_too.1.stopped;
        same = k.same;
      }

  runs_on : (fuel w : ℕ) (x y : World n Device) (s t : State) (r : ℕ) → Paired w x y s t r → budget parts < w + fuel → Both w x y
  runs_on zero w x y s t r p enough = let top = bound parts formed checked w s t p.beside in absurd (omega arith)
  runs_on (suc fuel) w x y s t r p enough =
      let k = stepped w x y s t r p in
      let to = earlier_step a parts s k.first.next_state k.first.step in
      let to_too = earlier_step b parts t k.second.next_state k.second.step in
      let some = weighs_some parts (place_of parts s) in
      finish w x y s t r k to.0 to_too.0 (step_beside parts formed checked w s t to.0 to_too.0 p.beside p.first.going to.1 to_too.1) to.2 to_too.2
      (λ next. runs_on fuel (w + weight_at parts (place_of parts s)) (world_after board n mmu k.count x)
      (world_after board n two k.count y) to.0 to_too.0 k.windows next (omega arith)) k.first.ends k.second.ends

  pub both_end : (x y : World n Device) (s t : State) (r : ℕ) → Beside parts 0 s t → First x s r → Second y t r → SameEntries x.memory.ram y.memory.ram → Both 0 x y
  both_end x y s t r beside first second same = runs_on (suc (budget parts)) 0 x y s t r (record { beside = beside; first = first; second = second; same = same }) (omega arith)
