-- Steps one after the other: the board's run beside the flat run, its counts and the window traffic of the path.
use Rattle.std.proofs.Common.{◌≡◌, ℕ, zero, suc, ◌+◌, ◌-◌, ◌^◌, ◌<◌, ◌≤◌, ◌⊎◌, inl, inr, Bool, true, false, List, [], ◌∷◌, ◌++◌, Option, Some, None, refl, sym, ap, ◌∙◌, subst, arith}
use Rattle.std.specs.Prelude.{◌==◌, if◌then◌else◌}
use Rattle.std.proofs.lemmas.List.{append_assoc}
use Rattle.v8_core.specs.Operation.{Operation}
use Rattle.v8_core.specs.Operation.TheVariants.{Save, Restore}
use Rattle.v8_core.specs.MmuRegs.{MmuRegs}
use Rattle.v8_core.specs.declared.turn.Turn.{Turn}
use Rattle.v8_core.specs.Accesses.{World}
use Rattle.v8_core.specs.Steps.{next}
use Rattle.v8_loaded.specs.Board.{Device, board}
use Rattle.v8_loaded.specs.Turns.{world_after, turn_at}
use Rattle.sbx_shows.specs.Counts.{Counts}
use Rattle.sbx_shows.specs.Ending.{Ending}
use Rattle.v8_board.specs.Counting.{counts_after}
use Rattle.v8_board.specs.Runs.{state_after as board_after}
use Rattle.v8_board.specs.Seen.{State as BoardState, counts_unless, ending_of, turned}
use Rattle.sbx_flat.specs.Parts.{Parts}
use Rattle.sbx_flat.specs.Runs.{AreBytes, FlatRun, FlatSafe, Run, budget, place_of, weight, weight_at, weight_of, weight_of_word}
use Rattle.sbx_flat.specs.States.{State}
use Rattle.sbx_flat.specs.Traffic.{after_operation, after_place, after_word, traffic}
use Rattle.sbx_flat.specs.Turns.{Step, asked, word_at}
use Rattle.sbx_flat.specs.declared.path.Place.{Place}
use Rattle.sbx_flat.specs.declared.path.Traffic.{Traffic}
use Rattle.sbx_flat.proofs.Turns.{weighs_some}
use Rattle.sbx_shows.specs.Advances.{Advances, IsMoment, counts_by, so_many}
use Rattle.sbx_shows.specs.Shows.{Shows}
use Rattle.sbx_shows.specs.Steps.{Over}
use Rattle.sbx_shows.specs.Turns.{IsOwnTurn}
use Rattle.sbx_shows.proofs.Traffics.{traffic_more}
use Rattle.sbx_shows.specs.WholeRuns.{Came, Finishes, IsTurnBeside, stands, with_earlier}
use Rattle.sbx_shows.proofs.Earlier.{earlier_place, earlier_step}

-- ---- turns of a world as turns of a board that counts them

turn_is : (n : ℕ) (mmu : MmuRegs) (w : World n Device) (c : Counts) → ending_of n w ≡ None →
    turned n (stands n w mmu c) ≡ ((next board n mmu w).0, stands n (next board n mmu w).1 mmu (counts_after (next board n mmu w).0.event c))
unfolding turned
turn_is n mmu w c going = ap (λ (o : Option Ending). ((next board n mmu w).0, stands n (next board n mmu w).1 mmu (counts_unless o (next board n mmu w).0.event c))) going

pub board_is : (n : ℕ) (mmu : MmuRegs) (x : World n Device) (c : Counts) (k : ℕ) → ((j : ℕ) → j < k → ending_of n (world_after board n mmu j x) ≡ None) →
    board_after n k (stands n x mmu c) ≡ stands n (world_after board n mmu k x) mmu (counts_by n mmu x k c)
board_is n mmu x c zero going = refl
board_is n mmu x c (suc k) going =
    ap (λ (s : BoardState n). (turned n s).1) (board_is n mmu x c k (λ j less. going j (omega arith)))
    ∙ ap (λ (p : Turn × BoardState n). p.1) (turn_is n mmu (world_after board n mmu k x) (counts_by n mmu x k c) (going k (omega arith)))

-- turns after turns
pub join : (n k j : ℕ) (s : BoardState n) → board_after n (k + j) s ≡ board_after n j (board_after n k s)
join n k zero s = let e : k + 0 ≡ k = omega arith in ap (λ q. board_after n q s) e
join n k (suc j) s = let e : k + suc j ≡ suc (k + j) = omega arith in ap (λ q. board_after n q s) e ∙ ap (λ (t : BoardState n). (turned n t).1) (join n k j s)

-- ---- all steps

-- a place counts no more turns than it weighs
place_turns : (parts : Parts) (n : ℕ) (p : Place) (t : Traffic) → (after_place parts n p t).turns ≤ t.turns + weight_at parts p
unfolding after_place weight_at
place_turns parts n p t = by_annul p.annulled
  where
    one_of : (b : Bool) (a c : Traffic) (m : ℕ) → a.turns ≤ m → c.turns ≤ m → (if b then a else c).turns ≤ m
    one_of true a c m x y = x
    one_of false a c m x y = y

    of_operation : (op : Operation) → (after_operation n op t).turns ≤ t.turns + weight_of op
    of_operation (Save f) =
        one_of (t.windows == n - 1) (record t { overflows = t.overflows + 1; turns = t.turns + 25 }) (record t { windows = t.windows + 1; turns = t.turns + 1 })
        (t.turns + 25) (omega arith) (omega arith)
    of_operation (Restore f) =
        one_of (t.windows == 1) (record t { underflows = t.underflows + 1; turns = t.turns + 25 }) (record t { windows = t.windows - 1; turns = t.turns + 1 })
        (t.turns + 25) (omega arith) (omega arith)
    of_operation _ = omega arith

    of_word : (o : Option ℕ) → (after_word n o t).turns ≤ t.turns + weight_of_word o
    of_word None = omega arith
    of_word (Some word) = of_operation (asked word)

    by_annul : (b : Bool) → (if b then record t { turns = t.turns + 1 } else after_word n (word_at parts.words p.pc) t).turns ≤ t.turns + (if b then 1 else weight_of_word (word_at parts.words p.pc))
    by_annul true = omega arith
    by_annul false = of_word (word_at parts.words p.pc)

run_more : (parts : Parts) (s t u : State) (path : List Place) → Run parts s path t → Step parts t u → Run parts s (path ++ place_of parts t ∷ []) u
run_more parts s t u [] run one = (u, ap (place_of parts) (sym run), subst (λ x. Step parts x u) (sym run) one, refl)
run_more parts s t u (p ∷ path) run one = (run.0, run.1, run.2, run_more parts run.0 t u path run.3 one)

weight_more : (parts : Parts) (path : List Place) (p : Place) → weight parts (path ++ p ∷ []) ≡ weight parts path + weight_at parts p
weight_more parts [] p = omega arith
weight_more parts (q ∷ path) p = let i = weight_more parts path p in omega arith

module _ (n : ℕ) (parts : Parts) (input earlier : List ℕ) (start : BoardState n) (safe : FlatSafe parts) (bytes : AreBytes input) (bound : budget parts < 2 ^ 64) where
  -- a step with its counts, of the state with the earlier output
  pub record Taken (x : World n Device) (s : State) (r : ℕ) : Type 0 where
    pub count : ℕ
    pub overflows : ℕ
    pub underflows : ℕ
    pub windows : ℕ
    pub few : (overflows ≤ count) × (underflows ≤ count)
    pub advances : Advances n parts start.mmu x (with_earlier earlier s) r count overflows underflows windows

  within : (path : List Place) (s : State) → FlatRun parts input path s → weight parts path ≤ budget parts
  within path s run = (safe input bytes).3.within_budget path s run

  -- the flat step without the earlier output
  abbrev flat_next : (x : World n Device) (s : State) (r : ℕ) (t : Taken x s r) → (to : State) × Step parts s to × (t.advances.next_state ≡ with_earlier earlier to)
  flat_next x s r t = earlier_step earlier parts s t.advances.next_state t.advances.step

  -- a turn beside a run is one beside the run with a step more
  later_beside : (before : BoardState n) (path : List Place) (first s to : State) (j : ℕ) → Step parts s to → IsTurnBeside n parts earlier path first s j before
      → IsTurnBeside n parts earlier (path ++ place_of parts s ∷ []) first to j before
  later_beside before path first s to j one b =
      let place = place_of parts s in
      record {
        way = b.way;
        rest = b.rest ++ place ∷ [];
        state = b.state;
        path_is = ap (λ (p : List Place). p ++ place ∷ []) b.path_is ∙ append_assoc b.way (place_of parts b.state ∷ b.rest) (place ∷ []);
        run = b.run;
        goes_on = run_more parts b.state s to (place_of parts b.state ∷ b.rest) b.goes_on one;
        since = b.since;
        until = b.until;
        moment = b.moment;
        own = b.own;
      }

  came_more : (x : World n Device) (s : State) (r : ℕ) (c : Came n parts input earlier start x s r) (t : Taken x s r) →
      Came n parts input earlier start (world_after board n start.mmu t.count x) (flat_next x s r t).0 t.windows
  came_more x s r c t =
      let a = t.advances in
      let place = place_of parts s in
      let path = c.path ++ place ∷ [] in
      let to = flat_next x s r t in
      let run : FlatRun parts input path to.0 = (c.run.0, c.run.1, run_more parts c.run.0 s to.0 c.path c.run.2 to.1) in
      let top = within path to.0 run in
      let taken : after_place parts n place (so_many r c.overflows c.underflows c.turns) ≡ so_many t.windows (c.overflows + t.overflows) (c.underflows + t.underflows) (c.turns + t.count) =
      ap (λ p. after_place parts n p (so_many r c.overflows c.underflows c.turns)) (sym (earlier_place earlier parts s)) ∙ a.traffic c.overflows c.underflows c.turns in
      let heavier = weight_more parts c.path place in
      let traffic_now : traffic parts n path ≡ so_many t.windows (c.overflows + t.overflows) (c.underflows + t.underflows) (c.turns + t.count) =
      traffic_more parts n c.path place ∙ ap (after_place parts n place) c.traffic_is ∙ taken in
      let turns_at : (after_place parts n place (so_many r c.overflows c.underflows c.turns)).turns ≡ c.turns + t.count = ap (λ (f : Traffic). f.turns) taken in
      let no_more = place_turns parts n place (so_many r c.overflows c.underflows c.turns) in
      let a_few = t.few.0 in
      let b_few = t.few.1 in
      let c_few = c.few.0 in
      let d_few = c.few.1 in
      let e_few = c.few.2 in
      let counts : Counts = record { turns = c.turns; overflows = c.overflows; underflows = c.underflows } in
      let later : (j : ℕ) → j ≤ t.count → board_after n (c.turns + j) start ≡ stands n (world_after board n start.mmu j x) start.mmu (counts_by n start.mmu x j counts) =
      λ (j : ℕ) (less : j ≤ t.count). join n c.turns j start ∙ ap (board_after n j) c.board_stands ∙ board_is n start.mmu x counts j (λ i small. a.going i (omega arith)) in
      record {
        path = path;
        run = run;
        turns = c.turns + t.count;
        overflows = c.overflows + t.overflows;
        underflows = c.underflows + t.underflows;
        traffic_is = traffic_now;
        few = (omega arith, omega arith, omega arith);
        board_stands = later t.count (omega arith) ∙ ap (stands n (world_after board n start.mmu t.count x) start.mmu) (a.counts counts (omega arith) c_few d_few);
        going = λ j less.
            let split : (j < c.turns) ⊎ (c.turns ≤ j) = search arith in
            elim split [
              | inl before ↦ c.going j before
              | inr from ↦
                  let sum : c.turns + (j - c.turns) ≡ j = omega arith in
                  ap (λ q. ending_of n (board_after n q start).world) (sym sum)
                  ∙ ap (λ (b : BoardState n). ending_of n b.world) (later (j - c.turns) (omega arith)) ∙ a.going (j - c.turns) (omega arith)
            ];
        each = λ j less.
            let split : (j < c.turns) ⊎ (c.turns ≤ j) = search arith in
            elim split [
              | inl before ↦ later_beside (board_after n j start) c.path c.run.0 s to.0 j to.1 (c.each j before)
              | inr from ↦
                  let i = j - c.turns in
                  let sum : c.turns + i ≡ j = omega arith in
                  let here : board_after n j start ≡ stands n (world_after board n start.mmu i x) start.mmu (counts_by n start.mmu x i counts) =
                  ap (λ q. board_after n q start) (sym sum) ∙ later i (omega arith) in
                  let same : (turned n (board_after n j start)).0 ≡ turn_at board n start.mmu i x =
                  ap (λ (b : BoardState n). (turned n b).0) here
                  ∙ ap (λ (p : Turn × BoardState n). p.0) (turn_is n start.mmu (world_after board n start.mmu i x) (counts_by n start.mmu x i counts) (a.going i (omega arith))) in
                  let so_far : (traffic parts n c.path).turns ≡ c.turns = ap (λ (f : Traffic). f.turns) c.traffic_is in
                  let so_many_now : (traffic parts n path).turns ≡ c.turns + t.count = ap (λ (f : Traffic). f.turns) traffic_now in
                  record {
                    way = c.path;
                    rest = [];
                    state = s;
                    path_is = refl;
                    run = c.run.2;
                    goes_on = (to.0, refl, to.1, refl);
                    since = omega (arith, so_far);
                    until = omega (arith, so_many_now);
                    moment = subst (λ (b : BoardState n). IsMoment n parts b.world (with_earlier earlier s)) (sym here) (a.moments i (omega arith));
                    own = subst (IsOwnTurn parts (with_earlier earlier s)) (sym same) (a.own i (omega arith));
                  }
            ];
      }

  pub ends_from : ((x : World n Device) (s : State) (r : ℕ) (way : List Place) → FlatRun parts input way s → Shows n parts x (with_earlier earlier s) r → Taken x s r) →
      (fuel : ℕ) (x : World n Device) (s : State) (r : ℕ) (c : Came n parts input earlier start x s r) → Shows n parts x (with_earlier earlier s) r →
      budget parts < weight parts c.path + fuel → Finishes n parts input earlier start
  unfolding came_more
  ends_from advance zero x s r c h enough = let top = within c.path s c.run in absurd (omega arith)
  ends_from advance (suc fuel) x s r c h enough =
      let t = advance x s r c.path c.run h in
      let now = came_more x s r c t in
      let heavier = weight_more parts c.path (place_of parts s) in
      let some = weighs_some parts (place_of parts s) in
      let to = flat_next x s r t in
      let end_world = world_after board n start.mmu t.count x in
      elim t.advances.ends [
        | inl on ↦ ends_from advance fuel end_world to.0 t.windows now (subst (λ (q : State). Shows n parts end_world q t.windows) to.2 on) (omega arith)
        | inr end ↦ record { last = end_world; state = to.0; windows = t.windows; status = end.0; came = now; over = subst (λ (q : State). Over n parts end_world q end.0) to.2 end.1 }
      ]
