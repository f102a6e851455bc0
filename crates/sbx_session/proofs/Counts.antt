-- How many turns a run in pieces has made, as its board's count tells.
use Rattle.std.proofs.Common.{◌≡◌, ℕ, zero, suc, ◌+◌, ◌-◌, ◌*◌, ◌^◌, ◌<◌, ◌≤◌, ◌⊎◌, inl, inr, Bool, true, false, List, [], ◌++◌, Option, Some, None, refl, sym, ap, ◌∙◌, arith}
use Rattle.std.specs.Prelude.{◌==◌, if◌then◌else◌}
use Rattle.v8_core.specs.declared.turn.Event.{Event}
use Rattle.v8_core.specs.declared.turn.Event.TheVariants.{Ran, Annulled, Trapped, ErrorMode, Stopped}
use Rattle.v8_core.specs.Steps.{next}
use Rattle.v8_loaded.specs.Board.{board}
use Rattle.v8_board.specs.Counting.{counted, counts_after, with_turn}
use Rattle.v8_board.specs.declared.outcome.Counts.{Counts}
use Rattle.v8_board.specs.declared.outcome.Ending.{Ending}
use Rattle.v8_board.specs.declared.outcome.Ending.TheVariants.{Exit, Limit}
use Rattle.v8_board.specs.Runs.{IsCutShort, IsRun, Turns, ending_or_limit, state_after}
use Rattle.v8_board.specs.Seen.{Seen, State, counts_unless, ending_of, turned}
use Rattle.sbx_image.specs.Parts.{Parts}
use Rattle.sbx_flat.specs.Runs.{AreBytes, budget}
use Rattle.sbx_port.specs.Following.{beyond, with_input}
use Rattle.sbx_port.specs.Ports.{mark}
use Rattle.sbx_port.specs.Streams.{IsSlice}
use Rattle.sbx_port.proofs.Followed.{ending_follow}
use Rattle.sbx_port.proofs.Told.{cut_counted}
use Rattle.sbx_port.proofs.Tracked.{bytes_after, no_bytes, no_lack, nothing_came}
use Rattle.sbx_session.specs.Going.{IsUnderWay}
use Rattle.sbx_session.specs.Steps.{AsksByte}
use Rattle.sbx_session.proofs.UnderWay.{ending_told, exits_so}

-- ---- each turn counts at most one

counted_most : (b : Bool) (k : ℕ) → (if b then k else k + 1) ≤ k + 1
counted_most true k = omega arith
counted_most false k = omega arith

trap_turns : (a b : Bool) (c o u : Counts) → o.turns ≡ c.turns → u.turns ≡ c.turns → (if a then o else (if b then u else c)).turns ≡ c.turns
trap_turns true b c o u over under = over
trap_turns false true c o u over under = under
trap_turns false false c o u over under = refl

-- window overflow, type 5, and underflow, type 6, are counted beside turns
event_turns : (e : Event) (c : Counts) → (counts_after e c).turns ≡ counted c.turns
event_turns Ran c = refl
event_turns Annulled c = refl
event_turns (Trapped t) c =
    let w = with_turn c in
    trap_turns (t == 5) (t == 6) w (record w { overflows = counted w.overflows }) (record w { underflows = counted w.underflows }) refl refl
event_turns (ErrorMode t) c = refl
event_turns (Stopped s) c = refl

unless_most : (o : Option Ending) (e : Event) (c : Counts) → (counts_unless o e c).turns ≤ c.turns + 1
unless_most None e c = let same = event_turns e c in let most = counted_most (c.turns == 2 ^ 64 - 1) c.turns in omega (arith, same, most)
unless_most (Some ending) e c = omega arith

turn_most : (n : ℕ) (s : State n) → (turned n s).1.counts.turns ≤ s.counts.turns + 1
unfolding turned
turn_most n s = unless_most (ending_of n s.world) (next board n s.mmu s.world).0.event s.counts

turns_most : (n k : ℕ) (s : State n) → (state_after n k s).counts.turns ≤ s.counts.turns + k
turns_most n zero s = omega arith
turns_most n (suc k) s = let most = turns_most n k s in let one = turn_most n (state_after n k s) in omega (arith, most, one)

pub slice_counts : (n left : ℕ) (s : State n) (told : ℕ) (t : State n) → IsSlice n left s told t → t.counts.turns ≤ s.counts.turns + told
slice_counts n left s told t slice =
    let same : t.counts.turns ≡ (state_after n slice.turns.count s).counts.turns = ap (λ (u : State n). u.counts.turns) slice.turns.is in
    let most = turns_most n slice.turns.count s in
    let few = slice.few in
    omega (arith, same, most, few)

-- ---- a board without input asks for none

pub none_asked : (n : ℕ) (s : State n) (seen : Seen n) (asks : Bool) → Turns n s seen.state → s.world.memory.device.input ≡ [] → (asks ≡ true → AsksByte n seen) → asks ≡ false
none_asked n s seen false turns none so = refl
none_asked n s seen true turns none so =
    no_lack true seen.state.world.memory.device.input
    (λ yes. ap (λ (u : State n). u.world.memory.device.input) turns.is ∙ nothing_came n turns.count s none) (so refl).1

-- ---- so of a run under way

none_beyond : (met : Bool) → AreBytes (beyond met [])
none_beyond true = no_bytes
none_beyond false = no_bytes

no_limit : (o : Option Ending) (word : ℕ) → o ≡ None → ending_or_limit o ≡ Exit word → ⊥
no_limit None word none exits = no_exit exits
  where
    no_exit : Limit ≡ Exit word → ⊥
    no_exit is = cc
no_limit (Some e) word none exits = some_none none
  where
    some_none : Some e ≡ None → ⊥
    some_none is = cc

module _ (n : ℕ) (parts : Parts) (read written : List ℕ) (left : ℕ) (met : Bool) (s : State n) (goes : IsUnderWay n parts read written left met s) where
  -- none were counted when it began
  from_none : (with_input goes.start (read ++ beyond met [])).counts.turns ≡ 0
  from_none = ap (λ (c : Counts). c.turns) goes.loaded.counts

  -- those that are counted and those that are left are at most the budget
  pub at_most : s.counts.turns + left ≤ budget parts
  at_most =
      let (k, tracks, within, all) = goes.way in
      let (mid, counted, follows) = tracks [] in
      let (t, so_many) = counted in
      let from = with_input goes.start (read ++ beyond met []) in
      let same : s.counts.turns ≡ mid.counts.turns = ap (λ (c : Counts). c.turns) follows.counts in
      let is : mid.counts.turns ≡ (state_after n t.count from).counts.turns = ap (λ (u : State n). u.counts.turns) t.is in
      let most = turns_most n t.count from in
      let none = from_none in
      omega (arith, within, so_many, same, is, most, none)

  -- and all of it while the machine has not ended
  pub exactly : ending_of n s.world ≡ None → s.counts.turns + left ≡ budget parts
  exactly going =
      let (k, tracks, within, all) = goes.way in
      let (mid, counted, follows) = tracks [] in
      let (t, so_many) = counted in
      let from = with_input goes.start (read ++ beyond met []) in
      let same : s.counts.turns ≡ mid.counts.turns = ap (λ (c : Counts). c.turns) follows.counts in
      let fits = goes.image.budget_fits in
      let none = from_none in
      let cut : IsCutShort n (suc k) from mid =
      record { turns = t; within = omega (arith, so_many); going = sym (ending_follow n met mark [] [] written s mid follows) ∙ going } in
      let told = cut_counted n (suc k) from mid cut (λ i less. omega (arith, less, none, within, fits)) in
      let whole = all going in
      omega (arith, same, told, none, so_many, whole)

  -- it ends before none are left
  pub not_spent : left ≡ 0 → ending_of n s.world ≡ None → ⊥
  not_spent none going =
      let (k, tracks, within, all) = goes.way in
      let (mid, counted, follows) = tracks [] in
      let (t, so_many) = counted in
      let whole = all going in
      let stays = sym (ending_follow n met mark [] [] written s mid follows) ∙ going in
      let run : IsRun n (budget parts) (with_input goes.start (read ++ beyond met [])) mid =
      record { turns = t; within = omega (arith, so_many, within); whole = λ _. omega (arith, so_many, whole, none) } in
      let so = exits_so n parts read written left met s goes (read ++ beyond met []) (bytes_after read (beyond met []) goes.bytes (none_beyond met)) mid run in
      no_limit (ending_of n mid.world) so.status stays (sym (ending_told n parts read written left met s goes mid) ∙ so.flat.exits)

-- ---- what a step may do

-- how much a step may still do: each round makes a turn, reads a byte, or comes to lack one
abbrev pub todo : Bool → ℕ → ℕ → ℕ
todo true left unread = 2 * left + unread
todo false left unread = 2 * left + unread + 1

unread_by : (read next unread left told : ℕ) → (read < next) ⊎ (next ≤ read) → (next ≤ read → ⊥) → next ≤ read + unread → told ≤ left
    → 2 * (left - told) + (read + unread - next) < 2 * left + unread
unread_by read next unread left told (inl less) more fits within = omega (arith, less, fits, within)
unread_by read next unread left told (inr none) more fits within = absurd (more none)

pub less_todo : (lacks now : Bool) (left told long read next : ℕ) → told ≤ left → 0 < left → read ≤ next → next ≤ long → (now ≡ false → 0 < told)
    → (lacks ≡ true → next ≤ read → now ≡ false) → todo now (left - told) (long - next) < todo lacks left (long - read)
less_todo true false left told long read next within some more fits goes lacking = let one = goes refl in omega (arith, one, within, some, more, fits)
less_todo false false left told long read next within some more fits goes lacking = let one = goes refl in omega (arith, one, within, some, more, fits)
less_todo false true left told long read next within some more fits goes lacking = omega (arith, within, some, more, fits)
less_todo true true left told long read next within some more fits goes lacking =
    let all : read + (long - read) ≡ long = omega (arith, more, fits) in
    let less = unread_by read next (long - read) left told (search arith) (λ none. true_not_false (lacking refl none)) (omega (arith, fits, all)) within in
    omega (arith, less, all)
  where
    true_not_false : true ≡ false → ⊥
    true_not_false is = cc
