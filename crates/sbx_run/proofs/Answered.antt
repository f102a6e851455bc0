-- What a run of an accepted image answers.
use Rattle.std.proofs.Common.{◌≡◌, ℕ, zero, suc, ◌+◌, List, [], sym, ap, ◌∙◌, subst}
use Rattle.v8_core.specs.Answers.{Grows}
use Rattle.v8_memory.specs.Board.{Device}
use Rattle.v8_loaded.specs.States.{IsState}
use Rattle.v8_board.proofs.States.{states_stay}
use Rattle.v8_board.specs.declared.outcome.Ending.{Ending}
use Rattle.v8_board.specs.declared.outcome.Ending.TheVariants.{Exit}
use Rattle.v8_board.specs.declared.outcome.Outcome.{Outcome}
use Rattle.v8_board.specs.Calls.{calls_in}
use Rattle.v8_board.specs.Marks.{page_use_of}
use Rattle.v8_board.specs.Runs.{GoesOn, IsCutShort, IsRun, Turns, state_after, outcome_of}
use Rattle.v8_board.specs.Seen.{Seen, State as BoardState, turned}
use Rattle.v8_board.specs.Start.{IsStart}
use Rattle.sbx_image.specs.Parts.{Parts}
use Rattle.sbx_flat.specs.Runs.{AreBytes, FlatSafe, budget}
use Rattle.sbx_raw.specs.declared.raw.Raw.{Raw}
use Rattle.sbx_raw.specs.Runs.{IsRaw}
use Rattle.sbx_verify.specs.Law.{DepthIsEnough}
use Rattle.sbx_shows.specs.WholeRuns.{IsImage}
use Rattle.sbx_run.specs.declared.boards.Ended.{Ended}
use Rattle.sbx_run.specs.declared.runner.Finished.{Finished}
use Rattle.sbx_run.specs.Answer.{EndsOn, ExitsAsFlat, IsAnswer, IsFlatEnd, KeepsItsDepth, KeepsToItsOwn, StandsOn, told_of, told_of_board}
use Rattle.sbx_run.proofs.Ends.{ends}
use Rattle.sbx_run.proofs.Quiet.{keeps_its_depth}

one_status : (s t : ℕ) → Exit s ≡ Exit t → s ≡ t
one_status s t e = cc

-- ---- on a new board

module _ (parts : Parts) (n : ℕ) (input : List ℕ) (image : IsImage parts) (safe : FlatSafe parts) (bytes : AreBytes input) (raw : Raw) (run : IsRaw n parts input (budget parts) raw) where
  end_so : ExitsAsFlat n parts input [] run.start run.end
  end_so =
      let made = run.begun.made in
      let given : made.world.memory.device.input ≡ input = ap (λ (d : Device). d.input) run.begun.new.device in
      let silent : made.world.memory.device.output ≡ [] = ap (λ (d : Device). d.output) run.begun.new.device in
      subst (λ (i : List ℕ). ExitsAsFlat n parts i [] run.start run.end) given
      (subst (λ (o : List ℕ). ExitsAsFlat n parts made.world.memory.device.input o run.start run.end) silent
      (ends n parts made run.start run.end image safe (subst AreBytes (sym given) bytes) run.begun.loaded run.begun.state run.run))

  -- the run exits
  pub exits : (e : Ending) → raw.outcome.ending ≡ e → ((status : ℕ) → e ≡ Exit status → ⊥) → ⊥
  exits e is other = let so = end_so in other so.status (sym is ∙ ap (λ (o : Outcome). o.ending) run.outcome ∙ so.flat.exits)

  pub answered : (f : Finished) → raw.outcome ≡ told_of f → f.output.items ≡ raw.output.items → f.pages ≡ raw.pages → IsAnswer parts n input f
  answered f told output pages =
      let e = end_so in
      let same : outcome_of n run.end ≡ told_of f = sym run.outcome ∙ told in
      let status : e.status ≡ f.status = one_status e.status f.status (sym e.flat.exits ∙ ap (λ (o : Outcome). o.ending) same) in
      let same_output : e.output ≡ f.output.items = sym e.put_out ∙ sym run.output ∙ sym output in
      record {
        raw = raw;
        run = run;
        told = told;
        output = output;
        pages = pages;
        flat = subst (λ (o : Outcome). IsFlatEnd parts n input f.output.items f.status o) same
            (subst (λ (w : ℕ). IsFlatEnd parts n input f.output.items w (outcome_of n run.end)) status
            (subst (λ (o : List ℕ). IsFlatEnd parts n input o e.status (outcome_of n run.end)) same_output e.flat));
        own = subst (KeepsToItsOwn n parts input [] run.start run.end) (ap (λ (o : Outcome). o.turns) same) e.own;
      }

  pub quiet : DepthIsEnough parts → KeepsItsDepth parts n raw.outcome
  quiet depth =
      let so = end_so in
      subst (KeepsItsDepth parts n) (sym run.outcome) (keeps_its_depth parts n input so.output so.status (outcome_of n run.end) depth bytes so.flat)

-- the run of the image, with its budget
pub run_of : (n : ℕ) (image parts : Parts) (input : List ℕ) (limit : ℕ) (raw : Raw) → image ≡ parts → limit ≡ budget parts → IsRaw n image input limit raw → IsRaw n parts input (budget parts) raw
run_of n image parts input limit raw same most run =
    subst (λ k. IsRaw n parts input k raw) most (subst (λ (p : Parts). IsRaw n p input limit raw) same run)

-- ---- on a board that was there

module _ (n : ℕ) (parts : Parts) (made start end : BoardState n) (image : IsImage parts) (safe : FlatSafe parts)
    (bytes : AreBytes made.world.memory.device.input) (loaded : IsStart n parts made start) (state : IsState n start.mmu start.world)
    (run : IsRun n (budget parts) start end) where
  pub board_exits : (o : Outcome) (e : Ending) → o ≡ outcome_of n end → o.ending ≡ e → ((status : ℕ) → e ≡ Exit status → ⊥) → ⊥
  board_exits o e told is other =
      let so = ends n parts made start end image safe bytes loaded state run in
      other so.status (sym is ∙ ap (λ (o : Outcome). o.ending) told ∙ so.flat.exits)

  pub board_ends : (f : Ended) → told_of_board f ≡ outcome_of n end → f.pages ≡ page_use_of end.world.memory.ram → EndsOn n parts made end f
  board_ends f told pages =
      let e = ends n parts made start end image safe bytes loaded state run in
      let same : outcome_of n end ≡ told_of_board f = sym told in
      let input = made.world.memory.device.input in
      let earlier = made.world.memory.device.output in
      let status : e.status ≡ f.status = one_status e.status f.status (sym e.flat.exits ∙ ap (λ (o : Outcome). o.ending) same) in
      let turns : (outcome_of n end).turns ≡ f.turns = ap (λ (o : Outcome). o.turns) same in
      record {
        start = start;
        loaded = loaded;
        state = state;
        run = run;
        told = told;
        last = e.last ∙ ap (λ k. state_after n k start) turns;
        output = e.output;
        put_out = e.put_out;
        flat = subst (λ (o : Outcome). IsFlatEnd parts n input e.output f.status o) same (subst (λ (w : ℕ). IsFlatEnd parts n input e.output w (outcome_of n end)) status e.flat);
        own = subst (KeepsToItsOwn n parts input earlier start end) turns e.own;
        pages = pages;
      }

  pub board_quiet : (o : Outcome) → o ≡ outcome_of n end → DepthIsEnough parts → KeepsItsDepth parts n o
  board_quiet o told depth =
      let so = ends n parts made start end image safe bytes loaded state run in
      subst (KeepsItsDepth parts n) (sym told) (keeps_its_depth parts n made.world.memory.device.input so.output so.status (outcome_of n end) depth bytes so.flat)

-- ---- what turns keep

abbrev pub Stays : (n : ℕ) → BoardState n → Type 0
Stays n s = IsState n s.mmu s.world × AreBytes s.world.memory.device.input

turn_stays : (n : ℕ) (s : BoardState n) → Stays n s → Stays n (turned n s).1
unfolding turned
turn_stays n s (state, bytes) = states_stay n s.mmu s.world state bytes

after_stays : (n : ℕ) (s : BoardState n) (k : ℕ) → Stays n s → Stays n (state_after n k s)
after_stays n s zero all = all
after_stays n s (suc k) all = turn_stays n (state_after n k s) (after_stays n s k all)

pub turns_stay : (n : ℕ) (old new : BoardState n) → Turns n old new → Stays n old → Stays n new
turns_stay n old new t all = subst (Stays n) (sym t.is) (after_stays n old t.count all)

-- a run, or one that the port cut short, with the calls of its port
abbrev pub RunAsks : (n limit : ℕ) → BoardState n → BoardState n → ℕ → ℕ → Type 0
RunAsks n limit start end before now = (run : IsRun n limit start end) × Grows (calls_in n run.turns.count start) before now

abbrev pub CutAsks : (n limit : ℕ) → BoardState n → BoardState n → ℕ → ℕ → Type 0
CutAsks n limit start end before now = (cut : IsCutShort n limit start end) × Grows (calls_in n cut.turns.count start + 1) before now

pub run_asks : (n : ℕ) (image parts : Parts) (limit : ℕ) (old loaded new : Seen n) → image ≡ parts → limit ≡ budget parts → IsStart n image old.state loaded.state → loaded.calls ≡ old.calls
    → RunAsks n limit loaded.state new.state loaded.calls new.calls → (start : BoardState n) × IsStart n parts old.state start × RunAsks n (budget parts) start new.state old.calls new.calls
run_asks n image parts limit old loaded new same most start kept asks = (
  loaded.state,
  subst (λ (p : Parts). IsStart n p old.state loaded.state) same start,
  subst (λ k. RunAsks n k loaded.state new.state old.calls new.calls) most (subst (λ a. RunAsks n limit loaded.state new.state a new.calls) kept asks),
)

pub cut_asks : (n : ℕ) (image parts : Parts) (limit : ℕ) (old loaded new : Seen n) → image ≡ parts → limit ≡ budget parts → IsStart n image old.state loaded.state → loaded.calls ≡ old.calls
    → CutAsks n limit loaded.state new.state loaded.calls new.calls → (start : BoardState n) × IsStart n parts old.state start × CutAsks n (budget parts) start new.state old.calls new.calls
cut_asks n image parts limit old loaded new same most start kept asks = (
  loaded.state,
  subst (λ (p : Parts). IsStart n p old.state loaded.state) same start,
  subst (λ k. CutAsks n k loaded.state new.state old.calls new.calls) most (subst (λ a. CutAsks n limit loaded.state new.state a new.calls) kept asks),
)

pub stands_on : (n : ℕ) (image parts : Parts) (limit : ℕ) (old start new : BoardState n) → image ≡ parts → limit ≡ budget parts → IsStart n image old start →
    IsState n start.mmu start.world → IsCutShort n limit start new → GoesOn n limit start new → StandsOn n parts old new
stands_on n image parts limit old start new same most loaded state cut goes_on =
    record {
      start = start;
      loaded = subst (λ (p : Parts). IsStart n p old start) same loaded;
      state = state;
      cut = subst (λ k. IsCutShort n k start new) most cut;
      goes_on = subst (λ k. GoesOn n k start new) most goes_on;
    }
