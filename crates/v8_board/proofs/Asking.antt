-- How often the port is called in turns that follow one another.
use Rattle.std.proofs.Common.{◌≡◌, ℕ, zero, suc, ◌+◌, ◌<◌, ◌≤◌, Bool, true, false, Option, Some, None, sym, ap, ◌∙◌, subst, arith}
use Rattle.v8_core.specs.Answers.{Grows, call_if}
use Rattle.v8_core.specs.Calls.{calls_by}
use Rattle.v8_core.specs.declared.turn.DataAccess.{DataAccess}
use Rattle.v8_core.specs.declared.turn.Turn.{Turn}
use Rattle.v8_contained.specs.Board.{Device, board}
use Rattle.v8_board.specs.Calls.{calls_in, next_calls}
use Rattle.v8_board.specs.Laws.{AsksOnceATurn}
use Rattle.v8_board.specs.Runs.{IsCutShort, IsRun, state_after}
use Rattle.v8_board.specs.Seen.{State, ending_of, turned}
use Rattle.v8_board.proofs.Running.{Counted}

pub no_calls : (n : ℕ) (s : State n) (a : ℕ) → Grows (calls_in n 0 s) a a
no_calls n s a = (omega arith, omega arith)

pub one_turn_called : (n k : ℕ) (old mid new : State n) (turn : Turn) (a b c : ℕ) → Counted n old mid k → turned n mid ≡ (turn, new)
    → Grows (calls_in n k old) a b → Grows (calls_by board mid.world.memory.device turn.access) b c → Grows (calls_in n (k + 1) old) a c
one_turn_called n k old mid new turn a b c (t, so_many) is before now =
    let here : mid ≡ state_after n k old = t.is ∙ ap (λ j. state_after n j old) so_many in
    let told : (turned n mid).0 ≡ turn = ap (λ (p : Turn × State n). p.0) is in
    let one : Grows (next_calls n mid) b c = subst (λ (u : Turn). Grows (calls_by board mid.world.memory.device u.access) b c) (sym told) now in
    let last : Grows (next_calls n (state_after n k old)) b c = subst (λ (s : State n). Grows (next_calls n s) b c) here one in
    let same : suc k ≡ k + 1 = omega arith in
    subst (λ j. Grows (calls_in n j old) a c) same (sum (calls_in n k old) (next_calls n (state_after n k old)) a b c before last)
  where
    sum : (x y a b c : ℕ) → Grows x a b → Grows y b c → Grows (x + y) a c
    sum x y a b c (p, q) (r, s) = (omega arith, omega arith)

pub ended_asks : (n limit k : ℕ) (old new : State n) (a b : ℕ) → Counted n old new k → k ≤ limit → (ending_of n new.world ≡ None → ⊥) → Grows (calls_in n k old) a b
    → (run : IsRun n limit old new) × Grows (calls_in n run.turns.count old) a b
ended_asks n limit k old new a b (t, so_many) within over calls =
    (record { turns = t; within = omega arith; whole = λ none. absurd (over none) }, subst (λ j. Grows (calls_in n j old) a b) (sym so_many) calls)

pub whole_asks : (n limit k : ℕ) (old new : State n) (a b : ℕ) → Counted n old new k → k ≡ limit → Grows (calls_in n k old) a b
    → (run : IsRun n limit old new) × Grows (calls_in n run.turns.count old) a b
whole_asks n limit k old new a b (t, so_many) all calls =
    (record { turns = t; within = omega arith; whole = λ none. omega arith }, subst (λ j. Grows (calls_in n j old) a b) (sym so_many) calls)

pub cut_asks : (n limit k : ℕ) (old new : State n) (a b c : ℕ) → Counted n old new k → k < limit → ending_of n new.world ≡ None → Grows (calls_in n k old) a b → Grows 1 b c
    → (cut : IsCutShort n limit old new) × Grows (calls_in n cut.turns.count old + 1) a c
cut_asks n limit k old new a b c (t, so_many) less none calls last =
    (record { turns = t; within = omega arith; going = none }, subst (λ j. Grows (calls_in n j old + 1) a c) (sym so_many) (one_over (calls_in n k old) calls last))
  where
    one_over : (x : ℕ) → Grows x a b → Grows 1 b c → Grows (x + 1) a c
    one_over x (p, q) (r, s) = (omega arith, omega arith)

-- ---- at most one call a turn

few_if : (b : Bool) → call_if b ≤ 1
few_if true = omega arith
few_if false = omega arith

few_by : (d : Device) (access : Option DataAccess) → calls_by board d access ≤ 1
few_by d None = omega arith
few_by d (Some access) = few_if (board.asks d access.pa access.size access.store)

pub asks_once_a_turn : AsksOnceATurn
asks_once_a_turn n zero s = omega arith
asks_once_a_turn n (suc k) s =
    let before = asks_once_a_turn n k s in
    let last = few_by (state_after n k s).world.memory.device (turned n (state_after n k s)).0.access in
    omega arith
