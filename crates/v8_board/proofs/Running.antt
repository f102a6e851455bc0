-- Turns of a board, one after the other.
use Rattle.std.proofs.Common.{◌≡◌, ℕ, suc, ◌+◌, ◌<◌, ◌≤◌, ◌⊎◌, inl, inr, None, refl, sym, ap, ◌∙◌, arith}
use Rattle.v8_core.specs.declared.turn.Turn.{Turn}
use Rattle.v8_board.specs.Seen.{State, ending_of, turned}
use Rattle.v8_board.specs.Runs.{Turns, IsRun, IsCutShort, state_after}

-- so many turns
abbrev pub Counted : (n : ℕ) → State n → State n → ℕ → Type 0
Counted n old new k = (t : Turns n old new) × (t.count ≡ k)

pub no_turns : (n : ℕ) (s : State n) → Counted n s s 0
no_turns n s = (record { count = 0; running = λ j none. absurd (omega arith); is = refl }, refl)

pub one_turn_more : (n k : ℕ) (old mid new : State n) (turn : Turn) → Counted n old mid k → ending_of n mid.world ≡ None → turned n mid ≡ (turn, new) → Counted n old new (k + 1)
one_turn_more n k old mid new turn (t, so_many) going is = (
  record {
    count = suc t.count;
    running = λ j less.
        let split : (j < t.count) ⊎ (j ≡ t.count) = search arith in
        elim split [
          | inl before ↦ t.running j before
          | inr same ↦ ap (λ k. ending_of n (state_after n k old).world) same ∙ ap (λ (s : State n). ending_of n s.world) (sym t.is) ∙ going
        ];
    is = sym (ap (λ (x : Turn × State n). x.1) is) ∙ ap (λ (s : State n). (turned n s).1) t.is;
  },
  omega arith,
)

pub ended_run : (n limit k : ℕ) (old new : State n) → Counted n old new k → k ≤ limit → (ending_of n new.world ≡ None → ⊥) → IsRun n limit old new
ended_run n limit k old new (t, so_many) within over = record { turns = t; within = omega arith; whole = λ none. absurd (over none) }

pub whole_run : (n limit k : ℕ) (old new : State n) → Counted n old new k → k ≡ limit → IsRun n limit old new
whole_run n limit k old new (t, so_many) all = record { turns = t; within = omega arith; whole = λ none. omega arith }

pub cut_short : (n limit k : ℕ) (old new : State n) → Counted n old new k → k < limit → ending_of n new.world ≡ None → IsCutShort n limit old new
cut_short n limit k old new (t, so_many) less none = record { turns = t; within = omega arith; going = none }
