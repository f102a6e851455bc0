-- Turns and runs that follow one another.
use Rattle.std.proofs.Common.{◌≡◌, ℕ, zero, suc, ◌+◌, ◌-◌, ◌<◌, ◌≤◌, ◌⊎◌, inl, inr, None, refl, sym, ap, ◌∙◌, subst, arith}
use Rattle.v8_board.specs.Seen.{State, ending_of, turned}
use Rattle.v8_board.specs.Runs.{Turns, IsRun, IsCutShort, GoesOn, state_after}
use Rattle.v8_board.proofs.Running.{Counted, no_turns, one_turn_more, whole_run}

-- turns after turns, in one count
after_sum : (n i k : ℕ) (s : State n) → state_after n (i + k) s ≡ state_after n i (state_after n k s)
after_sum n zero k s = (let same : zero + k ≡ k = omega arith in ap (λ j. state_after n j s) same)
after_sum n (suc i) k s =
    let same : suc i + k ≡ suc (i + k) = omega arith in
    ap (λ j. state_after n j s) same ∙ ap (λ (t : State n). (turned n t).1) (after_sum n i k s)

joined : (n : ℕ) (s m e : State n) (t : Turns n s m) (u : Turns n m e) → Counted n s e (u.count + t.count)
joined n s m e t u = (
  record {
    count = u.count + t.count;
    running = λ j less.
        let split : (j < t.count) ⊎ (t.count ≤ j) = search arith in
        elim split [
          | inl before ↦ t.running j before
          | inr later ↦
              let same : j ≡ (j - t.count) + t.count = omega arith in
              ap (λ k. ending_of n (state_after n k s).world) same
              ∙ ap (λ (x : State n). ending_of n x.world) (after_sum n (j - t.count) t.count s ∙ ap (state_after n (j - t.count)) (sym t.is))
              ∙ u.running (j - t.count) (omega arith)
        ];
    is = u.is ∙ ap (state_after n u.count) t.is ∙ sym (after_sum n u.count t.count s);
  },
  refl,
)

pub turns_join : (n : ℕ) (s m e : State n) → Turns n s m → Turns n m e → Turns n s e
turns_join n s m e t u = (joined n s m e t u).0

-- where turns lead to a machine that has not ended, it had not ended where they begin
had_not_ended : (n : ℕ) (m e : State n) → Turns n m e → ending_of n e.world ≡ None → ending_of n m.world ≡ None
had_not_ended n m e u none = by_count u.count refl
  where
    by_count : (k : ℕ) → u.count ≡ k → ending_of n m.world ≡ None
    by_count zero same = sym (ap (λ (x : State n). ending_of n x.world) (u.is ∙ ap (λ j. state_after n j m) same)) ∙ none
    by_count (suc k) same = u.running 0 (omega arith)

run_of : (n limit k : ℕ) (s e : State n) → Counted n s e k → k ≤ limit → (ending_of n e.world ≡ None → k ≡ limit) → IsRun n limit s e
run_of n limit k s e (t, so_many) within whole = record { turns = t; within = omega arith; whole = λ none. so_many ∙ whole none }

pub runs_join : (n a b : ℕ) (s m e : State n) → IsRun n a s m → IsRun n b m e → IsRun n (a + b) s e
runs_join n a b s m e r q =
    let r_within = r.within in
    let q_within = q.within in
    run_of n (a + b) (q.turns.count + r.turns.count) s e (joined n s m e r.turns q.turns) (omega arith)
    (λ none.
    let all_of_r = r.whole (had_not_ended n m e q.turns none) in
    let all_of_q = q.whole none in
    omega arith)

pub step_runs : (n : ℕ) (s : State n) → ending_of n s.world ≡ None → IsRun n 1 s (turned n s).1
step_runs n s none = whole_run n 1 (0 + 1) s (turned n s).1 (one_turn_more n 0 s s (turned n s).1 (turned n s).0 (no_turns n s) none refl) refl

pub cut_runs_join : (n a b : ℕ) (s m e : State n) (c : IsCutShort n a s m) → IsRun n b m e → IsRun n (c.turns.count + b) s e
cut_runs_join n a b s m e c q =
    let within = q.within in
    run_of n (c.turns.count + b) (q.turns.count + c.turns.count) s e (joined n s m e c.turns q.turns) (omega arith)
    (λ none. let all = q.whole none in omega arith)

pub goes_on : (n limit : ℕ) (s m : State n) → IsCutShort n limit s m → GoesOn n limit s m
goes_on n limit s m c =
    let less = c.within in (
      limit - c.turns.count,
      omega arith,
      λ e q.
          let sum : c.turns.count + (limit - c.turns.count) ≡ limit = omega arith in
          subst (λ k. IsRun n k s e) sum (cut_runs_join n limit (limit - c.turns.count) s m e c q),
    )

-- no run stops before another one that has its limit does
not_sooner : (n limit : ℕ) (s e f : State n) (r : IsRun n limit s e) (q : IsRun n limit s f) → r.turns.count < q.turns.count → ⊥
not_sooner n limit s e f r q less =
    let all : r.turns.count ≡ limit = r.whole (ap (λ (x : State n). ending_of n x.world) r.turns.is ∙ q.turns.running r.turns.count less) in
    let within = q.within in
    omega arith

pub runs_agree : (n limit : ℕ) (s e f : State n) → IsRun n limit s e → IsRun n limit s f → e ≡ f
runs_agree n limit s e f r q =
    let split : (r.turns.count < q.turns.count) ⊎ ((q.turns.count < r.turns.count) ⊎ (r.turns.count ≡ q.turns.count)) = search arith in
    elim split [
      | inl sooner ↦ absurd (not_sooner n limit s e f r q sooner)
      | inr rest ↦ elim rest [
        | inl later ↦ absurd (not_sooner n limit s f e q r later)
        | inr same ↦ r.turns.is ∙ ap (λ k. state_after n k s) same ∙ sym q.turns.is
      ]
    ]
