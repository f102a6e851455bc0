-- An invariant of pairs of states makes an image safe.
use Rattle.std.proofs.Common.{◌≡◌, ℕ, zero, suc, ◌+◌, ◌<◌, ◌≤◌, List, [], ◌∷◌, Option, Some, None, refl, sym, ap, ◌∙◌, subst, arith}
use Rattle.std.specs.Prelude.{unwrap_or}
use Rattle.sbx_image.specs.Parts.{Parts}
use Rattle.sbx_flat.specs.Registers.{Fresh, IsFresh, still}
use Rattle.sbx_flat.specs.Runs.{Place, place_of, weight_at, weight, Run, IsStart, budget, AreBytes, Behaves, FlatSafe}
use Rattle.sbx_flat.specs.States.{State, Turn, Goes, Fails, Over, Wrong}
use Rattle.sbx_flat.specs.Turns.{turn, goes_on, Step}

pub still_is_fresh : IsFresh still
still_is_fresh = record { locals = λ n. omega arith; outs = λ n. omega arith; slots = λ n. omega arith }

abbrev calm_path_on : (State → List Place) → Place → Turn → List Place
calm_path_on go place (Goes next) = place ∷ go next
calm_path_on go place (Fails why) = []
calm_path_on go place Over = []

abbrev calm_end_on : (State → State) → State → Turn → State
calm_end_on go here (Goes next) = go next
calm_end_on go here (Fails why) = here
calm_end_on go here Over = here

-- at most n steps where new frames hold zeros: the path and the last state
abbrev pub calm_path : Parts → ℕ → State → List Place
calm_path parts zero s = []
calm_path parts (suc n) s = calm_path_on (calm_path parts n) (place_of parts s) (turn parts still s)

abbrev pub calm_end : Parts → ℕ → State → State
calm_end parts zero s = s
calm_end parts (suc n) s = calm_end_on (calm_end parts n) s (turn parts still s)

-- what an invariant owes of a state s and the calm one beside it, with the weight so far
pub record Moves (parts : Parts) (I : ℕ → State → State → Type 0) (w : ℕ) (s calm : State) : Type 0 where
  pub place : place_of parts s ≡ place_of parts calm
  pub weighs : 1 ≤ weight_at parts (place_of parts s)
  pub next_calm : State
  pub calm_goes : turn parts still calm ≡ Goes next_calm
  pub each : (fresh : Fresh) → IsFresh fresh → (next : State) × (turn parts fresh s ≡ Goes next) × I (w + weight_at parts (place_of parts s)) next next_calm

pub record Keeps (parts : Parts) (I : ℕ → State → State → Type 0) : Type 0 where
  pub bound : (w : ℕ) (s calm : State) → I w s calm → w ≤ budget parts
  pub exits : (w : ℕ) (s calm : State) → I w s calm → s.exit ≡ calm.exit
  pub outputs : (w : ℕ) (s calm : State) → I w s calm → s.output ≡ calm.output
  pub moves : (w : ℕ) (s calm : State) → I w s calm → s.exit ≡ None → Moves parts I w s calm

over_at : (parts : Parts) (fresh : Fresh) (s : State) (status : ℕ) → s.exit ≡ Some status → turn parts fresh s ≡ Over
unfolding turn
over_at parts fresh s status e = ap (λ x. goes_on parts fresh s x s.annulled) e

-- a state that goes on isn't over
open_before : (parts : Parts) (fresh : Fresh) (s : State) (t : Turn) (x : Option ℕ) → s.exit ≡ x → turn parts fresh s ≡ t → (t ≡ Over → ⊥) → x ≡ None
open_before parts fresh s t None e h goes_on = refl
open_before parts fresh s t (Some status) e h goes_on = absurd (goes_on (sym h ∙ over_at parts fresh s status e))

is_open : (parts : Parts) (fresh : Fresh) (s next : State) → turn parts fresh s ≡ Goes next → s.exit ≡ None
is_open parts fresh s next h = open_before parts fresh s (Goes next) s.exit refl h (λ e. cc)

one_next : (a b : State) (t : Turn) → t ≡ Goes a → t ≡ Goes b → b ≡ a
one_next a b t e f = cc

fails_not : (why : Wrong) (a : State) (t : Turn) → t ≡ Fails why → t ≡ Goes a → ⊥
fails_not why a t e f = cc

-- The calm run has the path and the end of a finished run.
pub record Ends (parts : Parts) (n : ℕ) (calm : State) (way : List Place) (t : State) : Type 0 where
  pub output : t.output ≡ (calm_end parts n calm).output
  pub status : t.exit ≡ (calm_end parts n calm).exit
  pub path : way ≡ calm_path parts n calm

-- one more step in front
more : (parts : Parts) (n : ℕ) (calm next : State) (p : Place) (way : List Place) (t : State) → turn parts still calm ≡ Goes next → p ≡ place_of parts calm →
    Ends parts n next way t → Ends parts (suc n) calm (p ∷ way) t
more parts n calm next p way t e same ends =
    let end : calm_end parts (suc n) calm ≡ calm_end parts n next = ap (calm_end_on (calm_end parts n) calm) e in
    let path : calm_path parts (suc n) calm ≡ place_of parts calm ∷ calm_path parts n next = ap (calm_path_on (calm_path parts n) (place_of parts calm)) e in
    record {
      output = ends.output ∙ sym (ap (λ (x : State). x.output) end);
      status = ends.status ∙ sym (ap (λ (x : State). x.exit) end);
      path = ap (λ x. x ∷ way) same ∙ ap (λ x. place_of parts calm ∷ x) ends.path ∙ sym path;
    }

-- no more steps where the calm state is over
none_left : (parts : Parts) (n : ℕ) (calm t : State) (word : ℕ) → t.exit ≡ Some word → t.exit ≡ calm.exit → t.output ≡ calm.output → Ends parts n calm [] t
none_left parts zero calm t word over e o = record { output = o; status = e; path = refl }
none_left parts (suc n) calm t word over e o =
    let h = over_at parts still calm word (sym e ∙ over) in
    let end : calm_end parts (suc n) calm ≡ calm = ap (calm_end_on (calm_end parts n) calm) h in
    record {
      output = o ∙ sym (ap (λ (x : State). x.output) end);
      status = e ∙ sym (ap (λ (x : State). x.exit) end);
      path = sym (ap (calm_path_on (calm_path parts n) (place_of parts calm)) h);
    }

some_or : (x : Option ℕ) (word status : ℕ) → Some word ≡ x → word ≡ unwrap_or x status
some_or None word status e = absurd (cc)
some_or (Some v) word status e = cc

module _ (parts : Parts) (I : ℕ → State → State → Type 0) (keeps : Keeps parts I) where
  -- one step of a run keeps the invariant
  after_step : (w : ℕ) (s calm mid : State) → I w s calm → Step parts s mid → (m : Moves parts I w s calm) × I (w + weight_at parts (place_of parts s)) mid m.next_calm
  after_step w s calm mid i step =
      let m = keeps.moves w s calm i (is_open parts step.0 s mid step.2) in
      let n = m.each step.0 step.1 in
      (m, subst (λ x. I (w + weight_at parts (place_of parts s)) x m.next_calm) (one_next mid n.0 (turn parts step.0 s) step.2 n.1) n.2)

  -- the invariant goes along each run
  along : (path : List Place) (w : ℕ) (s calm t : State) → I w s calm → Run parts s path t → (c : State) × I (w + weight parts path) t c
  along [] w s calm t i run =
      let e : w ≡ w + 0 = omega arith in
      let j = subst (λ x. I w x calm) run i in
      (calm, subst (λ x. I x t calm) e j)
  along (p ∷ path) w s calm t i run =
      let a = after_step w s calm run.0 i run.2 in
      let b = along path (w + weight_at parts (place_of parts s)) run.0 a.0.next_calm t a.1 run.3 in
      let f : weight_at parts p ≡ weight_at parts (place_of parts s) = ap (weight_at parts) run.1 in
      let e : w + weight_at parts (place_of parts s) + weight parts path ≡ w + (weight_at parts p + weight parts path) = omega (arith, f) in
      (b.0, subst (λ x. I x t b.0) e b.1)

  -- each finished run ends as the calm run does
  ends : (way : List Place) (n w : ℕ) (s calm t : State) (word : ℕ) → I w s calm → budget parts < w + n → Run parts s way t → t.exit ≡ Some word → Ends parts n calm way t
  ends [] n w s calm t word i enough run over =
      let j = subst (λ x. I w x calm) run i in
      none_left parts n calm t word over (keeps.exits w t calm j) (keeps.outputs w t calm j)
  ends (p ∷ way) zero w s calm t word i enough run over =
      let b = keeps.bound w s calm i in absurd (omega arith)
  ends (p ∷ way) (suc n) w s calm t word i enough run over =
      let a = after_step w s calm run.0 i run.2 in
      let one = a.0.weighs in
      let left : budget parts < w + weight_at parts (place_of parts s) + n = omega arith in
      more parts n calm a.0.next_calm p way t a.0.calm_goes (run.1 ∙ a.0.place) (ends way n (w + weight_at parts (place_of parts s)) run.0 a.0.next_calm t word a.1 left run.3 over)

  pub behaves : (input : List ℕ) (calm : State) → ((s : State) → IsStart parts input s → I 0 s calm) → let n = suc (budget parts) in
      Behaves parts input (calm_end parts n calm).output (unwrap_or (calm_end parts n calm).exit 0) (calm_path parts n calm)
  behaves input calm start = record {
    never_wrong = λ way s run wrong.
        let a = along way 0 run.0 calm s (start run.0 run.1) run.2 in
        let open_now = open_before parts wrong.0 s (Fails wrong.2) s.exit refl wrong.3 (λ e. cc) in
        let m = keeps.moves (0 + weight parts way) s a.0 a.1 open_now in
        let e = m.each wrong.0 wrong.1 in
        fails_not wrong.2 e.0 (turn parts wrong.0 s) wrong.3 e.1;
    within_budget = λ way s run.
        let a = along way 0 run.0 calm s (start run.0 run.1) run.2 in
        let b = keeps.bound (0 + weight parts way) s a.0 a.1 in
        omega arith;
    can_go_on = λ way s run is_open_now.
        let a = along way 0 run.0 calm s (start run.0 run.1) run.2 in
        let m = keeps.moves (0 + weight parts way) s a.0 a.1 is_open_now in
        let e = m.each still still_is_fresh in
        (e.0, (still, still_is_fresh, e.1));
    one_answer = λ way s word run over.
        let e = ends way (suc (budget parts)) 0 run.0 calm s word (start run.0 run.1) (omega arith) run.2 over in
        (e.output, some_or (calm_end parts (suc (budget parts)) calm).exit word 0 (sym over ∙ e.status), e.path);
  }

-- an invariant that begins at each start makes the image safe
pub safe : (parts : Parts) (I : ℕ → State → State → Type 0) → Keeps parts I → (calm_start : List ℕ → State) →
    ((input : List ℕ) (s : State) → AreBytes input → IsStart parts input s → I 0 s (calm_start input)) → FlatSafe parts
safe parts I keeps calm_start start input bytes =
    let calm = calm_start input in
    let n = suc (budget parts) in
    ((calm_end parts n calm).output, unwrap_or (calm_end parts n calm).exit 0, calm_path parts n calm, behaves parts I keeps input calm (λ s. start input s bytes))
