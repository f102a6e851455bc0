-- A run of the plain machine, so far.
use Rattle.std.proofs.Common.{◌≡◌, ℕ, ◌^◌, ◌<◌, ◌≤◌, List, [], ◌∷◌, ◌++◌, length, Some, refl, sym, ap, ◌∙◌, subst, arith}
use Rattle.sbx_image.specs.Parts.{Parts}
use Rattle.sbx_flat.specs.declared.path.Place.{Place}
use Rattle.sbx_flat.specs.declared.path.Wrong.{Wrong}
use Rattle.sbx_flat.specs.Registers.{IsFresh}
use Rattle.sbx_flat.specs.Runs.{Run, place_of}
use Rattle.sbx_flat.specs.States.{Fails, Goes, State, Turn}
use Rattle.sbx_flat.specs.Turns.{Step, turn}
use Rattle.flat_plain.specs.Comes.{Comes, IsRan, Turns}
use Rattle.flat_plain.specs.Shows.{Shows, filled}
use Rattle.flat_plain.specs.declared.machine.Plain.{Plain}
use Rattle.flat_plain.specs.declared.runs.Ending.TheVariants as endings
use Rattle.flat_plain.specs.declared.turned.Turned.TheVariants as turned

-- from each state that the machine showed there is a run along this path to one that it shows now
abbrev pub Reaches : Parts → Plain → List Place → Plain → Type 0
Reaches parts start path now = (s : State) → Shows start s → (t : State) × Run parts s path t × Shows now t

pub fill_is_fresh : (fill : ℕ) → fill < 2 ^ 32 → IsFresh (filled fill)
fill_is_fresh fill small = record { locals = λ n. small; outs = λ n. small; slots = λ n. small }

run_more : (parts : Parts) (s t u : State) (path : List Place) → Run parts s path t → Step parts t u → Run parts s (path ++ place_of parts t ∷ []) u
run_more parts s t u [] run one = (u, ap (place_of parts) (sym run), subst (λ x. Step parts x u) (sym run) one, refl)
run_more parts s t u (p ∷ path) run one = (run.0, run.1, run.2, run_more parts run.0 t u path run.3 one)

goes_by : (t : Turn) (new : Plain) → Comes t new turned.Went → (next : State) × (t ≡ Goes next) × Shows new next
goes_by (Goes next) new h = (next, refl, h)
goes_by (Fails why) new h = absurd h
goes_by _ new h = absurd h

fails_by : (t : Turn) (new : Plain) (why : Wrong) → Comes t new (turned.Failed why) → t ≡ Fails why
fails_by (Goes next) new why h = absurd h
fails_by (Fails told) new why h = ap Fails (sym h)
fails_by _ new why h = absurd h

pub reaches_none : (parts : Parts) (m : Plain) → Reaches parts m [] m
reaches_none parts m s shows = (s, refl, shows)

pub reaches_more : (parts : Parts) (fill : ℕ) (start now new : Plain) (path : List Place) (place : Place) (after : List Place) → fill < 2 ^ 32 →
    Reaches parts start path now → ((t : State) → Shows now t → place ≡ place_of parts t) → Turns (turn parts (filled fill)) now new turned.Went →
    after ≡ path ++ place ∷ [] → Reaches parts start after new
reaches_more parts fill start now new path place after small reached at step is s shows =
    let r = reached s shows in
    let g = goes_by (turn parts (filled fill) r.0) new (step r.0 r.2) in
    let run = run_more parts s r.0 g.0 path r.1 (filled fill, fill_is_fresh fill small, g.1) in
    let e : path ++ place_of parts r.0 ∷ [] ≡ after = ap (λ p. path ++ p ∷ []) (sym (at r.0 r.2)) ∙ sym is in
    (g.0, subst (λ way. Run parts s way g.0) e run, g.2)

pub exits : (parts : Parts) (fill limit : ℕ) (start now : Plain) (path : List Place) (word : ℕ) → Reaches parts start path now → length path ≤ limit →
    now.exit ≡ Some word → (s : State) → Shows start s → IsRan parts fill limit s now path (endings.Exit word)
exits parts fill limit start now path word reached few over s shows =
    let r = reached s shows in
    record { state = r.0; run = r.1; within = few; ends = (r.2, r.2.exit ∙ over) }

pub limits : (parts : Parts) (fill limit : ℕ) (start now : Plain) (path : List Place) → Reaches parts start path now → length path ≡ limit → (s : State) →
    Shows start s → IsRan parts fill limit s now path endings.Limit
limits parts fill limit start now path reached all s shows =
    let r = reached s shows in
    record { state = r.0; run = r.1; within = omega arith; ends = (r.2, all) }

pub fails : (parts : Parts) (fill limit : ℕ) (start now new : Plain) (path : List Place) (why : Wrong) → Reaches parts start path now → length path ≤ limit →
    Turns (turn parts (filled fill)) now new (turned.Failed why) → (s : State) → Shows start s → IsRan parts fill limit s new path (endings.Failed why)
fails parts fill limit start now new path why reached few step s shows =
    let r = reached s shows in
    record { state = r.0; run = r.1; within = few; ends = fails_by (turn parts (filled fill) r.0) new why (step r.0 r.2) }
