-- The laws: along a run the windows that are taken count the frames, which are at most as many as the depth says.
use Rattle.std.proofs.Common.{◌≡◌, ℕ, suc, ◌+◌, ◌-◌, ◌≤◌, Bool, true, false, List, [], ◌∷◌, length, Option, Some, None, refl, sym, ap, ◌∙◌, subst, inl, inr, arith}
use Rattle.std.specs.Prelude.{◌==◌, if◌then◌else◌}
use Rattle.std.proofs.lemmas.Bool.Decides.{nat_tests}
use Rattle.v8_meaning.specs.declared.operation.Operation.{Operation}
use Rattle.v8_meaning.specs.declared.operation.Operation.TheVariants.{Save, Restore}
use Rattle.sbx_image.specs.Parts.{Parts}
use Rattle.sbx_flat.specs.Registers.{Frame, Fresh}
use Rattle.sbx_flat.specs.declared.path.Place.{Place}
use Rattle.sbx_flat.specs.declared.path.Traffic.{Traffic}
use Rattle.sbx_flat.specs.Runs.{AreBytes, FlatRun, Run, place_of, weight_of}
use Rattle.sbx_flat.specs.States.{State}
use Rattle.sbx_flat.specs.Traffic.{after_operation, after_place, after_word, no_traffic, traffic_from}
use Rattle.sbx_flat.specs.Turns.{Step, asked, fetches, goes_on, turn, word_at}
use Rattle.sbx_flat.proofs.Kept.{pick}
use Rattle.sbx_rules.specs.Verdicts.{Checked}
use Rattle.sbx_sound.specs.Law.{IsFormed}
use Rattle.sbx_sound.proofs.Safe.{ShowsStand, Stand}
use Rattle.sbx_depth.specs.Law.{Deep, DepthBoundsAnswers, DepthBoundsFrames, DepthBoundsTraffic}
use Rattle.sbx_depth.proofs.Depths.{within_depth}
use Rattle.sbx_depth.proofs.Ending.{runs_along}
use Rattle.sbx_depth.proofs.Frames.{Comes, Frames, above, performed_frames}
use Rattle.sbx_sound.proofs.Whole.{order}
use Rattle.sbx_depth.proofs.Steps.{Stands, is_open, stands_on, starts}

no_exit : (o : Option ℕ) (status : ℕ) → o ≡ None → o ≡ Some status → ⊥
no_exit o status e f = cc

-- A state with at most so many frames above the first.
abbrev Low : ℕ → State → Type 0
Low most s = above s ≤ most

-- A state and the traffic up to it: a window is taken for each frame, and there were no traps.
record Calm (s : State) (t : Traffic) : Type 0 where
  windows : t.windows ≡ suc (above s)
  overflows : t.overflows ≡ 0
  underflows : t.underflows ≡ 0

-- ---- one step

-- A step's frames are few, where a SAVE's are.
few_after : (most : ℕ) (op : Operation) (s next : State) → Frames op s next → Low most s → (next.exit ≡ s.exit → Low most next) → Low most next
few_after most (Save f) s next moved low open_low = open_low moved.1
few_after most (Restore f) s next moved low open_low = omega (arith, moved, low)
few_after most _ s next moved low open_low = omega (arith, moved, low)

calm_after : (n most : ℕ) (op : Operation) (s next : State) (t : Traffic) → most + 2 ≤ n → Frames op s next → Low most next → Calm s t → Calm next (after_operation n op t)
calm_after n most (Save f) s next t enough moved low calm =
    pick (Calm next) (t.windows == n - 1) (record t { overflows = t.overflows + 1; turns = t.turns + weight_of (Save f) }) (record t { windows = t.windows + 1; turns = t.turns + 1 })
    (λ full. absurd (let taken = calm.windows in let pushed = moved.0 in grind (arith, nat_tests)))
    (λ free. record { windows = (let taken = calm.windows in let pushed = moved.0 in omega (arith, taken, pushed)); overflows = calm.overflows; underflows = calm.underflows })
calm_after n most (Restore f) s next t enough moved low calm =
    pick (Calm next) (t.windows == 1) (record t { underflows = t.underflows + 1; turns = t.turns + weight_of (Restore f) }) (record t { windows = t.windows - 1; turns = t.turns + 1 })
    (λ last. absurd (let taken = calm.windows in grind (arith, nat_tests)))
    (λ more. record { windows = (let taken = calm.windows in omega (arith, taken, moved)); overflows = calm.overflows; underflows = calm.underflows })
calm_after n most _ s next t enough moved low calm = record { windows = calm.windows ∙ ap suc (sym moved); overflows = calm.overflows; underflows = calm.underflows }

-- what a step does to the frames, by the word that it comes from
abbrev Moved : Bool → Option ℕ → State → State → Type 0
Moved true o s next = above next ≡ above s
Moved false None s next = above next ≡ above s
Moved false (Some word) s next = Frames (asked word) s next

fetched : (parts : Parts) (fresh : Fresh) (o : Option ℕ) (s : State) → Comes (Moved false o s) (fetches parts fresh o s)
fetched parts fresh None s = tt
fetched parts fresh (Some word) s = performed_frames parts fresh (asked word) s

going : (parts : Parts) (fresh : Fresh) (s : State) (exit : Option ℕ) (annulled : Bool) → Comes (Moved annulled (word_at parts.words s.pc) s) (goes_on parts fresh s exit annulled)
going parts fresh s (Some status) annulled = tt
going parts fresh s None true = refl
going parts fresh s None false = fetched parts fresh (word_at parts.words s.pc) s

turned : (parts : Parts) (fresh : Fresh) (s : State) → Comes (Moved s.annulled (word_at parts.words s.pc) s) (turn parts fresh s)
unfolding turn
turned parts fresh s = going parts fresh s s.exit s.annulled

few_moved : (most : ℕ) (annulled : Bool) (o : Option ℕ) (s next : State) → Moved annulled o s next → Low most s → (next.exit ≡ s.exit → Low most next) → Low most next
few_moved most true o s next moved low open_low = omega (arith, moved, low)
few_moved most false None s next moved low open_low = omega (arith, moved, low)
few_moved most false (Some word) s next moved low open_low = few_after most (asked word) s next moved low open_low

calm_moved : (n most : ℕ) (annulled : Bool) (o : Option ℕ) (s next : State) (t : Traffic) → most + 2 ≤ n → Moved annulled o s next → Low most next → Calm s t
    → Calm next (if annulled then record t { turns = t.turns + 1 } else after_word n o t)
calm_moved n most true o s next t enough moved low calm = record { windows = calm.windows ∙ ap suc (sym moved); overflows = calm.overflows; underflows = calm.underflows }
calm_moved n most false None s next t enough moved low calm = record { windows = calm.windows ∙ ap suc (sym moved); overflows = calm.overflows; underflows = calm.underflows }
calm_moved n most false (Some word) s next t enough moved low calm = calm_after n most (asked word) s next t enough moved low calm

calm_place : (parts : Parts) (n most : ℕ) (s next : State) (t : Traffic) → most + 2 ≤ n → Moved s.annulled (word_at parts.words s.pc) s next → Low most next →
    Calm s t → Calm next (after_place parts n (place_of parts s) t)
unfolding after_place place_of
calm_place parts n most s next t enough moved low calm = calm_moved n most s.annulled (word_at parts.words s.pc) s next t enough moved low calm

-- ---- a run

no_frames : (older : List Frame) → older ≡ [] → length older ≡ 0
no_frames older e = ap length e

module _ (parts : Parts) (depth : ℕ → ℕ) (formed : IsFormed parts) (checked : Checked parts) (deep : Deep parts depth) where
  -- before the exit
  low_open : (w : ℕ) (stand : Stand parts w) (s : State) → ShowsStand parts w stand s → s.exit ≡ None → Low (depth 0) s
  low_open w (inl p) s shows open_now = within_depth parts depth checked (order parts formed checked) deep w p s shows
  low_open w (inr e) s shows open_now = absurd (no_exit s.exit e.status open_now shows.status)

  low_next : (s next : State) → Stands parts next → Low (depth 0) s → Step parts s next → Moved s.annulled (word_at parts.words s.pc) s next → Low (depth 0) next
  low_next s next there low step moved =
      few_moved (depth 0) s.annulled (word_at parts.words s.pc) s next moved low (λ same. low_open there.weight there.stand next there.shows (same ∙ is_open parts s next step))

  -- What each state along a run has, with the traffic up to it.
  record Kept (s : State) (t : Traffic) : Type 0 where
    stands : Stands parts s
    low : Low (depth 0) s
    calm : Calm s t

  kept_on : (n : ℕ) → depth 0 + 2 ≤ n → (s next : State) (t : Traffic) → Kept s t → Step parts s next → Kept next (after_place parts n (place_of parts s) t)
  kept_on n enough s next t kept step =
      let moved = subst (Comes (Moved s.annulled (word_at parts.words s.pc) s)) step.2 (turned parts step.0 s) in
      let there = stands_on parts formed checked s next kept.stands step in
      let low = low_next s next there kept.low step moved in
      record { stands = there; low = low; calm = calm_place parts n (depth 0) s next t enough moved low kept.calm }

  along : (n : ℕ) → depth 0 + 2 ≤ n → (path : List Place) (s last : State) (t : Traffic) → Kept s t → Run parts s path last → Kept last (traffic_from parts n path t)
  along n enough [] s last t kept run = subst (λ x. Kept x t) run kept
  along n enough (place ∷ path) s last t kept run =
      let here = kept_on n enough s run.0 t kept run.2 in
      along n enough path run.0 last (after_place parts n place t) (subst (λ p. Kept run.0 (after_place parts n p t)) (sym run.1) here) run.3

  reached : (n : ℕ) → depth 0 + 2 ≤ n → (input : List ℕ) (path : List Place) (s : State) → AreBytes input → FlatRun parts input path s → Kept s (traffic_from parts n path no_traffic)
  reached n enough input path s bytes run =
      let none = no_frames run.0.registers.older run.1.one_frame in
      along n enough path run.0 s no_traffic (record {
        stands = starts parts formed checked input run.0 bytes run.1;
        low = omega (arith, none);
        calm = record { windows = ap suc (sym none); overflows = refl; underflows = refl };
      }) run.2

pub depth_bounds_frames : DepthBoundsFrames
depth_bounds_frames parts depth formed checked deep input path s bytes run = (reached parts depth formed checked deep (depth 0 + 2) (omega arith) input path s bytes run).low

pub depth_bounds_traffic : DepthBoundsTraffic
depth_bounds_traffic parts depth formed checked deep n enough input path s bytes run =
    let kept = reached parts depth formed checked deep n enough input path s bytes run in
    (kept.calm.overflows, kept.calm.underflows)

pub depth_bounds_answers : DepthBoundsAnswers
depth_bounds_answers parts depth formed checked deep n enough input output status path bytes behaves =
    let run = runs_along parts input output status path behaves in
    depth_bounds_traffic parts depth formed checked deep n enough input path run.0 bytes run.1
