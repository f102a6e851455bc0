-- A board that waits for bytes, beside the runs on every input that begins with those it has got.
use Rattle.std.proofs.Common.{◌≡◌, ℕ, zero, suc, ◌+◌, ◌-◌, ◌<◌, ◌≤◌, ◌⊎◌, inl, inr, Bool, true, false, List, [], ◌∷◌, ◌++◌, length, Option, None, Some, refl}
use Rattle.std.proofs.Common.{sym, ap, subst, ◌∙◌, append_assoc, arith, lit<, rules}
use Rattle.std.proofs.lemmas.List.{append-nil}
use Rattle.std.specs.Prelude.{◌≢◌}
use Rattle.std.specs.Io.KnownBytes.{Appends, Consumes, IsAtEnd}
use Rattle.std.proofs.KnownBytes.{Appends-trans, Consumes-nil, Consumes-trans}
use Rattle.v8_core.specs.Ram.{AreBytes}
use Rattle.v8_board.specs.declared.outcome.Ending.{Ending}
use Rattle.v8_board.specs.Seen.{State, ending_by, ending_of, turned}
use Rattle.v8_board.specs.Runs.{Turns, IsRun, state_after}
use Rattle.v8_board.proofs.Running.{Counted, no_turns, one_turn_more}
use Rattle.sbx_port.specs.Following.{Fine, FollowsOn, beyond, with_input, with_output}
use Rattle.sbx_port.specs.Ports.{mark, unknown}
use Rattle.sbx_port.specs.Streams.{IsAll, IsFed, IsHalted, IsSlice, RunsAs, RunsOn, Says, StandsBeside, Streamed, waits}
use Rattle.sbx_port.specs.declared.carrying.StreamFault.{StreamFault}
use Rattle.sbx_port.specs.declared.carrying.StreamFault.TheVariants.{Reader, Writer}
use Rattle.sbx_port.proofs.Followed.{ending_follow, nothing_comes, turn_follow}

-- ---- bytes

pub all_read : (a b : Option (List ℕ)) (xs : List ℕ) → Consumes a b xs → IsAtEnd b → IsAll a xs
all_read None b xs p q = tt
all_read (Some x) None xs p q = absurd p
all_read (Some x) (Some y) xs p q = p ∙ ap (λ (w : List ℕ). xs ++ w) q ∙ append-nil xs

pub no_bytes : AreBytes []
no_bytes i = omega arith

one_byte : (b : ℕ) → b < 256 → AreBytes (b ∷ [])
one_byte b less zero = less
one_byte b less (suc i) = omega arith

pub bytes_after : (xs ys : List ℕ) → AreBytes xs → AreBytes ys → AreBytes (xs ++ ys)
bytes_after [] ys p q i = q i
bytes_after (x ∷ xs) ys p q zero = p zero
bytes_after (x ∷ xs) ys p q (suc i) = bytes_after xs ys (λ k. p (suc k)) q i

pub unknown_bytes : AreBytes unknown
unknown_bytes = one_byte mark (lit< tt)

pub byte_comes : (b : ℕ) → b < 256 → AreBytes (b ∷ unknown)
byte_comes b less = bytes_after (b ∷ []) unknown (one_byte b less) unknown_bytes

-- a byte that comes first is some byte
not_none : (xs ys : List ℕ) → xs ≢ [] → xs ++ ys ≢ []
not_none [] ys some is = absurd (some refl)
not_none (x ∷ xs) ys some is = absurd (cc)

-- ---- output only grows

one_grows : (n : ℕ) (s : State n) → (rest : List ℕ) × ((turned n s).1.world.memory.device.output ≡ s.world.memory.device.output ++ rest)
one_grows n s =
    let d = s.world.memory.device in
    let f : FollowsOn n true 0 [] [] d.output (with_output s []) s =
    record { cpu = refl; ram = refl; device = (d.input, sym (append-nil d.input), sym (append-nil d.input), refl, sym (append-nil d.output), refl); mmu = refl; counts = refl } in
    let t = turn_follow n true 0 [] [] d.output (with_output s []) s f tt in
    ((turned n (with_output s [])).1.world.memory.device.output, t.1.device.4)

output_grows : (n k d : ℕ) (s : State n) → (rest : List ℕ) × ((state_after n (k + d) s).world.memory.device.output ≡ (state_after n k s).world.memory.device.output ++ rest)
output_grows n k zero s =
    let here : k + 0 ≡ k = omega arith in
    ([], ap (λ (i : ℕ). (state_after n i s).world.memory.device.output) here ∙ sym (append-nil (state_after n k s).world.memory.device.output))
output_grows n k (suc d) s =
    let before = output_grows n k d s in
    let more = one_grows n (state_after n (k + d) s) in
    let next : k + suc d ≡ suc (k + d) = omega arith in (
      before.0 ++ more.0,
      ap (λ (i : ℕ). (state_after n i s).world.memory.device.output) next ∙ more.1 ∙ ap (λ (w : List ℕ). w ++ more.0) before.1
          ∙ append_assoc (state_after n k s).world.memory.device.output before.0 more.0,
    )

ended_or_not : (o : Option Ending) → (o ≡ None) ⊎ (o ≡ None → ⊥)
ended_or_not None = inl refl
ended_or_not (Some e) = inr (λ none. search rules)

-- some turns within the limit go on to a whole run
goes_to_the_end : (n limit gap : ℕ) (old mid : State n) (t : Turns n old mid) → t.count + gap ≡ limit
    → (end : State n) × (run : IsRun n limit old end) × (d : ℕ) × (run.turns.count ≡ t.count + d)
goes_to_the_end n limit zero old mid t is = (mid, record { turns = t; within = omega arith; whole = λ none. omega arith }, 0, omega arith)
goes_to_the_end n limit (suc gap) old mid t is =
    elim (ended_or_not (ending_of n mid.world)) [
      | inl none ↦
          let more = one_turn_more n t.count old mid (turned n mid).1 (turned n mid).0 (t, refl) none refl in
          let sum : more.0.count + gap ≡ limit = omega (arith, more.1, is) in
          let whole = goes_to_the_end n limit gap old (turned n mid).1 more.0 sum in
          (whole.0, whole.1, suc whole.2, omega (arith, more.1, whole.3))
      | inr over ↦ (mid, record { turns = t; within = omega (arith, is); whole = λ none. absurd (over none) }, 0, omega arith)
    ]

-- ---- tracks

-- on every input that begins with the bytes read, so many turns lead to a state that the board follows
abbrev pub Tracks : (n : ℕ) → State n → ℕ → List ℕ → Bool → List ℕ → State n → Type 0
Tracks n start k read met w s =
    (j : List ℕ) → (mid : State n) × Counted n (with_input start (read ++ beyond met j)) mid k × FollowsOn n met mark [] j w s mid

pub tracks_first : (n : ℕ) (s : State n) → s.world.memory.device.input ≡ unknown → Tracks n s 0 [] false [] s
tracks_first n s waiting = λ j.
    (with_input s j, no_turns n (with_input s j), record { cpu = refl; ram = refl; device = ([], waiting, refl, refl, refl, refl); mmu = refl; counts = refl })

tracks_turn : (n k : ℕ) (start : State n) (read : List ℕ) (met : Bool) (w : List ℕ) (s t : State n) → Tracks n start k read met w s
    → ending_of n s.world ≡ None → (turned n s).1 ≡ t → Fine met [] t.world.memory.device → Tracks n start (k + 1) read met w t
tracks_turn n k start read met w s t tracks going is fine = λ j.
    let (mid, counted, follows) = tracks j in
    let good = subst (λ (u : State n). Fine met [] u.world.memory.device) (sym is) fine in
    let next = turn_follow n met mark [] j w s mid follows good in
    let goes = sym (ending_follow n met mark [] j w s mid follows) ∙ going in (
      (turned n mid).1,
      one_turn_more n k (with_input start (read ++ beyond met j)) mid (turned n mid).1 (turned n mid).0 counted goes refl,
      subst (λ (u : State n). FollowsOn n met mark [] j w u (turned n mid).1) is next.1,
    )

no_length : (xs : List ℕ) → length xs ≤ 0 → xs ≡ []
no_length [] few = refl
no_length (x ∷ xs) few = absurd (omega (arith, few))

-- where the mark stands after a turn it stood before, since no turn gives a byte back
fine_before : (n : ℕ) (met : Bool) (s : State n) → Fine met [] (turned n s).1.world.memory.device → Fine met [] s.world.memory.device
fine_before n true s fine = tt
fine_before n false s fine = λ few.
    let none : length (turned n s).1.world.memory.device.input ≡ 0 =
    ap (λ (i : List ℕ). length i) (nothing_comes n s (no_length s.world.memory.device.input few)) in
    fine (omega (arith, none))

tracks_turns : (n k c : ℕ) (start : State n) (read : List ℕ) (met : Bool) (w : List ℕ) (s : State n) → Tracks n start k read met w s
    → ((j : ℕ) → j < c → ending_of n (state_after n j s).world ≡ None) → Fine met [] (state_after n c s).world.memory.device → Tracks n start (k + c) read met w (state_after n c s)
tracks_turns n k zero start read met w s tracks running fine =
    let same : k ≡ k + 0 = omega arith in
    subst (λ (i : ℕ). Tracks n start i read met w s) same tracks
tracks_turns n k (suc c) start read met w s tracks running fine =
    let before = tracks_turns n k c start read met w s tracks (λ j less. running j (omega (arith, less))) (fine_before n met (state_after n c s) fine) in
    let one = tracks_turn n (k + c) start read met w (state_after n c s) (turned n (state_after n c s)).1 before (running c (omega arith)) refl fine in
    let sum : k + c + 1 ≡ k + suc c = omega arith in
    subst (λ (i : ℕ). Tracks n start i read met w (state_after n (suc c) s)) sum one

no_front : (c : List ℕ) → unknown ≡ c ++ unknown → c ≡ []
no_front [] is = refl
no_front (x ∷ []) is = absurd (too_long is)
  where
    too_long : unknown ≡ x ∷ unknown → ⊥
    too_long is = (let e : length unknown ≡ length (x ∷ unknown) = ap (λ (v : List ℕ). length v) is in omega (arith, e))
no_front (x ∷ y ∷ c) is = absurd (too_long is)
  where
    too_long : unknown ≡ x ∷ y ∷ (c ++ unknown) → ⊥
    too_long is = (let e : length unknown ≡ length (x ∷ y ∷ (c ++ unknown)) = ap (λ (v : List ℕ). length v) is in omega (arith, e))

tracks_fed : (n k : ℕ) (start : State n) (read : List ℕ) (now_met : Bool) (w : List ℕ) (s t : State n) (before now : Option (List ℕ)) → Tracks n start k read false w s
    → s.world.memory.device.input ≡ unknown → IsFed n now_met s t before now
    → (more : List ℕ) × Tracks n start k (read ++ more) now_met w t × AreBytes more × Consumes before now more × (now_met ≡ true → IsAtEnd now)
tracks_fed n k start read true w s t before now tracks waiting (is, got, end) = (
  [],
  λ j.
      let (mid, counted, follows) = tracks [] in
      let (c, di, ei, en, o, st) = follows.device in
      let none = no_front c (sym waiting ∙ di) in
      let f : FollowsOn n true mark [] j w (with_input s []) mid =
      record { cpu = follows.cpu; ram = follows.ram; device = ([], refl, ei ∙ ap (λ (i : List ℕ). i ++ []) none, en, o, st); mmu = follows.mmu; counts = follows.counts } in
      (mid, subst (λ (r : List ℕ). Counted n (with_input start (r ++ [])) mid k) (sym (append-nil read)) counted, subst (λ (u : State n). FollowsOn n true mark [] j w u mid) (sym is) f),
  no_bytes,
  got,
  λ yes. end,
)
tracks_fed n k start read false w s t before now tracks waiting (b, less, is, got) = (
  b ∷ [],
  λ j.
      let (mid, counted, follows) = tracks (b ∷ j) in
      let (c, di, ei, en, o, st) = follows.device in
      let none = no_front c (sym waiting ∙ di) in
      let f : FollowsOn n false mark [] j w (with_input s (b ∷ unknown)) mid =
      record { cpu = follows.cpu; ram = follows.ram; device = (b ∷ [], refl, ei ∙ ap (λ (i : List ℕ). i ++ b ∷ j) none, en, o, st); mmu = follows.mmu; counts = follows.counts } in
      (mid, subst (λ (r : List ℕ). Counted n (with_input start r) mid k) (sym (append_assoc read (b ∷ []) j)) counted, subst (λ (u : State n). FollowsOn n false mark [] j w u mid) (sym is) f),
  one_byte b less,
  got,
  λ yes. search rules,
)

-- what becomes known of the input ends nothing
fed_ending : (n : ℕ) (now_met : Bool) (s t : State n) (before now : Option (List ℕ)) → IsFed n now_met s t before now → ending_of n t.world ≡ ending_of n s.world
unfolding ending_of
fed_ending n true s t before now (is, got, end) = ap (λ (u : State n). ending_by u.world.memory.device.stopped u.world.cpu.control.tt u.world.cpu.control.error) is
fed_ending n false s t before now (b, less, is, got) = ap (λ (u : State n). ending_by u.world.memory.device.stopped u.world.cpu.control.tt u.world.cpu.control.error) is

tracks_delivered : (n k : ℕ) (start : State n) (read : List ℕ) (met : Bool) (w : List ℕ) (s t : State n) → Tracks n start k read met w s
    → t ≡ with_output s [] → Tracks n start k read met (w ++ s.world.memory.device.output) t
tracks_delivered n k start read met w s t tracks is = λ j.
    let (mid, counted, follows) = tracks j in
    let (c, di, ei, en, o, st) = follows.device in
    let all = w ++ s.world.memory.device.output in
    let f : FollowsOn n met mark [] j all (with_output s []) mid =
    record { cpu = follows.cpu; ram = follows.ram; device = (c, di, ei, en, o ∙ sym (append-nil all), st); mmu = follows.mmu; counts = follows.counts } in
    (mid, counted, subst (λ (u : State n). FollowsOn n met mark [] j all u mid) (sym is) f)

-- ---- ends

stands_beside : (n : ℕ) (met : Bool) (j w : List ℕ) (s t : State n) → FollowsOn n met mark [] j w s t → s.world.memory.device.output ≡ [] → StandsBeside n w s t
stands_beside n met j w s t f empty = record {
  cpu = f.cpu;
  ram = f.ram;
  stopped = f.device.5;
  mmu = f.mmu;
  counts = f.counts;
  output = f.device.4 ∙ ap (λ (o : List ℕ). w ++ o) empty ∙ append-nil w;
}

pub runs_as : (n k limit : ℕ) (start : State n) (read : List ℕ) (met : Bool) (w : List ℕ) (s : State n) → Tracks n start k read met w s
    → s.world.memory.device.output ≡ [] → k ≤ limit → (ending_of n s.world ≡ None → k ≡ limit) → RunsAs n start limit s read met w
runs_as n k limit start read met w s tracks empty within whole = λ j.
    let (mid, counted, follows) = tracks j in
    let (t, so_many) = counted in (
      mid,
      record { turns = t; within = omega arith; whole = λ none. so_many ∙ whole (ending_follow n met mark [] j w s mid follows ∙ none) },
      stands_beside n met j w s mid follows empty,
    )

-- the run goes on from here, to an end or to the limit
pub runs_on : (n k limit : ℕ) (start : State n) (read : List ℕ) (met : Bool) (w : List ℕ) (s : State n) → Tracks n start k read met w s → k ≤ limit
    → (j : List ℕ) → (end : State n) × IsRun n limit (with_input start (read ++ beyond met j)) end
    × (rest : List ℕ) × (end.world.memory.device.output ≡ w ++ (s.world.memory.device.output ++ rest))
runs_on n k limit start read met w s tracks within = λ j.
    let (mid, counted, follows) = tracks j in
    let (t, so_many) = counted in
    let from = with_input start (read ++ beyond met j) in
    let gap : t.count + (limit - t.count) ≡ limit = omega arith in
    let (end, run, d, sum) = goes_to_the_end n limit (limit - t.count) from mid t gap in
    let grown = output_grows n t.count d from in
    let o = s.world.memory.device.output in (
      end,
      run,
      grown.0,
      ap (λ (u : State n). u.world.memory.device.output) run.turns.is
          ∙ ap (λ (i : ℕ). (state_after n i from).world.memory.device.output) sum
          ∙ grown.1
          ∙ ap (λ (u : State n). u.world.memory.device.output ++ grown.0) (sym t.is)
          ∙ ap (λ (p : List ℕ). p ++ grown.0) follows.device.4
          ∙ append_assoc w o grown.0,
    )

-- ---- what is known of the input

-- where the input's end is known no byte is lacking
pub no_lack : (met : Bool) (input : List ℕ) → (met ≡ true → input ≡ []) → input ≡ unknown → met ≡ false
no_lack false input ended lacks = refl
no_lack true input ended lacks = absurd (nothing (sym (ended refl) ∙ lacks))
  where
    nothing : [] ≡ unknown → ⊥
    nothing is = (let e : length {A = ℕ} [] ≡ length unknown = ap (λ (v : List ℕ). length v) is in omega (arith, e))

-- turns leave a board without input none
pub nothing_came : (n c : ℕ) (s : State n) → s.world.memory.device.input ≡ [] → (state_after n c s).world.memory.device.input ≡ []
nothing_came n zero s none = none
nothing_came n (suc c) s none = nothing_comes n (state_after n c s) (nothing_came n c s none)

pub still_none : (n left : ℕ) (met : Bool) (s t : State n) (told : ℕ) → IsSlice n left s told t → (met ≡ true → s.world.memory.device.input ≡ []) → met ≡ true → t.world.memory.device.input ≡ []
still_none n left met s t told slice none over =
    ap (λ (u : State n). u.world.memory.device.input) slice.turns.is ∙ nothing_came n slice.turns.count s (none over)

pub fed_has_none : (n : ℕ) (ended : Bool) (s t : State n) (before now : Option (List ℕ)) → IsFed n ended s t before now → ended ≡ true → t.world.memory.device.input ≡ []
fed_has_none n true s t before now (is, got, end) know = ap (λ (u : State n). u.world.memory.device.input) is
fed_has_none n false s t before now fed know = search rules

-- a board that was fed has put out what it had
pub fed_output : (n : ℕ) (ended : Bool) (s t : State n) (before now : Option (List ℕ)) → IsFed n ended s t before now → t.world.memory.device.output ≡ s.world.memory.device.output
fed_output n true s t before now (is, got, end) = ap (λ (u : State n). u.world.memory.device.output) is
fed_output n false s t before now (b, less, is, got) = ap (λ (u : State n). u.world.memory.device.output) is

-- and doesn't wait any more
pub fed_waits : (n : ℕ) (ended : Bool) (s t : State n) (before now : Option (List ℕ)) → IsFed n ended s t before now → waits t.world.memory.device.input ≡ 0
fed_waits n true s t before now (is, got, end) = ap (λ (u : State n). waits u.world.memory.device.input) is
fed_waits n false s t before now (b, less, is, got) = ap (λ (u : State n). waits u.world.memory.device.input) is

pub waits_once : (input : List ℕ) → waits input ≤ 1
waits_once [] = omega arith
waits_once (b ∷ []) = omega arith
waits_once (b ∷ c ∷ input) = omega arith

-- ---- where a run stands

-- what was read so far, and whether all was
abbrev pub HasRead : Option (List ℕ) → Option (List ℕ) → List ℕ → Bool → Type 0
HasRead first now read met = AreBytes read × Consumes first now read × (met ≡ true → IsAll first read)

-- a board that follows the run, with at most so many turns left of the limit, and just so many where the machine has not ended
abbrev pub IsOnItsWay : (n limit : ℕ) → State n → ℕ → List ℕ → Bool → List ℕ → State n → Type 0
IsOnItsWay n limit start left read met w s =
    (k : ℕ) × Tracks n start k read met w s × (k + left ≤ limit) × (ending_of n s.world ≡ None → k + left ≡ limit)

pub way_first : (n limit : ℕ) (s : State n) → s.world.memory.device.input ≡ unknown → IsOnItsWay n limit s limit [] false [] s
way_first n limit s waiting = (0, tracks_first n s waiting, omega arith, λ none. omega arith)

pub way_sliced : (n limit : ℕ) (start : State n) (left : ℕ) (read : List ℕ) (met : Bool) (w : List ℕ) (s t : State n) (told : ℕ) → IsOnItsWay n limit start left read met w s
    → ending_of n s.world ≡ None → IsSlice n left s told t → Fine met [] t.world.memory.device → IsOnItsWay n limit start (left - told) read met w t
way_sliced n limit start left read met w s t told (k, tracks, within, all) going slice fine =
    let is = slice.turns.is in
    let c = slice.turns.count in
    let on = tracks_turns n k c start read met w s tracks slice.turns.running (subst (λ (u : State n). Fine met [] u.world.memory.device) is fine) in
    let few = slice.few in
    let so_many = slice.within in
    let sum = all going in (
      k + c,
      subst (λ (u : State n). Tracks n start (k + c) read met w u) (sym is) on,
      omega (arith, few, so_many, sum),
      λ none. (let same = slice.all none in omega (arith, few, so_many, sum, same)),
    )

pub way_delivered : (n limit : ℕ) (start : State n) (left : ℕ) (read : List ℕ) (met : Bool) (w : List ℕ) (s : State n) → IsOnItsWay n limit start left read met w s
    → IsOnItsWay n limit start left read met (w ++ s.world.memory.device.output) (with_output s [])
unfolding ending_of
way_delivered n limit start left read met w s (k, tracks, within, all) = (k, tracks_delivered n k start read met w s (with_output s []) tracks refl, within, all)

pub way_fed : (n limit : ℕ) (start : State n) (left : ℕ) (read : List ℕ) (met now_met : Bool) (w : List ℕ) (s t : State n)
    (first before now : Option (List ℕ)) → IsOnItsWay n limit start left read met w s
    → HasRead first before read met → met ≡ false → s.world.memory.device.input ≡ unknown → IsFed n now_met s t before now
    → (more : List ℕ) × IsOnItsWay n limit start left more now_met w t × HasRead first now more now_met
way_fed n limit start left read met now_met w s t first before now (k, tracks, within, all) (bytes, so_far, end) not_met waiting fed =
    let (more, on, more_bytes, got, ended) = tracks_fed n k start read now_met w s t before now (subst (λ (m : Bool). Tracks n start k read m w s) not_met tracks) waiting fed in
    let all_got = Consumes-trans first before now read more so_far got in (
      read ++ more,
      (k, on, within, λ none. all (sym (fed_ending n now_met s t before now fed) ∙ none)),
      (bytes_after read more bytes more_bytes, all_got, λ yes. all_read first now (read ++ more) all_got (ended yes)),
    )

-- a read that gave nothing
pub read_nothing : (first before now : Option (List ℕ)) (read : List ℕ) (met : Bool) → HasRead first before read met → Consumes before now [] → HasRead first now read met
read_nothing first before now read met (bytes, so_far, end) none =
    (bytes, subst (λ (r : List ℕ). Consumes first now r) (append-nil read) (Consumes-trans first before now read [] so_far none), end)

pub consumes_nothing : (o : Option (List ℕ)) → Consumes o o []
consumes_nothing o = Consumes-nil o

-- a board that was served
abbrev pub IsReady : (n : ℕ) → Bool → State n → Type 0
IsReady n met s = (s.world.memory.device.output ≡ []) × (met ≡ true → s.world.memory.device.input ≡ [])

-- what is known of the input after a slice, and what was written
pub way_exchanged : (n limit : ℕ) (start : State n) (left : ℕ) (read : List ℕ) (met now_met lacks : Bool) (w : List ℕ) (s t : State n)
    (first before now : Option (List ℕ)) → IsOnItsWay n limit start left read met w s
    → HasRead first before read met → (met ≡ true → s.world.memory.device.input ≡ []) → (lacks ≡ true → s.world.memory.device.input ≡ unknown)
    → (lacks ≡ true → IsFed n now_met (with_output s []) t before now) → (lacks ≡ false → (now_met ≡ met) × (t ≡ with_output s []) × Consumes before now [])
    → (all : List ℕ) × IsOnItsWay n limit start left all now_met (w ++ s.world.memory.device.output) t × HasRead first now all now_met × IsReady n now_met t
way_exchanged n limit start left read met now_met true w s t first before now way has none waiting fed kept =
    let u = with_output s [] in
    let f = fed refl in
    let on = way_delivered n limit start left read met w s way in
    let (all, there, had) = way_fed n limit start left read met now_met (w ++ s.world.memory.device.output) u t first before now on has
    (no_lack met s.world.memory.device.input none (waiting refl)) (waiting refl) f in
    (all, there, had, (fed_output n now_met u t before now f, fed_has_none n now_met u t before now f))
way_exchanged n limit start left read met now_met false w s t first before now way has none waiting fed kept =
    let o = w ++ s.world.memory.device.output in
    let (same, is, nothing) = kept refl in
    let on = subst (λ (v : State n). IsOnItsWay n limit start left read met o v) (sym is) (way_delivered n limit start left read met w s way) in
    let had = read_nothing first before now read met has nothing in (
      read,
      subst (λ (m : Bool). IsOnItsWay n limit start left read m o t) (sym same) on,
      subst (λ (m : Bool). HasRead first now read m) (sym same) had,
      (ap (λ (v : State n). v.world.memory.device.output) is, λ yes. ap (λ (v : State n). v.world.memory.device.input) is ∙ none (sym same ∙ yes)),
    )

-- the measure of the loop: turns that are left, and whether a byte is waited for
pub comes_nearer : (n left told : ℕ) (lacks now_met : Bool) (s t v : State n) (before now : Option (List ℕ)) → IsSlice n left s told t →
    (lacks ≡ true → t.world.memory.device.input ≡ unknown) → (lacks ≡ false → 0 < told)
    → (lacks ≡ true → IsFed n now_met (with_output t []) v before now) → 0 < told ⊎ (told ≡ 0)
    → (left - told) + (left - told) + waits v.world.memory.device.input < left + left + waits s.world.memory.device.input
comes_nearer n left told lacks now_met s t v before now slice waiting goes fed (inl some) =
    let once = waits_once v.world.memory.device.input in
    let within = slice.within in
    omega (arith, once, within, some)
comes_nearer n left told true now_met s t v before now slice waiting goes fed (inr nothing) =
    let few = slice.few in
    let none : slice.turns.count ≡ 0 = omega (arith, few, nothing) in
    let same : t ≡ s = slice.turns.is ∙ ap (λ (k : ℕ). state_after n k s) none in
    let was : waits s.world.memory.device.input ≡ 1 = ap (λ (u : State n). waits u.world.memory.device.input) (sym same) ∙ ap waits (waiting refl) in
    let now_is = fed_waits n now_met (with_output t []) v before now (fed refl) in
    omega (arith, was, now_is, nothing)
comes_nearer n left told false now_met s t v before now slice waiting goes fed (inr nothing) =
    let some = goes refl in
    absurd (omega (arith, some, nothing))

some_or_none : (k : ℕ) → 0 < k ⊎ (k ≡ 0)
some_or_none zero = inr refl
some_or_none (suc k) = inl (omega arith)

pub comes_to_an_end : (n left told : ℕ) (lacks now_met : Bool) (s t v : State n) (before now : Option (List ℕ)) → IsSlice n left s told t →
    (lacks ≡ true → t.world.memory.device.input ≡ unknown) → (lacks ≡ false → 0 < told)
    → (lacks ≡ true → IsFed n now_met (with_output t []) v before now)
    → (left - told) + (left - told) + waits v.world.memory.device.input < left + left + waits s.world.memory.device.input
comes_to_an_end n left told lacks now_met s t v before now slice waiting goes fed =
    comes_nearer n left told lacks now_met s t v before now slice waiting goes fed (some_or_none told)

-- ---- where it stops

pub whole : (n limit : ℕ) (start : State n) (left : ℕ) (read : List ℕ) (met : Bool) (w : List ℕ) (s : State n) (first now c d : Option (List ℕ)) → IsOnItsWay n limit start left read met w s
    → HasRead first now read met → s.world.memory.device.output ≡ [] → Appends c d w → (ending_of n s.world ≡ None → left ≡ 0) → Streamed first now c d (RunsAs n start limit s)
whole n limit start left read met w s first now c d (k, tracks, within, all) (bytes, got, ended) empty written over = (
  read,
  met,
  w,
  runs_as n k limit start read met w s tracks empty (omega arith) (λ none. let sum = all none in let done = over none in omega (arith, sum, done)),
  bytes,
  got,
  ended,
  written,
)

pub unread_part : (n limit : ℕ) (start : State n) (left : ℕ) (read : List ℕ) (met : Bool) (w : List ℕ) (s : State n) (first now c d : Option (List ℕ))
    (fault : StreamFault) → IsOnItsWay n limit start left read met w s
    → HasRead first now read met → met ≡ false → fault ≡ Reader → Appends c d w → Streamed first now c d (RunsOn n start limit fault)
unread_part n limit start left read met w s first now c d fault (k, tracks, within, all) (bytes, got, ended) not_met is written = (
  read,
  met,
  w,
  (λ j.
      let (end, run, rest, put) = runs_on n k limit start read met w s tracks (omega arith) j in
      (end, run, s.world.memory.device.output ++ rest, put, subst (λ (f : StreamFault). Says f met (s.world.memory.device.output ++ rest)) (sym is) not_met)),
  bytes,
  got,
  ended,
  written,
)

pub unwritten_part : (n limit : ℕ) (start : State n) (left : ℕ) (read : List ℕ) (met : Bool) (w : List ℕ) (s : State n) (first now c d e : Option (List ℕ))
    (fault : StreamFault) → IsOnItsWay n limit start left read met w s
    → HasRead first now read met → s.world.memory.device.output ≢ [] → fault ≡ Writer → Appends c d w → Appends d e [] → Streamed first now c e (RunsOn n start limit fault)
unwritten_part n limit start left read met w s first now c d e fault (k, tracks, within, all) (bytes, got, ended) some is written none = (
  read,
  met,
  w,
  (λ j.
      let (end, run, rest, put) = runs_on n k limit start read met w s tracks (omega arith) j in (
        end,
        run,
        s.world.memory.device.output ++ rest,
        put,
        subst (λ (f : StreamFault). Says f met (s.world.memory.device.output ++ rest)) (sym is) (not_none s.world.memory.device.output rest some),
      )),
  bytes,
  got,
  ended,
  subst (λ (o : List ℕ). Appends c e o) (append-nil w) (Appends-trans c d e w [] written none),
)

-- a stream failed after a slice, and before more of the input was known
pub halted_part : (n limit : ℕ) (start : State n) (left : ℕ) (read : List ℕ) (met : Bool) (w : List ℕ) (s : State n) (first before now c d e : Option (List ℕ))
    (fault : StreamFault) (lacks : Bool) → IsOnItsWay n limit start left read met w s
    → HasRead first before read met → Consumes before now [] → (lacks ≡ true → met ≡ false) → Appends c d w →
    IsHalted fault lacks d e s.world.memory.device.output → Streamed first now c e (RunsOn n start limit fault)
halted_part n limit start left read met w s first before now c d e Reader lacks way has none not_met written (lacking, more) =
    let o = s.world.memory.device.output in
    unread_part n limit start left read met (w ++ o) (with_output s []) first now c e Reader (way_delivered n limit start left read met w s way)
    (read_nothing first before now read met has none) (not_met lacking) refl (Appends-trans c d e w o written more)
halted_part n limit start left read met w s first before now c d e Writer lacks way has none not_met written (some, nothing) =
    unwritten_part n limit start left read met w s first now c d e Writer way (read_nothing first before now read met has none) some refl written nothing
