-- What each thing that happens to a board leaves of a run in pieces, and what the run says of its output.
use Rattle.std.proofs.Common.{◌≡◌, ℕ, zero, suc, ◌-◌, ◌<◌, ◌≤◌, inl, inr, Bool, true, false, List, [], ◌∷◌, ◌++◌, length, Option, None, Some, refl}
use Rattle.std.proofs.Common.{sym, ap, subst, ◌∙◌, append_assoc, arith, rules}
use Rattle.v8_core.specs.Cpu.{Cpu}
use Rattle.v8_core.specs.MmuRegs.{MmuRegs}
use Rattle.v8_core.specs.Stop.{Stop}
use Rattle.v8_core.specs.Accesses.{World}
use Rattle.v8_loaded.specs.Board.{Device}
use Rattle.v8_loaded.specs.Layout.{Pages}
use Rattle.v8_loaded.specs.States.{IsState}
use Rattle.v8_board.specs.Contained.{Contents, IsContained}
use Rattle.v8_board.specs.declared.outcome.Counts.{Counts}
use Rattle.v8_board.specs.declared.outcome.Ending.TheVariants.{Exit}
use Rattle.v8_board.specs.Contains.{Contains, Keeps}
use Rattle.v8_board.specs.Runs.{IsRun, ending_or_limit, outcome_of}
use Rattle.v8_board.specs.Seen.{State, ending_by, ending_of}
use Rattle.v8_board.specs.Start.{IsStart, contents_of, pages_of}
use Rattle.v8_board.proofs.Running.{Counted}
use Rattle.sbx_image.specs.Parts.{Parts}
use Rattle.sbx_flat.specs.Runs.{AreBytes, Behaves, FlatSafe, budget}
use Rattle.sbx_port.specs.Following.{Fine, beyond, with_input, with_output}
use Rattle.sbx_port.specs.Ports.{unknown}
use Rattle.sbx_port.specs.Streams.{IsSlice, StandsBeside}
use Rattle.sbx_port.proofs.Tracked.{bytes_after, no_bytes, no_lack, nothing_came, runs_as, runs_on, tracks_first, way_delivered, way_sliced}
use Rattle.sbx_run.specs.Answer.{ExitsAsFlat}
use Rattle.sbx_run.specs.WholeRuns.{IsImage}
use Rattle.sbx_run.proofs.Ends.{safe_images_exit}
use Rattle.sbx_session.specs.Going.{IsAllOf, IsFrontOf, IsUnderWay, Tracks}

-- ---- containment doesn't ask what a port carries

contained_with : (n : ℕ) (g : Pages) (held : Contents) (mmu : MmuRegs) (x : World n Device) (i o : List ℕ) → IsContained n g held mmu x
    → IsContained n g held mmu (record x { memory = record x.memory { device = record x.memory.device { input = i; output = o } } })
contained_with n g held mmu x i o c = record {
  few = c.few;
  many = c.many;
  pages = c.pages;
  root = c.root;
  kept = c.kept;
  mode = elim c.mode [ inl ended ↦ inl ended | inr running ↦ inr (record { running = running.running; mode = running.mode }) ];
}

-- ---- a beginning

pub begun : (n : ℕ) (parts : Parts) (made start : State n) (left : ℕ) → IsStart n parts made start → IsState n start.mmu start.world
    → made.world.memory.device.input ≡ unknown → made.world.memory.device.output ≡ [] → left ≡ budget parts → IsImage parts → FlatSafe parts → Contains n parts start
    → IsUnderWay n parts [] [] left false start
begun n parts made start left loaded state waiting silent all image safe contained = record {
  made = made;
  start = start;
  loaded = loaded;
  state = state;
  silent = silent;
  way = (0, tracks_first n start (ap (λ (d : Device). d.input) loaded.device ∙ waiting), omega (arith, all), λ none. omega (arith, all));
  known = λ yes. search rules;
  bytes = no_bytes;
  image = image;
  safe = safe;
  contained = contained;
}

module _ (n : ℕ) (parts : Parts) (read written : List ℕ) (left : ℕ) (met : Bool) (s : State n) (goes : IsUnderWay n parts read written left met s) where
  -- ---- steps

  pub delivered : (t : State n) → t ≡ with_output s [] → IsUnderWay n parts read (written ++ s.world.memory.device.output) left met t
  delivered t is =
      let all = written ++ s.world.memory.device.output in
      subst (λ (u : State n). IsUnderWay n parts read all left met u) (sym is) (record {
        made = goes.made;
        start = goes.start;
        loaded = goes.loaded;
        state = goes.state;
        silent = goes.silent;
        way = way_delivered n (budget parts) goes.start left read met written s goes.way;
        known = goes.known;
        bytes = goes.bytes;
        image = goes.image;
        safe = goes.safe;
        contained = contained_with n (pages_of parts) (contents_of parts) s.mmu s.world s.world.memory.device.input [] goes.contained;
      })

  pub sliced : (most told : ℕ) (t : State n) → ending_of n s.world ≡ None → IsSlice n most s told t → most ≤ left → Fine met [] t.world.memory.device → Keeps n s t
      → IsUnderWay n parts read written (left - told) met t
  sliced most told t going slice fits fine keeps =
      let within = slice.within in
      let wide : IsSlice n left s told t = record { turns = slice.turns; few = slice.few; within = omega (arith, within, fits); all = slice.all } in record {
        made = goes.made;
        start = goes.start;
        loaded = goes.loaded;
        state = goes.state;
        silent = goes.silent;
        way = way_sliced n (budget parts) goes.start left read met written s t told goes.way going wide fine;
        known = λ yes. ap (λ (u : State n). u.world.memory.device.input) slice.turns.is ∙ nothing_came n slice.turns.count s (goes.known yes);
        bytes = goes.bytes;
        image = goes.image;
        safe = goes.safe;
        contained = keeps parts goes.contained;
      }

  -- ---- what was written

  loaded_on : (input : List ℕ) → IsStart n parts (with_input goes.made input) (with_input goes.start input)
  loaded_on input =
      let l = goes.loaded in
      record { cpu = l.cpu; ram = l.ram; device = ap (λ (d : Device). record d { input = input }) l.device; mmu = l.mmu; root = l.root; counts = l.counts }

  pub exits_so : (input : List ℕ) → AreBytes input → (end : State n) → IsRun n (budget parts) (with_input goes.start input) end
      → ExitsAsFlat n parts input [] (with_input goes.start input) end
  exits_so input bytes end run =
      let st = goes.state in
      subst (λ (o : List ℕ). ExitsAsFlat n parts input o (with_input goes.start input) end) goes.silent
      (safe_images_exit n parts (with_input goes.made input) (with_input goes.start input) end goes.image goes.safe bytes (loaded_on input)
      (record { cpu = st.cpu; size = st.size; bytes = st.bytes; root = st.root }) run)

  pub front : IsFrontOf parts read met written
  front = λ j more.
      let (k, tracks, within, all) = goes.way in
      let (end, run, rest, put) = runs_on n k (budget parts) goes.start read met written s tracks (omega arith) j in
      let so = exits_so (read ++ beyond met j) (bytes_after read (beyond met j) goes.bytes more) end run in (
        s.world.memory.device.output ++ rest,
        so.status,
        so.flat.path,
        subst (λ (o : List ℕ). Behaves parts (read ++ beyond met j) o so.status so.flat.path) (sym so.put_out ∙ put) so.flat.behaves,
      )

  beside_ending : (t : State n) → StandsBeside n written s t → ending_of n s.world ≡ ending_of n t.world
  unfolding ending_of
  beside_ending t b =
      ap (λ (st : Option Stop). ending_by st s.world.cpu.control.tt s.world.cpu.control.error) b.stopped
      ∙ ap (λ (c : Cpu n). ending_by t.world.memory.device.stopped c.control.tt c.control.error) b.cpu

  pub ending_told : (t : State n) → (outcome_of n t).ending ≡ ending_or_limit (ending_of n t.world)
  unfolding outcome_of
  ending_told t = refl

  turns_told : (t : State n) → (outcome_of n t).turns ≡ t.counts.turns
  unfolding outcome_of
  turns_told t = refl

  one_exit : (v w : ℕ) → Exit v ≡ Exit w → v ≡ w
  one_exit v w is = cc

  pub all_of : (word : ℕ) → ending_of n s.world ≡ Some (Exit word) → s.world.memory.device.output ≡ [] → IsAllOf parts n read met written word s.counts.turns
  all_of word ended empty = λ j more.
      let (k, tracks, within, all) = goes.way in
      let (end, run, beside) = runs_as n k (budget parts) goes.start read met written s tracks empty (omega arith) (λ none. absurd (some_none (sym ended ∙ none))) j in
      let so = exits_so (read ++ beyond met j) (bytes_after read (beyond met j) goes.bytes more) end run in
      let same : Exit so.status ≡ Exit word = sym so.flat.exits ∙ ending_told end ∙ ap ending_or_limit (sym (beside_ending end beside) ∙ ended) in
      let is : so.status ≡ word = one_exit so.status word same in (
        so.flat.path,
        subst (λ (st : ℕ). Behaves parts (read ++ beyond met j) written st so.flat.path) is
            (subst (λ (o : List ℕ). Behaves parts (read ++ beyond met j) o so.status so.flat.path) (sym so.put_out ∙ beside.output) so.flat.behaves),
        ap (λ (c : Counts). c.turns) beside.counts ∙ sym (turns_told end) ∙ so.flat.turns,
      )
    where
      some_none : Some (Exit word) ≡ None → ⊥
      some_none is = cc

-- ---- what becomes known of the input

no_front : (c : List ℕ) → unknown ≡ c ++ unknown → c ≡ []
no_front [] is = refl
no_front (x ∷ []) is = absurd (too_long is)
  where
    too_long : unknown ≡ x ∷ unknown → ⊥
    too_long is = (let e : length unknown ≡ length (x ∷ unknown) = ap (λ (v : List ℕ). length v) is in omega (arith, e))
no_front (x ∷ y ∷ c) is = absurd (too_long is)
  where
    too_long : unknown ≡ x ∷ y ∷ (c ++ unknown) → ⊥
    too_long is = (let e : length unknown ≡ length (x ∷ y ∷ (c ++ unknown)) = ap (λ (v : List ℕ). length v) is in omega (arith, e))

one_byte : (b : ℕ) → b < 256 → AreBytes (b ∷ [])
one_byte b less zero = less
one_byte b less (suc i) = omega arith

module _ (n k : ℕ) (start : State n) (read written : List ℕ) (s : State n) (tracks : Tracks n start k read false written s) (waiting : s.world.memory.device.input ≡ unknown) where
  tracks_byte : (b : ℕ) → Tracks n start k (read ++ b ∷ []) false written (with_input s (b ∷ unknown))
  tracks_byte b = λ j.
      let (mid, counted, follows) = tracks (b ∷ j) in
      let (c, di, ei, en, o, st) = follows.device in
      let none = no_front c (sym waiting ∙ di) in (
        mid,
        subst (λ (r : List ℕ). Counted n (with_input start r) mid k) (sym (append_assoc read (b ∷ []) j)) counted,
        record { cpu = follows.cpu; ram = follows.ram; device = (b ∷ [], refl, ei ∙ ap (λ (i : List ℕ). i ++ b ∷ j) none, en, o, st); mmu = follows.mmu; counts = follows.counts },
      )

  tracks_end : Tracks n start k read true written (with_input s [])
  tracks_end = λ j.
      let (mid, counted, follows) = tracks [] in
      let (c, di, ei, en, o, st) = follows.device in
      let none = no_front c (sym waiting ∙ di) in (
        mid,
        counted,
        record { cpu = follows.cpu; ram = follows.ram; device = ([], refl, ei ∙ ap (λ (i : List ℕ). i ++ []) none, en, o, st); mmu = follows.mmu; counts = follows.counts },
      )

-- what becomes known of the input ends nothing
same_ending : (n : ℕ) (s : State n) (i : List ℕ) → ending_of n (with_input s i).world ≡ ending_of n s.world
unfolding ending_of
same_ending n s i = refl

module _ (n : ℕ) (parts : Parts) (read written : List ℕ) (left : ℕ) (s : State n) (goes : IsUnderWay n parts read written left false s) (waiting : s.world.memory.device.input ≡ unknown) where
  byte_fed : (b : ℕ) → b < 256 → IsUnderWay n parts (read ++ b ∷ []) written left false (with_input s (b ∷ unknown))
  byte_fed b less =
      let (k, tracks, within, all) = goes.way in record {
        made = goes.made;
        start = goes.start;
        loaded = goes.loaded;
        state = goes.state;
        silent = goes.silent;
        way = (k, tracks_byte n k goes.start read written s tracks waiting b, within, λ none. all (sym (same_ending n s (b ∷ unknown)) ∙ none));
        known = λ yes. search rules;
        bytes = bytes_after read (b ∷ []) goes.bytes (one_byte b less);
        image = goes.image;
        safe = goes.safe;
        contained = contained_with n (pages_of parts) (contents_of parts) s.mmu s.world (b ∷ unknown) s.world.memory.device.output goes.contained;
      }

  end_told : IsUnderWay n parts read written left true (with_input s [])
  end_told =
      let (k, tracks, within, all) = goes.way in record {
        made = goes.made;
        start = goes.start;
        loaded = goes.loaded;
        state = goes.state;
        silent = goes.silent;
        way = (k, tracks_end n k goes.start read written s tracks waiting, within, λ none. all (sym (same_ending n s []) ∙ none));
        known = λ yes. refl;
        bytes = goes.bytes;
        image = goes.image;
        safe = goes.safe;
        contained = contained_with n (pages_of parts) (contents_of parts) s.mmu s.world [] s.world.memory.device.output goes.contained;
      }

module _ (n : ℕ) (parts : Parts) (read written : List ℕ) (left : ℕ) (met : Bool) (s : State n) (goes : IsUnderWay n parts read written left met s)
    (waiting : s.world.memory.device.input ≡ unknown) where
  abbrev not_met : met ≡ false
  not_met = no_lack met s.world.memory.device.input goes.known waiting

  -- the next byte is told to a board that waits
  pub fed : (b : ℕ) (t : State n) → b < 256 → t ≡ with_input s (b ∷ unknown) → IsUnderWay n parts (read ++ b ∷ []) written left met t
  fed b t less is =
      subst (λ (u : State n). IsUnderWay n parts (read ++ b ∷ []) written left met u) (sym is)
      (subst (λ (m : Bool). IsUnderWay n parts (read ++ b ∷ []) written left m (with_input s (b ∷ unknown))) (sym not_met)
      (byte_fed n parts read written left s (subst (λ (m : Bool). IsUnderWay n parts read written left m s) not_met goes) waiting b less))

  -- or that there is none
  pub ended_input : (t : State n) → t ≡ with_input s [] → IsUnderWay n parts read written left true t
  ended_input t is =
      subst (λ (u : State n). IsUnderWay n parts read written left true u) (sym is)
      (end_told n parts read written left s (subst (λ (m : Bool). IsUnderWay n parts read written left m s) not_met goes) waiting)
