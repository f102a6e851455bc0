-- What a run of an accepted image over streams gives.
use Rattle.std.proofs.Common.{◌≡◌, ℕ, ◌<◌, ◌≤◌, ◌⊎◌, inl, inr, Bool, true, false, List, [], ◌++◌, length, Option, Some, None, refl, sym, ap, ◌∙◌, subst, arith, rules}
use Rattle.std.specs.Io.KnownBytes.{Appends, Consumes}
use Rattle.std.proofs.KnownBytes.{Appends-nil, Consumes-nil}
use Rattle.v8_core.specs.Cpu.{Cpu}
use Rattle.v8_core.specs.MmuRegs.{MmuRegs}
use Rattle.v8_core.specs.Stop.{Stop}
use Rattle.v8_core.specs.Accesses.{World}
use Rattle.v8_loaded.specs.Board.{Device}
use Rattle.v8_loaded.specs.Layout.{Pages}
use Rattle.v8_loaded.specs.States.{IsState}
use Rattle.v8_board.specs.Contained.{Contents, IsContained}
use Rattle.v8_board.specs.declared.outcome.Counts.{Counts}
use Rattle.v8_board.specs.declared.outcome.Ending.{Ending}
use Rattle.v8_board.specs.declared.outcome.Ending.TheVariants.{Exit}
use Rattle.v8_board.specs.declared.outcome.Outcome.{Outcome}
use Rattle.v8_board.specs.Contains.{Contains}
use Rattle.v8_board.specs.Marks.{page_use_of}
use Rattle.v8_board.specs.Runs.{IsRun, ending_or_limit, outcome_of}
use Rattle.v8_board.specs.Seen.{Seen, State, ending_by, ending_of}
use Rattle.v8_board.specs.Start.{IsNew, IsStart, contents_of, pages_of}
use Rattle.v8_board.proofs.Contained.{run_kept, stays_contained}
use Rattle.sbx_image.specs.Parts.{Parts}
use Rattle.sbx_flat.specs.Runs.{AreBytes, Behaves, FlatSafe, budget}
use Rattle.sbx_flat.specs.declared.path.Place.{Place}
use Rattle.want.specs.Wants.{refused}
use Rattle.sbx_run.specs.WholeRuns.{IsImage}
use Rattle.sbx_port.specs.Following.{beyond, with_input}
use Rattle.sbx_port.specs.Streams.{RunsAs, RunsOn, Says as SaysOf, StandsBeside, Streamed}
use Rattle.sbx_port.specs.declared.carrying.StreamFault.{StreamFault}
use Rattle.sbx_port.specs.declared.carrying.StreamFault.TheVariants as streams
use Rattle.sbx_port.proofs.Tracked.{bytes_after, no_bytes}
use Rattle.sbx_raw.specs.Runs.{IsBegun}
use Rattle.sbx_run.specs.RunFault.{RunFault}
use Rattle.sbx_run.specs.RunFault.TheVariants.{Memory, Reader, Writer}
use Rattle.sbx_run.specs.Answer.{ExitsAsFlat, IsFlatEnd, KeepsItsDepth, KeepsToItsOwn, told_of}
use Rattle.sbx_run.specs.Law.{DepthIsEnough}
use Rattle.sbx_run.specs.declared.runner.Finished.{Finished}
use Rattle.sbx_run.proofs.Ends.{safe_images_exit}
use Rattle.sbx_run.proofs.Quiet.{keeps_its_depth}
use Rattle.sbx_stream.specs.Streams.{IsAnswerWritten, IsContainedBeyond, IsContainedRun, IsFront, IsReady, IsStreamed, Says, named}

one_status : (s t : ℕ) → Exit s ≡ Exit t → s ≡ t
one_status s t e = cc

-- ---- a board beside another

abbrev the_outcome : Option Ending → Counts → Outcome
the_outcome e k = record { ending = ending_or_limit e; turns = k.turns; overflows = k.overflows; underflows = k.underflows }

ending_beside : (n : ℕ) (w : List ℕ) (s t : State n) → StandsBeside n w s t → ending_of n s.world ≡ ending_of n t.world
unfolding ending_of
ending_beside n w s t b =
    ap (λ (st : Option Stop). ending_by st s.world.cpu.control.tt s.world.cpu.control.error) b.stopped
    ∙ ap (λ (c : Cpu n). ending_by t.world.memory.device.stopped c.control.tt c.control.error) b.cpu

outcome_beside : (n : ℕ) (w : List ℕ) (s t : State n) → StandsBeside n w s t → outcome_of n s ≡ outcome_of n t
unfolding outcome_of
outcome_beside n w s t b =
    ap (λ (e : Option Ending). the_outcome e s.counts) (ending_beside n w s t b) ∙ ap (λ (k : Counts). the_outcome (ending_of n t.world) k) b.counts

-- ---- the same start on another input

contained_on : (n : ℕ) (g : Pages) (held : Contents) (mmu : MmuRegs) (x : World n Device) (i : List ℕ) → IsContained n g held mmu x
    → IsContained n g held mmu (record x { memory = record x.memory { device = record x.memory.device { input = i } } })
contained_on n g held mmu x i c = record {
  few = c.few;
  many = c.many;
  pages = c.pages;
  root = c.root;
  kept = c.kept;
  mode = elim c.mode [ inl ended ↦ inl ended | inr running ↦ inr (record { running = running.running; mode = running.mode }) ];
}

module _ (n : ℕ) (parts : Parts) (board : Seen n) (ready : IsReady n parts board) (input : List ℕ) where
  begun_on : IsBegun n parts input (with_input board.state input)
  begun_on =
      let new = ready.new in
      let loaded = ready.loaded in
      let state = ready.state in
      record {
        made = with_input ready.made input;
        new = record { cpu = new.cpu; ram = new.ram; device = ap (λ (d : Device). record d { input = input }) new.device; mmu = new.mmu; counts = new.counts };
        loaded = record { cpu = loaded.cpu; ram = loaded.ram; device = ap (λ (d : Device). record d { input = input }) loaded.device; mmu = loaded.mmu; root = loaded.root; counts = loaded.counts };
        state = record { cpu = state.cpu; size = state.size; bytes = state.bytes; root = state.root };
        contained = stays_contained n parts (with_input board.state input) (contained_on n (pages_of parts) (contents_of parts) board.state.mmu board.state.world input ready.contained);
      }

  module _ (image : IsImage parts) (safe : FlatSafe parts) (bytes : AreBytes input) (end : State n) (run : IsRun n (budget parts) (with_input board.state input) end) where
    contained_so : (written rest : List ℕ) → end.world.memory.device.output ≡ written ++ rest → IsContainedRun parts n input written
    contained_so written rest put = record {
      start = with_input board.state input;
      end = end;
      begun = begun_on;
      run = run;
      kept = run_kept n (budget parts) (with_input board.state input) end run parts (contained_on n (pages_of parts) (contents_of parts) board.state.mmu board.state.world input ready.contained);
      rest = rest;
      put_out = put;
    }

    exits_so : ExitsAsFlat n parts input [] (with_input board.state input) end
    unfolding begun_on
    exits_so =
        let begun = begun_on in
        subst (λ (o : List ℕ). ExitsAsFlat n parts input o (with_input board.state input) end) (ap (λ (d : Device). d.output) ready.new.device)
        (safe_images_exit n parts (with_input ready.made input) (with_input board.state input) end image safe bytes begun.loaded begun.state run)

    -- the answer of the run over these bytes in memory
    answer_on : (now : State n) (written : List ℕ) (finished : Finished) → StandsBeside n written now end → told_of finished ≡ outcome_of n now
        → finished.pages ≡ page_use_of now.world.memory.ram → IsAnswerWritten parts n input finished written
    answer_on now written finished beside told pages =
        let so = exits_so in
        let start = with_input board.state input in
        let same : outcome_of n end ≡ told_of finished = sym (outcome_beside n written now end beside) ∙ sym told in
        let status : so.status ≡ finished.status = one_status so.status finished.status (sym so.flat.exits ∙ ap (λ (o : Outcome). o.ending) same) in
        let output : so.output ≡ written = sym so.put_out ∙ beside.output in
        record {
          start = start;
          end = end;
          begun = begun_on;
          run = run;
          kept = run_kept n (budget parts) start end run parts (contained_on n (pages_of parts) (contents_of parts) board.state.mmu board.state.world input ready.contained);
          told = sym same;
          put_out = beside.output;
          pages = pages ∙ ap page_use_of beside.ram;
          flat = subst (λ (o : Outcome). IsFlatEnd parts n input written finished.status o) same
              (subst (λ (w : ℕ). IsFlatEnd parts n input written w (outcome_of n end)) status
              (subst (λ (o : List ℕ). IsFlatEnd parts n input o so.status (outcome_of n end)) output so.flat));
          own = subst (KeepsToItsOwn n parts input [] start end) (ap (λ (o : Outcome). o.turns) same) so.own;
        }

    front_on : (written rest : List ℕ) → end.world.memory.device.output ≡ written ++ rest → (status : ℕ) × (path : List Place) × Behaves parts input (written ++ rest) status path
    front_on written rest put =
        let so = exits_so in
        (so.status, so.flat.path, subst (λ (o : List ℕ). Behaves parts input o so.status so.flat.path) (sym so.put_out ∙ put) so.flat.behaves)

-- ---- whole runs

none_beyond : (met : Bool) → AreBytes (beyond met [])
none_beyond true = no_bytes
none_beyond false = no_bytes

module _ (n : ℕ) (parts : Parts) (board : Seen n) (ready : IsReady n parts board) (image : IsImage parts) (safe : FlatSafe parts) (a b c d : Option (List ℕ)) where
  -- a board that was run has exited
  pub has_exited : (now : State n) → Streamed a b c d (RunsAs n board.state (budget parts) now) → (status : ℕ) × ((outcome_of n now).ending ≡ Exit status)
  has_exited now (read, met, written, runs, bytes, got, all, put_out) =
      let (end, run, beside) = runs [] in
      let so = exits_so n parts board ready (read ++ beyond met []) image safe (bytes_after read (beyond met []) bytes (none_beyond met)) end run in
      (so.status, ap (λ (o : Outcome). o.ending) (outcome_beside n written now end beside) ∙ so.flat.exits)

  -- and where there are windows enough for its declared depth, none overflowed and none underflowed
  pub quiet : (now : State n) (finished : Finished) → told_of finished ≡ outcome_of n now → DepthIsEnough parts → Streamed a b c d (RunsAs n board.state (budget parts) now)
      → KeepsItsDepth parts n (told_of finished)
  quiet now finished told depth (read, met, written, runs, bytes, got, all, put_out) =
      let (end, run, beside) = runs [] in
      let input = read ++ beyond met [] in
      let fit = bytes_after read (beyond met []) bytes (none_beyond met) in
      let so = exits_so n parts board ready input image safe fit end run in
      subst (KeepsItsDepth parts n) (sym (told ∙ outcome_beside n written now end beside)) (keeps_its_depth parts n input so.output so.status (outcome_of n end) depth fit so.flat)

  pub streamed : (now : State n) (finished : Finished) → told_of finished ≡ outcome_of n now → finished.pages ≡ page_use_of now.world.memory.ram
      → Streamed a b c d (RunsAs n board.state (budget parts) now) → Streamed a b c d (IsStreamed parts n finished)
  streamed now finished told pages (read, met, written, runs, bytes, got, all, put_out) = (
    read,
    met,
    written,
    (λ j more.
        let (end, run, beside) = runs j in
        answer_on n parts board ready (read ++ beyond met j) image safe (bytes_after read (beyond met j) bytes more) end run now written finished beside told pages),
    bytes,
    got,
    all,
    put_out,
  )

  says_as : (fault : StreamFault) (read : List ℕ) (met : Bool) (written rest : List ℕ) → SaysOf fault met rest → Says (named fault) read met written rest
  says_as streams.Reader read met written rest says = says
  says_as streams.Writer read met written rest says = says

  pub front : (fault : StreamFault) (told : RunFault) → told ≡ named fault → Streamed a b c d (RunsOn n board.state (budget parts) fault) → Streamed a b c d (IsFront parts told)
  front fault told is (read, met, written, runs, bytes, got, all, put_out) =
      subst (λ (f : RunFault). Streamed a b c d (IsFront parts f)) (sym is) (
        read,
        met,
        written,
        (λ j fit.
            let (end, run, rest, put, says) = runs j in
            let (status, path, behaves) = front_on n parts board ready (read ++ beyond met j) image safe (bytes_after read (beyond met j) bytes fit) end run written rest put in
            (rest, status, path, behaves, says_as fault read met written rest says)),
        bytes,
        got,
        all,
        put_out,
      )

  contained_by : (fault : StreamFault) (read : List ℕ) (met : Bool) (written : List ℕ) → ((j : List ℕ) → AreBytes (beyond met j) → IsContainedRun parts n (read ++ beyond met j) written)
      → IsContainedBeyond parts n (named fault) read met written
  contained_by streams.Reader read met written so = so
  contained_by streams.Writer read met written so = so

  pub contained : (fault : StreamFault) (told : RunFault) → told ≡ named fault → Streamed a b c d (RunsOn n board.state (budget parts) fault)
      → Streamed a b c d (IsContainedBeyond parts n told)
  contained fault told is (read, met, written, runs, bytes, got, all, put_out) =
      subst (λ (f : RunFault). Streamed a b c d (IsContainedBeyond parts n f)) (sym is) (
        read,
        met,
        written,
        contained_by fault read met written (λ j fit.
            let (end, run, rest, put, says) = runs j in
            contained_so n parts board ready (read ++ beyond met j) image safe (bytes_after read (beyond met j) bytes fit) end run written rest put),
        bytes,
        got,
        all,
        put_out,
      )

-- where there was no memory there was no run
pub no_run : (parts : Parts) (n : ℕ) (fault : RunFault) (reader writer : Option (List ℕ)) → fault ≡ Memory refused → Streamed reader reader writer writer (IsContainedBeyond parts n fault)
no_run parts n fault reader writer is =
    subst (λ (f : RunFault). Streamed reader reader writer writer (IsContainedBeyond parts n f)) (sym is)
    ([], false, [], refl, no_bytes, Consumes-nil reader, (λ yes. search rules), Appends-nil writer)

-- where there was no memory nothing was read or written
pub no_memory : (parts : Parts) (safe : FlatSafe parts) (fault : RunFault) (reader writer : Option (List ℕ)) → fault ≡ Memory refused → Streamed reader reader writer writer (IsFront parts fault)
no_memory parts safe fault reader writer is =
    subst (λ (f : RunFault). Streamed reader reader writer writer (IsFront parts f)) (sym is)
    ([], false, [], (λ j fit. let s = safe j fit in (s.0, s.1, s.2, s.3, (refl, refl, refl))), no_bytes, Consumes-nil reader, (λ yes. search rules), Appends-nil writer)
