-- What each step leaves of a run over streams.
use Rattle.std.proofs.Common.{◌≡◌, ◌≢◌, ℕ, ◌<◌, ◌≤◌, ◌^◌, Bool, true, false, List, [], ◌∷◌, ◌++◌, Option, Some, None, refl, sym, ap, ◌∙◌, subst, append_assoc}
use Rattle.std.specs.Io.KnownBytes.{Appends, Consumes, IsAtEnd}
use Rattle.std.proofs.KnownBytes.{Appends-nil, Appends-trans, Consumes-nil, Consumes-trans}
use Rattle.std.proofs.lemmas.List.{append-nil}
use Rattle.sbx_image.specs.Parts.{Parts}
use Rattle.sbx_flat.specs.Runs.{Behaves, FlatSafe, budget}
use Rattle.sbx_flat.specs.declared.path.Traffic.{Traffic}
use Rattle.sbx_port.specs.Streams.{IsAll, Streamed}
use Rattle.want.specs.Wants.{refused}
use Rattle.want.specs.declared.Want.{Want}
use Rattle.sbx_raw.specs.declared.fault.RunFault.{RunFault}
use Rattle.sbx_raw.specs.declared.fault.RunFault.TheVariants.{Memory, Reader, Writer}
use Rattle.engine_runs.specs.Going.{IsAllOf, IsUnderWay, NeverGoes, StillGoes, beyond}
use Rattle.engine_runs.specs.declared.flat_run.FlatRun.{FlatRun}
use Rattle.engine_runs.specs.Halts.{AsksWithin}
use Rattle.engine_runs.specs.declared.tally.Tally.{Tally}
use Rattle.engine_core.specs.declared.asking.Asked.{Asked}
use Rattle.engine_runs.proofs.Ends.{few, front, whole, within}
use Rattle.engine_runs.proofs.Onward.{bytes_after, end_known, no_bytes, one_byte}
use Rattle.engine_stream.specs.Flows.{Flows, IsCutOff, IsFlowed, StopsSo, StreamsOn}
use Rattle.engine_stream.specs.declared.flow.RunEnd.TheVariants.{Ended, Fault}
use Rattle.engine_stream.specs.declared.flow.FlatEnded.{FlatEnded}

-- nothing read, nothing written
pub begun : (parts : Parts) (n : ℕ) (course : FlatRun) (reader writer : Option (List ℕ)) → IsUnderWay parts n [] [] false course → Streamed reader reader writer writer (Flows parts n false course)
begun parts n course reader writer goes = ([], false, [], (goes, refl), no_bytes, Consumes-nil reader, (λ yes. absurd (cc)), Appends-nil writer)

-- the course alone went on
pub advanced : (met : Bool) (old new : FlatRun) (reader writer : Option (List ℕ)) → StillGoes old new → StreamsOn met old reader writer met new reader writer
advanced met old new reader writer goes parts n first written_first (read, told, written, (under, same), bytes, got, end, put) =
    (read, told, written, (goes parts n read written told under, same), bytes, got, end, put)

module _ (parts : Parts) (n : ℕ) (first written_first : Option (List ℕ)) (old new : FlatRun) where
  -- a byte was read
  pub byte_read : (reader reader_now out : Option (List ℕ)) (byte : ℕ) → byte < 2 ^ 8 → Consumes reader reader_now (byte ∷ []) →
      ((read written : List ℕ) → IsUnderWay parts n read written false old → IsUnderWay parts n (read ++ byte ∷ []) written false new)
      → Streamed first reader written_first out (Flows parts n false old) → Streamed first reader_now written_first out (Flows parts n false new)
  byte_read reader reader_now out byte small got goes (read, told, written, (under, same), bytes, so_far, end, put) = (
    read ++ byte ∷ [],
    false,
    written,
    (goes read written (subst (λ (m : Bool). IsUnderWay parts n read written m old) same under), refl),
    bytes_after read (byte ∷ []) bytes (one_byte byte small),
    Consumes-trans first reader reader_now read (byte ∷ []) so_far got,
    (λ yes. absurd (cc)),
    put,
  )

  all_read : (first now : Option (List ℕ)) (read : List ℕ) → Consumes first now read → IsAtEnd now → IsAll first read
  all_read None now read got end = tt
  all_read (Some xs) None read got end = absurd got
  all_read (Some xs) (Some ys) read got end = got ∙ ap (λ (l : List ℕ). read ++ l) end ∙ append-nil read

  -- its end was met
  pub end_read : (reader reader_now out : Option (List ℕ)) → Consumes reader reader_now [] → IsAtEnd reader_now →
      ((read written : List ℕ) → IsUnderWay parts n read written true old → IsUnderWay parts n read written true new)
      → Streamed first reader written_first out (Flows parts n false old) → Streamed first reader_now written_first out (Flows parts n true new)
  end_read reader reader_now out got end goes (read, told, written, (under, same), bytes, so_far, was, put) =
      let all : Consumes first reader_now read = subst (λ (r : List ℕ). Consumes first reader_now r) (append-nil read) (Consumes-trans first reader reader_now read [] so_far got) in (
        read,
        true,
        written,
        (goes read written (end_known parts n read written old (subst (λ (m : Bool). IsUnderWay parts n read written m old) same under)), refl),
        bytes,
        all,
        (λ yes. all_read first reader_now read all end),
        put,
      )

  -- it was known before
  pub end_again : (reader out : Option (List ℕ)) → ((read written : List ℕ) → IsUnderWay parts n read written true old → IsUnderWay parts n read written true new)
      → Streamed first reader written_first out (Flows parts n true old) → Streamed first reader written_first out (Flows parts n true new)
  end_again reader out goes (read, told, written, (under, same), bytes, got, end, put) = (
    read,
    told,
    written,
    (
      subst (λ (m : Bool). IsUnderWay parts n read written m new) (sym same)
          (goes read written (subst (λ (m : Bool). IsUnderWay parts n read written m old) same under)),
      same,
    ),
    bytes,
    got,
    end,
    put,
  )

  -- a byte was written
  pub byte_put : (met : Bool) (input writer writer_now : Option (List ℕ)) (byte : ℕ) → Appends writer writer_now (byte ∷ []) →
      ((read written : List ℕ) (m : Bool) → IsUnderWay parts n read written m old → IsUnderWay parts n read (written ++ byte ∷ []) m new)
      → Streamed first input written_first writer (Flows parts n met old) → Streamed first input written_first writer_now (Flows parts n met new)
  byte_put met input writer writer_now byte put goes (read, told, written, (under, same), bytes, got, end, so_far) = (
    read,
    told,
    written ++ byte ∷ [],
    (goes read written told under, same),
    bytes,
    got,
    end,
    Appends-trans written_first writer writer_now written (byte ∷ []) so_far put,
  )

-- ---- where it stops

-- a reader failed
pub reader_failed : (parts : Parts) (n : ℕ) (first written_first reader reader_now out : Option (List ℕ)) (old : FlatRun) → Consumes reader reader_now [] →
    Streamed first reader written_first out (Flows parts n false old) → Streamed first reader_now written_first out (IsCutOff parts Reader)
reader_failed parts n first written_first reader reader_now out old got (read, told, written, (under, same), bytes, so_far, end, put) = (
  read,
  told,
  written,
  (λ j more.
      let (rest, status, path, behaves) = front parts n read written told old under j more in
      (rest, status, path, behaves, same)),
  bytes,
  subst (λ (r : List ℕ). Consumes first reader_now r) (append-nil read) (Consumes-trans first reader reader_now read [] so_far got),
  end,
  put,
)

-- memory was refused
pub memory_failed : (parts : Parts) (n : ℕ) (want : Want) (met : Bool) (first written_first reader out : Option (List ℕ)) (old : FlatRun) →
    Streamed first reader written_first out (Flows parts n met old) → Streamed first reader written_first out (IsCutOff parts (Memory want))
memory_failed parts n want met first written_first reader out old (read, told, written, (under, same), bytes, got, end, put) = (
  read,
  told,
  written,
  (λ j more.
      let (behind, status, path, behaves) = front parts n read written told old under j more in
      (behind, status, path, behaves, tt)),
  bytes,
  got,
  end,
  put,
)

not_empty : (byte : ℕ) (rest : List ℕ) → (byte ∷ rest) ≢ []
not_empty byte rest is = absurd (cc)

-- a writer failed, whose byte the run has put out
pub writer_failed : (parts : Parts) (n : ℕ) (met : Bool) (first written_first input writer writer_now : Option (List ℕ)) (old new : FlatRun) (byte : ℕ) →
    Appends writer writer_now [] →
    ((read written : List ℕ) (m : Bool) → IsUnderWay parts n read written m old → IsUnderWay parts n read (written ++ byte ∷ []) m new)
    → Streamed first input written_first writer (Flows parts n met old) → Streamed first input written_first writer_now (IsCutOff parts Writer)
writer_failed parts n met first written_first input writer writer_now old new byte put goes (read, told, written, (under, same), bytes, got, end, so_far) = (
  read,
  told,
  written,
  (λ j more.
      let (rest, status, path, behaves) = front parts n read (written ++ byte ∷ []) told new (goes read written told under) j more in (
        byte ∷ rest,
        status,
        path,
        subst (λ (o : List ℕ). Behaves parts (read ++ beyond told j) o status path) (append_assoc written (byte ∷ []) rest) behaves,
        not_empty byte rest,
      )),
  bytes,
  got,
  end,
  subst (λ (w : List ℕ). Appends written_first writer_now w) (append-nil written) (Appends-trans written_first writer writer_now written [] so_far put),
)

-- the run has ended
pub flowed_so : (parts : Parts) (n : ℕ) (met : Bool) (first written_first reader writer : Option (List ℕ)) (now : FlatRun) (flowed : FlatEnded) →
    now.engine.exit ≡ Some flowed.status → flowed.counts ≡ now.tally.traffic
    → Streamed first reader written_first writer (Flows parts n met now) → Streamed first reader written_first writer (IsFlowed parts n flowed)
flowed_so parts n met first written_first reader writer now flowed ended counts (read, told, written, (under, same), bytes, got, end, put) =
    let turns = within parts n read written told now under in (
      read,
      told,
      written,
      (
        subst (λ t. IsAllOf parts n read told written flowed.status t) (sym counts) (whole parts n read written told now under flowed.status ended),
        subst (λ (t : Traffic). t.turns ≤ budget parts) (sym counts) turns,
      ),
      bytes,
      got,
      end,
      put,
    )

-- ---- the same, as the calls tell it

-- a step that was asked for makes turns, within those that are counted
pub onward : {what : Asked} (old new : FlatRun) (after : Tally) → AsksWithin what (2 ^ 62) old after → new.tally ≡ after →
    (old.tally.traffic.turns < new.tally.traffic.turns) × (new.tally.traffic.turns ≤ 2 ^ 62)
onward old new after asks counts = (
  subst (λ (t : Tally). old.tally.traffic.turns < t.traffic.turns) (sym counts) asks.0.more,
  subst (λ (t : Tally). t.traffic.turns ≤ 2 ^ 62) (sym counts) asks.1,
)

pub on_end_again : (met : Bool) (old new : FlatRun) (reader : Option (List ℕ)) → met ≡ true →
    ((parts : Parts) (n : ℕ) (read written : List ℕ) → IsUnderWay parts n read written true old → IsUnderWay parts n read written true new)
    → (out : Option (List ℕ)) → StreamsOn met old reader out true new reader out
on_end_again met old new reader is goes out parts n first written_first so =
    end_again parts n first written_first old new reader out (goes parts n) (subst (λ (m : Bool). Streamed first reader written_first out (Flows parts n m old)) is so)

pub on_byte : (met : Bool) (old new : FlatRun) (reader reader_now : Option (List ℕ)) (byte : ℕ) → met ≡ false → byte < 2 ^ 8 → Consumes reader reader_now (byte ∷ [])
    → ((parts : Parts) (n : ℕ) (read written : List ℕ) → IsUnderWay parts n read written false old → IsUnderWay parts n (read ++ byte ∷ []) written false new)
    → (out : Option (List ℕ)) → StreamsOn met old reader out false new reader_now out
on_byte met old new reader reader_now byte is small got goes out parts n first written_first so =
    byte_read parts n first written_first old new reader reader_now out byte small got (goes parts n) (subst (λ (m : Bool). Streamed first reader written_first out (Flows parts n m old)) is so)

pub on_end : (met : Bool) (old new : FlatRun) (reader reader_now : Option (List ℕ)) → met ≡ false → Consumes reader reader_now [] → IsAtEnd reader_now
    → ((parts : Parts) (n : ℕ) (read written : List ℕ) → IsUnderWay parts n read written true old → IsUnderWay parts n read written true new)
    → (out : Option (List ℕ)) → StreamsOn met old reader out true new reader_now out
on_end met old new reader reader_now is got end goes out parts n first written_first so =
    end_read parts n first written_first old new reader reader_now out got end (goes parts n) (subst (λ (m : Bool). Streamed first reader written_first out (Flows parts n m old)) is so)

pub on_put : (old new : FlatRun) (writer writer_now : Option (List ℕ)) (byte : ℕ) → Appends writer writer_now (byte ∷ [])
    → ((parts : Parts) (n : ℕ) (read written : List ℕ) (met : Bool) → IsUnderWay parts n read written met old → IsUnderWay parts n read (written ++ byte ∷ []) met new)
    → (met : Bool) (input : Option (List ℕ)) → StreamsOn met old input writer met new input writer_now
on_put old new writer writer_now byte put goes met input parts n first written_first so = byte_put parts n first written_first old new met input writer writer_now byte put (goes parts n) so

-- a reader's fault, or a writer's
pub off_reader : (fault : RunFault) (met : Bool) (old new : FlatRun) (reader reader_now : Option (List ℕ)) → fault ≡ Reader → met ≡ false →
    Consumes reader reader_now [] → (out : Option (List ℕ)) → StopsSo (Fault fault) met old reader out new reader_now out
off_reader fault met old new reader reader_now is not_met got out parts n first written_first so =
    subst (λ (f : RunFault). Streamed first reader_now written_first out (IsCutOff parts f)) (sym is)
    (reader_failed parts n first written_first reader reader_now out old got (subst (λ (m : Bool). Streamed first reader written_first out (Flows parts n m old)) not_met so))

pub off_writer : (fault : RunFault) (old new : FlatRun) (writer writer_now : Option (List ℕ)) (byte : ℕ) → fault ≡ Writer → Appends writer writer_now []
    → ((parts : Parts) (n : ℕ) (read written : List ℕ) (met : Bool) → IsUnderWay parts n read written met old → IsUnderWay parts n read (written ++ byte ∷ []) met new)
    → (met : Bool) (input : Option (List ℕ)) → StopsSo (Fault fault) met old input writer new input writer_now
off_writer fault old new writer writer_now byte is put goes met input parts n first written_first so =
    subst (λ (f : RunFault). Streamed first input written_first writer_now (IsCutOff parts f)) (sym is)
    (writer_failed parts n met first written_first input writer writer_now old new byte put (goes parts n) so)

pub off_memory : (want : Want) (met : Bool) (old new : FlatRun) (reader writer : Option (List ℕ)) → StopsSo (Fault (Memory want)) met old reader writer new reader writer
off_memory want met old new reader writer parts n first written_first so = memory_failed parts n want met first written_first reader writer old so

-- the run halted at an exit word, and nothing was read or written
pub ended_so : (word : ℕ) (met : Bool) (course : FlatRun) (reader writer : Option (List ℕ)) → course.engine.exit ≡ Some word → StopsSo (Ended word) met course reader writer course reader writer
ended_so word met course reader writer is = (is, λ parts n first written_first so. so)

-- where there was no memory for a beginning nothing was read or written
pub no_beginning : (parts : Parts) (fault : RunFault) (reader writer : Option (List ℕ)) → FlatSafe parts → fault ≡ Memory refused → Streamed reader reader writer writer (IsCutOff parts fault)
no_beginning parts fault reader writer safe is =
    subst (λ (f : RunFault). Streamed reader reader writer writer (IsCutOff parts f)) (sym is)
    ([], false, [], (λ j more. let s = safe j more in (s.0, s.1, s.2, s.3, tt)), no_bytes, Consumes-nil reader, (λ yes. absurd (cc)), Appends-nil writer)

-- its turns are few
pub few_turns : (parts : Parts) (n : ℕ) (met : Bool) (course : FlatRun) (a b c d : Option (List ℕ)) → Streamed a b c d (Flows parts n met course) → course.tally.traffic.turns < 2 ^ 40
few_turns parts n met course a b c d (read, told, written, (under, same), bytes, got, end, put) = few parts n read written told course under

-- and it is never lost
pub not_lost : (parts : Parts) (n : ℕ) (met : Bool) (course : FlatRun) (a b c d : Option (List ℕ)) → Streamed a b c d (Flows parts n met course) → NeverGoes course → ⊥
not_lost parts n met course a b c d (read, told, written, (under, same), bytes, got, end, put) never = never parts n read written told under
