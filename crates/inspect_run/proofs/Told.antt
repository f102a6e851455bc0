-- Turns that are told.
use Rattle.std.proofs.Common.{◌≡◌, ◌≢◌, ℕ, zero, suc, ◌+◌, ◌-◌, ◌<◌, ◌≤◌, List, [], ◌++◌, Option, None, Result, Ok, Err, IfErr, OnErr, OnOk, inl, inr, refl}
use Rattle.std.proofs.Common.{sym, ap, subst, ◌∙◌, append_assoc, append-nil, add-one, arith}
use Rattle.std.specs.Io.KnownBytes.{Appends, Keeps}
use Rattle.sbx_image.specs.Function.{Function}
use Rattle.sbx_image.specs.Parts.{Parts}
use Rattle.v8_core.specs.declared.turn.Turn.{Turn}
use Rattle.v8_board.specs.declared.outcome.Ending.{Ending}
use Rattle.v8_board.specs.Seen.{State, ending_of, turned}
use Rattle.v8_board.specs.Runs.{state_after}
use Rattle.v8_board.proofs.Running.{Counted, no_turns, one_turn_more}
use Rattle.sbx_put.specs.Fronts.{Wrote, WroteSome}
use Rattle.sbx_put.proofs.Written.{kept_after, nothing_written, some_after, written_after}
use Rattle.sbx_raw.specs.declared.fault.RunFault.{RunFault}
use Rattle.sbx_raw.specs.declared.fault.RunFault.TheVariants.{Memory, Reader, Writer}
use Rattle.sbx_raw.specs.Outputs.{Alike}
use Rattle.sbx_raw.specs.Runs.{IsBegun}
use Rattle.sbx_raw.proofs.Lines.{goes_to_the_end}
use Rattle.sbx_raw.proofs.Runs.{same_turn}
use Rattle.sbx_raw.proofs.Unheard.{alike_both, alike_itself, ending_same, turned_same}
use Rattle.inspect_run.specs.Heads.{head_text}
use Rattle.want.specs.Wants.{refused}
use Rattle.inspect_run.specs.Watched.{BeginsRun, BeginsWatch, IsWatched, Leaves, TellsRun, TellsTurn, TellsTurns, Watched, WatchedPart, WatchedRun, WatchedSome, WatchedTurn, last_text}

-- some turns, and a text that tells them was written
abbrev Telling : (n : ℕ) → List Function → State n → State n → ℕ → Option (List ℕ) → Option (List ℕ) → Type 0
Telling n functions old now k before written =
    Counted n old now k × ((text : List ℕ) × TellsTurns n functions old k text × Appends before written text)

-- the same by a board that lacks what the device has put out
abbrev pub Watching : (n : ℕ) → List Function → State n → State n → ℕ → Option (List ℕ) → Option (List ℕ) → Type 0
Watching n functions old real k before written = (now : State n) × Alike n real now × Telling n functions old now k before written

pub nothing_told : (n : ℕ) (functions : List Function) (s : State n) (w : Option (List ℕ)) → Watching n functions s s 0 w w
unfolding TellsTurns
nothing_told n functions s w = (s, alike_itself n s, (no_turns n s, ([], refl, nothing_written w)))

one_told_more : (n : ℕ) (functions : List Function) (old mid new : State n) (k : ℕ) (turn : Turn) (a b c : Option (List ℕ)) (line : List ℕ)
    → Telling n functions old mid k a b → ending_of n mid.world ≡ None → turned n mid ≡ (turn, new) → TellsTurn functions (k + 1) turn line
    → Appends b c line → Telling n functions old new (k + 1) a c
unfolding TellsTurns
one_told_more n functions old mid new k turn a b c line (counted, (text, told, so_far)) going is tells grown =
    let there : mid ≡ state_after n k old = counted.0.is ∙ ap (λ (j : ℕ). state_after n j old) counted.1 in
    let made : turn ≡ (turned n (state_after n k old)).0 = sym (ap (λ (x : Turn × State n). x.0) is) ∙ ap (λ (s : State n). (turned n s).0) there in
    let last : TellsTurn functions (suc k) (turned n (state_after n k old)).0 line =
    subst (λ (t : Turn). TellsTurn functions (suc k) t line) made (subst (λ (j : ℕ). TellsTurn functions j turn line) (add-one k) tells) in (
      one_turn_more n k old mid new turn counted going is,
      (
        text ++ line,
        subst (λ (j : ℕ). TellsTurns n functions old j (text ++ line)) (sym (add-one k)) (text, line, told, last, refl),
        written_after a b c text line so_far grown,
      ),
    )

-- one turn more, which was watched
pub one_watched_more : (n : ℕ) (functions : List Function) (old real new : State n) (k : ℕ) (a b c : Option (List ℕ)) → Watching n functions old real k a b
    → ending_of n real.world ≡ None → WatchedTurn n functions (k + 1) real new b c → Watching n functions old new (k + 1) a c
one_watched_more n functions old real new k a b c (mid, alike, telling) going turn =
    let (next, made, stays) = same_turn n real mid turn.next turn.turn alike turn.made in
    let goes = sym (ending_same n real mid alike) ∙ going in (
      next,
      alike_both n new turn.next next turn.alike stays,
      one_told_more n functions old mid next k turn.turn a b c turn.text telling goes made turn.told turn.written,
    )

-- a turn whose text was written
pub watched_turn : (n : ℕ) (functions : List Function) (number : ℕ) (old next new : State n) (turn : Turn) (a b : Option (List ℕ)) (line shown : List ℕ)
    → turned n old ≡ (turn, next) → TellsTurn functions number turn line → shown ≡ line → Appends a b shown → Alike n new next
    → WatchedTurn n functions number old new a b
watched_turn n functions number old next new turn a b line shown made told same grown forgets = record {
  turn = turn;
  next = next;
  text = line;
  made = made;
  alike = forgets;
  told = told;
  written = subst (λ (t : List ℕ). Appends a b t) same grown;
}

-- the turns made are a run
watched : (n : ℕ) (functions : List Function) (limit k : ℕ) (old real : State n) (a b : Option (List ℕ)) → Watching n functions old real k a b → k ≤ limit
    → (ending_of n real.world ≡ None → k ≡ limit) → WatchedRun n functions limit old real a b
watched n functions limit k old real a b (now, alike, ((turns, many), (text, told, written))) within whole =
    record {
      end = now;
      text = text;
      run = record { turns = turns; within = omega arith; whole = λ none. many ∙ whole (ending_same n real now alike ∙ none) };
      alike = alike;
      told = subst (λ (j : ℕ). TellsTurns n functions old j text) (sym many) told;
      written = written;
    }

pub ended_watch : (n : ℕ) (functions : List Function) (limit k : ℕ) (old now : State n) (a b : Option (List ℕ)) → Watching n functions old now k a b → k ≤ limit
    → (ending_of n now.world ≡ None → ⊥) → WatchedRun n functions limit old now a b
ended_watch n functions limit k old now a b watching within over = watched n functions limit k old now a b watching within (λ none. absurd (over none))

pub whole_watch : (n : ℕ) (functions : List Function) (limit k : ℕ) (old now : State n) (a b : Option (List ℕ)) → Watching n functions old now k a b → k ≡ limit
    → WatchedRun n functions limit old now a b
whole_watch n functions limit k old now a b watching all = watched n functions limit k old now a b watching (omega arith) (λ none. all)

-- ---- the last line, and a flush, which keeps what was written, done or failed

-- the text of a run's turns, and the last line as the board tells it
told_whole : (n : ℕ) (functions : List Function) (limit : ℕ) (old new : State n) (a b : Option (List ℕ)) → (run : WatchedRun n functions limit old new a b)
    → TellsRun n functions limit old (run.text ++ last_text limit (ending_of n new.world))
told_whole n functions limit old new a b run = record {
  end = run.end;
  run = run.run;
  turns = run.text;
  told = run.told;
  whole = ap (λ (e : Option Ending). run.text ++ last_text limit e) (ending_same n new run.end run.alike);
}

-- a line more, and a flush
last_written : (n : ℕ) (functions : List Function) (limit : ℕ) (old new : State n) (a b c d : Option (List ℕ)) (last : List ℕ)
    → (run : WatchedRun n functions limit old new a b) → Appends b c last → Keeps c d → Appends a d (run.text ++ last)
last_written n functions limit old new a b c d last run line keeps =
    kept_after a c d (run.text ++ last) (written_after a b c run.text last run.written line) keeps

pub flushed : (n : ℕ) (functions : List Function) (limit : ℕ) (old new : State n) (a b c d : Option (List ℕ)) → WatchedRun n functions limit old new a b
    → Appends b c (last_text limit (ending_of n new.world)) → Keeps c d → Wrote a d (TellsRun n functions limit old)
flushed n functions limit old new a b c d run line keeps =
    let last : List ℕ = last_text limit (ending_of n new.world) in
    (run.text ++ last, told_whole n functions limit old new a b run, last_written n functions limit old new a b c d last run line keeps)

pub unflushed : (n : ℕ) (functions : List Function) (limit : ℕ) (old new : State n) (a b c d : Option (List ℕ)) → WatchedRun n functions limit old new a b
    → Appends b c (last_text limit (ending_of n new.world)) → Keeps c d → BeginsRun n functions limit old a d
unflushed n functions limit old new a b c d run line keeps =
    let last : List ℕ = last_text limit (ending_of n new.world) in
    let text : List ℕ = run.text ++ last in
    (text, told_whole n functions limit old new a b run, (text, [], sym (append-nil text), last_written n functions limit old new a b c d last run line keeps))

-- the first bytes of the last line
pub last_begun : (n : ℕ) (functions : List Function) (limit : ℕ) (old new : State n) (a b c : Option (List ℕ)) → WatchedRun n functions limit old new a b
    → WroteSome b c (last_text limit (ending_of n new.world)) → BeginsRun n functions limit old a c
last_begun n functions limit old new a b c run some =
    let last : List ℕ = last_text limit (ending_of n new.world) in
    let text : List ℕ = run.text ++ last in
    (text, told_whole n functions limit old new a b run, some_after a b c text run.text last refl run.written some)

-- ---- where the turns are cut short

-- no byte of the next turn's text
pub nothing_begun : (n : ℕ) (functions : List Function) (number : ℕ) (s : State n) (a : Option (List ℕ)) → WatchedSome n functions number s a a
nothing_begun n functions number s a =
    let head : List ℕ = head_text functions number (turned n s).0 in
    (head, ([], sym (append-nil head)), ([], head, refl, nothing_written a))

-- the first bytes of a turn's text
pub turn_begun : (n : ℕ) (functions : List Function) (number : ℕ) (old new : State n) (turn : Turn) (a b : Option (List ℕ)) (line shown : List ℕ)
    → turned n old ≡ (turn, new) → TellsTurn functions number turn line → shown ≡ line → WroteSome a b shown → WatchedSome n functions number old a b
turn_begun n functions number old new turn a b line shown made told same some = (
  line,
  subst (λ (t : Turn). TellsTurn functions number t line) (sym (ap (λ (x : Turn × State n). x.0) made)) told,
  subst (λ (t : List ℕ). WroteSome a b t) same some,
)

-- the texts of the turns so far, and the first bytes of the next one's
turns_begun : (n : ℕ) (functions : List Function) (limit k : ℕ) (old mid : State n) (a b c : Option (List ℕ)) → Telling n functions old mid k a b
    → ending_of n mid.world ≡ None → k < limit → WatchedSome n functions (k + 1) mid b c → WatchedPart n functions limit old a c
unfolding TellsTurns
turns_begun n functions limit k old mid a b c (counted, (text, told, so_far)) going less (line, tells, some) =
    let next = one_turn_more n k old mid (turned n mid).1 (turned n mid).0 counted going refl in
    let there : mid ≡ state_after n k old = counted.0.is ∙ ap (λ (j : ℕ). state_after n j old) counted.1 in
    let last : TellsTurn functions (suc k) (turned n (state_after n k old)).0 line =
    subst (λ (s : State n). TellsTurn functions (suc k) (turned n s).0 line) there (subst (λ (j : ℕ). TellsTurn functions j (turned n mid).0 line) (add-one k) tells) in
    record {
      reached = (turned n mid).1;
      turns = next.0;
      text = text ++ line;
      within = omega (arith, next.1);
      told = subst (λ (j : ℕ). TellsTurns n functions old j (text ++ line)) (sym (add-one k) ∙ sym next.1) (text, line, told, last, refl);
      part = some_after a b c (text ++ line) text line refl so_far some;
    }

pub watch_begun : (n : ℕ) (functions : List Function) (limit k : ℕ) (old real : State n) (a b c : Option (List ℕ)) → Watching n functions old real k a b
    → ending_of n real.world ≡ None → k < limit → WatchedSome n functions (k + 1) real b c → WatchedPart n functions limit old a c
watch_begun n functions limit k old real a b c (mid, alike, telling) going less (line, tells, some) =
    let same : (turned n real).0 ≡ (turned n mid).0 = (turned_same n real mid alike).0 in
    turns_begun n functions limit k old mid a b c telling (sym (ending_same n real mid alike) ∙ going) less
    (line, subst (λ (t : Turn). TellsTurn functions (k + 1) t line) same tells, some)

-- a text of some turns goes on to one of more
more_told : (n : ℕ) (functions : List Function) (s : State n) (k d : ℕ) (text : List ℕ) → TellsTurns n functions s k text
    → (more : List ℕ) × TellsTurns n functions s (k + d) (text ++ more)
unfolding TellsTurns
more_told n functions s k zero text told =
    let here : k ≡ k + 0 = omega arith in
    ([], subst (λ (j : ℕ). TellsTurns n functions s j (text ++ [])) here (subst (λ (t : List ℕ). TellsTurns n functions s k t) (sym (append-nil text)) told))
more_told n functions s k (suc d) text told =
    let (before, tells) = more_told n functions s k d text told in
    let head : List ℕ = head_text functions (suc (k + d)) (turned n (state_after n (k + d) s)).0 in
    let next : suc (k + d) ≡ k + suc d = omega arith in (
      before ++ head,
      subst (λ (j : ℕ). TellsTurns n functions s j (text ++ (before ++ head))) next
          (text ++ before, head, tells, ([], sym (append-nil head)), sym (append_assoc text before head)),
    )

-- the first bytes of the text of some turns of a run are those of one of the whole run
pub begins_run : (n : ℕ) (functions : List Function) (limit : ℕ) (start : State n) (a b : Option (List ℕ)) → WatchedPart n functions limit start a b
    → BeginsRun n functions limit start a b
begins_run n functions limit start a b part =
    let (front, rest, split, written) = part.part in
    let gap : part.turns.count + (limit - part.turns.count) ≡ limit = omega (arith, part.within) in
    let (end, run, d, sum) = goes_to_the_end n limit (limit - part.turns.count) start part.reached part.turns gap in
    let (more, told) = more_told n functions start part.turns.count d part.text part.told in
    let last : List ℕ = last_text limit (ending_of n end.world) in
    let turns : List ℕ = part.text ++ more in (
      turns ++ last,
      record {
        end = end;
        run = run;
        turns = turns;
        told = subst (λ (j : ℕ). TellsTurns n functions start j turns) (sym sum) told;
        whole = refl;
      },
      (
        front,
        (rest ++ more) ++ last,
        ap (λ (t : List ℕ). (t ++ more) ++ last) split ∙ ap (λ (t : List ℕ). t ++ last) (append_assoc front rest more) ∙ append_assoc front (rest ++ more) last,
        written,
      ),
    )

leaves : (n : ℕ) (p : Parts) (input : List ℕ) (limit : ℕ) (fault : RunFault) (bytes : List ℕ) → fault ≢ Reader → BeginsWatch n p input limit bytes
    → Leaves n p input limit fault bytes
leaves n p input limit (Memory want) bytes other begins = inr begins
leaves n p input limit Reader bytes other begins = absurd (other refl)
leaves n p input limit Writer bytes other begins = begins

-- ---- of an image

-- there was no memory to begin
pub not_begun : (n : ℕ) (p : Parts) (input : List ℕ) (limit : ℕ) (a : Option (List ℕ)) (fault : RunFault) → fault ≡ Memory refused
    → Watched n p input limit a a (Err fault)
not_begun n p input limit a fault is =
    subst (λ (f : RunFault). Watched n p input limit a a (Err f)) (sym is) ([], inl refl, nothing_written a)

watched_on : (n windows : ℕ) (p : Parts) (input : List ℕ) (limit : ℕ) (start : State n) (functions : List Function) (a b : Option (List ℕ))
    → windows ≡ n → functions ≡ p.functions → IsBegun n p input start → Wrote a b (TellsRun n functions limit start) → Wrote a b (IsWatched windows p input limit)
watched_on n windows p input limit start functions a b many same begun (text, told, written) =
    let whole : IsWatched n p input limit text =
    record { start = start; begun = begun; told = subst (λ (fs : List Function). TellsRun n fs limit start text) same told } in
    (text, subst (λ (w : ℕ). IsWatched w p input limit text) (sym many) whole, written)

-- the turns of an image's run
pub watch_told : (n windows : ℕ) (p : Parts) (input : List ℕ) (limit : ℕ) (start : State n) (functions : List Function) (a b : Option (List ℕ))
    (r : Result (Unit {0}) RunFault) → windows ≡ n → functions ≡ p.functions → IsBegun n p input start → OnOk r (Wrote a b (TellsRun n functions limit start))
    → OnErr r (BeginsRun n functions limit start a b) → IfErr r (λ fault. fault ≢ Reader) → Watched windows p input limit a b r
watch_told n windows p input limit start functions a b (Ok u) many same begun run part other =
    watched_on n windows p input limit start functions a b many same begun run
watch_told n windows p input limit start functions a b (Err fault) many same begun run (text, told, (front, rest, split, written)) other =
    let whole : IsWatched n p input limit text =
    record { start = start; begun = begun; told = subst (λ (fs : List Function). TellsRun n fs limit start text) same told } in
    let some : Wrote a b (Leaves n p input limit fault) = (front, leaves n p input limit fault front other (text, whole, (rest, split)), written) in
    subst (λ (w : ℕ). Wrote a b (Leaves w p input limit fault)) (sym many) some

-- a line that begins with a turn's head, whatever stands behind it
pub tells : (functions : List Function) (number : ℕ) (turn : Turn) (line same mid end items tail : List ℕ) → line ≡ head_text functions number turn
    → same ≡ line → mid ≡ same ++ items → end ≡ mid ++ tail → TellsTurn functions number turn end
tells functions number turn line same mid end items tail head stays pushed ended = (
  items ++ tail,
  ended ∙ ap (λ (t : List ℕ). t ++ tail) pushed ∙ append_assoc same items tail ∙ ap (λ (t : List ℕ). t ++ (items ++ tail)) (stays ∙ head),
)
