-- What the rounds of a step come to.
use Rattle.std.proofs.Common.{◌≡◌, ℕ, ◌+◌, ◌-◌, ◌<◌, ◌≤◌, ◌⊎◌, inl, inr, Bool, true, false, List, [], ◌∷◌, ◌++◌, drop, length, take, get_or, Option, Some, None, refl, sym, ap, subst, ◌∙◌, append_assoc, arith, rules}
use Rattle.std.specs.Prelude.{IfSome}
use Rattle.std.proofs.lemmas.List.{append-nil, drop-drop, take_more}
use Rattle.v8_board.specs.declared.outcome.Ending.TheVariants.{Exit}
use Rattle.v8_loaded.specs.Board.{Device}
use Rattle.v8_board.specs.Seen.{Seen, State, ending_of}
use Rattle.sbx_image.specs.Parts.{Parts}
use Rattle.sbx_port.specs.Following.{Fine, with_output}
use Rattle.sbx_session.specs.Going.{Goes, IsFrontOf, IsUnderWay}
use Rattle.sbx_session.specs.Steps.{EndsAs, IsStep, StandsSo, turns_of}
use Rattle.sbx_session.specs.declared.session.Session.{Session}
use Rattle.sbx_session.specs.declared.session.Stand.{Stand}
use Rattle.sbx_session.specs.declared.session.Stand.TheVariants.{Ended, Full, Lost, Paused, Wants}
use Rattle.sbx_session.specs.declared.session.Step.{Step}
use Rattle.sbx_session.proofs.Counts.{at_most, exactly, not_spent}
use Rattle.sbx_session.proofs.UnderWay.{all_of, delivered, front}

-- what is left of the turns that a step may make, of those that a run had and has left
pub record Spends (n : ℕ) (old new : Session n) (most left : ℕ) : Type 0 where
  pub turns : turns_of new + left ≤ turns_of old + most
  pub within : turns_of new + left ≤ turns_of old + old.left
  pub some : most ≤ old.left → left + old.left ≡ most + new.left
  pub all : old.left ≤ most → left ≡ new.left

-- a step before it has made any
pub spends_none : (n : ℕ) (old : Session n) (most left : ℕ) → (most ≤ old.left → left ≡ most) → (old.left ≤ most → left ≡ old.left) → Spends n old old most left
spends_none n old most left some all = by_most (search arith)
  where
    by_most : (most ≤ old.left) ⊎ (old.left ≤ most) → Spends n old old most left
    by_most (inl few) = (let is = some few in record {
      turns = omega (arith, is);
      within = omega (arith, is, few);
      some = λ _. omega (arith, is);
      all = all;
    })
    by_most (inr many) = (let is = all many in record {
      turns = omega (arith, is, many);
      within = omega (arith, is);
      some = λ few. (let most_is = some few in omega (arith, most_is));
      all = all;
    })

-- where neither the board's count nor what it has left changes
pub spends_same : (n : ℕ) (old now new : Session n) (most left : ℕ) → turns_of new ≡ turns_of now → new.left ≡ now.left → Spends n old now most left → Spends n old new most left
spends_same n old now new most left counted same spends = (let t = spends.turns in let w = spends.within in record {
  turns = omega (arith, counted, t);
  within = omega (arith, counted, w);
  some = λ few. (let e = spends.some few in omega (arith, same, e));
  all = λ many. (let e = spends.all many in omega (arith, same, e));
})

-- and where turns are made
pub spends_told : (n : ℕ) (old now new : Session n) (most left told : ℕ) → turns_of new ≤ turns_of now + told → told ≤ left → left ≤ now.left → new.left ≡ now.left - told
    → Spends n old now most left → Spends n old new most (left - told)
spends_told n old now new most left told counted few fits same spends = (let t = spends.turns in let w = spends.within in record {
  turns = omega (arith, counted, few, t);
  within = omega (arith, counted, few, w);
  some = λ small. (let e = spends.some small in omega (arith, same, few, fits, e));
  all = λ many. (let e = spends.all many in omega (arith, same, few, fits, e));
})

-- it pauses where none is left, and the machine has not ended
abbrev pub PausesSo : (n : ℕ) → Session n → ℕ → Type 0
PausesSo n new left = (left ≡ 0) × (ending_of n new.board.state.world ≡ None)

all_made : (n : ℕ) (parts : Parts) (old new : Session n) (most left : ℕ) (r w s x : List ℕ) → Goes n parts r w old → Goes n parts s x new
    → Spends n old new most left → PausesSo n new left → (most ≤ old.left) ⊎ (old.left ≤ most) → turns_of new ≡ turns_of old + most
all_made n parts old new most left r w s x was now spends (none, going) (inl few) =
    let had = at_most n parts r w old.left old.met old.board.state was in
    let has = exactly n parts s x new.left new.met new.board.state now going in
    let spent = spends.some few in
    let turns = spends.turns in
    omega (arith, had, has, spent, turns, none)
all_made n parts old new most left r w s x was now spends (none, going) (inr many) =
    let all = spends.all many in
    absurd (not_spent n parts s x new.left new.met new.board.state now (omega (arith, all, none)) going)

pub stepped : (n : ℕ) (old new : Session n) (most left : ℕ) (input : List ℕ) (last : Bool) (before after : List ℕ) (step : Step)
    → step.read ≤ length input → step.written ≤ length after → drop step.written after ≡ drop step.written before
    → ((parts : Parts) (so_far all : List ℕ) → Goes n parts so_far all old → Goes n parts (so_far ++ take step.read input) (all ++ take step.written after) new)
    → (last ≡ false → new.met ≡ old.met)
    → ((word : ℕ) → step.stand ≡ Ended word → (ending_of n new.board.state.world ≡ Some (Exit word)) × (new.board.state.world.memory.device.output ≡ []))
    → StandsSo n step.stand new input last after step → Spends n old new most left → (step.stand ≡ Paused → PausesSo n new left)
    → IsStep n old new most input last before after step
stepped n old new most left input last before after step read written behind goes met ends stands spends pauses = record {
  read = read;
  written = written;
  behind = behind;
  goes = λ vouched. goes;
  front = λ parts so_far all g.
      front n parts (so_far ++ take step.read input) (all ++ take step.written after) new.left new.met new.board.state (goes parts so_far all g);
  whole = λ word is parts so_far all g.
      (let (ended, empty) = ends word is in
      all_of n parts (so_far ++ take step.read input) (all ++ take step.written after) new.left new.met new.board.state (goes parts so_far all g) word ended empty);
  within = λ parts so_far all g.
      (let had = at_most n parts so_far all old.left old.met old.board.state g in let most = spends.within in omega (arith, had, most));
  stands = stands;
  met = met;
  turns = (let t = spends.turns in omega (arith, t));
  paused = λ is parts so_far all g.
      all_made n parts old new most left so_far all (so_far ++ take step.read input) (all ++ take step.written after) g (goes parts so_far all g) spends (pauses is) (search arith);
}

-- where nothing is vouched for but what was written before: `was` is the last session that was a run
pub lost : (n : ℕ) (old was new : Session n) (most left : ℕ) (input : List ℕ) (last : Bool) (before after : List ℕ) (read written : ℕ)
    → read ≤ length input → written ≤ length after → drop written after ≡ drop written before
    → ((parts : Parts) (so_far all : List ℕ) → Goes n parts so_far all old → Goes n parts (so_far ++ take read input) (all ++ take written after) was)
    → new.met ≡ was.met → (last ≡ false → was.met ≡ old.met) → Spends n old was most left → turns_of new ≤ turns_of was + left
    → IsStep n old new most input last before after (record { read = read; written = written; stand = Lost })
lost n old was new most left input last before after read written few fits behind goes met kept spends turns = record {
  read = few;
  written = fits;
  behind = behind;
  goes = λ no. absurd no;
  front = λ parts so_far all g.
      subst (λ (m : Bool). IsFrontOf parts (so_far ++ take read input) m (all ++ take written after)) (sym met)
      (front n parts (so_far ++ take read input) (all ++ take written after) was.left was.met was.board.state (goes parts so_far all g));
  whole = λ word is. absurd (not_ended word is);
  within = λ parts so_far all g.
      (let had = at_most n parts so_far all old.left old.met old.board.state g in let most = spends.within in omega (arith, had, most, turns));
  stands = tt;
  met = λ no. met ∙ kept no;
  turns = (let t = spends.turns in omega (arith, t, turns));
  paused = λ is. absurd (not_paused is);
}
  where
    not_ended : (word : ℕ) → Lost ≡ Ended word → ⊥
    not_ended word is = cc

    not_paused : Lost ≡ Paused → ⊥
    not_paused is = cc

pub full_goes_on : (word : ℕ) → Full ≡ Ended word → ⊥
full_goes_on word is = cc

pub waiting_goes_on : (word : ℕ) → Wants ≡ Ended word → ⊥
waiting_goes_on word is = cc

pub paused_goes_on : (word : ℕ) → Paused ≡ Ended word → ⊥
paused_goes_on word is = cc

pub full_runs_on : Full ≡ Paused → ⊥
full_runs_on is = cc

pub waiting_runs_on : Wants ≡ Paused → ⊥
waiting_runs_on is = cc

-- an end, or none that is vouched for, is neither that of a piece nor that of a room, and no pause
pub ended_stands : (n : ℕ) (new : Session n) (stand : Stand) (input : List ℕ) (last : Bool) (room : List ℕ) (step : Step)
    → EndsAs n new.board.state stand → StandsSo n stand new input last room step
ended_stands n new (Ended word) input last room step ends = tt
ended_stands n new Lost input last room step ends = tt
ended_stands n new Wants input last room step ends = absurd ends
ended_stands n new Full input last room step ends = absurd ends
ended_stands n new Paused input last room step ends = absurd ends

pub ended_never_pauses : (n : ℕ) (s : State n) (stand : Stand) → EndsAs n s stand → stand ≡ Paused → ⊥
ended_never_pauses n s stand ends is = subst (λ (e : Stand). EndsAs n s e) is ends

-- what was read and written before anything was
pub nothing_yet : (n : ℕ) (parts : Parts) (read written : List ℕ) (session : Session n) → Goes n parts read written session → Goes n parts (read ++ []) (written ++ []) session
nothing_yet n parts read written session goes =
    subst (λ (r : List ℕ). Goes n parts r (written ++ []) session) (sym (append-nil read)) (subst (λ (w : List ℕ). Goes n parts read w session) (sym (append-nil written)) goes)

-- what is behind more was behind less
pub behind_more : (a b : ℕ) (x y : List ℕ) → a ≤ b → drop a x ≡ drop a y → drop b x ≡ drop b y
behind_more a b x y less same =
    let all : a + (b - a) ≡ b = omega arith in
    ap (λ (k : ℕ). drop k x) (sym all) ∙ sym (drop-drop (b - a) a x) ∙ ap (λ (l : List ℕ). drop (b - a) l) same ∙ drop-drop (b - a) a y ∙ ap (λ (k : ℕ). drop k y) all

-- what was put out stands at the front of the room, behind what stood there
pub all_delivered : (n : ℕ) (old : Session n) (board : Seen n) (before after : List ℕ) (written : ℕ) (result : Option ℕ)
    → IfSome result (λ now. (board.state ≡ with_output old.board.state []) × (board.failed ≡ 0))
    → IfSome result (λ now. take now after ≡ take written before ++ old.board.state.world.memory.device.output)
    → IfSome result (λ now. (parts : Parts) → (read : List ℕ) → (all : List ℕ) → Goes n parts read (all ++ take written before) old
    → Goes n parts read (all ++ take now after) (record { board = board; left = old.left; met = old.met }))
all_delivered n old board before after written (Some now) taken put = λ parts read all goes.
    let s = old.board.state in
    let o = s.world.memory.device.output in
    let next = delivered n parts read (all ++ take written before) old.left old.met s goes board.state taken.0 in
    subst (λ (w : List ℕ). IsUnderWay n parts read w old.left old.met board.state) (append_assoc all (take written before) o ∙ ap (λ (w : List ℕ). all ++ w) (sym put)) next
all_delivered n old board before after written None taken put = tt

-- one byte more of a piece
pub one_more_read : (all input : List ℕ) (read : ℕ) → read < length input → (all ++ take read input) ++ get_or input read 0 ∷ [] ≡ all ++ take (read + 1) input
one_more_read all input read less = append_assoc all (take read input) (get_or input read 0 ∷ []) ∙ ap (λ (w : List ℕ). all ++ w) (sym (take_more input read 0 less))

-- the mark has not been read: the end is known, or there is some input
pub fine_known : (met : Bool) (d : Device) → met ≡ true → Fine met [] d
fine_known true d is = tt
fine_known false d is = search rules

pub fine_unknown : (met : Bool) (d : Device) → (d.input ≡ [] → ⊥) → Fine met [] d
fine_unknown true d some = tt
fine_unknown false d some = λ few. some (no_length d.input few)
  where
    no_length : (xs : List ℕ) → length xs ≤ 0 → xs ≡ []
    no_length [] few = refl
    no_length (x ∷ xs) few = absurd (omega (arith, few))
