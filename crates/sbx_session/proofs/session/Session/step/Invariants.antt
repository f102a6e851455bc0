use Rattle.std.proofs.Common.{◌≡◌, ◌≤◌, ◌-◌, ◌++◌, ℕ, List, drop, length, take, true, false}
use Rattle.sbx_image.specs.Parts.{Parts}
use Rattle.sbx_session.specs.Going.{Goes}
use Rattle.sbx_session.specs.Steps.{AsksByte}
use Rattle.sbx_session.proofs.Counts.{todo}
use Rattle.sbx_session.proofs.Stepping.{Spends}
use Rattle.sbx_session.proofs.session.Session.step.Given as goal

-- What was read and written so far is read and written by the run, and behind it the room is as it was. A byte is lacking only where the next
-- turn asks for one. What is left of the turns that the step may make is left of those of the run.
abbrev pub invariant-rounds : goal.invariant-rounds
invariant-rounds g l = record {
  goes : (parts : Parts) (so_far all : List ℕ) → Goes g.row.N parts so_far all l.initial.self → Goes g.row.N parts (so_far ++ take l.read l.input) (all ++ take l.written l.room) l.self;
  read : l.read ≤ length l.input;
  written : l.written ≤ length l.room;
  behind : drop l.written l.room ≡ drop l.written l.initial.room;
  left : l.left ≤ l.self.left;
  met : l.last ≡ false → l.self.met ≡ l.initial.self.met;
  asks : l.lacks ≡ true → AsksByte g.row.N l.self.board;
  spends : Spends g.row.N l.initial.self l.self l.most l.left;
}

abbrev pub decreases-rounds : goal.decreases-rounds
decreases-rounds g l = todo l.lacks l.left (length l.input - l.read)
