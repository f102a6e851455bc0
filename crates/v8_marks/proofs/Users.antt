-- A turn of user code: the entries after its fetch, and after what its operation reaches.
use Rattle.std.proofs.Common.{◌≡◌, ℕ, ◌<◌, false, List, Option, None, ap, ◌∙◌}
use Rattle.std.specs.Prelude.{slice_index}
use Rattle.v8_core.specs.Operation.{Operation}
use Rattle.v8_core.specs.MmuRegs.{MmuRegs}
use Rattle.v8_core.specs.declared.turn.Event.TheVariants.{Ran}
use Rattle.v8_core.specs.Accesses.{World}
use Rattle.v8_core.specs.Steps.{next}
use Rattle.v8_loaded.specs.Layout.{Pages}
use Rattle.v8_loaded.specs.Board.{Device, board}
use Rattle.v8_loaded.specs.Places.{code_marked}
use Rattle.v8_loaded.specs.Users.{AsksFor, RunsUser}
use Rattle.v8_loaded.proofs.Users.{user_fetches, user_ready}
use Rattle.v8_marks.specs.Marks.{after_access, after_fetch, entry_at, reached}
use Rattle.v8_marks.proofs.Handlers.{held_of, user_contained}
use Rattle.v8_marks.specs.Users.{UsersMark, after_reach, reach_of}
use Rattle.v8_marks.proofs.Reaching.{fetched_at, fetched_word, none_reached, ran_reaches, reaches_are}
use Rattle.v8_marks.proofs.Turning.{turns_mark}

module _ (n : ℕ) (g : Pages) (words : List ℕ) (mmu : MmuRegs) (x : World n Device) (k : ℕ) (u : RunsUser n g words mmu x k) (i : ℕ) (less : i < 192) (op : Operation) (asks : AsksFor words k op) where
  abbrev word : ℕ
  word = slice_index words k

  abbrev marks : List ℕ
  marks = code_marked k x.memory.ram

  abbrev fetched : Option ℕ
  fetched = reached i x.cpu.control.pc false (entry_at x.memory.ram i)

  told : entry_at (next board n mmu x).1.memory.ram i ≡ after_access i (next board n mmu x).0.access fetched
  told =
      let ready = user_ready n g words mmu x k u in
      let fetch = user_fetches n g words mmu x k u in
      let turn = (next board n mmu x).0 in
      turns_mark n g (held_of words x.memory.ram) mmu x i (user_contained n g words mmu x k u) less
      ∙ ap (λ w. after_access i turn.access (after_fetch i turn.pc w (entry_at x.memory.ram i))) (fetched_word n mmu x word marks op ready fetch asks)
      ∙ ap (λ p. after_access i turn.access (reached i p false (entry_at x.memory.ram i))) (fetched_at n mmu x word marks op ready fetch asks)

  -- where it ran
  pub ran_marks : (next board n mmu x).0.event ≡ Ran → entry_at (next board n mmu x).1.memory.ram i ≡ after_reach i (reach_of n x.cpu op) fetched
  ran_marks ran =
      told ∙ reaches_are i (reach_of n x.cpu op) (next board n mmu x).0.access fetched
      (ran_reaches n mmu x word marks op (user_ready n g words mmu x k u) (user_fetches n g words mmu x k u) asks ran)

  -- where it is no load or store, also if it traps
  pub plain_marks : reach_of n x.cpu op ≡ None → entry_at (next board n mmu x).1.memory.ram i ≡ fetched
  plain_marks none = told ∙ ap (λ o. after_access i o fetched) (none_reached n mmu x word marks op (user_ready n g words mmu x k u) (user_fetches n g words mmu x k u) asks none)

pub users_mark : UsersMark
users_mark n g words mmu x k u i less op asks ran = ran_marks n g words mmu x k u i less op asks ran
