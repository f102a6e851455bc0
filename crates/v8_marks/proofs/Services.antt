-- A call of a service marks the page of the call; its vector marks system pages alone.
use Rattle.std.proofs.Common.{◌≡◌, ℕ, ◌+◌, ◌*◌, ◌<◌, inl, Bool, true, false, List, ap, ◌∙◌, arith}
use Rattle.v8_core.specs.MmuRegs.{MmuRegs}
use Rattle.v8_core.specs.Accesses.{World}
use Rattle.v8_loaded.specs.Layout.{Pages, AreFew, IsLoaded}
use Rattle.v8_loaded.specs.AddressMap.{mapped}
use Rattle.v8_loaded.specs.Board.{Device, board}
use Rattle.v8_loaded.specs.Places.{code_entry_place, code_marked, device_marked, table_marked}
use Rattle.v8_loaded.specs.Turns.{world_after}
use Rattle.v8_loaded.specs.Users.{RunsUser}
use Rattle.v8_loaded.proofs.Fetches.{code_entry_word, device_kept, device_page, table_kept, table_page}
use Rattle.v8_loaded.proofs.Marks.{kept_elsewhere}
use Rattle.v8_loaded.proofs.Users.{user_kept, user_page}
use Rattle.v8_routines.specs.Services.{Calls, MayReturn, vector_marked}
use Rattle.v8_routines.proofs.Served.{exit_law, get_law, put_law}
use Rattle.v8_marks.specs.Marks.{entry_at, reached}
use Rattle.v8_marks.specs.Users.{ServicesMark}
use Rattle.v8_marks.proofs.Placing.{mark_reaches}

table_beside : (n : ℕ) (g : Pages) (words ram : List ℕ) (i : ℕ) → i < 192 → AreFew g → IsLoaded n g words ram → entry_at (table_marked ram) i ≡ entry_at ram i
table_beside n g words ram i less few loaded = kept_elsewhere ram 0x2D00 0x1A false (table_page n g words ram few loaded) (0x2A00 + 4 * i) (inl (omega arith))

device_beside : (n : ℕ) (g : Pages) (words ram : List ℕ) (store : Bool) (i : ℕ) → i < 192 → AreFew g → IsLoaded n g words ram → entry_at (device_marked store ram) i ≡ entry_at ram i
device_beside n g words ram store i less few loaded = kept_elsewhere ram 0x2D40 0x1000001E store (device_page n g words ram few loaded) (0x2A00 + 4 * i) (inl (omega arith))

module _ (n : ℕ) (g : Pages) (words : List ℕ) (mmu : MmuRegs) (x : World n Device) (k : ℕ) (u : RunsUser n g words mmu x k) (i : ℕ) (less : i < 192) where
  abbrev ram1 : List ℕ
  ram1 = code_marked k x.memory.ram

  code_reached : entry_at ram1 i ≡ reached i x.cpu.control.pc false (entry_at x.memory.ram i)
  code_reached =
      let at = u.place in
      let within = u.within in
      let few = u.few.code in
      mark_reaches x.memory.ram x.cpu.control.pc i (code_entry_word k) (mapped 0x50000 4 (code_entry_place k)) false less
      (record { there = λ j small is. omega arith; back = λ j small is. omega arith; high = λ user may. omega arith }) (user_page n g words mmu x k u)

  loaded1 : IsLoaded n g words ram1
  loaded1 = user_kept n g words mmu x k u

  loaded2 : IsLoaded n g words (table_marked ram1)
  loaded2 = table_kept n g words ram1 u.few loaded1

  loaded3 : IsLoaded n g words (table_marked (table_marked ram1))
  loaded3 = table_kept n g words (table_marked ram1) u.few loaded2

  loaded4 : (store : Bool) → IsLoaded n g words (vector_marked k store x.memory.ram)
  loaded4 store = device_kept n g words (table_marked (table_marked ram1)) u.few loaded3 store

  vector_reached : (store : Bool) → entry_at (vector_marked k store x.memory.ram) i ≡ reached i x.cpu.control.pc false (entry_at x.memory.ram i)
  vector_reached store =
      device_beside n g words (table_marked (table_marked ram1)) store i less u.few loaded3
      ∙ table_beside n g words (table_marked ram1) i less u.few loaded2 ∙ table_beside n g words ram1 i less u.few loaded1 ∙ code_reached

  back_reached : (store : Bool) → entry_at (table_marked (table_marked (vector_marked k store x.memory.ram))) i ≡ reached i x.cpu.control.pc false (entry_at x.memory.ram i)
  back_reached store =
      let ram = vector_marked k store x.memory.ram in
      table_beside n g words (table_marked ram) i less u.few (table_kept n g words ram u.few (loaded4 store)) ∙ table_beside n g words ram i less u.few (loaded4 store) ∙ vector_reached store

  pub exit_marks : Calls words k 0 → entry_at (world_after board n mmu 3 x).memory.ram i ≡ reached i x.cpu.control.pc false (entry_at x.memory.ram i)
  exit_marks is = ap (λ (w : World n Device). entry_at w.memory.ram i) (exit_law n g words mmu x k u is).is ∙ vector_reached true

  pub get_marks : MayReturn n x → Calls words k 1 → entry_at (world_after board n mmu 5 x).memory.ram i ≡ reached i x.cpu.control.pc false (entry_at x.memory.ram i)
  get_marks may is = ap (λ (w : World n Device). entry_at w.memory.ram i) (get_law n g words mmu x k u may is).is ∙ back_reached false

  pub put_marks : MayReturn n x → Calls words k 2 → entry_at (world_after board n mmu 5 x).memory.ram i ≡ reached i x.cpu.control.pc false (entry_at x.memory.ram i)
  put_marks may is = ap (λ (w : World n Device). entry_at w.memory.ram i) (put_law n g words mmu x k u may is).is ∙ back_reached true

pub services_mark : ServicesMark
services_mark n g words mmu x k u =
    (λ is i less. exit_marks n g words mmu x k u i less is, λ may is i less. get_marks n g words mmu x k u i less may is, λ may is i less. put_marks n g words mmu x k u i less may is)
