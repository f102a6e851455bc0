-- What a turn touches is what the image may touch.
use Rattle.std.proofs.Common.{◌≡◌, ℕ, ◌+◌, ◌-◌, ◌*◌, ◌/◌, ◌<◌, ◌≤◌, inl, Bool, true, false, not, List, length, Option, Some, None, Result, Ok, Err, refl, sym, ap, subst, arith}
use Rattle.std.specs.Prelude.{nat_le, if◌then◌else◌}
use Rattle.std.proofs.lemmas.Bool.Decides.{nat_tests}
use Rattle.v8_map.specs.declared.TheConstants.{CODE_START}
use Rattle.v8_core.specs.Table.{meaning}
use Rattle.v8_core.specs.Operations.{operation_of}
use Rattle.v8_core.specs.AccessKind.TheVariants.{Fetch}
use Rattle.v8_core.specs.Stop.{Stop}
use Rattle.v8_core.specs.MmuRegs.{MmuRegs}
use Rattle.v8_core.specs.declared.turn.DataAccess.{DataAccess}
use Rattle.v8_core.specs.declared.turn.Event.{Event}
use Rattle.v8_core.specs.declared.turn.Event.TheVariants.{Annulled}
use Rattle.v8_core.specs.declared.turn.Turn.{Turn}
use Rattle.v8_core.specs.Accesses.{World, is_user, world}
use Rattle.v8_core.specs.Memory.{fetches}
use Rattle.v8_core.specs.Steps.{attempts, ends, executes, goes_on, next, proceeds, tries, turn_of}
use Rattle.v8_loaded.specs.Board.{Device, board}
use Rattle.v8_core.specs.Cpu.{Cpu}
use Rattle.v8_loaded.specs.Turns.{Touches}
use Rattle.v8_board.specs.Start.{at_most, pages_of}
use Rattle.sbx_flat.specs.Parts.{Parts}
use Rattle.sbx_flat.specs.States.{State}
use Rattle.sbx_flat.specs.OwnPages.{is_own_code_page}
use Rattle.sbx_shows.specs.Turns.{IsOwnEvent, IsOwnTurn, ReachesData, StaysBeside, StaysOnWord}

-- the page of a code word
own_page : (parts : Parts) (pc i : ℕ) → pc ≡ CODE_START + 4 * i → i < length parts.words → is_own_code_page parts (pc / 4096) ≡ true
own_page parts pc i at less =
    let low : 0x40 ≤ pc / 4096 = omega arith in
    let high : 4096 * (pc / 4096 - 0x40) < 4 * length parts.words = omega arith in
    grind (arith, nat_tests, low, high)

-- a turn of user code at a code word
pub user_own : (n : ℕ) (parts : Parts) (s : State) (cpu : Cpu n) (event : Event) (word i : ℕ) (access : Option DataAccess) → cpu.control.s ≡ false →
    cpu.control.pc ≡ CODE_START + 4 * i → i < length parts.words →
    IsOwnEvent parts event → (event ≡ Annulled → ⊥) → ReachesData parts access → IsOwnTurn parts s (turn_of n cpu event (Some word) access)
user_own n parts s cpu event word i access user at less own runs reaches =
    let here : StaysBeside parts s true cpu.control.pc access = (own_page parts cpu.control.pc i at less, reaches) in
    record { trap = own; annulled = λ e. absurd (runs e); within = subst (λ b. StaysBeside parts s (not b) cpu.control.pc access) (sym user) here }

-- ---- the turns of a service

-- a page that holds code of at most 65,536 words holds a code word
code_page : (parts : Parts) (page : ℕ) → length parts.words ≤ 65536 → 0x40 ≤ page → page < 0x40 + (pages_of parts).code_count → is_own_code_page parts page ≡ true
unfolding pages_of
code_page parts page few low high =
    let small : nat_le ((length parts.words + 1023) / 1024) 64 ≡ true = grind (arith, nat_tests) in
    let is : at_most 64 ((length parts.words + 1023) / 1024) ≡ (length parts.words + 1023) / 1024 = ap (λ (b : Bool). if b then (length parts.words + 1023) / 1024 else 64) small in
    let less : page < 0x40 + (length parts.words + 1023) / 1024 = omega (arith, is) in
    let within : 4096 * (page - 0x40) < 4 * length parts.words = omega arith in
    grind (arith, nat_tests, low, within)

beside : (parts : Parts) (s : State) (user : Bool) (pc : ℕ) (access : Option DataAccess) → length parts.words ≤ 65536 → Touches (pages_of parts) user pc access → StaysBeside parts s user pc access
beside parts s true pc access few (low, high, none) = (code_page parts (pc / 4096) few low high, subst (ReachesData parts) (sym none) tt)
beside parts s false pc access few (at, device) = (grind (arith, nat_tests, at), inl device)

-- a turn that fetched no word reached nothing
pub on_word : (parts : Parts) (s : State) (word : Option ℕ) (user : Bool) (pc : ℕ) (access : Option DataAccess) → (word ≡ None → access ≡ None) →
    StaysBeside parts s user pc access → StaysOnWord parts s word user pc access
on_word parts s None user pc access none h = none refl
on_word parts s (Some word) user pc access none h = h

pub touching_own : (parts : Parts) (s : State) (turn : Turn) → length parts.words ≤ 65536 → IsOwnEvent parts turn.event → (turn.event ≡ Annulled → ⊥) →
    Touches (pages_of parts) turn.user turn.pc turn.access → (turn.word ≡ None → turn.access ≡ None) → IsOwnTurn parts s turn
touching_own parts s turn few own runs touches none =
    record { trap = own; annulled = λ e. absurd (runs e); within = on_word parts s turn.word turn.user turn.pc turn.access none (beside parts s turn.user turn.pc turn.access few touches) }

-- ---- a turn that fetched no word

module _ (n : ℕ) (mmu : MmuRegs) (x : World n Device) where
  after_word : (word : ℕ) (access : Option DataAccess) (trap : Option ℕ) (mid : World n Device) → (ends board n x (Some word) access trap mid).0.word ≡ None →
      (ends board n x (Some word) access trap mid).0.access ≡ None
  after_word word access None mid none = absurd (cc)
  after_word word access (Some t) mid none = absurd (cc)

  attempted : (f : Result ℕ ℕ) (ram : List ℕ) → (let a = proceeds board n mmu x f ram in (ends board n x a.0 a.1.0.access a.1.0.trap a.1.1).0.word ≡ None) →
      (let a = proceeds board n mmu x f ram in (ends board n x a.0 a.1.0.access a.1.0.trap a.1.1).0.access ≡ None)
  attempted (Ok word) ram none = let e = executes board n mmu (operation_of (meaning word)) (world n x.cpu ram x.memory.device) in after_word word e.0.access e.0.trap e.1 none
  attempted (Err status) ram none = refl

  by_parts : (o : Option Stop) (e : Option ℕ) (a : Bool) → (goes_on board n mmu x o e a).0.word ≡ None → (goes_on board n mmu x o e a).0.access ≡ None
  unfolding tries attempts
  by_parts (Some stop) e a none = refl
  by_parts None (Some t) a none = refl
  by_parts None None true none = refl
  by_parts None None false none = let f = fetches mmu x.cpu.control.pc (record { user = is_user n x.cpu; kind = Fetch }) x.memory.ram in attempted f.0 f.1 none

  pub no_word : (next board n mmu x).0.word ≡ None → (next board n mmu x).0.access ≡ None
  unfolding next
  no_word none = by_parts x.memory.device.stopped x.cpu.control.error x.cpu.control.annul none
