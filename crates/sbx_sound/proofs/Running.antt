-- The invariant of a run of a checked image: where it stands, what fits there, who called, and what fuel is left.
use Rattle.std.specs.Prelude.{◌≡◌, ℕ, suc, ◌+◌, ◌-◌, ◌*◌, ◌%◌, ◌^◌, ◌<◌, ◌≤◌, ◌&&◌, ◌||◌, not, Bool, true, false, ◌==◌, nat_le, if◌then◌else◌, List, [], ◌∷◌}
use Rattle.std.specs.Prelude.{Option, Some, None, ℤ, pos, ◌+ℤ◌, ◌≤ℤ◌, slice_get}
use Rattle.v8_meaning.specs.Operands.{following}
use Rattle.sbx_image.specs.Function.{Function}
use Rattle.sbx_image.specs.Parts.{Parts}
use Rattle.sbx_flat.specs.Runs.{budget}
use Rattle.sbx_rules.specs.Fuel.{InCells}
use Rattle.sbx_rules.specs.Operations.{is_call, is_return, is_framed}
use Rattle.sbx_rules.specs.Fits.{Fits, HasAlignment, HasForm, HasInterval}
use Rattle.sbx_rules.specs.Known.{Known, form_at, range_at}
use Rattle.sbx_rules.specs.Rules.{is_defined, is_some}
use Rattle.sbx_rules.specs.Ways.{Next, To, Visit, Way, falls, state_at, visits_at}
use Rattle.sbx_image.specs.Order.{address_of, function_at}
use Rattle.sbx_rules.specs.Places.{IsPlace, callee_at, callee_before, op_before}
use Rattle.sbx_form.specs.Forms.{Cells}
use Rattle.sbx_sound.specs.Positive.{left_at}
use Rattle.sbx_sound.proofs.Shared.{AreStored, KnownParts, Lent, Open, Own, Shared, Window, base_below}

-- what a function has in its window: before its SAVE, and in a leaf, its caller's
abbrev pub window_of : Function → ℕ → ℕ → Window
window_of function b i = if is_framed function.kind && not ((b == 0) && (i == 0)) then Own function.frame else Lent

-- the base that goes with it
abbrev pub bytes_of : Function → ℕ → ℕ → ℕ
bytes_of function b i = if is_framed function.kind && not ((b == 0) && (i == 0)) then function.frame else 0

-- the least address that a frame may have
abbrev pub stack_bottom : Parts → ℕ
stack_bottom parts = 0x100000 - 4096 * parts.stack_pages

module _ (parts : Parts) where
  -- what is known where a caller goes on, and the fuel that is left to it: after the CALL and its slot
  abbrev pub known_after : Open → Known
  known_after c = state_at parts c.function c.block (suc (suc c.place))

  abbrev pub left_to : Open → ℤ
  left_to c = left_at parts c.function c.block (suc (suc c.place)) c.start

  abbrev pub left_to_all : List Open → ℤ
  left_to_all [] = pos 0
  left_to_all (c ∷ cs) = left_to c +ℤ left_to_all cs

  -- An open call of function f, with the calls below it.
  pub record IsOpen (f : ℕ) (c : Open) (cs : List Open) : Type 0 where
    pub calls : callee_at parts c.function c.block c.place ≡ Some f
    pub slot : IsPlace parts c.function c.block (suc c.place)
    pub framed : is_framed (function_at parts c.function).kind ≡ true
    pub is_frame : c.frame ≡ (function_at parts c.function).frame
    pub back : c.back ≡ address_of parts c.function c.block c.place
    -- the frames of the stack
    pub base : c.base + c.frame ≡ base_below cs
    pub eight : c.base % 8 ≡ 0
    pub room : stack_bottom parts + (function_at parts c.function).stack_room ≤ base_below cs
    -- what it keeps, and what is known of it
    pub begun : InCells (state_at parts c.function c.block 0) c.start
    pub are_words : (l : ℕ) → c.words l < 2 ^ 32
    pub is_known : (l : ℕ) → nat_le 16 l ≡ true → c.known l ≡ is_defined (known_after c) l
    pub ranges : (l : ℕ) → nat_le 16 l ≡ true → HasInterval (range_at (known_after c) l) (c.words l)
    pub multiples : (l : ℕ) → nat_le 16 l ≡ true → HasAlignment (range_at (known_after c) l) (c.words l)
    pub forms : (l : ℕ) → nat_le 16 l ≡ true → HasForm c.start (form_at (known_after c) l) (c.words l)
    -- it could go on
    pub left : pos 0 ≤ℤ left_to c

  -- All open calls, the newest first; the first of all is function 0.
  abbrev pub AreOpen : ℕ → List Open → Type 0
  AreOpen f [] = f ≡ 0
  AreOpen f (c ∷ cs) = IsOpen f c cs × AreOpen c.function cs

  abbrev pub entry_of : Option ℕ → ℕ
  entry_of None = 0
  entry_of (Some g) = (function_at parts g).entry

  -- the address after a caller's slot
  abbrev pub back_of : List Open → ℕ
  back_of [] = 0
  back_of (c ∷ cs) = (c.back + 8) % 2 ^ 32

  -- an address is where a way from word i leads
  abbrev pub Follows : ℕ → ℕ → ℕ → Way → ℕ → Type 0
  Follows f b i Next address = address ≡ address_of parts f b (suc i)
  Follows f b i (To t) address = address ≡ address_of parts f t 0
  Follows f b i _ address = Unit {0}

  -- a word is there, and its way on leads to the address after it
  pub record IsThere (f b i : ℕ) : Type 0 where
    pub place : IsPlace parts f b i
    pub follows : Follows f b i (falls parts f b i) (following (address_of parts f b i))

  -- where control goes after this word: a CALL before it goes to the callee, a return to the caller
  abbrev pub GoesTo : Bool → Bool → ℕ → ℕ → ℕ → Way → List Open → ℕ → Type 0
  GoesTo true returns f b i way calls address = address ≡ entry_of (callee_before parts f b i)
  GoesTo false true f b i way calls address = address ≡ back_of calls
  GoesTo false false f b i way calls address = Follows f b i way address

  -- which parts are known: %o7 too, in the slot of a call
  abbrev pub tests : Known → Bool → KnownParts
  tests d linked = record {
    location = λ l. not (l == 0) && (is_defined d l || ((l == 15) && linked));
    codes = d.icc;
    y = is_some d.y;
  }

  -- a visit without a branch or a return before it
  abbrev pub straight_visit : ℕ → ℕ → ℕ → Visit
  straight_visit f b i = record { known = state_at parts f b i; way = falls parts f b i; annulled = false }

  abbrev pub IsVisit : ℕ → ℕ → ℕ → Visit → Type 0
  IsVisit f b i v = (n : ℕ) × (slice_get (visits_at parts f b i) n ≡ Some v)

  -- Before word i of block b of function f, in a visit v.
  pub record At (w : ℕ) (k : Shared) (f b i : ℕ) (v : Visit) (start : Cells) : Type 0 where
    pub place : IsPlace parts f b i
    pub is_visit : IsVisit f b i v
    pub pc : k.pc ≡ address_of parts f b i
    pub npc : GoesTo (is_call (op_before parts f b i)) (is_return (op_before parts f b i)) f b i v.way k.calls k.npc
    pub annulled : k.annulled ≡ v.annulled
    pub exit : k.exit ≡ None
    pub begun : InCells (state_at parts f b 0) start
    pub fits : Fits start v.known k.words k.icc k.y
    -- in the slot of a call, %o7 holds the address of the CALL
    pub link : is_call (op_before parts f b i) ≡ true → k.words 15 + 4 ≡ k.pc
    pub calls : AreOpen f k.calls
    pub base : k.base + bytes_of (function_at parts f) b i ≡ base_below k.calls
    pub eight : k.base % 8 ≡ 0
    pub room : stack_bottom parts + (function_at parts f).stack_room ≤ base_below k.calls
    pub stored : AreStored parts.regions k.memory k.input
    -- the ledger: what was used, what is left here, and what is left to each caller
    pub ledger : (pos w +ℤ (left_at parts f b i start +ℤ left_to_all k.calls)) ≤ℤ pos (budget parts)

  -- Right after word i, with d known, on this way: a call before it has come back.
  pub record After (w : ℕ) (k : Shared) (f b i : ℕ) (d : Known) (way : Way) (start : Cells) : Type 0 where
    pub pc : Follows f b i way k.pc
    pub npc : k.npc ≡ following k.pc
    pub annulled : k.annulled ≡ false
    pub exit : k.exit ≡ None
    pub begun : InCells (state_at parts f b 0) start
    pub fits : Fits start d k.words k.icc k.y
    pub calls : AreOpen f k.calls
    pub base : k.base + bytes_of (function_at parts f) b (suc i) ≡ base_below k.calls
    pub eight : k.base % 8 ≡ 0
    pub room : stack_bottom parts + (function_at parts f).stack_room ≤ base_below k.calls
    pub stored : AreStored parts.regions k.memory k.input
    pub ledger : (pos w +ℤ (left_at parts f b (suc i) start +ℤ left_to_all k.calls)) ≤ℤ pos (budget parts)
