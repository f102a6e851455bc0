-- What is known of a state, and two states that agree there.
use Rattle.std.specs.Prelude.{◌≡◌, ℕ, ◌-◌, Bool, true, false, ◌==◌, ◌||◌, nat_lt, if◌then◌else◌, List, [], ◌∷◌, Option}
use Rattle.std.specs.Prelude.{Some, None}
use Rattle.sbx_flat.specs.Registers.{Frame, Registers}
use Rattle.sbx_flat.specs.States.{State}

-- ---- what is known

-- of a frame: its outs and locals by number, and its slots by address
pub record FrameKnown : Type 0 where
  pub words : ℕ → Bool
  pub slots : ℕ → Bool

-- Which words two states have to share: those that are said to be known.
pub record Known : Type 0 where
  pub globals : ℕ → Bool
  pub newest : FrameKnown
  pub older : List FrameKnown
  pub oldest_ins : ℕ → Bool
  pub icc : Bool
  pub y : Bool

abbrev pub in_known : List FrameKnown → (ℕ → Bool) → ℕ → Bool
in_known [] oldest n = oldest n
in_known (caller ∷ older) oldest n = caller.words (n - 16)

-- whether a register is known
abbrev pub knows : Known → ℕ → Bool
knows k n =
    if n == 0 then true
    else if nat_lt n 8 then k.globals n
    else if nat_lt n 24 then k.newest.words n
    else in_known k.older k.oldest_ins n

-- ---- states that agree there

-- Two frames share the words that are known.
pub record AlikeFrame (k : FrameKnown) (f g : Frame) : Type 0 where
  pub outs : (n : ℕ) → k.words n ≡ true → nat_lt n 16 ≡ true → f.outs n ≡ g.outs n
  pub locals : (n : ℕ) → k.words n ≡ true → nat_lt n 16 ≡ false → f.locals n ≡ g.locals n
  pub slots : (a : ℕ) → k.slots a ≡ true → f.slots a ≡ g.slots a

abbrev pub AlikeFrames : List FrameKnown → List Frame → List Frame → Type 0
AlikeFrames [] [] [] = Unit {0}
AlikeFrames (k ∷ ks) (f ∷ fs) (g ∷ gs) = AlikeFrame k f g × AlikeFrames ks fs gs
AlikeFrames _ _ _ = ⊥

-- Two states' registers share the words that are known.
pub record AlikeRegisters (k : Known) (a b : Registers) : Type 0 where
  pub globals : (n : ℕ) → k.globals n ≡ true → a.globals n ≡ b.globals n
  pub newest : AlikeFrame k.newest a.newest b.newest
  pub older : AlikeFrames k.older a.older b.older
  pub oldest_ins : (n : ℕ) → k.oldest_ins n ≡ true → a.oldest_ins n ≡ b.oldest_ins n

-- what two runs of one image over one input always share
pub record SameRest (s t : State) : Type 0 where
  pub pc : s.pc ≡ t.pc
  pub npc : s.npc ≡ t.npc
  pub annulled : s.annulled ≡ t.annulled
  pub memory : (address : ℕ) → s.memory address ≡ t.memory address
  pub input : s.input ≡ t.input
  pub output : s.output ≡ t.output
  pub exit : s.exit ≡ t.exit

-- Two states share what is known, and all that isn't a register, the condition codes or Y.
pub record Alike (k : Known) (s t : State) : Type 0 where
  pub rest : SameRest s t
  pub registers : AlikeRegisters k s.registers t.registers
  pub icc : k.icc ≡ true → s.icc ≡ t.icc
  pub y : k.y ≡ true → s.y ≡ t.y

-- ---- how it changes

abbrev pub also : (ℕ → Bool) → ℕ → ℕ → Bool
also known n m = (m == n) || known m

abbrev pub known_in : ℕ → Known → Known
known_in n k = add k.older
  where
    add : List FrameKnown → Known
    add [] = record k { oldest_ins = also k.oldest_ins n }
    add (caller ∷ older) = record k { older = record caller { words = also caller.words (n - 16) } ∷ older }

-- after both got the same word in this register
unfoldable pub known_written : ℕ → Known → Known
known_written n k =
    if n == 0 then k
    else if nat_lt n 8 then record k { globals = also k.globals n }
    else if nat_lt n 24 then record k { newest = record k.newest { words = also k.newest.words n } }
    else known_in n k

-- of a new frame %sp alone is known
abbrev pub known_pushed : Known → Known
known_pushed k = record k { newest = record { words = λ n. n == 14; slots = λ _. false }; older = k.newest ∷ k.older }

abbrev pub known_popped : Known → Known
known_popped k = drop_newest k.older
  where
    drop_newest : List FrameKnown → Known
    drop_newest [] = k
    drop_newest (caller ∷ older) = record k { newest = caller; older = older }

-- after both got the same word in this slot of the newest frame
abbrev pub known_slot : ℕ → Known → Known
known_slot address k = record k { newest = record k.newest { slots = also k.newest.slots address } }

-- both go back to a caller, or neither
abbrev pub PopsAlike : Known → Option Registers → Option Registers → Type 0
PopsAlike k None None = Unit {0}
PopsAlike k (Some a) (Some b) = AlikeRegisters k a b
PopsAlike k _ _ = ⊥
