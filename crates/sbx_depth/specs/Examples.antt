-- Depths of images that are known, and what a chain of calls costs on so many windows, worked out by hand.
use Rattle.std.specs.Prelude.{◌≡◌, ℕ, zero, suc, ◌+◌, ◌-◌, ◌*◌, false, ◌==◌, if◌then◌else◌, List, [], ◌∷◌, None, pos}
use Rattle.sbx_image.specs.Rules.{code_start}
use Rattle.sbx_image.specs.Function.{Function}
use Rattle.sbx_image.specs.Parts.{Parts}
use Rattle.sbx_flat.specs.declared.path.Place.{Place}
use Rattle.sbx_flat.specs.Runs.{AreBytes, FlatRun}
use Rattle.sbx_flat.specs.States.{State}
use Rattle.sbx_flat.specs.Traffic.{traffic}
use Rattle.sbx_rules.specs.Examples.{adding, echo, framed, image_of}
use Rattle.sbx_depth.specs.Law.{Deep}

-- ---- a chain of 40 functions, each of five words, each with a frame of 96 bytes
--     the first: save %sp,-96,%sp; call the next; nop; mov 0,%o0; ta 0
--     38 more: save %sp,-96,%sp; call the next; nop; ret; restore
--     the last: save %sp,-96,%sp; mov 33,%o0; ta 2; ret; restore

abbrev pub calling_words : ℕ → List ℕ → List ℕ
calling_words zero last = last
calling_words (suc n) last = 0x9DE3BFA0 ∷ 0x40000004 ∷ 0x01000000 ∷ 0x81C7E008 ∷ 0x81E80000 ∷ calling_words n last

-- so many callers, from this number on, and the last function
abbrev pub callers : ℕ → ℕ → List Function
callers zero f = framed (code_start + 20 * f) 96 57 ∷ []
callers (suc n) f = framed (code_start + 20 * f) (96 * (n + 2)) (57 + 53 * (n + 1)) ∷ callers n (f + 1)

abbrev pub chain : Parts
chain = image_of
    (0x9DE3BFA0 ∷ 0x40000004 ∷ 0x01000000 ∷ 0x90102000 ∷ 0x91D02000
    ∷ calling_words 38 (0x9DE3BFA0 ∷ 0x90102021 ∷ 0x91D02002 ∷ 0x81C7E008 ∷ 0x81E80000 ∷ []))
    (framed code_start 3840 2102 ∷ callers 38 1)

-- ---- the places of its run: the words by number

abbrev pub word : ℕ → Place
word n = record { pc = code_start + 4 * n; annulled = false; address = None }

-- SAVE, CALL and the slot of so many functions, from this one on
abbrev pub down : ℕ → ℕ → List Place → List Place
down zero f rest = rest
down (suc n) f rest = word (5 * f) ∷ word (5 * f + 1) ∷ word (5 * f + 2) ∷ down n (f + 1) rest

-- `ret` and RESTORE of this function and those that called it, but the first
abbrev pub up : ℕ → List Place → List Place
up zero rest = rest
up (suc f) rest = word (5 * (f + 1) + 3) ∷ word (5 * (f + 1) + 4) ∷ up f rest

abbrev pub chain_path : List Place
chain_path = down 39 0 (word 195 ∷ word 196 ∷ word 197 ∷ word 198 ∷ word 199 ∷ up 38 (word 3 ∷ word 4 ∷ []))

-- ---- depths

abbrev pub one_each : ℕ → ℕ
one_each f = 1

abbrev pub one_less_each : ℕ → ℕ
one_less_each f = 40 - f

-- the same, but for one less in the first function
abbrev pub short_of_one : ℕ → ℕ
short_of_one f = if f == 0 then 39 else 40 - f

-- Depths that hold of an image's calls, and some that don't; and what 40 frames cost.
pub record DepthsAreThese : Type 0 where
  -- a function that calls none: one frame, and nothing is spilled on four windows
  pub a_loop : Deep echo one_each
  pub a_loop_is_quiet : (input : List ℕ) (path : List Place) (s : State) → AreBytes input → FlatRun echo input path s
      → ((traffic echo 4 path).overflows ≡ 0) × ((traffic echo 4 path).underflows ≡ 0)
  -- a leaf has no frame, but counts where it is called
  pub a_leaf : Deep (adding (pos 254) (pos 255) 39) (λ f. 1 - f)
  pub a_leaf_counts : Deep (adding (pos 254) (pos 255) 39) one_each → ⊥
  pub a_chain : Deep chain one_less_each
  pub a_chain_is_deeper : Deep chain short_of_one → ⊥
  -- 40 frames above the first want 42 windows
  pub on_4 : traffic chain 4 chain_path ≡ record { windows = 1; overflows = 38; underflows = 37; turns = 2006 }
  pub on_32 : traffic chain 32 chain_path ≡ record { windows = 1; overflows = 10; underflows = 9; turns = 662 }
  pub on_41 : traffic chain 41 chain_path ≡ record { windows = 1; overflows = 1; underflows = 0; turns = 230 }
  pub on_42 : traffic chain 42 chain_path ≡ record { windows = 2; overflows = 0; underflows = 0; turns = 206 }
