-- Where a run of a checked image stands, as many frames are pushed as it has open calls, and one more in a framed function.
use Rattle.std.proofs.Common.{◌≡◌, ℕ, suc, ◌+◌, ◌≤◌, Bool, true, false, List, [], ◌∷◌, length, refl, ap, arith}
use Rattle.std.specs.Prelude.{◌==◌, ◌&&◌, not, if◌then◌else◌}
use Rattle.sbx_image.specs.Parts.{Parts}
use Rattle.sbx_image.specs.Order.{function_at}
use Rattle.sbx_flat.specs.Registers.{Frame, Registers, Words}
use Rattle.sbx_flat.specs.States.{State}
use Rattle.sbx_rules.specs.Operations.{is_framed}
use Rattle.sbx_rules.specs.Places.{IsPlace}
use Rattle.sbx_rules.specs.Verdicts.{Checked}
use Rattle.sbx_sound.proofs.Goes.{begin_place}
use Rattle.sbx_sound.proofs.Order.{IsOrdered}
use Rattle.sbx_sound.proofs.Running.{AreOpen}
use Rattle.sbx_sound.proofs.Safe.{ShowsSpot, Spot}
use Rattle.sbx_sound.proofs.Shared.{Lent, Open, Own, ShowsCalls, frames_of_callers}
use Rattle.sbx_depth.specs.Law.{Deep}

-- a frame for each open call, and the one that a run starts with
one_each : (calls : List Open) (frames : List Frame) (oldest : Words) → ShowsCalls calls frames oldest → length frames ≡ suc (length calls)
one_each [] [] oldest h = absurd h
one_each [] (f ∷ []) oldest h = refl
one_each [] (f ∷ g ∷ fs) oldest h = absurd h
one_each (c ∷ cs) [] oldest h = absurd h
one_each (c ∷ cs) (f ∷ fs) oldest h = ap suc (one_each cs fs oldest h.1)

module _ (parts : Parts) (depth : ℕ → ℕ) (checked : Checked parts) (ordered : IsOrdered parts) (deep : Deep parts depth) where
  -- each open call is of a function that is deeper by one
  open_depths : (f : ℕ) (calls : List Open) → AreOpen parts f calls → length calls + depth f ≤ depth 0
  open_depths f [] first = let same : depth f ≡ depth 0 = ap depth first in omega (arith, same)
  open_depths f (c ∷ cs) open_calls =
      let call = open_calls.0 in
      let slot = call.slot in
      let place : IsPlace parts c.function c.block c.place = record { function = slot.function; block = slot.block; word = (let s = slot.word in omega (arith, s)) } in
      let here = deep.calls c.function c.block c.place f place call.calls in
      let below = open_depths c.function cs open_calls.1 in
      omega (arith, here, below)

  own_frame : (f : ℕ) (inside : Bool) (size : ℕ) (calls : List Open) (file : Registers) → (inside ≡ true → 1 ≤ depth f)
      → ShowsCalls calls (frames_of_callers (if inside then Own size else Lent) file) file.oldest_ins → AreOpen parts f calls → length file.older ≤ depth 0
  own_frame f true size calls file framed shown open_calls =
      let one = framed refl in
      let frames = one_each calls file.older file.oldest_ins shown in
      let below = open_depths f calls open_calls in
      omega (arith, one, frames, below)
  own_frame f false size calls file framed shown open_calls =
      let frames = one_each calls (file.newest ∷ file.older) file.oldest_ins shown in
      let below = open_depths f calls open_calls in
      omega (arith, frames, below)

  pub within_depth : (w : ℕ) (p : Spot parts w) (s : State) → ShowsSpot parts w p s → length s.registers.older ≤ depth 0
  within_depth w p s shows =
      let function = function_at parts p.f in
      let in_f = p.at.place.function in
      let entry = begin_place parts checked ordered p.f 0 in_f (ordered.entries p.f in_f).0 in
      own_frame p.f (is_framed function.kind && not ((p.b == 0) && (p.i == 0))) function.frame p.k.calls s.registers
      (λ inside. deep.framed p.f entry (first_of_both (is_framed function.kind) (not ((p.b == 0) && (p.i == 0))) inside))
      shows.file.calls_are p.at.calls
    where
      first_of_both : (a b : Bool) → (a && b) ≡ true → a ≡ true
      first_of_both true b e = refl
      first_of_both false b e = absurd (cc)
