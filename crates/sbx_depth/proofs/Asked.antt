-- Depths asked word by word: where no word lacks depth, they hold of the image's calls.
use Rattle.std.proofs.Common.{◌≡◌, ℕ, ◌+◌, ◌≤◌, Bool, true, false, Option, Some, None, subst, arith}
use Rattle.std.specs.Prelude.{◌&&◌, ◌||◌, nat_lt}
use Rattle.std.proofs.lemmas.Bool.Decides.{nat_tests}
use Rattle.sbx_image.specs.Order.{function_at}
use Rattle.sbx_image.specs.Parts.{Parts}
use Rattle.sbx_rules.specs.Operations.{is_framed}
use Rattle.sbx_rules.specs.Places.{IsPlace, callee_at}
use Rattle.sbx_rules.specs.Rules.{is_entry}
use Rattle.sbx_depth.specs.Law.{Deep}

abbrev pub calls_deeper : (ℕ → ℕ) → ℕ → Option ℕ → Bool
calls_deeper depth f None = false
calls_deeper depth f (Some g) = nat_lt (depth f) (depth g + 1)

abbrev pub lacks_frame : Parts → (ℕ → ℕ) → ℕ → ℕ → ℕ → Bool
lacks_frame parts depth f b i = is_entry b i && is_framed (function_at parts f).kind && nat_lt (depth f) 1

-- told at a framed function's entry, and at a CALL
abbrev pub lacks_depth : Parts → (ℕ → ℕ) → ℕ → ℕ → ℕ → Bool
lacks_depth parts depth f b i = lacks_frame parts depth f b i || calls_deeper depth f (callee_at parts f b i)

some_depth : (framed deeper : Bool) (d : ℕ) → framed ≡ true → ((true && framed && nat_lt d 1) || deeper) ≡ false → 1 ≤ d
some_depth framed deeper d e h = grind (arith, nat_tests)

more_depth : (frame : Bool) (d e : ℕ) → (frame || nat_lt d (e + 1)) ≡ false → e + 1 ≤ d
more_depth frame d e h = grind (arith, nat_tests)

pub asked_everywhere : (parts : Parts) (depth : ℕ → ℕ) → ((f b i : ℕ) → IsPlace parts f b i → lacks_depth parts depth f b i ≡ false) → Deep parts depth
asked_everywhere parts depth none = record {
  framed = λ f place framed. some_depth (is_framed (function_at parts f).kind) (calls_deeper depth f (callee_at parts f 0 0)) (depth f) framed (none f 0 0 place);
  calls = λ f b i g place callee.
      more_depth (lacks_frame parts depth f b i) (depth f) (depth g)
      (subst (λ o. (lacks_frame parts depth f b i || calls_deeper depth f o) ≡ false) callee (none f b i place));
}
