-- The depths that a checked image of version 3 declares: the rule asks them at each of its words.
use Rattle.std.proofs.Common.{◌≡◌, ℕ, Bool, true, false, Option, Some, None, refl, ap, ◌∙◌, arith}
use Rattle.std.specs.Prelude.{◌==◌, ◌&&◌, ◌||◌}
use Rattle.std.proofs.lemmas.Bool.Decides.{nat_tests}
use Rattle.sbx_image.specs.Order.{address_of}
use Rattle.sbx_image.specs.Parts.{Parts}
use Rattle.sbx_rules.specs.declared.cause.Cause.TheVariants.{TooDeep}
use Rattle.sbx_rules.specs.Places.{callee_at}
use Rattle.sbx_rules.specs.Rules.{Holds}
use Rattle.sbx_rules.specs.Rules as rules
use Rattle.sbx_depth.specs.Law.{DeclaredDepthIsEnough, DeclaredDepthsHold, declared}
use Rattle.sbx_depth.proofs.Asked.{asked_everywhere, calls_deeper, lacks_depth, lacks_frame}
use Rattle.sbx_depth.proofs.Quiet.{depth_bounds_answers}

same_callee : (parts : Parts) (f b i : ℕ) (callee : Option ℕ) → rules.calls_deeper parts f b i callee ≡ calls_deeper (declared parts) f callee
same_callee parts f b i None = refl
same_callee parts f b i (Some g) = refl

is_asked : (version : ℕ) (lacks : Bool) → version ≡ 3 → lacks ≡ true → (version == 3 && lacks) ≡ true
is_asked version lacks v h = grind (arith, nat_tests)

never : (x : Bool) → (x ≡ true → ⊥) → x ≡ false
never true h = absurd (h refl)
never false h = refl

none_lacks : (parts : Parts) (f b i : ℕ) → parts.version ≡ 3 → (Holds parts f b i TooDeep → ⊥) → lacks_depth parts (declared parts) f b i ≡ false
none_lacks parts f b i version none =
    never (lacks_depth parts (declared parts) f b i)
    (λ h. none (is_asked parts.version _ version (ap (λ x. lacks_frame parts (declared parts) f b i || x) (same_callee parts f b i (callee_at parts f b i)) ∙ h)))

pub declared_depths_hold : DeclaredDepthsHold
declared_depths_hold parts checked version =
    asked_everywhere parts (declared parts)
    (λ f b i place. none_lacks parts f b i version (λ h. checked f (address_of parts f b i) TooDeep (record { block = b; word = i; place = place; lies = refl; holds = h })))

pub declared_depth_is_enough : DeclaredDepthIsEnough
declared_depth_is_enough parts formed checked version n enough input output status path bytes behaves =
    depth_bounds_answers parts (declared parts) formed checked (declared_depths_hold parts checked version) n enough input output status path bytes behaves
