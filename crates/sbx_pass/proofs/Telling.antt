-- The least of the rules that are broken, told group by group.
use Rattle.std.proofs.Common.{◌≡◌, ℕ, suc, ◌-◌, ◌≤◌, Bool, true, false, List, [], ◌∷◌, Option, Some, None, refl, sym, ap, ◌∙◌, subst, arith}
use Rattle.std.specs.Prelude.{slice_get, nat_lt}
use Rattle.std.specs.Option.{option_or}
use Rattle.std.specs.Bool.{then_some}
use Rattle.std.proofs.lemmas.Bool.Decides.{nat_tests}
use Rattle.want.specs.Wants.{refused}
use Rattle.want.specs.declared.Want.{Want}
use Rattle.v8_meaning.specs.declared.operation.Operation.{Operation}
use Rattle.sbx_image.specs.Function.{Function}
use Rattle.sbx_rules.specs.declared.cause.Cause.{Cause}
use Rattle.sbx_rules.specs.declared.cause.Cause.TheVariants.{NotAnInstruction, NotAdmitted, BadShape, BadBranch, BadCall, UndefinedRead, ReservedRegister}
use Rattle.sbx_rules.specs.declared.cause.Cause.TheVariants.{Misaligned, OutOfBounds, ZeroDivisor, TagOverflow, UndeclaredService, UnkeptCells, OutOfFuel}
use Rattle.sbx_rules.specs.declared.cause.Cause.TheVariants.{OutOfStack, RunsPastEnd, UnkeptResults, BadEntry, TooDeep, NoMemory}
use Rattle.sbx_rules.specs.Causes.{number_of}
use Rattle.sbx_rules.specs.Ways.{Visit}
use Rattle.sbx_pass.specs.Firsts.{AreKept, Tells}

or_memory : Option Cause → Cause
or_memory None = NoMemory refused
or_memory (Some cause) = cause

-- a rule by its number
rule_of : ℕ → Cause
rule_of n = or_memory
    (slice_get (NotAnInstruction ∷ NotAdmitted ∷ BadShape ∷ BadBranch ∷ BadCall ∷ UndefinedRead ∷ ReservedRegister ∷ Misaligned ∷ OutOfBounds ∷ ZeroDivisor
    ∷ TagOverflow ∷ UndeclaredService ∷ UnkeptCells ∷ OutOfFuel ∷ OutOfStack ∷ RunsPastEnd ∷ UnkeptResults ∷ BadEntry ∷ NoMemory refused ∷ TooDeep ∷ [])
    (n - 1))

numbered : (cause : Cause) → rule_of (number_of cause) ≡ cause
unfolding rule_of or_memory
numbered NotAnInstruction = refl
numbered NotAdmitted = refl
numbered BadShape = refl
numbered BadBranch = refl
numbered BadCall = refl
numbered UndefinedRead = refl
numbered ReservedRegister = refl
numbered Misaligned = refl
numbered OutOfBounds = refl
numbered ZeroDivisor = refl
numbered TagOverflow = refl
numbered UndeclaredService = refl
numbered UnkeptCells = refl
numbered OutOfFuel = refl
numbered OutOfStack = refl
numbered RunsPastEnd = refl
numbered UnkeptResults = refl
numbered BadEntry = refl
numbered TooDeep = refl
numbered (NoMemory want) = refl

same_rule : (cause other : Cause) → number_of cause ≡ number_of other → cause ≡ other
same_rule cause other e = sym (numbered cause) ∙ ap rule_of e ∙ numbered other

module _ (Broken : Cause → Type 0) where
  -- one rule, where a test decides it
  pub one : (cause : Cause) (test : Bool) (result : Option Cause) → result ≡ then_some test cause
      → (test ≡ true → Broken cause) → (Broken cause → test ≡ true) → Tells Broken (number_of cause) (suc (number_of cause)) result
  one cause true result is to from = subst (Tells Broken (number_of cause) (suc (number_of cause))) (sym is)
      (record { from = omega arith; to = omega arith; broken = to refl; lesser = λ other low high h. absurd (omega arith) })
  one cause false result is to from = subst (Tells Broken (number_of cause) (suc (number_of cause))) (sym is)
      (λ other low high h. let never : false ≡ true = from (subst Broken (same_rule other cause (omega arith)) h) in absurd (cc))

  -- the same, where the test is another one's
  pub by_test : (cause : Cause) (test is : Bool) (result : Option Cause) → result ≡ then_some test cause → test ≡ is
      → (is ≡ true → Broken cause) → (Broken cause → is ≡ true) → Tells Broken (number_of cause) (suc (number_of cause)) result
  by_test cause test is result told same to from = one cause test result told (λ h. to (sym same ∙ h)) (λ h. same ∙ from h)

  kept_both : (low mid high : ℕ) → AreKept Broken low mid → AreKept Broken mid high → AreKept Broken low high
  kept_both low mid high first second cause from to h = sided (nat_lt (number_of cause) mid) refl
    where
      sided : (t : Bool) → nat_lt (number_of cause) mid ≡ t → ⊥
      sided true e = first cause from (grind (arith, nat_tests, e)) h
      sided false e = second cause (grind (arith, nat_tests, e)) to h

  -- a group after a group
  pub both : (low mid high : ℕ) (a b result : Option Cause) → low ≤ mid → mid ≤ high → result ≡ option_or a b
      → Tells Broken low mid a → Tells Broken mid high b → Tells Broken low high result
  both low mid high None None result below above is first second = subst (Tells Broken low high) (sym is) (kept_both low mid high first second)
  both low mid high None (Some cause) result below above is first second = subst (Tells Broken low high) (sym is)
      (let from = second.from in record {
        from = omega arith;
        to = second.to;
        broken = second.broken;
        lesser = kept_both low mid (number_of cause) first second.lesser;
      })
  both low mid high (Some cause) b result below above is first second = subst (Tells Broken low high) (sym is)
      (let to = first.to in record { from = first.from; to = omega arith; broken = first.broken; lesser = first.lesser })

  -- want of memory, which has number 19, breaks no rule
  pub none_at_19 : ((want : Want) → Broken (NoMemory want) → ⊥) → AreKept Broken 19 20
  none_at_19 memory (NoMemory want) from to h = memory want h
  none_at_19 memory _ from to h = absurd (omega arith)

  pub from_19 : ((want : Want) → Broken (NoMemory want) → ⊥) → (result : Option Cause) → Tells Broken 20 21 result → Tells Broken 19 21 result
  from_19 memory result told = both 19 20 21 None result result (omega arith) (omega arith) refl (none_at_19 memory) told

-- what a test of the function, of what the word asks for and of its ways says
pub same_test : (R : Function → Operation → List Visit → Bool) (r : Bool) (f g : Function) (o p : Operation) (vs ws : List Visit) → r ≡ R f o vs → f ≡ g → o ≡ p → ws ≡ vs → r ≡ R g p ws
same_test R r f g o p vs ws e ef eo ev = e ∙ ap (λ x. R x o vs) ef ∙ ap (λ x. R g x vs) eo ∙ ap (λ x. R g p x) (sym ev)
