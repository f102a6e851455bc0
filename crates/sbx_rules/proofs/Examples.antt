-- The examples, computed: all tests by their values, and the fuel by arithmetic where an edge is paid for.
use Rattle.std.specs.Prelude.{ℕ, zero, suc, ◌≡◌, ◌==◌, ◌&&◌, ◌||◌, Bool, true, false, [], Option, Some, None, pos, ◌≤ℤ◌, nat_lt, if◌then◌else◌}
use Rattle.std.proofs.Common.{arith, ap, inl, inr, refl, sym, ◌∙◌}
use Rattle.std.proofs.lemmas.Bool.Decides.{nat_tests}
use Rattle.std.proofs.lemmas.Int.{ints}
use Rattle.sbx_image.specs.Parts.{Parts}
use Rattle.sbx_image.specs.Order.{function_at}
use Rattle.sbx_image.specs.Range.{Range}
use Rattle.sbx_form.specs.Ranges.{range}
use Rattle.sbx_domain.specs.declared.entry.Entry.{Entry}
use Rattle.sbx_domain.specs.Known.{cell_entry, is_location, range_at, range_of_entry, started}
use Rattle.sbx_rules.specs.declared.cause.Cause.TheVariants.{BadCall, UndefinedRead, ReservedRegister, UnkeptCells, OutOfFuel}
use Rattle.sbx_rules.specs.declared.cause.Cause.TheVariants.{OutOfStack, UnkeptResults, BadEntry, TooDeep}
use Rattle.sbx_rules.specs.Examples.{VerdictsAreThese, adding, adding_of, after_save, echo, no_others, one_other, refusal, stray_stack}
use Rattle.sbx_rules.specs.Operations.{is_framed}
use Rattle.sbx_rules.specs.Places.{callee_at}
use Rattle.sbx_rules.specs.Rules.{Holds, calls_deeper, is_entry}
use Rattle.sbx_rules.specs.Verdicts.{Checked, IsFirst}
use Rattle.sbx_rules.proofs.Computed.{computed}
use Rattle.sbx_rules.proofs.Everywhere.{ArePaid, checked_everywhere, checked_where, refused_first}
use Rattle.sbx_rules.proofs.Quiet.{quiet_below}

-- ---- images that are checked

-- the words of the loop that other blocks come behind
abbrev pub echo_pays : ℕ → ℕ → ℕ → Bool
echo_pays zero zero (suc zero) = true
echo_pays zero (suc zero) (suc (suc (suc zero))) = true
echo_pays zero (suc (suc zero)) (suc (suc (suc zero))) = true
echo_pays _ _ _ = false

-- what is known of its counter pays for a round
echo_is_paid : ArePaid echo echo_pays
unfolding computed
echo_is_paid zero zero (suc zero) e = (λ start others s o. omega (arith, ints), tt)
echo_is_paid zero (suc zero) (suc (suc (suc zero))) e = (
  λ start others s o. let c0 = s 16 (range (pos 1) (pos 1000) 0) refl in omega (arith, ints),
  (λ start others s o. let c0 = s 16 (range (pos 1) (pos 1000) 0) refl in omega (arith, ints), tt),
)
echo_is_paid zero (suc (suc zero)) (suc (suc (suc zero))) e = (
  λ start others s o. let c0 = s 16 (range (pos 1) (pos 1000) 0) refl in omega (arith, ints),
  (λ start others s o. let c0 = s 16 (range (pos 1) (pos 1000) 0) refl in omega (arith, ints), tt),
)
echo_is_paid _ _ _ e = absurd (cc)

pub echo_is_checked : Checked echo
unfolding quiet_below computed
echo_is_checked = checked_where echo echo_pays echo_is_paid refl

-- the call
pub adding_is_checked : Checked (adding (pos 254) (pos 255) 39)
unfolding quiet_below computed
adding_is_checked = checked_everywhere (adding (pos 254) (pos 255) 39) refl

with_depth : Checked (adding_of 1 0)
unfolding quiet_below computed
with_depth = checked_everywhere (adding_of 1 0) refl

-- ---- refusals

if_none : (t : Bool) (e : Option Entry) → e ≡ None → (if t then e else None) ≡ None
if_none true e h = h
if_none false e h = refl

nothing_at : (l : ℕ) → (started []).entry l ≡ None
unfolding started cell_entry
nothing_at l = if_none (is_location l) None refl

-- a block without cells begins with nothing
nothing_begun : (l : ℕ) (r : Range) → range_at (started []) l ≡ Some r → ⊥
nothing_begun l r e = let n : range_at (started []) l ≡ None = ap range_of_entry (nothing_at l) in no_range r (sym n ∙ e)
  where
    no_range : (r : Range) → None ≡ Some r → ⊥
    no_range r e = cc

short_of_fuel : IsFirst (adding (pos 254) (pos 255) 38) (refusal 0 0x40018 OutOfFuel)
unfolding quiet_below computed
short_of_fuel =
    refused_first (adding (pos 254) (pos 255) 38) (refusal 0 0x40018 OutOfFuel) 0 6 (record { function = omega arith; block = omega arith; word = omega arith }) refl
    (inr (inl (refl, λ enough. let c : pos 39 ≤ℤ pos 38 = enough (λ _. pos 0) (λ l r e. absurd (nothing_begun l r e)) in omega (arith, ints)))) refl

param_unkept : IsFirst (adding (pos 31) (pos 255) 39) (refusal 0 0x4000C UnkeptCells)
unfolding quiet_below computed
param_unkept =
    refused_first (adding (pos 31) (pos 255) 39) (refusal 0 0x4000C UnkeptCells) 0 3 (record { function = omega arith; block = omega arith; word = omega arith }) refl
    (inr (inl refl)) refl

result_unkept : IsFirst (adding (pos 254) (pos 254) 39) (refusal 1 0x40020 UnkeptResults)
unfolding quiet_below computed
result_unkept =
    refused_first (adding (pos 254) (pos 254) 39) (refusal 1 0x40020 UnkeptResults) 0 1 (record { function = omega arith; block = omega arith; word = omega arith }) refl
    refl refl

stack_pointer : IsFirst stray_stack (refusal 0 0x40000 ReservedRegister)
unfolding quiet_below computed
stack_pointer =
    refused_first stray_stack (refusal 0 0x40000 ReservedRegister) 0 0 (record { function = omega arith; block = omega arith; word = omega arith }) refl
    refl refl

fresh_word : IsFirst (after_save 0xD003A040 0x01000000 96 no_others) (refusal 0 0x40004 UndefinedRead)
unfolding quiet_below computed
fresh_word =
    refused_first (after_save 0xD003A040 0x01000000 96 no_others) (refusal 0 0x40004 UndefinedRead) 0 1 (record { function = omega arith; block = omega arith; word = omega arith }) refl
    refl refl

call_of_itself : IsFirst (after_save 0x7FFFFFFF 0x01000000 96 no_others) (refusal 0 0x40004 BadCall)
unfolding quiet_below computed
call_of_itself =
    refused_first (after_save 0x7FFFFFFF 0x01000000 96 no_others) (refusal 0 0x40004 BadCall) 0 1 (record { function = omega arith; block = omega arith; word = omega arith }) refl
    refl refl

entry_returns : IsFirst (after_save 0x81C7E008 0x81E80000 96 no_others) (refusal 0 0x40004 BadEntry)
unfolding quiet_below computed
entry_returns =
    refused_first (after_save 0x81C7E008 0x81E80000 96 no_others) (refusal 0 0x40004 BadEntry) 0 1 (record { function = omega arith; block = omega arith; word = omega arith }) refl
    refl refl

short_of_stack : IsFirst (after_save 0x40000002 0x01000000 188 one_other) (refusal 0 0x40004 OutOfStack)
unfolding quiet_below computed
short_of_stack =
    refused_first (after_save 0x40000002 0x01000000 188 one_other) (refusal 0 0x40004 OutOfStack) 0 1 (record { function = omega arith; block = omega arith; word = omega arith }) refl
    refl refl

without_depth : IsFirst (adding_of 0 0) (refusal 0 0x40000 TooDeep)
unfolding quiet_below computed
without_depth =
    refused_first (adding_of 0 0) (refusal 0 0x40000 TooDeep) 0 0 (record { function = omega arith; block = omega arith; word = omega arith }) refl
    refl refl

leaf_too_deep : IsFirst (adding_of 1 1) (refusal 0 0x40008 TooDeep)
unfolding quiet_below computed
leaf_too_deep =
    refused_first (adding_of 1 1) (refusal 0 0x40008 TooDeep) 0 2 (record { function = omega arith; block = omega arith; word = omega arith }) refl
    refl refl

-- ---- what no other version asks

asks_none : (version : ℕ) (lacks : Bool) → (version ≡ 3 → ⊥) → (version == 3 && lacks) ≡ true → ⊥
asks_none version lacks other h = other (grind (arith, nat_tests))

no_other_version : (parts : Parts) (f b i : ℕ) → (parts.version ≡ 3 → ⊥) → Holds parts f b i TooDeep → ⊥
no_other_version parts f b i other h =
    asks_none parts.version ((is_entry b i && is_framed (function_at parts f).kind && nat_lt (function_at parts f).depth 1) || calls_deeper parts f b i (callee_at parts f b i)) other h

pub verdicts_are_these : VerdictsAreThese
verdicts_are_these = record {
  echo_is_checked = echo_is_checked;
  adding_is_checked = adding_is_checked;
  short_of_fuel = short_of_fuel;
  param_unkept = param_unkept;
  result_unkept = result_unkept;
  stack_pointer = stack_pointer;
  fresh_word = fresh_word;
  call_of_itself = call_of_itself;
  entry_returns = entry_returns;
  short_of_stack = short_of_stack;
  without_depth = without_depth;
  with_depth = with_depth;
  leaf_too_deep = leaf_too_deep;
  no_other_version = no_other_version;
}
