-- Words that break no rule: all rules but that of fuel are tests, and a test computes.
use Rattle.std.specs.Prelude.{ℕ, zero, suc, ◌≡◌, ◌<◌, ◌≤◌, ◌⊎◌, ◌==◌, ◌&&◌, ◌||◌, not, Bool, true, false, IsTrue, List, [], ◌∷◌, Some}
use Rattle.std.specs.Prelude.{slice_get, bit_and, length, nat_lt}
use Rattle.std.specs.List.{list_all, list_any}
use Rattle.std.proofs.Common.{arith, inl, inr, refl, subst}
use Rattle.std.proofs.lemmas.Bool.Decides.{nat_tests}
use Rattle.v8_formats.specs.Table.{IsCanonical, lookup_unused, meaning, table}
use Rattle.v8_meaning.specs.Admitted.{is_admitted}
use Rattle.sbx_image.specs.Parts.{Parts}
use Rattle.want.specs.Wants.{refused}
use Rattle.sbx_rules.specs.declared.cause.Cause.{Cause}
use Rattle.sbx_rules.specs.declared.cause.Cause.TheVariants.{NotAnInstruction, NotAdmitted, BadShape, BadBranch, BadCall, UndefinedRead, ReservedRegister}
use Rattle.sbx_rules.specs.declared.cause.Cause.TheVariants.{Misaligned, OutOfBounds, ZeroDivisor, TagOverflow, UndeclaredService, UnkeptCells, OutOfFuel}
use Rattle.sbx_rules.specs.declared.cause.Cause.TheVariants.{OutOfStack, RunsPastEnd, UnkeptResults, BadEntry, TooDeep, NoMemory}
use Rattle.sbx_rules.specs.declared.cause.Refusal.{Refusal}
use Rattle.sbx_rules.specs.Causes.{number_of}
use Rattle.sbx_rules.specs.Fuel.{IsEnough, IsPaid, IsWithinBudget}
use Rattle.sbx_rules.specs.Operations.{access_of, is_call, is_return}
use Rattle.sbx_rules.specs.Verdicts.{Checked, IsFirst}
use Rattle.sbx_image.specs.Order.{address_of, block_at, function_at}
use Rattle.sbx_rules.specs.Places.{IsPlace, callee_at, op_at, service_asked, word_of_place}
use Rattle.sbx_rules.specs.Rules.{Holds, LacksFuel, branches_badly, ends_here, first, fuel, has_bad_shape, has_outs, is_aligned_access, is_back, is_declared}
use Rattle.sbx_rules.specs.Rules.{is_entry, is_later, is_past, is_placed_access, is_undefined, lacks_depth, lacks_room, leaves_to, lists_badly}
use Rattle.sbx_rules.specs.Rules.{may_divide_by_zero, may_overflow, misses_cells, misses_params, names_strange, now, reads_undefined, runs_with}
use Rattle.sbx_rules.specs.Rules.{touches_reserved, weight}
use Rattle.sbx_rules.specs.Ways.{To, Visit, Way, fuel_at, visits_at}

-- ---- tests

-- what a test denies
refute : (x : Bool) → x ≡ false → IsTrue x → ⊥
refute x e h = cc

is_zero : (n : ℕ) → not (n == 0) ≡ false → n ≡ 0
is_zero n e = grind (arith, nat_tests)

undefined_or : (a : Bool) (n : ℕ) → (a || not (n == 0)) ≡ false → (IsTrue a ⊎ (n ≡ 0 → ⊥)) → ⊥
undefined_or true n e h = cc
undefined_or false n e (inl h) = cc
undefined_or false n e (inr h) = h (is_zero n e)

one_of : (x y z : Bool) → (x || (y || z)) ≡ false → (IsTrue x ⊎ (IsTrue y ⊎ IsTrue z)) → ⊥
one_of true y z e h = cc
one_of false true z e h = cc
one_of false false true e h = cc
one_of false false false e (inl h) = cc
one_of false false false e (inr (inl h)) = cc
one_of false false false e (inr (inr h)) = cc

causes : List Cause
causes = NotAnInstruction ∷ NotAdmitted ∷ BadShape ∷ BadBranch ∷ BadCall ∷ UndefinedRead ∷ ReservedRegister ∷ Misaligned ∷ OutOfBounds ∷ ZeroDivisor
    ∷ TagOverflow ∷ UndeclaredService ∷ UnkeptCells ∷ OutOfFuel ∷ OutOfStack ∷ RunsPastEnd ∷ UnkeptResults ∷ BadEntry ∷ NoMemory refused ∷ TooDeep ∷ []

pub and_left : (x y : Bool) → (x && y) ≡ true → x ≡ true
and_left true y h = refl
and_left false y h = h

pub and_right : (x y : Bool) → (x && y) ≡ true → y ≡ true
and_right true y h = h
and_right false y h = absurd (cc)

same_cause : (x c : Cause) → Some x ≡ Some c → x ≡ c
same_cause x c e = cc

one_all : (t : Cause → Bool) (cs : List Cause) (n : ℕ) (c : Cause) → list_all t cs ≡ true → slice_get cs n ≡ Some c → t c ≡ true
one_all t [] n c h e = absurd (cc)
one_all t (x ∷ cs) zero c h e = subst (λ y. t y ≡ true) (same_cause x c e) (and_left (t x) (list_all t cs) h)
one_all t (x ∷ cs) (suc n) c h e = one_all t cs n c (and_right (t x) (list_all t cs) h) e

every : (t : Cause → Bool) → list_all t causes ≡ true → (c : Cause) → t c ≡ true
unfolding causes
every t h NotAnInstruction = one_all t causes 0 NotAnInstruction h refl
every t h NotAdmitted = one_all t causes 1 NotAdmitted h refl
every t h BadShape = one_all t causes 2 BadShape h refl
every t h BadBranch = one_all t causes 3 BadBranch h refl
every t h BadCall = one_all t causes 4 BadCall h refl
every t h UndefinedRead = one_all t causes 5 UndefinedRead h refl
every t h ReservedRegister = one_all t causes 6 ReservedRegister h refl
every t h Misaligned = one_all t causes 7 Misaligned h refl
every t h OutOfBounds = one_all t causes 8 OutOfBounds h refl
every t h ZeroDivisor = one_all t causes 9 ZeroDivisor h refl
every t h TagOverflow = one_all t causes 10 TagOverflow h refl
every t h UndeclaredService = one_all t causes 11 UndeclaredService h refl
every t h UnkeptCells = one_all t causes 12 UnkeptCells h refl
every t h OutOfFuel = one_all t causes 13 OutOfFuel h refl
every t h OutOfStack = one_all t causes 14 OutOfStack h refl
every t h RunsPastEnd = one_all t causes 15 RunsPastEnd h refl
every t h UnkeptResults = one_all t causes 16 UnkeptResults h refl
every t h BadEntry = one_all t causes 17 BadEntry h refl
every t h (NoMemory want) = one_all t causes 18 (NoMemory want) h refl
every t h TooDeep = one_all t causes 19 TooDeep h refl

below_is_tested : (n m : ℕ) (x : Bool) → n < m → not (nat_lt n m && x) ≡ true → x ≡ false
below_is_tested n m x less e = grind (arith, nat_tests)

-- ---- fuel

-- a property of each edge among the ways of a word
abbrev pub EdgeOf : (Visit → ℕ → Type 0) → Visit → Way → Type 0
EdgeOf P v (To t) = P v t
EdgeOf P v _ = Unit {0}

abbrev pub AllEdges : (Visit → ℕ → Type 0) → List Visit → Type 0
AllEdges P [] = Unit {0}
AllEdges P (v ∷ vs) = EdgeOf P v v.way × AllEdges P vs

same_visit : (x v : Visit) → Some x ≡ Some v → x ≡ v
same_visit x v e = cc

one_edge : (P : Visit → ℕ → Type 0) (vs : List Visit) (n : ℕ) (v : Visit) (t : ℕ) → AllEdges P vs → slice_get vs n ≡ Some v → v.way ≡ To t → P v t
one_edge P [] n v t h e to = absurd (cc)
one_edge P (x ∷ vs) zero v t h e to = subst (EdgeOf P v) to (subst (λ y. EdgeOf P y y.way) (same_visit x v e) h.0)
one_edge P (x ∷ vs) (suc n) v t h e to = one_edge P vs n v t h.1 e to

module _ (parts : Parts) (f b i : ℕ) where
  -- the tests, by number; that of fuel is none
  abbrev pub test_of : Cause → Bool
  test_of NotAnInstruction = is_undefined (meaning (word_of_place parts f b i)) || not (bit_and (word_of_place parts f b i) (lookup_unused table (word_of_place parts f b i)) == 0)
  test_of NotAdmitted = not (is_admitted (op_at parts f b i))
  test_of BadShape = has_bad_shape parts f b i
  test_of BadBranch = branches_badly parts f b i (op_at parts f b i)
  test_of BadCall = is_call (op_at parts f b i) && not (is_later parts f b i (callee_at parts f b i))
  test_of UndefinedRead = runs_with (reads_undefined (function_at parts f) (op_at parts f b i)) (visits_at parts f b i)
  test_of ReservedRegister = runs_with (λ d. touches_reserved (function_at parts f) (op_at parts f b i)) (visits_at parts f b i)
  test_of Misaligned = runs_with (λ d. not (is_aligned_access (access_of (function_at parts f) (op_at parts f b i) d))) (visits_at parts f b i)
  test_of OutOfBounds = runs_with (λ d. not (is_placed_access parts (function_at parts f).frame (access_of (function_at parts f) (op_at parts f b i) d))) (visits_at parts f b i)
  test_of ZeroDivisor = runs_with (may_divide_by_zero (op_at parts f b i)) (visits_at parts f b i)
  test_of TagOverflow = runs_with (may_overflow (op_at parts f b i)) (visits_at parts f b i)
  test_of UndeclaredService = not (is_declared parts.services (service_asked (op_at parts f b i)))
  test_of UnkeptCells =
      list_any (leaves_to parts f b i (misses_cells parts f b i)) (visits_at parts f b i)
      || (list_any (misses_params parts f b i) (visits_at parts f b i) || ((i == 0) && lists_badly (function_at parts f) b (block_at parts f b)))
  test_of OutOfFuel = false
  test_of OutOfStack = lacks_room parts f b i
  test_of RunsPastEnd = list_any (λ v. is_past v.way) (visits_at parts f b i)
  test_of UnkeptResults = list_any (λ v. is_back v.way && not (has_outs 8 (function_at parts f).results (now parts f b i v))) (visits_at parts f b i)
  test_of BadEntry = (f == 0) && ((is_entry b i && not (length (function_at parts f).params == 0)) || is_return (op_at parts f b i))
  test_of TooDeep = lacks_depth parts f b i
  test_of (NoMemory want) = false

  not_quiet : (cause : Cause) → test_of cause ≡ false → Holds parts f b i cause → (cause ≡ OutOfFuel) × LacksFuel parts f b i
  unfolding IsCanonical
  not_quiet NotAnInstruction e h =
      absurd (undefined_or (is_undefined (meaning (word_of_place parts f b i)))
      (bit_and (word_of_place parts f b i) (lookup_unused table (word_of_place parts f b i))) e h)
  not_quiet NotAdmitted e h = absurd (refute (test_of NotAdmitted) e h)
  not_quiet BadShape e h = absurd (refute (test_of BadShape) e h)
  not_quiet BadBranch e h = absurd (refute (test_of BadBranch) e h)
  not_quiet BadCall e h = absurd (refute (test_of BadCall) e h)
  not_quiet UndefinedRead e h = absurd (refute (test_of UndefinedRead) e h)
  not_quiet ReservedRegister e h = absurd (refute (test_of ReservedRegister) e h)
  not_quiet Misaligned e h = absurd (refute (test_of Misaligned) e h)
  not_quiet OutOfBounds e h = absurd (refute (test_of OutOfBounds) e h)
  not_quiet ZeroDivisor e h = absurd (refute (test_of ZeroDivisor) e h)
  not_quiet TagOverflow e h = absurd (refute (test_of TagOverflow) e h)
  not_quiet UndeclaredService e h = absurd (refute (test_of UndeclaredService) e h)
  not_quiet UnkeptCells e h =
      absurd (one_of (list_any (leaves_to parts f b i (misses_cells parts f b i)) (visits_at parts f b i))
      (list_any (misses_params parts f b i) (visits_at parts f b i)) ((i == 0) && lists_badly (function_at parts f) b (block_at parts f b)) e h)
  not_quiet OutOfFuel e h = (refl, h)
  not_quiet OutOfStack e h = absurd (refute (test_of OutOfStack) e h)
  not_quiet RunsPastEnd e h = absurd (refute (test_of RunsPastEnd) e h)
  not_quiet UnkeptResults e h = absurd (refute (test_of UnkeptResults) e h)
  not_quiet BadEntry e h = absurd (refute (test_of BadEntry) e h)
  not_quiet TooDeep e h = absurd (refute (test_of TooDeep) e h)
  not_quiet (NoMemory want) e h = absurd h

  -- no test of a number below n tells
  unfoldable pub quiet_below : ℕ → Bool
  unfolding causes
  quiet_below n = list_all (λ c. not (nat_lt (number_of c) n && test_of c)) causes

  pub by_quiet : (n : ℕ) → quiet_below n ≡ true → (cause : Cause) → number_of cause < n → Holds parts f b i cause → (cause ≡ OutOfFuel) × LacksFuel parts f b i
  unfolding quiet_below
  by_quiet n quiet cause less holds =
      not_quiet cause (below_is_tested (number_of cause) n (test_of cause) less (every (λ c. not (nat_lt (number_of c) n && test_of c)) quiet cause)) holds

  abbrev pub PaysFor : Visit → ℕ → Type 0
  PaysFor v t = IsPaid (first parts f b i) (fuel parts f b i) (weight parts f b i) (now parts f b i v) (fuel_at parts f t)

  -- why the fuel lasts here
  pub record Lasts : Type 0 where
    pub edges : AllEdges PaysFor (visits_at parts f b i)
    pub end : IsTrue (ends_here parts f b i) → IsEnough (first parts f b i) (fuel parts f b i) (weight parts f b i)
    pub entry : IsTrue (is_entry b i) → IsWithinBudget (first parts f b i) (fuel parts f b i) (function_at parts f).budget
    pub terms : ((i == 0) && names_strange parts f b i) ≡ false

  pub by_lasting : Lasts → LacksFuel parts f b i → ⊥
  by_lasting l (inl h) = h.3 (one_edge PaysFor (visits_at parts f b i) h.2.place h.0 h.1 l.edges h.2.visit h.2.to)
  by_lasting l (inr (inl h)) = h.1 (l.end h.0)
  by_lasting l (inr (inr (inl h))) = h.1 (l.entry h.0)
  by_lasting l (inr (inr (inr h))) = refute ((i == 0) && names_strange parts f b i) l.terms h

  few_causes : (cause : Cause) → number_of cause < 21
  few_causes NotAnInstruction = omega arith
  few_causes NotAdmitted = omega arith
  few_causes BadShape = omega arith
  few_causes BadBranch = omega arith
  few_causes BadCall = omega arith
  few_causes UndefinedRead = omega arith
  few_causes ReservedRegister = omega arith
  few_causes Misaligned = omega arith
  few_causes OutOfBounds = omega arith
  few_causes ZeroDivisor = omega arith
  few_causes TagOverflow = omega arith
  few_causes UndeclaredService = omega arith
  few_causes UnkeptCells = omega arith
  few_causes OutOfFuel = omega arith
  few_causes OutOfStack = omega arith
  few_causes RunsPastEnd = omega arith
  few_causes UnkeptResults = omega arith
  few_causes BadEntry = omega arith
  few_causes TooDeep = omega arith
  few_causes (NoMemory want) = omega arith

  -- a word at which no rule is broken
  pub no_rule : quiet_below 21 ≡ true → Lasts → (cause : Cause) → Holds parts f b i cause → ⊥
  no_rule quiet l cause holds = by_lasting l (by_quiet 21 quiet cause (few_causes cause) holds).1

  fuel_is_14 : (n : ℕ) (cause : Cause) → n ≤ 14 → number_of cause < n → cause ≡ OutOfFuel → ⊥
  fuel_is_14 n cause few less e = let h = subst (λ c. number_of c < n) e less in omega arith

  -- a word at which no rule of a number below n is broken, n at most that of fuel
  pub no_lesser_rule : (n : ℕ) → n ≤ 14 → quiet_below n ≡ true → (cause : Cause) → number_of cause < n → Holds parts f b i cause → ⊥
  no_lesser_rule n few quiet cause less holds = fuel_is_14 n cause few less (by_quiet n quiet cause less holds).0

  -- the same where the fuel lasts
  pub no_lesser_rule_lasting : (n : ℕ) → quiet_below n ≡ true → Lasts → (cause : Cause) → number_of cause < n → Holds parts f b i cause → ⊥
  no_lesser_rule_lasting n quiet l cause less holds = by_lasting l (by_quiet n quiet cause less holds).1

-- the refusal of a place, where no rule is broken before it, and none of a lesser number at it
pub told_first : (parts : Parts) (r : Refusal) (b i : ℕ) → IsPlace parts r.function b i → r.address ≡ address_of parts r.function b i → Holds parts r.function b i r.cause
    → ((g c j : ℕ) → IsPlace parts g c j → address_of parts g c j < r.address → (cause : Cause) → Holds parts g c j cause → ⊥)
    → ((g c j : ℕ) → IsPlace parts g c j → r.address ≡ address_of parts g c j → (cause : Cause) → number_of cause < number_of r.cause → Holds parts g c j cause → ⊥)
    → IsFirst parts r
told_first parts r b i place lies holds before here = record {
  told = record { block = b; word = i; place = place; lies = lies; holds = holds };
  no_lesser_address = λ g a cause less h. before g h.block h.word h.place (subst (λ n. n < r.address) h.lies less) cause h.holds;
  no_lesser_number = λ g cause less h. here g h.block h.word h.place h.lies cause less h.holds;
}

-- an image no word of which breaks a rule
pub all_checked : (parts : Parts) → ((g c j : ℕ) → IsPlace parts g c j → (cause : Cause) → Holds parts g c j cause → ⊥) → Checked parts
all_checked parts none g a cause h = none g h.block h.word h.place cause h.holds
