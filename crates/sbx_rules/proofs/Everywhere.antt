-- Verdicts from what holds at each place of an image, place by place.
use Rattle.std.specs.Prelude.{ℕ, zero, suc, ◌≡◌, ◌<◌, ◌≤◌, ◌==◌, ◌&&◌, ◌||◌, not, Bool, true, false, IsTrue, List, [], ◌∷◌, length, nat_lt}
use Rattle.std.specs.Prelude.{ℤ, pos, negsuc, ◌≤ℤ◌, nat_le, if◌then◌else◌}
use Rattle.std.specs.List.{list_any}
use Rattle.std.proofs.Common.{arith, refl}
use Rattle.std.proofs.lemmas.Bool.Decides.{nat_tests}
use Rattle.std.proofs.lemmas.Int.{ints}
use Rattle.sbx_form.specs.Forms.{Cells}
use Rattle.sbx_domain.specs.Forms.{form_value}
use Rattle.sbx_form.specs.declared.terms.FormTerm.{FormTerm}
use Rattle.sbx_image.specs.Parts.{Parts}
use Rattle.sbx_image.specs.Order.{address_of, function_at, words_in}
use Rattle.sbx_rules.specs.declared.cause.Cause.{Cause}
use Rattle.sbx_rules.specs.declared.cause.Refusal.{Refusal}
use Rattle.sbx_rules.specs.Causes.{number_of}
use Rattle.sbx_rules.specs.Places.{IsPlace}
use Rattle.sbx_rules.specs.Rules.{Holds, ends_here, fuel, is_entry, names_strange, weight}
use Rattle.sbx_rules.specs.Verdicts.{Checked, IsFirst}
use Rattle.sbx_rules.specs.Ways.{Astray, Back, Next, Over, Past, To, Visit, Way, visits_at}
use Rattle.sbx_rules.proofs.Quiet.{and_left, and_right, AllEdges, EdgeOf, Lasts, PaysFor, all_checked, no_lesser_rule, no_lesser_rule_lasting, no_rule, quiet_below, told_first}

-- ---- a test of each place

-- of the first k numbers
abbrev pub of_each : (ℕ → Bool) → ℕ → Bool
of_each t zero = true
of_each t (suc k) = t 0 && of_each (λ n. t (suc n)) k

abbrev pub everywhere : Parts → (ℕ → ℕ → ℕ → Bool) → Bool
everywhere parts t =
    of_each (λ f. of_each (λ b. of_each (t f b) (words_in parts f b)) (length (function_at parts f).blocks)) (length parts.functions)

of_one : (t : ℕ → Bool) (k n : ℕ) → of_each t k ≡ true → n < k → t n ≡ true
of_one t zero n h less = absurd (omega arith)
of_one t (suc k) zero h less = and_left (t 0) (of_each (λ n. t (suc n)) k) h
of_one t (suc k) (suc n) h less = of_one (λ m. t (suc m)) k n (and_right (t 0) (of_each (λ m. t (suc m)) k) h) (omega arith)

at_place : (parts : Parts) (t : ℕ → ℕ → ℕ → Bool) → everywhere parts t ≡ true → (f b i : ℕ) → IsPlace parts f b i → t f b i ≡ true
at_place parts t h f b i p =
    of_one (t f b) (words_in parts f b) i
    (of_one (λ c. of_each (t f c) (words_in parts f c)) (length (function_at parts f).blocks) b
    (of_one (λ g. of_each (λ c. of_each (t g c) (words_in parts g c)) (length (function_at parts g).blocks)) (length parts.functions) f h p.function)
    p.block) p.word

-- ---- fuel that is a number

-- where the first of two tests holds, so does the second
implied : (x y : Bool) → (not x || y) ≡ true → IsTrue x → y ≡ true
implied true y h e = h
implied false y h e = absurd (cc)

is_false : (x : Bool) → not x ≡ true → x ≡ false
is_false true h = cc
is_false false h = refl

abbrev pub is_edge : Way → Bool
is_edge (To t) = true
is_edge _ = false

no_edge : (P : Visit → ℕ → Type 0) (vs : List Visit) → not (list_any (λ v. is_edge v.way) vs) ≡ true → AllEdges P vs
no_edge P [] h = tt
no_edge P (v ∷ vs) h = (at_way v.way (left h), no_edge P vs (right h))
  where
    left : not (is_edge v.way || list_any (λ w. is_edge w.way) vs) ≡ true → not (is_edge v.way) ≡ true
    left e = grind arith

    right : not (is_edge v.way || list_any (λ w. is_edge w.way) vs) ≡ true → not (list_any (λ w. is_edge w.way) vs) ≡ true
    right e = grind arith

    at_way : (w : Way) → not (is_edge w) ≡ true → EdgeOf P v w
    at_way (To t) e = absurd (cc)
    at_way Next e = tt
    at_way Back e = tt
    at_way Over e = tt
    at_way Past e = tt
    at_way Astray e = tt

-- whether a form is a number, from one on or up to one
abbrev pub is_from : ℕ → ℤ → List FormTerm → Bool
is_from n (pos c) [] = nat_le n c
is_from n _ _ = false

abbrev pub is_up_to : ℕ → ℤ → List FormTerm → Bool
is_up_to n (pos c) [] = nat_le c n
is_up_to n _ _ = false

from_is_enough : (start : Cells) (n : ℕ) (c : ℤ) (terms : List FormTerm) → is_from n c terms ≡ true → pos n ≤ℤ form_value start (record { constant = c; terms = terms })
unfolding form_value
from_is_enough start n (pos c) [] h = let less : n ≤ c = grind (arith, nat_tests) in omega (arith, ints)
from_is_enough start n (pos c) (t ∷ terms) h = absurd (cc)
from_is_enough start n (negsuc c) terms h = absurd (cc)

up_to_is_within : (start : Cells) (n : ℕ) (c : ℤ) (terms : List FormTerm) → is_up_to n c terms ≡ true → form_value start (record { constant = c; terms = terms }) ≤ℤ pos n
unfolding form_value
up_to_is_within start n (pos c) [] h = let less : c ≤ n = grind (arith, nat_tests) in omega (arith, ints)
up_to_is_within start n (pos c) (t ∷ terms) h = absurd (cc)
up_to_is_within start n (negsuc c) terms h = absurd (cc)

-- where a word's edges are paid for, what else is asked of its fuel is a test: it is a number, or nothing is asked
module _ (parts : Parts) (f b i : ℕ) where
  abbrev pub is_enough : Bool
  is_enough = is_from (weight parts f b i) (fuel parts f b i).constant (fuel parts f b i).terms

  abbrev pub is_within : Bool
  is_within = is_up_to (function_at parts f).budget (fuel parts f b i).constant (fuel parts f b i).terms

  abbrev pub lasts_plainly : Bool
  lasts_plainly =
      (not (ends_here parts f b i) || is_enough)
      && ((not (is_entry b i) || is_within) && not ((i == 0) && names_strange parts f b i))

  pub with_edges : AllEdges (PaysFor parts f b i) (visits_at parts f b i) → lasts_plainly ≡ true → Lasts parts f b i
  with_edges edges h = record {
    edges = edges;
    end = λ e start s.
        from_is_enough start (weight parts f b i) (fuel parts f b i).constant (fuel parts f b i).terms
        (implied (ends_here parts f b i) is_enough (and_left _ _ h) e);
    entry = λ e start s.
        up_to_is_within start (function_at parts f).budget (fuel parts f b i).constant (fuel parts f b i).terms
        (implied (is_entry b i) is_within (and_left _ _ (and_right _ _ h)) e);
    terms = is_false ((i == 0) && names_strange parts f b i) (and_right _ _ (and_right _ _ h));
  }

  abbrev pub has_no_edge : Bool
  has_no_edge = not (list_any (λ v. is_edge v.way) (visits_at parts f b i))

-- ---- verdicts

-- A word breaks no rule of a number below n, and its fuel lasts; edges that are named are paid for.
abbrev pub keeps : Parts → (ℕ → ℕ → ℕ → Bool) → ℕ → ℕ → ℕ → ℕ → Bool
keeps parts paid n f b i = quiet_below parts f b i n && (lasts_plainly parts f b i && (paid f b i || has_no_edge parts f b i))

abbrev pub ArePaid : Parts → (ℕ → ℕ → ℕ → Bool) → Type 0
ArePaid parts paid = (f b i : ℕ) → paid f b i ≡ true → AllEdges (PaysFor parts f b i) (visits_at parts f b i)

edges_of : (parts : Parts) (f b i : ℕ) (x : Bool) → (x ≡ true → AllEdges (PaysFor parts f b i) (visits_at parts f b i)) → (x || has_no_edge parts f b i) ≡ true
    → AllEdges (PaysFor parts f b i) (visits_at parts f b i)
edges_of parts f b i true pays h = pays refl
edges_of parts f b i false pays h = no_edge (PaysFor parts f b i) (visits_at parts f b i) h

lasts_of : (parts : Parts) (paid : ℕ → ℕ → ℕ → Bool) → ArePaid parts paid → (f b i : ℕ)
    → (lasts_plainly parts f b i && (paid f b i || has_no_edge parts f b i)) ≡ true → Lasts parts f b i
lasts_of parts paid pays f b i h =
    with_edges parts f b i (edges_of parts f b i (paid f b i) (pays f b i) (and_right (lasts_plainly parts f b i) _ h)) (and_left (lasts_plainly parts f b i) _ h)

-- an image whose words keep all rules
pub checked_where : (parts : Parts) (paid : ℕ → ℕ → ℕ → Bool) → ArePaid parts paid → everywhere parts (keeps parts paid 21) ≡ true → Checked parts
checked_where parts paid pays h =
    all_checked parts (λ f b i p cause holds.
    let k = at_place parts (keeps parts paid 21) h f b i p in
    no_rule parts f b i (and_left (quiet_below parts f b i 21) _ k) (lasts_of parts paid pays f b i (and_right (quiet_below parts f b i 21) _ k)) cause holds)

-- no edge is named
abbrev pub none_paid : ℕ → ℕ → ℕ → Bool
none_paid f b i = false

none_pays : (parts : Parts) → ArePaid parts none_paid
none_pays parts f b i e = absurd (cc)

pub checked_everywhere : (parts : Parts) → everywhere parts (keeps parts none_paid 21) ≡ true → Checked parts
checked_everywhere parts h = checked_where parts none_paid (none_pays parts) h

-- A word before a refusal keeps all rules. The one at its address keeps those of lesser numbers, that of fuel too where
-- it is among them.
abbrev pub leads : Parts → Refusal → ℕ → ℕ → ℕ → Bool
leads parts r f b i =
    if nat_lt (address_of parts f b i) r.address then keeps parts none_paid 21 f b i
    else (if address_of parts f b i == r.address
    then quiet_below parts f b i (number_of r.cause) && (nat_le (number_of r.cause) 14 || (lasts_plainly parts f b i && (false || has_no_edge parts f b i)))
    else true)

first_way : (x y z : Bool) → x ≡ true → (if x then y else z) ≡ true → y ≡ true
first_way true y z e h = h
first_way false y z e h = absurd (cc)

second_way : (x y z : Bool) → x ≡ false → (if x then y else z) ≡ true → z ≡ true
second_way true y z e h = absurd (cc)
second_way false y z e h = h

is_below : (a b : ℕ) → a < b → nat_lt a b ≡ true
is_below a b less = grind (arith, nat_tests)

not_below : (a b : ℕ) → b ≡ a → nat_lt a b ≡ false
not_below a b same = grind (arith, nat_tests)

is_same : (a b : ℕ) → b ≡ a → (a == b) ≡ true
is_same a b same = grind (arith, nat_tests)

is_few : (n : ℕ) → nat_le n 14 ≡ true → n ≤ 14
is_few n h = grind (arith, nat_tests)

keeping : (parts : Parts) (n f b i : ℕ) (x : Bool) → nat_le n 14 ≡ x → quiet_below parts f b i n ≡ true
    → (x || (lasts_plainly parts f b i && (false || has_no_edge parts f b i))) ≡ true
    → (cause : Cause) → number_of cause < n → Holds parts f b i cause → ⊥
keeping parts n f b i true few quiet h cause less told = no_lesser_rule parts f b i n (is_few n few) quiet cause less told
keeping parts n f b i false few quiet h cause less told =
    no_lesser_rule_lasting parts f b i n quiet (lasts_of parts none_paid (none_pays parts) f b i h) cause less told

pub refused_first : (parts : Parts) (r : Refusal) (b i : ℕ) → IsPlace parts r.function b i → r.address ≡ address_of parts r.function b i
    → Holds parts r.function b i r.cause → everywhere parts (leads parts r) ≡ true → IsFirst parts r
refused_first parts r b i place lies holds h = told_first parts r b i place lies holds before here
  where
    before : (g c j : ℕ) → IsPlace parts g c j → address_of parts g c j < r.address → (cause : Cause) → Holds parts g c j cause → ⊥
    before g c j p less cause told =
        let k = first_way (nat_lt (address_of parts g c j) r.address) (keeps parts none_paid 21 g c j) _ (is_below (address_of parts g c j) r.address less)
        (at_place parts (leads parts r) h g c j p) in
        no_rule parts g c j (and_left (quiet_below parts g c j 21) _ k)
        (lasts_of parts none_paid (none_pays parts) g c j (and_right (quiet_below parts g c j 21) _ k)) cause told

    here : (g c j : ℕ) → IsPlace parts g c j → r.address ≡ address_of parts g c j → (cause : Cause) → number_of cause < number_of r.cause → Holds parts g c j cause → ⊥
    here g c j p same cause less told =
        let k = first_way (address_of parts g c j == r.address) _ true (is_same (address_of parts g c j) r.address same)
        (second_way (nat_lt (address_of parts g c j) r.address) _ _ (not_below (address_of parts g c j) r.address same) (at_place parts (leads parts r) h g c j p)) in
        keeping parts (number_of r.cause) g c j (nat_le (number_of r.cause) 14) refl (and_left (quiet_below parts g c j (number_of r.cause)) _ k)
        (and_right (quiet_below parts g c j (number_of r.cause)) _ k) cause less told
