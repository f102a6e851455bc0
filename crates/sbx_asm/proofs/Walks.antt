-- A loop that walks over lines: what it has gathered, and what is still to come.
use Rattle.std.proofs.Common.{◌≡◌, ℕ, ◌+◌, ◌-◌, ◌<◌, ◌≤◌, Bool, List, ◌∷◌, ◌++◌, length, take, drop, get_or, Option, sym, ◌∙◌, append_assoc, arith}
use Rattle.std.specs.List.{fold, flat_map, list_any}
use Rattle.std.proofs.lemmas.List.{append-nil, length-drop, take_all, at_drop_all, at_drop_more}
use Rattle.std.proofs.lemmas.List.Sums.{fold-append}
use Rattle.sbx_asm.specs.declared.fault.AsmFault.{AsmFault}
use Rattle.sbx_asm.specs.Rules.{told}
use Rattle.sbx_asm.specs.Items.{Item, each, up_to}

-- whether one of some lines passes a test, up to the first that is an end
abbrev pub found_in : (Item → Bool) → (Item → Bool) → List Item → Bool
found_in end test is = list_any test (up_to end is)

-- ---- a loop over a slice, whose index is k

-- what the rest gives, where a line comes first
pub goes_on : {T : Type 0} (f : List Item → T) (total : T) (is : List Item) (k : ℕ) (i : Item) → k < length is → i ≡ get_or is k i → f (drop k is) ≡ total → f (i ∷ drop (k + 1) is) ≡ total
goes_on f total is k i h e so_far = (λ j. f (e j ∷ drop (k + 1) is)) ∙ sym (at_drop_more f is k i h) ∙ so_far

-- what all lines give, behind the last one
pub all_given : {A : Type 0} (f : Item → List A) (got total : List A) (is : List Item) (k : ℕ) → length is ≤ k → got ++ flat_map f (drop k is) ≡ total → got ≡ total
all_given f got total is k h so_far = sym (append-nil got) ∙ sym (at_drop_all (λ (js : List Item). got ++ flat_map f js) is k h) ∙ so_far

-- ---- what each line gives in its place

-- what a range up to the end holds
pub rest_is : (is : List Item) (k : ℕ) → take (length is - k) (drop k is) ≡ drop k is
rest_is is k = take_all (length is - k) (drop k is) (omega (arith, length-drop k is))

-- one more line, with what is behind it
pub one_more : {A : Type 0} (gives : List Item → Item → List Item → List A) (got more total : List A) (before is : List Item) (k : ℕ) (i : Item) (rest : List Item) → k < length is → i ≡ get_or is k i
    → rest ≡ drop (k + 1) is → more ≡ got ++ gives before i rest → got ++ each gives before (drop k is) ≡ total → more ++ each gives (i ∷ before) (drop (k + 1) is) ≡ total
one_more gives got more total before is k i rest h e r m so_far =
    let after : List Item = drop (k + 1) is in
    (λ j. (m ∙ (λ l. got ++ gives before i (r l))) j ++ each gives (i ∷ before) after)
    ∙ append_assoc got (gives before i after) (each gives (i ∷ before) after)
    ∙ goes_on (λ js. got ++ each gives before js) total is k i h e so_far

-- likewise what is told of one more line
pub told_more : (gives : List Item → Item → List Item → List AsmFault) (got more total : Option AsmFault) (before is : List Item) (k : ℕ) (i : Item)
    (rest : List Item) → k < length is → i ≡ get_or is k i
    → rest ≡ drop (k + 1) is → more ≡ fold told got (gives before i rest) → fold told got (each gives before (drop k is)) ≡ total → fold told more (each gives (i ∷ before) (drop (k + 1) is)) ≡ total
told_more gives got more total before is k i rest h e r m so_far =
    let after : List Item = drop (k + 1) is in
    (λ j. fold told ((m ∙ (λ l. fold told got (gives before i (r l)))) j) (each gives (i ∷ before) after))
    ∙ sym (fold-append told got (gives before i after) (each gives (i ∷ before) after))
    ∙ goes_on (λ js. fold told got (each gives before js)) total is k i h e so_far

-- likewise what all lines give, behind the last one
pub each_given : {A : Type 0} (gives : List Item → Item → List Item → List A) (got total : List A) (before is : List Item) (k : ℕ)
    → length is ≤ k → got ++ each gives before (drop k is) ≡ total → got ≡ total
each_given gives got total before is k h so_far = sym (append-nil got) ∙ sym (at_drop_all (λ (js : List Item). got ++ each gives before js) is k h) ∙ so_far
