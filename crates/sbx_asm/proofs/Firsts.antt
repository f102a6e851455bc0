-- What some lines say of the whole, of a function or of a block: what was found so far, and what is still to come.
use Rattle.std.proofs.Common.{◌≡◌, ℕ, ◌≤◌, Bool, true, false, List, [], length, drop, Option, None, Some, refl, sym, ◌∙◌, arith, get_or}
use Rattle.std.specs.Prelude.{max, if◌then◌else◌}
use Rattle.std.specs.List.{flat_map}
use Rattle.std.specs.Option.{unwrap_or}
use Rattle.std.proofs.lemmas.List.{at_drop_all}
use Rattle.sbx_asm.specs.Items.{Item}

-- the first of some values: the one that was found, else the first of the others
abbrev pub first_of : {A : Type 0} → A → Option A → List A → A
first_of default None xs = get_or xs 0 default
first_of default (Some x) xs = x

-- the same behind the last line
pub first_found : {A : Type 0} (default : A) (f : Item → List A) (found : Option A) (total : A) (is : List Item) (k : ℕ) → length is ≤ k →
    first_of default found (flat_map f (drop k is)) ≡ total → unwrap_or found default ≡ total
first_found {A = A} default f found total is k h so_far = by found ∙ sym (at_drop_all (λ (js : List Item). first_of default found (flat_map f js)) is k h) ∙ so_far
  where
    by : (o : Option A) → unwrap_or o default ≡ first_of default o []
    by None = refl
    by (Some x) = refl

-- the version, where it is known whether depths and regions are to come
abbrev pub later : ℕ → Bool → Bool → ℕ
later version depths regions = if depths then 3 else (if regions then max version 2 else version)

max_again : (n : ℕ) → max (max n 2) 2 ≡ max n 2
max_again n = grind arith

pub with_depths : (d r : Bool) → later 3 d r ≡ 3
with_depths true r = refl
with_depths false true = refl
with_depths false false = refl

pub with_regions : (n : ℕ) (d r : Bool) → later (max n 2) d r ≡ later n d true
with_regions n true r = refl
with_regions n false true = max_again n
with_regions n false false = refl
