-- Terms in a form's array.
use Rattle.std.proofs.Common.{◌≡◌, ℕ, zero, suc, ◌-◌, ◌^◌, ◌<◌, ◌≤◌, Bool, true, List, [], ◌∷◌, length, get_or, take, drop, replicate, refl, arith}
use Rattle.std.specs.Prelude.{◌&&◌, nat_le, unsigned_abs}
use Rattle.std.specs.List.{list_all}
use Rattle.std.proofs.lemmas.Bool.Decides.{nat_tests}
use Rattle.sbx_form.specs.declared.terms.FormTerm.{FormTerm}
use Rattle.sbx_form.specs.Forms.{AreWithin}
use Rattle.sbx_range.proofs.Words.{both_true}
use Rattle.sbx_domain.specs.Forms.{Form, is_kept, is_small}
use Rattle.sbx_domain.specs.Packed.{blank, no_term}

abbrev pub all_small : List FormTerm → Bool
all_small ts = list_all (λ t. is_small (2 ^ 32) t.coefficient) ts

small_says : (n b : ℕ) → nat_le n b ≡ true → n ≤ b
small_says n b h = grind (arith, nat_tests)

pub small_at : (ts : List FormTerm) (i : ℕ) (d : FormTerm) → all_small ts ≡ true → i < length ts → unsigned_abs (get_or ts i d).coefficient ≤ 2 ^ 32
small_at [] i d h room = absurd (omega arith)
small_at (t ∷ ts) zero d h room = small_says _ _ (both_true _ (all_small ts) h).0
small_at (t ∷ ts) (suc i) d h room = small_at ts i d (both_true (is_small (2 ^ 32) t.coefficient) (all_small ts) h).1 (omega arith)

pub within_small : (ts : List FormTerm) → all_small ts ≡ true → AreWithin (2 ^ 32) ts
within_small [] h = tt
within_small (t ∷ ts) h = (let both = both_true (is_small (2 ^ 32) t.coefficient) (all_small ts) h in (small_says _ _ both.0, within_small ts both.1))

-- eight places
abbrev pub row : List FormTerm → List FormTerm
row ts =
    get_or ts 0 no_term ∷ get_or ts 1 no_term ∷ get_or ts 2 no_term ∷ get_or ts 3 no_term
    ∷ get_or ts 4 no_term ∷ get_or ts 5 no_term ∷ get_or ts 6 no_term ∷ get_or ts 7 no_term ∷ []

pub row_packs : (ts : List FormTerm) → length ts ≤ 8 → (take (length ts) (row ts) ≡ ts) × (drop (length ts) (row ts) ≡ replicate (8 - length ts) blank)
row_packs [] h = (refl, refl)
row_packs (a ∷ []) h = (refl, refl)
row_packs (a ∷ b ∷ []) h = (refl, refl)
row_packs (a ∷ b ∷ c ∷ []) h = (refl, refl)
row_packs (a ∷ b ∷ c ∷ d ∷ []) h = (refl, refl)
row_packs (a ∷ b ∷ c ∷ d ∷ e ∷ []) h = (refl, refl)
row_packs (a ∷ b ∷ c ∷ d ∷ e ∷ f ∷ []) h = (refl, refl)
row_packs (a ∷ b ∷ c ∷ d ∷ e ∷ f ∷ g ∷ []) h = (refl, refl)
row_packs (a ∷ b ∷ c ∷ d ∷ e ∷ f ∷ g ∷ i ∷ []) h = (refl, refl)
row_packs (a ∷ b ∷ c ∷ d ∷ e ∷ f ∷ g ∷ i ∷ j ∷ ts) h = absurd (omega arith)

-- what a form that is kept says of its parts
pub record IsSmall (f : Form) : Type 0 where
  pub few : length f.terms ≤ 8
  pub constant : unsigned_abs f.constant ≤ 2 ^ 40
  pub terms : AreWithin (2 ^ 32) f.terms

pub kept_says : (f : Form) → is_kept f ≡ true → IsSmall f
unfolding is_kept
kept_says f h =
    let first = both_true (nat_le (length f.terms) 8) (is_small (2 ^ 40) f.constant && all_small f.terms) h in
    let rest = both_true (is_small (2 ^ 40) f.constant) (all_small f.terms) first.1 in
    record { few = small_says _ _ first.0; constant = small_says _ _ rest.0; terms = within_small f.terms rest.1 }
