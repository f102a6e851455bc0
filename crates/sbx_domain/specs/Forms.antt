-- Linear forms as the verifier keeps them: a constant plus terms over the numbers that a block starts with, none of
-- them large.
use Rattle.std.specs.Prelude.{ℕ, suc, ◌^◌, Bool, true, ◌&&◌, ℤ, pos, ◌+ℤ◌, ◌*ℤ◌, unsigned_abs, nat_le, if◌then◌else◌}
use Rattle.std.specs.Prelude.{List, [], ◌∷◌, length, Option, Some, None}
use Rattle.std.specs.List.{list_all}
use Rattle.sbx_form.specs.declared.terms.FormTerm.{FormTerm}
use Rattle.sbx_form.specs.Forms.{Cells, add_terms, terms_value}

-- A constant, and terms over the numbers that the block's cells start with.
pub record Form : Type 0 where
  pub constant : ℤ
  pub terms : List FormTerm

unfoldable pub form_value : Cells → Form → ℤ
form_value cells f = f.constant +ℤ terms_value cells f.terms

abbrev pub constant_form : ℤ → Form
constant_form z = record { constant = z; terms = [] }

-- the number that a location starts with
abbrev pub form_of_location : ℕ → Form
form_of_location l = record { constant = pos 0; terms = record { location = l; coefficient = pos 1 } ∷ [] }

abbrev pub is_small : ℕ → ℤ → Bool
is_small bound z = nat_le (unsigned_abs z) bound

-- at most eight terms, no coefficient above 2^32 and no constant above 2^40 in magnitude
unfoldable pub is_kept : Form → Bool
is_kept f = nat_le (length f.terms) 8
    && (is_small (2 ^ 40) f.constant && list_all (λ t. is_small (2 ^ 32) t.coefficient) f.terms)

-- whether locations ascend, and are all at least this
abbrev pub ascend_from : ℕ → List FormTerm → Bool
ascend_from n [] = true
ascend_from n (t ∷ ts) = nat_le n t.location && ascend_from (suc t.location) ts

-- a form that is larger is dropped
abbrev pub kept : Form → Option Form
kept f = if is_kept f then Some f else None

-- the second and k times the first
abbrev pub combined : ℤ → Option Form → Option Form → Option Form
combined k (Some f) (Some g) =
    kept (record { constant = (k *ℤ f.constant) +ℤ g.constant; terms = add_terms k f.terms g.terms })
combined k (Some f) None = None
combined k None g = None
