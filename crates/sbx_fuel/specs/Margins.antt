-- What is left of a block's fuel where control leaves it for another block. A term of the other block's fuel whose
-- location has a form is replaced by it, and so becomes terms over the numbers that this block starts with; one without
-- a form speaks of any number of its range. The two kinds are never mixed: a location's number now and the number that
-- it started with are two numbers.
use Rattle.std.specs.Prelude.{◌≡◌, ℕ, ◌+ℤ◌, ◌*ℤ◌, ◌≤ℤ◌, ℤ, neg_ℤ, List, [], ◌∷◌, Option, Some, None}
use Rattle.sbx_image.specs.Range.{Range}
use Rattle.sbx_form.specs.declared.terms.FormTerm.{FormTerm}
use Rattle.sbx_form.specs.Forms.{add_terms}
use Rattle.sbx_rules.specs.Forms.{Form}
use Rattle.sbx_rules.specs.Known.{Known, form_at, range_at}

abbrev pub less_constant : ℤ → Option Form → ℤ → ℤ
less_constant c None z = z
less_constant c (Some g) z = z +ℤ (neg_ℤ c *ℤ g.constant)

abbrev pub less_terms : ℤ → Option Form → List FormTerm → List FormTerm
less_terms c None terms = terms
less_terms c (Some g) terms = add_terms (neg_ℤ c) g.terms terms

abbrev pub with_open : FormTerm → Option Form → List FormTerm → List FormTerm
with_open t None terms = record { location = t.location; coefficient = neg_ℤ t.coefficient } ∷ terms
with_open t (Some g) terms = terms

-- the constant that is left
unfoldable pub constant_left : Known → List FormTerm → ℤ → ℤ
constant_left now [] z = z
constant_left now (t ∷ ts) z = constant_left now ts (less_constant t.coefficient (form_at now t.location) z)

-- the terms that are left over the numbers that this block started with
unfoldable pub start_terms : Known → List FormTerm → List FormTerm → List FormTerm
start_terms now [] terms = terms
start_terms now (t ∷ ts) terms = start_terms now ts (less_terms t.coefficient (form_at now t.location) terms)

-- the terms that are left over numbers now
unfoldable pub open_terms : Known → List FormTerm → List FormTerm
open_terms now [] = []
open_terms now (t ∷ ts) = with_open t (form_at now t.location) (open_terms now ts)

-- no range is empty
abbrev pub AreSome : Known → Type 0
AreSome d = (l : ℕ) (r : Range) → range_at d l ≡ Some r → r.lo ≤ℤ r.hi
