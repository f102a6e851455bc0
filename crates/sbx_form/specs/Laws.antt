-- The laws of forms.
use Rattle.std.specs.Prelude.{ℕ, suc, ◌≤◌, ◌≡◌, ℤ, ◌+ℤ◌, ◌*ℤ◌, ◌≤ℤ◌, List, length}
use Rattle.sbx_form.specs.declared.terms.FormTerm.{FormTerm}
use Rattle.sbx_form.specs.Forms.{AscendFrom, Cells, Ends, Within, add_term, add_terms, least_terms, terms_value}

-- The value of a sum of terms is the sum of their values.
pub record SumsHaveTheSum : Type 0 where
  pub one : (cells : Cells) (l : ℕ) (c : ℤ) (ts : List FormTerm) →
      terms_value cells (add_term l c ts) ≡ (cells l *ℤ c) +ℤ terms_value cells ts
  pub several : (cells : Cells) (k : ℤ) (us ts : List FormTerm) →
      terms_value cells (add_terms k us ts) ≡ (k *ℤ terms_value cells us) +ℤ terms_value cells ts

-- A sum of terms in ascending order is in ascending order, and has at most one term more.
pub record SumsStayInOrder : Type 0 where
  pub ascend : (n l : ℕ) (c : ℤ) (ts : List FormTerm) → n ≤ l → AscendFrom n ts → AscendFrom n (add_term l c ts)
  pub few : (l : ℕ) (c : ℤ) (ts : List FormTerm) → length (add_term l c ts) ≤ suc (length ts)

-- The least value of a form is below each of its values, and is one of them.
pub record LeastIsLeast : Type 0 where
  pub below : (ends : Ends) (cells : Cells) (ts : List FormTerm) → Within ends cells →
      least_terms ends ts ≤ℤ terms_value cells ts
  pub reached : (ends : Ends) (n : ℕ) (ts : List FormTerm) → ((l : ℕ) → ends.lo l ≤ℤ ends.hi l) → AscendFrom n ts
      → (cells : Cells) × Within ends cells × (terms_value cells ts ≡ least_terms ends ts)
