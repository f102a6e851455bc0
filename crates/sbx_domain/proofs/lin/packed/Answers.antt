use Rattle.std.proofs.Common.{◌≡◌, List, ◌∷◌, [], drop, length, take, ap, ◌∙◌}
use Rattle.sbx_form.specs.declared.terms.FormTerm.{FormTerm}
use Rattle.sbx_domain.proofs.Packing.{row, row_packs}
use Rattle.sbx_domain.proofs.lin.packed.Goals as goal

is_row : (c : goal.After-kept_at-8)
    → (c.kept_at.result ∷ c.kept_at-2.result ∷ c.kept_at-3.result ∷ c.kept_at-4.result ∷ c.kept_at-5.result ∷ c.kept_at-6.result ∷ c.kept_at-7.result ∷ c.kept_at-8.result ∷ []) ≡ row c.args.terms.now
is_row c = cc (c.kept_at.ensures, c.kept_at-2.ensures, c.kept_at-3.ensures, c.kept_at-4.ensures, c.kept_at-5.ensures, c.kept_at-6.ensures, c.kept_at-7.ensures, c.kept_at-8.ensures)

pub returns-clause-terms : goal.returns-clause-terms
returns-clause-terms c = ap (λ (r : List FormTerm). take (length c.args.terms.now) r) (is_row c) ∙ (row_packs c.args.terms.now c.requires.few).0

pub returns-clause-blanks : goal.returns-clause-blanks
returns-clause-blanks c = ap (λ (r : List FormTerm). drop (length c.args.terms.now) r) (is_row c) ∙ (row_packs c.args.terms.now c.requires.few).1
