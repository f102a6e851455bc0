-- A name behind `%` that is no register's.
use Rattle.std.proofs.Common.{◌≡◌, ℕ, List, ◌∷◌, Option, Some, None, refl, ap, ◌∙◌}
use Rattle.std.specs.Option.{option_map, option_or, unwrap_or}
use Rattle.v8_forms.specs.declared.part.Special.{Special}
use Rattle.v8_syntax.specs.declared.word.StatementToken.{StatementToken}
use Rattle.v8_syntax.specs.declared.word.StatementToken.TheVariants as words
use Rattle.v8_syntax.specs.Statements.{beside, percent_token, register_named, specials, register_first}

pub no_register : (name : List ℕ) (ws : List StatementToken) → register_named name ≡ None → register_first (percent_token name ∷ ws) ≡ None
no_register name ws h =
    ap (λ (r : Option ℕ). register_first (unwrap_or (option_or (option_map words.Register r) (option_map words.Special (beside name specials))) words.Unknown ∷ ws)) h
    ∙ by (beside name specials)
  where
    by : (s : Option Special) → register_first (unwrap_or (option_map words.Special s) words.Unknown ∷ ws) ≡ None
    by (Some s) = refl
    by None = refl
