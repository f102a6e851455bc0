-- Why an image is refused, as JSON.
use Rattle.std.specs.Prelude.{ℕ, true, false, List, [], ◌∷◌, ◌++◌, codes, Option, Some, None}
use Rattle.json.specs.Json.{Json, boolean, string}
use Rattle.json.specs.Token.{Token}
use Rattle.sbx_rules.specs.declared.cause.Refusal.{Refusal}
use Rattle.sbx_rules.specs.Causes.{shown_cause}
use Rattle.inspect_refusal.specs.Texts.{rule_text}
use Rattle.inspect_json.specs.Objects.{member_tokens, object_of, unsigned}

abbrev pub accepted_json : Json
accepted_json = object_of ((codes "accepted", boolean true) ∷ [])

-- the rule by its number and in words, the function by its number, the address of the word, and the text that explains
-- all this
abbrev pub refused_json : Refusal → List ℕ → Json
refused_json refusal text = object_of (
    (codes "accepted", boolean false)
    ∷ (codes "rule", string (shown_cause refusal.cause))
    ∷ (codes "function", unsigned refusal.function)
    ∷ (codes "address", unsigned refusal.address)
    ∷ (codes "sentence", string (rule_text refusal.cause))
    ∷ (codes "text", string text)
    ∷ []
    )

abbrev pub verdict_json : Option Refusal → List ℕ → Json
verdict_json None text = accepted_json
verdict_json (Some refusal) text = refused_json refusal text

-- ---- on the way

abbrev pub place_tokens : Refusal → List Token
place_tokens refusal =
    member_tokens (codes "function") (unsigned refusal.function)
    ++ member_tokens (codes "address") (unsigned refusal.address)
