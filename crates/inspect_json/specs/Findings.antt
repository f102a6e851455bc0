-- What is wrong with a source, as JSON.
use Rattle.std.specs.Prelude.{ℕ, Bool, true, false, List, [], ◌∷◌, ◌++◌, codes, map}
use Rattle.json.specs.Json.{Json, boolean, string}
use Rattle.json.specs.Token.{Token}
use Rattle.inspect_names.specs.declared.findings.Finding.{Finding}
use Rattle.inspect_names.specs.Findings.{code_text}
use Rattle.inspect_json.specs.Objects.{array_of, member_tokens, object_of, unsigned}

-- the line and the column, from 1, the number of the fault or of the rule, and what is wrong in words
abbrev pub finding_json : Finding → Json
finding_json f = object_of (
    (codes "line", unsigned f.line)
    ∷ (codes "column", unsigned f.column)
    ∷ (codes "code", string (code_text f.code))
    ∷ (codes "sentence", string f.sentence.now)
    ∷ []
    )

abbrev pub is_nothing : List Finding → Bool
is_nothing [] = true
is_nothing (f ∷ fs) = false

-- whether the source means an image that is accepted; what is wrong with it; and the text that tells people all this
abbrev pub check_json : List Finding → List ℕ → Json
check_json findings text = object_of (
    (codes "accepted", boolean (is_nothing findings))
    ∷ (codes "faults", array_of (map finding_json findings))
    ∷ (codes "text", string text)
    ∷ []
    )

-- ---- on the way

abbrev pub place_tokens : Finding → List Token
place_tokens f = member_tokens (codes "line") (unsigned f.line) ++ member_tokens (codes "column") (unsigned f.column)
