-- JSON values that are written on a line: objects by their members in order, and what a writer has of them.
use Rattle.std.specs.Prelude.{ℕ, ◌≡◌, ℤ, List, [], ◌∷◌, ◌++◌}
use Rattle.std.specs.Fmt.{decimal, signed_decimal}
use Rattle.json.specs.Json.{Json, Items, Members, array, item, member, no_items, no_members, number, object}
use Rattle.json.specs.Lex.{tokens}
use Rattle.json.specs.Print.{print}
use Rattle.json.specs.Token.{Token, key}
use Rattle.json.specs.Tree.{json_tokens}
use Rattle.json.specs.Written.{Written}

-- ---- values

abbrev pub unsigned : ℕ → Json
unsigned n = number (decimal n)

abbrev pub signed : ℤ → Json
signed z = number (signed_decimal z)

-- a name and a value
abbrev pub Named : Type 0
Named = List ℕ × Json

abbrev pub members_of : List Named → Members
members_of [] = no_members
members_of (m ∷ ms) = member m.0 m.1 (members_of ms)

abbrev pub object_of : List Named → Json
object_of ms = object (members_of ms)

abbrev pub items_of : List Json → Items
items_of [] = no_items
items_of (j ∷ js) = item j (items_of js)

abbrev pub array_of : List Json → Json
array_of js = array (items_of js)

-- ---- what is written

-- A line that has this value, and behind it the line's end: by the writer's own escapes, and without a space. A reader
-- finds the value's tokens in it and no others, whatever bytes its texts have.
abbrev pub IsLine : Json → List ℕ → Type 0
IsLine j line = (line ≡ print (json_tokens j) ++ 10 ∷ []) × (tokens (print (json_tokens j)) ≡ json_tokens j)

-- ---- on the way

-- a writer has these tokens more
abbrev pub Adds : Written → Written → List Token → Type 0
Adds old new ts = (new.before ≡ old.before) × (new.tokens ≡ old.tokens ++ ts)

-- a writer that has nothing yet
abbrev pub IsEmpty : Written → Type 0
IsEmpty w = (w.before ≡ []) × (w.tokens ≡ [])

abbrev pub key_tokens : List ℕ → List Token
key_tokens k = key k ∷ []

abbrev pub member_tokens : List ℕ → Json → List Token
member_tokens k j = key k ∷ json_tokens j

-- the line of what a writer has, whose tokens are those of its text
abbrev pub IsLineOf : Written → List ℕ → Type 0
IsLineOf w line = (line ≡ (w.before ++ print w.tokens) ++ 10 ∷ []) × (tokens (print w.tokens) ≡ w.tokens)
