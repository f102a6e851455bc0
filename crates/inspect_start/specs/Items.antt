-- What a line says, or what is wrong with it.
use Rattle.std.specs.Prelude.{◌≡◌, ◌≢◌, ℕ, ◌+◌, ◌-◌, ◌%◌, ◌^◌, ◌≤◌, ◌==◌, ◌&&◌, IsTrue, nat_le, if◌then◌else◌, List, []}
use Rattle.std.specs.Prelude.{◌∷◌, ◌++◌, length, Option, Some, None, Result, Ok, Err, MatchResult}
use Rattle.std.specs.Option.{option_and_then, option_map}
use Rattle.std.specs.Int.{to_be_bytes, w32}
use Rattle.v8_map.specs.declared.TheConstants.{RAM}
use Rattle.want.specs.Wants.{refused}
use Rattle.inspect_start.specs.declared.fault.StartCause.{StartCause}
use Rattle.inspect_start.specs.declared.fault.StartCause.TheVariants as causes
use Rattle.inspect_start.specs.declared.names.StartName.{StartName}
use Rattle.inspect_start.specs.declared.item.Item.{Item as Held}
use Rattle.inspect_start.specs.declared.item.Item.TheVariants as held
use Rattle.inspect_start.specs.Lines.{text_of, is_text, words_of, number_of}
use Rattle.inspect_start.specs.Names.{name_of, most_of, keeps, rule_of}

-- What a line says: nothing, bytes of RAM from a physical address on, or the number of what has a name.
pub data Item : Type 0 where
  Nothing : Item
  Bytes : (at : ℕ) (bytes : List ℕ) → Item
  Sets : (name : StartName) (number : ℕ) → Item

-- the big-endian bytes of numbers of 32 bits, one after the other, if each word is one
abbrev pub bytes_of : List (List ℕ) → Option (List ℕ)
bytes_of [] = Some []
bytes_of (word ∷ words) =
    option_and_then (λ number. option_map (λ bytes. to_be_bytes w32 number ++ bytes) (bytes_of words))
    (number_of (2 ^ 32 - 1) word)

-- bytes lie at words of RAM
abbrev pub placed : ℕ → List ℕ → Result Item StartCause
placed at bytes = if at % 4 == 0 && nat_le (at + length bytes) RAM then Ok (Bytes at bytes) else Err causes.Address

-- what words behind an address say: there is one or more, and all are numbers
abbrev pub behind_address : ℕ → List (List ℕ) → Result Item StartCause
behind_address at [] = Err causes.Count
behind_address at (word ∷ words) =
    elim (bytes_of (word ∷ words)) [ Some bytes ↦ placed at bytes | None ↦ Err causes.Number ]

abbrev pub ruled : ℕ → StartName → ℕ → Result Item StartCause
ruled windows name number = if keeps windows name number then Ok (Sets name number) else Err (rule_of name)

-- what words behind a name say: there is one, a number that keeps the name's rule
abbrev pub behind_name : ℕ → StartName → List (List ℕ) → Result Item StartCause
behind_name windows name [] = Err causes.Count
behind_name windows name (word ∷ []) =
    elim (number_of (most_of name) word) [ Some number ↦ ruled windows name number | None ↦ Err causes.Number ]
behind_name windows name (word ∷ more ∷ words) = Err causes.Count

abbrev pub behind_word : ℕ → List ℕ → List (List ℕ) → Result Item StartCause
behind_word windows word words =
    elim (name_of word) [ Some name ↦ behind_name windows name words | None ↦ Err causes.Name ]

-- what words say: none say nothing; the first one is a physical address of 36 bits, or a name
abbrev pub said_by : ℕ → List (List ℕ) → Result Item StartCause
said_by windows [] = Ok Nothing
said_by windows (first ∷ words) =
    elim (number_of (2 ^ 36 - 1) first) [ Some at ↦ behind_address at words | None ↦ behind_word windows first words ]

-- what a line says on so many windows; before the comment it is ASCII
abbrev pub item_of : ℕ → List ℕ → Result Item StartCause
item_of windows line = if is_text (text_of line) then said_by windows (words_of (text_of line)) else Err causes.Text

-- ---- as the reader has them

abbrev pub shown : Held → Item
shown held.Nothing = Nothing
shown (held.Bytes at bytes) = Bytes at bytes.items
shown (held.Sets name number) = Sets name number

-- a call gives this, but want of memory may stand in the place of any answer
abbrev pub Gives : {X Y : Type 0} → (X → Y) → Result X StartCause → Result Y StartCause → Type 0
Gives view result read =
    MatchResult result (λ x. read ≡ Ok (view x)) (λ cause. cause ≢ causes.Memory refused → read ≡ Err cause)

-- what is said can be set: bytes lie in RAM, and a number keeps its name's rule
abbrev pub IsRight : ℕ → Item → Type 0
IsRight windows Nothing = Unit {0}
IsRight windows (Bytes at bytes) = at + length bytes ≤ RAM
IsRight windows (Sets name number) = (number ≤ most_of name) × IsTrue (keeps windows name number)
