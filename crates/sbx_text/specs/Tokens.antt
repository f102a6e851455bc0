-- The tokens of a line of source. A line ends or has a comment; before that stand blanks and tokens, each the longest
-- that fits.
use Rattle.std.specs.Prelude.{◌≡◌, ◌≢◌, ℕ, zero, suc, ◌+◌, ◌^◌, ◌≤◌, Bool, false, ◌&&◌, ◌||◌, ◌==◌, nat_lt, nat_le}
use Rattle.std.specs.Prelude.{if◌then◌else◌, List, [], ◌∷◌, ◌++◌, length, drop, take, slice_index, Result, Ok, Err}
use Rattle.std.specs.Prelude.{MatchResult}
use Rattle.std.specs.List.{prefix_len}
use Rattle.std.specs.Char.{is_digit}
use Rattle.std.specs.Str.Parse.{digits_value}
use Rattle.sbx_text.specs.declared.Token.{Token}
use Rattle.sbx_text.specs.declared.Kind.TheVariants.{Name, Percent, Number, Sign}
use Rattle.sbx_text.specs.declared.fault.TextFault.{TextFault}
use Rattle.sbx_text.specs.declared.fault.TextFault.TheVariants.{NotAscii, BadCharacter, NumberTooLarge, LineTooLong}
use Rattle.sbx_text.specs.declared.fault.TextFault.TheVariants.{Memory}
use Rattle.want.specs.Wants.{refused}
use Rattle.sbx_text.specs.declared.scanning.Step.{Step}
use Rattle.sbx_text.specs.declared.scanning.Step.TheVariants.{Stop, Skip, Emit, Refuse}

-- ---- characters, by their ASCII codes

abbrev pub is_blank : ℕ → Bool
is_blank b = b == 32 || b == 9

abbrev pub is_letter : ℕ → Bool
is_letter b = (nat_le 65 b && nat_le b 90) || (nat_le 97 b && nat_le b 122)

-- a letter, `_` or `.`
abbrev pub starts_name : ℕ → Bool
starts_name b = is_letter b || b == 95 || b == 46

abbrev pub continues_name : ℕ → Bool
continues_name b = starts_name b || (nat_le 48 b && nat_le b 57)

-- one of `,` `:` `[` `]` `+` `-`
abbrev pub is_sign : ℕ → Bool
is_sign b = b == 44 || b == 58 || b == 91 || b == 93 || b == 43 || b == 45

-- ---- what stands at the head of some bytes

-- `0x` and a hexadecimal digit
abbrev pub starts_hexadecimal : List ℕ → Bool
starts_hexadecimal bytes =
    if nat_lt 2 (length bytes) then slice_index bytes 0 == 48 && slice_index bytes 1 == 120
    && is_digit (slice_index bytes 2) 16 else false

-- a number below 2 ^ 40, of n digits after a prefix
abbrev pub number_of : ℕ → ℕ → ℕ → Step
number_of value before n = if nat_lt value (2 ^ 40) then Emit (Number value) (before + n) else Refuse NumberTooLarge

-- as many digits of the radix as stand in a row
abbrev pub number_at : ℕ → ℕ → List ℕ → Step
number_at radix before digits =
    number_of (digits_value radix (take (prefix_len (λ b. is_digit b radix) digits) digits)) before
    (prefix_len (λ b. is_digit b radix) digits)

abbrev pub number : List ℕ → Step
number bytes = if starts_hexadecimal bytes then number_at 16 2 (drop 2 bytes) else number_at 10 0 bytes

-- `%` and a name
abbrev pub percent : List ℕ → Step
percent name =
    if starts_name (slice_index name 0) then Emit Percent (1 + prefix_len continues_name name) else Refuse BadCharacter

abbrev pub other : ℕ → Step
other b =
    if is_sign b then Emit Sign 1
    else (if nat_lt b 128 then Refuse BadCharacter
    else Refuse NotAscii)

-- the end, a comment, a blank, a token of so many bytes, or a fault
abbrev pub front : List ℕ → Step
front [] = Stop
front (b ∷ bytes) =
    if b == 33 then Stop
    else (if is_blank b then Skip
    else (if starts_name b then Emit Name (1 + prefix_len continues_name bytes)
    else (if b == 37 then percent bytes
    else (if is_digit b 10 then number (b ∷ bytes)
    else other b))))

-- a token lies within so many bytes
abbrev pub IsWithin : ℕ → Step → Type 0
IsWithin room (Emit kind n) = n ≤ room
IsWithin room _ = Unit {0}

-- ---- the tokens

-- a token in front of what is read after it
abbrev pub before : Token → Result (List Token) TextFault → Result (List Token) TextFault
before t (Ok ts) = Ok (t ∷ ts)
before t (Err f) = Err f

abbrev pub tokens_behind : (ℕ → List ℕ → Result (List Token) TextFault) → ℕ → List ℕ → Step →
    Result (List Token) TextFault
tokens_behind next at bytes Stop = Ok []
tokens_behind next at bytes Skip = next (at + 1) (drop 1 bytes)
tokens_behind next at bytes (Emit kind n) =
    before (record { kind = kind; start = at; stop = at + n }) (next (at + n) (drop n bytes))
tokens_behind next at bytes (Refuse f) = Err f

-- the tokens of some bytes of a line, the first of which is the byte at a place, or the leftmost fault; in so many
-- steps
unfoldable pub tokens_at : ℕ → ℕ → List ℕ → Result (List Token) TextFault
tokens_at zero at bytes = Ok []
tokens_at (suc k) at bytes = tokens_behind (tokens_at k) at bytes (front bytes)

-- a line is at most 1,024 bytes long; each step reads at least one byte
abbrev pub tokens_of : List ℕ → Result (List Token) TextFault
tokens_of line = if nat_lt 1024 (length line) then Err LineTooLong else tokens_at (length line) 0 line

-- other tokens in front of all that are read
abbrev pub in_front : List Token → Result (List Token) TextFault → Result (List Token) TextFault
in_front others (Ok ts) = Ok (others ++ ts)
in_front others (Err f) = Err f

-- what a call gives is this, but want of memory may stand in the place of any answer
abbrev pub Gives : {X Y : Type 0} → (X → Y) → Result X TextFault → Result Y TextFault → Type 0
Gives view result read = MatchResult result (λ x. read ≡ Ok (view x)) (λ f. f ≢ Memory refused → read ≡ Err f)
