-- The values of a data directive as bytes.
use Rattle.std.specs.Prelude.{◌≡◌, ◌≢◌, ℕ, ◌-◌, ◌*◌, ◌^◌, Bool, false, not, if◌then◌else◌, ℤ, pos, ◌+ℤ◌, neg_ℤ, List}
use Rattle.std.specs.Prelude.{[], ◌++◌, drop, Option, Some, None, Result, Ok, Err, MatchResult}
use Rattle.std.specs.List.{flat_map, list_all}
use Rattle.std.specs.Int.{w8, w16, w32, to_be_bytes}
use Rattle.std.specs.Option.{is_some, is_none, option_map, option_map_or}
use Rattle.sbx_text.specs.declared.Token.{Token}
use Rattle.v8_syntax.specs.Statements.{of_bits}
use Rattle.want.specs.Wants.{refused}
use Rattle.sbx_directives.specs.declared.{directive.Width.Width, fault.DataFault.DataFault, operand.Operand.Operand}
use Rattle.sbx_directives.specs.Directives.{text_of, operands_of, is_between, value_count}

abbrev pub bytes_of_width : Width → ℕ
bytes_of_width Width.Byte = 1
bytes_of_width Width.Half = 2
bytes_of_width Width.Word = 4

-- n bits hold -2^(n-1) to 2^n - 1
abbrev pub fits : Width → ℤ → Bool
fits width z = let n = 8 * bytes_of_width width in is_between (neg_ℤ (pos (2 ^ (n - 1)))) (pos (2 ^ n - 1)) z

-- the most significant byte first
abbrev pub spelled : Width → ℤ → List ℕ
spelled Width.Byte z = to_be_bytes w8 (of_bits 256 z)
spelled Width.Half z = to_be_bytes w16 (of_bits 65536 z)
spelled Width.Word z = to_be_bytes w32 (of_bits 4294967296 z)

-- what the symbols are worth, and the line
module _ (values : List ℕ → Option ℕ) (line : List ℕ) where
  -- the whole number that an expression is, none where its symbol is unknown
  abbrev pub value_of : Operand → Option ℤ
  value_of (Operand.Number z) = Some z
  value_of (Operand.Name x) = option_map pos (values (text_of line x))
  value_of (Operand.Sum x n) = option_map (λ v. pos v +ℤ pos n) (values (text_of line x))
  value_of (Operand.Difference x n) = option_map (λ v. pos v +ℤ neg_ℤ (pos n)) (values (text_of line x))
  value_of _ = None

  abbrev pub is_known : Operand → Bool
  is_known o = is_some (value_of o)

  abbrev pub is_fit : Width → Operand → Bool
  is_fit width o = option_map_or (fits width) (value_of o) false

  abbrev pub bytes_of : Width → Operand → List ℕ
  bytes_of width o = option_map_or (spelled width) (value_of o) []

  -- why expressions have no bytes, where they have none: an unknown symbol anywhere is told before a value that does
  -- not fit
  abbrev pub misfit : Width → List Operand → Option DataFault
  misfit width os =
      if not (list_all is_known os) then Some DataFault.UnknownSymbol
      else (if not (list_all (is_fit width) os) then Some DataFault.Malformed else None)

  unfoldable pub listed : Width → List Operand → Result (List ℕ) DataFault
  listed width os =
      if is_none (value_count os) then Err DataFault.Malformed
      else (if not (list_all is_known os) then Err DataFault.UnknownSymbol
      else (if not (list_all (is_fit width) os) then Err DataFault.Malformed
      else Ok (flat_map (bytes_of width) os)))

  -- The bytes of the values behind the name of a data directive.
  abbrev pub data_of : Width → List Token → Result (List ℕ) DataFault
  data_of width tokens = listed width (operands_of line (drop 1 tokens))

-- what a call gives is this, but want of memory may stand in the place of any answer
abbrev pub Gives : Result (Unit {0}) DataFault → List ℕ → List ℕ → Result (List ℕ) DataFault → Type 0
Gives result old new meant =
    MatchResult result (λ _. (bytes : List ℕ) × (meant ≡ Ok bytes) × (new ≡ old ++ bytes))
    (λ e. (e ≢ DataFault.Memory refused → meant ≡ Err e) × (new ≡ old))
