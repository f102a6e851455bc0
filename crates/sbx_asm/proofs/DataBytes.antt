-- The values of a data directive are bytes.
use Rattle.std.proofs.Common.{ℕ, zero, suc, ◌<◌, ℤ, List, [], ◌∷◌, Option, None, Some, Result, Ok, IfOk, arith}
use Rattle.std.specs.Prelude.{not, drop}
use Rattle.std.specs.Option.{is_none, option_map_or}
use Rattle.std.specs.List.{AllByRecursion, flat_map, list_all}
use Rattle.std.specs.Int.{w8, w16, w32, to_be_bytes}
use Rattle.std.proofs.lemmas.Bool.{cond_both}
use Rattle.sbx_text.specs.declared.Token.{Token}
use Rattle.sbx_image.specs.Spelling.{IsBytes}
use Rattle.sbx_directives.specs.declared.directive.Width.{Width}
use Rattle.sbx_directives.specs.declared.directive.Width.TheVariants as widths
use Rattle.sbx_directives.specs.declared.fault.DataFault.{DataFault}
use Rattle.sbx_directives.specs.declared.operand.Operand.{Operand}
use Rattle.sbx_directives.specs.Directives.{operands_of, value_count}
use Rattle.v8_syntax.specs.Statements.{of_bits}
use Rattle.sbx_directives.specs.Data.{spelled, value_of, is_known, is_fit, bytes_of, listed, data_of}
use Rattle.sbx_asm.proofs.Wholes.{flat_all}

abbrev pub Bytes : List ℕ → Type 0
Bytes bs = AllByRecursion (λ b. b < 256) bs

-- by number, 0 past the end
pub numbered_bytes : (bs : List ℕ) → Bytes bs → IsBytes bs
numbered_bytes [] h i = omega arith
numbered_bytes (b ∷ bs) h zero = h.0
numbered_bytes (b ∷ bs) h (suc i) = numbered_bytes bs h.1 i

one_byte : (n : ℕ) → Bytes (to_be_bytes w8 n)
one_byte n = (omega arith, tt)

two_bytes : (n : ℕ) → Bytes (to_be_bytes w16 n)
two_bytes n = (omega arith, (omega arith, tt))

four_bytes : (n : ℕ) → Bytes (to_be_bytes w32 n)
four_bytes n = (omega arith, (omega arith, (omega arith, (omega arith, tt))))

spelled_bytes : (width : Width) (z : ℤ) → Bytes (spelled width z)
spelled_bytes widths.Byte z = one_byte (of_bits 256 z)
spelled_bytes widths.Half z = two_bytes (of_bits 65536 z)
spelled_bytes widths.Word z = four_bytes (of_bits 4294967296 z)

some_bytes : (width : Width) (o : Option ℤ) → Bytes (option_map_or (spelled width) o [])
some_bytes width (Some z) = spelled_bytes width z
some_bytes width None = tt

abbrev Good : Result (List ℕ) DataFault → Type 0
Good r = IfOk r Bytes

module _ (values : List ℕ → Option ℕ) (line : List ℕ) (width : Width) where
  listed_bytes : (os : List Operand) → Good (listed values line width os)
  unfolding listed
  listed_bytes os =
      cond_both (is_none (value_count os)) _ _ Good (λ _. tt)
      (λ _. cond_both (not (list_all (is_known values line) os)) _ _ Good (λ _. tt)
      (λ _. cond_both (not (list_all (is_fit values line width) os)) _ (Ok (flat_map (bytes_of values line width) os)) Good (λ _. tt)
      (λ _. flat_all (λ b. b < 256) (bytes_of values line width) (λ o. some_bytes width (value_of values line o)) os)))

  pub data_bytes : (ts : List Token) → IfOk (data_of values line width ts) Bytes
  data_bytes ts = listed_bytes (operands_of line (drop 1 ts))
