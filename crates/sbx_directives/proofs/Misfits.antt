-- Why values have no bytes.
use Rattle.std.proofs.Common.{◌≡◌, ℕ, Bool, true, false, List, Option, Some, None, Result, Ok, Err, refl}
use Rattle.std.specs.Prelude.{not, if◌then◌else◌}
use Rattle.std.specs.List.{flat_map, list_all}
use Rattle.std.specs.Option.{is_none}
use Rattle.std.specs.Result.{result_err}
use Rattle.sbx_directives.specs.declared.{directive.Width.Width, operand.Operand.Operand}
use Rattle.sbx_directives.specs.declared.fault.DataFault.{DataFault}
use Rattle.sbx_directives.specs.Directives.{value_count}
use Rattle.sbx_directives.specs.Data.{is_known, is_fit, bytes_of, listed}

-- what is told of those that are left, where a value before them may not fit
abbrev pub told : (Operand → Bool) → (Operand → Bool) → Option DataFault → List Operand → Option DataFault
told known fit fault os = if not (list_all known os) then Some DataFault.UnknownSymbol else (if not (list_all fit os) then Some DataFault.Malformed else fault)

untold : (malformed known fit : Bool) (bytes : List ℕ)
    → None ≡ result_err (if malformed then Err DataFault.Malformed else (if not known then Err DataFault.UnknownSymbol else (if not fit then Err DataFault.Malformed else Ok bytes)))
    → (fit ≡ true) × ((if malformed then Err DataFault.Malformed else (if not known then Err DataFault.UnknownSymbol else (if not fit then Err DataFault.Malformed else Ok bytes))) ≡ Ok bytes)
untold true known fit bytes h = absurd (cc)
untold false false fit bytes h = absurd (cc)
untold false true false bytes h = absurd (cc)
untold false true true bytes h = (refl, refl)

-- where nothing is told, all fit, and have bytes
pub all_fit : (values : List ℕ → Option ℕ) (line : List ℕ) (width : Width) (os : List Operand) → None ≡ result_err (listed values line width os)
    → (list_all (is_fit values line width) os ≡ true) × (listed values line width os ≡ Ok (flat_map (bytes_of values line width) os))
unfolding listed
all_fit values line width os h = untold (is_none (value_count os)) (list_all (is_known values line) os) (list_all (is_fit values line width) os) (flat_map (bytes_of values line width) os) h
