-- What a line is told for by itself, whatever stands around it: its text, its statement, its operands, its values, and
-- its labels. The rules are those of the source's meaning.
use Rattle.std.specs.Prelude.{ℕ, Bool, true, false, ◌==◌, nat_lt, if◌then◌else◌, List, [], ◌∷◌, map, Option, None, Some}
use Rattle.std.specs.Prelude.{Ok, Err}
use Rattle.std.specs.List.{list_any}
use Rattle.std.specs.Option.{option_map}
use Rattle.v8_syntax.specs.declared.fault.SyntaxFault.TheVariants.{UnknownSymbol}
use Rattle.sbx_directives.specs.declared.directive.Directive.TheVariants as directives
use Rattle.sbx_directives.specs.declared.directive.Statement.TheVariants as statements
use Rattle.sbx_directives.specs.declared.fault.DataFault.{DataFault}
use Rattle.sbx_directives.specs.declared.fault.DataFault.TheVariants as data_faults
use Rattle.sbx_asm.specs.declared.fault.AsmFault.{AsmFault}
use Rattle.sbx_asm.specs.declared.fault.Cause.{Cause}
use Rattle.sbx_asm.specs.declared.fault.Cause.TheVariants as causes
use Rattle.sbx_asm.specs.Items.{Item}
use Rattle.sbx_asm.specs.Rules.{Values, at, syntax_fault_of, value_fault_of}

-- a malformed list of values, or one that doesn't fit; an unknown symbol
abbrev pub value_cause : Option DataFault → Option Cause
value_cause (Some data_faults.UnknownSymbol) = Some (causes.Syntax UnknownSymbol)
value_cause (Some data_faults.Malformed) = Some causes.Directive
value_cause _ = None

-- why a line means nothing by itself, where labels are worth so much
abbrev pub cause_alone : Values → List Item → Item → Option Cause
cause_alone values before i = elim i.said [
  | Err f ↦ Some (causes.Text f)
  | Ok statements.Instruction ↦ option_map causes.Syntax (syntax_fault_of values before i)
  | Ok (statements.Malformed k name) ↦ Some causes.Directive
  | Ok (statements.Directive (directives.Values w n)) ↦ value_cause (value_fault_of values i)
  | _ ↦ None
]

-- of a line one of whose labels stands before already: that is told before operands and values, and behind a fault of
-- the text or a statement
abbrev pub with_label : Bool → Option Cause → Option Cause
with_label again (Some (causes.Text f)) = Some (causes.Text f)
with_label again (Some (causes.Syntax f)) = Some (causes.Syntax f)
with_label true cause = Some causes.DuplicateLabel
with_label false cause = cause

abbrev pub optional : {A : Type 0} → Option A → List A
optional None = []
optional (Some x) = x ∷ []

-- why a line behind that number is told, where labels are worth so much and some of them stand twice
abbrev pub cause_behind : Values → List AsmFault → ℕ → List Item → Item → Option Cause
cause_behind values repeats line before i =
    if nat_lt line i.number then with_label (list_any (λ (f : AsmFault). f.line == i.number) repeats)
    (cause_alone values before i) else None

-- of each such line one fault at most
abbrev pub found_at : Values → List AsmFault → ℕ → List Item → Item → List Item → List AsmFault
found_at values repeats line before i after =
    optional (option_map (at i.number) (cause_behind values repeats line before i))
