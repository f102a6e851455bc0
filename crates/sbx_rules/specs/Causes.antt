-- The rules' numbers, and how a refusal is shown.
use Rattle.std.specs.Prelude.{ℕ, ◌-◌, ◌^◌, false, true, List, [], ◌++◌, codes}
use Rattle.std.specs.Fmt.{decimal, digits, format_spec, padded_integral}
use Rattle.sbx_rules.specs.declared.cause.Cause.{Cause}
use Rattle.sbx_rules.specs.declared.cause.Cause.TheVariants.{NotAnInstruction, NotAdmitted, BadShape, BadBranch}
use Rattle.sbx_rules.specs.declared.cause.Cause.TheVariants.{BadCall, UndefinedRead, ReservedRegister, Misaligned}
use Rattle.sbx_rules.specs.declared.cause.Cause.TheVariants.{OutOfBounds, ZeroDivisor, TagOverflow, UndeclaredService}
use Rattle.sbx_rules.specs.declared.cause.Cause.TheVariants.{UnkeptCells, OutOfFuel, OutOfStack, RunsPastEnd}
use Rattle.sbx_rules.specs.declared.cause.Cause.TheVariants.{UnkeptResults, BadEntry, TooDeep, NoMemory}
use Rattle.sbx_rules.specs.declared.cause.Refusal.{Refusal}

abbrev pub number_of : Cause → ℕ
number_of NotAnInstruction = 1
number_of NotAdmitted = 2
number_of BadShape = 3
number_of BadBranch = 4
number_of BadCall = 5
number_of UndefinedRead = 6
number_of ReservedRegister = 7
number_of Misaligned = 8
number_of OutOfBounds = 9
number_of ZeroDivisor = 10
number_of TagOverflow = 11
number_of UndeclaredService = 12
number_of UnkeptCells = 13
number_of OutOfFuel = 14
number_of OutOfStack = 15
number_of RunsPastEnd = 16
number_of UnkeptResults = 17
number_of BadEntry = 18
number_of TooDeep = 20
number_of (NoMemory want) = 19

-- a rule is shown by its number
abbrev pub shown_cause : Cause → List ℕ
shown_cause NotAnInstruction = codes "V1"
shown_cause NotAdmitted = codes "V2"
shown_cause BadShape = codes "V3"
shown_cause BadBranch = codes "V4"
shown_cause BadCall = codes "V5"
shown_cause UndefinedRead = codes "V6"
shown_cause ReservedRegister = codes "V7"
shown_cause Misaligned = codes "V8"
shown_cause OutOfBounds = codes "V9"
shown_cause ZeroDivisor = codes "V10"
shown_cause TagOverflow = codes "V11"
shown_cause UndeclaredService = codes "V12"
shown_cause UnkeptCells = codes "V13"
shown_cause OutOfFuel = codes "V14"
shown_cause OutOfStack = codes "V15"
shown_cause RunsPastEnd = codes "V16"
shown_cause UnkeptResults = codes "V17"
shown_cause BadEntry = codes "V18"
shown_cause TooDeep = codes "V20"
shown_cause (NoMemory want) = codes "V19"

-- a word in hexadecimal, of eight digits
abbrev pub eight_digits : ℕ → List ℕ
eight_digits n = padded_integral (format_spec 32 0 4 8 (2 ^ 64 - 1)) false [] (digits 16 true n)

abbrev pub shown : Refusal → List ℕ
shown r = codes "refused "
    ++ (shown_cause r.cause
    ++ (codes " in function " ++ (decimal r.function ++ (codes " at " ++ eight_digits r.address))))
