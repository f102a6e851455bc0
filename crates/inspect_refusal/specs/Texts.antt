-- The rules in words.
use Rattle.std.specs.Prelude.{ℕ, List, codes}
use Rattle.sbx_rules.specs.declared.cause.Cause.{Cause}
use Rattle.sbx_rules.specs.declared.cause.Cause.TheVariants.{NotAnInstruction, NotAdmitted, BadShape, BadBranch}
use Rattle.sbx_rules.specs.declared.cause.Cause.TheVariants.{BadCall, UndefinedRead, ReservedRegister, Misaligned}
use Rattle.sbx_rules.specs.declared.cause.Cause.TheVariants.{OutOfBounds, ZeroDivisor, TagOverflow, UndeclaredService}
use Rattle.sbx_rules.specs.declared.cause.Cause.TheVariants.{UnkeptCells, OutOfFuel, OutOfStack, RunsPastEnd}
use Rattle.sbx_rules.specs.declared.cause.Cause.TheVariants.{UnkeptResults, BadEntry, TooDeep, NoMemory}

abbrev pub rule_text : Cause → List ℕ
rule_text NotAnInstruction = codes "the word is no instruction, or has an unused bit set"
rule_text NotAdmitted = codes "sandboxed code may not ask for what this instruction asks for"
rule_text BadShape =
    codes "the shape of a function: SAVE and RESTORE, returns and calls, delay slots, the end of a block"
rule_text BadBranch = codes "the branch goes to no block of its function, or to the first one"
rule_text BadCall = codes "the call doesn't go to the entry of a function of larger number"
rule_text UndefinedRead = codes "a location, the condition codes or Y are read while they may hold anything"
rule_text ReservedRegister =
    codes "%sp, %fp, %o7 or %i7 is used, or a register is written that isn't the function's to write"
rule_text Misaligned = codes "the address isn't shown to be a multiple of 2, 4 or 8, as the access asks for"
rule_text OutOfBounds =
    codes "the access isn't shown to lie in one region of data (`rw` for a store) or its function's frame words"
rule_text ZeroDivisor = codes "the divisor may be 0"
rule_text TagOverflow = codes "an operand isn't shown to be a multiple of 4, or the tagged result may overflow"
rule_text UndeclaredService = codes "the service isn't declared, or there is no such service"
rule_text UnkeptCells = codes "a block or a function begins with less than it declares, or declares what it can't write"
rule_text OutOfFuel =
    codes "the fuel isn't shown to last, or the budget, or a term of the fuel names no cell of its block"
rule_text OutOfStack = codes "the stack room isn't enough"
rule_text RunsPastEnd = codes "control can go past the function's last word"
rule_text UnkeptResults = codes "a result isn't shown to be as declared"
rule_text BadEntry = codes "function 0 is nobody's callee, and has parameters or returns"
rule_text TooDeep = codes "the declared call depth is less than a frame and the calls take"
rule_text (NoMemory want) = codes "memory was refused"
