-- What it means that a result, or a word, of another tool is right by the tables here.
use Rattle.std.specs.Prelude.{◌≡◌, ℕ, Option, Some, None, if◌then◌else◌}
use Rattle.v8_formats.specs.declared.instr.Instr.{Instr}
use Rattle.v8_formats.specs.declared.instr.Instr.TheVariants.{Undefined}
use Rattle.v8_formats.specs.Table.{meaning}
use Rattle.v8_formats.specs.Spelling.{spelling}
use Rattle.v8_alu.specs.declared.AluOut.{AluOut}
use Rattle.v8_alu.specs.declared.Division.{Division}
use Rattle.v8_alu.specs.declared.Op.{Op}
use Rattle.v8_alu.specs.declared.Op.TheVariants.{TaddCc, TsubCc}
use Rattle.v8_alu.specs.declared.TaggedOp.{TaggedOp}
use Rattle.v8_alu.specs.declared.TaggedOp.TheVariants.{TaggedAdd, TaggedSub}
use Rattle.v8_alu.specs.Outcomes.{outcome, division_of, tagged_outcome}
use Rattle.v8_vectors.specs.declared.results.Operation.{Operation}
use Rattle.v8_vectors.specs.declared.results.Operation.TheVariants.{Plain, Quotient, Tagged}
use Rattle.v8_vectors.specs.declared.results.Case.{Case}

-- the instruction of a row of the format table
abbrev pub IsDefined : Instr → Type 0
IsDefined (Undefined w) = ⊥
IsDefined _ = Unit {0}

-- the word means an instruction, and is how that instruction is spelled
abbrev pub IsSpelledAgain : ℕ → Type 0
IsSpelledAgain w = IsDefined (meaning w) × (spelling (meaning w) ≡ w)

-- the operation with the same result that never traps
abbrev pub untrapped : TaggedOp → Op
untrapped TaggedAdd = TaddCc
untrapped TaggedSub = TsubCc

-- what a trapping form has where its operation has this: nothing at an overflow
abbrev pub unless_overflow : AluOut → Option AluOut
unless_overflow r = if r.icc.v then None else Some r

-- value, codes and Y that the tool tells are those of an operation
abbrev pub IsGivenBy : Op → Case → Type 0
IsGivenBy op c = outcome op c.a c.b c.icc c.y ≡ c.there

-- those of a division, which has a quotient
abbrev pub IsQuotientOf : Division → Case → Type 0
IsQuotientOf op c = division_of op c.a c.b c.icc c.y ≡ Some c.there

-- those of a trapping form, which has none at an overflow
abbrev pub IsGivenUnlessOverflow : TaggedOp → Case → Type 0
IsGivenUnlessOverflow op c = tagged_outcome op c.a c.b c.icc c.y ≡ unless_overflow c.there

-- those of what was run; of a tagged operation, also those of the form that traps
abbrev pub Holds : Operation → Case → Type 0
Holds (Plain op) c = IsGivenBy op c
Holds (Quotient op) c = IsQuotientOf op c
Holds (Tagged op) c = IsGivenBy (untrapped op) c × IsGivenUnlessOverflow op c
