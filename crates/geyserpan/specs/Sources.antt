-- How the fault of a source is told.
use Rattle.std.specs.Prelude.{◌≡◌, ◌≢◌, ℕ, ◌^◌, ◌-◌, ◌<◌, ◌++◌, min, List, Ok, Err, drop, length}
use Rattle.sbx_image.specs.Parts.{Parts}
use Rattle.sbx_image.specs.Spelling.{spelling}
use Rattle.sbx_text.specs.declared.fault.TextFault.TheVariants as texts
use Rattle.v8_syntax.specs.declared.fault.SyntaxFault.TheVariants as syntaxes
use Rattle.sbx_asm.specs.Images.{source_image}
use Rattle.sbx_asm.specs.declared.fault.AsmFault.{AsmFault}
use Rattle.sbx_asm.specs.declared.fault.Cause.{Cause}
use Rattle.sbx_asm.specs.declared.fault.Cause.TheVariants as causes
use Rattle.geyserpan.specs.declared.terms.Why.{Why}

-- X1 to X4, S1 to S5 and A1 to A4, counted from 1; 0 where memory was refused
abbrev pub cause_number : Cause → ℕ
cause_number (causes.Text texts.NotAscii) = 1
cause_number (causes.Text texts.BadCharacter) = 2
cause_number (causes.Text texts.NumberTooLarge) = 3
cause_number (causes.Text texts.LineTooLong) = 4
cause_number (causes.Text (texts.Memory want)) = 0
cause_number (causes.Syntax syntaxes.UnknownMnemonic) = 5
cause_number (causes.Syntax syntaxes.Shape) = 6
cause_number (causes.Syntax syntaxes.Immediate) = 7
cause_number (causes.Syntax syntaxes.UnknownSymbol) = 8
cause_number (causes.Syntax syntaxes.Target) = 9
cause_number causes.DuplicateLabel = 10
cause_number causes.Directive = 11
cause_number causes.Limit = 12
cause_number causes.Annotation = 13
cause_number (causes.Memory want) = 0

-- a line beyond the greatest number that is told is told as that
abbrev pub line_shown : ℕ → ℕ
line_shown line = min line (2 ^ 32 - 1)

-- the room begins with the image that the source means, goes on as it was, and its length is told
abbrev pub HasImage : List ℕ → List ℕ → List ℕ → ℕ → Type 0
HasImage source before after needed =
    (parts : Parts) × (source_image source ≡ Ok parts) × (after ≡ spelling parts ++ drop needed before)
    × (needed ≡ length (spelling parts))

-- the length of the image that the source means is told, and the room is shorter
abbrev pub NeedsMore : List ℕ → List ℕ → ℕ → Type 0
NeedsMore source before needed =
    (parts : Parts) × (source_image source ≡ Ok parts) × (needed ≡ length (spelling parts)) × (length before < needed)

-- what is told of a cause
abbrev pub TellsCause : AsmFault → Why → Type 0
TellsCause fault why = (why.number ≡ cause_number fault.cause) × (why.number ≢ 0)
    × (why.address ≡ line_shown fault.line)

-- the source means no image, for this cause at this line
pub record HasFault (source : List ℕ) (why : Why) : Type 0 where
  pub fault : AsmFault
  pub is : source_image source ≡ Err fault
  pub number : why.number ≡ cause_number fault.cause
  pub line : why.address ≡ line_shown fault.line
