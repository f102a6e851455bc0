-- What is wrong with a source.
use Rattle.std.specs.Prelude.{◌≡◌, ℕ, nat_le, if◌then◌else◌, List, [], ◌∷◌, map, Ok, Option, Some, None}
use Rattle.sbx_image.specs.Parts.{Parts}
use Rattle.sbx_asm.specs.declared.fault.AsmFault.{AsmFault}
use Rattle.sbx_asm.specs.Images.{source_image}
use Rattle.sbx_asm.specs.Items.{Item, each, items_of}
use Rattle.sbx_asm.specs.Rules.{code_of}
use Rattle.inspect_names.specs.declared.rows.SourceRow.{SourceRow}
use Rattle.inspect_names.specs.Rows.{row_at}
use Rattle.inspect_check.specs.declared.faults.Faults.{Faults}
use Rattle.inspect_check.specs.Faults.{AreTold}
use Rattle.sbx_rules.specs.declared.cause.Refusal.{Refusal}
use Rattle.sbx_rules.specs.Causes.{shown_cause}
use Rattle.sbx_rules.specs.Verdicts.{Checked, IsFirst}
use Rattle.inspect_names.specs.declared.checking.Verdict.{Verdict}
use Rattle.inspect_names.specs.declared.checking.Verdict.TheVariants.{Faulty, Refused, Accepted}
use Rattle.inspect_names.specs.declared.findings.SourceCode.{SourceCode}
use Rattle.inspect_names.specs.declared.findings.SourceCode.TheVariants.{Fault, Rule}
use Rattle.inspect_names.specs.declared.findings.Finding.{Finding}

-- a fault is shown as `A2`, a rule as `V14`
abbrev pub code_text : SourceCode → List ℕ
code_text (Fault cause) = code_of cause
code_text (Rule cause) = shown_cause cause

abbrev pub finding_place : Finding → ℕ × SourceCode
finding_place f = (f.line, f.code)

abbrev pub fault_place : AsmFault → ℕ × SourceCode
fault_place f = (f.line, Fault f.cause)

-- the line of the last of some words that stands at an address or before it
abbrev pub last_line : Option ℕ → List SourceRow → ℕ → Option ℕ
last_line found [] address = found
last_line found (row ∷ rows) address =
    last_line (if nat_le row.address address then Some row.line else found) rows address

-- 1 where there is none, as there is of each word of an image
abbrev pub line_among : List SourceRow → ℕ → ℕ
line_among rows address = elim (last_line None rows address) [
  | Some line ↦ line
  | None ↦ 1
]

-- A refusal stands at the line that its word comes from.
abbrev pub refusal_place : List Item → Refusal → ℕ × SourceCode
refusal_place items refusal = (line_among (each row_at [] items) refusal.address, Rule refusal.cause)

-- A source means no image: of each of its faults, which are the one that the assembler tells and those of lines behind
-- it, the line and the number are told, in that order.
pub record IsFaulty (source : List ℕ) (fault : AsmFault) (findings : List Finding) : Type 0 where
  pub faults : Faults
  pub told : AreTold source faults
  pub first : faults.first ≡ fault
  pub places : map finding_place findings ≡ map fault_place (faults.first ∷ faults.others.items)

-- It means an image that breaks a rule, of which this is the first.
pub record IsRefused (source : List ℕ) (refusal : Refusal) : Type 0 where
  pub parts : Parts
  pub means : source_image source ≡ Ok parts
  pub first : IsFirst parts refusal

-- It means an image that breaks no rule.
pub record IsAccepted (source : List ℕ) : Type 0 where
  pub parts : Parts
  pub means : source_image source ≡ Ok parts
  pub checked : Checked parts

-- The verdict is that on the source, and the findings are what is wrong with it: of a refusal one, at the line of its
-- word.
abbrev pub IsCheck : List ℕ → Verdict → List Finding → Type 0
IsCheck source (Faulty fault) findings = IsFaulty source fault findings
IsCheck source (Refused refusal) findings =
    IsRefused source refusal × (map finding_place findings ≡ refusal_place (items_of source) refusal ∷ [])
IsCheck source Accepted findings = IsAccepted source × (findings ≡ [])
