-- What is told of a source.
use Rattle.std.specs.Prelude.{ℕ, List}
use Rattle.inspect_names.specs.declared.checking.Verdict.{Verdict}
use Rattle.inspect_names.specs.declared.findings.Finding.{Finding}
use Rattle.inspect_names.specs.Findings.{IsCheck}
use Rattle.inspect_json.specs.Objects.{IsLine}
use Rattle.inspect_json.specs.Findings.{check_json}
use Rattle.inspect.specs.declared.words.Form.{Form}
use Rattle.inspect.specs.declared.words.Form.TheVariants.{Text, Json}

-- for programs, the object of the findings and of a text; what people read isn't said here
abbrev pub IsCheckReport : Form → List Finding → List ℕ → Type 0
IsCheckReport Text findings told = Unit {0}
IsCheckReport Json findings told = (text : List ℕ) × IsLine (check_json findings text) told

-- the verdict is that on the source, and what is told is the report of what is wrong with it
abbrev pub CheckTold : Form → List ℕ → Verdict → List ℕ → Type 0
CheckTold form source verdict told = (findings : List Finding) × IsCheck source verdict findings
    × IsCheckReport form findings told
