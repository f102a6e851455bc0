-- What is told of a source is told of all that its file has.
use Rattle.std.proofs.Common.{◌≡◌, List, ℕ, Option, None, Some, IfSome, subst, ◌∙◌}
use Rattle.std.specs.Io.KnownBytes.{Appends}
use Rattle.inspect_names.specs.declared.checking.Verdict.{Verdict}
use Rattle.sbx_raw.specs.Fronts.{Wrote}
use Rattle.inspect.specs.declared.words.Form.{Form}
use Rattle.inspect.specs.Sources.{CheckTold}
use Rattle.inspect.proofs.Telling.{wrote_report}

pub check_told : (form : Form) (file old new : Option (List ℕ)) (source slice report shown : List ℕ) (verdict : Verdict) → IfSome file (λ all. source ≡ all)
    → slice ≡ source → CheckTold form slice verdict report → shown ≡ report → Appends old new shown → IfSome file (λ all. Wrote old new (CheckTold form all verdict))
check_told form None old new source slice report shown verdict whole same told is grown = tt
check_told form (Some all) old new source slice report shown verdict whole same told is grown =
    wrote_report (CheckTold form all verdict) old new report shown (subst (λ (s : List ℕ). CheckTold form s verdict report) (same ∙ whole) told) is grown
