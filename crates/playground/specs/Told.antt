-- What the calls tell of a source, of the image that bytes spell, and of a run of it.
use Rattle.std.specs.Prelude.{ℕ, ◌≡◌, List, [], Ok, Err, Option, None, IfSome, IsOk}
use Rattle.sbx_image.specs.Parts.{Parts}
use Rattle.sbx_image.specs.ImageFault.{ImageFault}
use Rattle.sbx_image.specs.Reading.{reading}
use Rattle.sbx_image.specs.Spelling.{spelling}
use Rattle.v8_map.specs.declared.TheConstants.{CODE_START}
use Rattle.sbx_asm.specs.declared.fault.AsmFault.{AsmFault}
use Rattle.sbx_asm.specs.Images.{source_image}
use Rattle.sbx_asm.specs.Items.{lines_of}
use Rattle.sbx_rules.specs.declared.cause.Refusal.{Refusal}
use Rattle.sbx_rules.specs.Verdicts.{Checked, IsFirst}
use Rattle.cmd_listing.specs.Listing.{listing}
use Rattle.fit_kept.specs.Lines.{IsAnnotated, without}
use Rattle.inspect_image.specs.Images.{image_text}
use Rattle.inspect_states.specs.Told.{IsStated}
use Rattle.inspect_json.specs.Findings.{check_json}
use Rattle.inspect_json.specs.Objects.{IsLine}
use Rattle.inspect_json.specs.Runs.{run_json}
use Rattle.inspect_names.specs.declared.checking.Verdict.{Verdict}
use Rattle.inspect_names.specs.declared.findings.Finding.{Finding}
use Rattle.inspect_names.specs.Findings.{IsCheck}
use Rattle.inspect_page.specs.Alphabet.{IsPlainText}
use Rattle.inspect_refusal.specs.Refusals.{Tells}
use Rattle.inspect_run.specs.declared.run.Run.{Run}
use Rattle.inspect_run.specs.Runs.{IsRun}
use Rattle.inspect_run.specs.Watched.{IsWatched}

-- ---- of a source

-- the object of its findings, and of a text; what people read isn't said here
abbrev pub IsCheckLine : List ℕ → List ℕ → Type 0
IsCheckLine source line = (verdict : Verdict) × (findings : List Finding) × (text : List ℕ)
    × IsCheck source verdict findings × IsLine (check_json findings text) line

-- the image that it means, spelled
abbrev pub IsImageOf : List ℕ → List ℕ → Type 0
IsImageOf source bytes = (parts : Parts) × (source_image source ≡ Ok parts) × (bytes ≡ spelling parts)

-- it means an image; what its map says isn't said here
abbrev pub IsMapOf : List ℕ → List ℕ → Type 0
IsMapOf source text = (parts : Parts) × (source_image source ≡ Ok parts)

-- without its annotations it is the source without its own, line by line, and it means an image
abbrev pub IsAnnotatedOf : List ℕ → List ℕ → Type 0
IsAnnotatedOf source text = IsAnnotated (lines_of source) (lines_of text)
    × (without (lines_of text) ≡ without (lines_of source)) × IsOk (source_image text)

-- it means no image
abbrev pub MeansNone : List ℕ → Type 0
MeansNone source = (fault : AsmFault) × (source_image source ≡ Err fault)

-- ---- of the image that bytes spell

abbrev pub IsImageText : List ℕ → List ℕ → Type 0
IsImageText bytes text = (parts : Parts) × (reading bytes ≡ Ok parts) × (text ≡ image_text parts)

-- The refusal is the image's first; where there is none, no rule is broken; and the text begins as that is told.
abbrev pub IsWhyText : List ℕ → List ℕ → Type 0
IsWhyText bytes text = (parts : Parts) × (found : Option Refusal) × (reading bytes ≡ Ok parts)
    × (found ≡ None → Checked parts) × IfSome found (IsFirst parts) × Tells found [] text

abbrev pub IsListing : List ℕ → List ℕ → Type 0
IsListing bytes text = (parts : Parts) × (reading bytes ≡ Ok parts) × (text ≡ listing CODE_START parts.words)

-- they spell none
abbrev pub SpellNone : List ℕ → Type 0
SpellNone bytes = (fault : ImageFault) × (reading bytes ≡ Err fault)

-- ---- of a run of it on an input, on so many windows, of at most so many turns

abbrev pub IsRunLine : List ℕ → ℕ → ℕ → List ℕ → List ℕ → Type 0
IsRunLine bytes windows limit input line = (parts : Parts) × (run : Run) × (reading bytes ≡ Ok parts)
    × IsRun windows parts input limit run × IsLine (run_json windows limit run) line

abbrev pub IsTraceText : List ℕ → ℕ → ℕ → List ℕ → List ℕ → Type 0
IsTraceText bytes windows limit input text =
    (parts : Parts) × (reading bytes ≡ Ok parts) × IsWatched windows parts input limit text

abbrev pub IsStatesText : List ℕ → ℕ → ℕ → List ℕ → List ℕ → Type 0
IsStatesText bytes windows limit input text =
    (parts : Parts) × (reading bytes ≡ Ok parts) × IsStated windows parts input limit text

-- ---- of the page of a run of it

-- it has no byte that could be markup; what its lines tell isn't said here
abbrev pub IsPageText : List ℕ → List ℕ → Type 0
IsPageText bytes text = (parts : Parts) × (reading bytes ≡ Ok parts) × IsPlainText text
