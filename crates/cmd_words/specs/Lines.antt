-- What the words of a command line ask for: the command line as `clap` knows it, and the job that its reading of the
-- words means.
use Rattle.std.specs.Prelude.{◌≡◌, ◌≤◌, ℕ, true, false, List, [], ◌∷◌, Option, Some, None, Result, Ok, IsSomeAnd, codes}
use Rattle.std.specs.Str.Parse.{IsNumeral, digits_value}
use Rattle.clap.specs.Words.{AddsArg, AddsSubcommand, App, Row, Rule, Shape, Text, app_of, fault_of, first_of, new_rule}
use Rattle.clap.specs.Words.{subcommand_of}
use Rattle.clap.specs.declared.builder.arg.Arg.{Arg}
use Rattle.clap.specs.declared.builder.command.Command.{Command}
use Rattle.clap.specs.declared.builder.command.Command.TheViews.{out-Command as fields_of}
use Rattle.clap.specs.Simple.{new_shape}
use Rattle.clap.specs.declared.builder.action.ArgAction.TheVariants.{Set}
use Rattle.cmd_jobs.specs.declared.jobs.Job.{Job}
use Rattle.cmd_jobs.specs.declared.jobs.Job.TheVariants.{Asm, Verify, Run, List as Listing, Trace}
use Rattle.cmd_words.specs.declared.Usage.{Usage}
use Rattle.cmd_words.specs.declared.Usage.TheVariants.{Text as Told, Memory, NoRoom}

-- ---- the command line

-- a path, which has to be there
abbrev pub path_rule : Text → Rule
path_rule name = record (new_rule name) { action = Some Set; required = true }

-- a number, which stands behind `--name` where it is there
abbrev pub number_rule : Text → Rule
number_rule name = record (new_rule name) { long = Some name; action = Some Set; value_names = 1 }

abbrev pub windows_rule : Rule
windows_rule = number_rule (codes "windows")

abbrev pub limit_rule : Rule
limit_rule = number_rule (codes "limit")

abbrev pub image_rule : Rule
image_rule = path_rule (codes "IMG")

-- a command with its paths, which stand in this order, and its numbers, which stand anywhere
abbrev pub shape_with : Text → List Rule → Shape
shape_with name rules = record (new_shape name) { rules = rules }

abbrev pub asm_shape : Shape
asm_shape = shape_with (codes "asm") (path_rule (codes "SRC") ∷ path_rule (codes "OUT") ∷ [])

abbrev pub verify_shape : Shape
verify_shape = shape_with (codes "verify") (image_rule ∷ [])

abbrev pub run_shape : Shape
run_shape = shape_with (codes "run") (windows_rule ∷ image_rule ∷ [])

abbrev pub list_shape : Shape
list_shape = shape_with (codes "list") (image_rule ∷ [])

abbrev pub trace_shape : Shape
trace_shape = shape_with (codes "trace") (windows_rule ∷ limit_rule ∷ image_rule ∷ [])

-- one of the commands has to be there; the words begin with none for the program's name
abbrev pub sandbox_app : App
sandbox_app = record {
  top = record (new_shape (codes "sandbox")) { is_leaf = false; no_binary_name = true; subcommand_required = true };
  subs = asm_shape ∷ verify_shape ∷ run_shape ∷ list_shape ∷ trace_shape ∷ [];
}

-- ---- what is made of it, one after the other

-- the command has what `clap` reads of it, and nothing of it is global
abbrev pub IsMade : App → Command → Type 0
IsMade app command = (app_of command ≡ app) × ((fields_of command).has_globals ≡ false)

abbrev pub IsAlone : Shape → Command → Type 0
IsAlone shape command = IsMade (record { top = shape; subs = [] }) command

-- the sandbox before it has its commands
abbrev pub bare_shape : Shape
bare_shape = record sandbox_app.top { is_leaf = true }

-- the new command is the old one, which was made, with one argument more
abbrev pub Takes : {E : Type 0} → Result Command E → Arg → Command → Type 0
Takes old more new = (command : Command) × (old ≡ Ok command) × AddsArg command more new

-- the new command is the old one with the one below it, both of which were made
abbrev pub Adds : {E : Type 0} → Result Command E → Result Command E → Command → Type 0
Adds old below new = (command : Command) × (made : Command) × (old ≡ Ok command) × (below ≡ Ok made)
    × AddsSubcommand command made new

-- ---- what the words mean

-- the number that a text spells by decimal digits alone, from `least` to `most`; where there is no text, the usual one
abbrev pub IsGiven : ℕ → ℕ → ℕ → Option Text → ℕ → Type 0
IsGiven least most usual None number = number ≡ usual
IsGiven least most usual (Some text) number =
    IsNumeral 10 text × (number ≡ digits_value 10 text) × (least ≤ number) × (number ≤ most)

abbrev pub HasPath : Text → List Row → Text → Type 0
HasPath name found path = first_of name found ≡ Some path

abbrev pub HasWindows : List Row → ℕ → Type 0
HasWindows found = IsGiven 4 32 8 (first_of (codes "windows") found)

abbrev pub HasLimit : List Row → ℕ → Type 0
HasLimit found = IsGiven 0 9999999999 100000 (first_of (codes "limit") found)

-- a command, with what was found for its paths and numbers, means the job
abbrev pub MeansJob : Text → List Row → Job → Type 0
MeansJob name found (Asm source object) =
    (name ≡ codes "asm") × HasPath (codes "SRC") found source.now × HasPath (codes "OUT") found object.now
MeansJob name found (Verify image) = (name ≡ codes "verify") × HasPath (codes "IMG") found image.now
MeansJob name found (Run image windows) =
    (name ≡ codes "run") × HasPath (codes "IMG") found image.now × HasWindows found windows
MeansJob name found (Listing image) = (name ≡ codes "list") × HasPath (codes "IMG") found image.now
MeansJob name found (Trace image windows limit) =
    (name ≡ codes "trace") × HasPath (codes "IMG") found image.now × HasWindows found windows × HasLimit found limit

abbrev pub Means : Option (Text × List Row) → Job → Type 0
Means found job = IsSomeAnd found (λ f. MeansJob f.0 f.1 job)

-- `clap` finds no fault with the words, and the command that it reads means the job
abbrev pub AskFor : List Text → Job → Type 0
AskFor words job = (fault_of sandbox_app words ≡ []) × Means (subcommand_of sandbox_app words) job

abbrev pub IsText : Usage → Type 0
IsText (Told text) = Unit {0}
IsText (Memory want) = ⊥
IsText (NoRoom starved) = ⊥

-- words that are refused ask for no job; want of memory tells nothing of them
abbrev pub IsTrueOfWords : Usage → List Text → Type 0
IsTrueOfWords (Told text) words = (job : Job) → AskFor words job → ⊥
IsTrueOfWords (Memory want) words = Unit {0}
IsTrueOfWords (NoRoom starved) words = Unit {0}
