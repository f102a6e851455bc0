-- From what `clap` finds to the job that the words ask for.
use Rattle.std.proofs.Common.{◌∙◌, ◌≡◌, ◌≤◌, ◌≢◌, ℕ, List, [], Option, Some, None, Result, Ok, Err, refl, sym, ap, ap₂, subst, inl, inr, arith, true, false, slice_index}
use Rattle.std.specs.Prelude.{Box, Bool, IfOk, IfSome, IsErr, SomeIff, ◌||◌, ◌∷◌, ◌++◌, codes, option_map, unwrap_or}
use Rattle.std.specs.Result.{result_ok}
use Rattle.std.specs.Borrow.{Bor}
use Rattle.std.specs.Str.Parse.{IsNumeral, digits_value}
use Rattle.std.specs.Box.{box_value}
use Rattle.clap.specs.Words.{AddsSubcommand, App, HasKind, HasMatchesOf, IsAmong, Kinds, Row, Rule, Shape, Text, app_of, fault_of, first_of, first_value}
use Rattle.clap.specs.Words.{is_simple, is_simple_and_free, kind_of, rows_of, rule_of, subcommand_of, subcommand_rows, subcommand_rows_of, with_rule, with_subcommand}
use Rattle.clap.specs.declared.builder.arg.Arg.{Arg}
use Rattle.clap.specs.declared.builder.command.Command.{Command}
use Rattle.clap.proofs.OnLiterals.{clap_on_literals}
use Rattle.clap.proofs.WalkLemmas.{first_value-rows}
use Rattle.clap.specs.declared.error.Error.{Error}
use Rattle.clap.specs.declared.error.kind.ErrorKind.TheVariants.{OutOfMemory}
use Rattle.clap.specs.declared.parser.matches.ArgMatches.{ArgMatches}
use Rattle.clap.specs.declared.parser.matches.Found.{Found}
use Rattle.clap.specs.declared.parser.matches.SubCommand.{SubCommand}
use Rattle.clap.specs.declared.parser.matches.ArgMatches.TheViews.{out-SubCommand}
use Rattle.cmd_jobs.specs.declared.jobs.Job.{Job}
use Rattle.cmd_jobs.specs.declared.jobs.Job.TheVariants.{Asm, Verify, Run, List as Listing, Trace}
use Rattle.cmd_words.specs.declared.Usage.{Usage}
use Rattle.cmd_words.specs.declared.Usage.TheVariants.{Text as Told, Memory, NoRoom}
use Rattle.cmd_words.specs.Lines.{Adds, HasPath, HasWindows, IsAlone, IsGiven, IsText, IsTrueOfWords, Means, MeansJob, Takes, sandbox_app, shape_with}

-- ---- the command line is one of which `clap` says all

pub line_is_simple : is_simple sandbox_app ≡ true
unfolding clap_on_literals
line_is_simple = refl

pub line_is_free : is_simple_and_free sandbox_app ≡ true
unfolding clap_on_literals
line_is_free = refl

-- a command more below it
pub grown : (old below new : Command) (app : App) (shape : Shape) → AddsSubcommand old below new → app_of old ≡ app → IsAlone shape below
    → app_of new ≡ with_subcommand app shape
grown old below new app shape adds is alone = adds.shape alone.1 ∙ ap₂ with_subcommand is (ap (λ (a : App). a.top) alone.0)

pub grows : {E : Type 0} (old below new : Result Command E) (app : App) (shape : Shape) → IfOk new (Adds old below) → IfOk old (λ c. app_of c ≡ app)
    → IfOk below (IsAlone shape) → IfOk new (λ c. app_of c ≡ with_subcommand app shape)
grows old below (Err e) app shape adds was alone = tt
grows {E} old below (Ok new) app shape (command, made, is, lies, adds) was alone =
    grown command made new app shape adds (subst (λ (r : Result Command E). IfOk r (λ c. app_of c ≡ app)) is was)
    (subst (λ (r : Result Command E). IfOk r (IsAlone shape)) lies alone)

-- its first argument
pub first_is : {E : Type 0} (made : Result Command E) (name : Text) (first : Arg) (rule : Rule) → IfOk made (IsAlone (shape_with name (rule_of first ∷ [])))
    → rule_of first ≡ rule → IfOk made (IsAlone (shape_with name (rule ∷ [])))
first_is made name first rule alone is = subst (λ (r : Rule). IfOk made (IsAlone (shape_with name (r ∷ [])))) is alone

-- an argument more
pub takes : {E : Type 0} (old new : Result Command E) (more : Arg) (shape : Shape) (rule : Rule) → IfOk new (Takes old more) → IfOk old (IsAlone shape)
    → rule_of more ≡ rule → more.global ≡ false → IfOk new (IsAlone (record shape { rules = shape.rules ++ rule ∷ [] }))
takes old (Err e) more shape rule has alone is local = tt
takes {E} old (Ok new) more shape rule (command, made, adds) alone is local =
    let was : IsAlone shape command = subst (λ (r : Result Command E). IfOk r (IsAlone shape)) made alone in
    (adds.shape local ∙ ap₂ with_rule was.0 is, adds.globals ∙ ap₂ (λ (a b : Bool). a || b) was.1 local)

-- ---- what `clap` answers by it

pub found_by : (app : App) (words : List Text) (matches : ArgMatches) → app ≡ sandbox_app
    → (is_simple_and_free app ≡ true → fault_of app words ≡ []) → HasMatchesOf app words matches
    → (fault_of sandbox_app words ≡ []) × (subcommand_rows_of matches ≡ subcommand_of sandbox_app words)
found_by app words matches is free has = (
  ap (λ (a : App). fault_of a words) (sym is) ∙ free (ap is_simple_and_free is ∙ line_is_free),
  (has (ap is_simple is ∙ line_is_simple)).1 ∙ ap (λ (a : App). subcommand_of a words) is,
)

-- ---- a path, and a number

some_is : {X : Type 0} {x y : X} → Some x ≡ Some y → x ≡ y
some_is {X} {x} {y} e = ap (λ (o : Option X). unwrap_or o x) e

pub path_there : {E : Type 0} (path : Option (Bor Text)) (result : Result (Bor Text) E) (found : Found) (name : Text)
    → option_map (λ s. s.now) path ≡ first_value found name → path ≡ result_ok result
    → IfOk result (λ p. HasPath name (rows_of found) p.now)
path_there path (Ok p) found name is same = sym (first_value-rows found name) ∙ sym is ∙ ap (option_map (λ (s : Bor Text). s.now)) same
path_there path (Err e) found name is same = tt

pub path_missing : {E : Type 0} (path : Option (Bor Text)) (result : Result (Bor Text) E) (found : Found) (name : Text)
    → option_map (λ s. s.now) path ≡ first_value found name → path ≡ result_ok result
    → IsErr result → first_of name (rows_of found) ≡ None
path_missing path (Ok p) found name is same err = let bad : false ≡ true = err in cc
path_missing path (Err e) found name is same err = sym (first_value-rows found name) ∙ sym is ∙ ap (option_map (λ (s : Bor Text). s.now)) same

-- the clause of a function that reads a number, of a text that may be there
abbrev pub ReadsNumber : ℕ → ℕ → ℕ → Option (Bor Text) → Option ℕ → Type 0
ReadsNumber least most usual text number =
    IfSome text (λ t. SomeIff number (IsNumeral 10 t.now × (least ≤ digits_value 10 t.now) × (digits_value 10 t.now ≤ most)) (digits_value 10 t.now))
    × (text ≡ None → number ≡ Some usual)

-- a limit may be 0
pub from_zero : (most usual : ℕ) (text : Option (Bor Text)) (number : Option ℕ)
    → IfSome text (λ t. SomeIff number (IsNumeral 10 t.now × (digits_value 10 t.now ≤ most)) (digits_value 10 t.now))
    → (text ≡ None → number ≡ Some usual) → ReadsNumber 0 most usual text number
from_zero most usual None number given left = (tt, left)
from_zero most usual (Some t) None given left = ((λ p. given (p.0, p.2)), left)
from_zero most usual (Some t) (Some n) given left = (((given.0.0, omega arith, given.0.1), given.1), left)

number_given : (least most usual : ℕ) (text : Option (Bor Text)) (number : ℕ) → ReadsNumber least most usual text (Some number)
    → IsGiven least most usual (option_map (λ s. s.now) text) number
number_given least most usual None number reads = some_is (reads.1 refl)
number_given least most usual (Some t) number (((numeral, low, high), is), left) =
    (numeral, is, subst (λ (n : ℕ). least ≤ n) (sym is) low, subst (λ (n : ℕ). n ≤ most) (sym is) high)

number_other : (least most usual : ℕ) (text : Option (Bor Text)) (number : ℕ) → ReadsNumber least most usual text None
    → IsGiven least most usual (option_map (λ s. s.now) text) number → ⊥
number_other least most usual None number reads given = let no : None ≡ Some usual = reads.1 refl in cc
number_other least most usual (Some t) number reads (numeral, is, low, high) =
    reads.0 (numeral, subst (λ (n : ℕ). least ≤ n) is low, subst (λ (n : ℕ). n ≤ most) is high)

-- the same of the text that was found under a name
pub given_in : {E : Type 0} (least most usual : ℕ) (text : Option (Bor Text)) (result : Result ℕ E) (number : Option ℕ) (found : Found) (name : Text)
    → option_map (λ s. s.now) text ≡ first_value found name → number ≡ result_ok result → ReadsNumber least most usual text number
    → IfOk result (IsGiven least most usual (first_of name (rows_of found)))
given_in least most usual text (Err e) number found name is same reads = tt
given_in least most usual text (Ok n) number found name is same reads =
    subst (λ (t : Option Text). IsGiven least most usual t n) (is ∙ first_value-rows found name)
    (number_given least most usual text n (subst (ReadsNumber least most usual text) same reads))

pub other_in : {E : Type 0} (least most usual : ℕ) (text : Option (Bor Text)) (result : Result ℕ E) (number : Option ℕ) (found : Found) (name : Text)
    → option_map (λ s. s.now) text ≡ first_value found name → number ≡ result_ok result → ReadsNumber least most usual text number
    → IsErr result → (n : ℕ) → IsGiven least most usual (first_of name (rows_of found)) n → ⊥
other_in least most usual text (Ok m) number found name is same reads err n given = let bad : false ≡ true = err in cc
other_in least most usual text (Err e) number found name is same reads err n given =
    number_other least most usual text n (subst (ReadsNumber least most usual text) same reads)
    (subst (λ (t : Option Text). IsGiven least most usual t n) (sym (is ∙ first_value-rows found name)) given)

-- ---- the command that was found

module _ {Z : Type 0} where
  abbrev name_in : Option (Box SubCommand Z) → Option Text
  name_in = option_map (λ b. (out-SubCommand (box_value b)).name.now)

  abbrev rows_in : Option (Box SubCommand Z) → Option (List Row)
  rows_in met = option_map (λ p. p.1) (subcommand_rows met)

  pub met_rows : (met : Option (Box SubCommand Z)) (name : Text) (rows : List Row) → Some name ≡ name_in met → Some rows ≡ rows_in met
      → Some (name, rows) ≡ subcommand_rows met
  met_rows None name rows named found = cc
  met_rows (Some b) name rows named found = λ i. Some (some_is named i, some_is found i)

  pub met_none : (met : Option (Box SubCommand Z)) → None ≡ name_in met → None ≡ subcommand_rows met
  met_none None named = refl
  met_none (Some b) named = cc

-- ---- the job of a command

-- the first letter of a command tells it from each other
abbrev letter_of : Job → ℕ
letter_of (Asm source object) = 97
letter_of (Verify image) = 118
letter_of (Run image windows) = 114
letter_of (Listing image) = 108
letter_of (Trace image windows limit) = 116

pub means_letter : (name : Text) (found : List Row) (job : Job) → MeansJob name found job → slice_index name 0 ≡ letter_of job
means_letter name found (Asm source object) means = ap (λ (t : Text). slice_index t 0) means.0
means_letter name found (Verify image) means = ap (λ (t : Text). slice_index t 0) means.0
means_letter name found (Run image windows) means = ap (λ (t : Text). slice_index t 0) means.0
means_letter name found (Listing image) means = ap (λ (t : Text). slice_index t 0) means.0
means_letter name found (Trace image windows limit) means = ap (λ (t : Text). slice_index t 0) means.0

pub no_run : (found : List Row) → ((image : Text) (windows : ℕ) → HasPath (codes "IMG") found image → HasWindows found windows → ⊥)
    → (job : Job) → MeansJob (codes "run") found job → ⊥
no_run found none (Run image windows) means = none image.now windows means.1 means.2
no_run found none (Asm source object) means = let bad : ◌≡◌ {A = ℕ} 114 97 = means_letter (codes "run") found (Asm source object) means in absurd (omega arith)
no_run found none (Verify image) means = let bad : ◌≡◌ {A = ℕ} 114 118 = means_letter (codes "run") found (Verify image) means in absurd (omega arith)
no_run found none (Listing image) means = let bad : ◌≡◌ {A = ℕ} 114 108 = means_letter (codes "run") found (Listing image) means in absurd (omega arith)
no_run found none (Trace image windows limit) means = let bad : ◌≡◌ {A = ℕ} 114 116 = means_letter (codes "run") found (Trace image windows limit) means in absurd (omega arith)

-- a command without the image that it needs
pub no_image : (name : Text) (found : List Row) → name ≢ codes "asm" → first_of (codes "IMG") found ≡ None → (job : Job) → MeansJob name found job → ⊥
no_image name found other none (Asm source object) means = other means.0
no_image name found other none (Verify image) means = let bad : None ≡ Some image.now = sym none ∙ means.1 in cc
no_image name found other none (Run image windows) means = let bad : None ≡ Some image.now = sym none ∙ means.1 in cc
no_image name found other none (Listing image) means = let bad : None ≡ Some image.now = sym none ∙ means.1 in cc
no_image name found other none (Trace image windows limit) means = let bad : None ≡ Some image.now = sym none ∙ means.1 in cc

-- ---- words that are refused

-- by an error of `clap`
pub refused_by : (words : List Text) (error : Error) (usage : Usage) → HasKind (fault_of sandbox_app words) error
    → (IsText usage → kind_of error ≢ OutOfMemory) → IsTrueOfWords usage words
refused_by words error (Told text) (inl memory) told = absurd (told tt memory)
refused_by words error (Told text) (inr among) told = λ job asked. subst (λ (kinds : Kinds). IsAmong (kind_of error) kinds) asked.0 among
refused_by words error (Memory want) kind told = tt
refused_by words error (NoRoom starved) kind told = tt

pub refused_on : (app : App) (words : List Text) (error : Error) (usage : Usage) → app ≡ sandbox_app
    → (is_simple_and_free app ≡ true → HasKind (fault_of app words) error) → (IsText usage → kind_of error ≢ OutOfMemory)
    → IsTrueOfWords usage words
refused_on app words error usage is free told =
    refused_by words error usage
    (subst (λ (a : App). HasKind (fault_of a words) error) is (free (ap is_simple_and_free is ∙ line_is_free))) told

-- by what they lack
pub lacking : (words : List Text) (usage : Usage) (found : Option (Text × List Row)) → found ≡ subcommand_of sandbox_app words
    → ((job : Job) → Means found job → ⊥) → IsTrueOfWords usage words
lacking words (Told text) found is none = λ job asked. none job (subst (λ (f : Option (Text × List Row)). Means f job) (sym is) asked.1)
lacking words (Memory want) found is none = tt
lacking words (NoRoom starved) found is none = tt
