-- What holds of the meaning of sources, as anyone knows assemblers.
use Rattle.std.specs.Prelude.{◌≡◌, ℕ, ◌+◌, ◌-◌, ◌*◌, ◌/◌, ◌%◌, ◌≤◌, ◌<◌, ◌⊎◌, true, false, ◌&&◌, ◌==◌, nat_le}
use Rattle.std.specs.Prelude.{if◌then◌else◌, List, [], ◌∷◌, ◌++◌, length, map, reverse, slice_get, Option, None, Some}
use Rattle.std.specs.Prelude.{Ok, Err}
use Rattle.std.specs.List.{AllByRecursion}
use Rattle.v8_map.specs.declared.TheConstants.{CODE_START}
use Rattle.sbx_text.specs.Tokens.{tokens_of}
use Rattle.sbx_image.specs.Function.{Function}
use Rattle.sbx_image.specs.Regions.{data_at, start_of, page_rights}
use Rattle.sbx_image.specs.Spelling.{IsTyped}
use Rattle.sbx_directives.specs.declared.directive.Statement.TheVariants as statements
use Rattle.sbx_asm.specs.Items.{Item, item_of, items_of, each, count, starts_function, is_region}
use Rattle.sbx_asm.specs.Addresses.{Label, code_address, label_address, worth_in, values_of}
use Rattle.sbx_asm.specs.Rules.{AsmFault, at, is_earlier, duplicates, faults_of, least_of}
use Rattle.sbx_asm.specs.Images.{Parts, words_at, bytes_at, image_of, source_image, whole_cause, IsOfTheWhole}

-- each of its numbers is one that its field can hold, and its regions have bytes
abbrev pub MeantImagesFitTheirFields : Type 0
MeantImagesFitTheirFields = (source : List ℕ) (parts : Parts) → source_image source ≡ Ok parts → IsTyped parts

-- The code of a source without faults is the words of its statements, one after the other.
abbrev pub CodeIsItsStatements : Type 0
CodeIsItsStatements = (source : List ℕ) (parts : Parts) → source_image source ≡ Ok parts
    → (faults_of (items_of source) ≡ []) × (parts.words ≡ each (words_at (values_of (items_of source))) []
    (items_of source))

-- the word of the code at an address
abbrev pub code_at : List ℕ → ℕ → Option ℕ
code_at words address =
    if nat_le CODE_START address && (address % 4 == 0) then slice_get words ((address - CODE_START) / 4) else None

-- The code lies in the image where the labels say: the words of each statement are those of the code from the address
-- on that the line's labels have.
abbrev pub CodeLiesWhereLabelsSay : Type 0
CodeLiesWhereLabelsSay = (source : List ℕ) (parts : Parts) → source_image source ≡ Ok parts
    → (front after : List Item) (i : Item) (k w : ℕ) → items_of source ≡ front ++ i ∷ after
    → slice_get (words_at (values_of (items_of source)) (reverse front) i after) k ≡ Some w →
    code_at parts.words (label_address (reverse front) + 4 * k) ≡ Some w

-- So do its functions: a `.function` begins the one with its number, counted from 0, whose entry is the address of the
-- code at its line.
abbrev pub FunctionsBeginWhereNamesSay : Type 0
FunctionsBeginWhereNamesSay = (source : List ℕ) (parts : Parts) → source_image source ≡ Ok parts
    → (front after : List Item) (i : Item) → items_of source ≡ front ++ i ∷ after → starts_function i ≡ true
    → slice_get (map
    (λ (f : Function). f.entry) parts.functions) (count starts_function front) ≡ Some (code_address (reverse front))

-- The data of a source without faults lie in its image where the labels say: the bytes of each line are those of the
-- image from the address on that the line's labels have.
abbrev pub DataLieWhereLabelsSay : Type 0
DataLieWhereLabelsSay = (source : List ℕ) (parts : Parts) → source_image source ≡ Ok parts
    → (front after : List Item) (i : Item) (k b : ℕ) → items_of source ≡ front ++ i ∷ after
    → slice_get (bytes_at (values_of (items_of source)) (reverse front) i after) k ≡ Some b →
    data_at parts.regions (label_address (reverse front) + k) ≡ Some b

-- So do its regions: a `.region` begins the one with its number, counted from 0, and a label right behind it points to
-- the first byte.
abbrev pub RegionsBeginWhereLabelsSay : Type 0
RegionsBeginWhereLabelsSay = (source : List ℕ) (parts : Parts) → source_image source ≡ Ok parts
    → (front after : List Item) (i : Item) → items_of source ≡ front ++ i ∷ after → is_region i ≡ true
    → start_of parts.regions (count is_region front) ≡ Some (label_address (i ∷ reverse front))

-- Two sources that begin with the same lines, and whose labels are worth the same, begin with the same words: those
-- that these lines mean with the labels' worth, whatever follows.
abbrev pub WordsLookAheadByLabelsAlone : Type 0
WordsLookAheadByLabelsAlone = (front after other : List Item) → values_of (front ++ after) ≡ values_of (front ++ other)
    → ((image_of (front ++ after)).words ≡ each (words_at (values_of (front ++ after))) [] front
    ++ each (words_at (values_of (front ++ after))) (reverse front) after)
    × ((image_of (front ++ other)).words ≡ each (words_at (values_of (front ++ after))) [] front
    ++ each (words_at (values_of (front ++ after))) (reverse front) other)

-- a blank line or a comment has no label and says nothing
abbrev pub BlankLinesSayNothing : Type 0
BlankLinesSayNothing = (number : ℕ) (line : List ℕ) → tokens_of line ≡ Ok [] →
    ((item_of (number, line)).labels ≡ []) × ((item_of (number, line)).said ≡ Ok statements.Nothing)

-- A line that says nothing may stand anywhere: the same fault is told, or the image is the same.
abbrev pub BlankLinesChangeNothing : Type 0
BlankLinesChangeNothing = (front after : List Item) (i : Item) → i.labels ≡ [] → i.said ≡ Ok statements.Nothing →
    i.number ≤ 1000000
    → (least_of (faults_of (front ++ i ∷ after)) ≡ least_of (faults_of (front ++ after)))
    × (least_of (faults_of (front ++ after)) ≡ None → image_of (front ++ i ∷ after) ≡ image_of (front ++ after))

-- Numbers of lines up to 1,000,000 show in the lines of faults, and nowhere else.
abbrev pub NumbersShowInFaultsAlone : Type 0
NumbersShowInFaultsAlone = (number : ℕ → ℕ) (items : List Item) →
    AllByRecursion (λ i. (i.number ≤ 1000000) × (number i.number ≤ 1000000)) items →
    let renumbered : List Item = map (λ (i : Item). record i { number = number i.number }) items in
    (image_of renumbered ≡ image_of items)
    × (faults_of renumbered ≡ map (λ (f : AsmFault). record f { line = number f.line }) (faults_of items))

-- Labels may be renamed one to one: each new name is worth what the old one was, and the same labels stand twice.
abbrev pub LabelsMayBeRenamed : Type 0
LabelsMayBeRenamed = (rename : List ℕ → List ℕ) → ((a b : List ℕ) → rename a ≡ rename b → a ≡ b) →
    (labels : List Label) →
    let renamed : List Label = map (λ (l : Label). record l { name = rename l.name }) labels in
    ((name : List ℕ) → worth_in renamed (rename name) ≡ worth_in labels name)
    × (duplicates [] renamed ≡ duplicates [] labels)

-- What is told is a fault of the lines, of which no other is earlier; else they have none, and it is told of the whole
-- at the line after the last.
abbrev pub TheLeastFaultIsTold : Type 0
TheLeastFaultIsTold = (source : List ℕ) (f : AsmFault) → source_image source ≡ Err f →
    let faults : List AsmFault = faults_of (items_of source) in
    (((front : List AsmFault) × (rest : List AsmFault) × (faults ≡ front ++ f ∷ rest))
    × AllByRecursion (λ g. is_earlier g f ≡ false) faults)
    ⊎ ((faults ≡ []) × (f ≡ at (length (items_of source) + 1) (whole_cause (image_of (items_of source)))))

-- Lines without faults are an image, where one of them is a `.function` and the data take at most 64 pages.
abbrev pub LinesWithoutFaultsAreAnImage : Type 0
LinesWithoutFaultsAreAnImage = (source : List ℕ) → faults_of (items_of source) ≡ [] →
    1 ≤ count starts_function (items_of source)
    → length (page_rights (image_of (items_of source)).regions) ≤ 64 →
    source_image source ≡ Ok (image_of (items_of source))

-- So what is told at the line after the last is one of two: no line has a fault, and either there is no `.function`, or
-- the data take more than 64 pages.
abbrev pub TwoFaultsAreOfTheWhole : Type 0
TwoFaultsAreOfTheWhole = (source : List ℕ) (f : AsmFault) → source_image source ≡ Err f →
    f.line ≡ length (items_of source) + 1 → IsOfTheWhole (items_of source) f.cause
