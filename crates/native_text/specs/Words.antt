-- Numbers that are words.
use Rattle.std.specs.Prelude.{ℕ, ◌^◌, ◌<◌, List, [], ◌∷◌}
use Rattle.native_lang.specs.declared.program.Arm.{Arm}
use Rattle.native_text.specs.Terms.{Term, Constant, Named, Applied, Action, Sets, Loads, Stores, Divides, Gets, Puts}
use Rattle.native_text.specs.Terms.{Counts}
use Rattle.native_text.specs.Lines.{CodeLine, Label, Head, Does, Jump, Branch, Leave, Switch}
use Rattle.native_text.specs.Programs.{CodeFile}

abbrev pub IsWord : ℕ → Type 0
IsWord n = n < 2 ^ 32

abbrev pub IsWordTerm : Term → Type 0
IsWordTerm (Constant word) = IsWord word
IsWordTerm (Named x) = IsWord x
IsWordTerm (Applied operator a b) = IsWordTerm a × IsWordTerm b

abbrev pub IsWordAction : Action → Type 0
IsWordAction (Sets x e) = IsWord x × IsWordTerm e
IsWordAction (Loads x width a) = IsWord x × IsWordTerm a
IsWordAction (Stores width a e) = IsWordTerm a × IsWordTerm e
IsWordAction (Divides x over sign y a b) = IsWord x × IsWord over × IsWordTerm y × IsWordTerm a × IsWordTerm b
IsWordAction (Gets x) = IsWord x
IsWordAction (Puts e) = IsWordTerm e
IsWordAction (Counts k) = IsWord k
IsWordAction _ = Unit {0}

abbrev pub AreWordArms : List Arm → Type 0
AreWordArms [] = Unit {0}
AreWordArms (arm ∷ arms) = IsWord arm.word × IsWord arm.label × AreWordArms arms

abbrev pub IsWordLine : CodeLine → Type 0
IsWordLine (Label label) = IsWord label
IsWordLine Head = Unit {0}
IsWordLine (Does action) = IsWordAction action
IsWordLine (Jump label) = IsWord label
IsWordLine (Branch e label) = IsWordTerm e × IsWord label
IsWordLine (Leave e) = IsWordTerm e
IsWordLine (Switch x arms) = IsWord x × AreWordArms arms

abbrev pub AreWordLines : List CodeLine → Type 0
AreWordLines [] = Unit {0}
AreWordLines (line ∷ lines) = IsWordLine line × AreWordLines lines

abbrev pub AreWords : List ℕ → Type 0
AreWords [] = Unit {0}
AreWords (n ∷ ns) = IsWord n × AreWords ns

abbrev pub AreWordRows : List (List ℕ) → Type 0
AreWordRows [] = Unit {0}
AreWordRows (row ∷ rows) = AreWords row × AreWordRows rows

-- all numbers of a file are words
pub record IsWordFile (f : CodeFile) : Type 0 where
  pub data_bytes : IsWord f.data_bytes
  pub stack_bytes : IsWord f.stack_bytes
  pub image : AreWords f.image
  pub rows : AreWordRows f.rows
  pub lines : AreWordLines f.lines
