-- What all lines say, one after the other, or the first of them that isn't right.
use Rattle.std.proofs.Common.{◌≡◌, ℕ, ◌+◌, ◌≤◌, List, [], ◌∷◌, ◌++◌, length, map, Result, Ok, Err, refl, sym, ap, ◌∙◌, arith}
use Rattle.std.specs.Prelude.{All, IsOk, is_ok, fold}
use Rattle.std.proofs.lemmas.List.Elements.{All-nil, All-cons}
use Rattle.inspect_start.specs.declared.fault.StartCause.{StartCause}
use Rattle.inspect_start.specs.declared.fault.StartFault.{StartFault}
use Rattle.inspect_start.specs.Lines.{lines_of}
use Rattle.inspect_start.specs.Items.{Item, item_of}
use Rattle.inspect_start.specs.Files.{IsFirst, Said, set}

abbrev next : (Said → Result Said (ℕ × StartCause)) → ℕ → Said → Result Item StartCause → Result Said (ℕ × StartCause)
next more number s (Ok item) = more (set s item)
next more number s (Err cause) = Err (number + 1, cause)

-- what lines say behind what was said, or what is wrong with the first that isn't right, by its number
abbrev pub reads : ℕ → List (List ℕ) → ℕ → Said → Result Said (ℕ × StartCause)
reads windows [] number s = Ok s
reads windows (line ∷ lines) number s = next (reads windows lines (number + 1)) number s (item_of windows line)

module _ (windows : ℕ) where
  pub read_on : (lines more : List (List ℕ)) (line : List ℕ) (number : ℕ) (s t : Said) (item : Item) → lines ≡ line ∷ more → item_of windows line ≡ Ok item → t ≡ set s item
      → reads windows more (number + 1) t ≡ reads windows lines number s
  read_on lines more line number s t item first is now =
      ap (reads windows more (number + 1)) now
      ∙ ap (next (reads windows more (number + 1)) number s) (sym is)
      ∙ ap (λ (all : List (List ℕ)). reads windows all number s) (sym first)

  pub read_no_further : (lines more : List (List ℕ)) (line : List ℕ) (number : ℕ) (s : Said) (cause : StartCause) → lines ≡ line ∷ more → item_of windows line ≡ Err cause
      → reads windows lines number s ≡ Err (number + 1, cause)
  read_no_further lines more line number s cause first is =
      ap (λ (all : List (List ℕ)). reads windows all number s) first ∙ ap (next (reads windows more (number + 1)) number s) is

  -- the items that lead from what was said to what is said
  abbrev pub Leads : List (List ℕ) → Said → Said → Type 0
  Leads lines s t = (items : List Item) × (map (item_of windows) lines ≡ map Ok items) × (t ≡ fold set s items)

  lead : (line : List ℕ) (lines : List (List ℕ)) (number : ℕ) (s t : Said) (r : Result Item StartCause) → item_of windows line ≡ r
      → ((u : Said) → reads windows lines (number + 1) u ≡ Ok t → Leads lines u t) → next (reads windows lines (number + 1)) number s r ≡ Ok t → Leads (line ∷ lines) s t
  lead line lines number s t (Ok item) is later h =
      let rest : Leads lines (set s item) t = later (set s item) h in
      (item ∷ rest.0, cc (is, rest.1), rest.2)
  lead line lines number s t (Err cause) is later h = absurd (cc h)

  pub read_all : (lines : List (List ℕ)) (number : ℕ) (s t : Said) → reads windows lines number s ≡ Ok t → Leads lines s t
  read_all [] number s t h = ([], refl, cc h)
  read_all (line ∷ lines) number s t h = lead line lines number s t (item_of windows line) refl (λ u. read_all lines (number + 1) u t) h

  -- the first line that isn't right, behind so many
  pub record Breaks (lines : List (List ℕ)) (start : ℕ) (fault : ℕ × StartCause) : Type 0 where
    pub before : List (List ℕ)
    pub line : List ℕ
    pub after : List (List ℕ)
    pub is : lines ≡ before ++ line ∷ after
    pub right : All (λ l. IsOk (item_of windows l)) before
    pub number : fault.0 ≡ start + length before + 1
    pub wrong : item_of windows line ≡ Err fault.1

  breach : (line : List ℕ) (lines : List (List ℕ)) (number : ℕ) (s : Said) (fault : ℕ × StartCause) (r : Result Item StartCause) → item_of windows line ≡ r
      → ((u : Said) → reads windows lines (number + 1) u ≡ Err fault → Breaks lines (number + 1) fault) → next (reads windows lines (number + 1)) number s r ≡ Err fault
      → Breaks (line ∷ lines) number fault
  breach line lines number s fault (Ok item) is later h =
      let rest : Breaks lines (number + 1) fault = later (set s item) h in
      record {
        before = line ∷ rest.before;
        line = rest.line;
        after = rest.after;
        is = ap (λ (all : List (List ℕ)). line ∷ all) rest.is;
        right = All-cons (λ l. IsOk (item_of windows l)) line rest.before (ap is_ok is) rest.right;
        number = omega (arith, rest.number);
        wrong = rest.wrong;
      }
  breach line lines number s fault (Err cause) is later h =
      let told : (number + 1, cause) ≡ fault = cc h in
      record {
        before = [];
        line = line;
        after = lines;
        is = refl;
        right = All-nil (λ l. IsOk (item_of windows l));
        number = sym (ap (λ (f : ℕ × StartCause). f.0) told) ∙ omega arith;
        wrong = is ∙ ap (λ (f : ℕ × StartCause). Err f.1) told;
      }

  pub read_fault : (lines : List (List ℕ)) (number : ℕ) (s : Said) (fault : ℕ × StartCause) → reads windows lines number s ≡ Err fault → Breaks lines number fault
  read_fault [] number s fault h = absurd (cc h)
  read_fault (line ∷ lines) number s fault h = breach line lines number s fault (item_of windows line) refl (λ u. read_fault lines (number + 1) u fault) h

  -- as it is told of a file
  pub first_fault : (file : List ℕ) (s : Said) (fault : StartFault) → reads windows (lines_of file) 0 s ≡ Err (fault.line, fault.cause) → IsFirst windows file fault
  first_fault file s fault h =
      let broken : Breaks (lines_of file) 0 (fault.line, fault.cause) = read_fault (lines_of file) 0 s (fault.line, fault.cause) h in
      record {
        before = broken.before;
        line = broken.line;
        after = broken.after;
        lines = broken.is;
        right = broken.right;
        number = omega (arith, broken.number);
        wrong = broken.wrong;
      }

  -- where no line is left
  pub all_read : (file rest : List ℕ) (number : ℕ) (s t : Said) → length rest ≤ 0 → reads windows (lines_of rest) number t ≡ reads windows (lines_of file) 0 s → Leads (lines_of file) s t
  all_read file [] number s t none h = read_all (lines_of file) 0 s t (sym h)
  all_read file (b ∷ rest) number s t none h = absurd (omega arith)
