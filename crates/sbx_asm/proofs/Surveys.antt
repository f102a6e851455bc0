-- Labels one after the other: what each name is worth, and which of them are told.
use Rattle.std.proofs.Common.{◌≡◌, ℕ, Bool, true, false, cond, List, [], ◌∷◌, ◌++◌, length, map, take, ◌<◌, ◌+◌, get_or, Option, None, Some, refl, sym, ap, subst, ◌∙◌, append_assoc}
use Rattle.std.specs.Prelude.{◌||◌}
use Rattle.std.specs.Option.{is_some}
use Rattle.std.specs.List.{fold, list_any}
use Rattle.std.specs.Map.{update}
use Rattle.std.specs.Str.{bytes_eq}
use Rattle.std.proofs.lemmas.List.{append-nil, take_more}
use Rattle.std.proofs.lemmas.Slice.Eq.{bytes_eq-Decides}
use Rattle.sbx_asm.specs.declared.fault.AsmFault.{AsmFault}
use Rattle.sbx_asm.specs.declared.fault.Cause.TheVariants as causes
use Rattle.sbx_asm.specs.Rules.{at, duplicates}
use Rattle.sbx_asm.specs.Items.{Item, Said, each}
use Rattle.sbx_asm.proofs.Views.{behind, is_called, told_again}
use Rattle.sbx_asm.specs.Addresses.{Label, labelled, labels_at, worth_in, names_said, label_address, code_address}
use Rattle.sbx_asm.specs.declared.survey.Survey.{Survey}
use Rattle.sbx_asm.specs.Kept.{IsSurvey}
use Rattle.sbx_asm.proofs.Tables.{same_values}

-- ---- what a name is worth

abbrev pub or_else : Option ℕ → Option ℕ → Option ℕ
or_else (Some a) o = Some a
or_else None o = o

or_none : (o : Option ℕ) → or_else o None ≡ o
or_none (Some a) = refl
or_none None = refl

pub worth_push : (ls : List Label) (l : Label) (q : List ℕ) → worth_in (ls ++ l ∷ []) q ≡ or_else (worth_in ls q) (cond (bytes_eq l.name q) (Some l.address) None)
worth_push [] l q = refl
worth_push (k ∷ ls) l q = by (worth_push ls l q) (bytes_eq k.name q)
  where
    by : worth_in (ls ++ l ∷ []) q ≡ or_else (worth_in ls q) (cond (bytes_eq l.name q) (Some l.address) None) → (t : Bool) →
        cond t (Some k.address) (worth_in (ls ++ l ∷ []) q) ≡ or_else (cond t (Some k.address) (worth_in ls q)) (cond (bytes_eq l.name q) (Some l.address) None)
    by more true = refl
    by more false = more

pub known : (ls : List Label) (name : List ℕ) → list_any (is_called name) ls ≡ is_some (worth_in ls name)
known [] name = refl
known (l ∷ ls) name = by (known ls name) (bytes_eq l.name name)
  where
    by : list_any (is_called name) ls ≡ is_some (worth_in ls name) → (t : Bool) → (t || list_any (is_called name) ls) ≡ is_some (cond t (Some l.address) (worth_in ls name))
    by more true = refl
    by more false = more

same_bytes : (xs ys : List ℕ) → bytes_eq xs ys ≡ true → xs ≡ ys
same_bytes xs ys h = (bytes_eq-Decides xs ys).0 h

-- a name that has a value keeps it, and one that has none takes it
module _ (ls : List Label) (name : List ℕ) (a : ℕ) where
  pub keeps_at : (v : ℕ) → worth_in ls name ≡ Some v → (q : List ℕ) (t : Bool) → bytes_eq name q ≡ t → worth_in ls q ≡ or_else (worth_in ls q) (cond t (Some a) None)
  keeps_at v h q true e = let k : worth_in ls q ≡ Some v = ap (worth_in ls) (sym (same_bytes name q e)) ∙ h in k ∙ sym (ap (λ o. or_else o (Some a)) k)
  keeps_at v h q false e = sym (or_none (worth_in ls q))

  pub takes_at : worth_in ls name ≡ None → (q : List ℕ) (t : Bool) → bytes_eq name q ≡ t → cond t (Some a) (worth_in ls q) ≡ or_else (worth_in ls q) (cond t (Some a) None)
  takes_at h q true e = let k : worth_in ls q ≡ None = ap (worth_in ls) (sym (same_bytes name q e)) ∙ h in sym (ap (λ o. or_else o (Some a)) k)
  takes_at h q false e = sym (or_none (worth_in ls q))

pub more_labels : (front before after : List Label) → duplicates front (before ++ after) ≡ duplicates front before ++ duplicates (front ++ before) after
more_labels front [] after = ap (λ (ls : List Label). duplicates ls after) (sym (append-nil front))
more_labels front (l ∷ before) after =
    let again : List AsmFault = told_again (list_any (is_called l.name) front) l.line in
    ap (λ (fs : List AsmFault). again ++ fs)
    (more_labels (front ++ l ∷ []) before after
    ∙ ap (λ (ls : List Label). duplicates (front ++ l ∷ []) before ++ duplicates ls after) (append_assoc front (l ∷ []) before))
    ∙ sym (append_assoc again (duplicates (front ++ l ∷ []) before) (duplicates (front ++ l ∷ before) after))

-- one more label, whose name has a value
module _ (ls : List Label) (l : Label) (v : ℕ) (h : worth_in ls l.name ≡ Some v) where
  pub worth_stays : worth_in ls ≡ worth_in (ls ++ l ∷ [])
  worth_stays = same_values (worth_in ls) (worth_in (ls ++ l ∷ [])) (λ q. keeps_at ls l.name l.address v h q (bytes_eq l.name q) refl ∙ sym (worth_push ls l q))

  pub told_twice : duplicates [] ls ++ at l.line causes.DuplicateLabel ∷ [] ≡ duplicates [] (ls ++ l ∷ [])
  told_twice = ap (λ (t : Bool). duplicates [] ls ++ (told_again t l.line ++ [])) (sym (known ls l.name ∙ ap is_some h)) ∙ sym (more_labels [] ls (l ∷ []))

-- and one whose name has none
module _ (ls : List Label) (l : Label) (h : worth_in ls l.name ≡ None) where
  pub worth_taken : update bytes_eq (worth_in ls) l.name (Some l.address) ≡ worth_in (ls ++ l ∷ [])
  worth_taken = same_values (update bytes_eq (worth_in ls) l.name (Some l.address)) (worth_in (ls ++ l ∷ [])) (λ q. takes_at ls l.name l.address h q (bytes_eq l.name q) refl ∙ sym (worth_push ls l q))

  pub told_once : duplicates [] ls ≡ duplicates [] (ls ++ l ∷ [])
  told_once =
      sym (append-nil (duplicates [] ls))
      ∙ ap (λ (t : Bool). duplicates [] ls ++ (told_again t l.line ++ [])) (sym (known ls l.name ∙ ap is_some h))
      ∙ sym (more_labels [] ls (l ∷ []))

-- ---- the labels of a line, and of lines

abbrev pub with_one : ℕ → ℕ → List Label → List ℕ → List Label
with_one number address ls name = ls ++ labelled number address name ∷ []

pub with_all : (number address : ℕ) (ls : List Label) (names : List (List ℕ)) → fold (with_one number address) ls names ≡ ls ++ map (labelled number address) names
with_all number address ls [] = sym (append-nil ls)
with_all number address ls (name ∷ names) =
    with_all number address (with_one number address ls name) names ∙ append_assoc ls (labelled number address name ∷ []) (map (labelled number address) names)

-- the labels of a line behind some others: those at the line's place, and then the name of a function or of a block
pub line_labels : (s : Survey) (labels : List Label) (before : List Item) (i : Item) (number here word : ℕ) (names : List (List ℕ)) (bytes : List ℕ) (said : Said)
    → number ≡ i.number → here ≡ label_address before → word ≡ code_address before → names ≡ i.labels → bytes ≡ i.bytes → said ≡ i.said
    → IsSurvey ((labels ++ map (labelled number here) names) ++ map (labelled number word) (names_said bytes said)) s
    → IsSurvey (labels ++ labels_at before i []) s
line_labels s labels before i number here word names bytes said n h w ns bs sd =
    subst (λ (ls : List Label). IsSurvey ls s)
    ((λ j. (labels ++ map (labelled (n j) (h j)) (ns j)) ++ map (labelled (n j) (w j)) (names_said (bs j) (sd j)))
    ∙ append_assoc labels (map (labelled i.number (label_address before)) i.labels) (map (labelled i.number (code_address before)) (names_said i.bytes i.said)))

behind_push : (before items : List Item) (i : Item) → behind before (items ++ i ∷ []) ≡ i ∷ behind before items
behind_push before [] i = refl
behind_push before (j ∷ items) i = behind_push (j ∷ before) items i

labels_push : (before items : List Item) (i : Item) → each labels_at before (items ++ i ∷ []) ≡ each labels_at before items ++ labels_at (behind before items) i []
labels_push before [] i = append-nil (labels_at before i [])
labels_push before (j ∷ items) i =
    ap (λ (ls : List Label). labels_at before j [] ++ ls) (labels_push (j ∷ before) items i)
    ∙ sym (append_assoc (labels_at before j []) (each labels_at (j ∷ before) items) (labels_at (behind (j ∷ before) items) i []))

-- one more of some lines
module _ (items : List Item) (k : ℕ) (i : Item) (lt : k < length items) (is : i ≡ get_or items k i) where
  one_more : take (k + 1) items ≡ take k items ++ i ∷ []
  one_more = take_more items k i lt ∙ ap (λ (j : Item). take k items ++ j ∷ []) (sym is)

  pub behind_more : i ∷ behind [] (take k items) ≡ behind [] (take (k + 1) items)
  behind_more = sym (ap (behind []) one_more ∙ behind_push [] (take k items) i)

  pub labels_more : each labels_at [] (take k items) ++ labels_at (behind [] (take k items)) i [] ≡ each labels_at [] (take (k + 1) items)
  labels_more = sym (ap (each labels_at []) one_more ∙ labels_push [] (take k items) i)
