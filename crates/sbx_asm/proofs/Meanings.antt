-- The laws of the meaning of sources.
use Rattle.std.proofs.Common.{◌≡◌, ◌⊎◌, inl, inr, ℕ, ◌+◌, ◌≤◌, Bool, true, false, cond, ltb, List, [], ◌∷◌, ◌++◌, length, map, Option, None, Some, Result, Ok}
use Rattle.std.proofs.Common.{Err, refl, sym, ap, ◌∙◌, subst, append_assoc, arith}
use Rattle.std.specs.Prelude.{◌||◌, if◌then◌else◌}
use Rattle.std.specs.Bool.{Decides, one_answer}
use Rattle.std.specs.Option.{is_some}
use Rattle.std.specs.List.{AllByRecursion, fold, list_any}
use Rattle.std.specs.Str.{bytes_eq}
use Rattle.std.proofs.lemmas.Bool.{true≢false, le-ltb, ltb-true, ltb-false}
use Rattle.std.proofs.lemmas.List.{map-append}
use Rattle.std.proofs.lemmas.Slice.Eq.{bytes_eq-Decides}
use Rattle.sbx_text.specs.declared.Token.{Token}
use Rattle.sbx_text.specs.declared.fault.TextFault.{TextFault}
use Rattle.sbx_text.specs.Tokens.{tokens_of}
use Rattle.sbx_image.specs.ImageFault.{ImageFault}
use Rattle.sbx_image.specs.Parts.{Parts}
use Rattle.sbx_image.specs.Rules.{parts_keep}
use Rattle.sbx_directives.specs.declared.directive.Statement.TheVariants as statements
use Rattle.sbx_directives.specs.Directives.{labels_first, statement_of}
use Rattle.sbx_asm.specs.declared.fault.AsmFault.{AsmFault}
use Rattle.sbx_asm.specs.Rules.{at, told, is_earlier, Values, duplicates, faults_of, least_of}
use Rattle.sbx_asm.specs.Items.{Item, label_names, read_line, items_of, each}
use Rattle.sbx_asm.proofs.Views.{behind, is_called, renamed, IsLeastOf, told_again, kept}
use Rattle.sbx_asm.specs.Addresses.{Label, worth_in, values_of}
use Rattle.sbx_asm.specs.Images.{words_at, image_of, whole_cause, judged, source_image}
use Rattle.sbx_asm.specs.Laws.{CodeIsItsStatements, WordsLookAheadByLabelsAlone, BlankLinesSayNothing, LabelsMayBeRenamed, TheLeastFaultIsTold}
use Rattle.sbx_asm.proofs.Orders.{key, earlier_by_key}

-- ---- no fault

told_stays : (a : AsmFault) (fs : List AsmFault) → is_some (fold told (Some a) fs) ≡ true
told_stays a [] = refl
told_stays a (f ∷ fs) = by (told_stays f fs) (told_stays a fs) (is_earlier f a)
  where
    by : is_some (fold told (Some f) fs) ≡ true → is_some (fold told (Some a) fs) ≡ true → (t : Bool) → is_some (fold told (cond t (Some f) (Some a)) fs) ≡ true
    by h k true = h
    by h k false = k

pub none_told : (fs : List AsmFault) → least_of fs ≡ None → fs ≡ []
none_told [] h = refl
none_told (f ∷ fs) h = absurd (true≢false (sym (told_stays f fs) ∙ ap is_some h))

-- ---- the code is the words of the statements

kept_parts : (n : ℕ) (p parts : Parts) (r : Result (Unit {0}) ImageFault) → kept n p r ≡ Ok parts → p ≡ parts
kept_parts n p parts (Ok u) h = cc
kept_parts n p parts (Err f) h = absurd (cc)

pub judged_parts : (n : ℕ) (o : Option AsmFault) (p parts : Parts) → judged n o p ≡ Ok parts → (o ≡ None) × (p ≡ parts)
judged_parts n (Some f) p parts h = absurd (cc)
judged_parts n None p parts h = (refl, kept_parts n p parts (parts_keep p) h)

pub code_is : CodeIsItsStatements
unfolding source_image image_of
code_is source parts h =
    let k = judged_parts (length (items_of source) + 1) (least_of (faults_of (items_of source))) (image_of (items_of source)) parts h in
    (none_told (faults_of (items_of source)) k.0, sym (ap (λ (p : Parts). p.words) k.1))

-- ---- lines one after the other

pub words_split : (values : Values) (before front after : List Item) →
    each (words_at values) before (front ++ after) ≡ each (words_at values) before front ++ each (words_at values) (behind before front) after
words_split values before [] after = refl
words_split values before (i ∷ front) after =
    ap (λ (ws : List ℕ). words_at values before i after ++ ws) (words_split values (i ∷ before) front after)
    ∙ sym (append_assoc (words_at values before i after) (each (words_at values) (i ∷ before) front) (each (words_at values) (behind (i ∷ before) front) after))

pub words_look : WordsLookAheadByLabelsAlone
unfolding image_of
words_look front after other same = (
  words_split (values_of (front ++ after)) [] front after,
  ap (λ (vs : Values). each (words_at vs) [] (front ++ other)) (sym same) ∙ words_split (values_of (front ++ after)) [] front other,
)

-- ---- blank lines

read_blank : (number : ℕ) (line : List ℕ) (r : Result (List Token) TextFault) → r ≡ Ok [] → ((read_line number line r).labels ≡ []) × ((read_line number line r).said ≡ Ok statements.Nothing)
unfolding label_names statement_of labels_first
read_blank number line (Ok []) h = (refl, refl)
read_blank number line (Ok (t ∷ ts)) h = absurd (cc)
read_blank number line (Err f) h = absurd (cc)

pub blank_says : BlankLinesSayNothing
blank_says number line h = read_blank number line (tokens_of line) h

-- ---- labels by other names

module _ (rename : List ℕ → List ℕ) (apart : (a b : List ℕ) → rename a ≡ rename b → a ≡ b) where
  same_test : (a b : List ℕ) → bytes_eq (rename a) (rename b) ≡ bytes_eq a b
  same_test a b =
      let one : Decides (bytes_eq (rename a) (rename b)) (a ≡ b) = (λ h. apart a b ((bytes_eq-Decides (rename a) (rename b)).0 h), λ e. (bytes_eq-Decides (rename a) (rename b)).1 (ap rename e)) in
      one_answer (bytes_eq (rename a) (rename b)) (bytes_eq a b) one (bytes_eq-Decides a b)

  same_worth : (ls : List Label) (name : List ℕ) → worth_in (map (renamed rename) ls) (rename name) ≡ worth_in ls name
  same_worth [] name = refl
  same_worth (l ∷ ls) name = let test = same_test l.name name in let more = same_worth ls name in λ k. cond (test k) (Some l.address) (more k)

  same_called : (ls : List Label) (name : List ℕ) → list_any (is_called (rename name)) (map (renamed rename) ls) ≡ list_any (is_called name) ls
  same_called [] name = refl
  same_called (l ∷ ls) name = let test = same_test l.name name in let more = same_called ls name in λ k. test k || more k

  same_twice : (before ls : List Label) → duplicates (map (renamed rename) before) (map (renamed rename) ls) ≡ duplicates before ls
  same_twice before [] = refl
  same_twice before (l ∷ ls) =
      let called = same_called before l.name in
      let more = ap (λ (bs : List Label). duplicates bs (map (renamed rename) ls)) (sym (map-append (renamed rename) before (l ∷ []))) ∙ same_twice (before ++ l ∷ []) ls in
      λ k. told_again (called k) l.line ++ more k

pub may_be_renamed : LabelsMayBeRenamed
may_be_renamed rename apart labels = (same_worth rename apart labels, same_twice rename apart [] labels)

-- ---- what is told is the least

abbrev earlier_of : AsmFault → AsmFault → AsmFault
earlier_of a b = if is_earlier b a then b else a

least_from : AsmFault → List AsmFault → AsmFault
least_from a [] = a
least_from a (b ∷ fs) = least_from (earlier_of a b) fs

told_earlier : (a b : AsmFault) → told (Some a) b ≡ Some (earlier_of a b)
told_earlier a b = by (is_earlier b a)
  where
    by : (t : Bool) → cond t (Some b) (Some a) ≡ Some (cond t b a)
    by true = refl
    by false = refl

folded : (a : AsmFault) (fs : List AsmFault) → fold told (Some a) fs ≡ Some (least_from a fs)
unfolding least_from
folded a [] = refl
folded a (b ∷ fs) = ap (λ (o : Option AsmFault). fold told o fs) (told_earlier a b) ∙ folded (earlier_of a b) fs

-- no later than either
earlier_key : (a b : AsmFault) → (key (earlier_of a b) ≤ key a) × (key (earlier_of a b) ≤ key b)
earlier_key a b = subst (λ (t : Bool). (key (cond t b a) ≤ key a) × (key (cond t b a) ≤ key b)) (sym (earlier_by_key b a)) (by (ltb (key b) (key a)) refl)
  where
    by : (t : Bool) → ltb (key b) (key a) ≡ t → (key (cond t b a) ≤ key a) × (key (cond t b a) ≤ key b)
    by true h = let k = ltb-true (key b) (key a) h in ((let e : key b ≤ key a = omega arith in e), (let e : key b ≤ key b = omega arith in e))
    by false h = let k = ltb-false (key b) (key a) h in ((let e : key a ≤ key a = omega arith in e), (let e : key a ≤ key b = omega arith in e))

below : (a : AsmFault) (fs : List AsmFault) → key (least_from a fs) ≤ key a
unfolding least_from
below a [] = omega arith
below a (b ∷ fs) = let h : key (least_from (earlier_of a b) fs) ≤ key (earlier_of a b) = below (earlier_of a b) fs in let k = (earlier_key a b).0 in omega arith

not_earlier : (g f : AsmFault) → key f ≤ key g → is_earlier g f ≡ false
not_earlier g f h = earlier_by_key g f ∙ le-ltb (key g) (key f) h

none_earlier : (a : AsmFault) (fs : List AsmFault) → AllByRecursion (λ g. is_earlier g (least_from a fs) ≡ false) fs
unfolding least_from
none_earlier a [] = tt
none_earlier a (b ∷ fs) =
    let h : key (least_from (earlier_of a b) fs) ≤ key (earlier_of a b) = below (earlier_of a b) fs in
    let k = (earlier_key a b).1 in
    (not_earlier b (least_from (earlier_of a b) fs) (omega arith), none_earlier (earlier_of a b) fs)

Within : AsmFault → List AsmFault → Type 0
Within f fs = (front : List AsmFault) × (rest : List AsmFault) × (fs ≡ front ++ f ∷ rest)

later_in : (f b : AsmFault) (fs : List AsmFault) → Within f fs → Within f (b ∷ fs)
unfolding Within
later_in f b fs h = (b ∷ h.0, h.1, ap (λ (gs : List AsmFault). b ∷ gs) h.2)

pick : (a b : AsmFault) (fs : List AsmFault) (t : Bool) → (least_from b fs ≡ b) ⊎ Within (least_from b fs) fs → (least_from a fs ≡ a) ⊎ Within (least_from a fs) fs
    → (least_from (cond t b a) fs ≡ a) ⊎ Within (least_from (cond t b a) fs) (b ∷ fs)
unfolding Within
pick a b fs true (inl e) k = inr ([], fs, ap (λ (x : AsmFault). x ∷ fs) (sym e))
pick a b fs true (inr w) k = inr (later_in (least_from b fs) b fs w)
pick a b fs false h (inl e) = inl e
pick a b fs false h (inr w) = inr (later_in (least_from a fs) b fs w)

is_within : (a : AsmFault) (fs : List AsmFault) → (least_from a fs ≡ a) ⊎ Within (least_from a fs) fs
unfolding least_from
is_within a [] = inl refl
is_within a (b ∷ fs) = pick a b fs (is_earlier b a) (is_within b fs) (is_within a fs)

within_all : (a : AsmFault) (fs : List AsmFault) → (least_from a fs ≡ a) ⊎ Within (least_from a fs) fs → Within (least_from a fs) (a ∷ fs)
unfolding Within
within_all a fs (inl e) = ([], fs, ap (λ (x : AsmFault). x ∷ fs) (sym e))
within_all a fs (inr w) = later_in (least_from a fs) a fs w

least_of_all : (f : AsmFault) (fs : List AsmFault) → least_of fs ≡ Some f → IsLeastOf f fs
unfolding Within
least_of_all f [] h = absurd (cc)
least_of_all f (a ∷ fs) h =
    let e : least_from a fs ≡ f = (let k : Some (least_from a fs) ≡ Some f = sym (folded a fs) ∙ h in cc) in
    subst (λ (x : AsmFault). IsLeastOf x (a ∷ fs)) e
    (within_all a fs (is_within a fs), (not_earlier a (least_from a fs) (below a fs), none_earlier a fs))

kept_fault : (n : ℕ) (p : Parts) (f : AsmFault) (r : Result (Unit {0}) ImageFault) → kept n p r ≡ Err f → f ≡ at n (whole_cause p)
kept_fault n p f (Ok u) h = absurd (cc)
kept_fault n p f (Err g) h = cc

judged_fault : (n : ℕ) (o : Option AsmFault) (p : Parts) (f : AsmFault) → judged n o p ≡ Err f → (o ≡ Some f) ⊎ ((o ≡ None) × (f ≡ at n (whole_cause p)))
judged_fault n (Some g) p f h = inl (cc)
judged_fault n None p f h = inr (refl, kept_fault n p f (parts_keep p) h)

pub least_told : TheLeastFaultIsTold
unfolding source_image
least_told source f h = by (judged_fault (length (items_of source) + 1) (least_of (faults_of (items_of source))) (image_of (items_of source)) f h)
  where
    by : (least_of (faults_of (items_of source)) ≡ Some f) ⊎ ((least_of (faults_of (items_of source)) ≡ None) × (f ≡ at (length (items_of source) + 1) (whole_cause (image_of (items_of source)))))
        → IsLeastOf f (faults_of (items_of source)) ⊎ ((faults_of (items_of source) ≡ []) × (f ≡ at (length (items_of source) + 1) (whole_cause (image_of (items_of source)))))
    by (inl e) = inl (least_of_all f (faults_of (items_of source)) e)
    by (inr k) = inr (none_told (faults_of (items_of source)) k.0, k.1)
