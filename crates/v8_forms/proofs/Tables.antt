-- What holds of all forms holds of the one that is found.
use Rattle.std.proofs.Common.{◌≡◌, ℕ, ◌+◌, ◌*◌, ◌≤◌, Bool, true, false, cond, List, [], ◌∷◌, length, refl, subst, leb, sym, ap, ◌∙◌, Some, Option, take, map}
use Rattle.std.specs.List.{find}
use Rattle.std.proofs.lemmas.Bool.{false≢true, leb-true}
use Rattle.std.proofs.lemmas.List.{length-map, take-map}
use Rattle.v8_formats.specs.Table.{meaning}
use Rattle.v8_forms.specs.Forms.{Form, forms, natives, synthetics}
use Rattle.v8_forms.specs.Laws.{CoversTheTable, TellsFormsApart}
use Rattle.v8_forms.specs.Text.{is_word_of, native_of}

abbrev pub all_of : (Form → Bool) → List Form → Bool
all_of q [] = true
all_of q (f ∷ fs) = cond (q f) (all_of q fs) false

pub same : (a b : Form) → (let s : Option Form = Some a in s) ≡ Some b → a ≡ b
same a b e = cc

pub first_of_both : (t u : Bool) → cond t u false ≡ true → t ≡ true
first_of_both true u h = refl
first_of_both false u h = h

pub second_of_both : (t u : Bool) → cond t u false ≡ true → u ≡ true
second_of_both true u h = h
second_of_both false u h = absurd (false≢true h)

-- what is found passes what all pass
pub found_passes : (p q : Form → Bool) (fs : List Form) (f : Form) → find p fs ≡ Some f → all_of q fs ≡ true → q f ≡ true
found_passes p q [] f e h = absurd (cc)
found_passes p q (k ∷ fs) f e h = by (p k) e (λ g. found_passes p q fs f g (second_of_both (q k) (all_of q fs) h))
  where
    by : (t : Bool) → cond t (Some k) (find p fs) ≡ Some f → (find p fs ≡ Some f → q f ≡ true) → q f ≡ true
    by true g i = subst (λ x. q x ≡ true) (same k f g) (first_of_both (q k) (all_of q fs) h)
    by false g i = i g

abbrev pub is_short : Form → Bool
is_short f = leb (length f.name + 5 + 17 * length f.parts) 64

all_short : all_of is_short natives ≡ true
unfolding natives
all_short = refl

pub native_is_short : (w : ℕ) (f : Form) → native_of w ≡ Some f → length f.name + 5 + 17 * length f.parts ≤ 64
unfolding native_of
native_is_short w f e = leb-true (length f.name + 5 + 17 * length f.parts) 64 (found_passes (λ g. is_word_of g w) is_short natives f e all_short)

pub tells_apart : TellsFormsApart
unfolding natives synthetics
tells_apart = refl

pub covers_table : CoversTheTable
unfolding natives meaning
covers_table = (refl, refl)

natives_come_first : take 74 forms ≡ natives
unfolding natives synthetics
natives_come_first = refl

-- rows of all forms begin with those of the instructions
pub first_are_native : {Row : Type 0} (form : Row → Form) (rows : List Row) → map form rows ≡ forms → map form (take 74 rows) ≡ natives
first_are_native form rows e = sym (take-map form 74 rows) ∙ ap (take 74) e ∙ natives_come_first

count_of_natives : length natives ≡ 74
unfolding natives
count_of_natives = refl

pub natives_fit : {Row : Type 0} (form : Row → Form) (rows : List Row) → map form rows ≡ forms → 74 ≡ length (take 74 rows)
natives_fit form rows e = sym count_of_natives ∙ ap length (sym (first_are_native form rows e)) ∙ length-map (take 74 rows) form
