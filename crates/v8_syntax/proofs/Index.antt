-- A name is only that of forms whose names begin with the same letter, and the index has these.
use Rattle.std.proofs.Common.{◌≡◌, ℕ, zero, suc, ◌+◌, ◌-◌, ◌<◌, ◌≤◌, Bool, true, false, cond, List, [], ◌∷◌, length, map, drop, get_or, Option, Some, None}
use Rattle.std.proofs.Common.{Result, Ok, refl, sym, ap, subst, ◌∙◌, arith, eqb, ltb, leb}
use Rattle.std.specs.Prelude.{All, ◌&&◌}
use Rattle.std.specs.List.{filter, list_all, position_from}
use Rattle.std.specs.Option.{option_map_or}
use Rattle.std.specs.Str.{bytes_eq}
use Rattle.std.proofs.lemmas.Bool.{false≢true, eqb-true, le-leb, ltb-true, ltb-false, leb-true}
use Rattle.std.proofs.lemmas.List.Sums.{AllPass-from_list_all}
use Rattle.std.proofs.lemmas.List.{get_or-map, length-map}
use Rattle.v8_forms.specs.declared.rows.Row.{Row}
use Rattle.v8_forms.specs.Forms.{Form, form_of, forms, natives, suffixes, synthetics}
use Rattle.v8_forms.specs.Text.{filled}
use Rattle.v8_syntax.specs.declared.letters.TheConstants.{BY_LETTER}
use Rattle.v8_syntax.specs.declared.fault.SyntaxFault.{SyntaxFault}
use Rattle.v8_syntax.specs.declared.fault.SyntaxFault.TheVariants.{Shape}
use Rattle.v8_syntax.specs.declared.word.StatementToken.{StatementToken}
use Rattle.v8_syntax.specs.Statements.{bytes_between, ◌>>=◌, first_of, named, of_condition, operands_of}

abbrev pub begins : ℕ → Form → Bool
begins letter f = eqb (get_or f.name 0 0) letter

-- ---- other forms don't have the name

unlike : (a b : List ℕ) → eqb (get_or a 0 0) (get_or b 0 0) ≡ false → bytes_eq a b ≡ false
unlike [] [] h = absurd (false≢true (sym h))
unlike [] (y ∷ ys) h = refl
unlike (x ∷ xs) [] h = refl
unlike (x ∷ xs) (y ∷ ys) h = rw h refl

first_byte : (name : List ℕ) → get_or (bytes_between name 0 1) 0 0 ≡ get_or name 0 0
first_byte [] = refl
first_byte (x ∷ xs) = rw (le-leb 1 (length (x ∷ xs)) (omega arith)) refl

skipped : (f : Form) (name : List ℕ) → eqb (get_or f.name 0 0) (get_or name 0 0) ≡ false → named f name ≡ None
skipped f name h = by f.conditional
  where
    by : (t : Bool)
        → cond t (cond (bytes_eq f.name (bytes_between name 0 1)) (position_from (λ suffix. bytes_eq suffix (drop 1 name)) 0 suffixes) None) (cond (bytes_eq f.name name) (Some 0) None) ≡ None
    by true = rw (unlike f.name (bytes_between name 0 1) (ap (eqb (get_or f.name 0 0)) (first_byte name) ∙ h)) refl
    by false = rw (unlike f.name name h) refl

abbrev none : Form
none = record { name = []; conditional = false; parts = []; word = 0 }

module _ (values : List ℕ → Option ℕ) (here : ℕ) (line name : List ℕ) (ws : List StatementToken) where
  alike : (others others' : SyntaxFault → Result ℕ SyntaxFault) → ((g : SyntaxFault) → others g ≡ others' g) → (fault : SyntaxFault) (f : Form) (o : Option ℕ)
      → of_condition values here line others fault f ws o ≡ of_condition values here line others' fault f ws o
  alike others others' h fault f (Some c) = ap (option_map_or (λ x. x.0 >>= λ n. Ok (filled f c n)) (operands_of values here line f.parts ws)) (h Shape)
  alike others others' h fault f None = h fault

  filtered : (fault : SyntaxFault) (fs : List Form) → first_of values here line fault (filter (begins (get_or name 0 0)) fs) name ws ≡ first_of values here line fault fs name ws
  filtered fault [] = refl
  filtered fault (f ∷ fs) = by (begins (get_or name 0 0) f) refl (λ g. filtered g fs)
    where
      by : (t : Bool) → begins (get_or name 0 0) f ≡ t
          → ((g : SyntaxFault) → first_of values here line g (filter (begins (get_or name 0 0)) fs) name ws ≡ first_of values here line g fs name ws)
          → first_of values here line fault (cond t (f ∷ filter (begins (get_or name 0 0)) fs) (filter (begins (get_or name 0 0)) fs)) name ws ≡ first_of values here line fault (f ∷ fs) name ws
      by true e go = alike (λ g. first_of values here line g (filter (begins (get_or name 0 0)) fs) name ws) (λ g. first_of values here line g fs name ws) go fault f (named f name)
      by false e go = go fault ∙ sym (ap (of_condition values here line (λ g. first_of values here line g fs name ws) fault f ws) (skipped f name e))

  pub by_letter : (fault : SyntaxFault) (numbers : List ℕ) (r : Result ℕ SyntaxFault)
      → ((d : Form) → map (λ k. get_or forms k d) numbers ≡ filter (begins (get_or name 0 0)) forms)
      → ((d : Form) → r ≡ first_of values here line fault (map (λ k. get_or forms k d) numbers) name ws) → r ≡ first_of values here line fault forms name ws
  by_letter fault numbers r same is = is none ∙ ap (λ fs. first_of values here line fault fs name ws) (same none) ∙ filtered fault forms

-- ---- the index

-- numbers of forms
abbrev are_numbers : List ℕ → Bool
are_numbers numbers = list_all (λ k. ltb k 111) numbers

-- from a letter on
abbrev pub IsIndex : ℕ → List (List ℕ) → Type 0
IsIndex letter [] = Unit {0}
IsIndex letter (numbers ∷ table) =
    (are_numbers numbers ≡ true) × ((d : Form) → map (λ k. get_or forms k d) numbers ≡ filter (begins letter) forms) × IsIndex (suc letter) table

abbrev pub Indexes : ℕ → List ℕ → Type 0
Indexes letter numbers = (are_numbers numbers ≡ true) × ((d : Form) → map (λ k. get_or forms k d) numbers ≡ filter (begins letter) forms)

at_place : (letter i : ℕ) (table : List (List ℕ)) → IsIndex letter table → i < length table → Indexes (letter + i) (get_or table i [])
at_place letter i [] h lt = absurd (omega arith)
at_place letter zero (numbers ∷ table) h lt =
    let z : letter ≡ letter + 0 = omega arith in (h.0, λ d. h.1 d ∙ ap (λ m. filter (begins m) forms) z)
at_place letter (suc i) (numbers ∷ table) h lt =
    let z : suc letter + i ≡ letter + suc i = omega arith in
    let r = at_place (suc letter) i table h.2 (omega arith) in (r.0, λ d. r.1 d ∙ ap (λ m. filter (begins m) forms) z)

past : (table : List (List ℕ)) (i : ℕ) → length table ≤ i → get_or table i [] ≡ []
past [] i h = refl
past (numbers ∷ table) zero h = absurd (omega arith)
past (numbers ∷ table) (suc i) h = past table i (omega arith)

-- a letter in lower case
abbrev is_small : ℕ → Bool
is_small b = leb 97 b && leb b 122

abbrev all_small : List Form → Bool
all_small fs = list_all (λ f. is_small (get_or f.name 0 0)) fs

forms_small : all_small forms ≡ true
unfolding natives synthetics
forms_small = refl

first_of_both : (t u : Bool) → (t && u) ≡ true → t ≡ true
first_of_both true u h = refl
first_of_both false u h = absurd (false≢true h)

second_of_both : (t u : Bool) → (t && u) ≡ true → u ≡ true
second_of_both true u h = h
second_of_both false u h = absurd (false≢true h)

nothing_begins : (letter : ℕ) (fs : List Form) → all_small fs ≡ true → is_small letter ≡ false → filter (begins letter) fs ≡ []
nothing_begins letter [] h e = refl
nothing_begins letter (f ∷ fs) h e =
    by (begins letter f) refl (nothing_begins letter fs (second_of_both (is_small (get_or f.name 0 0)) (all_small fs) h) e)
  where
    by : (t : Bool) → begins letter f ≡ t → filter (begins letter) fs ≡ [] → cond t (f ∷ filter (begins letter) fs) (filter (begins letter) fs) ≡ []
    by true g go =
        let same : get_or f.name 0 0 ≡ letter = eqb-true (get_or f.name 0 0) letter g in
        absurd (false≢true (sym e ∙ sym (ap is_small same) ∙ first_of_both (is_small (get_or f.name 0 0)) (all_small fs) h))
    by false g go = go

not_small : (letter : ℕ) → (97 ≤ letter → 122 < letter) → is_small letter ≡ false
not_small letter h = by (leb 97 letter) refl (leb letter 122) refl
  where
    by : (t : Bool) → leb 97 letter ≡ t → (u : Bool) → leb letter 122 ≡ u → (t && u) ≡ false
    by false e u f = refl
    by true e false f = refl
    by true e true f =
        let low = leb-true 97 letter e in
        let high = leb-true letter 122 f in
        let past = h low in absurd (omega arith)

numbers_within : (numbers : List ℕ) → are_numbers numbers ≡ true → All (λ k. k < 111) numbers
numbers_within numbers h k d lt = ltb-true _ 111 (AllPass-from_list_all (λ n. ltb n 111) numbers h k d lt)

pub record IndexOf (letter : ℕ) (numbers : List ℕ) : Type 0 where
  pub within : All (λ k. k < 111) numbers
  pub kept : (d : Form) → map (λ k. get_or forms k d) numbers ≡ filter (begins letter) forms

whole : (letter : ℕ) (numbers : List ℕ) → Indexes letter numbers → IndexOf letter numbers
whole letter numbers h = record { within = numbers_within numbers h.0; kept = h.1 }

pub empty : (letter : ℕ) → (97 ≤ letter → 122 < letter) → IndexOf letter []
empty letter h = whole letter [] (refl, λ d. sym (nothing_begins letter forms forms_small (not_small letter h)))

pub from_table : (letter place : ℕ) (numbers : List ℕ) (table : List (List ℕ)) → numbers ≡ get_or table place [] → place ≡ letter - 97 → 97 ≤ letter →
    IsIndex 97 table → length table ≡ 26 → IndexOf letter numbers
from_table letter place numbers table found at low h len = by (ltb (letter - 97) 26) refl
  where
    is : numbers ≡ get_or table (letter - 97) []
    is = found ∙ ap (λ i. get_or table i []) at

    by : (t : Bool) → ltb (letter - 97) 26 ≡ t → IndexOf letter numbers
    by true e =
        let lt = ltb-true (letter - 97) 26 e in
        let inside : letter - 97 < length table = omega arith in
        let z : 97 + (letter - 97) ≡ letter = omega arith in
        let r = at_place 97 (letter - 97) table h inside in
        subst (λ ns. IndexOf letter ns) (sym is) (whole letter (get_or table (letter - 97) []) (r.0, λ d. r.1 d ∙ ap (λ m. filter (begins m) forms) z))
    by false e =
        let ge = ltb-false (letter - 97) 26 e in
        let beyond : get_or table (letter - 97) [] ≡ [] = past table (letter - 97) (omega arith) in
        subst (λ ns. IndexOf letter ns) (sym (is ∙ beyond)) (empty letter (λ _. omega arith))

-- the code's table
pub table_indexes : IsIndex 97 (map (λ s. s.now) BY_LETTER)
unfolding natives synthetics
table_indexes = (
  refl,
  λ d. refl,
  (
    refl,
    λ d. refl,
    (
      refl,
      λ d. refl,
      (
        refl,
        λ d. refl,
        (
          refl,
          λ d. refl,
          (
            refl,
            λ d. refl,
            (
              refl,
              λ d. refl,
              (
                refl,
                λ d. refl,
                (
                  refl,
                  λ d. refl,
                  (
                    refl,
                    λ d. refl,
                    (
                      refl,
                      λ d. refl,
                      (
                        refl,
                        λ d. refl,
                        (
                          refl,
                          λ d. refl,
                          (
                            refl,
                            λ d. refl,
                            (
                              refl,
                              λ d. refl,
                              (
                                refl,
                                λ d. refl,
                                (
                                  refl,
                                  λ d. refl,
                                  (
                                    refl,
                                    λ d. refl,
                                    (
                                      refl,
                                      λ d. refl,
                                      (refl, λ d. refl, (refl, λ d. refl, (refl, λ d. refl, (refl, λ d. refl, (refl, λ d. refl, (refl, λ d. refl, (refl, λ d. refl, tt))))))),
                                    ),
                                  ),
                                ),
                              ),
                            ),
                          ),
                        ),
                      ),
                    ),
                  ),
                ),
              ),
            ),
          ),
        ),
      ),
    ),
  ),
)

-- ---- rows

row_count : (rows : List Row) → map form_of rows ≡ forms → length rows ≡ 111
unfolding natives synthetics
row_count rows h = sym (length-map rows form_of) ∙ ap length h

pub row_in : (rows : List Row) (k i : ℕ) → map form_of rows ≡ forms → i ≡ k → k < 111 → i < length rows
row_in rows k i h e lt = let n = row_count rows h in omega arith

pub row_form : (rows : List Row) (k i : ℕ) (r : Row) (d : Form) → map form_of rows ≡ forms → i ≡ k → k < 111 → form_of (get_or rows i r) ≡ get_or forms k d
row_form rows k i r d h e lt =
    let inside : k < length rows = row_in rows k k h refl lt in
    rw e (sym (ap (λ fs. get_or fs k d) (sym h) ∙ get_or-map form_of rows k r d inside))
