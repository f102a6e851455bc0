-- The names of the forms of instructions: each is a name, and is that of its form alone, or of one with other operands.
use Rattle.std.proofs.Common.{◌≡◌, ℕ, zero, suc, ◌<◌, ◌≤◌, Bool, true, false, cond, not, List, [], ◌∷◌, ◌++◌, length, get_or, refl, ap, subst, ◌∙◌, arith, eqb}
use Rattle.std.proofs.Common.{ltb, leb, Some, Option, None, Result, Ok, ◌⊎◌, inl, inr}
use Rattle.std.specs.Prelude.{codes}
use Rattle.std.specs.List.{find}
use Rattle.std.specs.Option.{option_map_or}
use Rattle.std.specs.Str.{bytes_eq}
use Rattle.std.proofs.lemmas.Bool.{false≢true, eqb-true, leb-true, ltb-true, ltb-false}
use Rattle.v8_word.specs.Word.{bits_of}
use Rattle.v8_syntax.specs.declared.fault.SyntaxFault.{SyntaxFault}
use Rattle.v8_syntax.specs.declared.fault.SyntaxFault.TheVariants.{Shape, UnknownMnemonic}
use Rattle.v8_syntax.specs.declared.word.StatementToken.{StatementToken}
use Rattle.v8_forms.specs.Forms.{Form, forms, natives, suffixes, synthetics}
use Rattle.v8_forms.specs.Text.{condition_in, filled, is_word_of, native_of, suffix_text, values}
use Rattle.v8_syntax.specs.Statements.{◌>>=◌, operands_of, first_of, named, of_condition}
use Rattle.v8_forms.proofs.Tables.{all_of, first_of_both, second_of_both, found_passes, same}
use Rattle.v8_rereading.proofs.Bytes.{is_name}
use Rattle.v8_rereading.proofs.Parts.{shut, printable}

-- ---- all names of a form

abbrev below : (ℕ → Bool) → ℕ → Bool
below q zero = true
below q (suc n) = cond (q n) (below q n) false

at_below : (q : ℕ → Bool) (n k : ℕ) → below q n ≡ true → k < n → q k ≡ true
at_below q zero k h small = absurd (omega arith)
at_below q (suc n) k h small = by (ltb k n) refl (at_below q n k (second_of_both (q n) (below q n) h))
  where
    by : (t : Bool) → ltb k n ≡ t → (k < n → q k ≡ true) → q k ≡ true
    by true e go = go (ltb-true k n e)
    by false e go = let ge = ltb-false k n e in let same : n ≡ k = omega arith in subst (λ m. q m ≡ true) same (first_of_both (q n) (below q n) h)

-- what passes with each condition of a name
abbrev each : Bool → List ℕ → (List ℕ → ℕ → Bool) → Bool
each true name q = below (λ k. q (name ++ get_or suffixes k []) k) 16
each false name q = q (name ++ []) 0

at_each : (t : Bool) (name : List ℕ) (q : List ℕ → ℕ → Bool) (w : ℕ) → each t name q ≡ true → q (name ++ suffix_text t w) (cond t (bits_of w 25 4) 0) ≡ true
at_each true name q w h = at_below (λ k. q (name ++ get_or suffixes k []) k) 16 (bits_of w 25 4) h (omega arith)
at_each false name q w h = h

-- ---- what is computed of the table

abbrev is_number : Option ℕ → ℕ → Bool
is_number (Some k) n = eqb k n
is_number None n = false

abbrev is_none : Option ℕ → Bool
is_none (Some k) = false
is_none None = true

abbrev good : Form → List ℕ → ℕ → Bool
good f name k =
    cond (is_number (named f name) k) (cond (is_name name) (cond (leb (length name) 16) (not (bytes_eq name (codes "set"))) false) false) false

abbrev is_good : Form → Bool
is_good f = cond (each f.conditional f.name (good f)) (printable f.parts) false

all_good : all_of is_good natives ≡ true
unfolding natives
all_good = refl

-- the first form has none of the names of the other, or is shut to its operands
abbrev clear : Form → Form → Bool
clear k f = cond (shut k.parts f.parts) true (each f.conditional f.name (λ name n. is_none (named k name)))

abbrev apart : List Form → Bool
apart [] = true
apart (k ∷ ks) = cond (all_of (clear k) ks) (apart ks) false

all_apart : apart natives ≡ true
unfolding natives
all_apart = refl

-- ---- what is known of the form of a word

-- a word's form is found by the name that is printed for it, and its values make the word again
pub record Found (f : Form) (w : ℕ) : Type 0 where
  pub names : named f (f.name ++ suffix_text f.conditional w) ≡ Some (condition_in f w)
  pub is_named : is_name (f.name ++ suffix_text f.conditional w) ≡ true
  pub short : length (f.name ++ suffix_text f.conditional w) ≤ 16
  pub no_set : bytes_eq (f.name ++ suffix_text f.conditional w) (codes "set") ≡ false
  pub prints : printable f.parts ≡ true
  pub spells : filled f (condition_in f w) (values f.parts w) ≡ w

number_is : (o : Option ℕ) (n : ℕ) → is_number o n ≡ true → o ≡ Some n
number_is (Some k) n h = ap (λ m. Some m) (eqb-true k n h)
number_is None n h = absurd (false≢true h)

none_is : (o : Option ℕ) → is_none o ≡ true → o ≡ None
none_is (Some k) h = absurd (false≢true h)
none_is None h = refl

not_true : (t : Bool) → not t ≡ true → t ≡ false
not_true true h = absurd (false≢true h)
not_true false h = refl

sound : (f : Form) (w : ℕ) → is_word_of f w ≡ true → is_good f ≡ true → Found f w
sound f w e h =
    let names = first_of_both (each f.conditional f.name (good f)) (printable f.parts) h in
    let name : List ℕ = f.name ++ suffix_text f.conditional w in
    let all = at_each f.conditional f.name (good f) w names in
    let named_so = first_of_both (is_number (named f name) (condition_in f w)) _ all in
    let others = second_of_both (is_number (named f name) (condition_in f w)) _ all in
    let shorter = second_of_both (is_name name) _ others in
    record {
      names = number_is (named f name) (condition_in f w) named_so;
      is_named = first_of_both (is_name name) _ others;
      short = leb-true (length name) 16 (first_of_both (leb (length name) 16) _ shorter);
      no_set = not_true (bytes_eq name (codes "set")) (second_of_both (leb (length name) 16) _ shorter);
      prints = second_of_both (each f.conditional f.name (good f)) (printable f.parts) h;
      spells = eqb-true _ w e;
    }

spelled : (f : Form) (w : ℕ) (fs : List Form) → find (λ g. is_word_of g w) fs ≡ Some f → is_word_of f w ≡ true
spelled f w [] e = absurd (cc)
spelled f w (k ∷ fs) e = by (is_word_of k w) refl e (spelled f w fs)
  where
    by : (t : Bool) → is_word_of k w ≡ t → cond t (Some k) (find (λ g. is_word_of g w) fs) ≡ Some f → (find (λ g. is_word_of g w) fs ≡ Some f → is_word_of f w ≡ true) → is_word_of f w ≡ true
    by true h g go = subst (λ x. is_word_of x w ≡ true) (same k f g) h
    by false h g go = go g

pub native_found : (w : ℕ) (f : Form) → native_of w ≡ Some f → Found f w
unfolding native_of
native_found w f e = sound f w (spelled f w natives e) (found_passes (λ g. is_word_of g w) is_good natives f e all_good)

-- ---- the first form of the name that the operands fit

module _ (values_of : List ℕ → Option ℕ) (here : ℕ) (line : List ℕ) (ws : List StatementToken) where
  passed : (others : SyntaxFault → Result ℕ SyntaxFault) (x : ℕ) (k : Form) (fault : SyntaxFault) (o : Option ℕ) → ((other : SyntaxFault) → others other ≡ Ok x)
      → (operands_of values_of here line k.parts ws ≡ None) ⊎ (o ≡ None) → of_condition values_of here line others fault k ws o ≡ Ok x
  passed others x k fault None go h = go fault
  passed others x k fault (Some c) go (inl e) = ap (λ r. option_map_or (λ n. n.0 >>= λ m. Ok (filled k c m)) r (others Shape)) e ∙ go Shape
  passed others x k fault (Some c) go (inr e) = absurd (cc)

  found_first : (f : Form) (w : ℕ) (name : List ℕ) → Found f w → operands_of values_of here line f.parts ws ≡ Some (Ok (values f.parts w), []) → name ≡ f.name ++ suffix_text f.conditional w
      → ((ks : _) → shut ks f.parts ≡ true → operands_of values_of here line ks ws ≡ None)
      → (rows rest : List Form) (fault : SyntaxFault) → find (λ g. is_word_of g w) rows ≡ Some f → apart rows ≡ true → first_of values_of here line fault (rows ++ rest) name ws ≡ Ok w
  found_first f w name known fits is shuts [] rest fault e h = absurd (cc)
  found_first f w name known fits is shuts (k ∷ rows) rest fault e h =
      by (is_word_of k w) e (λ other g. found_first f w name known fits is shuts rows rest other g (second_of_both (all_of (clear k) rows) (apart rows) h))
    where
      skips : (t : Bool) → shut k.parts f.parts ≡ t → cond t true (each f.conditional f.name (λ n c. is_none (named k n))) ≡ true
          → (operands_of values_of here line k.parts ws ≡ None) ⊎ (named k name ≡ None)
      skips true s c = inl (shuts k.parts s)
      skips false s c = inr (ap (named k) is ∙ none_is (named k (f.name ++ suffix_text f.conditional w)) (at_each f.conditional f.name (λ n c. is_none (named k n)) w c))

      by : (t : Bool) → cond t (Some k) (find (λ g. is_word_of g w) rows) ≡ Some f
          → ((other : SyntaxFault) → find (λ g. is_word_of g w) rows ≡ Some f → first_of values_of here line other (rows ++ rest) name ws ≡ Ok w)
          → first_of values_of here line fault ((k ∷ rows) ++ rest) name ws ≡ Ok w
      by true g go =
          ap (λ x. of_condition values_of here line (λ other. first_of values_of here line other (rows ++ rest) name ws) fault x ws (named x name)) (same k f g)
          ∙ ap (λ n. of_condition values_of here line (λ other. first_of values_of here line other (rows ++ rest) name ws) fault f ws (named f n)) is
          ∙ ap (of_condition values_of here line (λ other. first_of values_of here line other (rows ++ rest) name ws) fault f ws) known.names
          ∙ ap (λ r. option_map_or (λ n. n.0 >>= λ m. Ok (filled f (condition_in f w) m)) r (first_of values_of here line Shape (rows ++ rest) name ws)) fits
          ∙ ap (λ n. Ok n) known.spells
      by false g go =
          passed (λ other. first_of values_of here line other (rows ++ rest) name ws) w k fault (named k name)
          (λ other. go other g)
          (skips (shut k.parts f.parts) refl (found_passes (λ x. is_word_of x w) (clear k) rows f g (first_of_both (all_of (clear k) rows) (apart rows) h)))

  pub first_is : (f : Form) (w : ℕ) (name : List ℕ) → native_of w ≡ Some f → Found f w → operands_of values_of here line f.parts ws ≡ Some (Ok (values f.parts w), [])
      → name ≡ f.name ++ suffix_text f.conditional w → ((ks : _) → shut ks f.parts ≡ true → operands_of values_of here line ks ws ≡ None)
      → first_of values_of here line UnknownMnemonic forms name ws ≡ Ok w
  unfolding native_of
  first_is f w name e known fits is shuts = found_first f w name known fits is shuts natives synthetics UnknownMnemonic e all_apart
