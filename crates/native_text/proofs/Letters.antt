-- Reading letters and numbers at the front of a text.
use Rattle.std.proofs.Common.{◌≡◌, ℕ, ◌+◌, ◌-◌, ◌*◌, ◌^◌, ◌<◌, Bool, true, false, List, [], ◌∷◌, ◌++◌, length, Option, Some, None, refl, sym, ap, ◌∙◌, arith, rules}
use Rattle.std.specs.Prelude.{◌==◌, ◌&&◌, if◌then◌else◌}
use Rattle.std.specs.Str.{all_ascii_digits}
use Rattle.std.specs.Char.{is_ascii_digit}
use Rattle.std.specs.Fmt.{decimal}
use Rattle.std.proofs.lemmas.Bool.{false≢true, ne_eqb}
use Rattle.std.proofs.lemmas.Fmt.{decimal_nonempty, digits_decimal, digits_value-decimal}
use Rattle.std.proofs.lemmas.Str.Parse.{IsNumeralModel, numerals_by_fold, tells_all_ascii_digits}

-- ---- one step after another

pub bind : {A B : Type 0} → Option A → (A → Option B) → Option B
bind None f = None
bind (Some a) f = f a

pub after : {A B : Type 0} {m : Option A} {a : A} {r : Option B} (f : A → Option B) → m ≡ Some a → f a ≡ r → bind m f ≡ r
unfolding bind
after f e q = ap (λ o. bind o f) e ∙ q

-- ---- letters

abbrev pub strip : List ℕ → List ℕ → Option (List ℕ)
strip [] t = Some t
strip (c ∷ cs) [] = None
strip (c ∷ cs) (d ∷ t) = if c == d then strip cs t else None

pub strip-other : (c d : ℕ) (cs t : List ℕ) → (c == d) ≡ false → strip (c ∷ cs) (d ∷ t) ≡ None
strip-other c d cs t e = ap (λ (b : Bool). if b then strip cs t else None) e

abbrev pub or_else : {K : Type 0} → K → Option (List ℕ) → Option (K × List ℕ) → Option (K × List ℕ)
or_else k None other = other
or_else k (Some t) other = Some (k, t)

-- the first of some words that stands at the front
abbrev pub choose : {K : Type 0} → List (List ℕ × K) → List ℕ → Option (K × List ℕ)
choose [] t = None
choose (p ∷ ps) t = or_else p.1 (strip p.0 t) (choose ps t)

pub skip : {K : Type 0} (p : List ℕ × K) (ps : List (List ℕ × K)) (t : List ℕ) → strip p.0 t ≡ None → choose (p ∷ ps) t ≡ choose ps t
skip p ps t e = ap (λ s. or_else p.1 s (choose ps t)) e

-- none of them
abbrev pub Fails : {K : Type 0} → List (List ℕ × K) → List ℕ → Type 0
Fails [] t = Unit {0}
Fails (p ∷ ps) t = (strip p.0 t ≡ None) × Fails ps t

pub none_chosen : {K : Type 0} (ps : List (List ℕ × K)) (t : List ℕ) → Fails ps t → choose ps t ≡ None
none_chosen [] t f = refl
none_chosen (p ∷ ps) t f = skip p ps t f.0 ∙ none_chosen ps t f.1

-- ---- numbers

abbrev value_on : ℕ → List ℕ → ℕ
value_on n [] = n
value_on n (c ∷ cs) = value_on (n * 10 + (c - 48)) cs

own : IsNumeralModel (λ ds. all_ascii_digits ds ≡ true) (value_on 0)
own = numerals_by_fold _ tells_all_ascii_digits value_on (search rules)

abbrev figures : List ℕ → List ℕ
figures [] = []
figures (c ∷ cs) = if is_ascii_digit c then c ∷ figures cs else []

abbrev behind_figures : List ℕ → List ℕ
behind_figures [] = []
behind_figures (c ∷ cs) = if is_ascii_digit c then behind_figures cs else c ∷ cs

pub read_number : List ℕ → Option (ℕ × List ℕ)
read_number t = Some (value_on 0 (figures t), behind_figures t)

-- no figure stands at the front
abbrev pub Stops : List ℕ → Type 0
Stops [] = Unit {0}
Stops (c ∷ t) = is_ascii_digit c ≡ false

stop-figures : (t : List ℕ) → Stops t → figures t ≡ []
stop-figures [] s = refl
stop-figures (c ∷ t) s = ap (λ (b : Bool). if b then c ∷ figures t else []) s

stop-behind : (t : List ℕ) → Stops t → behind_figures t ≡ t
stop-behind [] s = refl
stop-behind (c ∷ t) s = ap (λ (b : Bool). if b then behind_figures t else c ∷ t) s

first-figure : (a b : Bool) → (a && b) ≡ true → (a ≡ true) × (b ≡ true)
first-figure true b e = (refl, e)
first-figure false b e = absurd (cc)

figures-append : (ds t : List ℕ) → all_ascii_digits ds ≡ true → Stops t → figures (ds ++ t) ≡ ds
figures-append [] t all s = stop-figures t s
figures-append (d ∷ ds) t all s =
    let both = first-figure (is_ascii_digit d) (all_ascii_digits ds) all in
    ap (λ (b : Bool). if b then d ∷ figures (ds ++ t) else []) both.0 ∙ ap (λ (l : List ℕ). d ∷ l) (figures-append ds t both.1 s)

behind-append : (ds t : List ℕ) → all_ascii_digits ds ≡ true → Stops t → behind_figures (ds ++ t) ≡ t
behind-append [] t all s = stop-behind t s
behind-append (d ∷ ds) t all s =
    let both = first-figure (is_ascii_digit d) (all_ascii_digits ds) all in
    ap (λ (b : Bool). if b then behind_figures (ds ++ t) else d ∷ (ds ++ t)) both.0 ∙ behind-append ds t both.1 s

-- a number is read back, where no figure comes behind it
pub number : (n : ℕ) (t : List ℕ) → n < 2 ^ 32 → Stops t → read_number (decimal n ++ t) ≡ Some (n, t)
unfolding read_number
number n t small s =
    let small' : n < 2 ^ 64 = omega arith in
    let all : all_ascii_digits (decimal n) ≡ true = digits_decimal own n small' in
    let e1 : value_on 0 (figures (decimal n ++ t)) ≡ n =
    ap (λ (l : List ℕ). value_on 0 l) (figures-append (decimal n) t all s) ∙ digits_value-decimal own n small' in
    ap (λ (m : ℕ). Some (m, behind_figures (decimal n ++ t))) e1 ∙ ap (λ (l : List ℕ). Some (n, l)) (behind-append (decimal n) t all s)

figure_of : (ds : List ℕ) → 0 < length ds → all_ascii_digits ds ≡ true
    → (d : ℕ) × (rest : List ℕ) × (ds ≡ d ∷ rest) × (is_ascii_digit d ≡ true)
figure_of [] some all = absurd (omega arith)
figure_of (d ∷ ds) some all = (d, ds, refl, (first-figure (is_ascii_digit d) (all_ascii_digits ds) all).0)

-- a number's first letter is a figure
pub figure : (n : ℕ) → n < 2 ^ 32 → (d : ℕ) × (ds : List ℕ) × (decimal n ≡ d ∷ ds) × (is_ascii_digit d ≡ true)
figure n small =
    let small' : n < 2 ^ 64 = omega arith in
    figure_of (decimal n) (decimal_nonempty n small') (digits_decimal own n small')

-- and so no other letter
pub no_figure : (c d : ℕ) → is_ascii_digit c ≡ false → is_ascii_digit d ≡ true → (c == d) ≡ false
no_figure c d e f = ne_eqb c d (λ same. false≢true (sym e ∙ ap is_ascii_digit same ∙ f))

pub strip-number : (c : ℕ) (cs : List ℕ) (n : ℕ) (t : List ℕ) → is_ascii_digit c ≡ false → n < 2 ^ 32 → strip (c ∷ cs) (decimal n ++ t) ≡ None
strip-number c cs n t e small =
    let f = figure n small in
    ap (λ (l : List ℕ). strip (c ∷ cs) (l ++ t)) f.2 ∙ strip-other c f.0 cs (f.1 ++ t) (no_figure c f.0 e f.3)
