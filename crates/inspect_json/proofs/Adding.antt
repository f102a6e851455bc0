-- Tokens that a writer has more, one after the other.
use Rattle.std.proofs.Common.{◌≡◌, ℕ, suc, ◌+◌, ◌<◌, ◌≤◌, List, [], ◌∷◌, ◌++◌, length, map, get_or, drop, Result, Ok, Err, OnOk, refl, sym, ap, ◌∙◌, append_assoc, add-one, drop-cons}
use Rattle.std.proofs.lemmas.List.{drop_all}
use Rattle.json.specs.Json.{Json}
use Rattle.json.specs.Token.{Token, end_array}
use Rattle.json.specs.Tree.{items_tokens, json_tokens}
use Rattle.json.specs.Written.{Written, Writes}
use Rattle.inspect_json.specs.Objects.{Adds, IsEmpty, IsLine, IsLineOf, items_of}

pub added : {E : Type 0} (r : Result (Unit {0}) E) (old new : Written) (t : Token) → Writes r old new t → OnOk r (Adds old new (t ∷ []))
added (Ok u) old new t w = (w.room.0, w.ok)
added (Err e) old new t w = tt

-- some tokens, and then others
pub both : (a b c : Written) (xs ys : List Token) → Adds a b xs → Adds b c ys → Adds a c (xs ++ ys)
both a b c xs ys p q = (q.0 ∙ p.0, q.1 ∙ ap (λ (ts : List Token). ts ++ ys) p.1 ∙ append_assoc a.tokens xs ys)

-- some tokens, and then others where they could be written; and so on
pub then_two : {E : Type 0} (r : Result (Unit {0}) E) (a b c : Written) (xs ys : List Token) → Adds a b xs → OnOk r (Adds b c ys) → OnOk r (Adds a c (xs ++ ys))
then_two (Ok u) a b c xs ys p last = both a b c xs ys p last
then_two (Err e) a b c xs ys p last = tt

pub then_three : {E : Type 0} (r : Result (Unit {0}) E) (a b c d : Written) (xs ys zs : List Token) → Adds a b xs → Adds b c ys → OnOk r (Adds c d zs)
    → OnOk r (Adds a d (xs ++ (ys ++ zs)))
then_three r a b c d xs ys zs p q last = then_two r a b d xs (ys ++ zs) p (then_two r b c d ys zs q last)

pub then_four : {E : Type 0} (r : Result (Unit {0}) E) (a b c d e : Written) (xs ys zs vs : List Token) → Adds a b xs → Adds b c ys → Adds c d zs
    → OnOk r (Adds d e vs) → OnOk r (Adds a e (xs ++ (ys ++ (zs ++ vs))))
then_four r a b c d e xs ys zs vs p q s last = then_two r a b e xs (ys ++ (zs ++ vs)) p (then_three r b c d e ys zs vs q s last)

pub then_five : {E : Type 0} (r : Result (Unit {0}) E) (a b c d e f : Written) (xs ys zs vs ws : List Token) → Adds a b xs → Adds b c ys → Adds c d zs → Adds d e vs
    → OnOk r (Adds e f ws) → OnOk r (Adds a f (xs ++ (ys ++ (zs ++ (vs ++ ws)))))
then_five r a b c d e f xs ys zs vs ws p q s t last = then_two r a b f xs (ys ++ (zs ++ (vs ++ ws))) p (then_four r b c d e f ys zs vs ws q s t last)

pub then_six : {E : Type 0} (r : Result (Unit {0}) E) (a b c d e f g : Written) (xs ys zs vs ws us : List Token) → Adds a b xs → Adds b c ys → Adds c d zs → Adds d e vs
    → Adds e f ws → OnOk r (Adds f g us) → OnOk r (Adds a g (xs ++ (ys ++ (zs ++ (vs ++ (ws ++ us))))))
then_six r a b c d e f g xs ys zs vs ws us p q s t v last =
    then_two r a b g xs (ys ++ (zs ++ (vs ++ (ws ++ us)))) p (then_five r b c d e f g ys zs vs ws us q s t v last)

pub then_seven : {E : Type 0} (r : Result (Unit {0}) E) (a b c d e f g h : Written) (xs ys zs vs ws us ts : List Token) → Adds a b xs → Adds b c ys → Adds c d zs
    → Adds d e vs → Adds e f ws → Adds f g us → OnOk r (Adds g h ts) → OnOk r (Adds a h (xs ++ (ys ++ (zs ++ (vs ++ (ws ++ (us ++ ts)))))))
then_seven r a b c d e f g h xs ys zs vs ws us ts p q s t v w last =
    then_two r a b h xs (ys ++ (zs ++ (vs ++ (ws ++ (us ++ ts))))) p (then_six r b c d e f g h ys zs vs ws us ts q s t v w last)

-- one value more of a list, of which the others are left
pub one_more : {A : Type 0} (told : A → Json) (done total : List Token) (i : ℕ) (xs : List A) (x : A) → i < length xs → x ≡ get_or xs i x
    → done ++ items_tokens (items_of (map told (drop i xs))) ≡ total
    → (done ++ json_tokens (told x)) ++ items_tokens (items_of (map told (drop (i + 1) xs))) ≡ total
one_more {A} told done total i xs x lt is so_far =
    let front : drop i xs ≡ x ∷ drop (i + 1) xs = rw add-one (drop-cons xs i x lt ∙ ap (λ (y : A). y ∷ drop (suc i) xs) (sym is)) in
    append_assoc done (json_tokens (told x)) (items_tokens (items_of (map told (drop (i + 1) xs))))
    ∙ ap (λ (ys : List A). done ++ items_tokens (items_of (map told ys))) (sym front) ∙ so_far

-- a list of which none is left
pub all_told : {A : Type 0} (told : A → Json) (done total : List Token) (i : ℕ) (xs : List A) → length xs ≤ i
    → done ++ items_tokens (items_of (map told (drop i xs))) ≡ total → done ++ end_array ∷ [] ≡ total
all_told {A} told done total i xs le so_far = ap (λ (ys : List A). done ++ items_tokens (items_of (map told ys))) (sym (drop_all i xs le)) ∙ so_far

-- a value that a new writer was given whole is its line
pub whole_line : (a b : Written) (j : Json) (line : List ℕ) → IsEmpty a → Adds a b (json_tokens j) → IsLineOf b line → IsLine j line
whole_line a b j line empty adds is =
    let same : b.tokens ≡ json_tokens j = adds.1 ∙ ap (λ (ts : List Token). ts ++ json_tokens j) empty.1 in
    let none : b.before ≡ [] = adds.0 ∙ empty.0 in
    (is.0 ∙ rw (none, same) refl, rw (sym same) is.1)
