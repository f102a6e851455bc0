-- How many expressions the operands are, once all are seen.
use Rattle.std.proofs.Common.{◌≡◌, ◌≢◌, ℕ, ◌+◌, Bool, true, false, List, [], ◌∷◌, length, None, Some, refl, sym, ◌∙◌, arith}
use Rattle.std.specs.Prelude.{◌&&◌}
use Rattle.std.specs.List.{list_all}
use Rattle.std.proofs.lemmas.Bool.{false≢true}
use Rattle.sbx_directives.specs.declared.operand.Operand.{Operand}
use Rattle.sbx_directives.specs.Directives.{is_expression, value_count}

refused : (whole : List Operand) → list_all is_expression whole ≡ false → value_count whole ≡ None
unfolding value_count
refused [] h = refl
refused (o ∷ os) h = rw h refl

counted : (whole : List Operand) (n : ℕ) → list_all is_expression whole ≡ true → n ≡ length whole → n ≢ 0 → value_count whole ≡ Some n
unfolding value_count
counted [] n h e some = absurd (some e)
counted (o ∷ os) n h e some = rw (h, e) refl

spoiled : (t u : Bool) → t ≡ false → (t && u) ≡ false
spoiled true u h = absurd (false≢true (sym h))
spoiled false u h = refl

-- one is no expression
pub stops : (whole left after : List Operand) (o : Operand) → left ≡ o ∷ after → is_expression o ≡ false
    → list_all is_expression left ≡ list_all is_expression whole → None ≡ value_count whole
stops whole left after o split bad kept =
    let all : list_all is_expression left ≡ false = rw split (spoiled (is_expression o) (list_all is_expression after) bad) in
    sym (refused whole (sym kept ∙ all))

-- there are none
pub empty : (whole left : List Operand) (n : ℕ) → left ≡ [] → n ≡ 0 → n + length left ≡ length whole → None ≡ value_count whole
unfolding value_count
empty [] left n nothing zero total = refl
empty (o ∷ os) left n nothing zero total =
    let none : length left ≡ 0 = rw nothing refl in
    absurd (omega (arith, none, zero, total))

-- all are
pub ends : (whole left : List Operand) (n : ℕ) → left ≡ [] → n ≢ 0 → list_all is_expression left ≡ list_all is_expression whole → n + length left ≡ length whole
    → Some n ≡ value_count whole
ends whole left n nothing some kept total =
    let none : length left ≡ 0 = rw nothing refl in
    let all : list_all is_expression left ≡ true = rw nothing refl in
    let len : n ≡ length whole = omega (arith, none, total) in
    sym (counted whole n (sym kept ∙ all) len some)
