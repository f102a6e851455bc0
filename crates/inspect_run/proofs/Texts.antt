-- Texts that are made of pieces.
use Rattle.std.proofs.Common.{◌≡◌, ℕ, List, ◌++◌, Result, Ok, Err, OnOk, refl, ◌∙◌, append_assoc}
use Rattle.std.specs.Prelude.{is_ok, if◌then◌else◌}

-- one piece more, where there was memory for it
pub pushed : {T E : Type 0} (r : Result T E) (old new piece : List ℕ) → new ≡ (if is_ok r then old ++ piece else old) → OnOk r (new ≡ old ++ piece)
pushed (Ok x) old new piece is = is
pushed (Err e) old new piece is = tt

-- five pieces, one after the other
pub pieces : (a b c d e f p q r s t : List ℕ) → b ≡ a ++ p → c ≡ b ++ q → d ≡ c ++ r → e ≡ d ++ s → f ≡ e ++ t → f ≡ a ++ (p ++ (q ++ (r ++ (s ++ t))))
pieces a b c d e f p q r s t one two three four five =
    let whole : f ≡ ((((a ++ p) ++ q) ++ r) ++ s) ++ t = rw (five, four, three, two, one) refl in
    whole ∙ simp append_assoc
