-- What is told of a verdict: the text grows by one line, or by a refusal, its rule in words, and what explains them.
use Rattle.std.specs.Prelude.{ℕ, ◌≡◌, List, [], ◌∷◌, ◌++◌, codes, Option, Some, None}
use Rattle.sbx_rules.specs.declared.cause.Refusal.{Refusal}
use Rattle.sbx_rules.specs.Causes.{shown}
use Rattle.inspect_refusal.specs.Texts.{rule_text}

abbrev pub head_text : Refusal → List ℕ
head_text refusal = shown refusal ++ (codes "\n" ++ (rule_text refusal.cause ++ 10 ∷ []))

abbrev pub IsTold : Refusal → List ℕ → List ℕ → Type 0
IsTold refusal old new = (rest : List ℕ) × (new ≡ old ++ (head_text refusal ++ rest))

abbrev pub Tells : Option Refusal → List ℕ → List ℕ → Type 0
Tells None old new = new ≡ old ++ codes "accepted: no rule is broken\n"
Tells (Some refusal) old new = IsTold refusal old new
