-- A refusal that is told before what explains it.
use Rattle.std.proofs.Common.{◌≡◌, ℕ, List, ◌++◌, ap, ◌∙◌, append_assoc}
use Rattle.sbx_rules.specs.declared.cause.Refusal.{Refusal}
use Rattle.inspect_refusal.specs.Refusals.{IsTold, head_text}

pub is_told : (refusal : Refusal) (a b c rest : List ℕ) → b ≡ a ++ head_text refusal → c ≡ b ++ rest → IsTold refusal a c
is_told refusal a b c rest p q = (rest, q ∙ ap (λ (t : List ℕ). t ++ rest) p ∙ append_assoc a (head_text refusal) rest)
