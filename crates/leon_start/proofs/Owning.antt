-- The parts one after another, as a loop goes over them.
use Rattle.std.proofs.Common.{◌≡◌, ℕ, ◌+◌, ◌<◌, ◌≤◌, true, false, List, length, drop, Option, Some, None, sym, ap, ◌∙◌}
use Rattle.std.specs.Prelude.{slice_index_or}
use Rattle.std.specs.Option.{is_some}
use Rattle.std.proofs.lemmas.List.{drop_all, drop_more}
use Rattle.leon_start.specs.Own.{first_of, own_word, word_in}
use Rattle.leon_start.specs.declared.own.OwnWords.{OwnWords}

module _ (k : ℕ) (parts : List OwnWords) (i : ℕ) (so_far : own_word (drop i parts) k ≡ own_word parts k) where
  -- the word is this part's, where it has it, or that of the parts behind it
  looks_on : (d : OwnWords) → i < length parts → first_of (word_in (slice_index_or parts i d) k) (own_word (drop (i + 1) parts) k) ≡ own_word parts k
  looks_on d lt = ap (λ l. own_word l k) (sym (drop_more parts i d lt)) ∙ so_far

  pub found : (d : OwnWords) → i < length parts → (r : Option ℕ) → r ≡ word_in (slice_index_or parts i d) k → is_some r ≡ true → r ≡ own_word parts k
  found d lt (Some w) is there = ap (λ r. first_of r (own_word (drop (i + 1) parts) k)) is ∙ looks_on d lt
  found d lt None is there = cc

  pub behind : (d : OwnWords) → i < length parts → (r : Option ℕ) → r ≡ word_in (slice_index_or parts i d) k → is_some r ≡ false →
      own_word (drop (i + 1) parts) k ≡ own_word parts k
  behind d lt (Some w) is none = cc
  behind d lt None is none = ap (λ r. first_of r (own_word (drop (i + 1) parts) k)) is ∙ looks_on d lt

  pub nowhere : length parts ≤ i → None ≡ own_word parts k
  nowhere done = ap (λ l. own_word l k) (sym (drop_all i parts done)) ∙ so_far
