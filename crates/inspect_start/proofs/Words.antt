-- The bytes of words, one after the other.
use Rattle.std.proofs.Common.{◌≡◌, ℕ, List, [], ◌∷◌, ◌++◌, Option, Some, None, refl, sym, ap, ◌∙◌, append_assoc, append-nil}
use Rattle.std.specs.Prelude.{◌-◌, ◌^◌}
use Rattle.std.specs.Int.{to_be_bytes, w32}
use Rattle.std.specs.Option.{option_and_then, option_map}
use Rattle.inspect_start.specs.Lines.{number_of, words_of}
use Rattle.inspect_start.specs.Items.{bytes_of}

none_before : (o : Option (List ℕ)) → option_map (λ more. [] ++ more) o ≡ o
none_before (Some more) = refl
none_before None = refl

pub at_first : (text : List ℕ) (bytes : List ℕ) → bytes ≡ [] → option_map (λ more. bytes ++ more) (bytes_of (words_of text)) ≡ bytes_of (words_of text)
at_first text bytes none = rw none (none_before (bytes_of (words_of text)))

joined : (front mid : List ℕ) (o : Option (List ℕ)) → option_map (λ more. (front ++ mid) ++ more) o ≡ option_map (λ more. front ++ more) (option_map (λ more. mid ++ more) o)
joined front mid (Some more) = ap Some (append_assoc front mid more)
joined front mid None = refl

module _ (text rest : List ℕ) (front : List ℕ) (so_far : option_map (λ more. front ++ more) (bytes_of (words_of rest)) ≡ bytes_of (words_of text)) where
  pub next_bytes : (word after : List ℕ) (n : ℕ) (bytes : List ℕ) → words_of rest ≡ word ∷ words_of after → number_of (2 ^ 32 - 1) word ≡ Some n
      → bytes ≡ front ++ to_be_bytes w32 n → option_map (λ more. bytes ++ more) (bytes_of (words_of after)) ≡ bytes_of (words_of text)
  next_bytes word after n bytes first is grown =
      rw grown (joined front (to_be_bytes w32 n) (bytes_of (words_of after)))
      ∙ ap (λ (o : Option ℕ). option_map (λ more. front ++ more) (option_and_then (λ number. option_map (λ bytes. to_be_bytes w32 number ++ bytes) (bytes_of (words_of after))) o)) (sym is)
      ∙ ap (λ (words : List (List ℕ)). option_map (λ more. front ++ more) (bytes_of words)) (sym first)
      ∙ so_far

  pub no_bytes : (word after : List ℕ) → words_of rest ≡ word ∷ words_of after → number_of (2 ^ 32 - 1) word ≡ None → bytes_of (words_of text) ≡ None
  no_bytes word after first none =
      sym so_far
      ∙ ap (λ (words : List (List ℕ)). option_map (λ more. front ++ more) (bytes_of words)) first
      ∙ ap (λ (o : Option ℕ). option_map (λ more. front ++ more) (option_and_then (λ number. option_map (λ bytes. to_be_bytes w32 number ++ bytes) (bytes_of (words_of after))) o)) none

  pub all_bytes : words_of rest ≡ [] → bytes_of (words_of text) ≡ Some front
  all_bytes none =
      sym so_far ∙ ap (λ (words : List (List ℕ)). option_map (λ more. front ++ more) (bytes_of words)) none ∙ ap Some (append-nil front)
