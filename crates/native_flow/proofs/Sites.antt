-- The calls of the code, one word after another.
use Rattle.std.proofs.Common.{◌≡◌, ℕ, zero, suc, ◌+◌, ◌<◌, ◌≤◌, ◌⊎◌, inl, inr, List, [], ◌∷◌, ◌++◌, length, Some, slice_index, refl, sym, ap, ◌∙◌, arith}
use Rattle.std.specs.Prelude.{slice_get}
use Rattle.v8_meaning.specs.Operands.{target}
use Rattle.v8_meaning.specs.declared.operation.Operation.TheVariants.{Call}
use Rattle.sbx_image.specs.Parts.{Parts}
use Rattle.sbx_flat.specs.Turns.{asked}
use Rattle.native_flow.specs.Labelling.{HasCalls, HasCallsBelow, word_address}
use Rattle.native_flow.specs.declared.labels.Site.{Site}
use Rattle.native_flow.proofs.Rows.{word_by}

get_front : {A : Type 0} (l m : List A) (i : ℕ) (x : A) → slice_get l i ≡ Some x → slice_get (l ++ m) i ≡ Some x
get_front [] m i x e = absurd cc
get_front (y ∷ l) m zero x e = e
get_front (y ∷ l) m (suc i) x e = get_front l m i x e

get_last : {A : Type 0} (l : List A) (x : A) → slice_get (l ++ x ∷ []) (length l) ≡ Some x
get_last [] x = refl
get_last (y ∷ l) x = get_last l x

pub no_calls : (words : List ℕ) → HasCallsBelow words 0 []
no_calls words k d less is = absurd (omega (arith, less))

pub calls_more : (words : List ℕ) (n d address : ℕ) (sites new : List Site) → HasCallsBelow words n sites → asked (slice_index words n) ≡ Call d → address ≡ word_address n →
    new ≡ sites ++ (record { address = address; entry = target address d }) ∷ [] → HasCallsBelow words (n + 1) new
calls_more words n d address sites new before called there is k e less asks = by (search arith)
  where
    site : Site
    site = record { address = address; entry = target address d }

    by : (k < n) ⊎ (n ≤ k) → (i : ℕ) × (slice_get new i ≡ Some (record { address = word_address k; entry = target (word_address k) e }))
    by (inl low) = let h = before k e low asks in (h.0, ap (λ l. slice_get l h.0) is ∙ get_front sites (site ∷ []) h.0 _ h.1)
    by (inr high) =
        let same : k ≡ n = omega (arith, less, high) in
        let other : asked (slice_index words n) ≡ Call e = ap (λ x. asked (slice_index words x)) (sym same) ∙ asks in
        let equal : d ≡ e = cc in
        let at : address ≡ word_address k = there ∙ ap word_address (sym same) in (
          length sites,
          ap (λ l. slice_get l (length sites)) is ∙ get_last sites site ∙ ap (λ x. Some (record { address = address; entry = target address x })) equal
              ∙ ap (λ (a : ℕ). Some (record { address = a; entry = target a e })) at,
        )

pub calls_same : (words : List ℕ) (n : ℕ) (sites : List Site) → HasCallsBelow words n sites → ((d : ℕ) → asked (slice_index words n) ≡ Call d → ⊥) → HasCallsBelow words (n + 1) sites
calls_same words n sites before none k e less asks = by (search arith)
  where
    by : (k < n) ⊎ (n ≤ k) → (i : ℕ) × (slice_get sites i ≡ Some (record { address = word_address k; entry = target (word_address k) e }))
    by (inl low) = before k e low asks
    by (inr high) = let same : k ≡ n = omega (arith, less, high) in absurd (none e (ap (λ x. asked (slice_index words x)) (sym same) ∙ asks))

pub calls_all : (parts : Parts) (words : List ℕ) (n : ℕ) (sites : List Site) → words ≡ parts.words → length parts.words ≤ n → HasCallsBelow words n sites → HasCalls parts sites
calls_all parts words n sites same past h a d asks =
    let w = word_by parts.words a asks.0 asks.1 in
    let less = w.less in
    let is : asked (slice_index words w.number) ≡ Call d = ap (λ l. asked (slice_index l w.number)) same ∙ ap asked w.is ∙ asks.2 in
    let found = h w.number d (omega (arith, less, past)) is in
    (found.0, found.1 ∙ ap (λ (x : ℕ). Some (record { address = x; entry = target x d })) (sym w.at))
