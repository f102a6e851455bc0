-- Addresses ascend with functions, blocks and words: so what a walk meets first has the least address.
use Rattle.std.proofs.Common.{◌≡◌, ℕ, ◌+◌, ◌*◌, ◌<◌, ◌≤◌, length, Ok, refl, sym, ap, ◌∙◌, subst, inl, inr, arith}
use Rattle.std.specs.Prelude.{◌⊎◌}
use Rattle.std.proofs.lemmas.Bool.{cases_lt}
use Rattle.sbx_image.specs.Parts.{Parts}
use Rattle.sbx_image.specs.Order.{address_of, block_end, words_in}
use Rattle.sbx_image.specs.Rules.{parts_keep}
use Rattle.sbx_image.proofs.Ordered.{in_order}
use Rattle.sbx_pass.specs.Cause.{Cause}
use Rattle.sbx_pass.specs.Refusal.{Refusal}
use Rattle.sbx_rules.specs.Places.{IsPlace}
use Rattle.sbx_rules.specs.Rules.{Holds}
use Rattle.sbx_rules.specs.Verdicts.{Breaks, Checked, IsFirst}
use Rattle.sbx_pass.specs.Walks.{IsFirstOfFunction, IsQuietFunction}

module _ (parts : Parts) (keeps : parts_keep parts ≡ Ok tt) where
  -- ---- addresses

  abbrev Address : ℕ → ℕ → ℕ → ℕ
  Address f b i = address_of parts f b i

  at_word : (f b i : ℕ) → address_of parts f b i ≡ address_of parts f b 0 + 4 * i
  unfolding address_of
  at_word f b i = omega arith

  -- a word ends where its block does, or before
  ends : (f b i : ℕ) → IsPlace parts f b i → address_of parts f b i + 4 ≤ block_end parts f b
  ends f b i place =
      let words = (in_order parts keeps).blocks f b (place.function, place.block) in
      let e = words.ends in
      let p = at_word f b i in
      let q = at_word f b (words_in parts f b) in
      let within = place.word in
      omega arith

  starts : (g c j : ℕ) → address_of parts g c 0 ≤ address_of parts g c j
  starts g c j = let p = at_word g c j in omega arith

  later_function : (f g b c i j : ℕ) → f < g → IsPlace parts f b i → IsPlace parts g c j → address_of parts f b i < address_of parts g c j
  later_function f g b c i j less p q =
      let o = (in_order parts keeps).functions f g b c less (p.function, p.block) (q.function, q.block) in
      let e = ends f b i p in
      let s = starts g c j in
      omega arith

  later_block : (f b c i j : ℕ) → b < c → IsPlace parts f b i → IsPlace parts f c j → address_of parts f b i < address_of parts f c j
  later_block f b c i j less p q =
      let o = (in_order parts keeps).ascending f b c less (q.function, q.block) in
      let e = ends f b i p in
      let s = starts f c j in
      omega arith

  -- ---- what is met first

  module _ (f : ℕ) (in_functions : f < length parts.functions) (refusal : Refusal) (found : IsFirstOfFunction parts f refusal)
      (quiet : (g : ℕ) → g < f → IsQuietFunction parts g) where
    b : ℕ
    b = found.block

    i : ℕ
    i = found.word

    place : IsPlace parts f found.block found.word
    place = record { function = in_functions; block = found.there; word = found.first.word }

    -- a fault that doesn't lie past it is in its block, and doesn't lie past it there
    Same : ℕ → ℕ → ℕ → Type 0
    Same g c j = (g ≡ f) × (c ≡ found.block) × (j ≤ found.word)

    in_block : (c j : ℕ) (other : Cause) → IsPlace parts f c j → address_of parts f c j ≤ address_of parts f found.block found.word → Holds parts f c j other
        → (c ≡ found.block) × (j ≤ found.word)
    in_block c j other there low breaks = by_order (cases_lt c found.block) (cases_lt found.block c)
      where
        by_order : (c < found.block) ⊎ (found.block ≤ c) → (found.block < c) ⊎ (c ≤ found.block) → (c ≡ found.block) × (j ≤ found.word)
        by_order (inl less) _ = absurd (found.quiet c less j other there.word breaks)
        by_order (inr le) (inl more) = absurd (let h = later_block f found.block c found.word j more place there in omega arith)
        by_order (inr le) (inr ge) =
            let e : c ≡ found.block = omega arith in
            let s = ap (λ k. address_of parts f k j) e in
            let p = at_word f found.block j in
            let q = at_word f found.block found.word in
            (e, omega arith)

    met : (g c j : ℕ) (other : Cause) → IsPlace parts g c j → address_of parts g c j ≤ address_of parts f found.block found.word → Holds parts g c j other → Same g c j
    unfolding Same
    met g c j other there low breaks = by_order (cases_lt g f) (cases_lt f g)
      where
        by_order : (g < f) ⊎ (f ≤ g) → (f < g) ⊎ (g ≤ f) → (g ≡ f) × (c ≡ found.block) × (j ≤ found.word)
        by_order (inl less) _ = absurd (quiet g less c there.block j other there.word breaks)
        by_order (inr le) (inl more) = absurd (let h = later_function f g found.block c found.word j more place there in omega arith)
        by_order (inr le) (inr ge) =
            let e : g ≡ f = omega arith in
            let r = in_block c j other (subst (λ k. IsPlace parts k c j) e there)
            (subst (λ k. address_of parts k c j ≤ address_of parts f found.block found.word) e low) (subst (λ k. Holds parts k c j other) e breaks) in
            (e, r.0, r.1)

    here : (g c j : ℕ) (other : Cause) → g ≡ f → c ≡ found.block → Holds parts g c j other → Holds parts f found.block j other
    here g c j other e d breaks = subst (λ k. Holds parts f k j other) d (subst (λ k. Holds parts k c j other) e breaks)

    same_place : (g c j : ℕ) → g ≡ f → c ≡ found.block → address_of parts g c j ≡ address_of parts f found.block j
    same_place g c j e d = ap (λ k. address_of parts k c j) e ∙ ap (λ k. address_of parts f k j) d

    pub is_first : IsFirst parts refusal
    unfolding Same
    is_first = record {
      told = subst (λ k. Breaks parts k refusal.address refusal.cause) (sym found.function)
          (record { block = found.block; word = found.word; place = place; lies = found.address; holds = found.first.holds });
      no_lesser_address = λ g address other less breaks.
          (let a = breaks.lies in
          let r = found.address in
          let m = met g breaks.block breaks.word other breaks.place (omega arith) breaks.holds in
          let s = same_place g breaks.block breaks.word m.0 m.1 in
          let p = at_word f found.block breaks.word in
          let q = at_word f found.block found.word in
          found.first.asked.none_before breaks.word other (omega arith) (here g breaks.block breaks.word other m.0 m.1 breaks.holds));
      no_lesser_number = λ g other less breaks.
          (let a = breaks.lies in
          let r = found.address in
          let m = met g breaks.block breaks.word other breaks.place (omega arith) breaks.holds in
          let s = same_place g breaks.block breaks.word m.0 m.1 in
          let p = at_word f found.block breaks.word in
          let q = at_word f found.block found.word in
          let e : breaks.word ≡ found.word = omega arith in
          found.first.asked.none_below other less (subst (λ k. Holds parts f found.block k other) e (here g breaks.block breaks.word other m.0 m.1 breaks.holds)));
    }

pub is_checked : (parts : Parts) → ((g : ℕ) → g < length parts.functions → IsQuietFunction parts g) → Checked parts
is_checked parts quiet g address other breaks = quiet g breaks.place.function breaks.block breaks.place.block breaks.word other breaks.place.word breaks.holds
