-- Reading items one after the other, as a loop does, whatever an item is.
use Rattle.std.proofs.Common.{◌≡◌, ℕ, suc, ◌-◌, ◌+◌, ◌≤◌, ◌<◌, List, [], ◌∷◌, ◌++◌, Result, Ok, Err, refl, sym, ap, ◌∙◌, append_assoc, arith}
use Rattle.std.proofs.lemmas.List.{append-nil}
use Rattle.sbx_parts.specs.declared.fault.ImageFault.{ImageFault}
use Rattle.sbx_parts.specs.Rules.{◌>>=◌}
use Rattle.sbx_image.specs.Reading.{items_at}

module _ {A C : Type 0} (item : C → Result (A × C) ImageFault) where
  -- what was read before, and what is still read
  abbrev pub with_front : List A → Result (List A × C) ImageFault → Result (List A × C) ImageFault
  with_front front read = read >>= λ x. Ok (front ++ x.0, x.1)

  regroup : (front : List A) (a : A) (read : Result (List A × C) ImageFault) → with_front front (read >>= λ x. Ok (a ∷ x.0, x.1)) ≡ with_front (front ++ a ∷ []) read
  regroup front a (Ok x) = ap (λ (xs : List A). Ok (xs, x.1)) (simp append_assoc)
  regroup front a (Err f) = refl

  pub goes_on : (front : List A) (count i : ℕ) (rest : C) (a : A) (after : C) (total : Result (List A × C) ImageFault) → i < count → item rest ≡ Ok (a, after)
      → with_front front (items_at item (count - i) rest) ≡ total → with_front (front ++ a ∷ []) (items_at item (count - (i + 1)) after) ≡ total
  unfolding items_at
  goes_on front count i rest a after total lt h so_far =
      let k : count - i ≡ suc (count - (i + 1)) = omega arith in
      let one : with_front front (items_at item (count - i) rest) ≡ with_front (front ++ a ∷ []) (items_at item (count - (i + 1)) after) =
      rw (k, h) (regroup front a (items_at item (count - (i + 1)) after)) in
      sym one ∙ so_far

  pub ends : (e : ImageFault) (front : List A) (count i : ℕ) (rest : C) (total : Result (List A × C) ImageFault) → i < count → item rest ≡ Err e
      → with_front front (items_at item (count - i) rest) ≡ total → total ≡ Err e
  unfolding items_at
  ends e front count i rest total lt h so_far =
      let k : count - i ≡ suc (count - (i + 1)) = omega arith in
      let one : with_front front (items_at item (count - i) rest) ≡ Err e = rw (k, h) refl in
      sym so_far ∙ one

  pub is_done : (front : List A) (count i : ℕ) (rest : C) (total : Result (List A × C) ImageFault) → count ≤ i → with_front front (items_at item (count - i) rest) ≡ total → total ≡ Ok (front, rest)
  unfolding items_at
  is_done front count i rest total le so_far =
      let k : count - i ≡ 0 = omega arith in
      let one : with_front front (items_at item (count - i) rest) ≡ Ok (front, rest) = rw k (ap (λ (xs : List A). Ok (xs, rest)) (append-nil front)) in
      sym so_far ∙ one
