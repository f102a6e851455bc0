-- Regions placed one after another, each on pages of its own.
use Rattle.std.proofs.Common.{◌≡◌, ℕ, ◌+◌, ◌-◌, ◌*◌, ◌<◌, ◌≤◌, ◌⊎◌, inl, inr, Bool, true, cond, List, [], ◌∷◌, ◌++◌, length, get_or, take, drop, refl, sym, ap, ◌∙◌, subst, arith}
use Rattle.std.specs.Prelude.{nat_le, replicate, slice_index}
use Rattle.std.proofs.lemmas.Bool.Decides.{nat_tests}
use Rattle.std.proofs.lemmas.List.{append-nil, append_assoc, get_or_append_left, get_or-append-add, length-append, length-replicate, take-append-drop, take_more}
use Rattle.v8_contained.specs.Placing.{HasBytesOf}
use Rattle.v8_map.specs.declared.TheConstants.{DATA_PLACE}
use Rattle.sbx_image.specs.Region.{Region}
use Rattle.sbx_image.specs.Regions.{laid, on_pages, page_rights, pages_for}
use Rattle.sbx_image.proofs.Within.{laid_count, on_pages_bytes}
use Rattle.v8_board.specs.Start.{at_most}

-- ---- bytes behind bytes

-- bytes that were placed, and more behind the last one of them, are placed as one list
joined : (at d : ℕ) (xs ys old mid new : List ℕ) → HasBytesOf at xs (length xs) old mid → HasBytesOf (at + length xs) ys d mid new → HasBytesOf at (xs ++ ys) (length xs + d) old new
joined at d xs ys old mid new first then =
    let c = length xs in
    record {
      size = then.size ∙ first.size;
      bytes_are = λ k less.
          let split : (k < c) ⊎ (c ≤ k) = search arith in
          elim split [
            | inl before ↦ then.others (at + k) (inl (omega arith)) ∙ first.bytes_are k before ∙ sym (get_or_append_left xs ys 0 k before)
            | inr behind ↦
                let place : at + k ≡ at + c + (k - c) = omega arith in
                let index : c + (k - c) ≡ k = omega arith in
                ap (slice_index new) place ∙ then.bytes_are (k - c) (omega arith) ∙ sym (get_or-append-add xs ys (k - c) 0) ∙ ap (slice_index (xs ++ ys)) index
          ];
      fit = λ p low high.
          let split : (p < at + c) ⊎ (at + c ≤ p) = search arith in
          elim split [
            | inl before ↦ subst (λ b. b < 256) (sym (then.others p (inl before))) (first.fit p low before)
            | inr behind ↦ then.fit p behind (omega arith)
          ];
      others = λ p apart. then.others p (beyond p apart) ∙ first.others p (beside p apart);
    }
  where
    beyond : (p : ℕ) → (p < at) ⊎ (at + (length xs + d) ≤ p) → (p < at + length xs) ⊎ (at + length xs + d ≤ p)
    beyond p (inl low) = inl (omega arith)
    beyond p (inr high) = inr (omega arith)

    beside : (p : ℕ) → (p < at) ⊎ (at + (length xs + d) ≤ p) → (p < at) ⊎ (at + length xs ≤ p)
    beside p (inl low) = inl low
    beside p (inr high) = inr (omega arith)

pub nothing_placed : (bytes ram : List ℕ) → HasBytesOf DATA_PLACE bytes 0 ram ram
nothing_placed bytes ram = record { size = refl; bytes_are = λ k less. absurd (omega arith); fit = λ p low high. absurd (omega arith); others = λ p apart. refl }

-- a region's bytes, with 0 behind them
with_zeros : (at c : ℕ) (bytes old new : List ℕ) → HasBytesOf at bytes c old new → HasBytesOf at (on_pages bytes) c old new
with_zeros at c bytes old new h = record { size = h.size; bytes_are = λ k less. h.bytes_are k less ∙ sym (on_pages_bytes bytes k); fit = h.fit; others = h.others }

-- ---- one region more

abbrev rights_in : Region → List Bool
rights_in r = replicate (pages_for (length r.bytes)) r.writable

rights_append : (rs qs : List Region) → page_rights (rs ++ qs) ≡ page_rights rs ++ page_rights qs
rights_append [] qs = refl
rights_append (r ∷ rs) qs = ap (λ l. rights_in r ++ l) (rights_append rs qs) ∙ sym (append_assoc (rights_in r) (page_rights rs) (page_rights qs))

laid_append : (rs qs : List Region) → laid (rs ++ qs) ≡ laid rs ++ laid qs
laid_append [] qs = refl
laid_append (r ∷ rs) qs = ap (λ l. on_pages r.bytes ++ l) (laid_append rs qs) ∙ sym (append_assoc (on_pages r.bytes) (laid rs) (laid qs))

-- the pages of the regions up to a number are among all
abbrev pages_to : List Region → ℕ → ℕ
pages_to rs i = length (page_rights (take i rs))

pages_within : (rs : List Region) (i : ℕ) → pages_to rs i ≤ length (page_rights rs)
pages_within rs i =
    let both : page_rights rs ≡ page_rights (take i rs) ++ page_rights (drop i rs) = ap page_rights (sym (take-append-drop i rs)) ∙ rights_append (take i rs) (drop i rs) in
    let sum : length (page_rights rs) ≡ pages_to rs i + length (page_rights (drop i rs)) = ap length both ∙ length-append (page_rights (take i rs)) (page_rights (drop i rs)) in
    omega arith

most_is : (most n : ℕ) → n ≤ most → at_most most n ≡ n
most_is most n few = let small : nat_le n most ≡ true = grind (arith, nat_tests) in ap (λ (b : Bool). cond b n most) small

-- the region of a number, told as an item of the list, where so many pages are taken so far, and so many more by it
module _ (rs : List Region) (i : ℕ) (r : Region) (less : i < length rs) (is : r ≡ get_or rs i r) (few : length (page_rights rs) ≤ 64) (pages more : ℕ)
    (front : pages ≡ pages_to rs i) (taken : more ≡ at_most 64 (pages_for (length r.bytes))) where
  one_more : take (i + 1) rs ≡ take i rs ++ r ∷ []
  one_more = take_more rs i r less ∙ ap (λ (q : Region). take i rs ++ q ∷ []) (sym is)

  rights_more : page_rights (take (i + 1) rs) ≡ page_rights (take i rs) ++ rights_in r
  rights_more = ap page_rights one_more ∙ rights_append (take i rs) (r ∷ []) ∙ ap (λ l. page_rights (take i rs) ++ l) (append-nil (rights_in r))

  laid_more : laid (take (i + 1) rs) ≡ laid (take i rs) ++ on_pages r.bytes
  laid_more = ap laid one_more ∙ laid_append (take i rs) (r ∷ []) ∙ ap (λ l. laid (take i rs) ++ l) (append-nil (on_pages r.bytes))

  sum : pages_to rs (i + 1) ≡ pages_to rs i + pages_for (length r.bytes)
  sum = ap length rights_more ∙ length-append (page_rights (take i rs)) (rights_in r) ∙ ap (λ n. pages_to rs i + n) (length-replicate (pages_for (length r.bytes)) r.writable)

  more_is : more ≡ pages_for (length r.bytes)
  more_is = let all = sum in let within = pages_within rs (i + 1) in taken ∙ most_is 64 (pages_for (length r.bytes)) (omega arith)

  pub pages_more : pages + more ≡ pages_to rs (i + 1)
  pages_more = let all = sum in let here = more_is in omega arith

  pub pages_few : pages + more ≤ 64
  pages_few = let all = pages_more in let within = pages_within rs (i + 1) in omega arith

  pub rights_filled : (old new : List Bool) → take pages old ≡ page_rights (take i rs) → take (pages + more) new ≡ take pages old ++ replicate more r.writable →
      take (pages + more) new ≡ page_rights (take (i + 1) rs)
  rights_filled old new before filled =
      filled ∙ ap (λ l. l ++ replicate more r.writable) before ∙ ap (λ n. page_rights (take i rs) ++ replicate n r.writable) more_is ∙ sym rights_more

  pub bytes_placed : (old mid new : List ℕ) → HasBytesOf DATA_PLACE (laid (take i rs)) (4096 * pages) old mid →
      HasBytesOf (DATA_PLACE + 4096 * pages) r.bytes (4096 * more) mid new → HasBytesOf DATA_PLACE (laid (take (i + 1) rs)) (4096 * (pages + more)) old new
  bytes_placed old mid new before placed =
      let long = laid_count (take i rs) in
      let whole : 4096 * pages ≡ length (laid (take i rs)) = omega arith in
      let count : length (laid (take i rs)) + 4096 * more ≡ 4096 * (pages + more) = omega arith in
      let both =
      joined DATA_PLACE (4096 * more) (laid (take i rs)) (on_pages r.bytes) old mid new (subst (λ c. HasBytesOf DATA_PLACE (laid (take i rs)) c old mid) whole before)
      (with_zeros (DATA_PLACE + length (laid (take i rs))) (4096 * more) r.bytes mid new (subst (λ c. HasBytesOf (DATA_PLACE + c) r.bytes (4096 * more) mid new) whole placed)) in
      subst (λ (bs : List ℕ). HasBytesOf DATA_PLACE bs (4096 * (pages + more)) old new) (sym laid_more)
      (subst (λ c. HasBytesOf DATA_PLACE (laid (take i rs) ++ on_pages r.bytes) c old new) count both)
