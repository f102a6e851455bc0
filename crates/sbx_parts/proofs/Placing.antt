-- Where regions lie: each on pages of its own, one behind the other, and their bytes so in the data's pages.
use Rattle.std.proofs.Common.{◌≡◌, ℕ, ◌+◌, ◌≤◌, ◌<◌, ℤ, Bool, true, false, ◌||◌, List, ◌∷◌, length, drop, get_or, sym, ap, ◌∙◌}
use Rattle.std.specs.Prelude.{Option, None, replicate, slice_get}
use Rattle.std.proofs.lemmas.List.{length-append, length-replicate, drop_more, drop_all}
use Rattle.sbx_parts.specs.declared.parts.Region.{Region}
use Rattle.sbx_parts.specs.Regions.{behind, byte_count, one_holds, page_rights, pages_for, placed_from, region_holds, start_in}

-- a region's pages, and those of the regions behind it
pub page_count : (r : Region) (rs : List Region) → length (page_rights (r ∷ rs)) ≡ pages_for (length r.bytes) + length (page_rights rs)
page_count r rs = length-append (replicate (pages_for (length r.bytes)) r.writable) (page_rights rs) ∙ ap (λ n. n + length (page_rights rs)) (length-replicate (pages_for (length r.bytes)) r.writable)

-- the same of a region with a number
pages_from : (rs : List Region) (i : ℕ) (r : Region) → i < length rs → length (page_rights (drop i rs)) ≡ pages_for (length (get_or rs i r).bytes) + length (page_rights (drop (i + 1) rs))
pages_from rs i r lt = ap (λ xs. length (page_rights xs)) (drop_more rs i r lt) ∙ page_count (get_or rs i r) (drop (i + 1) rs)

pub pages_behind : (rs : List Region) (i : ℕ) (r : Region) → i < length rs → r ≡ get_or rs i r → length (page_rights (drop i rs)) ≡ pages_for (length r.bytes) + length (page_rights (drop (i + 1) rs))
pages_behind rs i r lt is = pages_from rs i r lt ∙ ap (λ (q : Region). pages_for (length q.bytes) + length (page_rights (drop (i + 1) rs))) (sym is)

-- ---- looking for a region that holds some addresses, as a loop does

module _ (low high : ℤ) (writes : Bool) where
  abbrev of_region : ℕ → Region → Bool
  of_region start r = region_holds low high writes (record { address = start; bytes = r.bytes; writable = r.writable })

  abbrev from : ℕ → List Region → Bool
  from start rs = one_holds low high writes (placed_from start rs)

  one_more : (rs : List Region) (i start : ℕ) (r : Region) → i < length rs → r ≡ get_or rs i r → from start (drop i rs) ≡ (of_region start r || from (behind start r) (drop (i + 1) rs))
  one_more rs i start r lt is = ap (from start) (drop_more rs i r lt) ∙ ap (λ (q : Region). of_region start q || from (behind start q) (drop (i + 1) rs)) (sym is)

  pub found : (rs : List Region) (i start : ℕ) (r : Region) (total : Bool) → i < length rs → r ≡ get_or rs i r → of_region start r ≡ true → from start (drop i rs) ≡ total → true ≡ total
  found rs i start r total lt is h so_far = sym (ap (λ b. b || from (behind start r) (drop (i + 1) rs)) h) ∙ sym (one_more rs i start r lt is) ∙ so_far

  pub goes_on : (rs : List Region) (i start : ℕ) (r : Region) (total : Bool) → i < length rs → r ≡ get_or rs i r → of_region start r ≡ false →
      from start (drop i rs) ≡ total → from (behind start r) (drop (i + 1) rs) ≡ total
  goes_on rs i start r total lt is h so_far = sym (ap (λ b. b || from (behind start r) (drop (i + 1) rs)) h) ∙ sym (one_more rs i start r lt is) ∙ so_far

  pub is_done : (rs : List Region) (i start : ℕ) (total : Bool) → length rs ≤ i → from start (drop i rs) ≡ total → false ≡ total
  is_done rs i start total le so_far = sym (ap (from start) (drop_all i rs le)) ∙ so_far

-- ---- looking for the region with a number, as a loop does

pub starts_nowhere : (rs : List Region) (i start before : ℕ) (whole : Option ℕ) → length rs ≤ i → start_in (slice_get (placed_from start (drop i rs)) before) ≡ whole → None ≡ whole
starts_nowhere rs i start before whole le so_far = sym (ap (λ xs. start_in (slice_get (placed_from start xs) before)) (drop_all i rs le)) ∙ so_far

-- ---- counting bytes, as a loop does

pub bytes_behind : (rs : List Region) (i : ℕ) (r : Region) → i < length rs → r ≡ get_or rs i r → byte_count (drop i rs) ≡ length r.bytes + byte_count (drop (i + 1) rs)
bytes_behind rs i r lt is = ap byte_count (drop_more rs i r lt) ∙ ap (λ (q : Region). length q.bytes + byte_count (drop (i + 1) rs)) (sym is)

pub no_bytes_behind : (rs : List Region) (i : ℕ) → length rs ≤ i → byte_count (drop i rs) ≡ 0
no_bytes_behind rs i le = ap byte_count (drop_all i rs le)
