-- No pages behind the last region.
use Rattle.std.proofs.Common.{◌≡◌, ℕ, ◌≤◌, List, length, drop, ap}
use Rattle.std.proofs.lemmas.List.{drop_all}
use Rattle.sbx_image.specs.Region.{Region}
use Rattle.sbx_parts.specs.Regions.{page_rights}

pub none_behind : (rs : List Region) (i : ℕ) → length rs ≤ i → length (page_rights (drop i rs)) ≡ 0
none_behind rs i h = ap (λ (xs : List Region). length (page_rights xs)) (drop_all i rs h)
