-- Where the data of an image lie: its regions one after another, each on pages of its own.
use Rattle.std.specs.Prelude.{ℕ, ◌+◌, ◌-◌, ◌*◌, ◌/◌, ◌%◌, ◌<◌, ◌≤◌, ◌^◌, ◌≡◌, ℤ, pos, Bool, true, false, not, ◌&&◌}
use Rattle.std.specs.Prelude.{◌||◌, List, [], ◌∷◌, ◌++◌, length, replicate, Option, None, Some, nat_lt, int_lt}
use Rattle.std.specs.Prelude.{slice_get, slice_index, if◌then◌else◌}
use Rattle.std.specs.List.{AllByRecursion}
use Rattle.v8_map.specs.declared.TheConstants.{DATA_END, DATA_START}
use Rattle.sbx_parts.specs.declared.parts.Region.{Region}

abbrev pub data_start : ℕ
data_start = DATA_START

-- the pages of 4,096 bytes that so many bytes take
abbrev pub pages_for : ℕ → ℕ
pages_for n = (n + 4095) / 4096

-- whether each page of data may be written
abbrev pub page_rights : List Region → List Bool
page_rights [] = []
page_rights (r ∷ rs) = replicate (pages_for (length r.bytes)) r.writable ++ page_rights rs

-- a region's bytes, and zeros up to the end of its last page
abbrev pub on_pages : List ℕ → List ℕ
on_pages bytes = bytes ++ replicate (4096 * pages_for (length bytes) - length bytes) 0

-- the bytes of the data's pages, from the first one
abbrev pub laid : List Region → List ℕ
laid [] = []
laid (r ∷ rs) = on_pages r.bytes ++ laid rs

-- how many bytes all regions have
abbrev pub byte_count : List Region → ℕ
byte_count [] = 0
byte_count (r ∷ rs) = length r.bytes + byte_count rs

-- where a region lies that begins at an address
pub record Placed : Type 0 where
  pub address : ℕ
  pub bytes : List ℕ
  pub writable : Bool

-- the next region begins at the page behind a region's last one
abbrev pub behind : ℕ → Region → ℕ
behind start r = start + 4096 * pages_for (length r.bytes)

abbrev pub placed_from : ℕ → List Region → List Placed
placed_from start [] = []
placed_from start (r ∷ rs) =
    record { address = start; bytes = r.bytes; writable = r.writable } ∷ placed_from (behind start r) rs

abbrev pub placed : List Region → List Placed
placed regions = placed_from data_start regions

-- the address of the first byte of the region with a number, counted from 0
abbrev pub start_in : Option Placed → Option ℕ
start_in None = None
start_in (Some r) = Some r.address

abbrev pub start_of : List Region → ℕ → Option ℕ
start_of regions index = start_in (slice_get (placed regions) index)

-- ---- the byte at an address, which is a region's own

abbrev pub or_else : Option ℕ → Option ℕ → Option ℕ
or_else None other = other
or_else (Some byte) other = Some byte

abbrev pub byte_of_region : Placed → ℕ → Option ℕ
byte_of_region r address = if nat_lt address r.address then None else slice_get r.bytes (address - r.address)

abbrev pub byte_in : List Placed → ℕ → Option ℕ
byte_in [] address = None
byte_in (r ∷ rs) address = or_else (byte_of_region r address) (byte_in rs address)

abbrev pub data_at : List Region → ℕ → Option ℕ
data_at regions address = byte_in (placed regions) address

-- ---- what may be reached: the bytes from low up to but not at high, all in one region, that may be written where they
-- are

abbrev pub region_holds : ℤ → ℤ → Bool → Placed → Bool
region_holds low high writes r =
    not (int_lt low (pos r.address)) && not (int_lt (pos (r.address + length r.bytes)) high)
    && (not writes || r.writable)

abbrev pub one_holds : ℤ → ℤ → Bool → List Placed → Bool
one_holds low high writes [] = false
one_holds low high writes (r ∷ rs) = region_holds low high writes r || one_holds low high writes rs

unfoldable pub holds : List Region → ℤ → ℤ → Bool → Bool
holds regions low high writes = one_holds low high writes (placed regions)

-- so many bytes from an address on
abbrev pub in_one_region : List Region → ℕ → ℕ → Bool → Bool
in_one_region regions address size writes = holds regions (pos address) (pos (address + size)) writes

-- ---- numbers

-- A region has whole double words, and one or more.
pub record IsSized (r : Region) : Type 0 where
  pub some : 8 ≤ length r.bytes
  pub few : length r.bytes ≤ 262144
  pub whole : length r.bytes % 8 ≡ 0

-- The data of an image: at most 8 regions on at most 64 pages.
pub record AreData (regions : List Region) : Type 0 where
  pub few : length regions ≤ 8
  pub pages : length (page_rights regions) ≤ 64
  pub bytes : byte_count regions ≤ 262144
  pub each : AllByRecursion IsSized regions

abbrev pub AreBytes : List ℕ → Type 0
AreBytes bytes = (i : ℕ) → slice_index bytes i < 2 ^ 8

-- ---- where they lie

-- A byte lies in the pages of regions that begin at an address.
pub record LiesInPages (start : ℕ) (rs : List Region) (a b : ℕ) : Type 0 where
  pub from : start ≤ a
  pub to : a < start + 4096 * length (page_rights rs)
  pub is : slice_index (laid rs) (a - start) ≡ b

-- So many bytes from an address on lie in one region: their pages have one right, and each of them is a byte of the
-- data.
pub record LiesInOne (start : ℕ) (rs : List Region) (a size : ℕ) (writes : Bool) : Type 0 where
  pub from : start ≤ a
  pub to : a + size ≤ start + 4096 * length (page_rights rs)
  pub right : Bool
  pub may : (not writes || right) ≡ true
  pub pages : (k : ℕ) → a < start + 4096 * k + 4096 → start + 4096 * k < a + size →
      slice_get (page_rights rs) k ≡ Some right
  pub bytes : (i : ℕ) → i < size → byte_in (placed_from start rs) (a + i) ≡ Some (slice_index (laid rs) (a + i - start))

-- Each region begins with a page, and not before the end of the one before it; the last one ends in the data's
-- addresses.
abbrev pub LieApart : ℕ → List Placed → Type 0
LieApart from [] = from ≤ DATA_END
LieApart from (r ∷ rs) = (from ≤ r.address) × (r.address % 4096 ≡ 0) × LieApart (r.address + length r.bytes) rs
