-- How far a section is filled, and where a region begins at the latest.
use Rattle.std.proofs.Common.{◌≡◌, ℕ, ◌+◌, Bool, true, false, ◌≤◌, List, [], ◌∷◌, refl, sym, ap, ◌∙◌, arith}
use Rattle.std.specs.Prelude.{◌||◌, if◌then◌else◌, min}
use Rattle.std.specs.List.{list_any}
use Rattle.std.proofs.Math.Nat.{min-eq_left}
use Rattle.v8_map.specs.declared.TheConstants.{DATA_START}
use Rattle.sbx_asm.specs.Items.{Item, is_region}
use Rattle.sbx_asm.specs.Addresses.{code_length, data_length, code_offset, section_room, start_behind, next_start, region_start, data_offset, in_code, label_address, code_address}
use Rattle.sbx_asm.proofs.Views.{up_to_room, last_start, data_address}

pub in_room : (size : ℕ) → size ≤ section_room → up_to_room size ≡ size
in_room size h = min-eq_left h

within_room : (size : ℕ) → up_to_room size ≤ section_room
within_room size = omega arith

pub code_within : (before : List Item) → code_offset before ≤ section_room
code_within [] = omega arith
code_within (i ∷ before) = within_room (code_offset before + code_length i)

pub data_within : (before : List Item) → data_offset before ≤ section_room
data_within [] = omega arith
data_within (i ∷ before) = by (is_region i)
  where
    by : (begins : Bool) → (if begins then 0 else up_to_room (data_offset before + data_length (data_offset before) i.said)) ≤ section_room
    by true = omega arith
    by false = within_room (data_offset before + data_length (data_offset before) i.said)

-- a region begins below the end of the words' addresses, and so does what stands in it
low_start : (start size : ℕ) → start_behind start size ≤ last_start
low_start start size = omega arith

low_with : (start size : ℕ) (later begins : Bool) → start ≤ last_start → (if begins then (if later then start_behind start size else DATA_START) else start) ≤ last_start
low_with start size true true h = low_start start size
low_with start size false true h = omega arith
low_with start size later false h = h

pub low : (before : List Item) → region_start before ≤ last_start
low [] = omega arith
low (i ∷ before) = low_with (region_start before) (data_offset before) (list_any is_region before) (is_region i) (low before)

-- before any region the data begin where they do
pub first_start : (before : List Item) → list_any is_region before ≡ false → region_start before ≡ DATA_START
first_start [] h = refl
first_start (i ∷ before) h = by (is_region i) h (first_start before)
  where
    by : (t : Bool) → (t || list_any is_region before) ≡ false → (list_any is_region before ≡ false → region_start before ≡ DATA_START) →
        (if t then next_start before (region_start before) else region_start before) ≡ DATA_START
    by true k more = absurd (cc)
    by false k more = more k

-- where labels point in the data
pub in_data : (before : List Item) → in_code before ≡ false → min (region_start before + data_offset before) 4294967295 ≡ label_address before
in_data before here =
    min-eq_left (let h = low before in let k = data_within before in omega arith)
    ∙ sym (ap (λ s. if s then code_address before else data_address before) here)
