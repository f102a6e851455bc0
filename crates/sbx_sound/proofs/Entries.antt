-- What is known by location where a call has come back, and words with one location set.
use Rattle.std.proofs.Common.{◌≡◌, ℕ, ◌+◌, ◌<◌, ◌≤◌, Bool, true, false, List, Option, Some, None, refl, ap, ◌∙◌, arith}
use Rattle.std.specs.Prelude.{◌==◌, ◌-◌, nat_le, if◌then◌else◌, slice_get}
use Rattle.std.proofs.lemmas.Bool.Decides.{nat_tests}
use Rattle.sbx_image.specs.Range.{Range}
use Rattle.sbx_rules.specs.Entry.{Entry}
use Rattle.sbx_rules.specs.Known.{Known, form_at, form_of_entry, is_location, plain_entry_of, range_at, range_of_entry, with_entry, without_location}
use Rattle.sbx_rules.specs.Transfer.{called, is_global, is_out, restored, result_entry}
use Rattle.sbx_rules.specs.Rules.{is_some}
use Rattle.sbx_sound.proofs.Tests.{if_false, if_true}

pub called_kept : (results : List Range) (d : Known) (l : ℕ) → nat_le 16 l ≡ true → (called results d).entry l ≡ d.entry l
unfolding called
called_kept results d l h = if_true (nat_le 16 l) (Option Entry) (d.entry l) (result_entry results l) h

pub called_low : (results : List Range) (d : Known) (l : ℕ) → nat_le 16 l ≡ false → (called results d).entry l ≡ result_entry results l
unfolding called
called_low results d l h = if_false (nat_le 16 l) (Option Entry) (d.entry l) (result_entry results l) h

-- a result as a range
abbrev pub result_at : List Range → ℕ → Option Range
result_at results l = if is_out l then slice_get results (l - 8) else None

range_of_plain : (o : Option Range) → range_of_entry (plain_entry_of o) ≡ o
range_of_plain None = refl
range_of_plain (Some r) = refl

form_of_plain : (o : Option Range) → form_of_entry (plain_entry_of o) ≡ None
form_of_plain None = refl
form_of_plain (Some r) = refl

range_of_result : (t : Bool) (o : Option Range) → range_of_entry (if t then plain_entry_of o else None) ≡ (if t then o else None)
range_of_result true o = range_of_plain o
range_of_result false o = refl

form_of_result : (t : Bool) (o : Option Range) → form_of_entry (if t then plain_entry_of o else None) ≡ None
form_of_result true o = form_of_plain o
form_of_result false o = refl

pub called_range : (results : List Range) (d : Known) (l : ℕ) → nat_le 16 l ≡ false → range_at (called results d) l ≡ result_at results l
called_range results d l h = ap range_of_entry (called_low results d l h) ∙ range_of_result (is_out l) (slice_get results (l - 8))

pub called_form : (results : List Range) (d : Known) (l : ℕ) → nat_le 16 l ≡ false → form_at (called results d) l ≡ None
called_form results d l h = ap form_of_entry (called_low results d l h) ∙ form_of_result (is_out l) (slice_get results (l - 8))

some_of_plain : (o : Option Range) → is_some (plain_entry_of o) ≡ is_some o
some_of_plain None = refl
some_of_plain (Some r) = refl

pub some_of_result : (t : Bool) (o : Option Range) → is_some (if t then plain_entry_of o else None) ≡ is_some (if t then o else None)
some_of_result true o = some_of_plain o
some_of_result false o = refl

-- another location than the one that is written
pub with_entry_other : (n : ℕ) (e : Option Entry) (d : Known) (l : ℕ) → (l == n) ≡ false → (with_entry n e d).entry l ≡ d.entry l
unfolding with_entry
with_entry_other n e d l apart = by_test (is_location n)
  where
    by_test : (t : Bool) → (if t then record d { entry = λ k. if k == n then e else d.entry k; relation = without_location n d.relation } else d).entry l ≡ d.entry l
    by_test true = if_false (l == n) (Option Entry) e (d.entry l) apart
    by_test false = refl

pub restored_out : (d : Known) (l : ℕ) → 8 ≤ l → l < 16 → (restored d).entry l ≡ d.entry (l + 16)
unfolding restored
restored_out d l low high =
    let no_global : is_global l ≡ false = grind (arith, nat_tests) in
    let out : is_out l ≡ true = grind (arith, nat_tests) in
    if_false (is_global l) (Option Entry) (d.entry l) (if is_out l then d.entry (l + 16) else None) no_global ∙ if_true (is_out l) (Option Entry) (d.entry (l + 16)) None out
