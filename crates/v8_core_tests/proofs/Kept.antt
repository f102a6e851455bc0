-- A store keeps the words beside it.
use Rattle.std.proofs.Common.{◌≡◌, ℕ, ◌+◌, ◌/◌, ◌%◌, ◌^◌, ◌≤◌, inl, inr, Bool, true, false, List, ◌++◌, take, drop, length, slice_set, Option, Some, None, refl, ap, ◌∙◌, arith}
use Rattle.std.specs.Prelude.{nat_le, if◌then◌else◌}
use Rattle.std.specs.Int.{w64, to_be_bytes}
use Rattle.std.specs.Option.{option_map}
use Rattle.std.proofs.lemmas.Bool.Decides.{nat_tests}
use Rattle.std.proofs.lemmas.Grind.{common_steps}
use Rattle.std.proofs.lemmas.List.{get_or-set_other, length-set}
use Rattle.v8_word.specs.declared.Size.{Size}
use Rattle.v8_word.specs.declared.Size.TheVariants.{Byte, Half, Word, Double}
use Rattle.v8_mmu.specs.Meaning.{bytes_in}
use Rattle.v8_mmu.specs.Ram.{KeepsWords, entry_of, with_entry}
use Rattle.v8_mmu.specs.declared.bus.Stop.{Stop}
use Rattle.v8_mmu.specs.declared.bus.Stop.TheVariants.{Exit}
use Rattle.v8_mmu.proofs.RamLemmas.{entry_is}
use Rattle.v8_mmu.proofs.RamMore.{byte_elsewhere, entry_elsewhere, words_kept}
use Rattle.v8_core_tests.specs.Small.{has_half, is_device, ram_store, small_store, stored_with}

one_set : (ram : List ℕ) (at v : ℕ) → KeepsWords ram (slice_set ram at v) at 1
one_set ram at v =
    words_kept ram (slice_set ram at v) at 1 (length-set ram at v)
    (λ j apart. get_or-set_other ram at j v 0 (elim apart [ inl before ↦ omega arith | inr past ↦ omega arith ]))

two_set : (ram : List ℕ) (at v w : ℕ) → KeepsWords ram (slice_set (slice_set ram at v) (at + 1) w) at 2
two_set ram at v w =
    words_kept ram (slice_set (slice_set ram at v) (at + 1) w) at 2 (length-set (slice_set ram at v) (at + 1) w ∙ length-set ram at v)
    (λ j apart.
    get_or-set_other (slice_set ram at v) (at + 1) j w 0 (elim apart [ inl before ↦ omega arith | inr past ↦ omega arith ])
    ∙ get_or-set_other ram at j v 0 (elim apart [ inl before ↦ omega arith | inr past ↦ omega arith ]))

-- whatever a store gives in place of RAM, where it gives something
abbrev Kept : List ℕ → ℕ → Size → Option (List ℕ) → Type 0
Kept ram at size (Some new) = KeepsWords ram new at (bytes_in size)
Kept ram at size None = Unit {0}

if_kept : (ram new : List ℕ) (at : ℕ) (size : Size) (b : Bool) → (b ≡ true → KeepsWords ram new at (bytes_in size)) → Kept ram at size (if b then Some new else None)
if_kept ram new at size true kept = kept refl
if_kept ram new at size false kept = tt

word_kept : (ram : List ℕ) (at v : ℕ) (o : Option ℕ) → entry_of ram at ≡ o → Kept ram at Word (option_map (λ old. with_entry ram at v) o)
word_kept ram at v (Some old) is = λ p apart. entry_elsewhere ram at p v (entry_is ram at old is).0 apart
word_kept ram at v None is = tt

eight_kept : (ram : List ℕ) (at v : ℕ) → at + 8 ≤ length ram → KeepsWords ram (take at ram ++ to_be_bytes w64 v ++ drop (at + 8) ram) at 8
eight_kept ram at v fits =
    words_kept ram (take at ram ++ to_be_bytes w64 v ++ drop (at + 8) ram) at 8 (grind (arith, common_steps)) (λ j apart. byte_elsewhere ram (to_be_bytes w64 v) at 8 j refl fits apart)

ram_kept : (ram : List ℕ) (at v : ℕ) (size : Size) → Kept ram at size (ram_store ram at size v)
ram_kept ram at v Byte = if_kept ram (slice_set ram at v) at Byte (nat_le (at + 1) (length ram)) (λ fits. one_set ram at v)
ram_kept ram at v Half = if_kept ram (slice_set (slice_set ram at (v / 2 ^ 8)) (at + 1) (v % 2 ^ 8)) at Half (has_half ram at) (λ fits. two_set ram at (v / 2 ^ 8) (v % 2 ^ 8))
ram_kept ram at v Word = word_kept ram at v (entry_of ram at) refl
ram_kept ram at v Double =
    if_kept ram (take at ram ++ to_be_bytes w64 v ++ drop (at + 8) ram) at Double (nat_le (at + 8) (length ram)) (λ fits. eight_kept ram at v (grind (arith, nat_tests)))

abbrev ram_in : List ℕ → Option (List ℕ × Option Stop) → List ℕ
ram_in ram (Some new) = new.0
ram_in ram None = ram

stored_kept : (old new : List ℕ) (d e : Option Stop) (at : ℕ) (size : Size) (o : Option (List ℕ)) → Kept old at size o → Some (new, e) ≡ stored_with d o → KeepsWords old new at (bytes_in size)
stored_kept old new d e at size (Some ram) kept same = λ p apart. let is : new ≡ ram = ap (ram_in old) same in ap (λ r. entry_of r p) is ∙ kept p apart
stored_kept old new d e at size None kept same = cc

small_by : (old new : List ℕ) (d e : Option Stop) (at v : ℕ) (size : Size) (b : Bool) →
    Some (new, e) ≡ (if b then Some (old, Some (Exit v)) else stored_with d (ram_store old at size v)) → KeepsWords old new at (bytes_in size)
small_by old new d e at v size true same = λ p apart. let is : new ≡ old = ap (ram_in old) same in ap (λ r. entry_of r p) is
small_by old new d e at v size false same = stored_kept old new d e at size (ram_store old at size v) (ram_kept old at v size) same

-- a store of the bus that is done keeps the words beside it
pub small_keeps : (old new : List ℕ) (d e : Option Stop) (at v : ℕ) (size : Size) → Some (new, e) ≡ small_store old d at size v → KeepsWords old new at (bytes_in size)
small_keeps old new d e at v size same = small_by old new d e at v size (is_device at size) same
