-- Laws of paths, marks and RAM.
use Rattle.std.specs.Prelude.{ℕ, ◌≡◌, ◌⊎◌, ◌<◌, ◌≤◌, ◌+◌, ◌/◌, ◌%◌, ◌^◌, Bool, List, length, slice_index, Some}
use Rattle.std.specs.Prelude.{if◌then◌else◌}
use Rattle.v8_word.specs.declared.Size.{Size}
use Rattle.v8_mmu.specs.Meaning.{bytes_in, limit_of}
use Rattle.v8_mmu.specs.Ram.{KeepsWords, entry_of, number_at, with_number}
use Rattle.v8_mmu.specs.Paths.{LeadsTo, LeadsNowhere, Translates, Faults, marked, marked_ram}
use Rattle.v8_mmu.specs.declared.access.Access.{Access}
use Rattle.v8_mmu.specs.declared.translation.Found.{Found}
use Rattle.v8_mmu.specs.declared.translation.MmuFault.{MmuFault}

-- the same page by the same entries
pub record SamePath (f g : Found) : Type 0 where
  pub pa : f.pa ≡ g.pa
  pub level : f.level ≡ g.level
  pub places : (k : ℕ) → k ≤ f.level → slice_index f.places k ≡ slice_index g.places k

-- an address leads to at most one page, whatever the access
abbrev pub OnePage : Type 0
OnePage = (ram : List ℕ) (root va : ℕ) (f g : Found) → LeadsTo ram root va f → LeadsTo ram root va g → SamePath f g

-- an address that leads to a page doesn't end without one
abbrev pub NoEndOnPath : Type 0
NoEndOnPath =
    (ram : List ℕ) (root va ft level : ℕ) (f : Found) → LeadsTo ram root va f → ¬ (LeadsNowhere ram root va ft level)

-- there is at most one path
abbrev pub OnePath : Type 0
OnePath = (ram : List ℕ) (root va : ℕ) (a : Access) (f g : Found) → Translates ram root va a f →
    Translates ram root va a g → SamePath f g

-- there is at most one fault
abbrev pub OneFault : Type 0
OneFault = (ram : List ℕ) (root va : ℕ) (a : Access) (d e : MmuFault) → Faults ram root va a d →
    Faults ram root va a e → d ≡ e

-- where there is a path, there is no fault
abbrev pub NoFaultOnPath : Type 0
NoFaultOnPath =
    (ram : List ℕ) (root va : ℕ) (a : Access) (f : Found)
    (e : MmuFault) → Translates ram root va a f → ¬ (Faults ram root va a e)

-- R (bit 5) is set, and M (bit 6) for a store; every other bit of the entry, and of RAM, is as before
pub record Marks (ram : List ℕ) (at w : ℕ) (store : Bool) : Type 0 where
  pub entry : entry_of (marked_ram ram at store) at ≡ Some (marked w store)
  pub referenced : marked w store / 2 ^ 5 % 2 ≡ 1
  pub modified : marked w store / 2 ^ 6 % 2 ≡ (if store then 1 else w / 2 ^ 6 % 2)
  pub above : marked w store / 2 ^ 7 ≡ w / 2 ^ 7
  pub below : marked w store % 2 ^ 5 ≡ w % 2 ^ 5
  pub size : length (marked_ram ram at store) ≡ length ram
  pub others : (j : ℕ) → (j < at) ⊎ (at + 4 ≤ j) → slice_index (marked_ram ram at store) j ≡ slice_index ram j
  pub words : (p : ℕ) → (p + 4 ≤ at) ⊎ (at + 4 ≤ p) → entry_of (marked_ram ram at store) p ≡ entry_of ram p

abbrev pub MarksTwoBits : Type 0
MarksTwoBits = (ram : List ℕ) (at w : ℕ) (store : Bool) → entry_of ram at ≡ Some w → w < 2 ^ 32 → Marks ram at w store

-- a number that was stored is read back, and the other bytes stay, and so does each word without one of its bytes
pub record Stores (ram : List ℕ) (at v : ℕ) (width : Size) : Type 0 where
  pub read : number_at (with_number ram at width v) at width ≡ Some v
  pub size : length (with_number ram at width v) ≡ length ram
  pub others : (j : ℕ) → (j < at) ⊎ (at + bytes_in width ≤ j) →
      slice_index (with_number ram at width v) j ≡ slice_index ram j
  pub words : KeepsWords ram (with_number ram at width v) at (bytes_in width)

abbrev pub StoresOneNumber : Type 0
StoresOneNumber = (ram : List ℕ) (at old v : ℕ) (width : Size) → number_at ram at width ≡ Some old →
    v < limit_of width → Stores ram at v width
