-- Data accesses, and where the page entries and the words lie that a turn may have changed.
use Rattle.std.specs.Prelude.{ℕ, ◌≡◌, ◌+◌, ◌-◌, ◌*◌, ◌/◌, ◌^◌, ◌==◌, ◌&&◌, Bool, true, false, if◌then◌else◌, List, []}
use Rattle.std.specs.Prelude.{◌++◌, codes, Option, Some, None}
use Rattle.std.specs.Fmt.{decimal, digits, format_spec, padded_integral}
use Rattle.v8_mmu.specs.Meaning.{bytes_in}
use Rattle.v8_mmu.specs.Paths.{LeadsNowhere, LeadsTo, last_place}
use Rattle.v8_mmu.specs.declared.translation.Found.{Found}
use Rattle.v8_core.specs.declared.turn.DataAccess.{DataAccess}
use Rattle.inspect_lines.specs.Words.{word_text}

-- a physical address, of 36 bits: nine digits
abbrev pub physical_text : ℕ → List ℕ
physical_text pa = padded_integral (format_spec 32 0 4 9 (2 ^ 64 - 1)) false [] (digits 16 true pa)

abbrev pub kind_text : Bool → List ℕ
kind_text true = codes " store="
kind_text false = codes " load="

abbrev pub access_text : Option DataAccess → List ℕ
access_text None = []
access_text (Some a) =
    kind_text a.store
    ++ (word_text a.va ++ (codes ":" ++ (physical_text a.pa ++ (codes ":" ++ decimal (bytes_in a.size)))))

-- where the page entry lies that ends the walk of an address in this RAM, where the address leads to a page (appendix
-- H)
abbrev pub EntryIs : List ℕ → ℕ → ℕ → Option ℕ → Type 0
EntryIs ram root va (Some place) = (f : Found) × LeadsTo ram root va f × (place ≡ last_place f)
EntryIs ram root va None = (ft : ℕ) × (level : ℕ) × LeadsNowhere ram root va ft level

-- the same of a data access that completed
abbrev pub EntryOfIs : List ℕ → ℕ → Option DataAccess → Option ℕ → Type 0
EntryOfIs ram root None place = place ≡ None
EntryOfIs ram root (Some a) place = EntryIs ram root a.va place

-- the word that a store wrote to, the first of a double
abbrev pub stored_place : Option DataAccess → Option ℕ
stored_place None = None
stored_place (Some a) = if a.store then Some (a.pa / 4 * 4) else None

-- the second word of a double
abbrev pub second_place : Option DataAccess → Option ℕ
second_place None = None
second_place (Some a) = if a.store && (bytes_in a.size == 8) then Some (a.pa / 8 * 8 + 4) else None
