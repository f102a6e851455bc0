-- What is told of a source: the fault that the assembler tells, and behind it those that lines have by themselves.
use Rattle.std.specs.Prelude.{◌≡◌, ℕ, List, [], Err}
use Rattle.sbx_asm.specs.declared.fault.AsmFault.{AsmFault}
use Rattle.sbx_asm.specs.Items.{Item, items_of, each}
use Rattle.sbx_asm.specs.Addresses.{labels_at, values_of}
use Rattle.sbx_asm.specs.Rules.{duplicates}
use Rattle.sbx_asm.specs.Images.{source_image}
use Rattle.inspect_check.specs.declared.faults.Faults.{Faults}
use Rattle.inspect_check.specs.Alone.{found_at}

-- the faults of lines by themselves, behind a line
abbrev pub found_behind : ℕ → List Item → List AsmFault
found_behind line items = each (found_at (values_of items) (duplicates [] (each labels_at [] items)) line) [] items

-- A source means no image: the first fault is what the assembler tells, and the others are those of the lines behind
-- it.
abbrev pub AreTold : List ℕ → Faults → Type 0
AreTold source faults = (source_image source ≡ Err faults.first)
    × (faults.others.items ≡ found_behind faults.first.line (items_of source))
