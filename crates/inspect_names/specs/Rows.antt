-- Which line the words of an image come from.
use Rattle.std.specs.Prelude.{List, [], ◌∷◌, Ok}
use Rattle.sbx_directives.specs.declared.directive.Statement.TheVariants as statements
use Rattle.sbx_asm.specs.Items.{Item}
use Rattle.sbx_asm.specs.Addresses.{code_address}
use Rattle.inspect_names.specs.declared.rows.SourceRow.{SourceRow}

-- a statement of the code has its words from the address on that a label of its line has
abbrev pub row_at : List Item → Item → List Item → List SourceRow
row_at before i after =
    elim i.said [ Ok statements.Instruction ↦ record { address = code_address before; line = i.number } ∷ [] | _ ↦ [] ]
