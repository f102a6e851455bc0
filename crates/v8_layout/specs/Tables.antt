-- The page tables word by word, one table after another.
use Rattle.std.specs.Prelude.{ℕ, ◌-◌, ◌==◌, nat_lt, if◌then◌else◌}
use Rattle.v8_map.specs.declared.TheConstants.{REGION_TABLE}
use Rattle.v8_layout.specs.Layout.{Pages, leads_to, region_entry, program_entry, system_region_entry, code_entry}
use Rattle.v8_layout.specs.Layout.{data_entry, stack_entry, system_entry}

-- the context's entry, and then each table in its place; what no table has is 0
unfoldable pub table_word : Pages → ℕ → ℕ
table_word g k =
    if k == 0 then leads_to REGION_TABLE else
    (if nat_lt k 256 then 0 else
    (if nat_lt k 512 then region_entry (k - 256) else
    (if nat_lt k 576 then program_entry (k - 512) else
    (if nat_lt k 640 then system_region_entry (k - 576) else
    (if nat_lt k 704 then code_entry g (k - 640) else
    (if nat_lt k 768 then data_entry g (k - 704) else
    (if nat_lt k 832 then stack_entry g (k - 768) else system_entry (k - 832))))))))
