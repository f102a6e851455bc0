-- The pages that an image calls its own, by number.
use Rattle.std.specs.Prelude.{ℕ, ◌*◌, ◌-◌, ◌/◌, Bool, false, not, ◌&&◌, ◌||◌, nat_lt, nat_le, length, Option, Some}
use Rattle.std.specs.Prelude.{None}
use Rattle.std.specs.Prelude.{slice_get}
use Rattle.v8_map.specs.declared.TheConstants.{PAGE, CODE_START, DATA_START, STACK_END}
use Rattle.sbx_image.specs.Parts.{Parts}
use Rattle.sbx_image.specs.Regions.{page_rights}

-- the code pages that hold a code word
abbrev pub is_own_code_page : Parts → ℕ → Bool
is_own_code_page parts page =
    nat_le (CODE_START / PAGE) page && nat_lt (PAGE * (page - CODE_START / PAGE)) (4 * length parts.words)

-- whether a page of data may be loaded from, or stored to
abbrev pub may_reach : Bool → Option Bool → Bool
may_reach stores None = false
may_reach stores (Some writable) = not stores || writable

-- the pages that hold bytes of a region, for stores of one that may be written, and the last pages of the stack
abbrev pub is_own_data_page : Parts → Bool → ℕ → Bool
is_own_data_page parts stores page =
    (nat_le (DATA_START / PAGE) page
    && may_reach stores (slice_get (page_rights parts.regions) (page - DATA_START / PAGE)))
    || (nat_le (STACK_END / PAGE - parts.stack_pages) page && nat_lt page (STACK_END / PAGE))

-- all of them
abbrev pub is_own_page : Parts → ℕ → Bool
is_own_page parts page = is_own_code_page parts page || is_own_data_page parts false page
