-- What the verifier knows between two words of a block: of each location a range and perhaps a linear form, the range
-- of Y, whether the condition codes are defined, and what they were set from.
use Rattle.std.specs.Prelude.{ℕ, Bool, false, ◌&&◌, ◌||◌, ◌==◌, nat_lt, if◌then◌else◌, List, [], ◌∷◌, Option, Some}
use Rattle.std.specs.Prelude.{None, slice_index_or}
use Rattle.sbx_range.specs.Cell.{Cell}
use Rattle.sbx_range.specs.Range.{Range}
use Rattle.sbx_range.specs.Ranges.{is_empty}
use Rattle.sbx_domain.specs.declared.entry.Entry.{Entry}
use Rattle.sbx_domain.specs.declared.relation.Related.{Related}
use Rattle.sbx_domain.specs.declared.relation.Related.TheVariants.{Location, Word}
use Rattle.sbx_domain.specs.declared.relation.Relation.{Relation}
use Rattle.sbx_domain.specs.declared.relation.Relation.TheVariants.{Compared, Signs}
use Rattle.sbx_domain.specs.Forms.{Form, form_of_location}

-- ---- locations

-- 1 to 31 is a register of the current window, 32 + k word k of the frame, k at most 1,007
abbrev pub is_location : ℕ → Bool
is_location l = nat_lt 0 l && nat_lt l 1040

-- ---- what the codes were set from

abbrev pub is_at : ℕ → Related → Bool
is_at l (Location k) = k == l
is_at l (Word w) = false

abbrev pub names : ℕ → Relation → Bool
names l (Compared x y) = is_at l x || is_at l y
names l (Signs k) = k == l

-- a relation ends where a location that it names is written
abbrev pub without_location : ℕ → Option Relation → Option Relation
without_location l None = None
without_location l (Some r) = if names l r then None else Some r

-- ---- states

-- What is known between two words.
pub record Known : Type 0 where
  -- by location; one without an entry is undefined
  pub entry : ℕ → Option Entry
  pub y : Option Range
  -- whether the condition codes are defined
  pub icc : Bool
  pub relation : Option Relation

-- How a state keeps what it knows: entries stand in a list, by location.
pub record Table : Type 0 where
  pub entries : List (Option Entry)
  pub y : Option Range
  pub icc : Bool
  pub relation : Option Relation

-- what a table knows
unfoldable pub known : Table → Known
known s = record { entry = λ l. slice_index_or s.entries l None; y = s.y; icc = s.icc; relation = s.relation }

abbrev pub range_of_entry : Option Entry → Option Range
range_of_entry None = None
range_of_entry (Some e) = Some e.range

-- whether there is a range, and it holds no number
abbrev pub is_empty_range : Option Range → Bool
is_empty_range None = false
is_empty_range (Some r) = is_empty r

abbrev pub form_of_entry : Option Entry → Option Form
form_of_entry None = None
form_of_entry (Some e) = e.form

abbrev pub range_at : Known → ℕ → Option Range
range_at d l = range_of_entry (d.entry l)

abbrev pub form_at : Known → ℕ → Option Form
form_at d l = form_of_entry (d.entry l)

abbrev pub nothing_known : Known
nothing_known = record { entry = λ _. None; y = None; icc = false; relation = None }

-- ---- writes

-- A location is written: what was known of it is gone, and so is a relation that names it. What is no location stays.
unfoldable pub with_entry : ℕ → Option Entry → Known → Known
with_entry l e d = if is_location l then
    record d { entry = λ k. if k == l then e else d.entry k; relation = without_location l d.relation }
    else d

-- a range without a form
abbrev pub plain_entry : Range → Entry
plain_entry r = record { range = r; form = None }

abbrev pub plain_entry_of : Option Range → Option Entry
plain_entry_of None = None
plain_entry_of (Some r) = Some (plain_entry r)

-- a location's range set, or the location undefined: a write, which leaves no form
abbrev pub with_range : ℕ → Option Range → Known → Known
with_range l r d = with_entry l (plain_entry_of r) d

abbrev pub with_y : Option Range → Known → Known
with_y r d = record d { y = r }

-- the codes set from what is known of nothing, or undefined
abbrev pub with_icc : Bool → Known → Known
with_icc defined d = record d { icc = defined; relation = None }

-- ---- where a block starts

abbrev pub entry_of_cell : Cell → Entry
entry_of_cell c = record { range = c.range; form = Some (form_of_location c.location) }

-- the first of these cells at a location
unfoldable pub cell_entry : List Cell → ℕ → Option Entry
cell_entry [] l = None
cell_entry (c ∷ cs) l = if c.location == l then Some (entry_of_cell c) else cell_entry cs l

-- A block starts with its cells alone, and only here a location starts as itself.
unfoldable pub started : List Cell → Known
started cells =
    record { entry = λ l. if is_location l then cell_entry cells l else None; y = None; icc = false; relation = None }
